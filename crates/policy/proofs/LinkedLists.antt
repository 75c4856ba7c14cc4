-- A linked list of frames, when a frame is taken out of it or put last. Assumes nothing.
use Rattle.std.proofs.Common.{◌≡◌, ℕ, zero, suc, ◌+◌, ◌-◌, ◌<◌, ◌≤◌, ◌≢◌, true, false, List, [], ◌∷◌, ◌++◌, length, replicate}
use Rattle.std.proofs.Common.{slice_index, refl, sym, ap, ◌∙◌, length-set, get_or-set_same, get_or-set_other, arith}
use Rattle.std.proofs.lemmas.List.{length-append, length_push}
use Rattle.std.proofs.lemmas.Bool.{ne_eqb}
use Rattle.std.proofs.lemmas.Bool.Decides.{nat_tests}
use Rattle.base.specs.Lists.{member, distinct, Apart, without}
use Rattle.policy.specs.LinkedList.{Ring, Leads, following, linked, connected, unlinked, appended}
use Rattle.policy.specs.Links.{ring}
use Rattle.policy.specs.FrameList.{frames_in}
use Rattle.policy.specs.declared.lru.list.FrameList.{FrameList}
use Rattle.policy.specs.Members.{member_at, apart_push, apart_without, apart_distinct, distinct_apart, without_splits}

-- links to the sentinel alone
pub alone_leads : (n : ℕ) → Leads (replicate n 64)
alone_leads zero i = omega arith
alone_leads (suc n) zero = omega arith
alone_leads (suc n) (suc i) = alone_leads n i

pub following_many : (r : Ring) (p n : ℕ) → length (following r p n) ≡ n
following_many r p zero = refl
following_many r p (suc n) = ap suc (following_many r (slice_index r.next p) n)

-- q is the one after p, and p the one before q
abbrev Neighbours : Ring → ℕ → ℕ → Type 0
Neighbours r p q = (slice_index r.next p ≡ q) × (slice_index r.previous q ≡ p)

-- each two that come one after the other are neighbours
abbrev Linked : Ring → ℕ → List ℕ → ℕ → Type 0
Linked r p [] q = Neighbours r p q
Linked r p (x ∷ xs) q = Neighbours r p x × Linked r x xs q

-- the sentinel and the frames xs are linked to a ring, and all different
record Keeps (r : Ring) (xs : List ℕ) : Type 0 where
  pub links : Linked r 64 xs 64
  pub apart : Apart (64 ∷ xs)

-- the same as the code's list says it: its n frames are xs
pub record Lists (r : Ring) (n : ℕ) (xs : List ℕ) : Type 0 where
  pub closed : linked r 64 (following r 64 n) 64 ≡ true
  pub once : distinct (64 ∷ following r 64 n) ≡ n + 1
  pub are : following r 64 n ≡ xs

listed : (l : FrameList) → Lists (ring l.links) l.len (frames_in l)
listed l = record { closed = l.closed; once = l.once; are = refl }

-- what the code's links say of their ring
record Sized (r : Ring) : Type 0 where
  pub next_long : length r.next ≡ 65
  pub previous_long : length r.previous ≡ 65
  pub onward : Leads r.next
  pub backward : Leads r.previous

module _ (r : Ring) where
  from_test : (p : ℕ) (xs : List ℕ) (q : ℕ) → linked r p xs q ≡ true → Linked r p xs q
  from_test p [] q h = (grind (arith, nat_tests), grind (arith, nat_tests))
  from_test p (x ∷ xs) q h = ((grind (arith, nat_tests), grind (arith, nat_tests)), from_test x xs q (grind (arith, nat_tests)))

  to_test : (p : ℕ) (xs : List ℕ) (q : ℕ) → Linked r p xs q → linked r p xs q ≡ true
  to_test p [] q h = grind (arith, nat_tests)
  to_test p (x ∷ xs) q h = let ih = to_test x xs q h.1 in grind (arith, nat_tests)

  -- what comes after p is what is linked to it
  following_linked : (p : ℕ) (xs : List ℕ) (q : ℕ) → Linked r p xs q → following r p (length xs) ≡ xs
  following_linked p [] q h = refl
  following_linked p (x ∷ xs) q h = rw h.0.0 (ap (λ ys. x ∷ ys) (following_linked x xs q h.1))

  module _ (n : ℕ) (xs : List ℕ) where
    lists_many : Lists r n xs → n ≡ length xs
    lists_many h = sym (following_many r 64 n) ∙ ap length h.are

    lists_keeps : Lists r n xs → Keeps r xs
    lists_keeps h = record {
      links = rw h.are at (from_test 64 (following r 64 n) 64 h.closed);
      apart = rw h.are at (distinct_apart (64 ∷ following r 64 n) (h.once ∙ omega (arith, following_many r 64 n)));
    }

    keeps_lists : Keeps r xs → n ≡ length xs → Lists r n xs
    keeps_lists h many =
        let same : following r 64 n ≡ xs = ap (following r 64) many ∙ following_linked 64 xs 64 h.links in
        record {
          closed = rw same (to_test 64 xs 64 h.links);
          once = ap (λ ys. distinct (64 ∷ ys)) same ∙ apart_distinct (64 ∷ xs) h.apart ∙ omega arith;
          are = same;
        }

  -- a step back and a step on lead to where they began, and so do a step on and a step back
  last_again : (p : ℕ) (xs : List ℕ) (q : ℕ) → Linked r p xs q → slice_index r.next (slice_index r.previous q) ≡ q
  last_again p [] q h = rw h.1 h.0
  last_again p (x ∷ xs) q h = last_again x xs q h.1

  again : (p : ℕ) (a : List ℕ) (x : ℕ) (b : List ℕ) (q : ℕ) → Linked r p (a ++ (x ∷ b)) q →
      (slice_index r.next (slice_index r.previous x) ≡ x) × (slice_index r.previous (slice_index r.next x) ≡ x)
  again p [] x [] q h = (rw h.0.1 h.0.0, rw h.1.0 h.1.1)
  again p [] x (y ∷ b) q h = (rw h.0.1 h.0.0, rw h.1.0.0 h.1.0.1)
  again p (z ∷ a) x b q h = again z a x b q h.1

  -- two others made neighbours
  kept : (i j p : ℕ) (xs : List ℕ) (q : ℕ) → member i (p ∷ xs) ≡ false → member j (q ∷ xs) ≡ false →
      Linked r p xs q → Linked (connected r i j) p xs q
  kept i j p [] q m n h =
      let d : p ≢ i = λ e. grind (arith, nat_tests) in
      let c : q ≢ j = λ e. grind (arith, nat_tests) in
      (get_or-set_other r.next i p j 0 d ∙ h.0, get_or-set_other r.previous j q i 0 c ∙ h.1)
  kept i j p (x ∷ xs) q m n h =
      let d : p ≢ i = λ e. grind (arith, nat_tests) in
      let c : x ≢ j = λ e. grind (arith, nat_tests) in (
        (get_or-set_other r.next i p j 0 d ∙ h.0.0, get_or-set_other r.previous j x i 0 c ∙ h.0.1),
        kept i j x xs q (grind (arith, nat_tests)) (grind (arith, nat_tests)) h.1,
      )

module _ (r : Ring) (s : Sized r) (x : ℕ) (frame : x < 64) where
  -- x taken out
  unlinked_from : (p : ℕ) (a b : List ℕ) (q : ℕ) → Linked r p (a ++ (x ∷ b)) q → Apart (p ∷ (a ++ (x ∷ b))) →
      member q (a ++ (x ∷ b)) ≡ false → Linked (unlinked r x) p (a ++ b) q
  unlinked_from p [] [] q h o m =
      rw (h.0.1, h.1.0) (
        get_or-set_same r.next p q 0 (omega (arith, s.next_long, s.backward x)),
        get_or-set_same r.previous q p 0 (omega (arith, s.previous_long, s.onward x)),
      )
  unlinked_from p [] (y ∷ b) q h o m =
      let u = slice_index r.previous x in let v = slice_index r.next x in
      let d : member u (y ∷ b) ≡ false = grind (arith, nat_tests) in
      let c : member v (q ∷ b) ≡ false = let e = o.1.1.0 in grind (arith, nat_tests) in (
        (
          rw h.0.1 (get_or-set_same r.next p v 0 (omega (arith, s.next_long, s.backward x))) ∙ h.1.0.0,
          rw h.1.0.0 (get_or-set_same r.previous y u 0 (omega (arith, s.previous_long, s.onward x))) ∙ h.0.1,
        ),
        kept r u v y b q d c h.1.1,
      )
  unlinked_from p (z ∷ a) b q h o m =
      let u = slice_index r.previous x in let v = slice_index r.next x in
      let same = again r z a x b q h.1 in
      let has = member_at x a b in
      let d : p ≢ u = λ e. let t : z ≡ x = cc in grind (arith, nat_tests) in
      let c : z ≢ v = λ e. let t : p ≡ x = cc in grind (arith, nat_tests) in (
        (get_or-set_other r.next u p v 0 d ∙ h.0.0, get_or-set_other r.previous v z u 0 c ∙ h.0.1),
        unlinked_from z a b q h.1 o.1 (grind (arith, nat_tests)),
      )

  -- x put last, before q
  abbrev put_last : ℕ → Ring
  put_last q = connected (connected r (slice_index r.previous q) x) x q

  appended_from : (p : ℕ) (xs : List ℕ) (q : ℕ) → q ≤ 64 → Linked r p xs q → member q (x ∷ xs) ≡ false →
      member x (p ∷ xs) ≡ false → Linked (put_last q) p (xs ++ (x ∷ [])) q
  appended_from p [] q low h m n =
      let u = slice_index r.previous q in
      let one = connected r u x in
      let d : p ≢ x = λ e. grind (arith, nat_tests) in
      let c : x ≢ q = λ e. grind (arith, nat_tests) in (
        (
          get_or-set_other one.next x p q 0 d ∙ rw h.1 (get_or-set_same r.next p x 0 (omega (arith, s.next_long, s.backward q))),
          get_or-set_other one.previous q x x 0 c ∙ get_or-set_same r.previous x u 0 (omega (arith, s.previous_long)) ∙ h.1,
        ),
        (
          get_or-set_same one.next x q 0 (simp length-set (omega (arith, s.next_long))),
          get_or-set_same one.previous q x 0 (simp length-set (omega (arith, s.previous_long))),
        ),
      )
  appended_from p (z ∷ xs) q low h m n =
      let u = slice_index r.previous q in
      let one = connected r u x in
      let same = last_again r z xs q h.1 in
      let d : p ≢ x = λ e. grind (arith, nat_tests) in
      let d' : p ≢ u = λ e. let t : z ≡ q = cc in grind (arith, nat_tests) in
      let c : z ≢ q = λ e. grind (arith, nat_tests) in
      let c' : z ≢ x = λ e. grind (arith, nat_tests) in (
        (
          get_or-set_other one.next x p q 0 d ∙ get_or-set_other r.next u p x 0 d' ∙ h.0.0,
          get_or-set_other one.previous q z x 0 c ∙ get_or-set_other r.previous x z u 0 c' ∙ h.0.1,
        ),
        appended_from z xs q low h.1 (grind (arith, nat_tests)) (grind (arith, nat_tests)),
      )

  module _ (n : ℕ) (xs : List ℕ) (h : Lists r n xs) where
    keeps : Keeps r xs
    keeps = lists_keeps r n xs h

    -- the list after a frame is taken out of it
    out_of : member x xs ≡ true → Lists (unlinked r x) (n - 1) (without x xs)
    out_of has =
        let (a, b, is, rest) = without_splits x xs has in
        let whole = ap length is ∙ length-append a (x ∷ b) in
        let left = ap length rest ∙ length-append a b in
        keeps_lists (unlinked r x) (n - 1) (without x xs) (record {
          links = rw rest (unlinked_from 64 a b 64 (rw is at keeps.links) (rw is at keeps.apart) (rw is at keeps.apart.0));
          apart = rw (ne_eqb x 64 (λ e. omega arith)) at (apart_without x (64 ∷ xs) keeps.apart);
        }) (omega (arith, whole, left, lists_many r n xs h))

    -- the list after a new frame is put last
    at_end : member x xs ≡ false → Lists (appended r x) (n + 1) (xs ++ (x ∷ []))
    at_end new =
        let apart = keeps.apart in
        let out : member x (64 ∷ xs) ≡ false = grind (arith, nat_tests) in
        keeps_lists (appended r x) (n + 1) (xs ++ (x ∷ [])) (record {
          links = appended_from 64 xs 64 (omega arith) keeps.links (grind (arith, nat_tests)) out;
          apart = apart_push (64 ∷ xs) x apart out;
        }) (omega (arith, length_push xs x, lists_many r n xs h))

-- the code's list, after its links have changed
module _ (l : FrameList) (long : length l.links.next ≡ 65) (wide : length l.links.previous ≡ 65)
    (f : ℕ) (low : f < 64) (after : Ring) where
  sized : Sized (ring l.links)
  sized = record { next_long = long; previous_long = wide; onward = l.links.onward; backward = l.links.backward }

  pub removed : after ≡ unlinked (ring l.links) f → member f (frames_in l) ≡ true → Lists after (l.len - 1) (without f (frames_in l))
  removed e has = rw e (out_of (ring l.links) sized f low l.len (frames_in l) (listed l) has)

  pub pushed : after ≡ appended (ring l.links) f → member f (frames_in l) ≡ false → Lists after (l.len + 1) (frames_in l ++ (f ∷ []))
  pushed e new = rw e (at_end (ring l.links) sized f low l.len (frames_in l) (listed l) new)

-- its frames are all different
pub list_apart : (l : FrameList) → Apart (frames_in l)
list_apart l = (lists_keeps (ring l.links) l.len (frames_in l) (listed l)).apart.1
