-- A walk that brings a key to the front of a list: each key takes the place of the next.
use Rattle.std.proofs.Common.{◌≡◌, ℕ, ◌+◌, ◌≤◌, ◌<◌, true, false, cond, eqb, List, [], ◌∷◌, ◌++◌, length, get_or, set, take, drop}
use Rattle.std.proofs.Common.{sym, refl, ap, ◌∙◌, append_assoc, zero-add, add-one, arith}
use Rattle.std.proofs.lemmas.Bool.Decides.{nat_tests}
use Rattle.std.proofs.lemmas.List.{take_more_set, take_all, drop_all, drop_more, drop-set-lt, set_split, length-set, take_at}
use Rattle.base.specs.Lists.{member, place_in, without}
use Rattle.curve.specs.Recency.{to_front, found_at}

-- At place i the walk carries v: old is the list as it was, and now as it is. The key does not stand before i.
pub record Slid (far key i v : ℕ) (old now : List ℕ) : Type 0 where
  pub comes : take i now ++ (v ∷ without key (drop i old)) ≡ key ∷ without key old
  pub found : found_at far key old ≡ cond (member key (drop i old)) (i + place_in key (drop i old)) far
  pub ahead : drop i now ≡ drop i old
  pub long : length now ≡ length old

pub slid_none : (far key : ℕ) (old : List ℕ) → Slid far key 0 key old old
slid_none far key old = record { comes = refl; found = rw zero-add; ahead = refl; long = refl }

module _ (far key i v : ℕ) (old now : List ℕ) (s : Slid far key i v old now) where
  module _ (l : i < length now) where
    rest : drop (i + 1) now ≡ drop (i + 1) old
    rest = let a = drop_more now i 0 l in let b = drop_more old i 0 (omega (arith, s.long)) in let c = s.ahead in cc

    here : drop i old ≡ get_or now i 0 ∷ drop (i + 1) old
    here = sym s.ahead ∙ drop_more now i 0 l ∙ ap (λ zs. get_or now i 0 ∷ zs) rest

    -- another key goes one place on
    pub slid_more : eqb key (get_or now i 0) ≡ false → Slid far key (i + 1) (get_or now i 0) old (set now i v)
    slid_more n =
        let w : without key (drop i old) ≡ get_or now i 0 ∷ without key (drop (i + 1) old) = ap (without key) here ∙ rw n refl in
        record {
          comes = rw (take_more_set now i v l, append_assoc) (rw w at s.comes);
          found = s.found ∙ rw here (grind (arith, nat_tests));
          ahead = drop-set-lt (i + 1) now i v (omega arith) ∙ rest;
          long = length-set now i v ∙ s.long;
        }

    -- the key itself ends the walk
    pub slid_front : eqb key (get_or now i 0) ≡ true → length old ≤ far → set now i v ≡ to_front far key old
    slid_front e fits =
        let w : without key (drop i old) ≡ drop (i + 1) old = ap (without key) here ∙ rw e refl in
        let c = rw (w, ← rest, add-one) at s.comes in
        let front = set_split now i v l ∙ c in
        front ∙ sym (take_all far (key ∷ without key old) (omega (arith, ap length front, length-set now i v, s.long)))

    pub slid_found : eqb key (get_or now i 0) ≡ true → found_at far key old ≡ i
    slid_found e = s.found ∙ rw here (grind (arith, nat_tests))

  -- no place had the key
  module _ (l : length now ≤ i) where
    none : drop i old ≡ []
    none = drop_all i old (omega (arith, s.long))

    slid_all : now ++ (v ∷ []) ≡ key ∷ without key old
    slid_all = rw (none, take_all i now l) at s.comes

    -- what is carried goes
    pub slid_lacks : found_at far key old ≡ far
    slid_lacks = s.found ∙ rw none

    pub slid_full : length now ≡ far → now ≡ to_front far key old
    slid_full full = sym (ap (take far) (sym slid_all) ∙ take_at now (v ∷ []) far full)
