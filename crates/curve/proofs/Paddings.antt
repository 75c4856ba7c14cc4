-- A list of keys with zeros behind them, of which a touch brings a key to the front.
use Rattle.std.proofs.Common.{◌≡◌, ℕ, zero, suc, ◌+◌, ◌-◌, ◌≤◌, ◌<◌, min, true, false, eqb, List, [], ◌∷◌, ◌++◌, length, take, replicate}
use Rattle.std.proofs.Common.{sym, refl, ap, ◌∙◌, inl, inr, ⊎_elim, append-nil, arith}
use Rattle.std.proofs.Math.Seq.{take-append-add}
use Rattle.std.proofs.lemmas.Bool.Decides.{nat_tests}
use Rattle.std.proofs.lemmas.Bool.{cases_Bool, cases_lt, cond_both, cond-true}
use Rattle.std.proofs.lemmas.List.{take_all, take_at, length-take, length-take-le, take-replicate, length-append, length-replicate}
use Rattle.base.specs.Lists.{member, place_in, without}
use Rattle.policy.specs.Members.{place_within, without_misses}
use Rattle.base.specs.declared.limits.TheConstants.{MAX_FRAMES}
use Rattle.curve.specs.declared.recency.Recency.{Recency}
use Rattle.curve.specs.Recency.{to_front, found_at, keys_in, padded, Padded}
use Rattle.curve.proofs.Recents.{length_without}

module _ (x : ℕ) where
  -- a key of the first part of a list
  without_front : (ks zs : List ℕ) → member x ks ≡ true → without x (ks ++ zs) ≡ without x ks ++ zs
  without_front [] zs e = grind arith
  without_front (k ∷ ks) zs e = let ih = without_front ks zs in grind (arith, nat_tests)

  member_front : (ks zs : List ℕ) → member x ks ≡ true → member x (ks ++ zs) ≡ true
  member_front [] zs e = grind arith
  member_front (k ∷ ks) zs e = let ih = member_front ks zs in grind (arith, nat_tests)

  place_same : (ks zs : List ℕ) → member x ks ≡ true → place_in x (ks ++ zs) ≡ place_in x ks
  place_same [] zs e = grind arith
  place_same (k ∷ ks) zs e = let ih = place_same ks zs in grind (arith, nat_tests)

  -- another key
  place_behind : (ks zs : List ℕ) → member x ks ≡ false → length ks ≤ place_in x (ks ++ zs)
  place_behind [] zs e = omega arith
  place_behind (k ∷ ks) zs e = let ih = place_behind ks zs in grind (arith, nat_tests)

  without_behind : (ks zs : List ℕ) → member x ks ≡ false → without x (ks ++ zs) ≡ ks ++ without x zs
  without_behind [] zs e = refl
  without_behind (k ∷ ks) zs e = let ih = without_behind ks zs in grind (arith, nat_tests)

  -- zeros without one of them, or without another number
  no_zeros : (n : ℕ) → eqb x 0 ≡ false → member x (replicate n 0) ≡ false
  no_zeros zero e = refl
  no_zeros (suc n) e = let ih = no_zeros n e in grind (arith, nat_tests)

  fewer_zeros : (n : ℕ) → take n (without x (replicate (suc n) 0)) ≡ replicate n 0
  fewer_zeros n =
      ⊎_elim
      (λ e. rw e (take-replicate n n 0 (omega arith)))
      (λ e. rw (without_misses x (replicate (suc n) 0) (no_zeros (suc n) e)) (take-replicate n (suc n) 0 (omega arith)))
      (cases_Bool (eqb x 0))

-- What a touch of x leaves of keys with zeros behind them: the keys with x at the front, and zeros behind them.
pub record Fronted (far x : ℕ) (keys after : List ℕ) (len : ℕ) : Type 0 where
  pub codes : after ≡ padded far (to_front far x keys)
  pub counted : len ≡ length (to_front far x keys)

module _ (far x : ℕ) (keys : List ℕ) (fits : length keys ≤ far) where
  abbrev zeros : ℕ → List ℕ
  zeros n = replicate n 0

  module _ (e : member x keys ≡ true) where
    many : length (x ∷ without x keys) ≡ length keys
    many = length_without x keys e

    alone : to_front far x keys ≡ x ∷ without x keys
    alone = take_all far (x ∷ without x keys) (omega (arith, many))

    pub held_place : found_at far x (padded far keys) ≡ found_at far x keys
    held_place = rw (member_front x keys (zeros (far - length keys)) e, e) (place_same x keys (zeros (far - length keys)) e)

    all : length (x ∷ (without x keys ++ zeros (far - length keys))) ≡ far
    all = length-append (x ∷ without x keys) (zeros (far - length keys)) ∙ rw (length-replicate, many) (omega arith)

    pub held_fronted : Fronted far x keys (to_front far x (padded far keys)) (length keys)
    held_fronted = record {
      codes = ap (λ w. take far (x ∷ w)) (without_front x keys (zeros (far - length keys)) e) ∙
          take_all far (x ∷ (without x keys ++ zeros (far - length keys))) (omega (arith, all)) ∙
          sym (ap (padded far) alone ∙ ap (λ n. (x ∷ without x keys) ++ zeros (far - n)) many);
      counted = sym (ap length alone ∙ many);
    }

  module _ (e : member x keys ≡ false) where
    pub new_place : length keys ≤ found_at far x (padded far keys)
    new_place =
        let behind = place_behind x keys (zeros (far - length keys)) e in
        cond_both (member x (padded far keys)) (place_in x (padded far keys)) far (λ n. length keys ≤ n) (λ _. behind) (λ _. fits)

    alone_new : to_front far x keys ≡ take far (x ∷ keys)
    alone_new = ap (λ w. take far (x ∷ w)) (without_misses x keys e)

    after_new : to_front far x (padded far keys) ≡ take far (x ∷ (keys ++ without x (zeros (far - length keys))))
    after_new = ap (λ w. take far (x ∷ w)) (without_behind x keys (zeros (far - length keys)) e)

    -- there is room for x, and one zero fewer
    new_room : length keys < far → Fronted far x keys (to_front far x (padded far keys)) (min far (length keys + 1))
    new_room l =
        let m = far - (length keys + 1) in
        let room : far - length keys ≡ suc m = omega arith in
        let whole : far ≡ length (x ∷ keys) + m = omega arith in
        let alone : to_front far x keys ≡ x ∷ keys = alone_new ∙ take_all far (x ∷ keys) (omega arith) in
        let left : far - length (x ∷ keys) ≡ m = omega arith in
        record {
          codes = after_new ∙ ap (λ n. take far (x ∷ (keys ++ without x (zeros n)))) room ∙
              ap (λ n. take n (x ∷ (keys ++ without x (zeros (suc m))))) whole ∙
              take-append-add (x ∷ keys) (without x (zeros (suc m))) m ∙
              ap (λ w. (x ∷ keys) ++ w) (fewer_zeros x m) ∙
              sym (ap (padded far) alone ∙ ap (λ n. (x ∷ keys) ++ zeros n) left);
          counted = rw alone (omega arith);
        }

    -- there is none, and the last key goes
    new_full : far ≤ length keys → Fronted far x keys (to_front far x (padded far keys)) (min far (length keys + 1))
    new_full l =
        let none : far - length keys ≡ 0 = omega arith in
        let front = take far (x ∷ keys) in
        let many : length front ≡ far = length-take-le far (x ∷ keys) (omega arith) in
        let left : far - length front ≡ 0 = omega (arith, many) in
        record {
          codes = after_new ∙ ap (λ n. take far (x ∷ (keys ++ without x (zeros n)))) none ∙ ap (λ w. take far (x ∷ w)) (append-nil keys) ∙
              sym (ap (padded far) alone_new ∙ ap (λ n. front ++ zeros n) left ∙ append-nil front);
          counted = rw alone_new (omega (arith, many));
        }

    pub new_fronted : Fronted far x keys (to_front far x (padded far keys)) (min far (length keys + 1))
    new_fronted = ⊎_elim new_room new_full (cases_lt (length keys) far)

  -- a key is held exactly where it is found among the keys
  pub held_if : found_at far x (padded far keys) < length keys → member x keys ≡ true
  held_if l = elim (cases_Bool (member x keys)) [ inl e ↦ e | inr e ↦ absurd (omega (arith, l, new_place e)) ]

  pub new_if : length keys ≤ found_at far x (padded far keys) → member x keys ≡ false
  new_if l = elim (cases_Bool (member x keys)) [
    | inl e ↦
        let here : found_at far x keys ≡ place_in x keys = cond-true (member x keys) (place_in x keys) far e in
        absurd (omega (arith, l, held_place e, here, place_within x keys e))
    | inr e ↦ e
  ]

-- a list that has keys and zeros behind them has these keys
pub padded_is : (r : Recency) (keys : List ℕ) → r.codes ≡ padded MAX_FRAMES keys → r.len ≡ length keys → length keys ≤ MAX_FRAMES →
    (keys_in r ≡ keys) × Padded r
padded_is r keys e n fits =
    let same : keys_in r ≡ keys =
    ap (λ k. take k r.codes) n ∙ ap (take (length keys)) e ∙ take_at keys (replicate (MAX_FRAMES - length keys) 0) (length keys) refl in
    (same, record { codes = e ∙ ap (padded MAX_FRAMES) (sym same); len = n ∙ ap length (sym same); fits = rw same fits })

-- at most the most keys are in front
pub front_most : (far x : ℕ) (keys : List ℕ) → length (to_front far x keys) ≤ far
front_most far x keys = omega (arith, length-take far (x ∷ without x keys))

-- What a touch of x answers, and what it leaves of a list with these keys.
pub record Touched (x : ℕ) (keys : List ℕ) (answer : ℕ) (r : Recency) : Type 0 where
  pub found : answer ≡ found_at MAX_FRAMES x keys
  pub fronted : keys_in r ≡ to_front MAX_FRAMES x keys
  pub behind : Padded r

-- The walk of a touch of x has answered its place and left its codes, over a list with keys and zeros behind them.
module _ (x : ℕ) (r : Recency) (s : Padded r) (place : ℕ) (after : List ℕ)
    (ep : place ≡ found_at MAX_FRAMES x r.codes) (ea : after ≡ to_front MAX_FRAMES x r.codes) where
  abbrev held : List ℕ
  held = keys_in r

  at : place ≡ found_at MAX_FRAMES x (padded MAX_FRAMES held)
  at = ep ∙ ap (found_at MAX_FRAMES x) s.codes

  -- where so many keys are there afterwards, x is in front of them
  touched : (answer len : ℕ) → answer ≡ found_at MAX_FRAMES x held →
      Fronted MAX_FRAMES x held (to_front MAX_FRAMES x (padded MAX_FRAMES held)) len →
      Touched x held answer (record { codes = after; len = len })
  touched answer len found f =
      let is = padded_is (record { codes = after; len = len }) (to_front MAX_FRAMES x held)
      (ea ∙ ap (to_front MAX_FRAMES x) s.codes ∙ f.codes) f.counted (front_most MAX_FRAMES x held) in
      record { found = found; fronted = is.0; behind = is.1 }

  -- a key that is held leaves as many
  pub touched_held : place < r.len → Touched x held place (record { codes = after; len = r.len })
  touched_held l =
      let e = held_if MAX_FRAMES x held s.fits (omega (arith, at, s.len, l)) in
      let f = held_fronted MAX_FRAMES x held s.fits e in
      touched place r.len (at ∙ held_place MAX_FRAMES x held s.fits e) (record { codes = f.codes; counted = s.len ∙ f.counted })

  -- a new one is one more, up to the most
  pub touched_new : (len : ℕ) → len ≡ min MAX_FRAMES (r.len + 1) → r.len ≤ place →
      Touched x held MAX_FRAMES (record { codes = after; len = len })
  touched_new len more l =
      let e = new_if MAX_FRAMES x held s.fits (omega (arith, at, s.len, l)) in
      let f = new_fronted MAX_FRAMES x held s.fits e in
      let counted = more ∙ ap (λ n. min MAX_FRAMES (n + 1)) s.len ∙ f.counted in
      touched MAX_FRAMES len (rw e refl) (record { codes = f.codes; counted = counted })
