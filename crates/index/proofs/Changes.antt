-- What freeing and taking a slot does to the map that a list of slots holds.
use Rattle.std.proofs.Common.{◌≡◌, ℕ, ◌+◌, ◌<◌, ◌≤◌, cond, eqb, List, length, get_or, set, Option, is_some, Some, None, sum_by, count_by}
use Rattle.std.proofs.Common.{true, sym, refl, ap, ◌∙◌, inl, inr, arith}
use Rattle.std.specs.Map.{update}
use Rattle.std.proofs.lemmas.List.{get_or_past, get_or_default}
use Rattle.std.proofs.lemmas.List.Sums.{sum_by-set}
use Rattle.std.proofs.lemmas.Option.{none-some}
use Rattle.std.proofs.lemmas.Bool.{cases_eq, cases_lt, eqb-true, true≢false}
use Rattle.std.proofs.lemmas.Map.{update_here, update_apart}
use Rattle.std.proofs.lemmas.Bool.Decides.{nat_tests}
use Rattle.index.specs.declared.slot.Entry.{Entry}
use Rattle.index.specs.Slots.{holds, number_of}
use Rattle.index.proofs.Counts.{amount, amount_none, number_only}

-- what stands in a taken slot, and in one that holds a key
pub some_entry : {X : Type 0} (s : Option X) → is_some s ≡ true → (x : X) × (s ≡ Some x)
some_entry None taken = absurd (true≢false (sym taken))
some_entry (Some x) taken = (x, refl)

taken_from_holds : {K : Type 0} (code : K → ℕ) (c : ℕ) (s : Option (Entry K)) → holds code c s ≡ true → is_some s ≡ true
taken_from_holds code c None h = h
taken_from_holds code c (Some x) h = refl

pub held_entry : {K : Type 0} (code : K → ℕ) → ((a b : K) → code a ≡ code b → a ≡ b) → (k : K) (s : Option (Entry K)) →
    holds code (code k) s ≡ true →
    (n : ℕ) × (s ≡ Some (record { key = k; number = n }))
held_entry code faithful k None h = absurd (true≢false (sym h))
held_entry code faithful k (Some x) h =
    (x.number, ap (λ j. Some (record { key = j; number = x.number })) (sym (faithful k x.key (eqb-true (code k) (code x.key) h))))

-- a taken slot is one of the list's
pub within_from_taken : {X : Type 0} (xs : List (Option X)) (p : ℕ) (x : X) → get_or xs p None ≡ Some x → p < length xs
within_from_taken xs p x there =
    elim (cases_lt p (length xs)) [
      | inl less ↦ less
      | inr past ↦ absurd (none-some x (sym (get_or_past xs p None past) ∙ there))
    ]

pub within_from_some : {X : Type 0} (xs : List (Option X)) (p : ℕ) → is_some (get_or xs p None) ≡ true → p < length xs
within_from_some xs p taken = let q = some_entry (get_or xs p None) taken in within_from_taken xs p q.0 q.1

pub within_from_holds : {K : Type 0} (code : K → ℕ) (xs : List (Option (Entry K))) (p c : ℕ) → holds code c (get_or xs p None) ≡ true →
    p < length xs
within_from_holds code xs p c h = within_from_some xs p (taken_from_holds code c (get_or xs p None) h)

-- what was read at p, at any default, stands there at the default None
pub read_is : {X : Type 0} (xs : List (Option X)) (p : ℕ) (d v : Option X) → p < length xs → get_or xs p d ≡ v → get_or xs p None ≡ v
read_is xs p d v within is = get_or_default xs p None d within ∙ is

-- ys has the slots of xs, but for the one at p, which held x
module _ {K : Type 0} (code : K → ℕ) (xs ys : List (Option (Entry K))) (p : ℕ) (x : Entry K)
    (there : get_or xs p None ≡ Some x) (different : (c : ℕ) → count_by (holds code c) xs ≤ 1)
    (same : (f : Option (Entry K) → ℕ) → sum_by f ys ≡ sum_by f (set xs p None)) where
  freed : (f : Option (Entry K) → ℕ) → sum_by f ys + f (Some x) ≡ sum_by f xs + f None
  freed f = rw (same f, ← there) (sum_by-set f xs p None None (within_from_taken xs p x there))

  pub freed_size : count_by is_some ys + 1 ≡ count_by is_some xs
  freed_size = omega (arith, freed (λ s. cond (is_some s) 1 0))

  pub freed_different : (c : ℕ) → count_by (holds code c) ys ≤ 1
  freed_different c = let e = freed (λ s. cond (holds code c s) 1 0) in let d = different c in omega arith

  freed_absent : count_by (holds code (code x.key)) ys ≡ 0
  freed_absent =
      let e = freed (λ s. cond (holds code (code x.key) s) 1 0) in let d = different (code x.key) in grind (arith, nat_tests)

  pub freed_present : number_of code xs (code x.key) ≡ Some x.number
  freed_present =
      let e = freed (λ s. cond (holds code (code x.key) s) 1 0) in
      let a = freed (amount code (code x.key)) in
      let z = amount_none code (code x.key) ys freed_absent in
      rw (number_only code (code x.key) xs (different (code x.key))) (grind (arith, nat_tests))

  pub freed_at : (c : ℕ) → number_of code ys c ≡ update eqb (number_of code xs) (code x.key) None c
  freed_at c =
      let e = freed (λ s. cond (holds code c s) 1 0) in
      let a = freed (amount code c) in
      let d = different c in
      rw (number_only code c xs d, number_only code c ys (freed_different c)) (grind (arith, nat_tests))

-- the entry x gets another number
module _ {K : Type 0} (code : K → ℕ) (xs : List (Option (Entry K))) (p : ℕ) (x : Entry K) (n : ℕ)
    (there : get_or xs p None ≡ Some x) (different : (c : ℕ) → count_by (holds code c) xs ≤ 1) where
  abbrev pub renumbered : List (Option (Entry K))
  renumbered = set xs p (Some (record { key = x.key; number = n }))

  changed : (f : Option (Entry K) → ℕ) → sum_by f renumbered + f (Some x) ≡ sum_by f xs + f (Some (record { key = x.key; number = n }))
  changed f = rw (← there) (sum_by-set f xs p (Some (record { key = x.key; number = n })) None (within_from_taken xs p x there))

  pub renumbered_size : count_by is_some renumbered ≡ count_by is_some xs
  renumbered_size = omega (arith, changed (λ s. cond (is_some s) 1 0))

  pub renumbered_different : (c : ℕ) → count_by (holds code c) renumbered ≤ 1
  renumbered_different c = let e = changed (λ s. cond (holds code c s) 1 0) in let d = different c in omega arith

  renumbered_here : number_of code renumbered (code x.key) ≡ Some n
  renumbered_here =
      let e = changed (λ s. cond (holds code (code x.key) s) 1 0) in
      let a = changed (amount code (code x.key)) in
      let known = freed_present code xs (set xs p None) p x there different (λ f. refl) in
      let only = number_only code (code x.key) xs (different (code x.key)) in
      rw (number_only code (code x.key) renumbered (renumbered_different (code x.key))) (grind (arith, nat_tests))

  renumbered_apart : (c : ℕ) → (c ≡ code x.key → ⊥) → number_of code renumbered c ≡ number_of code xs c
  renumbered_apart c apart =
      let e = changed (λ s. cond (holds code c s) 1 0) in
      let a = changed (amount code c) in
      rw (number_only code c xs (different c), number_only code c renumbered (renumbered_different c)) (grind (arith, nat_tests))

  pub renumbered_at : (c : ℕ) → number_of code renumbered c ≡ update eqb (number_of code xs) (code x.key) (Some n) c
  renumbered_at c = elim (cases_eq c (code x.key)) [
    | inl same ↦ rw (same, update_here (number_of code xs) (code x.key) (Some n)) renumbered_here
    | inr other ↦ rw (update_apart (number_of code xs) (code x.key) (Some n) c other) (renumbered_apart c other)
  ]

-- a free slot of xs is taken by x, whose key stands in no other
module _ {K : Type 0} (code : K → ℕ) (xs : List (Option (Entry K))) (p : ℕ) (x : Entry K)
    (within : p < length xs) (free : get_or xs p None ≡ None) (different : (c : ℕ) → count_by (holds code c) xs ≤ 1)
    (absent : count_by (holds code (code x.key)) xs ≡ 0) where
  filled : (f : Option (Entry K) → ℕ) → sum_by f (set xs p (Some x)) + f None ≡ sum_by f xs + f (Some x)
  filled f = rw (ap f (sym free)) (sum_by-set f xs p (Some x) None within)

  pub filled_size : count_by is_some (set xs p (Some x)) ≡ count_by is_some xs + 1
  filled_size = omega (arith, filled (λ s. cond (is_some s) 1 0))

  pub filled_different : (c : ℕ) → count_by (holds code c) (set xs p (Some x)) ≤ 1
  filled_different c = let e = filled (λ s. cond (holds code c s) 1 0) in let d = different c in grind (arith, nat_tests)

  pub filled_at : (c : ℕ) → number_of code (set xs p (Some x)) c ≡ update eqb (number_of code xs) (code x.key) (Some x.number) c
  filled_at c =
      let e = filled (λ s. cond (holds code c s) 1 0) in
      let a = filled (amount code c) in
      let z = amount_none code (code x.key) xs absent in
      let d = different c in
      rw (number_only code c xs d, number_only code c (set xs p (Some x)) (filled_different c)) (grind (arith, nat_tests))
