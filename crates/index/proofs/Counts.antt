-- A list of slots in which no code stands twice, by sums over its slots: which code has which number.
use Rattle.std.proofs.Common.{◌≡◌, ℕ, ◌+◌, ◌≤◌, Bool, cond, eqb, List, [], ◌∷◌, Some, None, sum_by, count_by, Option, refl, arith}
use Rattle.std.proofs.lemmas.List.Sums.{sum_by-cons}
use Rattle.std.proofs.lemmas.Bool.Decides.{nat_tests}
use Rattle.index.specs.declared.slot.Entry.{Entry}
use Rattle.index.specs.Slots.{holds, number_of}

-- a count of one element more
pub count_by-cons : {X : Type 0} (t : X → Bool) (x : X) (xs : List X) → count_by t (x ∷ xs) ≡ cond (t x) 1 0 + count_by t xs
count_by-cons t x xs = sum_by-cons (λ y. cond (t y) 1 0) x xs

module _ {K : Type 0} (code : K → ℕ) where
  -- the number in a slot that holds a code, else 0
  abbrev pub amount : ℕ → Option (Entry K) → ℕ
  amount c None = 0
  amount c (Some x) = cond (eqb c (code x.key)) x.number 0

  -- what a count of slots and the sum of their numbers say of a code
  abbrev pub only : ℕ → ℕ → Option ℕ
  only count total = cond (eqb count 0) None (Some total)

  -- where no slot holds a code, its numbers add up to 0
  pub amount_none : (c : ℕ) (xs : List (Option (Entry K))) → count_by (holds code c) xs ≡ 0 → sum_by (amount c) xs ≡ 0
  amount_none c [] h = refl
  amount_none c (None ∷ xs) h =
      grind (arith, nat_tests, sum_by-cons, count_by-cons, amount_none c xs)
  amount_none c (Some x ∷ xs) h =
      grind (arith, nat_tests, sum_by-cons (amount c) (Some x) xs, count_by-cons (holds code c) (Some x) xs, amount_none c xs)

  -- a code that at most one slot holds has the sum of the numbers there
  pub number_only : (c : ℕ) (xs : List (Option (Entry K))) → count_by (holds code c) xs ≤ 1 →
      number_of code xs c ≡ only (count_by (holds code c) xs) (sum_by (amount c) xs)
  number_only c [] h = refl
  number_only c (None ∷ xs) h =
      grind (arith, nat_tests, sum_by-cons, count_by-cons, number_only c xs)
  number_only c (Some x ∷ xs) h =
      grind (
        arith,
        nat_tests,
        sum_by-cons (amount c) (Some x) xs,
        count_by-cons (holds code c) (Some x) xs,
        number_only c xs,
        amount_none c xs,
      )
