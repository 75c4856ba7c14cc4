-- Which keys stand in a list, and how many. Assumes nothing.
use Rattle.std.proofs.Common.{◌≡◌, ℕ, suc, ◌≤◌, true, false, List, [], ◌∷◌, ◌++◌, length, arith}
use Rattle.std.proofs.lemmas.Bool.Decides.{nat_tests}
use Rattle.base.specs.Lists.{member, distinct, without}

-- each key of xs stands in ys
abbrev pub Subset : List ℕ → List ℕ → Type 0
Subset xs ys = (z : ℕ) → member z xs ≡ true → member z ys ≡ true

-- a subset of ys stays one with one more key of ys at its end
pub subset_push : (xs : List ℕ) (x : ℕ) (ys : List ℕ) → Subset xs ys → member x ys ≡ true → Subset (xs ++ (x ∷ [])) ys
subset_push [] x ys part here z e = grind (arith, nat_tests)
subset_push (w ∷ xs) x ys part here z e =
    let rest = subset_push xs x ys (λ v f. grind (arith, part v)) here z in
    grind (arith, nat_tests, part z, rest)

-- one place fewer where y stood
pub length_without : (y : ℕ) (xs : List ℕ) → member y xs ≡ true → length xs ≡ suc (length (without y xs))
length_without y [] e = grind arith
length_without y (x ∷ xs) e = grind (arith, length_without y xs)

-- no key is new
pub subset_without : (y : ℕ) (xs : List ℕ) → Subset (without y xs) xs
subset_without y [] z e = grind arith
subset_without y (x ∷ xs) z e = grind (arith, subset_without y xs z)

-- a key other than y is still there
without_other : (z y : ℕ) (xs : List ℕ) → (z ≡ y → ⊥) → member z xs ≡ true → member z (without y xs) ≡ true
without_other z y [] ne e = grind arith
without_other z y (x ∷ xs) ne e = grind (arith, nat_tests, without_other z y xs ne)

-- no more different keys in xs than places in ys
pub distinct_within : (xs ys : List ℕ) → Subset xs ys → distinct xs ≤ length ys
distinct_within [] ys part = omega arith
distinct_within (x ∷ xs) ys part =
    let here : member x ys ≡ true = grind (arith, nat_tests, part x) in
    let tail : Subset xs ys = λ z e. grind (arith, part z) in
    let fresh : member x xs ≡ false → distinct xs ≤ length (without x ys) =
    λ none. distinct_within xs (without x ys) (λ z e. without_other z x ys (λ same. grind arith) (tail z e)) in
    grind (arith, fresh, distinct_within xs ys tail, length_without x ys here)
