-- How many keys of a list stand in another. Assumes nothing.
use Rattle.std.proofs.Common.{◌≡◌, ℕ, zero, suc, ◌+◌, ◌<◌, ◌≤◌, true, false, cond, List, [], ◌∷◌, ◌++◌, length, get_or, set, refl, arith}
use Rattle.std.specs.List.{AllByRecursion as All}
use Rattle.std.proofs.lemmas.Bool.Decides.{nat_tests}
use Rattle.base.specs.Lists.{member, without}

-- 1 where x stands in ys
abbrev pub one : ℕ → List ℕ → ℕ
one x ys = cond (member x ys) 1 0

-- how many elements of xs stand in ys
abbrev pub within : List ℕ → List ℕ → ℕ
within [] ys = 0
within (x ∷ xs) ys = one x ys + within xs ys

-- no key stands twice
abbrev pub Different : List ℕ → Type 0
Different xs = (x : ℕ) → within xs (x ∷ []) ≤ 1

-- at most all of them do
pub within_le : (xs ys : List ℕ) → within xs ys ≤ length xs
within_le [] ys = omega arith
within_le (x ∷ xs) ys = grind (arith, within_le xs ys)

pub within_all : (xs ys : List ℕ) → All (λ x. member x ys ≡ true) xs → within xs ys ≡ length xs
within_all [] ys h = refl
within_all (x ∷ xs) ys h = grind (arith, within_all xs ys h.1, h.0)

-- a list with a key added, replaced or removed
pub within_push : (xs : List ℕ) (x : ℕ) (ys : List ℕ) → within (xs ++ (x ∷ [])) ys ≡ within xs ys + one x ys
within_push [] x ys = omega arith
within_push (y ∷ xs) x ys = omega (arith, within_push xs x ys)

pub within_set : (xs : List ℕ) (f x : ℕ) (ys : List ℕ) → f < length xs →
    within (set xs f x) ys + one (get_or xs f 0) ys ≡ within xs ys + one x ys
within_set [] f x ys l = absurd (omega arith)
within_set (y ∷ xs) zero x ys l = omega arith
within_set (y ∷ xs) (suc f) x ys l = omega (arith, within_set xs f x ys (omega arith))

pub within_without : (y : ℕ) (xs ys : List ℕ) → member y xs ≡ true → within (without y xs) ys + one y ys ≡ within xs ys
within_without y [] ys h = grind arith
within_without y (x ∷ xs) ys h = grind (arith, nat_tests, within_without y xs ys)

-- how often x itself stands in xs
pub within_has : (xs : List ℕ) (x : ℕ) → member x xs ≡ true → 1 ≤ within xs (x ∷ [])
within_has [] x h = grind arith
within_has (y ∷ xs) x h = grind (arith, nat_tests, within_has xs x)

pub within_lacks : (xs : List ℕ) (x : ℕ) → member x xs ≡ false → within xs (x ∷ []) ≡ 0
within_lacks [] x h = refl
within_lacks (y ∷ xs) x h = grind (arith, nat_tests, within_lacks xs x)

-- a key more to stand in counts where it is new
pub within_cons : (xs : List ℕ) (x : ℕ) (ys : List ℕ) → within xs (x ∷ ys) ≡ within xs ys + cond (member x ys) 0 (within xs (x ∷ []))
within_cons [] x ys = grind arith
within_cons (y ∷ xs) x ys = grind (arith, nat_tests, within_cons xs x ys)
