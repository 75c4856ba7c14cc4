-- A sector's place in a list of numbers, in the words of a slice's `contains`.
use Rattle.std.proofs.Common.{◌≡◌, ℕ, List, [], ◌∷◌, refl, rules}
use Rattle.std.specs.Prelude.{nat_eq}
use Rattle.std.specs.List.{list_any}
use Rattle.base.specs.Lists.{member}

pub member_any : (x : ℕ) (xs : List ℕ) → list_any (λ y. nat_eq y x) xs ≡ member x xs
member_any x [] = refl
member_any x (y ∷ ys) = let ih = member_any x ys in rw ih (search rules)
