-- What an accepted step tells of its parts. Assumes nothing.
use Rattle.std.proofs.Common.{◌≡◌, ℕ, Bool, true, false, cond, Ok, Err, Result, refl, arith}
use Rattle.base.specs.Results.{and_then}

pub never : {T E : Type 0} {x : T} {e : E} {P : Type 0} → ◌≡◌ {A = Result T E} (Err e) (Ok x) → P
never h = let z : ◌≡◌ {A = ℕ} 0 1 = cc in absurd (omega arith)

pub ok_same : {T E : Type 0} {x y : T} → ◌≡◌ {A = Result T E} (Ok x) (Ok y) → x ≡ y
ok_same h = cc

pub err_same : {T E : Type 0} {x y : E} → ◌≡◌ {A = Result T E} (Err x) (Err y) → x ≡ y
err_same h = cc

-- what an accepted step tells of its parts
pub then_parts : {T U E : Type 0} (r : Result T E) (f : T → Result U E) (y : U) → and_then r f ≡ Ok y → (x : T) × (r ≡ Ok x) × (f x ≡ Ok y)
then_parts (Ok x) f y h = (x, refl, h)
then_parts (Err e) f y h = never h

pub cond_parts : {T E : Type 0} (b : Bool) (x y : T) (e : E) → cond b (Ok x) (Err e) ≡ Ok y → (b ≡ true) × (x ≡ y)
cond_parts true x y e h = (refl, ok_same h)
cond_parts false x y e h = never h
