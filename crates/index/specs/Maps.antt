-- What an index means: a map from the codes of keys to numbers, with a limit on how many codes have one.
use Rattle.std.specs.Prelude.{◌≡◌, ℕ, ◌+◌, ◌-◌, ◌≤◌, Bool, cond, ◌||◌, nat_eq, nat_lt}
use Rattle.std.specs.Prelude.{List, length, count_by, Option, is_some, Some, None, Result, Ok, Err}
use Rattle.std.specs.Map.{update}
use Rattle.base.specs.declared.refusal.Refusal.{Refusal}
use Rattle.base.specs.declared.refusal.Refusal.TheVariants.{IndexFull}

-- The number stored with a code, how many codes have a number, and how many slots there are.
pub record Map : Type 0 where
  pub at : ℕ → Option ℕ
  pub size : ℕ
  pub places : ℕ

-- The size is the number of codes with a number: a list of that length has each of them one time, and no other code.
pub record Finite (m : Map) : Type 0 where
  pub codes : List ℕ
  pub once : (code : ℕ) → count_by (nat_eq code) codes ≡ cond (is_some (m.at code)) 1 0
  pub sized : length codes ≡ m.size
  pub within : m.size ≤ m.places

-- a map without codes
abbrev pub empty : ℕ → Map
empty places = record { at = λ _. None; size = 0; places = places }

-- whether a code has a number
abbrev pub has : Map → ℕ → Bool
has m code = is_some (m.at code)

-- whether a code may be put: it has a number already, or a slot is left
abbrev pub accepts : Map → ℕ → Bool
accepts m code = has m code || nat_lt m.size m.places

-- what a put answers
abbrev pub put_answer : Map → ℕ → Result (Unit {0}) Refusal
put_answer m code = cond (accepts m code) (Ok tt) (Err IndexFull)

-- the map with a number stored with a code
abbrev pub with_number : Map → ℕ → ℕ → Map
with_number m code number = record m { at = update nat_eq m.at code (Some number); size = cond (has m code) m.size (m.size + 1) }

-- the map after a put, which is as before where the put is refused
abbrev pub after_put : Map → ℕ → ℕ → Map
after_put m code number = cond (accepts m code) (with_number m code number) m

-- the map after a remove
abbrev pub after_remove : Map → ℕ → Map
after_remove m code = record m { at = update nat_eq m.at code None; size = cond (has m code) (m.size - 1) m.size }
