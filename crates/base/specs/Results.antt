-- Steps of which each may be refused. Assumes nothing.
use Rattle.std.specs.Prelude.{Ok, Err, Result}
use Rattle.std.specs.Result.{result_map_both}

-- goes on with what was accepted, and stops at the first refusal
abbrev pub and_then : {T U E : Type 0} → Result T E → (T → Result U E) → Result U E
and_then (Ok x) f = f x
and_then (Err e) f = Err e

-- carries a refusal inside another, and leaves what was accepted
abbrev pub map_err : {T E F : Type 0} → (E → F) → Result T E → Result T F
map_err wrap r = result_map_both (λ x. x) wrap r
