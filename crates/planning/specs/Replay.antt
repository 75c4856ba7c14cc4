-- What a replay answers. Assumes nothing.
use Rattle.std.specs.Prelude.{ℕ, cond, ◌&&◌, List, [], length, Ok, Err, Result, nat_le}
use Rattle.std.specs.Result.{result_and}
use Rattle.base.specs.declared.limits.TheConstants.{MAX_TOUCHES}
use Rattle.base.specs.declared.refusal.Refusal.{Refusal}
use Rattle.base.specs.declared.refusal.Refusal.TheVariants.{ListTooLong, TooFewPlaces}
use Rattle.policy.specs.Machine.{Rules, Machine, start, fetches}

-- the frame machine with empty frames and a policy in some state
abbrev pub idle : {State : Type 0} → State → Machine State
idle s = record { policy = s; keys = [] }

-- how the lists of a replay are judged: the length of the list of touches first, then the places
abbrev pub lists_answer : ℕ → ℕ → ℕ → ℕ → Result (Unit {0}) Refusal
lists_answer touches slots k held =
    cond (nat_le touches MAX_TOUCHES) (cond (nat_le touches slots && nat_le k held) (Ok tt) (Err TooFewPlaces)) (Err ListTooLong)

-- a replay on k frames, in lists with so many slots and held-key places
abbrev pub replayed : {Setting State : Type 0} → Rules Setting State → Setting → ℕ → List ℕ → ℕ → ℕ → Result ℕ Refusal
replayed r c k touches slots held = result_and (lists_answer (length touches) slots k held) (Ok (fetches r (start r c k) touches))
