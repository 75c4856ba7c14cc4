-- What a call of use answers, and the state that it leaves. Assumes nothing.
use Rattle.std.specs.Prelude.{ℕ, cond, Ok, Err, Result, nat_lt}
use Rattle.base.specs.declared.refusal.Refusal.{Refusal}
use Rattle.base.specs.declared.refusal.Refusal.TheVariants.{FrameNotFilled}
use Rattle.policy.specs.Machine.{Rules}

-- a frame that is not filled is refused
abbrev pub use_answer : {Setting State : Type 0} → Rules Setting State → State → ℕ → Result (Unit {0}) Refusal
use_answer r s f = cond (nat_lt f (r.filled s)) (Ok tt) (Err FrameNotFilled)

-- a refused use leaves the state as it was
abbrev pub after_use : {Setting State : Type 0} → Rules Setting State → State → ℕ → State
after_use r s f = cond (nat_lt f (r.filled s)) (r.used s f) s
