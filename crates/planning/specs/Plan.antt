-- What planning answers. Assumes nothing.
use Rattle.std.specs.Prelude.{ℕ, ◌+◌, ◌-◌, ◌*◌, ◌/◌, max, cond, ◌&&◌, List, [], ◌++◌, length, drop, Ok, Err, Result, nat_le}
use Rattle.std.specs.Result.{result_and}
use Rattle.base.specs.declared.limits.TheConstants.{MAX_FRAMES, MAX_TOUCHES}
use Rattle.base.specs.declared.refusal.Refusal.{Refusal}
use Rattle.base.specs.declared.refusal.Refusal.TheVariants.{FrameCount, ListTooLong, TooFewPlaces, SmallerFrameCount}
use Rattle.policy.specs.Machine.{Rules, start, fetches}
use Rattle.planning.specs.declared.plan.Plan.{Plan}
use Rattle.planning.specs.declared.forecast.Forecast.{Forecast}
use Rattle.planning.specs.declared.lists.Places.{Places}
use Rattle.planning.specs.Lists.{enough}
use Rattle.planning.specs.Minimum.{min_serves, min_fetches}

-- the ceiling on the fetches of k frames, from d fetches on h frames
abbrev pub ceiling : ℕ → ℕ → ℕ → ℕ
ceiling k h d = (k * d) / (k - h + 1) + k

-- the plan for k frames by a schedule on h
abbrev pub plan_of : List ℕ → ℕ → ℕ → Plan
plan_of touches k h = record { ceiling = ceiling k h (min_fetches h [] touches); fetches = min_fetches h [] touches }

-- How numbers and lists are judged, where so many held-key places are needed: k, then the list's length, then the places, then h.
abbrev pub plan_answer : ℕ → ℕ → ℕ → ℕ → Places → Result (Unit {0}) Refusal
plan_answer touches k h held p =
    cond (nat_le 1 k && nat_le k MAX_FRAMES)
    (cond (nat_le touches MAX_TOUCHES)
    (cond (enough touches held p)
    (cond (nat_le 1 h && nat_le h k) (Ok tt) (Err SmallerFrameCount))
    (Err TooFewPlaces))
    (Err ListTooLong))
    (Err FrameCount)

-- What planning hands out: an answer, and for each touch the frame that serves it.
pub record Planning (A : Type 0) : Type 0 where
  pub answer : A
  pub serving : List ℕ

-- the answer, or the refusal
abbrev pub answer_of : {A E : Type 0} → Result (Planning A) E → Result A E
answer_of (Ok p) = Ok p.answer
answer_of (Err e) = Err e

-- the serving list afterwards: the frames of the touches, and behind them what stood there; after a refusal what it was
abbrev pub serving_after : {A E : Type 0} → Result (Planning A) E → List ℕ → List ℕ
serving_after (Ok p) old = p.serving ++ drop (length p.serving) old
serving_after (Err e) old = old

-- the plan for k frames by a schedule on h, with MIN's frames; and the same with the replay of a policy on k frames
abbrev pub planning_of : List ℕ → ℕ → ℕ → Planning Plan
planning_of touches k h = record { answer = plan_of touches k h; serving = min_serves h [] touches }

abbrev pub forecast_of : {Setting State : Type 0} → Rules Setting State → Setting → List ℕ → ℕ → ℕ → Planning Forecast
forecast_of r c touches k h = record {
  answer = record { plan = (planning_of touches k h).answer; fetches = fetches r (start r c k) touches };
  serving = (planning_of touches k h).serving;
}

-- What a plan hands out, and what a forecast does, refusals included. The held-key list serves the forecast's plan and its replay,
-- so it has a place for each frame of either.
abbrev pub planned : List ℕ → ℕ → ℕ → Places → Result (Planning Plan) Refusal
planned touches k h p = result_and (plan_answer (length touches) k h h p) (Ok (planning_of touches k h))

abbrev pub forecasted : {Setting State : Type 0} → Rules Setting State → Setting → List ℕ → ℕ → ℕ → Places →
    Result (Planning Forecast) Refusal
forecasted r c touches k h p = result_and (plan_answer (length touches) k h (max k h) p) (Ok (forecast_of r c touches k h))
