-- What the line of a plan has, and how it is printed. Assumes nothing.
use Rattle.std.specs.Prelude.{ℕ, max, List, [], ◌∷◌, ◌++◌, length, Ok, Result, decimal}
use Rattle.std.specs.Result.{result_and}
use Rattle.base.specs.Results.{and_then, map_err}
use Rattle.base.specs.declared.refusal.Refusal.{Refusal}
use Rattle.policy.specs.Machine.{start, fetches}
use Rattle.policy.specs.Lru.{lru_rules}
use Rattle.policy.specs.Fifo.{fifo_rules}
use Rattle.policy.specs.Clock.{clock_rules}
use Rattle.planning.specs.declared.lists.Places.{Places}
use Rattle.planning.specs.Bounds.{ForecastHolds}
use Rattle.planning.specs.Minimum.{min_serves}
use Rattle.planning.specs.Plan.{Planning, plan_of, plan_answer}
use Rattle.trace.specs.declared.fault.ReplayFault.{ReplayFault}
use Rattle.trace.specs.declared.fault.ReplayFault.TheVariants as replay_fault
use Rattle.trace.specs.Splits.{comma}
use Rattle.trace.specs.Touches.{judged, accepted}
use Rattle.sheet.specs.declared.plan_line.PlanLine.{PlanLine}
use Rattle.sheet.specs.Rows.{Lent}

-- the plan for k frames by a schedule on h, and what each policy fetches on k
abbrev pub line_at : List ℕ → ℕ → ℕ → PlanLine
line_at touches k h = record {
  frames = k;
  smaller = h;
  plan = plan_of touches k h;
  lru = fetches lru_rules (start lru_rules tt k) touches;
  fifo = fetches fifo_rules (start fifo_rules tt k) touches;
  clock = fetches clock_rules (start clock_rules tt k) touches;
}

-- What planning a line hands out, the frames that serve the touches too, or what it refuses. The held-key list has a place for each
-- frame of either number.
abbrev pub lined : List ℕ → ℕ → ℕ → Places → Result (Planning PlanLine) Refusal
lined touches k h p =
    result_and (plan_answer (length touches) k h (max k h) p)
    (Ok (record { answer = line_at touches k h; serving = min_serves h [] touches }))

-- the same for a text, or its fault: no line is to blame for a refusal of the plan
abbrev pub line_of : List ℕ → Lent → ℕ → ℕ → Result (Planning PlanLine) ReplayFault
line_of text l k h = and_then (judged text l.keys) (λ touches. map_err replay_fault.Refused (lined touches k h l.lists))

-- the touches that are read from a text into so many places, and none of a refused one
abbrev pub read_from : List ℕ → ℕ → List ℕ
read_from text places = accepted (judged text places)

-- What a line promises of its touches, with MIN's list of frames: no schedule on the smaller number has fewer fetches, and what each
-- policy fetches keeps the bound and is at most the ceiling.
pub record WithinCeiling (l : PlanLine) (touches frames : List ℕ) : Type 0 where
  pub lru : ForecastHolds l.frames l.smaller touches frames l.plan.fetches l.plan.ceiling l.lru
  pub fifo : ForecastHolds l.frames l.smaller touches frames l.plan.fetches l.plan.ceiling l.fifo
  pub clock : ForecastHolds l.frames l.smaller touches frames l.plan.fetches l.plan.ceiling l.clock

-- A line is printed as its numbers, with commas between them: the frames and the smaller number of frames, the fewest fetches and
-- the ceiling, and what each policy fetches.
abbrev pub shown_line : PlanLine → List ℕ
shown_line l =
    decimal l.frames ++ (comma ∷ (decimal l.smaller ++
    (comma ∷ (decimal l.plan.fetches ++ (comma ∷ (decimal l.plan.ceiling ++
    (comma ∷ (decimal l.lru ++ (comma ∷ (decimal l.fifo ++ (comma ∷ decimal l.clock)))))))))))
