-- What holds of plans and of every policy that keeps the law. Assumes nothing.
use Rattle.std.specs.Prelude.{ℕ, ◌+◌, ◌-◌, ◌*◌, ◌≤◌, List, [], length}
use Rattle.policy.specs.Machine.{Rules, start, touched, fetches}
use Rattle.planning.specs.Schedules.{Demand, Serving}

-- A list of serving frames is a schedule on h frames with d fetches, and no schedule on h frames has fewer.
pub record Optimal (h : ℕ) (touches frames : List ℕ) (d : ℕ) : Type 0 where
  pub serving : Serving h [] touches frames d
  pub schedule : Demand h [] touches d
  pub fewest : (e : ℕ) → Demand h [] touches e → d ≤ e

-- every list of serving frames is a demand schedule with the same fetches
abbrev pub ServingsAreSchedules : Type 0
ServingsAreSchedules = (h d : ℕ) (touches frames : List ℕ) → Serving h [] touches frames d → Demand h [] touches d

-- The bound over a stretch: what a policy with k frames fetches in it, whatever came before, against a schedule on h frames that
-- enters the stretch with any keys.
abbrev pub Competitive : {Setting State : Type 0} → Rules Setting State → Type 0
Competitive {Setting} r = (c : Setting) (k h d : ℕ) (before stretch held : List ℕ) →
    1 ≤ h → h ≤ k → length held ≤ h → Demand h held stretch d →
    (k - h + 1) * fetches r (touched r (start r c k) before) stretch ≤ k * d + k * (k - h + 1)

-- What a forecast promises of touches on k frames and a schedule on h: the plan's schedule is optimal with d fetches; against
-- every schedule on h frames the policy's fetches f keep the bound; and they are at most the ceiling.
pub record ForecastHolds (k h : ℕ) (touches frames : List ℕ) (d ceiling f : ℕ) : Type 0 where
  pub optimal : Optimal h touches frames d
  pub bound : (e : ℕ) → Demand h [] touches e → (k - h + 1) * f ≤ k * e + k * (k - h + 1)
  pub under : f ≤ ceiling
