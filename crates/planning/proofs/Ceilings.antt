-- The optimum, the bound and the ceiling, put together.
use Rattle.std.proofs.Common.{◌≡◌, ℕ, ◌+◌, ◌-◌, ◌*◌, ◌/◌, ◌≤◌, List, [], inl, inr, mul_comm, add-mul, le-div_iff_mul-le, arith}
use Rattle.std.proofs.lemmas.Bool.{cases_lt}
use Rattle.policy.specs.Machine.{Rules, start, touched, fetches}
use Rattle.policy.specs.Law.{Conservative}
use Rattle.planning.specs.Minimum.{min_fetches, min_serves}
use Rattle.planning.specs.Bounds.{Optimal, Competitive}
use Rattle.planning.specs.Plan.{ceiling}
use Rattle.planning.proofs.Machines.{fetches_split}
use Rattle.planning.proofs.Bound.{bound_from}
use Rattle.planning.proofs.Servings.{min_serving, served}
use Rattle.planning.proofs.Fewest.{fewest}

pub min_optimal : (h : ℕ) → 1 ≤ h → (touches : List ℕ) → Optimal h touches (min_serves h [] touches) (min_fetches h [] touches)
min_optimal h some touches =
    let s = min_serving h some [] touches (omega arith) in
    record { serving = s; schedule = served h _ touches _ s; fewest = λ e d. fewest h e touches some d }

-- every policy that keeps the law keeps the bound
pub competitive : {Setting State : Type 0} (r : Rules Setting State) → Conservative r → Competitive r
competitive r law c k h d before touches held one fits short s =
    let some : 1 ≤ k = omega arith in
    bound_from k h (k - h + 1) some (omega arith) (λ past xs. fetches r (touched r (start r c k) past) xs) (fetches_split r (start r c k))
    (law c k some) s short before

-- a count that keeps the bound is at most the ceiling
under : (w k n f : ℕ) → 1 ≤ w → w * f ≤ n + k * w → f ≤ n / w + k
under w k n f some h = elim (cases_lt f k) [
  | inl l ↦ omega arith
  | inr l ↦
      let g = f - k in
      let split : f ≡ g + k = omega arith in
      let prod : g * w ≤ n = omega (arith, add-mul g k w, mul_comm w (g + k), rw split at h) in
      let q : g ≤ n / w = (le-div_iff_mul-le some).1 prod in
      omega arith
]

pub under_ceiling : (k h d f : ℕ) → 1 ≤ h → h ≤ k → (k - h + 1) * f ≤ k * d + k * (k - h + 1) → f ≤ ceiling k h d
under_ceiling k h d f one fits b = under (k - h + 1) k (k * d) f (omega arith) b
