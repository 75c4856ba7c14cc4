-- What a cache has taken keeps the promise.
use Rattle.std.proofs.Common.{◌≡◌, ℕ, ◌+◌, ◌-◌, ◌*◌, ◌≤◌, true, List, [], length, Ok, refl, mul-le-mul_left, arith}
use Rattle.std.proofs.lemmas.Bool.{le-leb}
use Rattle.base.specs.declared.limits.TheConstants.{MAX_FRAMES, MAX_TOUCHES}
use Rattle.policy.specs.Machine.{Rules, start, fetches}
use Rattle.policy.specs.Law.{Conservative}
use Rattle.planning.specs.Schedules.{Demand}
use Rattle.planning.specs.Minimum.{min_fetches}
use Rattle.planning.specs.declared.lists.Places.{Places}
use Rattle.planning.specs.Lists.{enough}
use Rattle.planning.specs.Plan.{planning_of, planned}
use Rattle.planning.proofs.Ceilings.{min_optimal, competitive, under_ceiling}
use Rattle.cache.specs.View.{View}
use Rattle.cache.specs.Events.{Event}
use Rattle.cache.specs.Promise.{Origin, Taken, Promise, touches, machine_fetches}
use Rattle.cache.proofs.Takings.{facts_of}

-- planning in lists with enough places is not refused
plan_accepted : (ts : List ℕ) (k h : ℕ) (places : Places) → 1 ≤ k → k ≤ MAX_FRAMES → length ts ≤ MAX_TOUCHES → 1 ≤ h → h ≤ k →
    enough (length ts) h places ≡ true →
    planned ts k h places ≡ Ok (planning_of ts k h)
plan_accepted ts k h places some most few one fits room =
    rw (le-leb 1 k some, le-leb k MAX_FRAMES most, le-leb (length ts) MAX_TOUCHES few, room, le-leb 1 h one, le-leb h k fits)

module _ {Setting State : Type 0} (r : Rules Setting State) (law : Conservative r) where
  -- the bound for a count that is at most the machine's
  cut_bound : (c : Setting) (k h d F : ℕ) (ts : List ℕ) → 1 ≤ h → h ≤ k → Demand h [] ts d → F ≤ fetches r (start r c k) ts →
      (k - h + 1) * F ≤ k * d + k * (k - h + 1)
  cut_bound c k h d F ts one fits demand low =
      let whole = competitive r law c k h d [] ts [] one fits (omega arith) demand in
      let part = mul-le-mul_left (k - h + 1) low in
      omega arith

  pub promise_of : (o : Origin Setting State) (es : List (Event State)) (v : View State) → Taken r o es v → Promise r o es v
  promise_of o es v t =
      let ts = touches o es in
      let f = facts_of r o es v t in
      let low : v.fetched ≤ machine_fetches r o es = omega (arith, f.counts) in
      let bound : (h d : ℕ) → 1 ≤ h → h ≤ o.frames → Demand h [] ts d →
      (o.frames - h + 1) * v.fetched ≤ o.frames * d + o.frames * (o.frames - h + 1) =
      λ h d one fits demand. cut_bound o.setting o.frames h d v.fetched ts one fits demand low in
      record {
        answers = f.answers;
        shows = f.shows;
        counts = f.counts;
        turnwise = f.turnwise;
        reads = f.reads;
        below = f.asks;
        bound = bound;
        plans = λ few h one fits places room.
            let best = min_optimal h one ts in
            record {
              planning = planning_of ts o.frames h;
              accepted = plan_accepted ts o.frames h places t.begun.some t.begun.most few one fits room;
              optimal = best;
              ceiling_is = refl;
              most = under_ceiling o.frames h (min_fetches h [] ts) v.fetched one fits (bound h _ one fits best.schedule);
            };
      }
