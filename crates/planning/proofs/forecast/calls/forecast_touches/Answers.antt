use Rattle.std.proofs.Common.{◌≡◌, ℕ, ◌+◌, ◌-◌, ◌*◌, ◌≤◌, max, List, [], map, length, Ok, Err, sym, refl, ap, ◌∙◌, subst, arith}
use Rattle.std.proofs.lemmas.Result.{err_from_is_err_and, IfOk-from_err, IfOk-at_ok}
use Rattle.std.proofs.lemmas.Bool.{true≢false}
use Rattle.policy.specs.Machine.{Rules, start, fetches}
use Rattle.policy.specs.Law.{Conservative}
use Rattle.planning.specs.declared.lists.Places.{Places}
use Rattle.planning.specs.declared.plan.Plan.{Plan}
use Rattle.planning.specs.declared.forecast.Forecast.{Forecast}
use Rattle.planning.specs.Bounds.{Optimal, ForecastHolds}
use Rattle.planning.specs.Minimum.{min_fetches}
use Rattle.planning.specs.Schedules.{Demand}
use Rattle.planning.specs.Lists.{places}
use Rattle.planning.specs.Plan.{plan_of, answer_of, serving_after}
use Rattle.planning.specs.Replay.{replayed}
use Rattle.planning.proofs.Ceilings.{competitive, under_ceiling}
use Rattle.planning.proofs.Judged.{never, same_ok, replayed_accepted}
use Rattle.planning.proofs.Plans.{same_places, Passed, plan_passed, judged_by, planned_accepted, plan_passes}
use Rattle.planning.proofs.Plans.{replay_passes, geometry_frames, geometry_accepted, forecast_refused, forecast_accepted}
use Rattle.planning.proofs.forecast.calls.forecast_touches.Given as given
use Rattle.planning.proofs.forecast.calls.forecast_touches.Goals as goal
use Rattle.planning.proofs.forecast.calls.forecast_touches.Goals.{After-plan_touches}

-- a forecast from its parts
forecast_same : (p q : Plan) (f n : ℕ) → p ≡ q → f ≡ n →
    ◌≡◌ {A = Forecast} (record { plan = p; fetches = f }) (record { plan = q; fetches = n })
forecast_same p q f n ep ef = rw (ep, ef)

-- the numbers and the lists passed,
passed : (g : given.Over) (c : After-plan_touches g) → let k = c.args.frames in let h = c.args.smaller in
    Passed (length (map g.K.Key.code c.args.keys.now)) k h (max k h) (places c.args.lists.now)
passed g c =
    let k = c.args.frames in
    let h = c.args.smaller in
    let judged = judged_by g.K.Key.code c.args.keys.now k h _ (max k h) _ (places c.args.lists.now) c.max.ensures c.places.ensures in
    plan_passed _ k h _ _ (c.in_ok-check_plan.ensures ∙ judged)

-- so the plan is made,
plan_made : (g : given.Over) (c : After-plan_touches g) →
    c.plan_touches.result ≡ Ok (plan_of (map g.K.Key.code c.args.keys.now) c.args.frames c.args.smaller)
plan_made g c =
    let touches = map g.K.Key.code c.args.keys.now in
    let k = c.args.frames in
    let h = c.args.smaller in
    let lent = places c.args.lists.now in
    c.plan_touches.ensures.answer ∙ ap answer_of (planned_accepted touches k h lent (plan_passes (length touches) k h lent (passed g c)))

-- and the replay that follows, on k frames and lists as long as they were
replay_made : {Setting State : Type 0} (r : Rules Setting State) (c : Setting) (touches : List ℕ) (k h frames : ℕ) (lent after : Places) →
    Passed (length touches) k h (max k h) lent → frames ≡ k → after ≡ lent →
    replayed r c frames touches after.slots after.held ≡ Ok (fetches r (start r c k) touches)
replay_made r c touches k h frames lent after p ef long =
    rw (ef, long) (replayed_accepted r c k touches lent.slots lent.held (replay_passes (length touches) k h lent p))

-- the bound and the ceiling, for what a plan and a replay answered
bounded : {Setting State : Type 0} (r : Rules Setting State) → Conservative r →
    (c : Setting) (touches frames : List ℕ) (k h : ℕ) (p : Plan) (f : ℕ) →
    1 ≤ h → h ≤ k → p ≡ plan_of touches k h → f ≡ fetches r (start r c k) touches → Optimal h touches frames p.fetches →
    ForecastHolds k h touches frames p.fetches p.ceiling f
bounded r law c touches frames k h p f one fits ep ef o =
    let bound : (e : ℕ) → Demand h [] touches e → (k - h + 1) * f ≤ k * e + k * (k - h + 1) =
    λ e d. subst (λ n. (k - h + 1) * n ≤ k * e + k * (k - h + 1)) (sym ef)
    (competitive r law c k h e [] touches [] one fits (omega arith) d) in
    let fewest = min_fetches h [] touches in
    let schedule = subst (λ (q : Plan). Demand h [] touches q.fetches) ep o.schedule in
    record {
      optimal = o;
      bound = bound;
      under = subst (λ (q : Plan). f ≤ q.ceiling) (sym ep) (under_ceiling k h fewest f one fits (bound fewest schedule));
    }

pub returns-in_err-check_plan : goal.returns-in_err-check_plan
returns-in_err-check_plan g c =
    let lent = places c.args.lists.now in
    let keys = c.args.keys.now in
    let k = c.args.frames in
    let h = c.args.smaller in
    let p = err_from_is_err_and c.from_residual.result c.from_residual.ensures.1 in
    let judged = c.in_err-check_plan.ensures ∙ judged_by g.K.Key.code keys k h _ (max k h) _ lent c.max.ensures c.places.ensures in
    let refused = forecast_refused g.P.Policy.rules c.args.setting (map g.K.Key.code keys) k h lent _ judged in
    record {
      answer = p.1 ∙ ap Err p.2 ∙ sym (ap answer_of refused);
      serving = sym (ap (λ q. serving_after q c.args.lists.now.serving.now) refused);
      bounded = IfOk-from_err _ _ c.from_residual.ensures.0;
      competitive = competitive g.P.Policy.rules g.met.P.Policy.conservative;
      refused = λ _. record { slots = refl; next = refl; held = refl };
      same = record { long = refl; slots = refl; next = refl; held = refl; serving = refl };
    }

pub returns-in_err-plan : goal.returns-in_err-plan
returns-in_err-plan g c =
    absurd (never _ _ (sym c.in_err-plan.was ∙ plan_made g (goal.at.returns-in_err-plan g c).After-plan_touches))

pub returns-in_err-geometry : goal.returns-in_err-geometry
returns-in_err-geometry g c =
    let p = passed g (goal.at.returns-in_err-geometry g c).After-plan_touches in
    absurd (geometry_accepted _ _ _ p.frames.0 p.frames.1 c.new.ensures c.in_err-geometry.was)

pub returns-in_err-fetches : goal.returns-in_err-fetches
returns-in_err-fetches g c =
    let p = passed g (goal.at.returns-in_err-fetches g c).After-plan_touches in
    let geometry = geometry_frames _ _ _ p.frames.0 p.frames.1 c.new.ensures c.in_ok-geometry.was in
    let made = replay_made g.P.Policy.rules c.args.setting _ _ _ _ _ _ p geometry c.plan_touches.ensures.same.long in
    absurd (never _ _ (sym c.in_err-fetches.was ∙ c.replay.ensures.answer ∙ made))

pub returns : goal.returns
returns g c =
    let lent = places c.args.lists.now in
    let touches = map g.K.Key.code c.args.keys.now in
    let k = c.args.frames in
    let h = c.args.smaller in
    let rules = g.P.Policy.rules in
    let same = c.plan_touches.ensures.same in
    let here = (goal.at.returns g c).After-plan_touches in
    let p = passed g here in
    let geometry = geometry_frames _ _ _ p.frames.0 p.frames.1 c.new.ensures c.in_ok-geometry.was in
    let made = replay_made rules c.args.setting touches k h _ lent _ p geometry same.long in
    let plan = same_ok _ _ (sym c.in_ok-plan.was ∙ plan_made g here) in
    let count = same_ok _ _ (sym c.in_ok-fetches.was ∙ c.replay.ensures.answer ∙ made) in
    let judged = judged_by g.K.Key.code c.args.keys.now k h _ (max k h) _ lent c.max.ensures c.places.ensures in
    let accepted = forecast_accepted rules c.args.setting touches k h lent (c.in_ok-check_plan.ensures ∙ judged) in
    let planned' = planned_accepted touches k h lent (plan_passes (length touches) k h lent p) in
    let old = c.args.lists.now.serving.now in
    record {
      answer = ap Ok (forecast_same _ _ _ _ plan count) ∙ sym (ap answer_of accepted);
      serving = c.plan_touches.ensures.serving ∙ ap (λ q. serving_after q old) planned' ∙ sym (ap (λ q. serving_after q old) accepted);
      bounded = bounded rules g.met.P.Policy.conservative c.args.setting touches _ k h _ _ p.smaller.0 p.smaller.1 plan count
          (IfOk-at_ok _ c.in_ok-plan.was c.plan_touches.ensures.optimal);
      competitive = competitive rules g.met.P.Policy.conservative;
      refused = λ e. absurd (true≢false e);
      same = record {
        long = same_places _ _ _ _ _ _ _ _ (omega (arith, c.replay.auto.slots, ap (λ (p : Places). p.slots) same.long))
            (ap (λ (p : Places). p.next) same.long) (omega (arith, c.replay.auto.held, ap (λ (p : Places). p.held) same.long))
            (ap (λ (p : Places). p.serving) same.long);
        slots = same.slots;
        next = same.next;
        held = same.held;
        serving = same.serving;
      };
    }
