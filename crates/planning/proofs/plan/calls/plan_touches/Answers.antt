use Rattle.std.proofs.Common.{◌≡◌, ℕ, ◌≤◌, List, [], ◌++◌, map, length, take, drop, Ok, Err, sym, refl, ap, ◌∙◌, subst, arith}
use Rattle.std.proofs.lemmas.List.{length-map, take_at}
use Rattle.std.proofs.lemmas.Result.{err_from_is_err_and, IfOk-from_err}
use Rattle.std.proofs.lemmas.Bool.{true≢false}
use Rattle.planning.specs.Bounds.{Optimal}
use Rattle.planning.specs.Minimum.{min_serves}
use Rattle.planning.specs.declared.lists.Places.{Places}
use Rattle.planning.specs.declared.plan.Plan.{Plan}
use Rattle.planning.specs.Lists.{places}
use Rattle.planning.specs.Plan.{ceiling, plan_answer, answer_of, serving_after}
use Rattle.planning.proofs.Ceilings.{min_optimal}
use Rattle.planning.proofs.Servings.{served}
use Rattle.planning.proofs.Plans.{same_places, Passed, plan_passed, judged_by, planned_refused, planned_accepted, serves_length, min_most}
use Rattle.planning.proofs.plan.calls.plan_touches.Goals as goal

-- what passed, by the places that the caller lends
passed_on : (n k h : ℕ) (judged lent : Places) → judged ≡ lent → Ok tt ≡ plan_answer n k h h judged → Passed n k h h lent
passed_on n k h judged lent same e = plan_passed n k h h lent (e ∙ ap (plan_answer n k h h) same)

-- a plan from the fetches that it counts
plan_same : (c d e k h : ℕ) → c ≡ ceiling k h d → d ≡ e →
    ◌≡◌ {A = Plan} (record { ceiling = c; fetches = d }) (record { ceiling = ceiling k h e; fetches = e })
plan_same c d e k h ec ed = rw (ec, ed)

pub returns-in_err-check_plan : goal.returns-in_err-check_plan
returns-in_err-check_plan g c =
    let lent = places c.args.lists.now in
    let touches = map g.K.Key.code c.args.keys.now in
    let k = c.args.frames in
    let h = c.args.smaller in
    let p = err_from_is_err_and c.from_residual.result c.from_residual.ensures.1 in
    let judged = c.in_err-check_plan.ensures ∙ judged_by g.K.Key.code c.args.keys.now k h h h _ lent refl c.places.ensures in
    let refused = planned_refused touches k h lent _ judged in
    record {
      answer = p.1 ∙ ap Err p.2 ∙ sym (ap answer_of refused);
      serving = sym (ap (λ q. serving_after q c.args.lists.now.serving.now) refused);
      optimal = IfOk-from_err _ _ c.from_residual.ensures.0;
      schedules = served;
      refused = λ _. record { slots = refl; next = refl; held = refl };
      same = record { long = refl; slots = refl; next = refl; held = refl; serving = refl };
    }

pub run_min-fetches-requires : goal.run_min-fetches-requires
run_min-fetches-requires g c =
    let p = passed_on (length c.args.keys.now) c.args.frames c.args.smaller _ _ c.places.ensures c.in_ok-check_plan.ensures in
    let next : length c.args.keys.now ≤ length c.next_touches.new.next = omega (arith, p.next_for, c.next_touches.auto.next) in
    record {
      frames = (p.smaller.0, (omega (arith, p.smaller, p.frames), p.held_for));
      few = (p.few, (omega (arith, p.slots_for, c.next_touches.auto.slots), (next, p.serving_for)));
      next = c.next_touches.ensures;
    }

pub ceiling-ceiling-requires : goal.ceiling-ceiling-requires
ceiling-ceiling-requires g c =
    let p = passed_on (length c.args.keys.now) c.args.frames c.args.smaller _ _ c.places.ensures c.in_ok-check_plan.ensures in
    let keys = c.args.keys.now in
    let most = min_most c.args.smaller [] (map g.K.Key.code keys) in
    let few : c.run_min-fetches.result ≤ 4096 =
    omega (arith, c.run_min-fetches.ensures.answer, most, length-map keys g.K.Key.code, p.few) in
    (p.smaller.1, (p.frames.1, few))

pub returns : goal.returns
returns g c =
    let lent = places c.args.lists.now in
    let keys = c.args.keys.now in
    let touches = map g.K.Key.code keys in
    let k = c.args.frames in
    let h = c.args.smaller in
    let p = passed_on (length c.args.keys.now) c.args.frames c.args.smaller _ _ c.places.ensures c.in_ok-check_plan.ensures in
    let d = c.run_min-fetches.ensures.answer in
    let judged = c.in_ok-check_plan.ensures ∙ judged_by g.K.Key.code keys k h h h _ lent refl c.places.ensures in
    let accepted = planned_accepted touches k h lent judged in
    let old = c.args.lists.now.serving.now in
    let serves = min_serves h [] touches in
    let long : length serves ≡ length keys = serves_length h [] touches ∙ length-map keys g.K.Key.code in
    let front : take (length keys) c.run_min-fetches.new.serving ≡ serves =
    ap (take (length keys)) c.run_min-fetches.ensures.serving ∙ take_at serves (drop (length keys) old) (length keys) long in
    record {
      answer = ap Ok (plan_same _ _ _ k h c.ceiling-ceiling.ensures d) ∙ sym (ap answer_of accepted);
      serving = c.run_min-fetches.ensures.serving ∙ ap (λ n. serves ++ drop n old) (sym long) ∙
          sym (ap (λ q. serving_after q old) accepted);
      optimal = subst (λ (w : List ℕ). Optimal h touches w c.run_min-fetches.result) (sym front)
          (subst (Optimal h touches serves) (sym d) (min_optimal h p.smaller.0 touches));
      schedules = served;
      refused = λ e. absurd (true≢false e);
      same = record {
        long = same_places _ _ _ _ _ _ _ _ (omega (arith, c.next_touches.auto.slots, c.run_min-fetches.auto.slots))
            c.next_touches.auto.next c.run_min-fetches.auto.held c.run_min-fetches.auto.serving;
        slots = refl;
        next = refl;
        held = refl;
        serving = refl;
      };
    }
