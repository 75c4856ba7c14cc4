use Rattle.std.proofs.Common.{◌≡◌, ℕ, List, map, length, Ok, Err, sym, refl, ap, ◌∙◌, arith}
use Rattle.std.proofs.lemmas.List.{length-map, length-take-le}
use Rattle.std.proofs.lemmas.Result.{err_from_is_err_and}
use Rattle.std.proofs.lemmas.Bool.{true≢false}
use Rattle.base.specs.Geometries.{frames_of}
use Rattle.policy.specs.Machine.{fetches}
use Rattle.policy.specs.Machines.{running_start}
use Rattle.planning.specs.Replay.{idle, lists_answer}
use Rattle.planning.proofs.Judged.{lists_enough, replayed_refused, replayed_accepted}
use Rattle.planning.proofs.replay.replay.Goals as goal

-- the lists as they were judged, by the codes of the keys and the number of frames
listed : {K : Type 0} (code : K → ℕ) (keys : List K) (slots f k held : ℕ) → f ≡ k →
    lists_answer (length keys) slots f held ≡ lists_answer (length (map code keys)) slots k held
listed code keys slots f k held e = rw (length-map keys code, e)

pub returns-in_err-check_lists : goal.returns-in_err-check_lists
returns-in_err-check_lists g c =
    let r = g.P.Policy.rules in
    let code = g.K.Key.code in
    let xs = map code c.args.keys.now in
    let p = err_from_is_err_and c.from_residual.result c.from_residual.ensures.1 in
    let judged = c.in_err-check_lists.ensures ∙ listed code c.args.keys.now _ _ _ _ c.frames-frames.ensures.value in
    record {
      answer = p.1 ∙ ap Err p.2 ∙ replayed_refused r c.args.setting _ xs _ _ _ judged;
      slots = λ _. refl;
      held = λ _. refl;
    }

pub count_fetches-requires : goal.count_fetches-requires
count_fetches-requires g c =
    let r = g.P.Policy.rules in
    let k = frames_of c.args.geometry.now in
    let b = c.frames-frames.ensures.bounded in
    let e = lists_enough _ _ _ _ c.in_ok-check_lists.ensures in
    let frames : r.frames (g.P.Policy.model c.new-policy.result) ≡ k =
    ap r.frames c.new-policy.ensures ∙ g.met.P.Policy.shape.first_frames c.args.setting k b.some in
    let size : length c.new-keys_held.result.held.now ≡ c.frames-frames.result =
    ap length c.new-keys_held.ensures.held ∙ length-take-le _ _ e.held_for in
    record {
      runs = rw (frames, c.new-policy.ensures) (running_start g.met.P.Policy.shape b.some c.args.setting);
      places = (omega (arith, frames, b.most), omega (arith, frames, c.frames-frames.ensures.value, size));
      empty = c.new-keys_held.ensures.unfilled;
      slots = omega (arith, c.new-keys_held.ensures.slots, e.slots_for);
      few = e.few;
    }

pub returns : goal.returns
returns g c =
    let r = g.P.Policy.rules in
    let k = frames_of c.args.geometry.now in
    let xs = map g.K.Key.code c.args.keys.now in
    record {
      answer = ap Ok (c.count_fetches.ensures ∙ ap (λ s. fetches r (idle s) xs) c.new-policy.ensures) ∙
          sym (replayed_accepted r c.args.setting _ xs _ _
          (c.in_ok-check_lists.ensures ∙ listed g.K.Key.code c.args.keys.now _ _ _ _ c.frames-frames.ensures.value));
      slots = λ e. absurd (true≢false e);
      held = λ e. absurd (true≢false e);
    }
