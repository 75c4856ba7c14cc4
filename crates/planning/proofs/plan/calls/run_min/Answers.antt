use Rattle.std.proofs.Common.{[], ◌++◌, map, length, drop, ap, ◌∙◌, arith}
use Rattle.std.proofs.lemmas.List.{length-take-le}
use Rattle.planning.specs.Minimum.{min_serves, min_fetches}
use Rattle.planning.proofs.plan.calls.run_min.Goals as goal

pub serve_touches-requires : goal.serve_touches-requires
serve_touches-requires g c =
    let made = c.new-keys_held.ensures in
    let wide = ap length made.held ∙ length-take-le c.args.frames c.args.held.now c.requires.frames.1.1 in
    record {
      size = (omega (arith, wide, c.requires.frames), omega (arith, wide, c.requires.frames));
      empty = made.unfilled;
      slots = omega (arith, made.slots, c.requires.few);
      few = (c.requires.few.0, c.requires.few.1.1);
      next = c.requires.next;
    }

pub returns : goal.returns
returns g c =
    let xs = map g.K.Key.code c.args.keys.now in
    let size = ap length c.new-keys_held.ensures.held ∙ length-take-le c.args.frames c.args.held.now c.requires.frames.1.1 in
    record {
      answer = c.serve_touches.ensures.answer ∙ ap (λ n. min_fetches n [] xs) size;
      serving = c.serve_touches.ensures.serving ∙ ap (λ n. min_serves n [] xs ++ drop (length c.args.keys.now) c.args.serving.now) size;
    }
