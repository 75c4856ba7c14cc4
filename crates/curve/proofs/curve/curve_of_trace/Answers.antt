use Rattle.std.proofs.Common.{IsOk, sym, refl, subst, arith, map, ◌≡◌}
use Rattle.trace.specs.Judged.{trace_touches}
use Rattle.curve.specs.Points.{point_fetches}
use Rattle.curve.proofs.Recorded.{recorded, curve_accepted, distances_read, curve_read, points_read, curve_handed}
use Rattle.curve.proofs.curve.curve_of_trace.Goals as goal

pub unwrap-requires : goal.unwrap-requires
unwrap-requires c =
    let r = recorded c.args.text.now c.args.keys.now c.read_into.new.keys c.args.distances.now _ c.in_ok-touches.touches
    (trace_touches c.in_ok-trace.trace) (omega (arith, c.min.ensures)) c.in_ok-trace.ensures.answer
    c.in_ok-touches.ensures.answer c.in_ok-touches.ensures.keys in
    subst IsOk (sym (curve_accepted r 64 (omega arith) c.lru_curve.result c.lru_curve.ensures.answer)) refl

pub returns : goal.returns
returns c =
    let r = recorded c.args.text.now c.args.keys.now c.read_into.new.keys c.args.distances.now _ c.in_ok-touches.touches
    (trace_touches c.in_ok-trace.trace) (omega (arith, c.min.ensures)) c.in_ok-trace.ensures.answer
    c.in_ok-touches.ensures.answer c.in_ok-touches.ensures.keys in
    let ok = curve_accepted r 64 (omega arith) c.lru_curve.result c.lru_curve.ensures.answer in
    let after = c.lru_curve.new.distances in
    let counts = c.lru_curve.new.counts in
    let held = curve_read r c.lru_curve.result after counts ok c.lru_curve.ensures.curve c.lru_curve.auto.counts in
    let points = c.points_at.result in
    let made = c.points_at.ensures.fetches in
    let fetches : map point_fetches points ≡ counts = cc in
    record {
      answer = points_read r after counts points held c.points_at.ensures.frames fetches;
      keys = r.written;
      distances = distances_read r c.lru_curve.result after ok c.lru_curve.ensures.distances;
      curve = curve_handed r after counts (map point_fetches points) held fetches;
    }
