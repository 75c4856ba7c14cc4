use Rattle.std.proofs.Common.{◌≡◌, ◌<◌, arith, rules}
use Rattle.cache.specs.Places.{used}
use Rattle.cache.specs.Reading.{view}
use Rattle.cache.proofs.Takings.{flush_takes}
use Rattle.cache.proofs.Flushes.{Flushing, flushing_at, flushed_is}
use Rattle.cache.proofs.cache.Cache.flush.Goals as goal

pub write_back-requires : goal.write_back-requires
write_back-requires g c =
    let r = g.P.Policy.rules in let shape = g.met.P.Policy.shape in
    let v = view g.D.Disk g.P.Policy c.args.self.now in
    let w = view g.D.Disk g.P.Policy c.loop-place.self in
    let q = flushing_at r shape v w c.loop-place.place c.requires.own (omega arith) c.loop-place.invariant.1 in
    let low : c.loop-place.place < used w.store = omega (arith, q.filled) in
    record {
      within = low;
      under = c.loop-place.invariant.0;
      inside = q.sound.holding.inside c.loop-place.place low;
      live = q.sound.holding.live c.loop-place.place low;
    }

pub returns : goal.returns
returns g c =
    let r = g.P.Policy.rules in let shape = g.met.P.Policy.shape in
    let v = view g.D.Disk g.P.Policy c.args.self.now in
    let w = view g.D.Disk g.P.Policy c.loop-place.self in
    let e : c.loop-place.place ≡ used v.store = omega arith in
    let q : Flushing r shape v w (used v.store) =
    rw e at (flushing_at r shape v w c.loop-place.place c.requires.own (omega arith) c.loop-place.invariant.1) in
    let f = flushed_is r shape v w c.requires.own q in
    record {
      kept = record { under = c.loop-place.invariant.0; own = q.sound };
      flushed = f;
      takes = λ x b. flush_takes g.D.Disk g.P.Policy _ _ x b f;
    }

-- By the one tactic that proves it: where the code is wrong no other is tried.
pub loop-place-preserved : goal.loop-place-preserved
loop-place-preserved g c = search rules
