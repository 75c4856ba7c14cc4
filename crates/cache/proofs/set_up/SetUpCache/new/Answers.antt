use Rattle.std.proofs.Common.{◌≡◌, length, ap, ◌∙◌, sym, arith}
use Rattle.base.specs.Geometries.{frames_of}
use Rattle.cache.specs.Places.{used}
use Rattle.cache.proofs.SetUps.{empty_sound}
use Rattle.cache.proofs.Dirty.{none_dirty}
use Rattle.cache.proofs.set_up.SetUpCache.new.Goals as goal

pub returns-clause-ready : goal.returns-clause-ready
returns-clause-ready g c =
    let s = c.new-store.result in
    let k = c.args.geometry in
    let first = c.new-policy.ensures in
    let none : used s ≡ 0 = ap length c.new-store.ensures.empty in
    record {
      under = c.requires;
      own =
          empty_sound g.P.Policy.rules g.met.P.Policy.shape c.args.setting (frames_of k) k.some k.most _ _ s c.count.ensures.sized
          c.tallies.ensures.bounded first c.new-store.ensures.empty c.new-store.ensures.pinned;
      setting = c.args.setting;
      first = first;
      unfilled = none ∙ sym c.new-store.ensures.pinned;
      clean = none_dirty s (λ i h. absurd (omega arith));
    }
