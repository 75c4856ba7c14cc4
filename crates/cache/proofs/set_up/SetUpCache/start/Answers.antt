use Rattle.std.proofs.Common.{◌≡◌, [], sym, ap, ◌∙◌, subst}
use Rattle.cache.specs.View.{View, seen}
use Rattle.cache.specs.Promise.{Taken}
use Rattle.cache.specs.Reading.{view}
use Rattle.cache.specs.SetUp.{set_up_view, origin}
use Rattle.cache.proofs.SetUps.{idle_taken, idle_shows}
use Rattle.cache.proofs.set_up.SetUpCache.start.Goals as goal

pub returns-clause-begins : goal.returns-clause-begins
returns-clause-begins g c =
    let shape = g.met.P.Policy.shape in
    let s = c.args.self in
    let q = c.requires in
    let e = c.new.ensures in
    let same : view g.D.Disk g.P.Policy c.new.result ≡ set_up_view g.D.Disk g.P.Policy s =
    rw (e.parts.0, e.parts.1.0, e.parts.1.1, e.counts.0, e.counts.1.0, e.counts.1.1) in
    record {
      same = same;
      below = e.parts.0;
      bytes = ap (λ (u : View g.P.Policy.State). (seen u).bytes) same ∙ idle_shows g.D.Disk g.P.Policy shape s q;
      taken =
          λ setting first. subst (Taken g.P.Policy.rules (origin g.D.Disk g.P.Policy s setting) []) (sym same)
          (idle_taken g.D.Disk g.P.Policy shape s q setting first);
    }
