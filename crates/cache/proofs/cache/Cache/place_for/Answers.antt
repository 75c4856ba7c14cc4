use Rattle.std.proofs.Common.{◌≡◌, ◌∙◌, arith}
use Rattle.cache.specs.Reading.{view}
use Rattle.cache.proofs.Requests.{judged_touched}
use Rattle.cache.proofs.cache.Cache.place_for.Goals as goal

pub returns-clause-after : goal.returns-clause-after
returns-clause-after g c =
    let long : c.args.len ≡ 512 = omega arith in
    c.touch.ensures.after ∙
    rw long
    (judged_touched g.P.Policy.rules g.met.P.Policy.shape (view g.D.Disk g.P.Policy c.args.self.now) c.args.sector c.requires.own)
