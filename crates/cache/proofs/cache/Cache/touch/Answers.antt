use Rattle.std.proofs.Common.{rules}
use Rattle.cache.specs.Reading.{view}
use Rattle.cache.proofs.Views.{hit_filled, hit_answers}
use Rattle.cache.proofs.cache.Cache.touch.Goals as goal

pub use_frame-requires-clause-filled : goal.use_frame-requires-clause-filled
use_frame-requires-clause-filled g c =
    hit_filled g.P.Policy.rules g.met.P.Policy.shape (view g.D.Disk g.P.Policy c.args.self.now) c.args.sector c.requires.own
    c.in-Some.place c.in-Some.ensures c.if-place-self.true

pub returns-then-place-self-clause-answers : goal.returns-then-place-self-clause-answers
returns-then-place-self-clause-answers g c =
    hit_answers g.P.Policy.rules g.met.P.Policy.shape (view g.D.Disk g.P.Policy c.args.self.now) c.args.sector c.requires.own
    c.in-Some.place c.in-Some.ensures

pub returns-else-place-self-clause-answers : goal.returns-else-place-self-clause-answers
returns-else-place-self-clause-answers g c =
    hit_answers g.P.Policy.rules g.met.P.Policy.shape (view g.D.Disk g.P.Policy c.args.self.now) c.args.sector c.requires.own
    c.in-Some.place c.in-Some.ensures

-- By the one tactic that proves it: where the code is wrong no other is tried.
pub returns-in-None-clause-answers : goal.returns-in-None-clause-answers
returns-in-None-clause-answers g c = search rules

pub returns-in-None-clause-after : goal.returns-in-None-clause-after
returns-in-None-clause-after g c = search rules
