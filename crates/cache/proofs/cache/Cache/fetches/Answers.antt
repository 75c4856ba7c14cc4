use Rattle.cache.specs.Reading.{view}
use Rattle.cache.proofs.Promises.{promise_of}
use Rattle.cache.proofs.cache.Cache.fetches.Goals as goal

pub returns-clause-promised : goal.returns-clause-promised
returns-clause-promised g c o es t =
    promise_of g.P.Policy.rules g.met.P.Policy.conservative o es (view g.D.Disk g.P.Policy c.args.self.now) t
