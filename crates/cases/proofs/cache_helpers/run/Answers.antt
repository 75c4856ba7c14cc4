-- The calls keep the cache safe, from its start to its end.
use Rattle.std.specs.Prelude.{refl}
use Rattle.cases.proofs.cache_helpers.run.Goals as goal

pub end-requires : goal.end-requires
end-requires g c =
    c.requires.keeps _ _ _ c.start-cache.ensures.safe (record {
      shown = _;
      shows = refl;
      left = _;
      met = c.calls-answer.ensures;
      leaves = refl;
    })
