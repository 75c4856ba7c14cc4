use Rattle.disk.specs.declared.turn.Request.TheVariants.{Read}
use Rattle.std.proofs.Common.{Err, sym, refl, ap, ◌∙◌}
use Rattle.std.proofs.lemmas.Result.{err_from_is_err_and}
use Rattle.cache.specs.Reading.{view}
use Rattle.cache.proofs.Takings.{takes_of}
use Rattle.cache.proofs.Requests.{AfterTouch, refused_same, refused_took, accepted_at, accepted_long, read_sound, read_took}
use Rattle.cache.proofs.cache.Cache.read_sector.Given as given
use Rattle.cache.proofs.cache.Cache.read_sector.Goals as goal
use Rattle.cache.proofs.cache.Cache.read_sector.Goals.{After-place_for}

-- the request, once its place is found
after : (g : given.Over) (c : After-place_for g) →
    AfterTouch g.P.Policy.rules (view g.D.Disk g.P.Policy c.args.self.now) (view g.D.Disk g.P.Policy c.place_for.new.self) c.args.sector
    c.args.buffer.now
after g c = record { shape = g.met.P.Policy.shape; sound = c.requires.own; is = c.place_for.ensures.after }

pub returns-in_err-place : goal.returns-in_err-place
returns-in_err-place g c =
    let q = after g (goal.at.returns-in_err-place g c).After-place_for in
    let p = err_from_is_err_and c.from_residual.result c.from_residual.ensures.1 in
    let refused = sym c.in_err-place.was ∙ c.place_for.ensures.answers in
    let t = refused_took q _ refused Read refl _ (p.1 ∙ ap Err p.2) in
    record {
      kept = record { under = c.place_for.ensures.under; own = rw (refused_same q _ refused) c.requires.own };
      answers = t.answers;
      after = t.shows;
      fills = t.fills;
      turned = t.turned refl;
      takes = takes_of g.D.Disk g.P.Policy _ _ _ _ _ _ _ t;
    }

pub serve_read-requires : goal.serve_read-requires
serve_read-requires g c =
    let q = after g (goal.at.serve_read-requires g c).After-place_for in
    let accepted = sym c.in_ok-place.was ∙ c.place_for.ensures.answers in
    record { within = ((accepted_at q _ accepted).0, accepted_long q _ accepted); under = c.place_for.ensures.under }

pub returns : goal.returns
returns g c =
    let q = after g (goal.at.returns g c).After-place_for in
    let accepted = sym c.in_ok-place.was ∙ c.place_for.ensures.answers in
    let is = c.serve_read.ensures.after in
    let t = read_took q _ accepted _ is _ c.serve_read.ensures.fills in
    record {
      kept = record { under = c.serve_read.ensures.under; own = read_sound q _ accepted _ is };
      answers = t.answers;
      after = t.shows;
      fills = t.fills;
      turned = t.turned refl;
      takes = takes_of g.D.Disk g.P.Policy _ _ _ _ _ _ _ t;
    }
