use Rattle.std.proofs.Common.{get_or, refl, sym, ap, ◌∙◌}
use Rattle.std.proofs.lemmas.Bool.{cond-true, lt-ltb}
use Rattle.index.specs.Maps.{after_remove}
use Rattle.index.specs.Slots.{map_of}
use Rattle.base.proofs.Codes.{code_at}
use Rattle.planning.proofs.held.HeldKeys.put_out.Goals as goal

pub returns-then-frame-self : goal.returns-then-frame-self
returns-then-frame-self g c =
    let code = g.K.Key.code in
    let frames = c.args.self.now in
    let filled = c.if-frame-self.true in
    let key = code_at code c.args.keys.now (get_or frames.held.now c.args.frame 0) c.index-keys-place.result
    (c.requires.held c.args.frame filled) c.index-keys-place.is in
    record {
      sound = c.remove.ensures.sound;
      map = c.remove.ensures.map ∙ ap (after_remove (map_of code frames.index)) key ∙
          sym (cond-true _ _ _ (lt-ltb c.args.frame frames.filled filled));
      held = refl;
      filled = refl;
    }
