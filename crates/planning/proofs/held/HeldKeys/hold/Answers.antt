use Rattle.std.proofs.Common.{map, set, ap, ◌∙◌}
use Rattle.index.specs.Maps.{Map}
use Rattle.index.specs.Slots.{map_of}
use Rattle.planning.proofs.Holds.{holds_by_calls, places_put, places_out}
use Rattle.planning.proofs.held.HeldKeys.hold.Goals as goal

pub unwrap-requires : goal.unwrap-requires
unwrap-requires g c =
    let taken = holds_by_calls g.K.Key.code c.args.keys.now _ _ _ _ _ c.args.frame _ c.args.place c.index-keys-place.result _
    c.put_out.ensures.map c.put.ensures.map c.put.ensures.answer c.index-keys-place.is c.requires.within.1.1.0 c.requires.within.0
    c.requires.room in
    rw taken.0

pub returns : goal.returns
returns g c =
    let frames = c.args.self.now in
    let held = holds_by_calls g.K.Key.code c.args.keys.now _ _ _ _ _ c.args.frame _ c.args.place c.index-keys-place.result _
    c.put_out.ensures.map c.put.ensures.map c.put.ensures.answer c.index-keys-place.is c.requires.within.1.1.0 c.requires.within.0
    c.requires.room in
    record {
      sound = c.put.ensures.sound;
      places = ap (λ (n : Map). n.places) c.put.ensures.map ∙
          places_put (map_of g.K.Key.code c.put_out.new.self.index) (g.K.Key.code c.index-keys-place.result) c.args.frame ∙
          ap (λ (n : Map). n.places) c.put_out.ensures.map ∙
          places_out (map g.K.Key.code c.args.keys.now) frames.held.now (map_of g.K.Key.code frames.index) c.args.frame frames.filled;
      held = ap (λ hs. set hs c.args.frame c.args.place) c.put_out.ensures.held;
      filled = c.max-self.ensures ∙ rw c.put_out.ensures.filled;
      holds = rw c.put_out.ensures.held held.1;
    }
