use Rattle.std.proofs.Common.{◌<◌, length, get_or, None, sym, ◌∙◌, rules}
use Rattle.index.specs.Slots.{slots_of}
use Rattle.index.proofs.Changes.{held_entry, within_from_taken, within_from_holds, renumbered_size, renumbered_different}
use Rattle.index.proofs.Updates.{reached_set, renumbered_map}
use Rattle.index.proofs.index.Index.renumber.Goals as goal

pub offset_bounds-self-place : goal.offset_bounds-self-place
offset_bounds-self-place g c =
    let within : c.args.place < length c.args.self.now.slots.now = within_from_holds g.K.Key.code _ c.args.place _ c.requires.there in
    search rules

pub bounds-self-place : goal.bounds-self-place
bounds-self-place g c = within_from_holds g.K.Key.code _ c.args.place _ c.requires.there

pub returns : goal.returns
returns g c =
    let code = g.K.Key.code in let spread = g.K.Key.spread in
    let xs = slots_of c.args.self.now in let p = c.args.place in
    let there = (held_entry code g.met.K.Key.faithful c.args.key (get_or xs p None) c.requires.there).1 in
    let sound = c.requires.sound in
    record {
      sound = record {
        counted = sound.counted ∙ sym (renumbered_size code xs p _ c.args.number there sound.different);
        different = renumbered_different code xs p _ c.args.number there sound.different;
        reached = reached_set code spread xs p _ (within_from_taken xs p _ there) sound.reached (sound.reached p _ there);
      };
      map = renumbered_map code spread xs sound.different p _ there c.args.number;
    }
