use Rattle.std.proofs.Common.{get_or, None, arith}
use Rattle.index.specs.Slots.{slots_of}
use Rattle.index.proofs.Changes.{some_entry, within_from_some}
use Rattle.index.proofs.Updates.{removed_size, removed_different, removed_map}
use Rattle.index.proofs.index.Index.take_out.Goals as goal

pub vacate-requires-clause-within : goal.vacate-requires-clause-within
vacate-requires-clause-within g c = within_from_some _ c.args.place c.requires.taken

pub overflow_sub-self : goal.overflow_sub-self
overflow_sub-self g c =
    let xs = slots_of c.args.self.now in let p = c.args.place in
    let there = (some_entry (get_or xs p None) c.requires.taken).1 in
    let size = removed_size g.K.Key.code g.K.Key.spread xs c.requires.sound.different p _ there _ c.vacate.ensures in
    omega (arith, c.requires.sound.counted)

pub returns : goal.returns
returns g c =
    let code = g.K.Key.code in let spread = g.K.Key.spread in
    let xs = slots_of c.args.self.now in let p = c.args.place in
    let there = (some_entry (get_or xs p None) c.requires.taken).1 in
    let sound = c.requires.sound in
    let size = removed_size code spread xs sound.different p _ there _ c.vacate.ensures in
    record {
      sound = record {
        counted = omega (arith, sound.counted);
        different = removed_different code spread xs sound.different p _ there _ c.vacate.ensures;
        reached = c.vacate.ensures.reached;
      };
      map = λ key number is. removed_map code spread xs sound.different p _ is _ c.vacate.ensures;
    }
