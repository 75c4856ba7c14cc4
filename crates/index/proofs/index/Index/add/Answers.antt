use Rattle.std.proofs.Common.{◌<◌, length, arith, rules}
use Rattle.index.specs.declared.slot.Entry.{Entry}
use Rattle.index.specs.Slots.{slots_of}
use Rattle.index.proofs.Updates.{reached_set, added_size, added_room, added_different, added_map}
use Rattle.index.proofs.index.Index.add.Goals as goal

pub overflow_add-self : goal.overflow_add-self
overflow_add-self g c =
    let entry : Entry g.row.K.Denot = record { key = c.args.key; number = c.args.number } in
    let room = added_room g.K.Key.code g.K.Key.spread _ c.requires.sound.different c.args.place entry c.requires.room in
    let h : c.args.self.now.taken < length c.args.self.now.slots.now = omega (arith, c.requires.sound.counted) in
    search rules

pub returns : goal.returns
returns g c =
    let code = g.K.Key.code in let spread = g.K.Key.spread in
    let xs = slots_of c.args.self.now in let p = c.args.place in
    let entry : Entry g.row.K.Denot = record { key = c.args.key; number = c.args.number } in
    let open' = c.requires.room in
    let sound = c.requires.sound in
    let size = added_size code spread xs sound.different p entry open' in
    record {
      sound = record {
        counted = omega (arith, sound.counted);
        different = added_different code spread xs sound.different p entry open';
        reached = reached_set code spread xs p entry open'.within sound.reached open'.way;
      };
      map = added_map code spread xs sound.different p entry open';
    }
