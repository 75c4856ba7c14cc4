use Rattle.std.proofs.Common.{◌≡◌, length, Some, vec_len, refl, ap, rules}
use Rattle.disk.proofs.Turns.{read_bytes, read_answers, read_after}
use Rattle.disk.proofs.serve.take_turn.Goals as goal

pub returns-in-Read : goal.returns-in-Read
returns-in-Read g c =
    let m = g.D.Disk.meaning c.args.disk.now in
    let t = c.args.turn.now in
    let bs = c.deref_mut.result.now in
    let is = c.in-Read.is in
    let same = c.deref_mut.ensures.value in
    let long : length c.read.new.buffer ≡ vec_len t.buffer = search rules in
    record {
      kept = c.read.ensures.kept;
      done = record {
        task = refl;
        request = refl;
        sector = refl;
        bytes_are = read_bytes m t bs is same _ long c.read.ensures.fills;
        answers = ap Some (read_answers m t bs is same _ c.read.ensures.answers);
      };
      after = read_after m t bs is same _ c.read.ensures.after;
    }
