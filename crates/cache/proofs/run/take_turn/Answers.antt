use Rattle.std.proofs.Common.{◌≡◌, length, Ok, vec_items, vec_len, sym, refl, rules}
use Rattle.std.proofs.lemmas.List.{with_items_is}
use Rattle.disk.specs.declared.turn.Request.TheVariants.{Read, Write, Flush}
use Rattle.cache.specs.Reading.{event}
use Rattle.cache.proofs.run.take_turn.Goals as goal

pub returns-in-Read-clause-takes : goal.returns-in-Read-clause-takes
returns-in-Read-clause-takes g c =
    let t = c.args.turn.now in
    let q = c.read_sector.new.self in
    let ws = c.read_sector.new.buffer in
    let long : length ws ≡ vec_len t.buffer = search rules in
    record {
      event = event g.D.Disk g.P.Policy Read t.sector c.deref_mut.result.now ws (c.read_sector.result) q;
      taken = record {
        report = record {
          asked = rw (c.in-Read.is, c.deref_mut.ensures.value);
          back = record { task = refl; request = refl; sector = refl; bytes_are = with_items_is t.buffer ws long; answers = refl };
        };
        leaves = refl;
        took = c.read_sector.ensures.takes.took;
      };
    }

pub returns-in-Write-clause-takes : goal.returns-in-Write-clause-takes
returns-in-Write-clause-takes g c =
    let t = c.args.turn.now in
    let q = c.write_sector.new.self in
    let bs = c.deref.result.now in
    record {
      event = event g.D.Disk g.P.Policy Write t.sector bs bs (c.write_sector.result) q;
      taken = record {
        report = record {
          asked = rw (c.in-Write.is, c.deref.ensures.value);
          back = record { task = refl; request = refl; sector = refl; bytes_are = sym c.deref.ensures.value; answers = refl };
        };
        leaves = refl;
        took = c.write_sector.ensures.takes.took;
      };
    }

pub returns-in-Flush-clause-takes : goal.returns-in-Flush-clause-takes
returns-in-Flush-clause-takes g c =
    let t = c.args.turn.now in
    let q = c.flush.new.self in
    let bs = vec_items t.buffer in
    record {
      event = event g.D.Disk g.P.Policy Flush t.sector bs bs (Ok tt) q;
      taken = record {
        report = record {
          asked = rw c.in-Flush.is;
          back = record { task = refl; request = refl; sector = refl; bytes_are = refl; answers = refl };
        };
        leaves = refl;
        took = (c.flush.ensures.takes t.sector bs).took;
      };
    }
