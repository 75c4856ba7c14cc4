-- What a joined disk means. Assumes nothing.
use Rattle.std.specs.Prelude.{ℕ, ◌+◌, ◌-◌, min, cond, List, nat_lt}
use Rattle.disk.specs.Meaning.{Meaning, largest_count}
use Rattle.disk.specs.declared.disk.Disk as disks
use Rattle.disk.specs.declared.joined.JoinedDisk.{JoinedDisk}

-- what a function says of the first disk's sectors, and behind them what another says of the second's
abbrev pub behind : {X : Type 0} → ℕ → (ℕ → X) → (ℕ → X) → ℕ → X
behind n first second x = cond (nat_lt x n) (first x) (second (x - n))

-- two disks as one, as many sectors as a disk can have
abbrev pub join_of : Meaning → Meaning → ℕ → ℕ → Meaning
join_of a b reads writes = record {
  count = min (a.count + b.count) largest_count;
  bytes = behind a.count a.bytes b.bytes;
  dead = behind a.count a.dead b.dead;
  reads = reads;
  writes = writes;
}

-- The two disks after a call on a sector of both: the one that has the sector has served the call, or refused it, by its own
-- number of the sector, and the other is as it was; where both as one have no such sector, so are they.
abbrev pub parts_after : (Meaning → ℕ → List ℕ → Meaning) → Meaning × Meaning → ℕ → List ℕ → Meaning × Meaning
parts_after call (a, b) sector buffer =
    cond (nat_lt sector (min (a.count + b.count) largest_count))
    (cond (nat_lt sector a.count) (call a sector buffer, b) (a, call b (sector - a.count) buffer))
    (a, b)

module _ {A B : Type 0} (a : disks.Ghosts A) (b : disks.Ghosts B) where
  abbrev pub joined : JoinedDisk A B → Meaning
  joined d = join_of (a.meaning d.first) (b.meaning d.second) d.tallies.reads d.tallies.writes

  -- what its two disks mean
  abbrev pub both : JoinedDisk A B → Meaning × Meaning
  both d = (a.meaning d.first, b.meaning d.second)

  -- a joined disk is sound where both its disks are
  pub record BothSound (d : JoinedDisk A B) : Type 0 where
    pub first : a.sound d.first
    pub second : b.sound d.second
