-- What a flush does. Assumes nothing.
use Rattle.std.specs.Prelude.{◌≡◌, ℕ, ◌+◌, min, cond, List, [], length}
use Rattle.disk.specs.Meaning.{Meaning, largest_tally}
use Rattle.cache.specs.Places.{pins, dirty, is_dirty}
use Rattle.cache.specs.View.{View, seen, machine}

-- the bytes below once every dirty sector, and no other, has been written there
abbrev pub dirty_written : {State : Type 0} → View State → ℕ → List ℕ
dirty_written v x = cond (is_dirty v.store x) ((seen v).bytes x) (v.below.bytes x)

-- the tally of writes below, with one more for each dirty sector
abbrev pub dirty_counted : {State : Type 0} → View State → ℕ
dirty_counted v = min (v.below.writes + length (dirty v.store)) largest_tally

-- A flush, in whatever order it writes: the cache is the same disk and frame machine with the same pins and F, no sector is dirty, and
-- the disk below has served one write for each sector that was dirty, with the cache's bytes, and no read.
pub record Flushed {State : Type 0} (v v' : View State) : Type 0 where
  pub shows : seen v' ≡ seen v
  pub stays : machine v' ≡ machine v
  pub pinned : pins v'.store ≡ pins v.store
  pub fetched : v'.fetched ≡ v.fetched
  pub clean : dirty v'.store ≡ []
  pub written : v'.below.bytes ≡ dirty_written v
  pub bytes : v'.below.bytes ≡ (seen v).bytes
  pub reads : v'.below.reads ≡ v.below.reads
  pub writes : v'.below.writes ≡ dirty_counted v

-- The disk that the end of a cache gives back: it is as a flush leaves it.
pub record Ended {State : Type 0} (v : View State) (m : Meaning) : Type 0 where
  pub count : m.count ≡ v.below.count
  pub dead : m.dead ≡ v.below.dead
  pub written : m.bytes ≡ dirty_written v
  pub bytes : m.bytes ≡ (seen v).bytes
  pub reads : m.reads ≡ v.below.reads
  pub writes : m.writes ≡ dirty_counted v
