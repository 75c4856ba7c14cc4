-- What a read or write turn does to a cache besides what it does to a disk. Assumes nothing.
use Rattle.std.specs.Prelude.{◌≡◌, ℕ, Bool, false, cond, not, ◌&&◌, ◌||◌, ◌==◌, nat_lt}
use Rattle.disk.specs.declared.turn.Request.{Request}
use Rattle.disk.specs.Meaning.{Meaning, raised, serves, read_one, written_one}
use Rattle.disk.specs.Asked.{is_write}
use Rattle.base.specs.Lists.{member}
use Rattle.policy.specs.Machine.{Rules, touch}
use Rattle.cache.specs.Places.{used, place_at, pins, framed, is_dirty}
use Rattle.cache.specs.View.{View, seen, machine}
use Rattle.cache.specs.Steps.{next_place}

module _ {Setting State : Type 0} (r : Rules Setting State) where
  -- whether a turn with a buffer of a length touches the frames: it is served, and its sector is not pinned
  abbrev pub touches_frame : View State → ℕ → ℕ → Bool
  touches_frame v x len = serves (seen v) x len && not (member x (pins v.store))

  -- whether it makes a fetch: no frame holds the sector
  abbrev pub misses : View State → ℕ → ℕ → Bool
  misses v x len = touches_frame v x len && not (member x (framed v.store))

  -- the disk below after a fetch: a read, and then a write of the sector that is put out, where that is dirty
  abbrev pub fetched_below : View State → Meaning
  fetched_below v = cond (nat_lt (next_place r v) (used v.store) && (place_at v.store (next_place r v)).dirty)
      (written_one (read_one v.below) (place_at v.store (next_place r v)).sector (place_at v.store (next_place r v)).block)
      (read_one v.below)

  -- whether a fetch puts sector y out
  abbrev pub puts_out : View State → ℕ → Bool
  puts_out v y = nat_lt (next_place r v) (used v.store) && y == (place_at v.store (next_place r v)).sector

  -- whether sector y is dirty afterwards: a fetch takes out the sector that it puts out, and a write that is served puts its own in
  abbrev pub dirty_after : Request → View State → ℕ → ℕ → ℕ → Bool
  dirty_after q v x len y =
      ((is_write q && serves (seen v) x len) && y == x) || (is_dirty v.store y && not (misses v x len && puts_out v y))

  -- A read or write turn on sector x: it touches the frames or leaves them; a fetch, and no other turn, is counted and served by the
  -- disk below. A refused turn changes nothing at all.
  pub record Turned (q : Request) (v : View State) (x len : ℕ) (v' : View State) : Type 0 where
    pub refused : serves (seen v) x len ≡ false → v' ≡ v
    pub pinned : pins v'.store ≡ pins v.store
    pub touches : machine v' ≡ cond (touches_frame v x len) (touch r (machine v) x) (machine v)
    pub counts : v'.fetched ≡ cond (misses v x len) (raised v.fetched) v.fetched
    pub below : v'.below ≡ cond (misses v x len) (fetched_below v) v.below
    pub dirty : (y : ℕ) → is_dirty v'.store y ≡ dirty_after q v x len y
