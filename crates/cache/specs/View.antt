-- A cache with the disk below and the policy by their meanings, and what holds of it between calls. Assumes nothing.
use Rattle.std.specs.Prelude.{◌≡◌, ℕ, ◌+◌, ◌<◌, ◌≤◌, Bool, false, cond, List, length}
use Rattle.disk.specs.Meaning.{Meaning, Sized, Tallied}
use Rattle.base.specs.Lists.{member, place_in}
use Rattle.base.specs.declared.limits.TheConstants.{MAX_FRAMES, MAX_PINS, SECTOR_BYTES}
use Rattle.policy.specs.Machine.{Rules, Machine}
use Rattle.policy.specs.Shape.{Reached}
use Rattle.cache.specs.declared.store.Store.{Store}
use Rattle.cache.specs.Places.{HeldOnce, used, place_at, held, framed}

-- the disk below, the policy's state, the places, the fetches since start, and the cache's own tallies
pub record View (State : Type 0) : Type 0 where
  pub below : Meaning
  pub policy : State
  pub store : Store
  pub fetched : ℕ
  pub reads : ℕ
  pub writes : ℕ

-- the bytes that a cache shows of a sector: those of the place that holds it, else those below
abbrev pub shown : Store → (ℕ → List ℕ) → ℕ → List ℕ
shown s bytes x = cond (member x (held s)) (place_at s (place_in x (held s))).block (bytes x)

-- a cache as a disk
abbrev pub seen : {State : Type 0} → View State → Meaning
seen v = record { count = v.below.count; bytes = shown v.store v.below.bytes; dead = v.below.dead; reads = v.reads; writes = v.writes }

-- a cache as a frame machine
abbrev pub machine : {State : Type 0} → View State → Machine State
machine v = record { policy = v.policy; keys = framed v.store }

-- what holds of a store over a disk of so many sectors, with these dead and these bytes
pub record Holding (count : ℕ) (dead : ℕ → Bool) (bytes : ℕ → List ℕ) (s : Store) : Type 0 where
  pub apart : HeldOnce s
  -- what is held is a live sector of the disk, SECTOR_BYTES long
  pub inside : (i : ℕ) → i < used s → (place_at s i).sector < count
  pub live : (i : ℕ) → i < used s → dead (place_at s i).sector ≡ false
  pub sized : (i : ℕ) → i < used s → length (place_at s i).block ≡ SECTOR_BYTES
  -- a clean place has the disk's bytes
  pub clean : (i : ℕ) → i < used s → (place_at s i).dirty ≡ false → (place_at s i).block ≡ bytes (place_at s i).sector

-- what holds of a policy beside a store with so many pinned sectors and so many places in use
pub record Placing {Setting State : Type 0} (r : Rules Setting State) (policy : State) (pinned in_use : ℕ) : Type 0 where
  pub reached : Reached r policy
  pub most : r.frames policy ≤ MAX_FRAMES
  pub few : pinned ≤ MAX_PINS
  pub filled : r.filled policy + pinned ≡ in_use

-- what holds of a cache between calls
pub record Sound {Setting State : Type 0} (r : Rules Setting State) (v : View State) : Type 0 where
  pub placing : Placing r v.policy v.store.pinned (used v.store)
  pub holding : Holding v.below.count v.below.dead v.below.bytes v.store
  pub sizes : Sized v.below
  pub tallied : Tallied v.below
