-- What the parts of a turn do to a cache. Assumes nothing.
use Rattle.std.specs.Prelude.{ℕ, ◌+◌, ◌-◌, cond, List, Ok, Err, Result, nat_lt}
use Rattle.base.specs.declared.limits.TheConstants.{SECTOR_BYTES}
use Rattle.base.specs.declared.refusal.Refusal.{Refusal}
use Rattle.disk.specs.Meaning.{raised, serves, read_one, written_one}
use Rattle.base.specs.Lists.{member, place_in}
use Rattle.policy.specs.Machine.{Rules}
use Rattle.cache.specs.Places.{used, place_at, held, stored, installed, cleaned}
use Rattle.cache.specs.View.{View}

-- a read served below
abbrev pub looked_view : {State : Type 0} → View State → View State
looked_view v = record v { below = read_one v.below }

-- a dirty place written below, and clean
abbrev pub backed_view : {State : Type 0} → View State → ℕ → View State
backed_view v p = cond (place_at v.store p).dirty
    (record v { below = written_one v.below (place_at v.store p).sector (place_at v.store p).block; store = cleaned v.store p })
    v

-- a read served from a place, and a write into one
abbrev pub read_view : {State : Type 0} → View State → View State
read_view v = record v { reads = raised v.reads }

abbrev pub write_view : {State : Type 0} → View State → ℕ → List ℕ → View State
write_view v p b = record v { store = stored v.store p b; writes = raised v.writes }

-- a place written back, if it is in use
abbrev pub vacated_view : {State : Type 0} → View State → ℕ → View State
vacated_view v p = cond (nat_lt p (used v.store)) (backed_view v p) v

module _ {Setting State : Type 0} (r : Rules Setting State) where
  -- a use of a frame
  abbrev pub used_frame : View State → ℕ → View State
  used_frame v f = record v { policy = r.used v.policy f }

  -- a hit: the frame of the place is used, and a pin's place is of no frame
  abbrev pub used_view : View State → ℕ → View State
  used_view v p = cond (nat_lt p v.store.pinned) v (used_frame v (p - v.store.pinned))

  -- the place of the frame that the policy gives up
  abbrev pub next_place : View State → ℕ
  next_place v = v.store.pinned + r.place v.policy

  -- the policy has placed, a sector stands with its bytes in the place p, and F is raised
  abbrev pub placed_view : View State → ℕ → ℕ → List ℕ → View State
  placed_view v p x b = record v { policy = r.placed v.policy; store = installed v.store p x b; fetched = raised v.fetched }

  -- a fetch of a sector that is not held
  abbrev pub fetched_view : View State → ℕ → View State
  fetched_view v x = placed_view (vacated_view (looked_view v) (next_place v)) (next_place v) x (v.below.bytes x)

  -- an access to a sector: the place that then holds it, and the cache after it
  abbrev pub place_of : View State → ℕ → ℕ
  place_of v x = cond (member x (held v.store)) (place_in x (held v.store)) (next_place v)

  abbrev pub touched_view : View State → ℕ → View State
  touched_view v x = cond (member x (held v.store)) (used_view v (place_in x (held v.store)))
      (cond (serves v.below x SECTOR_BYTES) (fetched_view v x) v)

  -- a request with a buffer of so many bytes: an access where it is served, and nothing where it is refused
  abbrev pub judged_view : View State → ℕ → ℕ → View State
  judged_view v x len = cond (serves v.below x len) (touched_view v x) v

-- an answer that names a place where it accepts
abbrev pub with_place : Result (Unit {0}) Refusal → ℕ → Result ℕ Refusal
with_place (Ok u) p = Ok p
with_place (Err e) p = Err e
