-- The places of a store, and what is done to them. Assumes nothing.
use Rattle.std.specs.Prelude.{◌≡◌, ℕ, ◌+◌, ◌<◌, Bool, true, false, cond, List, [], ◌∷◌, ◌++◌, map, filter, length, take, drop}
use Rattle.std.specs.Prelude.{nat_lt, slice_index_or, slice_set}
use Rattle.arrayvec.specs.ArrayVec.{array_vec_len, with_item}
use Rattle.base.specs.Lists.{member}
use Rattle.cache.specs.declared.store.Place.{Place}
use Rattle.cache.specs.declared.store.Store.{Store}

-- how many places hold a sector
abbrev pub used : Store → ℕ
used s = array_vec_len s.places

-- a clean place with a sector and its bytes
abbrev pub clean_place : ℕ → List ℕ → Place
clean_place x b = record { sector = x; dirty = false; block = b }

-- the place i of a store, one in use
abbrev pub place_at : Store → ℕ → Place
place_at s i = slice_index_or s.places.items i (clean_place 0 [])

-- the sectors held, place by place: those pinned, then those of the frames
abbrev pub held : Store → List ℕ
held s = map (λ (p : Place). p.sector) s.places.items

abbrev pub pins : Store → List ℕ
pins s = take s.pinned (held s)

abbrev pub framed : Store → List ℕ
framed s = drop s.pinned (held s)

-- the sectors that are held and dirty, place by place, and whether one is
abbrev pub dirty : Store → List ℕ
dirty s = map (λ (p : Place). p.sector) (filter (λ (p : Place). p.dirty) s.places.items)

abbrev pub is_dirty : Store → ℕ → Bool
is_dirty s x = member x (dirty s)

-- no two places hold one sector, so that no pinned sector is in a frame
abbrev pub HeldOnce : Store → Type 0
HeldOnce s = (i j : ℕ) → i < used s → j < used s → (place_at s i).sector ≡ (place_at s j).sector → i ≡ j

-- a store with one place in use changed
abbrev pub changed : Store → ℕ → Place → Store
changed s i p = record s { places = with_item s.places i p }

-- a place with the bytes of a buffer, dirty
abbrev pub stored : Store → ℕ → List ℕ → Store
stored s i b = changed s i (record (place_at s i) { dirty = true; block = b })

-- a place marked as clean
abbrev pub cleaned : Store → ℕ → Store
cleaned s i = changed s i (record (place_at s i) { dirty = false })

-- a place put over one in use, or behind the last
abbrev pub put_place : List Place → ℕ → Place → List Place
put_place ps i p = cond (nat_lt i (length ps)) (slice_set ps i p) (ps ++ (p ∷ []))

-- a place, in use or the next, given to a sector with its bytes, clean
abbrev pub installed : Store → ℕ → ℕ → List ℕ → Store
installed s i x b = record s { places = record { items = put_place s.places.items i (clean_place x b) } }

-- the next place given to a sector that is pinned there
abbrev pub pinned_in : Store → ℕ → List ℕ → Store
pinned_in s x b = record { pinned = s.pinned + 1; places = record { items = s.places.items ++ (clean_place x b ∷ []) } }
