-- How the index and the held-key list show which keys the frames hold. Assumes nothing.
use Rattle.std.specs.Prelude.{◌≡◌, ℕ, ◌+◌, ◌<◌, ◌≤◌, min, false, cond, List, length, map, take, nat_lt, slice_index}
use Rattle.base.specs.Lists.{member, found_in, Apart}
use Rattle.index.specs.Maps.{Map, empty, after_remove}
use Rattle.index.specs.Slots.{map_of, slots_of, SoundIndex}
use Rattle.planning.specs.declared.held.HeldKeys.{HeldKeys}

-- the keys of the filled frames, by their places in the list of touches
abbrev pub keys_at : List ℕ → List ℕ → ℕ → List ℕ
keys_at touches held filled = map (slice_index touches) (take filled held)

-- The index finds each held key's frame, and the held-key list has for each filled frame the place of its key in the list of touches.
pub record Shows (touches held : List ℕ) (index : Map) (keys : List ℕ) : Type 0 where
  pub found : (x : ℕ) → index.at x ≡ found_in x keys
  pub sized : index.size ≡ length keys
  pub placed : (f : ℕ) → f < length keys → slice_index held f < length touches
  pub holds : (f : ℕ) → f < length keys → slice_index touches (slice_index held f) ≡ slice_index keys f

-- The keys held are shown, and a new key, at a place of the list of touches, can be put into a frame, filled or the next to fill.
pub record Room (touches held : List ℕ) (index : Map) (keys : List ℕ) (frame filled place : ℕ) : Type 0 where
  pub shows : Shows touches held index keys
  pub apart : Apart keys
  pub new : member (slice_index touches place) keys ≡ false
  pub counted : filled ≡ length keys
  pub within : frame ≤ filled
  pub free : filled < index.places

-- an index without the key that a filled frame holds
abbrev pub without_frame : List ℕ → List ℕ → Map → ℕ → ℕ → Map
without_frame touches held index frame filled =
    cond (nat_lt frame filled) (after_remove index (slice_index touches (slice_index held frame))) index

-- no frame is filled yet
pub record Unfilled {K : Type 0} (code spread : K → ℕ) (frames : HeldKeys K) : Type 0 where
  pub sound : SoundIndex code spread frames.index
  pub map : map_of code frames.index ≡ empty (map_of code frames.index).places
  pub none : frames.filled ≡ 0

-- the index has a slot for each key of so many touches, or at least for one key more than there are frames
abbrev pub SlotsFor : {K : Type 0} → ℕ → HeldKeys K → Type 0
SlotsFor touches frames = min touches (length frames.held.now + 1) ≤ length (slots_of frames.index)

module _ {K : Type 0} (code : K → ℕ) (keys : List K) (frames : HeldKeys K) where
  -- the keys of the filled frames
  abbrev pub held_codes : List ℕ
  held_codes = keys_at (map code keys) frames.held.now frames.filled

  -- the frames hold these keys
  abbrev pub Holds : List ℕ → Type 0
  Holds ks = Shows (map code keys) frames.held.now (map_of code frames.index) ks

  -- the key at a place of the list can be put into a frame
  abbrev pub HasRoom : ℕ → ℕ → Type 0
  HasRoom frame place = Room (map code keys) frames.held.now (map_of code frames.index) held_codes frame frames.filled place

  -- the index without a frame's key
  abbrev pub emptied : ℕ → Map
  emptied frame = without_frame (map code keys) frames.held.now (map_of code frames.index) frame frames.filled
