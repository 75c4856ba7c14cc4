-- How the slots of an index hold its map, and the property that every call needs and keeps.
use Rattle.std.specs.Prelude.{◌≡◌, ℕ, ◌+◌, ◌*◌, ◌/◌, ◌%◌, ◌^◌, ◌<◌, ◌≤◌, ◌==◌, Bool, true, false, cond}
use Rattle.std.specs.Prelude.{List, [], ◌∷◌, length, slice_index_or, count_by, Option, is_some, Some, None}
use Rattle.index.specs.declared.slot.Entry.{Entry}
use Rattle.index.specs.declared.index.Index.{Index}
use Rattle.index.specs.Maps.{Map}
use Rattle.index.specs.Places.{steps}

-- the slots of an index: None is a free one, and the others are taken
abbrev pub slots_of : {K : Type 0} → Index K → List (Option (Entry K))
slots_of index = index.slots.now

-- whether a slot holds a key with a code
abbrev pub holds : {K : Type 0} → (K → ℕ) → ℕ → Option (Entry K) → Bool
holds code c None = false
holds code c (Some entry) = c == code entry.key

-- the number in the first slot that holds a key with a code
abbrev pub number_of : {K : Type 0} → (K → ℕ) → List (Option (Entry K)) → ℕ → Option ℕ
number_of code [] c = None
number_of code (None ∷ slots) c = number_of code slots c
number_of code (Some entry ∷ slots) c = cond (c == code entry.key) (Some entry.number) (number_of code slots c)

-- the map that slots hold
abbrev pub slots_map : {K : Type 0} → (K → ℕ) → List (Option (Entry K)) → Map
slots_map code slots = record { at = number_of code slots; size = count_by is_some slots; places = length slots }

-- the map that an index holds
abbrev pub map_of : {K : Type 0} → (K → ℕ) → Index K → Map
map_of code index = slots_map code (slots_of index)

-- a spread scattered over 32 bits, by a square: keys at equal distances from one another seldom come together
unfoldable pub scattered : ℕ → ℕ
scattered spread = spread * (spread * 2 + 2654435769) % 2 ^ 32

-- the place, of so many, from which a key is looked for: its scattered spread, as a fraction of 2 ^ 32, of the places
unfoldable pub home : {K : Type 0} → (K → ℕ) → ℕ → K → ℕ
home spread places key = scattered (spread key) * places / 2 ^ 32

-- whether a place comes before another on the way from a key's home
abbrev pub Before : {K : Type 0} → (K → ℕ) → List (Option (Entry K)) → K → ℕ → ℕ → Type 0
Before spread slots key p q =
    steps (length slots) (home spread (length slots) key) p < steps (length slots) (home spread (length slots) key) q

-- each key is reached from its spread: every slot on the way from its home to its own is taken
abbrev pub AllReached : {K : Type 0} → (K → ℕ) → List (Option (Entry K)) → Type 0
AllReached {K} spread slots =
    (place : ℕ) (entry : Entry K) → slice_index_or slots place None ≡ Some entry →
    (p : ℕ) → p < length slots → Before spread slots entry.key p place → is_some (slice_index_or slots p None) ≡ true

-- what every call of an index needs and keeps
pub record SoundIndex {K : Type 0} (code spread : K → ℕ) (index : Index K) : Type 0 where
  -- the count is the number of taken slots
  pub counted : index.taken ≡ count_by is_some (slots_of index)
  -- no two slots hold keys with one code
  pub different : (c : ℕ) → count_by (holds code c) (slots_of index) ≤ 1
  pub reached : AllReached spread (slots_of index)
