-- What looking for a key comes to, and what freeing a slot leaves.
use Rattle.std.specs.Prelude.{◌≡◌, ℕ, ◌<◌, ◌≤◌, ◌==◌, Bool, true, not, cond}
use Rattle.std.specs.Prelude.{List, length, sum_by, count_by, slice_index_or, slice_set, Option, is_some, Some, None}
use Rattle.index.specs.declared.slot.Entry.{Entry}
use Rattle.index.specs.declared.index.probing.Probe.{Probe}
use Rattle.index.specs.declared.index.probing.Stop.{Stop}
use Rattle.index.specs.declared.index.probing.Probe.TheVariants.{Found, Vacant, Full}
use Rattle.index.specs.Maps.{Map, after_remove}
use Rattle.index.specs.Slots.{holds, Before, AllReached}

-- no slot holds the key
abbrev pub Absent : {K : Type 0} → (K → ℕ) → List (Option (Entry K)) → K → Type 0
Absent code slots key = count_by (holds code (code key)) slots ≡ 0

-- a free slot where the key, which no slot holds, would be reached
pub record Open {K : Type 0} (code spread : K → ℕ) (slots : List (Option (Entry K))) (key : K) (place : ℕ) : Type 0 where
  pub within : place < length slots
  pub free : slice_index_or slots place None ≡ None
  pub absent : Absent code slots key
  pub way : (p : ℕ) → p < length slots → Before spread slots key p place → is_some (slice_index_or slots p None) ≡ true

-- how a search for a code stops at a slot: at a free one without a number, and at one that holds a key with the code with its number
abbrev pub stop_in : {K : Type 0} → (K → ℕ) → ℕ → Option (Entry K) → Option (Option ℕ)
stop_in code c None = Some None
stop_in code c (Some entry) = cond (c == code entry.key) (Some (Some entry.number)) None

-- whether it passes the slot, which is then taken by a key with another code
abbrev pub passes : {K : Type 0} → (K → ℕ) → ℕ → Option (Entry K) → Bool
passes code c slot = not (is_some (stop_in code c slot))

-- every slot from one place up to another passes
abbrev pub Passed : {K : Type 0} → (K → ℕ) → List (Option (Entry K)) → ℕ → ℕ → ℕ → Type 0
Passed code slots c from to = (p : ℕ) → from ≤ p → p < to → passes code c (slice_index_or slots p None) ≡ true

-- the first place from one up to another whose slot does not pass, and the number there
abbrev pub StopsBetween : {K : Type 0} → (K → ℕ) → List (Option (Entry K)) → ℕ → ℕ → ℕ → Option Stop → Type 0
StopsBetween code slots c from to None = Passed code slots c from to
StopsBetween code slots c from to (Some s) =
    (from ≤ s.place) × (s.place < to) × (stop_in code c (slice_index_or slots s.place None) ≡ Some s.number)
    × Passed code slots c from s.place

-- the first place on the way of a key whose slot does not pass, and the number there
abbrev pub Stops : {K : Type 0} → (K → ℕ) → (K → ℕ) → List (Option (Entry K)) → K → Option Stop → Type 0
Stops code spread slots key None = Passed code slots (code key) 0 (length slots)
Stops code spread slots key (Some s) =
    (s.place < length slots) × (stop_in code (code key) (slice_index_or slots s.place None) ≡ Some s.number)
    × ((p : ℕ) → p < length slots → Before spread slots key p s.place → passes code (code key) (slice_index_or slots p None) ≡ true)

-- the key's slot with its number, or the slot to put it into, or neither, with every slot taken
abbrev pub Probed : {K : Type 0} → (K → ℕ) → (K → ℕ) → List (Option (Entry K)) → K → Probe → Type 0
Probed code spread slots key (Found place number) = slice_index_or slots place None ≡ Some (record { key = key; number = number })
Probed code spread slots key (Vacant place) = Open code spread slots key place
Probed code spread slots key Full = Absent code slots key × (count_by is_some slots ≡ length slots)

-- slots with one freed, in some order in which each key is reached
pub record Vacated {K : Type 0} (spread : K → ℕ) (slots : List (Option (Entry K))) (place : ℕ)
    (after : List (Option (Entry K))) : Type 0 where
  pub long : length after ≡ length slots
  pub same : (f : Option (Entry K) → ℕ) → sum_by f after ≡ sum_by f (slice_set slots place None)
  pub reached : AllReached spread after

-- what looking for a key tells of the map that the slots hold: the key's number, or that it has none, and whether a slot is left
abbrev pub Tells : Map → ℕ → Probe → Type 0
Tells m code (Found place number) = m.at code ≡ Some number
Tells m code (Vacant place) = (m.at code ≡ None) × (m.size < m.places)
Tells m code Full = (m.at code ≡ None) × (m.places ≤ m.size)

-- the map afterwards is the one before without the key that stands in a slot
abbrev pub WithoutKeyIn : {K : Type 0} → (K → ℕ) → Option (Entry K) → Map → Map → Type 0
WithoutKeyIn {K} code slot before after =
    (key : K) (number : ℕ) → slot ≡ Some (record { key = key; number = number }) → after ≡ after_remove before (code key)
