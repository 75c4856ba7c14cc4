-- The lists that planning works in: how many places they have, and whether they are as they were. Assumes nothing.
use Rattle.std.specs.Prelude.{◌≡◌, ℕ, min, Bool, ◌&&◌, length, nat_le}
use Rattle.planning.specs.declared.lists.Lists.{Lists}
use Rattle.planning.specs.declared.lists.Places.{Places}

abbrev pub places : {K : Type 0} → Lists K → Places
places l = record { slots = length l.slots.now; next = length l.next.now; held = length l.held.now; serving = length l.serving.now }

-- how many touches there are places for
abbrev pub room_in : Places → ℕ
room_in p = min (min p.slots p.next) p.serving

-- whether they suffice for so many touches and h frames
abbrev pub enough : ℕ → ℕ → Places → Bool
enough touches h p = nat_le touches (room_in p) && nat_le h p.held

-- all lists but the serving frames are as they were
pub record Unchanged {K : Type 0} (before after : Lists K) : Type 0 where
  pub slots : after.slots.now ≡ before.slots.now
  pub next : after.next.now ≡ before.next.now
  pub held : after.held.now ≡ before.held.now

-- no list is longer or shorter than it was
abbrev pub AsLong : {K : Type 0} → Lists K → Lists K → Type 0
AsLong before after = places after ≡ places before

-- each list is still the one that was lent, so that what is said of it holds of the caller's own, and as long as it was
pub record SameLists {K : Type 0} (before after : Lists K) : Type 0 where
  pub long : AsLong before after
  pub slots : after.slots.ghost_name ≡ before.slots.ghost_name
  pub next : after.next.ghost_name ≡ before.next.ghost_name
  pub held : after.held.ghost_name ≡ before.held.ghost_name
  pub serving : after.serving.ghost_name ≡ before.serving.ghost_name
