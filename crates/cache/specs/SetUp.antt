-- A cache that is set up: what holds of it, what a pin does, and what it is once started. Assumes nothing.
use Rattle.std.specs.Prelude.{◌≡◌, ℕ, true, false, cond, List, [], ◌∷◌, ◌++◌, length, is_ok, Ok, Err, Result, nat_lt}
use Rattle.base.specs.declared.refusal.Refusal.{Refusal}
use Rattle.base.specs.declared.refusal.Refusal.TheVariants.{NoSuchSector, AlreadyPinned, PinPlacesTaken, DeadSector}
use Rattle.base.specs.Geometries.{frames_of}
use Rattle.base.specs.Lists.{member}
use Rattle.disk.specs.Meaning.{Meaning, read_one}
use Rattle.disk.specs.declared.disk.Disk as disks
use Rattle.policy.specs.declared.policy.Policy as policies
use Rattle.cache.specs.declared.set_up.SetUpCache.{SetUpCache}
use Rattle.cache.specs.declared.cache.Cache.{Cache}
use Rattle.cache.specs.Places.{used, dirty, pins}
use Rattle.cache.specs.View.{View, Sound, seen}
use Rattle.cache.specs.Promise.{Origin, Taken}
use Rattle.cache.specs.Reading.{view}

-- how a pin is answered, over a disk m, with so many pin places and these sectors pinned already
abbrev pub pin_answer : Meaning → ℕ → List ℕ → ℕ → Result (Unit {0}) Refusal
pin_answer m places pinned x =
    cond (nat_lt x m.count)
    (cond (member x pinned) (Err AlreadyPinned)
    (cond (nat_lt (length pinned) places) (cond (m.dead x) (Err DeadSector) (Ok tt)) (Err PinPlacesTaken)))
    (Err NoSuchSector)

-- A pin: where it is accepted the sector stands behind the others and the disk below has served a read; a refused one changes nothing.
pub record Pinned {State : Type 0} (v : View State) (places x : ℕ) (answer : Result (Unit {0}) Refusal) (v' : View State) : Type 0 where
  pub answers : answer ≡ pin_answer v.below places (pins v.store) x
  pub refused : is_ok answer ≡ false → v' ≡ v
  pub pinned : is_ok answer ≡ true → pins v'.store ≡ pins v.store ++ (x ∷ [])
  pub below : is_ok answer ≡ true → v'.below ≡ read_one v.below
  pub policy : v'.policy ≡ v.policy
  pub marks : dirty v'.store ≡ dirty v.store

module _ {D P Setting : Type 0} (d : disks.Ghosts D) (p : policies.Ghosts P Setting) where
  -- a cache that is set up, read as one that has served nothing
  abbrev pub set_up_view : SetUpCache D P → View p.State
  set_up_view s = record { below = d.meaning s.below; policy = p.model s.policy; store = s.store; fetched = 0; reads = 0; writes = 0 }

  -- the policy is in its first state for the frames and a setting
  abbrev pub FirstState : SetUpCache D P → Setting → Type 0
  FirstState s setting = p.model s.policy ≡ p.rules.first setting (frames_of s.geometry)

  -- a sound one, over a disk that is: the policy is in a first state, no frame is filled, and what is pinned is clean
  pub record Ready (s : SetUpCache D P) : Type 0 where
    pub under : d.sound s.below
    pub own : Sound p.rules (set_up_view s)
    pub setting : Setting
    pub first : FirstState s setting
    pub unfilled : used s.store ≡ s.store.pinned
    pub clean : dirty s.store ≡ []

  -- what a cache is started with
  abbrev pub origin : SetUpCache D P → Setting → Origin Setting p.State
  origin s setting = record { cache = set_up_view s; frames = frames_of s.geometry; setting = setting }

  -- A cache c that s was moved into by its start: the same disk, with F and its own tallies at 0, and no turns taken.
  pub record Begins (s : SetUpCache D P) (c : Cache D P) : Type 0 where
    pub same : view d p c ≡ set_up_view s
    pub below : c.below ≡ s.below
    pub bytes : (seen (view d p c)).bytes ≡ (d.meaning s.below).bytes
    pub taken : (setting : Setting) → FirstState s setting → Taken p.rules (origin s setting) [] (view d p c)
