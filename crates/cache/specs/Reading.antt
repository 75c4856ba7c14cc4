-- How a cache is read, the ghost property that its calls need and keep, and the turns that it has taken. Assumes nothing.
use Rattle.std.specs.Prelude.{ℕ, List, [], ◌∷◌, ◌++◌, Result}
use Rattle.base.specs.declared.refusal.Refusal.{Refusal}
use Rattle.disk.specs.declared.turn.Request.{Request}
use Rattle.disk.specs.declared.disk.Disk as disks
use Rattle.policy.specs.declared.policy.Policy as policies
use Rattle.cache.specs.declared.cache.Cache.{Cache}
use Rattle.cache.specs.View.{View, Sound}
use Rattle.cache.specs.Events.{Event, Took}
use Rattle.cache.specs.Promise.{Origin, Taken, Promise}

module _ {D P Setting : Type 0} (d : disks.Ghosts D) (p : policies.Ghosts P Setting) where
  abbrev pub view : Cache D P → View p.State
  view c = record {
    below = d.meaning c.below;
    policy = p.model c.policy;
    store = c.store;
    fetched = c.fetched;
    reads = c.tallies.reads;
    writes = c.tallies.writes;
  }

  -- a cache that is sound, over a disk that is
  pub record Safe (c : Cache D P) : Type 0 where
    pub under : d.sound c.below
    pub own : Sound p.rules (view c)

  -- the event that a turn was, after which the cache is c
  abbrev pub event : Request → ℕ → List ℕ → List ℕ → Result (Unit {0}) Refusal → Cache D P → Event p.State
  event request x before after answer c = record {
    asked = record { request = request; sector = x; buffer = before };
    after = after;
    answer = answer;
    cache = view c;
  }

  -- A cache c takes a turn, and then is c': it does what the disk that it shows does, at the cost of such a turn, and whatever turns c
  -- has taken, c' has taken those and this one.
  pub record Takes (c : Cache D P) (request : Request) (x : ℕ) (before after : List ℕ) (answer : Result (Unit {0}) Refusal)
      (c' : Cache D P) : Type 0 where
    pub took : Took p.rules (view c) (event request x before after answer c')
    pub taken : (o : Origin Setting p.State) (es : List (Event p.State)) → Taken p.rules o es (view c) →
        Taken p.rules o (es ++ (event request x before after answer c' ∷ [])) (view c')

  -- the promise, for every list of turns that the cache can have taken
  abbrev pub Promised : Cache D P → Type 0
  Promised c = (o : Origin Setting p.State) (es : List (Event p.State)) → Taken p.rules o es (view c) → Promise p.rules o es (view c)
