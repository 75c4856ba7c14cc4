-- A run of turns, from the start of a cache on. Assumes nothing.
use Rattle.std.specs.Prelude.{◌≡◌, List, [], ◌∷◌}
use Rattle.disk.specs.declared.turn.Turn.{Turn}
use Rattle.disk.specs.Meaning.{unserved}
use Rattle.disk.specs.Turns.{asked_in, GivenBack, AllAnswered, after_turns}
use Rattle.disk.specs.declared.disk.Disk as disks
use Rattle.policy.specs.declared.policy.Policy as policies
use Rattle.cache.specs.declared.set_up.SetUpCache.{SetUpCache}
use Rattle.cache.specs.declared.cache.Cache.{Cache}
use Rattle.cache.specs.Events.{Event, Took}
use Rattle.cache.specs.Promise.{Taken, Promise}
use Rattle.cache.specs.View.{seen}
use Rattle.cache.specs.Reading.{view}
use Rattle.cache.specs.SetUp.{FirstState, Begins, origin}

-- a turn as it was given, as it is given back, and the event that it was
pub record Report {State : Type 0} (t t' : Turn) (e : Event State) : Type 0 where
  pub asked : e.asked ≡ asked_in t
  pub back : GivenBack t t' e.answer e.after

module _ {D P Setting : Type 0} (d : disks.Ghosts D) (p : policies.Ghosts P Setting) where
  -- one turn taken by a cache c, which then is c', as its call promises it, and the event that it was
  pub record TakesTurn (c : Cache D P) (t t' : Turn) (e : Event p.State) (c' : Cache D P) : Type 0 where
    pub report : Report t t' e
    pub leaves : e.cache ≡ view d p c'
    pub took : Took p.rules (view d p c) e

  -- turns taken one after another, each by the cache that the one before left
  pub data TakesTurns : Cache D P → List Turn → List Turn → List (Event p.State) → Cache D P → Type 0 where
    none : {c : Cache D P} → TakesTurns c [] [] [] c
    more : {c c' c'' : Cache D P} {t t' : Turn} {e : Event p.State} {ts ts' : List Turn} {es : List (Event p.State)} →
        TakesTurn c t t' e c' → TakesTurns c' ts ts' es c'' → TakesTurns c (t ∷ ts) (t' ∷ ts') (e ∷ es) c''

  -- one turn, whatever event it was
  pub record TakesOne (c : Cache D P) (t t' : Turn) (c' : Cache D P) : Type 0 where
    pub event : Event p.State
    pub taken : TakesTurn c t t' event c'

  -- A run: a cache that was set up as s, started, and has taken the turns ts, which then are ts', is c. It keeps the whole promise.
  pub record Ran (s : SetUpCache D P) (setting : Setting) (ts ts' : List Turn) (c : Cache D P) : Type 0 where
    pub started : Cache D P
    pub begins : Begins d p s started
    pub events : List (Event p.State)
    pub turns : TakesTurns started ts ts' events c
    -- the answers and buffers are those that the disk alone gives to the list, and the cache is the disk that it would be
    pub alone : AllAnswered (d.meaning s.below) [] ts ts'
    pub shows : seen (view d p c) ≡ after_turns (unserved (d.meaning s.below)) ts
    pub taken : Taken p.rules (origin d p s setting) events (view d p c)
    pub promise : Promise p.rules (origin d p s setting) events (view d p c)

  -- whatever the setting was whose first state the policy is in
  pub record Runs (s : SetUpCache D P) (ts ts' : List Turn) (c : Cache D P) : Type 0 where
    pub ran : (setting : Setting) → FirstState d p s setting → Ran s setting ts ts' c
