-- The promise: what holds of all the turns that a cache has taken since its start. Assumes nothing.
use Rattle.std.specs.Prelude.{◌≡◌, ℕ, ◌+◌, ◌-◌, ◌*◌, ◌≤◌, min, true, List, [], ◌∷◌, ◌++◌, length, Ok}
use Rattle.base.specs.declared.limits.TheConstants.{MAX_FRAMES, MAX_TOUCHES}
use Rattle.disk.specs.Meaning.{Meaning, largest_tally}
use Rattle.policy.specs.Machine.{Rules, start, fetches}
use Rattle.planning.specs.declared.lists.Places.{Places}
use Rattle.planning.specs.declared.plan.Plan.{Plan}
use Rattle.planning.specs.Schedules.{Demand}
use Rattle.planning.specs.Bounds.{Optimal}
use Rattle.planning.specs.Lists.{enough}
use Rattle.planning.specs.Plan.{Planning, planned, ceiling}
use Rattle.cache.specs.Places.{pins, dirty, framed}
use Rattle.cache.specs.View.{View, seen}
use Rattle.cache.specs.Events.{Event, Each, Took, AsAlone, Serves, alone_after, all_asked, touches_of, cache_after}

-- What a cache was started with: the cache itself as it then was, the number of frames, and the policy's setting.
pub record Origin (Setting State : Type 0) : Type 0 where
  pub cache : View State
  pub frames : ℕ
  pub setting : Setting

-- Planning on some touches is not refused; the serving frames that it hands out are a schedule on h frames of the fewest fetches, which
-- it answers, with the ceiling that they give; and F is at most that ceiling.
pub record Planned (touches : List ℕ) (k h : ℕ) (places : Places) (F : ℕ) : Type 0 where
  pub planning : Planning Plan
  pub accepted : planned touches k h places ≡ Ok planning
  pub optimal : Optimal h touches planning.serving planning.answer.fetches
  pub ceiling_is : planning.answer.ceiling ≡ ceiling k h planning.answer.fetches
  pub most : F ≤ planning.answer.ceiling

module _ {Setting State : Type 0} (o : Origin Setting State) where
  -- the disk alone
  abbrev pub alone : Meaning
  alone = o.cache.below

  -- the touches of some turns
  abbrev pub touches : List (Event State) → List ℕ
  touches es = touches_of alone (pins o.cache.store) (all_asked es)

module _ {Setting State : Type 0} (r : Rules Setting State) (o : Origin Setting State) where
  -- A cache at its start: 1 to MAX_FRAMES frames, none of them filled, the policy in its first state, nothing dirty or served, and F at 0.
  pub record Begun : Type 0 where
    pub some : 1 ≤ o.frames
    pub most : o.frames ≤ MAX_FRAMES
    pub first : o.cache.policy ≡ r.first o.setting o.frames
    pub unfilled : framed o.cache.store ≡ []
    pub clean : dirty o.cache.store ≡ []
    pub bytes : (seen o.cache).bytes ≡ (alone o).bytes
    pub counts : o.cache.fetched ≡ 0
    pub tallies : (o.cache.reads ≡ 0) × (o.cache.writes ≡ 0)
    pub reads : (alone o).reads ≤ largest_tally

  -- A started cache that has taken some turns since its start: one after another, each as its call promises it.
  pub record Taken (es : List (Event State)) (v : View State) : Type 0 where
    pub begun : Begun
    pub steps : Each (λ past e. Took r (cache_after o.cache past) e) [] es
    pub last : v ≡ cache_after o.cache es

  -- the fetches that the frame machine makes on the touches
  abbrev pub machine_fetches : List (Event State) → ℕ
  machine_fetches es = fetches r (start r o.setting o.frames) (touches o es)

  -- F after a turn is the frame machine's count on the touches up to that turn, cut at the largest value
  abbrev pub FetchesCounted : List (Event State) → Event State → Type 0
  FetchesCounted past e = e.cache.fetched ≡ min (machine_fetches (past ++ (e ∷ []))) largest_tally

  -- The promise of a cache of k frames that has taken some turns and then is v, with F its fetches.
  pub record Promise (es : List (Event State)) (v : View State) : Type 0 where
    -- each turn's answer and buffer are those of the disk alone, and after a flush the disk below holds its bytes
    pub answers : Each (AsAlone (alone o)) [] es
    -- in the end the cache is the disk that the disk alone would be, with the accepted reads and writes as its tallies
    pub shows : seen v ≡ alone_after (alone o) es
    -- F is the frame machine's fetches on the touches, cut at the largest value, and so it was after each turn
    pub counts : v.fetched ≡ min (machine_fetches es) largest_tally
    pub turnwise : Each FetchesCounted [] es
    -- the reads that the disk below has served since the start are these fetches
    pub reads : v.below.reads ≡ min ((alone o).reads + machine_fetches es) largest_tally
    -- what the disk below serves in each turn
    pub below : Each (λ past e. Serves (cache_after o.cache past) e) [] es
    -- the bound against every demand schedule on h frames
    pub bound : (h d : ℕ) → 1 ≤ h → h ≤ o.frames → Demand h [] (touches o es) d →
        (o.frames - h + 1) * v.fetched ≤ o.frames * d + o.frames * (o.frames - h + 1)
    -- planning on the touches
    pub plans : length (touches o es) ≤ MAX_TOUCHES → (h : ℕ) → 1 ≤ h → h ≤ o.frames → (places : Places) →
        enough (length (touches o es)) h places ≡ true → Planned (touches o es) o.frames h places v.fetched
