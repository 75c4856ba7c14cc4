-- Turns that a cache has taken, and what the disk alone would have done with them. Assumes nothing.
use Rattle.std.specs.Prelude.{◌≡◌, ℕ, ◌<◌, ◌≤◌, Bool, true, cond, not, ◌&&◌, ◌||◌, List, [], ◌∷◌, ◌++◌, map, length, Result}
use Rattle.base.specs.declared.refusal.Refusal.{Refusal}
use Rattle.base.specs.Lists.{member}
use Rattle.disk.specs.declared.turn.Request.{Request}
use Rattle.disk.specs.declared.turn.Request.TheVariants.{Flush}
use Rattle.disk.specs.Meaning.{Meaning, unserved, read_one, written_one, largest_tally}
use Rattle.disk.specs.Asked.{Asked, is_read, is_write, answer_asked, after_asked, buffer_asked}
use Rattle.disk.specs.Asked.{reads_in, writes_in, bytes_after, buffer_after, after_all}
use Rattle.policy.specs.Machine.{Rules}
use Rattle.cache.specs.View.{View, seen}
use Rattle.cache.specs.Requests.{Turned}
use Rattle.cache.specs.Flush.{Flushed, dirty_counted}

-- One turn: what was asked, the buffer after it, and the answer; then the cache as it was after it.
pub record Event (State : Type 0) : Type 0 where
  pub asked : Asked
  pub after : List ℕ
  pub answer : Result (Unit {0}) Refusal
  pub cache : View State

-- what was asked in some turns
abbrev pub all_asked : {State : Type 0} → List (Event State) → List Asked
all_asked {State} es = map (λ (e : Event State). e.asked) es

-- whether a turn reads or writes a sector
abbrev pub accesses : Request → Bool
accesses q = is_read q || is_write q

-- what holds of every turn of a list, each with the turns before it
abbrev pub Each : {State : Type 0} → (List (Event State) → Event State → Type 0) →
    List (Event State) → List (Event State) → Type 0
Each P past [] = Unit {0}
Each P past (e ∷ es) = P past e × Each P (past ++ (e ∷ [])) es

-- the cache after some turns that began with v
abbrev pub cache_after : {State : Type 0} → View State → List (Event State) → View State
cache_after v [] = v
cache_after v (e ∷ es) = cache_after e.cache es

-- A turn that a cache v takes, as each of its calls promises it: what the disk that the cache shows does with it, and what it costs.
pub record Took {Setting State : Type 0} (r : Rules Setting State) (v : View State) (e : Event State) : Type 0 where
  pub answers : e.answer ≡ answer_asked (seen v) e.asked
  pub fills : e.after ≡ buffer_asked (seen v) e.asked
  pub shows : seen e.cache ≡ after_asked (seen v) e.asked
  pub turned : accesses e.asked.request ≡ true → Turned r e.asked.request v e.asked.sector (length e.asked.buffer) e.cache
  pub flushed : e.asked.request ≡ Flush → Flushed v e.cache

-- the disk m alone, as it was at the start
module _ {State : Type 0} (m : Meaning) where
  -- the disk alone after some turns, with its tallies from the start on: the accepted reads and writes, each cut at the largest value
  abbrev pub alone_after : List (Event State) → Meaning
  alone_after es = after_all (unserved m) (all_asked es)

  -- A turn after others is that of the disk alone: its answer, and the buffer, which only an accepted read changes; after a flush
  -- the disk below holds what the disk alone would hold.
  pub record AsAlone (past : List (Event State)) (e : Event State) : Type 0 where
    pub answers : e.answer ≡ answer_asked m e.asked
    pub bytes : e.after ≡ buffer_after m (all_asked past) e.asked
    pub flushed : e.asked.request ≡ Flush → e.cache.below.bytes ≡ bytes_after m (all_asked past)

-- the touches of what was asked: the sectors of the reads and writes that m accepts, of sectors that are not pinned
abbrev pub touch_of : Meaning → List ℕ → Asked → List ℕ
touch_of m pinned a = cond ((reads_in m a || writes_in m a) && not (member a.sector pinned)) (a.sector ∷ []) []

abbrev pub touches_of : Meaning → List ℕ → List Asked → List ℕ
touches_of m pinned [] = []
touches_of m pinned (a ∷ more) = touch_of m pinned a ++ touches_of m pinned more

-- Served m m': a disk m that serves at most one read and then at most one write is m'.
pub data Served (m : Meaning) : Meaning → Type 0 where
  nothing : Served m m
  reads : Served m (read_one m)
  reads_writes : (x : ℕ) (b : List ℕ) → Served m (written_one (read_one m) x b)

-- What the disk below serves in a turn of a cache v. A read or write turn: at most one read and one write, and nothing at all unless F
-- rises or stands at its largest value. A flush: no read, and one write for each dirty sector.
pub record Serves {State : Type 0} (v : View State) (e : Event State) : Type 0 where
  pub few : accesses e.asked.request ≡ true → Served v.below e.cache.below
  pub idle : accesses e.asked.request ≡ true → e.cache.fetched ≤ v.fetched → v.fetched < largest_tally → e.cache.below ≡ v.below
  pub flush_reads : e.asked.request ≡ Flush → e.cache.below.reads ≡ v.below.reads
  pub flush_writes : e.asked.request ≡ Flush → e.cache.below.writes ≡ dirty_counted v
