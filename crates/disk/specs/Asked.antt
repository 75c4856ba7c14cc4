-- What is asked of a disk, and what a disk alone does with it, one request after another. Assumes nothing.
use Rattle.std.specs.Prelude.{ℕ, ◌+◌, min, Bool, true, false, cond, ◌&&◌, ◌==◌, List, [], ◌∷◌, length, count_by, Ok, Result}
use Rattle.base.specs.declared.refusal.Refusal.{Refusal}
use Rattle.disk.specs.declared.turn.Request.{Request}
use Rattle.disk.specs.declared.turn.Request.TheVariants.{Read, Write, Flush}
use Rattle.disk.specs.Meaning.{Meaning, answer, serves, after_read, buffer_read, after_write, largest_tally}

-- A request of a sector, and the bytes of the buffer that is handed in.
pub record Asked : Type 0 where
  pub request : Request
  pub sector : ℕ
  pub buffer : List ℕ

abbrev pub is_read : Request → Bool
is_read Read = true
is_read Write = false
is_read Flush = false

abbrev pub is_write : Request → Bool
is_write Read = false
is_write Write = true
is_write Flush = false

-- what a request is answered, where a call on its sector is answered r: a disk alone has nothing to flush
abbrev pub answer_request : Request → Result (Unit {0}) Refusal → Result (Unit {0}) Refusal
answer_request Read r = r
answer_request Write r = r
answer_request Flush r = Ok tt

-- the disk and the buffer after a request
abbrev pub after_request : Request → Meaning → ℕ → List ℕ → Meaning
after_request Read m x b = after_read m x b
after_request Write m x b = after_write m x b
after_request Flush m x b = m

abbrev pub buffer_request : Request → Meaning → ℕ → List ℕ → List ℕ
buffer_request Read m x b = buffer_read m x b
buffer_request Write m x b = b
buffer_request Flush m x b = b

module _ (m : Meaning) where
  -- what is answered to what is asked, and the disk and the buffer afterwards
  abbrev pub answer_asked : Asked → Result (Unit {0}) Refusal
  answer_asked a = answer_request a.request (answer m a.sector (length a.buffer))

  abbrev pub after_asked : Asked → Meaning
  after_asked a = after_request a.request m a.sector a.buffer

  abbrev pub buffer_asked : Asked → List ℕ
  buffer_asked a = buffer_request a.request m a.sector a.buffer

  -- whether it is an accepted read, or an accepted write
  abbrev pub reads_in : Asked → Bool
  reads_in a = is_read a.request && serves m a.sector (length a.buffer)

  abbrev pub writes_in : Asked → Bool
  writes_in a = is_write a.request && serves m a.sector (length a.buffer)

  -- the bytes of the last accepted write of a sector; `start` where there is none
  abbrev pub latest : List ℕ → ℕ → List Asked → List ℕ
  latest start x [] = start
  latest start x (a ∷ more) = latest (cond (writes_in a && x == a.sector) a.buffer start) x more

  -- the bytes of a sector once all this was asked: those of its last accepted write, or those at the start
  abbrev pub bytes_after : List Asked → ℕ → List ℕ
  bytes_after past x = latest (m.bytes x) x past

  -- the buffer that is given back, once all in `past` was asked: an accepted read fills it, and nothing else changes it
  abbrev pub buffer_after : List Asked → Asked → List ℕ
  buffer_after past a = cond (reads_in a) (bytes_after past a.sector) a.buffer

  -- the disk once all this was asked: each sector has the bytes of its last accepted write, and the tallies count the accepted calls
  abbrev pub after_all : List Asked → Meaning
  after_all past = record m {
    bytes = bytes_after past;
    reads = min (m.reads + count_by reads_in past) largest_tally;
    writes = min (m.writes + count_by writes_in past) largest_tally;
  }
