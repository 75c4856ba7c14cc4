-- What a disk means, and what a read and a write do to it. Assumes nothing.
use Rattle.std.specs.Prelude.{◌≡◌, ℕ, ◌+◌, ◌-◌, ◌^◌, ◌<◌, ◌≤◌, min, Bool, cond, List, length, is_ok, Ok, Err, Result, ◌==◌, nat_lt}
use Rattle.base.specs.declared.limits.TheConstants.{SECTOR_BYTES}
use Rattle.base.specs.declared.refusal.Refusal.{Refusal}
use Rattle.base.specs.declared.refusal.Refusal.TheVariants.{BufferLength, NoSuchSector, DeadSector}

-- What a disk holds, which of its sectors are dead, and how many reads and writes it has served.
pub record Meaning : Type 0 where
  pub count : ℕ
  pub bytes : ℕ → List ℕ
  pub dead : ℕ → Bool
  pub reads : ℕ
  pub writes : ℕ

-- the largest value of a 64-bit tally, and of a sector count
abbrev pub largest_tally : ℕ
largest_tally = 2 ^ 64 - 1

abbrev pub largest_count : ℕ
largest_count = 2 ^ 32 - 1

-- a tally raised by one, which stays at its largest value
abbrev pub raised : ℕ → ℕ
raised n = min (n + 1) largest_tally

-- a function with one value replaced
abbrev pub replaced : {X : Type 0} → (ℕ → X) → ℕ → X → ℕ → X
replaced f a v x = cond (x == a) v (f x)

-- How a call on a sector with a buffer of a length is answered: the length is judged first, then the number, then whether the
-- sector is dead.
abbrev pub answer : Meaning → ℕ → ℕ → Result (Unit {0}) Refusal
answer m sector len =
    cond (len == SECTOR_BYTES)
    (cond (nat_lt sector m.count) (cond (m.dead sector) (Err DeadSector) (Ok tt)) (Err NoSuchSector))
    (Err BufferLength)

-- what a disk of so many sectors says of a call before it looks at the sector
abbrev pub judged_call : ℕ → ℕ → ℕ → Result (Unit {0}) Refusal
judged_call count sector len =
    cond (len == SECTOR_BYTES) (cond (nat_lt sector count) (Ok tt) (Err NoSuchSector)) (Err BufferLength)

-- whether such a call is served
abbrev pub serves : Meaning → ℕ → ℕ → Bool
serves m sector len = is_ok (answer m sector len)

-- a disk that has served a read, and one that has served a write
abbrev pub read_one : Meaning → Meaning
read_one m = record m { reads = raised m.reads }

abbrev pub written_one : Meaning → ℕ → List ℕ → Meaning
written_one m sector buffer = record m { bytes = replaced m.bytes sector buffer; writes = raised m.writes }

-- the disk and the buffer after a read, and the disk after a write; a refusal changes nothing
abbrev pub after_read : Meaning → ℕ → List ℕ → Meaning
after_read m sector buffer = cond (serves m sector (length buffer)) (read_one m) m

abbrev pub buffer_read : Meaning → ℕ → List ℕ → List ℕ
buffer_read m sector buffer = cond (serves m sector (length buffer)) (m.bytes sector) buffer

abbrev pub after_write : Meaning → ℕ → List ℕ → Meaning
after_write m sector buffer = cond (serves m sector (length buffer)) (written_one m sector buffer) m

-- a disk with its tallies at 0
abbrev pub unserved : Meaning → Meaning
unserved m = record m { reads = 0; writes = 0 }

-- every sector that a disk has is SECTOR_BYTES long
abbrev pub Sized : Meaning → Type 0
Sized m = (x : ℕ) → x < m.count → length (m.bytes x) ≡ SECTOR_BYTES

-- both tallies have 64 bits
abbrev pub Tallied : Meaning → Type 0
Tallied m = (m.reads ≤ largest_tally) × (m.writes ≤ largest_tally)
