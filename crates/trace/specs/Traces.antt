-- What a trace is: a text of lines with their endings, and the touches that its lines ask for. Assumes nothing.
use Rattle.std.specs.Prelude.{◌≡◌, ℕ, ◌+◌, ◌*◌, ◌^◌, ◌≤◌, List, [], ◌∷◌, ◌++◌, map, length, take, Ok, codes, Result}
use Rattle.std.specs.List.{AllByRecursion}
use Rattle.base.specs.Keys.{volume_code}
use Rattle.base.specs.declared.limits.TheConstants.{MAX_TEXT_BYTES, MAX_TOUCHES, SECTOR_BYTES}
use Rattle.base.specs.declared.key.volume.VolumeKey.{VolumeKey}
use Rattle.trace.specs.declared.fault.ReplayFault.{ReplayFault}
use Rattle.trace.specs.declared.fields.TheConstants.{LAST_UNIT, LAST_SECTOR, MAX_SECTORS}
use Rattle.trace.specs.Splits.{comma, point, line_feed, carriage_return, Lacks}
use Rattle.trace.specs.Numerals.{value}
use Rattle.trace.specs.Touches.{sectors_from}

-- five fields, with commas between them and none in them
pub record FiveFields (line : List ℕ) : Type 0 where
  pub asu : List ℕ
  pub lba : List ℕ
  pub size : List ℕ
  pub opcode : List ℕ
  pub stamp : List ℕ
  pub line_is : line ≡ asu ++ (comma ∷ (lba ++ (comma ∷ (size ++ (comma ∷ (opcode ++ (comma ∷ stamp)))))))
  pub apart : AllByRecursion (Lacks comma) (asu ∷ (lba ∷ (size ∷ (opcode ∷ (stamp ∷ [])))))

-- one to `most` decimal digits that write n
pub record Number (most : ℕ) (bs : List ℕ) (n : ℕ) : Type 0 where
  pub some : 1 ≤ length bs
  pub few : length bs ≤ most
  pub digits : AllByRecursion (λ b. (48 ≤ b) × (b ≤ 57)) bs
  pub writes : value bs ≡ n

-- the bytes are a number, and it is not above the greatest
pub record UpTo (greatest : ℕ) (bs : List ℕ) : Type 0 where
  pub n : ℕ
  pub is : Number 10 bs n
  pub most : n ≤ greatest

-- so many bytes are whole sectors, at least one and at most the sectors of the largest access
pub record Whole (bytes sectors : ℕ) : Type 0 where
  pub is : bytes ≡ sectors * SECTOR_BYTES
  pub some : 1 ≤ sectors
  pub few : sectors ≤ MAX_SECTORS

-- the first three fields are good: a unit, a first sector, and the size of so many sectors
pub record Numbers {line : List ℕ} (f : FiveFields line) (first sectors : ℕ) : Type 0 where
  pub unit : UpTo LAST_UNIT f.asu
  pub first_is : Number 10 f.lba first
  pub first_most : first ≤ LAST_SECTOR
  pub bytes : ℕ
  pub bytes_are : Number 10 f.size bytes
  pub whole : Whole bytes sectors

-- an opcode is one letter of these four
pub data OpcodeText : List ℕ → Type 0 where
  upper_r : OpcodeText (codes "R")
  lower_r : OpcodeText (codes "r")
  upper_w : OpcodeText (codes "W")
  lower_w : OpcodeText (codes "w")

-- a time stamp is a number, or a number, a point and digits of a fraction
pub data TimeStamp : List ℕ → Type 0 where
  whole : {bs : List ℕ} {n : ℕ} → Number 10 bs n → TimeStamp bs
  fraction : {bs cs : List ℕ} {n m : ℕ} → Number 10 bs n → Number 9 cs m → TimeStamp (bs ++ (point ∷ cs))

-- a line without its ending, and its touches: the sectors upward from the first, of which the last has a number of 32 bits too
pub record Line (text touches : List ℕ) : Type 0 where
  pub fields : FiveFields text
  pub first : ℕ
  pub sectors : ℕ
  pub numbers : Numbers fields first sectors
  pub opcode_is : OpcodeText fields.opcode
  pub stamp_is : TimeStamp fields.stamp
  pub last : first + sectors ≤ 2 ^ 32
  pub touches_are : touches ≡ sectors_from numbers.unit.n first sectors

-- a text and its touches, line by line: the last line may lack its ending
pub data Trace : List ℕ → List ℕ → Type 0 where
  none : Trace [] []
  last : {line ts : List ℕ} → Line line ts → Trace line ts
  fed : {line ts rest us : List ℕ} → Line line ts → Trace rest us → Trace (line ++ (line_feed ∷ rest)) (ts ++ us)
  returned : {line ts rest us : List ℕ} → Line line ts → Trace rest us → Trace (line ++ (carriage_return ∷ (line_feed ∷ rest))) (ts ++ us)

-- the limits: the longest text, the most touches, and no more touches than places
pub record Within (text : List ℕ) (count places : ℕ) : Type 0 where
  pub short : length text ≤ MAX_TEXT_BYTES
  pub few : count ≤ MAX_TOUCHES
  pub room : count ≤ places

-- Reading accepts exactly the traces within the limits. It answers how many touches they have, and leaves these, by their codes,
-- in the first places.
pub record Reads (text : List ℕ) (answer : Result ℕ ReplayFault) (before after : List VolumeKey) : Type 0 where
  pub sound : (n : ℕ) → answer ≡ Ok n → Within text n (length before) × Trace text (map volume_code (take n after))
  pub complete : (ts : List ℕ) → Trace text ts → Within text (length ts) (length before) →
      (answer ≡ Ok (length ts)) × (map volume_code (take (length ts) after) ≡ ts)
