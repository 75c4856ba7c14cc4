-- What a line of a trace asks for, and how its fields are judged, from the left to the right. Assumes nothing.
use Rattle.std.specs.Prelude.{ℕ, ◌+◌, ◌-◌, ◌/◌, ◌%◌, ◌==◌, nat_le, Bool, false, cond, ◌&&◌, ◌||◌, List, [], ◌∷◌, length, slice_index_or}
use Rattle.std.specs.Prelude.{Option, Some, None, is_some, Result, Ok, Err}
use Rattle.std.specs.Option.{ok_or}
use Rattle.base.specs.Results.{and_then, map_err}
use Rattle.base.specs.declared.limits.TheConstants.{SECTOR_BYTES}
use Rattle.base.specs.declared.refusal.Refusal.{Refusal}
use Rattle.base.specs.declared.refusal.Refusal.TheVariants as refusal
use Rattle.trace.specs.declared.access.Access.{Access}
use Rattle.trace.specs.declared.access.Opcode.{Opcode}
use Rattle.trace.specs.declared.access.Opcode.TheVariants.{Read, Write}
use Rattle.trace.specs.declared.fault.Field.{Field}
use Rattle.trace.specs.declared.fault.Field.TheVariants as field
use Rattle.trace.specs.declared.fault.FieldFault.{FieldFault}
use Rattle.trace.specs.declared.fault.LineFault.{LineFault}
use Rattle.trace.specs.declared.fault.LineFault.TheVariants as line_fault
use Rattle.trace.specs.declared.fields.TheConstants.{LAST_UNIT, LAST_SECTOR, MAX_BYTES}
use Rattle.trace.specs.Splits.{comma, point, parts}
use Rattle.trace.specs.Numerals.{numeral}

-- the fault of a field of line n
abbrev pub fault_at : ℕ → Field → Refusal → FieldFault
fault_at n f r = record { line = n; field = f; refusal = r }

-- a number that is not above the greatest
abbrev pub up_to : ℕ → Option ℕ → Option ℕ
up_to greatest None = None
up_to greatest (Some n) = cond (nat_le n greatest) (Some n) None

-- the number in a field, up to a greatest one
abbrev pub number_in : ℕ → Field → ℕ → List ℕ → Result ℕ FieldFault
number_in n f greatest bs = ok_or (up_to greatest (numeral 10 bs)) (fault_at n f refusal.NotANumber)

-- a size is a multiple of a sector's bytes, from one sector to the largest access
abbrev pub sized : ℕ → Bool
sized size = (nat_le SECTOR_BYTES size && nat_le size MAX_BYTES) && size % SECTOR_BYTES == 0

-- the number of sectors that a size field asks for
abbrev pub sectors_in : ℕ → List ℕ → Result ℕ FieldFault
sectors_in n bs =
    and_then (ok_or (numeral 10 bs) (fault_at n field.Size refusal.NotANumber)) (λ size.
    cond (sized size) (Ok (size / SECTOR_BYTES)) (Err (fault_at n field.Size refusal.BadSize)))

-- R or r reads, W or w writes
abbrev pub opcode_of : List ℕ → Option Opcode
opcode_of [] = None
opcode_of (b ∷ []) = cond (b == 82 || b == 114) (Some Read) (cond (b == 87 || b == 119) (Some Write) None)
opcode_of (b ∷ c ∷ bs) = None

-- what the opcode field asks for
abbrev pub opcode_in : ℕ → List ℕ → Result Opcode FieldFault
opcode_in n bs = ok_or (opcode_of bs) (fault_at n field.Opcode refusal.BadOpcode)

-- one to ten digits, or these, a point and one to nine digits: by the parts between points
abbrev pub stamp_parts : List (List ℕ) → Bool
stamp_parts [] = false
stamp_parts (p ∷ []) = is_some (numeral 10 p)
stamp_parts (p ∷ q ∷ []) = is_some (numeral 10 p) && is_some (numeral 9 q)
stamp_parts (p ∷ q ∷ r ∷ ps) = false

-- the bytes have the form of a time stamp
abbrev pub time_stamp : List ℕ → Bool
time_stamp bs = stamp_parts (parts point bs)

-- the time stamp field is accepted
abbrev pub stamp_in : ℕ → List ℕ → Result (Unit {0}) FieldFault
stamp_in n bs = cond (time_stamp bs) (Ok tt) (Err (fault_at n field.TimeStamp refusal.BadTimeStamp))

-- the last sector touched is not above the last one that there is
abbrev pub reaches : ℕ → ℕ → ℕ → Result (Unit {0}) FieldFault
reaches n lba sectors = cond (nat_le (lba + sectors - 1) LAST_SECTOR) (Ok tt) (Err (fault_at n field.Lba refusal.PastLastSector))

-- what the five fields of line n ask for
abbrev pub access_in : ℕ → List ℕ → List ℕ → List ℕ → List ℕ → List ℕ → Result Access FieldFault
access_in n asu lba size opcode stamp =
    and_then (number_in n field.Asu LAST_UNIT asu) (λ u.
    and_then (number_in n field.Lba LAST_SECTOR lba) (λ f.
    and_then (sectors_in n size) (λ k.
    and_then (opcode_in n opcode) (λ o.
    and_then (stamp_in n stamp) (λ _.
    and_then (reaches n f k) (λ _.
    Ok (record { asu = u; lba = f; sectors = k; opcode = o })))))))

-- the fields stand between commas
abbrev pub fields : List ℕ → List (List ℕ)
fields bs = parts comma bs

-- what line n asks for: a field's fault is carried inside its line's
abbrev pub access_of : ℕ → List ℕ → Result Access LineFault
access_of n bs =
    cond (length (fields bs) == 5)
    (map_err line_fault.Field (access_in n
    (slice_index_or (fields bs) 0 []) (slice_index_or (fields bs) 1 []) (slice_index_or (fields bs) 2 [])
    (slice_index_or (fields bs) 3 []) (slice_index_or (fields bs) 4 [])))
    (Err (line_fault.FieldCount n))
