-- How a fault is said in plain words. Assumes nothing.
use Rattle.std.specs.Prelude.{ℕ, List, ◌++◌, codes, decimal}
use Rattle.base.specs.Refusals.{words}
use Rattle.base.specs.declared.refusal.Refusal.TheVariants as refusal
use Rattle.trace.specs.declared.fault.Field.{Field}
use Rattle.trace.specs.declared.fault.Field.TheVariants as field
use Rattle.trace.specs.declared.fault.FieldFault.{FieldFault}
use Rattle.trace.specs.declared.fault.LineFault.TheVariants as line_fault
use Rattle.trace.specs.declared.fault.ReplayFault.{ReplayFault}
use Rattle.trace.specs.declared.fault.ReplayFault.TheVariants as replay_fault
use Rattle.trace.specs.Faults.{field_number}

abbrev pub field_name : Field → List ℕ
field_name field.Asu = codes "ASU"
field_name field.Lba = codes "LBA"
field_name field.Size = codes "size"
field_name field.Opcode = codes "opcode"
field_name field.TimeStamp = codes "time stamp"

-- a field's fault has its line, the field's number and name, and the words of its refusal
abbrev pub plain_field : FieldFault → List ℕ
plain_field f =
    codes "line " ++ (decimal f.line ++ (codes ", field " ++ (decimal (field_number f.field) ++
    (codes " (" ++ (field_name f.field ++ (codes "): " ++ words f.refusal))))))

-- a fault of the whole line has the line and the words
abbrev pub plain_line : ℕ → List ℕ → List ℕ
plain_line line said = codes "line " ++ (decimal line ++ (codes ": " ++ said))

-- a fault that no line is to blame for has the words alone
abbrev pub plain_fault : ReplayFault → List ℕ
plain_fault (replay_fault.Line (line_fault.Field f)) = plain_field f
plain_fault (replay_fault.Line (line_fault.FieldCount line)) = plain_line line (words refusal.FieldCount)
plain_fault (replay_fault.Line (line_fault.TooManyTouches line)) = plain_line line (words refusal.TooManyTouches)
plain_fault (replay_fault.Refused r) = words r
