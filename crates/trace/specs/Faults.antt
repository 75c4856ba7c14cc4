-- What each fault of a trace is reported by: the number of the refusal, the line and the field. Assumes nothing.
use Rattle.std.specs.Prelude.{ℕ, List, ◌∷◌, ◌++◌, codes, decimal}
use Rattle.base.specs.Refusals.{number}
use Rattle.base.specs.declared.refusal.Refusal.TheVariants as refusal
use Rattle.trace.specs.declared.fault.Field.{Field}
use Rattle.trace.specs.declared.fault.Field.TheVariants as field
use Rattle.trace.specs.declared.fault.FieldFault.{FieldFault}
use Rattle.trace.specs.declared.fault.LineFault.{LineFault}
use Rattle.trace.specs.declared.fault.LineFault.TheVariants as line_fault
use Rattle.trace.specs.declared.fault.ReplayFault.{ReplayFault}
use Rattle.trace.specs.declared.fault.ReplayFault.TheVariants as replay_fault
use Rattle.trace.specs.declared.fault.Report.{Report}
use Rattle.trace.specs.Splits.{comma}

-- fields count from 1
abbrev pub field_number : Field → ℕ
field_number field.Asu = 1
field_number field.Lba = 2
field_number field.Size = 3
field_number field.Opcode = 4
field_number field.TimeStamp = 5

-- a field's fault is reported by its refusal, line and field
abbrev pub field_report : FieldFault → Report
field_report f = record { number = number f.refusal; line = f.line; field = field_number f.field }

-- a fault of the whole line has field 0
abbrev pub line_report : LineFault → Report
line_report (line_fault.Field f) = field_report f
line_report (line_fault.FieldCount line) = record { number = number refusal.FieldCount; line = line; field = 0 }
line_report (line_fault.TooManyTouches line) = record { number = number refusal.TooManyTouches; line = line; field = 0 }

-- a fault that no line is to blame for has line 0 and field 0
abbrev pub reported : ReplayFault → Report
reported (replay_fault.Line f) = line_report f
reported (replay_fault.Refused r) = record { number = number r; line = 0; field = 0 }

-- a report is printed as its number, line and field, with commas between them
abbrev pub shown_report : Report → List ℕ
shown_report r = decimal r.number ++ (comma ∷ (decimal r.line ++ (comma ∷ decimal r.field)))

-- and a fault as the word refused, with its report behind a comma
abbrev pub shown_fault : ReplayFault → List ℕ
shown_fault fault = codes "refused," ++ shown_report (reported fault)
