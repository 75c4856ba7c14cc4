-- Why a text is refused: its first fault, in the order in which a text is judged. Assumes nothing.
use Rattle.std.specs.Prelude.{◌≡◌, ℕ, ◌+◌, ◌^◌, ◌<◌, ◌≤◌, List, [], ◌∷◌, ◌++◌, length, Err, Result, ◌≢◌}
use Rattle.base.specs.declared.limits.TheConstants.{MAX_TEXT_BYTES, MAX_TOUCHES}
use Rattle.base.specs.declared.refusal.Refusal.{Refusal}
use Rattle.base.specs.declared.refusal.Refusal.TheVariants as refusal
use Rattle.trace.specs.declared.fault.Field.{Field}
use Rattle.trace.specs.declared.fault.Field.TheVariants as field
use Rattle.trace.specs.declared.fault.LineFault.{LineFault}
use Rattle.trace.specs.declared.fault.LineFault.TheVariants as line_fault
use Rattle.trace.specs.declared.fault.ReplayFault.{ReplayFault}
use Rattle.trace.specs.declared.fault.ReplayFault.TheVariants as replay_fault
use Rattle.trace.specs.declared.fault.Report.{Report}
use Rattle.trace.specs.declared.fields.TheConstants.{LAST_UNIT, LAST_SECTOR}
use Rattle.trace.specs.Splits.{line_feed, carriage_return, Lacks}
use Rattle.trace.specs.Faults.{reported}
use Rattle.trace.specs.Traces.{FiveFields, UpTo, Whole, Numbers, Number, OpcodeText, TimeStamp, Line, Trace}

-- a text begins with a line, and the rest stands behind its ending: the line goes to the first line feed, or to the end of the text,
-- and a carriage return right before that line feed is no part of it
pub data FirstLine (line : List ℕ) : List ℕ → List ℕ → Type 0 where
  to_end : 1 ≤ length line → Lacks line_feed line → FirstLine line line []
  to_feed : {rest : List ℕ} → Lacks line_feed line → ((bs : List ℕ) → line ≢ bs ++ (carriage_return ∷ [])) →
      FirstLine line (line ++ (line_feed ∷ rest)) rest
  to_return : {rest : List ℕ} → Lacks line_feed line → FirstLine line (line ++ (carriage_return ∷ (line_feed ∷ rest))) rest

-- the fault of a field of line n
abbrev pub field_fault : ℕ → Field → Refusal → LineFault
field_fault n f r = line_fault.Field (record { line = n; field = f; refusal = r })

-- the number, line and field that a fault is reported by
abbrev pub report : ℕ → ℕ → ℕ → Report
report r n f = record { number = r; line = n; field = f }

-- The fault of line n, behind t touches, and its report. What is judged earlier is good: the number of fields, the unit, the first
-- sector, the size, the opcode, the time stamp, the last sector, and last the touches so far, in this order.
pub data Wrong (n t : ℕ) (line : List ℕ) : LineFault → Report → Type 0 where
  field_count : ¬ FiveFields line → Wrong n t line (line_fault.FieldCount n) (report 10 n 0)
  no_unit : (f : FiveFields line) → ¬ UpTo LAST_UNIT f.asu → Wrong n t line (field_fault n field.Asu refusal.NotANumber) (report 11 n 1)
  no_sector : (f : FiveFields line) → UpTo LAST_UNIT f.asu → ¬ UpTo LAST_SECTOR f.lba →
      Wrong n t line (field_fault n field.Lba refusal.NotANumber) (report 11 n 2)
  no_size : (f : FiveFields line) → UpTo LAST_UNIT f.asu → UpTo LAST_SECTOR f.lba → ((bytes : ℕ) → ¬ Number 10 f.size bytes) →
      Wrong n t line (field_fault n field.Size refusal.NotANumber) (report 11 n 3)
  bad_size : (f : FiveFields line) → UpTo LAST_UNIT f.asu → UpTo LAST_SECTOR f.lba → (bytes : ℕ) → Number 10 f.size bytes →
      ((sectors : ℕ) → ¬ Whole bytes sectors) → Wrong n t line (field_fault n field.Size refusal.BadSize) (report 12 n 3)
  bad_opcode : (f : FiveFields line) {first sectors : ℕ} → Numbers f first sectors → ¬ OpcodeText f.opcode →
      Wrong n t line (field_fault n field.Opcode refusal.BadOpcode) (report 13 n 4)
  bad_time_stamp : (f : FiveFields line) {first sectors : ℕ} → Numbers f first sectors → OpcodeText f.opcode →
      ¬ TimeStamp f.stamp → Wrong n t line (field_fault n field.TimeStamp refusal.BadTimeStamp) (report 14 n 5)
  past_last_sector : (f : FiveFields line) {first sectors : ℕ} → Numbers f first sectors → OpcodeText f.opcode →
      TimeStamp f.stamp → 2 ^ 32 < first + sectors → Wrong n t line (field_fault n field.Lba refusal.PastLastSector) (report 15 n 2)
  too_many_touches : {ts : List ℕ} → Line line ts → MAX_TOUCHES < t + length ts →
      Wrong n t line (line_fault.TooManyTouches n) (report 16 n 0)

-- The first fault of a text that begins with line n, behind t touches: the lines before the wrong one are good, and the touches before
-- it are within the most.
pub data FirstWrong : ℕ → ℕ → List ℕ → LineFault → Report → Type 0 where
  here : {n t : ℕ} {line text rest : List ℕ} {f : LineFault} {r : Report} →
      FirstLine line text rest → Wrong n t line f r → FirstWrong n t text f r
  later : {n t : ℕ} {line text rest ts : List ℕ} {f : LineFault} {r : Report} →
      FirstLine line text rest → Line line ts → t + length ts ≤ MAX_TOUCHES → FirstWrong (n + 1) (t + length ts) rest f r →
      FirstWrong n t text f r

-- What a text is refused for, with a key list of so many places, and its report: its length is judged first, then its lines, and
-- last the places.
pub data Refused (text : List ℕ) (places : ℕ) : ReplayFault → Report → Type 0 where
  trace_too_long : MAX_TEXT_BYTES < length text → Refused text places (replay_fault.Refused refusal.TraceTooLong) (report 9 0 0)
  wrong_line : {f : LineFault} {r : Report} → length text ≤ MAX_TEXT_BYTES → FirstWrong 1 0 text f r →
      Refused text places (replay_fault.Line f) r
  too_few_places : {ts : List ℕ} → length text ≤ MAX_TEXT_BYTES → Trace text ts → length ts ≤ MAX_TOUCHES → places < length ts →
      Refused text places (replay_fault.Refused refusal.TooFewPlaces) (report 18 0 0)

-- A fault is answered exactly if the text is refused for it, and it is reported as that says.
pub record Refuses (text : List ℕ) (places : ℕ) (answer : Result ℕ ReplayFault) : Type 0 where
  pub sound : (f : ReplayFault) → answer ≡ Err f → Refused text places f (reported f)
  pub complete : (f : ReplayFault) (r : Report) → Refused text places f r → (answer ≡ Err f) × (reported f ≡ r)
