-- A text is refused for each fault that it has. Assumes nothing.
use Rattle.std.proofs.Common.{◌≡◌, ℕ, ◌+◌, ◌-◌, ◌/◌, ◌^◌, ◌<◌, ◌≤◌, List, ◌∷◌, length, Some, None, Err, Option, sym, refl, ap, ◌∙◌, arith}
use Rattle.std.proofs.lemmas.Bool.{le-leb, lt-leb, ne_eqb, false_from_ne_true}
use Rattle.base.specs.declared.refusal.Refusal.TheVariants as refusal
use Rattle.trace.specs.declared.fault.Field.TheVariants as field
use Rattle.trace.specs.declared.fault.FieldFault.{FieldFault}
use Rattle.trace.specs.declared.fault.LineFault.{LineFault}
use Rattle.trace.specs.declared.fault.LineFault.TheVariants as line_fault
use Rattle.trace.specs.declared.fault.ReplayFault.{ReplayFault}
use Rattle.trace.specs.declared.fault.Report.{Report}
use Rattle.trace.specs.Splits.{parts, lines}
use Rattle.trace.specs.Numerals.{numeral}
use Rattle.trace.specs.Accesses.{up_to, sized, sectors_in, fault_at, opcode_of, time_stamp, access_in, access_of}
use Rattle.base.specs.Results.{map_err}
use Rattle.trace.specs.Touches.{judged_lines, judged}
use Rattle.trace.specs.Faults.{line_report, reported}
use Rattle.trace.specs.Traces.{FiveFields, UpTo, Whole, Numbers, Number, OpcodeText, TimeStamp, Line}
use Rattle.trace.specs.Refused.{Wrong, FirstWrong, Refused, field_fault, field_count, no_unit, no_sector, no_size, bad_size, bad_opcode}
use Rattle.trace.specs.Refused.{bad_time_stamp, past_last_sector, too_many_touches, here, later, trace_too_long, wrong_line, too_few_places}
use Rattle.trace.proofs.Beginnings.{begins_lines}
use Rattle.trace.proofs.Fives.{fields_cut, fields_access}
use Rattle.trace.proofs.Sound.{number_read, up_to_read, whole_read, opcode_read, stamp_read}
use Rattle.trace.proofs.Complete.{number_numeral, up_to_numeral, numbers_access, opcode_asked, stamp_stamped, line_accepted, line_length}
use Rattle.trace.proofs.Complete.{trace_accepted}

-- what no value would give is not there
none_from_absurd : {T : Type 0} (o : Option T) → ((x : T) → o ≡ Some x → ⊥) → o ≡ None
none_from_absurd None h = refl
none_from_absurd (Some x) h = absurd (h x refl)

up_to_none : (greatest : ℕ) (bs : List ℕ) → ¬ UpTo greatest bs → up_to greatest (numeral 10 bs) ≡ None
up_to_none greatest bs h = none_from_absurd _ (λ n e. h (up_to_read greatest bs n e))

opcode_none : (bs : List ℕ) → ¬ OpcodeText bs → opcode_of bs ≡ None
opcode_none bs h = none_from_absurd _ (λ o e. h (opcode_read bs o e))

size_unread : (n : ℕ) (bs : List ℕ) → ((bytes : ℕ) → ¬ Number 10 bs bytes) →
    sectors_in n bs ≡ Err (fault_at n field.Size refusal.NotANumber)
size_unread n bs h = rw (none_from_absurd (numeral 10 bs) (λ bytes e. h bytes (number_read 10 bs bytes e)))

size_refused : (n : ℕ) (bs : List ℕ) (bytes : ℕ) → numeral 10 bs ≡ Some bytes → ((sectors : ℕ) → ¬ Whole bytes sectors) →
    sectors_in n bs ≡ Err (fault_at n field.Size refusal.BadSize)
size_refused n bs bytes e h =
    let none = false_from_ne_true (sized bytes) (λ q. h (bytes / 512) (whole_read bytes q)) in
    rw (e, none)

-- a line with a wrong field
module _ (n : ℕ) {line : List ℕ} (f : FiveFields line) where
  fields_refused : {e : FieldFault} → access_in n f.asu f.lba f.size f.opcode f.stamp ≡ Err e → access_of n line ≡ Err (line_fault.Field e)
  fields_refused h = fields_access f n ∙ ap (map_err line_fault.Field) h

  unit_refused : ¬ UpTo 255 f.asu → access_of n line ≡ Err (field_fault n field.Asu refusal.NotANumber)
  unit_refused h = fields_refused (rw (up_to_none 255 f.asu h))

  module _ (u : UpTo 255 f.asu) where
    sector_refused : ¬ UpTo 4294967295 f.lba → access_of n line ≡ Err (field_fault n field.Lba refusal.NotANumber)
    sector_refused h = fields_refused (rw (up_to_numeral u, up_to_none 4294967295 f.lba h))

    sectors_refused : UpTo 4294967295 f.lba → {e : FieldFault} → sectors_in n f.size ≡ Err e → access_of n line ≡ Err (line_fault.Field e)
    sectors_refused v h = fields_refused (rw (up_to_numeral u, up_to_numeral v, h))

  module _ {first sectors : ℕ} (m : Numbers f first sectors) where
    opcode_refused : ¬ OpcodeText f.opcode → access_of n line ≡ Err (field_fault n field.Opcode refusal.BadOpcode)
    opcode_refused h = fields_refused (numbers_access m n ∙ rw (opcode_none f.opcode h))

    module _ (o : OpcodeText f.opcode) where
      stamp_refused : ¬ TimeStamp f.stamp → access_of n line ≡ Err (field_fault n field.TimeStamp refusal.BadTimeStamp)
      stamp_refused h =
          let none = false_from_ne_true (time_stamp f.stamp) (λ e. h (stamp_read f.stamp e)) in
          fields_refused (numbers_access m n ∙ rw ((opcode_asked o).1, none))

      past_refused : TimeStamp f.stamp → 2 ^ 32 < first + sectors → access_of n line ≡ Err (field_fault n field.Lba refusal.PastLastSector)
      past_refused s h =
          let past : 4294967295 < first + sectors - 1 = omega (arith, h) in
          fields_refused (numbers_access m n ∙ rw ((opcode_asked o).1, stamp_stamped s, lt-leb _ _ past))

access_refused : (n t : ℕ) (line : List ℕ) (ls : List (List ℕ)) {f : LineFault} → access_of n line ≡ Err f →
    (judged_lines n t (line ∷ ls) ≡ Err f) × (line_report f ≡ line_report f)
access_refused n t line ls e = (rw e, refl)

touches_refused : {line ts : List ℕ} (h : Line line ts) (n t : ℕ) (ls : List (List ℕ)) → 4096 < t + length ts →
    judged_lines n t (line ∷ ls) ≡ Err (line_fault.TooManyTouches n)
touches_refused h n t ls many =
    let over : 4096 < t + h.sectors = omega (arith, many, line_length h) in
    rw (line_accepted h n, lt-leb (t + h.sectors) 4096 over)

wrong_refused : {n t : ℕ} {line : List ℕ} {f : LineFault} {r : Report} → Wrong n t line f r → (ls : List (List ℕ)) →
    (judged_lines n t (line ∷ ls) ≡ Err f) × (line_report f ≡ r)
wrong_refused {n} {t} {line} (field_count h) ls =
    let other = ne_eqb (length (parts 44 line)) 5 (λ e. h (fields_cut line e)) in
    access_refused n t line ls (rw other)
wrong_refused {n} {t} {line} (no_unit f h) ls = access_refused n t line ls (unit_refused n f h)
wrong_refused {n} {t} {line} (no_sector f u h) ls = access_refused n t line ls (sector_refused n f u h)
wrong_refused {n} {t} {line} (no_size f u v h) ls = access_refused n t line ls (sectors_refused n f u v (size_unread n f.size h))
wrong_refused {n} {t} {line} (bad_size f u v bytes k h) ls =
    access_refused n t line ls (sectors_refused n f u v (size_refused n f.size bytes (number_numeral k) h))
wrong_refused {n} {t} {line} (bad_opcode f m h) ls = access_refused n t line ls (opcode_refused n f m h)
wrong_refused {n} {t} {line} (bad_time_stamp f m o h) ls = access_refused n t line ls (stamp_refused n f m o h)
wrong_refused {n} {t} {line} (past_last_sector f m o s h) ls = access_refused n t line ls (past_refused n f m o s h)
wrong_refused {n} {t} (too_many_touches h many) ls = (touches_refused h n t ls many, refl)

first_refused : {n t : ℕ} {text : List ℕ} {f : LineFault} {r : Report} → FirstWrong n t text f r →
    (judged_lines n t (lines text) ≡ Err f) × (line_report f ≡ r)
first_refused (here {n} {t} {line} {text} {rest} begins w) =
    let p = wrong_refused w (lines rest) in
    (ap (judged_lines n t) (begins_lines begins) ∙ p.0, p.1)
first_refused (later {n} {t} {line} {text} {rest} {ts} begins h few w) =
    let p = first_refused w in
    let k = h.sectors in
    let room : t + k ≤ 4096 = omega (arith, few, line_length h) in
    let left = ap (λ j. judged_lines (n + 1) (t + j) (lines rest)) (sym (line_length h)) ∙ p.0 in
    (ap (judged_lines n t) (begins_lines begins) ∙ rw (line_accepted h n, le-leb (t + k) 4096 room, left), p.1)

pub refused_judged : {text : List ℕ} {places : ℕ} {f : ReplayFault} {r : Report} → Refused text places f r →
    (judged text places ≡ Err f) × (reported f ≡ r)
refused_judged {text} (trace_too_long h) = (rw (lt-leb (length text) 32768 h), refl)
refused_judged {text} (wrong_line short w) =
    let p = first_refused w in
    (rw (le-leb (length text) 32768 short, p.0), p.1)
refused_judged {text} {places} (too_few_places {ts} short h few over) =
    let fits : 0 + length ts ≤ 4096 = omega (arith, few) in
    (rw (le-leb (length text) 32768 short, trace_accepted h 1 0 fits, lt-leb (length ts) places over), refl)
