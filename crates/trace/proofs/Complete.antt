-- Every trace within the limits is accepted. Assumes nothing.
use Rattle.std.proofs.Common.{◌≡◌, ℕ, ◌+◌, ◌-◌, ◌/◌, ◌%◌, ◌<◌, ◌≤◌, true, false, ◌&&◌, List, [], ◌∷◌, ◌++◌, length, is_some, Some, Ok, sym}
use Rattle.std.proofs.Common.{refl, ap, ◌∙◌, subst, append-nil, arith, length-append}
use Rattle.std.specs.List.{AllByRecursion}
use Rattle.std.proofs.ByRecursion.{All-append}
use Rattle.std.proofs.lemmas.Bool.{le-leb}
use Rattle.std.proofs.lemmas.Bool.Decides.{nat_tests}
use Rattle.trace.specs.declared.access.Access.{Access}
use Rattle.trace.specs.declared.access.Opcode.{Opcode}
use Rattle.trace.specs.declared.access.Opcode.TheVariants.{Read, Write}
use Rattle.trace.specs.declared.fault.LineFault.TheVariants as line_fault
use Rattle.trace.specs.Splits.{lines, Lacks}
use Rattle.trace.specs.Numerals.{digit, all_digits, numeral}
use Rattle.trace.specs.Accesses.{up_to, sized, sectors_in, opcode_of, opcode_in, time_stamp, stamp_in, reaches, access_in, access_of}
use Rattle.base.specs.Results.{and_then, map_err}
use Rattle.trace.specs.Touches.{judged_lines}
use Rattle.trace.specs.Refused.{to_return}
use Rattle.trace.specs.Traces.{FiveFields, UpTo, Whole, Numbers, Number, OpcodeText, upper_r, lower_r, upper_w, lower_w, TimeStamp, whole}
use Rattle.trace.specs.Traces.{fraction, Line, Trace, none, last, fed, returned}
use Rattle.trace.proofs.Numerals.{numeral_read}
use Rattle.trace.proofs.Beginnings.{begins_lines}
use Rattle.trace.proofs.Fives.{fields_access}
use Rattle.trace.proofs.Splitting.{lines_fed, lines_only, unreturned_none}
use Rattle.trace.proofs.Stamps.{digits_lack, stamp_whole, stamp_cut}
use Rattle.trace.proofs.Judging.{length-touches}

numeric_all : (bs : List ℕ) → AllByRecursion (λ b. (48 ≤ b) × (b ≤ 57)) bs → all_digits bs ≡ true
numeric_all [] h = refl
numeric_all (b ∷ bs) h = rw (le-leb 48 b h.0.0, le-leb b 57 h.0.1, numeric_all bs h.1)

module _ {most : ℕ} {bs : List ℕ} {n : ℕ} (h : Number most bs n) where
  pub number_numeral : numeral most bs ≡ Some n
  number_numeral = numeral_read most bs h.some h.few (numeric_all bs h.digits) ∙ ap (λ z. Some z) h.writes

  number_lacks : (mark : ℕ) → digit mark ≡ false → Lacks mark bs
  number_lacks mark e = digits_lack mark bs e (numeric_all bs h.digits)

pub stamp_stamped : {bs : List ℕ} → TimeStamp bs → time_stamp bs ≡ true
stamp_stamped (whole {bs} h) = stamp_whole bs (number_lacks h 46 refl) ∙ ap is_some (number_numeral h)
stamp_stamped (fraction {bs} {cs} h k) =
    stamp_cut (bs ++ (46 ∷ cs)) bs cs (record { whole = refl; first = number_lacks h 46 refl })
    ∙ (λ i. is_some (number_numeral h i) && is_some (number_numeral k i))

pub opcode_asked : {bs : List ℕ} → OpcodeText bs → (o : Opcode) × (opcode_of bs ≡ Some o)
opcode_asked upper_r = (Read, refl)
opcode_asked lower_r = (Read, refl)
opcode_asked upper_w = (Write, refl)
opcode_asked lower_w = (Write, refl)

-- no field has a byte below 46, the point
stamp_lacks : {bs : List ℕ} (mark : ℕ) → mark < 46 → TimeStamp bs → Lacks mark bs
stamp_lacks mark l (whole h) = number_lacks h mark (grind (arith, nat_tests))
stamp_lacks mark l (fraction {bs} {cs} h k) =
    let none : digit mark ≡ false = grind (arith, nat_tests) in
    All-append (λ b. b ≡ mark → ⊥) bs (46 ∷ cs) (number_lacks h mark none) (λ e. omega arith, number_lacks k mark none)

opcode_lacks : {bs : List ℕ} (mark : ℕ) → mark < 46 → OpcodeText bs → Lacks mark bs
opcode_lacks mark l upper_r = (λ e. omega arith, tt)
opcode_lacks mark l lower_r = (λ e. omega arith, tt)
opcode_lacks mark l upper_w = (λ e. omega arith, tt)
opcode_lacks mark l lower_w = (λ e. omega arith, tt)

pub up_to_numeral : {greatest : ℕ} {bs : List ℕ} (u : UpTo greatest bs) → up_to greatest (numeral 10 bs) ≡ Some u.n
up_to_numeral {greatest} u = rw (number_numeral u.is, le-leb u.n greatest u.most)

pub whole_sized : {bytes sectors : ℕ} → Whole bytes sectors → sized bytes ≡ true
whole_sized {bytes} {sectors} w =
    let low : 512 ≤ bytes = omega (arith, w.is, w.some) in
    let high : bytes ≤ 65536 = omega (arith, w.is, w.few) in
    let even : bytes % 512 ≡ 0 = omega (arith, w.is) in
    rw (le-leb 512 bytes low, le-leb bytes 65536 high, even)

whole_sectors : (n : ℕ) (bs : List ℕ) {bytes sectors : ℕ} → Number 10 bs bytes → Whole bytes sectors → sectors_in n bs ≡ Ok sectors
whole_sectors n bs {bytes} {sectors} h w =
    let count : bytes / 512 ≡ sectors = omega (arith, w.is) in
    rw (number_numeral h, whole_sized w, count)

-- the first three fields are accepted, and the others are judged
pub numbers_access : {line : List ℕ} {f : FiveFields line} {first sectors : ℕ} (m : Numbers f first sectors) (n : ℕ) →
    access_in n f.asu f.lba f.size f.opcode f.stamp ≡
    and_then (opcode_in n f.opcode) (λ o. and_then (stamp_in n f.stamp) (λ _. and_then (reaches n first sectors) (λ _.
    Ok (record { asu = m.unit.n; lba = first; sectors = sectors; opcode = o }))))
numbers_access {line} {f} {first} {sectors} m n =
    let lba : UpTo 4294967295 f.lba = record { n = first; is = m.first_is; most = m.first_most } in
    rw (up_to_numeral m.unit, up_to_numeral lba, whole_sectors n f.size m.bytes_are m.whole)

module _ {bs ts : List ℕ} (h : Line bs ts) where
  abbrev line_access : Access
  line_access = record { asu = h.numbers.unit.n; lba = h.first; sectors = h.sectors; opcode = (opcode_asked h.opcode_is).0 }

  pub line_accepted : (n : ℕ) → access_of n bs ≡ Ok line_access
  line_accepted n =
      let f = h.fields in
      let reach : h.first + h.sectors - 1 ≤ 4294967295 = omega (arith, h.last) in
      let last = le-leb (h.first + h.sectors - 1) 4294967295 reach in
      let fields : access_in n f.asu f.lba f.size f.opcode f.stamp ≡ Ok line_access =
      numbers_access h.numbers n ∙ rw ((opcode_asked h.opcode_is).1, stamp_stamped h.stamp_is, last) in
      fields_access f n ∙ ap (map_err line_fault.Field) fields

  line_lacks : (mark : ℕ) → mark < 44 → Lacks mark bs
  line_lacks mark l =
      let P : ℕ → Type 0 = λ b. b ≡ mark → ⊥ in
      let none : digit mark ≡ false = grind (arith, nat_tests) in
      let apart : 44 ≡ mark → ⊥ = λ e. omega arith in
      let f = h.fields in
      let m = h.numbers in
      let stamp = stamp_lacks mark (omega arith) h.stamp_is in
      let opcode = All-append P f.opcode _ (opcode_lacks mark (omega arith) h.opcode_is) (apart, stamp) in
      let size = All-append P f.size _ (number_lacks m.bytes_are mark none) (apart, opcode) in
      let lba = All-append P f.lba _ (number_lacks m.first_is mark none) (apart, size) in
      subst (Lacks mark) (sym f.line_is) (All-append P f.asu _ (number_lacks m.unit.is mark none) (apart, lba))

  line_some : 0 < length bs
  line_some = rw (h.fields.line_is, length-append) (omega arith)

  pub line_length : length ts ≡ h.sectors
  line_length = ap length h.touches_are ∙ length-touches line_access

  -- the line is the first of a text, with either ending
  line_fed : (rest : List ℕ) → lines (bs ++ (10 ∷ rest)) ≡ bs ∷ lines rest
  line_fed rest =
      lines_fed bs rest (line_lacks 10 (omega arith)) ∙ ap (λ l. l ∷ lines rest) (unreturned_none bs (line_lacks 13 (omega arith)))

  line_returned : (rest : List ℕ) → lines (bs ++ (13 ∷ (10 ∷ rest))) ≡ bs ∷ lines rest
  line_returned rest = begins_lines (to_return (line_lacks 10 (omega arith)))

  lines_accepted : (n t : ℕ) (ls : List (List ℕ)) (us : List ℕ) → t + length (ts ++ us) ≤ 4096 →
      judged_lines (n + 1) (t + length ts) ls ≡ Ok us → judged_lines n t (bs ∷ ls) ≡ Ok (ts ++ us)
  lines_accepted n t ls us few more =
      let k = h.sectors in
      let long = length-append ts us in
      let room : t + k ≤ 4096 = omega (arith, line_length) in
      let left : judged_lines (n + 1) (t + k) ls ≡ Ok us = ap (λ j. judged_lines (n + 1) (t + j) ls) (sym line_length) ∙ more in
      rw (line_accepted n, le-leb (t + k) 4096 room, left) (ap (λ xs. Ok (xs ++ us)) (sym h.touches_are))

-- the touches of a trace are those that its lines are judged to have
pub trace_accepted : {text ts : List ℕ} → Trace text ts → (n t : ℕ) → t + length ts ≤ 4096 → judged_lines n t (lines text) ≡ Ok ts
trace_accepted none n t few = refl
trace_accepted (last {line} {ts} h) n t few =
    let all = append-nil ts in
    ap (judged_lines n t) (lines_only line (line_some h) (line_lacks h 10 (omega arith)))
    ∙ lines_accepted h n t [] [] (omega (arith, ap length all)) refl ∙ ap (λ us. Ok us) all
trace_accepted (fed {line} {ts} {rest} {us} h r) n t few =
    ap (judged_lines n t) (line_fed h rest)
    ∙ lines_accepted h n t (lines rest) us few (trace_accepted r (n + 1) (t + length ts) (omega (arith, length-append ts us)))
trace_accepted (returned {line} {ts} {rest} {us} h r) n t few =
    ap (judged_lines n t) (line_returned h rest)
    ∙ lines_accepted h n t (lines rest) us few (trace_accepted r (n + 1) (t + length ts) (omega (arith, length-append ts us)))
