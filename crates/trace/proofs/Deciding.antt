-- Every text is a trace within the limits, or refused for a fault. Assumes nothing.
use Rattle.std.proofs.Common.{◌≡◌, ℕ, zero, suc, ◌+◌, ◌^◌, ◌<◌, ◌≤◌, ◌⊎◌, Bool, true, false, leb, eqb, List, [], ◌∷◌, ◌++◌, length, Some}
use Rattle.std.proofs.Common.{None, Option, sym, refl, ap, subst, append-nil, inl, inr, arith, length-append}
use Rattle.std.proofs.lemmas.Bool.{cases_Bool, leb-true, leb-false, eqb-true, eq-eqb, false≢true}
use Rattle.std.proofs.lemmas.Option.{none-some}
use Rattle.base.specs.declared.limits.TheConstants.{MAX_TOUCHES}
use Rattle.trace.specs.declared.fault.Report.{Report}
use Rattle.trace.specs.Splits.{parts}
use Rattle.trace.specs.Numerals.{numeral}
use Rattle.trace.specs.Accesses.{up_to, sized, opcode_of, time_stamp}
use Rattle.trace.specs.Touches.{sectors_from}
use Rattle.trace.specs.Traces.{FiveFields, UpTo, Whole, Numbers, Number, OpcodeText, TimeStamp, Line, Trace, none, last, fed, returned}
use Rattle.trace.specs.Traces.{Within}
use Rattle.trace.specs.Refused.{FirstLine, to_end, to_feed, to_return, Wrong, FirstWrong, Refused, field_count, no_unit, no_sector, no_size}
use Rattle.trace.specs.Refused.{bad_size, bad_opcode, bad_time_stamp, past_last_sector, too_many_touches, here, later, trace_too_long}
use Rattle.trace.specs.Refused.{wrong_line, too_few_places}
use Rattle.trace.proofs.Accepted.{ok_same}
use Rattle.trace.proofs.Beginnings.{begun}
use Rattle.trace.proofs.Fives.{fields_cut, fields_parts}
use Rattle.trace.proofs.Sound.{number_read, up_to_read, whole_read, opcode_read, stamp_read}
use Rattle.trace.proofs.Complete.{number_numeral, up_to_numeral, opcode_asked, stamp_stamped, whole_sized, trace_accepted}

-- a reader or a test that tells decides
by_option : {T P : Type 0} (o : Option T) → ((x : T) → o ≡ Some x → P) → (P → (x : T) × (o ≡ Some x)) → P ⊎ ¬ P
by_option None read has = inr (λ p. let q = has p in absurd (none-some q.0 q.1))
by_option (Some x) read has = inl (read x refl)

by_test : {P : Type 0} (b : Bool) → (b ≡ true → P) → (P → b ≡ true) → P ⊎ ¬ P
by_test true read holds = inl (read refl)
by_test false read holds = inr (λ p. false≢true (holds p))

five_or_not : (line : List ℕ) → FiveFields line ⊎ ¬ FiveFields line
five_or_not line =
    by_test (eqb (length (parts 44 line)) 5) (λ e. fields_cut line (eqb-true _ 5 e)) (λ f. eq-eqb _ 5 (ap length (fields_parts f)))

up_to_or_not : (greatest : ℕ) (bs : List ℕ) → UpTo greatest bs ⊎ ¬ UpTo greatest bs
up_to_or_not greatest bs = by_option (up_to greatest (numeral 10 bs)) (up_to_read greatest bs) (λ u. (u.n, up_to_numeral u))

number_or_not : (bs : List ℕ) → ((n : ℕ) × Number 10 bs n) ⊎ ¬ ((n : ℕ) × Number 10 bs n)
number_or_not bs = by_option (numeral 10 bs) (λ n e. (n, number_read 10 bs n e)) (λ p. (p.0, number_numeral p.1))

whole_or_not : (bytes : ℕ) → ((k : ℕ) × Whole bytes k) ⊎ ¬ ((k : ℕ) × Whole bytes k)
whole_or_not bytes = by_test (sized bytes) (λ e. (_, whole_read bytes e)) (λ p. whole_sized p.1)

opcode_or_not : (bs : List ℕ) → OpcodeText bs ⊎ ¬ OpcodeText bs
opcode_or_not bs = by_option (opcode_of bs) (opcode_read bs) opcode_asked

stamp_or_not : (bs : List ℕ) → TimeStamp bs ⊎ ¬ TimeStamp bs
stamp_or_not bs = by_test (time_stamp bs) (stamp_read bs) stamp_stamped

at_most_or_above : (m n : ℕ) → (m ≤ n) ⊎ (n < m)
at_most_or_above m n = elim (cases_Bool (leb m n)) [ inl e ↦ inl (leb-true m n e) | inr e ↦ inr (leb-false m n e) ]

-- there is a fault, with its report
pub record Faulty {F : Type 0} (Fault : F → Report → Type 0) : Type 0 where
  pub f : F
  pub r : Report
  pub is : Fault f r

-- there are touches, and with the t before them no more than the most
record Good (Touches : List ℕ → Type 0) (t : ℕ) : Type 0 where
  ts : List ℕ
  good : Touches ts
  few : t + length ts ≤ MAX_TOUCHES

module _ (n t : ℕ) (line : List ℕ) (f : FiveFields line) where
  line_behind_numbers : {first sectors : ℕ} → Numbers f first sectors → Faulty (Wrong n t line) ⊎ Good (Line line) t
  line_behind_numbers {first} {sectors} m = elim (opcode_or_not f.opcode) [
    | inr h ↦ inl (record { f = _; r = _; is = bad_opcode f m h })
    | inl o ↦ elim (stamp_or_not f.stamp) [
      | inr h ↦ inl (record { f = _; r = _; is = bad_time_stamp f m o h })
      | inl s ↦ elim (at_most_or_above (first + sectors) (2 ^ 32)) [
        | inr h ↦ inl (record { f = _; r = _; is = past_last_sector f m o s h })
        | inl h ↦
            let good : Line line (sectors_from m.unit.n first sectors) = record {
              fields = f;
              first = first;
              sectors = sectors;
              numbers = m;
              opcode_is = o;
              stamp_is = s;
              last = h;
              touches_are = refl;
            } in
            elim (at_most_or_above (t + length (sectors_from m.unit.n first sectors)) 4096) [
              | inl few ↦ inr (record { ts = _; good = good; few = few })
              | inr many ↦ inl (record { f = _; r = _; is = too_many_touches good many })
            ]
      ]
    ]
  ]

line_decided : (n t : ℕ) (line : List ℕ) → Faulty (Wrong n t line) ⊎ Good (Line line) t
line_decided n t line = elim (five_or_not line) [
  | inr h ↦ inl (record { f = _; r = _; is = field_count h })
  | inl f ↦ elim (up_to_or_not 255 f.asu) [
    | inr h ↦ inl (record { f = _; r = _; is = no_unit f h })
    | inl u ↦ elim (up_to_or_not 4294967295 f.lba) [
      | inr h ↦ inl (record { f = _; r = _; is = no_sector f u h })
      | inl v ↦ elim (number_or_not f.size) [
        | inr h ↦ inl (record { f = _; r = _; is = no_size f u v (λ bytes k. h (bytes, k)) })
        | inl s ↦ elim (whole_or_not s.0) [
          | inr h ↦ inl (record { f = _; r = _; is = bad_size f u v s.0 s.1 (λ k w. h (k, w)) })
          | inl w ↦
              let m : Numbers f v.n w.0 =
              record { unit = u; first_is = v.is; first_most = v.most; bytes = s.0; bytes_are = s.1; whole = w.1 } in
              line_behind_numbers n t line f m
        ]
      ]
    ]
  ]
]

-- a good line more in front of a trace
trace_more : {line text rest ts us : List ℕ} → FirstLine line text rest → Line line ts → Trace rest us → length us ≤ 4096 →
    Trace text (ts ++ us)
trace_more {line} {text} {rest} {ts} {us} (to_end some lacks) h r few =
    let fits : 0 + length us ≤ 4096 = omega (arith, few) in
    let none = ok_same (trace_accepted r 1 0 fits) in
    subst (λ vs. Trace line (ts ++ vs)) none (subst (Trace line) (sym (append-nil ts)) (last h))
trace_more (to_feed lacks kept) h r few = fed h r
trace_more (to_return lacks) h r few = returned h r

lines_decided : (most : ℕ) (text : List ℕ) → length text ≤ most → (n t : ℕ) → t ≤ 4096 → Faulty (FirstWrong n t text) ⊎ Good (Trace text) t
lines_decided most [] l n t few = inr (record { ts = []; good = none; few = omega (arith, few) })
lines_decided zero (b ∷ bs) l n t few = absurd (omega (arith, l))
lines_decided (suc most) (b ∷ bs) l n t few =
    let first = begun b bs in
    elim (line_decided n t first.line) [
      | inl w ↦ inl (record { f = w.f; r = w.r; is = here first.begins w.is })
      | inr g ↦ elim (lines_decided most first.rest (omega (arith, l, first.fewer)) (n + 1) (t + length g.ts) g.few) [
        | inl w ↦ inl (record { f = w.f; r = w.r; is = later first.begins g.good g.few w.is })
        | inr more ↦ inr (record {
          ts = g.ts ++ more.ts;
          good = trace_more first.begins g.good more.good (omega (arith, more.few));
          few = omega (arith, more.few, length-append g.ts more.ts);
        })
      ]
    ]

pub record AcceptedText (text : List ℕ) (places : ℕ) : Type 0 where
  pub ts : List ℕ
  pub trace : Trace text ts
  pub within : Within text (length ts) places

pub decided : (text : List ℕ) (places : ℕ) → Faulty (Refused text places) ⊎ AcceptedText text places
decided text places = elim (at_most_or_above (length text) 32768) [
  | inr long ↦ inl (record { f = _; r = _; is = trace_too_long long })
  | inl short ↦ elim (lines_decided (length text) text (omega arith) 1 0 (omega arith)) [
    | inl w ↦ inl (record { f = _; r = w.r; is = wrong_line short w.is })
    | inr g ↦
        let few : length g.ts ≤ 4096 = omega (arith, g.few) in
        elim (at_most_or_above (length g.ts) places) [
          | inl room ↦ inr (record { ts = g.ts; trace = g.good; within = record { short = short; few = few; room = room } })
          | inr over ↦ inl (record { f = _; r = _; is = too_few_places short g.good few over })
        ]
  ]
]
