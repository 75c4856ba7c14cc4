-- What is read from a field is what it says. Assumes nothing.
use Rattle.std.proofs.Common.{◌≡◌, ℕ, ◌/◌, ◌%◌, ◌≤◌, true, ◌&&◌, ◌||◌, eqb, leb, List, [], ◌∷◌, length, is_some, Some, None, Option, sym}
use Rattle.std.proofs.Common.{refl, ap, subst, inl, inr, arith}
use Rattle.std.specs.List.{AllByRecursion}
use Rattle.std.proofs.lemmas.Bool.{cases_Bool, and_parts, or_cases, leb-true, eqb-true, false≢true}
use Rattle.std.proofs.lemmas.Option.{none-some, cond_some}
use Rattle.trace.specs.declared.access.Opcode.{Opcode}
use Rattle.trace.specs.Splits.{parts}
use Rattle.trace.specs.Numerals.{digit, all_digits, value, numeral}
use Rattle.trace.specs.Accesses.{up_to, sized, opcode_of, stamp_parts, time_stamp}
use Rattle.trace.specs.Traces.{UpTo, Whole, Number, OpcodeText, upper_r, lower_r, upper_w, lower_w, TimeStamp, whole, fraction}
use Rattle.trace.proofs.Splitting.{rejoined, rejoined_parts}

some_of : {T : Type 0} (o : Option T) → is_some o ≡ true → (x : T) × (o ≡ Some x)
some_of None e = absurd (false≢true e)
some_of (Some x) e = (x, refl)

all_numeric : (bs : List ℕ) → all_digits bs ≡ true → AllByRecursion (λ b. (48 ≤ b) × (b ≤ 57)) bs
all_numeric [] e = tt
all_numeric (b ∷ bs) e =
    let p = and_parts (digit b) (all_digits bs) e in
    let q = and_parts (leb 48 b) (leb b 57) p.0 in
    ((leb-true 48 b q.0, leb-true b 57 q.1), all_numeric bs p.1)

pub number_read : (most : ℕ) (bs : List ℕ) (n : ℕ) → numeral most bs ≡ Some n → Number most bs n
number_read most bs n e =
    let p = cond_some _ (value bs) n e in
    let q = and_parts (leb 1 (length bs) && leb (length bs) most) (all_digits bs) p.0 in
    let r = and_parts (leb 1 (length bs)) (leb (length bs) most) q.0 in
    record { some = leb-true 1 (length bs) r.0; few = leb-true (length bs) most r.1; digits = all_numeric bs q.1; writes = p.1 }

most_read : (m : ℕ) (o : Option ℕ) (n : ℕ) → up_to m o ≡ Some n → (o ≡ Some n) × (n ≤ m)
most_read m None n e = absurd (none-some _ e)
most_read m (Some k) n e =
    let p = cond_some (leb k m) k n e in
    let low = leb-true k m p.0 in
    (ap (λ z. Some z) p.1, subst (λ z. z ≤ m) p.1 low)

pub up_to_read : (greatest : ℕ) (bs : List ℕ) (n : ℕ) → up_to greatest (numeral 10 bs) ≡ Some n → UpTo greatest bs
up_to_read greatest bs n e =
    let p = most_read greatest (numeral 10 bs) n e in
    record { n = n; is = number_read 10 bs n p.0; most = p.1 }

pub whole_read : (bytes : ℕ) → sized bytes ≡ true → Whole bytes (bytes / 512)
whole_read bytes e =
    let p = and_parts (leb 512 bytes && leb bytes 65536) (eqb (bytes % 512) 0) e in
    let q = and_parts (leb 512 bytes) (leb bytes 65536) p.0 in
    let low = leb-true 512 bytes q.0 in
    let high = leb-true bytes 65536 q.1 in
    let even = eqb-true (bytes % 512) 0 p.1 in
    record { is = omega arith; some = omega arith; few = omega arith }

letter : (b c : ℕ) → eqb b c ≡ true → OpcodeText (c ∷ []) → OpcodeText (b ∷ [])
letter b c e h = subst (λ z. OpcodeText (z ∷ [])) (sym (eqb-true b c e)) h

pub opcode_read : (bs : List ℕ) (o : Opcode) → opcode_of bs ≡ Some o → OpcodeText bs
opcode_read [] o e = absurd (none-some _ e)
opcode_read (b ∷ c ∷ bs) o e = absurd (none-some _ e)
opcode_read (b ∷ []) o e =
    elim (cases_Bool (eqb b 82 || eqb b 114)) [
      | inl r ↦ elim (or_cases (eqb b 82) (eqb b 114) r) [ inl h ↦ letter b 82 h upper_r | inr h ↦ letter b 114 h lower_r ]
      | inr r ↦
          let write = (cond_some _ _ o (rw r at e)).0 in
          elim (or_cases (eqb b 87) (eqb b 119) write) [ inl h ↦ letter b 87 h upper_w | inr h ↦ letter b 119 h lower_w ]
    ]

parts_read : (ps : List (List ℕ)) → stamp_parts ps ≡ true → TimeStamp (rejoined 46 ps)
parts_read [] e = absurd (false≢true e)
parts_read (p ∷ []) e = let s = some_of (numeral 10 p) e in whole (number_read 10 p s.0 s.1)
parts_read (p ∷ q ∷ []) e =
    let both = and_parts (is_some (numeral 10 p)) (is_some (numeral 9 q)) e in
    let s = some_of (numeral 10 p) both.0 in
    let t = some_of (numeral 9 q) both.1 in
    fraction (number_read 10 p s.0 s.1) (number_read 9 q t.0 t.1)
parts_read (p ∷ q ∷ r ∷ ps) e = absurd (false≢true e)

pub stamp_read : (bs : List ℕ) → time_stamp bs ≡ true → TimeStamp bs
stamp_read bs e = subst TimeStamp (rejoined_parts 46 bs) (parts_read (parts 46 bs) e)
