-- Time stamps, cut at their point. Assumes nothing.
use Rattle.std.proofs.Common.{◌≡◌, ℕ, ◌<◌, true, false, ◌&&◌, List, [], ◌∷◌, length, is_some, None, sym, refl, ap, ◌∙◌, inl, inr, arith}
use Rattle.std.proofs.lemmas.Bool.{and_parts, and_right, both_ways, cases_Bool}
use Rattle.trace.specs.Splits.{parts, Lacks, Cut}
use Rattle.trace.specs.Numerals.{digit, all_digits, numeral}
use Rattle.trace.specs.Accesses.{stamp_parts, time_stamp}
use Rattle.trace.proofs.Splitting.{parts_none, parts_at, parts_some, parts_next, rejoined, rejoined_parts}
use Rattle.trace.proofs.Numerals.{numeral_refused}

-- what is no digit does not stand among digits
pub digits_lack : (mark : ℕ) (bs : List ℕ) → digit mark ≡ false → all_digits bs ≡ true → Lacks mark bs
digits_lack mark [] h e = tt
digits_lack mark (b ∷ bs) h e =
    let both = and_parts (digit b) (all_digits bs) e in (
      λ same. both_ways (digit b) (ap digit same ∙ h) both.0,
      digits_lack mark bs h both.1,
    )

pub stamp_whole : (text : List ℕ) → Lacks 46 text → time_stamp text ≡ is_some (numeral 10 text)
stamp_whole text h = rw (parts_none 46 text h)

-- with a second point the fraction is no number
fraction_refused : (whole : List ℕ) (ps : List (List ℕ)) → 0 < length ps → numeral 9 (rejoined 46 ps) ≡ None →
    stamp_parts (whole ∷ ps) ≡ false
fraction_refused whole [] l e = absurd (omega arith)
fraction_refused whole (p ∷ []) l e = rw (ap is_some e) (and_right (is_some (numeral 10 whole)) false refl)
fraction_refused whole (p ∷ q ∷ ps) l e = refl

pub stamp_cut : (text whole fraction : List ℕ) → Cut 46 text whole fraction →
    time_stamp text ≡ (is_some (numeral 10 whole) && is_some (numeral 9 fraction))
stamp_cut text whole fraction h =
    elim (cases_Bool (all_digits fraction)) [
      | inl e ↦ ap stamp_parts (parts_next h (parts_none 46 fraction (digits_lack 46 fraction refl e)))
      | inr e ↦
          let none = numeral_refused 9 fraction e in
          ap stamp_parts (parts_at h)
          ∙ fraction_refused whole (parts 46 fraction) (parts_some 46 fraction) (ap (numeral 9) (rejoined_parts 46 fraction) ∙ none)
          ∙ sym (and_right (is_some (numeral 10 whole)) (is_some (numeral 9 fraction)) (ap is_some none))
    ]
