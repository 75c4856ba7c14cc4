-- How the parts and the lines of a text come from its first mark. Assumes nothing.
use Rattle.std.proofs.Common.{◌≡◌, ◌≢◌, ℕ, suc, ◌+◌, ◌-◌, ◌<◌, Bool, false, cond, ◌&&◌, eqb, ltb, List, [], ◌∷◌, ◌++◌, length, get_or, take}
use Rattle.std.proofs.Common.{drop, Some, sym, refl, ap, ◌∙◌, subst, inl, inr, arith, length-drop}
use Rattle.std.specs.List.{position, position_or_len, before_first, after_first}
use Rattle.std.proofs.lemmas.List.{drop-drop, drop_at, drop_all, take_all}
use Rattle.std.proofs.lemmas.List.Sums.{split_at_first, passes_at_first}
use Rattle.std.proofs.lemmas.Option.{cond_some}
use Rattle.std.proofs.lemmas.Bool.{ne_eqb, eq-eqb, eqb-true, lt-ltb, ltb-true, cases_Bool, and_from, and_parts, and_right, both_ways}
use Rattle.trace.specs.Splits.{led, parts, feeds, lines, Lacks, Cut}
use Rattle.trace.specs.Reading.{Stripped}

pub parts_none : (mark : ℕ) (bs : List ℕ) → Lacks mark bs → parts mark bs ≡ bs ∷ []
parts_none mark [] h = refl
parts_none mark (b ∷ bs) h = rw (ne_eqb b mark h.0, parts_none mark bs h.1)

pub parts_cut : (mark : ℕ) (bs rest : List ℕ) → Lacks mark bs → parts mark (bs ++ (mark ∷ rest)) ≡ bs ∷ parts mark rest
parts_cut mark [] rest h = rw (eq-eqb mark mark refl)
parts_cut mark (b ∷ bs) rest h = rw (ne_eqb b mark h.0, parts_cut mark bs rest h.1)

pub parts_at : {mark : ℕ} {text before behind : List ℕ} → Cut mark text before behind → parts mark text ≡ before ∷ parts mark behind
parts_at {mark} {text} {before} {behind} h = rw h.whole (parts_cut mark before behind h.first)

led_some : (b : ℕ) (ps : List (List ℕ)) → 0 < length (led b ps)
led_some b [] = omega arith
led_some b (p ∷ ps) = omega arith

pub parts_some : (mark : ℕ) (bs : List ℕ) → 0 < length (parts mark bs)
parts_some mark [] = omega arith
parts_some mark (b ∷ bs) = elim (cases_Bool (eqb b mark)) [ inl e ↦ rw e (omega arith) | inr e ↦ rw e (led_some b (parts mark bs)) ]

-- how many parts a text does not have: one more than what is left behind its first mark
pub one_part : (mark : ℕ) (bs : List ℕ) (n : ℕ) → 1 < n → Lacks mark bs → length (parts mark bs) ≢ n
one_part mark bs n l h e = let one = ap length (parts_none mark bs h) in omega arith

module _ {mark : ℕ} {text before behind : List ℕ} (h : Cut mark text before behind) where
  pub two_parts : length (parts mark text) ≢ 1
  two_parts e = let all = ap length (parts_at h) in let more = parts_some mark behind in omega arith

  pub parts_more : (n : ℕ) → length (parts mark behind) ≢ n → length (parts mark text) ≢ n + 1
  parts_more n other e = let all = ap length (parts_at h) in other (omega arith)

  pub parts_next : {ps : List (List ℕ)} → parts mark behind ≡ ps → parts mark text ≡ before ∷ ps
  parts_next rest = parts_at h ∙ ap (λ ps. before ∷ ps) rest

-- a text is cut at the first place of its mark
lacks_before : (mark : ℕ) (bs : List ℕ) → Lacks mark (before_first (λ b. eqb b mark) bs)
lacks_before mark [] = tt
lacks_before mark (b ∷ bs) = elim (cases_Bool (eqb b mark)) [
  | inl e ↦ rw e tt
  | inr e ↦
      let n = position_or_len (λ x. eqb x mark) bs in
      let next : 1 + n ≡ suc n = omega arith in
      rw (e, next) (λ same. both_ways _ e (eq-eqb b mark same), lacks_before mark bs)
]

pub cut_first : (mark at : ℕ) (text : List ℕ) → position (λ b. eqb b mark) text ≡ Some at →
    Cut mark text (take at text) (take (length text - (at + 1)) (drop (at + 1) text))
cut_first mark at text e =
    let p : ℕ → Bool = λ b. eqb b mark in
    let found = cond_some _ (position_or_len p text) at e in
    let within : position_or_len p text < length text = ltb-true _ _ found.0 in
    let all = take_all (length text - (position_or_len p text + 1)) (after_first p text) (rw length-drop (omega arith)) in
    let same = eqb-true _ _ (passes_at_first p text 0 within) in
    subst (λ i. Cut mark text (take i text) (take (length text - (i + 1)) (drop (i + 1) text))) found.1 (record {
      whole = split_at_first p text 0 within ∙ (λ i. before_first p text ++ (same i ∷ sym all i));
      first = lacks_before mark text;
    })

-- parts with their marks between them again
abbrev pub rejoined : ℕ → List (List ℕ) → List ℕ
rejoined mark [] = []
rejoined mark (p ∷ []) = p
rejoined mark (p ∷ q ∷ ps) = p ++ (mark ∷ rejoined mark (q ∷ ps))

rejoined_empty : (mark : ℕ) (ps : List (List ℕ)) → 0 < length ps → rejoined mark ([] ∷ ps) ≡ mark ∷ rejoined mark ps
rejoined_empty mark [] l = absurd (omega arith)
rejoined_empty mark (p ∷ ps) l = refl

rejoined_led : (mark b : ℕ) (ps : List (List ℕ)) → rejoined mark (led b ps) ≡ b ∷ rejoined mark ps
rejoined_led mark b [] = refl
rejoined_led mark b (p ∷ []) = refl
rejoined_led mark b (p ∷ q ∷ ps) = refl

pub rejoined_parts : (mark : ℕ) (bs : List ℕ) → rejoined mark (parts mark bs) ≡ bs
rejoined_parts mark [] = refl
rejoined_parts mark (b ∷ bs) = elim (cases_Bool (eqb b mark)) [
  | inl e ↦ rw (e, rejoined_empty mark (parts mark bs) (parts_some mark bs), rejoined_parts mark bs, eqb-true b mark e)
  | inr e ↦ rw (e, rejoined_led mark b (parts mark bs), rejoined_parts mark bs)
]

-- a byte that ends no line
lines_byte : (b : ℕ) (bs : List ℕ) → (b ≡ 10 → ⊥) → feeds bs ≡ false → lines (b ∷ bs) ≡ led b (lines bs)
lines_byte b bs h e = rw (ne_eqb b 10 h, e, and_right (eqb b 13) false refl)

-- the last line may lack its ending
pub lines_last : (b : ℕ) (bs : List ℕ) → Lacks 10 (b ∷ bs) → lines (b ∷ bs) ≡ (b ∷ bs) ∷ []
lines_last b [] h = lines_byte b [] h.0 refl
lines_last b (c ∷ bs) h = lines_byte b (c ∷ bs) h.0 (ne_eqb c 10 h.1.0) ∙ ap (led b) (lines_last c bs h.1)

-- bytes without a carriage return at their end
abbrev pub unreturned : List ℕ → List ℕ
unreturned [] = []
unreturned (b ∷ []) = cond (eqb b 13) [] (b ∷ [])
unreturned (b ∷ c ∷ bs) = b ∷ unreturned (c ∷ bs)

pub lines_fed : (bs rest : List ℕ) → Lacks 10 bs → lines (bs ++ (10 ∷ rest)) ≡ unreturned bs ∷ lines rest
lines_fed [] rest h = refl
lines_fed (b ∷ []) rest h = rw (ne_eqb b 10 h.0) (elim (cases_Bool (eqb b 13)) [ inl e ↦ rw e | inr e ↦ rw e ])
lines_fed (b ∷ c ∷ bs) rest h =
    lines_byte b (c ∷ (bs ++ (10 ∷ rest))) h.0 (ne_eqb c 10 h.1.0) ∙ ap (led b) (lines_fed (c ∷ bs) rest h.1)

-- the first line is cut off at a line feed, or is all that there is
pub first_fed : (text before behind : List ℕ) → Cut 10 text before behind →
    lines text ≡ unreturned before ∷ lines (drop (length before + 1) text)
first_fed text before behind h =
    let rest : drop (length before + 1) (before ++ (10 ∷ behind)) ≡ behind =
    sym (drop-drop 1 (length before) (before ++ (10 ∷ behind))) ∙ ap (drop 1) (drop_at before (10 ∷ behind) (length before) refl) in
    rw (h.whole, rest) (lines_fed before behind h.first)

pub lines_only : (text : List ℕ) → 0 < length text → Lacks 10 text → lines text ≡ text ∷ []
lines_only [] l h = absurd (omega arith)
lines_only (b ∷ bs) l h = lines_last b bs h

pub first_last : (text : List ℕ) → 0 < length text → Lacks 10 text → lines text ≡ text ∷ lines (drop (length text) text)
first_last text l h = rw (drop_all (length text) text (omega arith)) (lines_only text l h)

unreturned_off : (bs : List ℕ) → 0 < length bs → get_or bs (length bs - 1) 0 ≡ 13 → take (length bs - 1) bs ≡ unreturned bs
unreturned_off [] l e = absurd (omega arith)
unreturned_off (b ∷ []) l e = rw (eq-eqb b 13 e)
unreturned_off (b ∷ c ∷ bs) l e =
    let p : suc (suc (length bs)) - 1 ≡ suc (length bs) = omega arith in
    let q : suc (length bs) - 1 ≡ length bs = omega arith in
    rw p (ap (λ t. b ∷ t) (rw (← q) (unreturned_off (c ∷ bs) (omega arith) (rw q (rw p at e)))))

unreturned_kept : (bs : List ℕ) → (0 < length bs → get_or bs (length bs - 1) 0 ≡ 13 → ⊥) → bs ≡ unreturned bs
unreturned_kept [] h = refl
unreturned_kept (b ∷ []) h = rw (ne_eqb b 13 (h (omega arith)))
unreturned_kept (b ∷ c ∷ bs) h =
    let p : suc (suc (length bs)) - 1 ≡ suc (length bs) = omega arith in
    let q : suc (length bs) - 1 ≡ length bs = omega arith in
    ap (λ t. b ∷ t) (unreturned_kept (c ∷ bs) (λ l e. h (omega arith) (rw p (rw q at e))))

pub stripped_is : (line rest : List ℕ) → Stripped line rest → rest ≡ unreturned line
stripped_is line rest h =
    elim (cases_Bool (ltb 0 (length line) && eqb (get_or line (length line - 1) 0) 13)) [
      | inl e ↦
          let p = and_parts _ _ e in
          let some = ltb-true 0 (length line) p.0 in
          let last = eqb-true (get_or line (length line - 1) 0) 13 p.1 in
          h.off some last ∙ unreturned_off line some last
      | inr e ↦
          let other : 0 < length line → get_or line (length line - 1) 0 ≡ 13 → ⊥ =
          λ l q. both_ways _ e (and_from _ _ (lt-ltb 0 (length line) l) (eq-eqb (get_or line (length line - 1) 0) 13 q)) in
          h.kept other ∙ unreturned_kept line other
    ]

pub unreturned_none : (bs : List ℕ) → Lacks 13 bs → unreturned bs ≡ bs
unreturned_none [] h = refl
unreturned_none (b ∷ []) h = rw (ne_eqb b 13 h.0)
unreturned_none (b ∷ c ∷ bs) h = ap (λ t. b ∷ t) (unreturned_none (c ∷ bs) h.1)

pub unreturned_one : (bs : List ℕ) → unreturned (bs ++ (13 ∷ [])) ≡ bs
unreturned_one [] = refl
unreturned_one (b ∷ []) = refl
unreturned_one (b ∷ c ∷ bs) = ap (λ t. b ∷ t) (unreturned_one (c ∷ bs))
