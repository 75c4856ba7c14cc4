-- A text that is not empty begins with a line. Assumes nothing.
use Rattle.std.proofs.Common.{◌≡◌, ◌≢◌, ℕ, ◌<◌, true, ◌&&◌, eqb, List, [], ◌∷◌, ◌++◌, length, get_or, drop, sym, refl, ap, ◌∙◌, subst}
use Rattle.std.proofs.Common.{append_assoc, inl, inr, arith, length-append}
use Rattle.std.proofs.ByRecursion.{All-append}
use Rattle.std.proofs.lemmas.Bool.{cases_Bool, and_parts, and_from, both_ways, ne_eqb, eq-eqb, eqb-true, eqb-false}
use Rattle.trace.specs.Splits.{feeds, lines}
use Rattle.trace.specs.Refused.{FirstLine, to_end, to_feed, to_return}
use Rattle.trace.proofs.Splitting.{lines_only, lines_fed, unreturned, unreturned_one}

unreturned_same : (line : List ℕ) → ((bs : List ℕ) → line ≢ bs ++ (13 ∷ [])) → unreturned line ≡ line
unreturned_same [] h = refl
unreturned_same (b ∷ []) h = rw (ne_eqb b 13 (λ e. h [] (ap (λ z. z ∷ []) e)))
unreturned_same (b ∷ c ∷ bs) h = ap (λ t. b ∷ t) (unreturned_same (c ∷ bs) (λ xs e. h (b ∷ xs) (ap (λ t. b ∷ t) e)))

-- the line is the first of the text's lines
pub begins_lines : {line text rest : List ℕ} → FirstLine line text rest → lines text ≡ line ∷ lines rest
begins_lines {line} (to_end some lacks) = lines_only line some lacks
begins_lines {line} (to_feed {rest} lacks kept) = lines_fed line rest lacks ∙ ap (λ l. l ∷ lines rest) (unreturned_same line kept)
begins_lines {line} (to_return {rest} lacks) =
    let P : ℕ → Type 0 = λ b. b ≡ 10 → ⊥ in
    let apart : P 13 = λ e. omega arith in
    ap lines (sym (append_assoc line (13 ∷ []) (10 ∷ rest)))
    ∙ lines_fed (line ++ (13 ∷ [])) rest (All-append P line (13 ∷ []) lacks (apart, tt))
    ∙ ap (λ l. l ∷ lines rest) (unreturned_one line)

-- one byte more in front of a line
led_kept : (b : ℕ) (line rest : List ℕ) → (b ≡ 13 → feeds (line ++ (10 ∷ rest)) ≡ true → ⊥) →
    ((bs : List ℕ) → line ≢ bs ++ (13 ∷ [])) → (bs : List ℕ) → b ∷ line ≢ bs ++ (13 ∷ [])
led_kept b [] rest h k [] e = h (ap (λ z. get_or z 0 0) e) refl
led_kept b (c ∷ line) rest h k [] e = omega (arith, ap length e)
led_kept b line rest h k (x ∷ bs) e = k bs (ap (drop 1) e)

led_begins : {line text rest : List ℕ} (b : ℕ) → b ≢ 10 → (b ≡ 13 → feeds text ≡ true → ⊥) → FirstLine line text rest →
    FirstLine (b ∷ line) (b ∷ text) rest
led_begins b other apart (to_end some lacks) = to_end (omega arith) (other, lacks)
led_begins {line} b other apart (to_feed {rest} lacks kept) = to_feed (other, lacks) (led_kept b line rest apart kept)
led_begins b other apart (to_return lacks) = to_return (other, lacks)

pub record Begun (text : List ℕ) : Type 0 where
  pub line : List ℕ
  pub rest : List ℕ
  pub begins : FirstLine line text rest
  pub fewer : length rest < length text

fed_first : (b : ℕ) (bs : List ℕ) → eqb b 10 ≡ true → Begun (b ∷ bs)
fed_first b bs e =
    let first : FirstLine [] (10 ∷ bs) bs = to_feed tt (λ xs q. let none = ap length q ∙ length-append xs (13 ∷ []) in omega arith) in
    record { line = []; rest = bs; begins = subst (λ z. FirstLine [] (z ∷ bs) bs) (sym (eqb-true b 10 e)) first; fewer = omega arith }

returned_first : (b c : ℕ) (bs : List ℕ) → eqb b 13 ≡ true → eqb c 10 ≡ true → Begun (b ∷ (c ∷ bs))
returned_first b c bs e h =
    let first : FirstLine [] (13 ∷ (10 ∷ bs)) bs = to_return tt in
    let fed = subst (λ z. FirstLine [] (13 ∷ (z ∷ bs)) bs) (sym (eqb-true c 10 h)) first in
    record { line = []; rest = bs; begins = subst (λ z. FirstLine [] (z ∷ (c ∷ bs)) bs) (sym (eqb-true b 13 e)) fed; fewer = omega arith }

pub begun : (b : ℕ) (bs : List ℕ) → Begun (b ∷ bs)
begun b [] = elim (cases_Bool (eqb b 10)) [
  | inl e ↦ fed_first b [] e
  | inr e ↦ record { line = b ∷ []; rest = []; begins = to_end (omega arith) (eqb-false b 10 e, tt); fewer = omega arith }
]
begun b (c ∷ bs) = elim (cases_Bool (eqb b 10)) [
  | inl e ↦ fed_first b (c ∷ bs) e
  | inr e ↦ elim (cases_Bool (eqb b 13 && eqb c 10)) [
    | inl f ↦ let both = and_parts (eqb b 13) (eqb c 10) f in returned_first b c bs both.0 both.1
    | inr f ↦
        let more = begun c bs in
        let apart : b ≡ 13 → feeds (c ∷ bs) ≡ true → ⊥ = λ p q. both_ways _ f (and_from _ _ (eq-eqb b 13 p) q) in
        let begins = led_begins b (eqb-false b 10 e) apart more.begins in
        record { line = b ∷ more.line; rest = more.rest; begins = begins; fewer = omega (arith, more.fewer) }
  ]
]
