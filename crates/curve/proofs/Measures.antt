-- The pass that measures the touches one after another.
use Rattle.std.proofs.Common.{◌≡◌, ℕ, zero, suc, ◌+◌, ◌≤◌, ◌<◌, List, [], ◌∷◌, ◌++◌, length, get_or, set, take, drop}
use Rattle.std.proofs.Common.{sym, refl, ap, ◌∙◌, add-one, arith}
use Rattle.std.proofs.lemmas.Bool.Decides.{nat_tests}
use Rattle.std.proofs.lemmas.List.{take_more, take_more_set, take_all, drop_more, drop-set-lt, take-append-drop}
use Rattle.curve.specs.Distances.{distance, distances_after}
use Rattle.curve.specs.Recency.{to_front, found_at}
use Rattle.curve.proofs.Recents.{recent, front_recent, found_recent}

-- the touches before the i-th of xs, the latest first, where those of past came before xs
abbrev pub past_after : List ℕ → List ℕ → ℕ → List ℕ
past_after past xs zero = past
past_after past [] (suc i) = past
past_after past (x ∷ xs) (suc i) = past_after (x ∷ past) xs i

past_more : (past xs : List ℕ) (i : ℕ) → i < length xs → past_after past xs (suc i) ≡ get_or xs i 0 ∷ past_after past xs i
past_more past [] i l = absurd (omega arith)
past_more past (x ∷ xs) zero l = refl
past_more past (x ∷ xs) (suc i) l = past_more (x ∷ past) xs i (omega arith)

pub distances-length : (far : ℕ) (past xs : List ℕ) → length (distances_after far past xs) ≡ length xs
distances-length far past [] = refl
distances-length far past (x ∷ xs) = ap suc (distances-length far (x ∷ past) xs)

distance_at : (far : ℕ) (past xs : List ℕ) (i : ℕ) → i < length xs →
    get_or (distances_after far past xs) i 0 ≡ distance far (get_or xs i 0) (past_after past xs i)
distance_at far past [] i l = absurd (omega arith)
distance_at far past (x ∷ xs) zero l = refl
distance_at far past (x ∷ xs) (suc i) l = distance_at far (x ∷ past) xs i (omega arith)

-- What holds before the i-th touch: the latest keys, and the distances so far, behind which the list is as it was.
pub record Measured (far : ℕ) (xs old keys out : List ℕ) (i : ℕ) : Type 0 where
  pub holds : keys ≡ take far (recent (past_after [] xs i))
  pub front : take i out ≡ take i (distances_after far [] xs)
  pub behind : drop i out ≡ drop i old

pub measured_none : (far : ℕ) (xs old : List ℕ) → Measured far xs old [] old 0
measured_none far xs old = record { holds = sym (take_all far [] (omega arith)); front = refl; behind = refl }

module _ (far : ℕ) (xs old keys out : List ℕ) (i : ℕ) (s : Measured far xs old keys out i) where
  module _ (l : i < length xs) where
    -- a key is found at its distance
    pub measured_at : found_at far (get_or xs i 0) keys ≡ distance far (get_or xs i 0) (past_after [] xs i)
    measured_at = rw s.holds (found_recent far (get_or xs i 0) (past_after [] xs i))

    pub measured_more : (d : ℕ) (keys' : List ℕ) → i < length out → i < length old → d ≡ found_at far (get_or xs i 0) keys →
        keys' ≡ to_front far (get_or xs i 0) keys → Measured far xs old keys' (set out i d) (i + 1)
    measured_more d keys' low low' ed ek =
        let ds = distances_after far [] xs in
        let x = get_or xs i 0 in
        let past = past_after [] xs i in
        let at = ed ∙ measured_at ∙ sym (distance_at far [] xs i l) in
        record {
          holds = ek ∙ ap (to_front far x) s.holds ∙ front_recent far x past ∙
              ap (λ p. take far (recent p)) (sym (past_more [] xs i l) ∙ ap (past_after [] xs) (sym (add-one i)));
          front = take_more_set out i d low ∙ ap (λ w. w ++ (d ∷ [])) s.front ∙ ap (λ y. take i ds ++ (y ∷ [])) at ∙
              sym (take_more ds i 0 (rw distances-length l));
          behind =
              let a = drop_more out i 0 low in
              let b = drop_more old i 0 low' in
              let e = s.behind in
              drop-set-lt (i + 1) out i d (omega arith) ∙ cc;
        }

  pub measured_all : length xs ≤ i → i ≤ length xs → out ≡ distances_after far [] xs ++ drop (length xs) old
  measured_all l m =
      let ds = distances_after far [] xs in
      let e : length xs ≡ i = omega arith in
      sym (take-append-drop i out) ∙ ap (λ w. w ++ drop i out) (s.front ∙ take_all i ds (rw distances-length l)) ∙
      ap (λ w. ds ++ w) s.behind ∙ ap (λ n. ds ++ drop n old) (sym e)

-- no distance is above the most
pub distance_most : (far x : ℕ) (past : List ℕ) → distance far x past ≤ far
distance_most far x past = grind (arith, nat_tests)
