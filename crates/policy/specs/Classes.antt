-- Frames in a circle, each with its count, and their order by count. Assumes nothing.
use Rattle.std.specs.Prelude.{◌≡◌, ℕ, zero, suc, ◌+◌, ◌<◌, ◌≤◌, List, [], ◌∷◌, ◌++◌, map, length, filter, ◌==◌, ◌≢◌, nat_eq, refl}
use Rattle.std.proofs.Common.{ap, ◌∙◌, inl, inr, arith}
use Rattle.std.specs.List.{AllByRecursion}
use Rattle.std.proofs.lemmas.List.{append_assoc, append-nil, length-append, map-append}
use Rattle.std.proofs.lemmas.List.Elements.{filter-append}
use Rattle.std.proofs.ByRecursion.{All-append, All-map, all_kept_by}
use Rattle.std.proofs.lemmas.Bool.{cases_eq, cond-true, cond-false, eq-eqb, ne_eqb}
use Rattle.policy.specs.Order.{Later}

-- a frame and its count
abbrev pub Counted : Type 0
Counted = ℕ × ℕ

-- the frames whose count is j, in their order
unfoldable pub with_count : ℕ → List Counted → List ℕ
with_count j ps = map (λ p. p.0) (filter (λ p. nat_eq p.1 j) ps)

-- those whose count is j, then those with the next higher count, and so on for n counts
unfoldable pub classes : List Counted → ℕ → ℕ → List ℕ
classes ps j zero = []
classes ps j (suc n) = with_count j ps ++ classes ps (j + 1) n

-- a frame in front, with count j and with another
with_yes : (f i j : ℕ) (ps : List Counted) → i ≡ j → with_count j ((f, i) ∷ ps) ≡ f ∷ with_count j ps
unfolding with_count
with_yes f i j ps e = ap (map (λ (p : Counted). p.0)) (cond-true (i == j) _ _ (eq-eqb i j e))

with_no : (f i j : ℕ) (ps : List Counted) → (i ≢ j) → with_count j ((f, i) ∷ ps) ≡ with_count j ps
unfolding with_count
with_no f i j ps ne = ap (map (λ (p : Counted). p.0)) (cond-false (i == j) _ _ (ne_eqb i j ne))

-- two parts of a circle
with_append : (j : ℕ) (us vs : List Counted) → with_count j (us ++ vs) ≡ with_count j us ++ with_count j vs
unfolding with_count
with_append j us vs = simp (filter-append, map-append)

-- the same for a frame with others before it
with_yes_at : (us vs : List Counted) (f i j : ℕ) → i ≡ j → with_count j (us ++ ((f, i) ∷ vs)) ≡ with_count j us ++ (f ∷ with_count j vs)
with_yes_at us vs f i j e = with_append j us ((f, i) ∷ vs) ∙ ap (λ z. with_count j us ++ z) (with_yes f i j vs e)

with_no_at : (us vs : List Counted) (f i j : ℕ) → (i ≢ j) → with_count j (us ++ ((f, i) ∷ vs)) ≡ with_count j (us ++ vs)
with_no_at us vs f i j ne = rw (with_append, with_append, with_no f i j vs ne)

-- a frame with a lower count is in none of the classes
classes_no : (us vs : List Counted) (f i j n : ℕ) → i < j → classes (us ++ ((f, i) ∷ vs)) j n ≡ classes (us ++ vs) j n
unfolding classes
classes_no us vs f i j zero low = refl
classes_no us vs f i j (suc n) low = rw (with_no_at us vs f i j (omega arith), classes_no us vs f i (j + 1) n (omega arith))

-- ys is xs with one f more
abbrev pub OneMore : ℕ → List ℕ → List ℕ → Type 0
OneMore f xs ys = (a : List ℕ) × (b : List ℕ) × (xs ≡ a ++ b) × (ys ≡ a ++ (f ∷ b))

-- a frame more in the circle is one more in the order
pub one_more : (us vs : List Counted) (f i j n : ℕ) → j ≤ i → i < j + n →
    OneMore f (classes (us ++ vs) j n) (classes (us ++ ((f, i) ∷ vs)) j n)
unfolding classes
one_more us vs f i j zero low high = absurd (omega arith)
one_more us vs f i j (suc n) low high =
    elim (cases_eq i j) [
      | inl e ↦ (
        with_count j us,
        with_count j vs ++ classes (us ++ vs) (j + 1) n,
        rw with_append (simp append_assoc),
        rw (with_yes_at us vs f i j e, classes_no us vs f i (j + 1) n (omega arith)) (simp append_assoc),
      )
      | inr ne ↦
          let (a, b, before, after) = one_more us vs f i (j + 1) n (omega arith) (omega arith) in (
            with_count j (us ++ vs) ++ a,
            b,
            rw before (simp append_assoc),
            rw (with_no_at us vs f i j ne, after) (simp append_assoc),
          )
    ]

-- no frames, no order
pub classes_none : (j n : ℕ) → classes [] j n ≡ []
unfolding classes with_count
classes_none j zero = refl
classes_none j (suc n) = classes_none (j + 1) n

-- the order is as long as the circle
pub length-classes : (ps : List Counted) (n : ℕ) → AllByRecursion (λ p. p.1 < n) ps → length (classes ps 0 n) ≡ length ps
length-classes [] n h = ap length (classes_none 0 n)
length-classes (p ∷ ps) n h =
    let (a, b, before, after) = one_more [] ps p.0 p.1 0 n (omega arith) (omega arith) in
    omega (arith, simp length-append at (ap length before), simp length-append at (ap length after), length-classes ps n h.1)

-- a frame whose count is set to the highest moves later
pub raised_later : (us vs : List Counted) (f i t j n : ℕ) → t ≡ j + n → j ≤ i → i ≤ t →
    Later f (classes (us ++ ((f, i) ∷ vs)) j (suc n)) (classes (us ++ ((f, t) ∷ vs)) j (suc n))
unfolding classes
raised_later us vs f i t j zero top low high =
    let (a, b, before, after) = one_more us vs f i j 1 low (omega arith) in
    let same : t ≡ i = omega arith in
    (a, [], b, after, ap (λ k. classes (us ++ ((f, k) ∷ vs)) j 1) same ∙ after)
raised_later us vs f i t j (suc n) top low high =
    elim (cases_eq i j) [
      | inl e ↦
          let (a, b, before, after) = one_more us vs f t (j + 1) (suc n) (omega arith) (omega arith) in (
            with_count j us,
            with_count j vs ++ a,
            b,
            rw (with_yes_at us vs f i j e, classes_no us vs f i (j + 1) (suc n) (omega arith), before) (simp append_assoc),
            rw (with_no_at us vs f t j (omega arith), with_append j us vs, after) (simp append_assoc),
          )
      | inr ne ↦
          let (a, b, c, before, after) = raised_later us vs f i t (j + 1) n (omega arith) (omega arith) high in (
            with_count j (us ++ vs) ++ a,
            b,
            c,
            rw (with_no_at us vs f i j ne, before) (simp append_assoc),
            rw (with_no_at us vs f t j (omega arith), after) (simp append_assoc),
          )
    ]

-- lowering the count of the first frame and moving it to the end changes nothing
pub lowered_same : (ps : List Counted) (f i j n : ℕ) → j ≤ i → suc i < j + n →
    classes ((f, suc i) ∷ ps) j n ≡ classes (ps ++ ((f, i) ∷ [])) j n
unfolding classes with_count
lowered_same ps f i j zero low high = absurd (omega arith)
lowered_same ps f i j (suc zero) low high = absurd (omega arith)
lowered_same ps f i j (suc (suc n)) low high =
    elim (cases_eq i j) [
      | inl e ↦
          rw (
            with_no f (suc i) j ps (omega arith),
            with_yes f (suc i) (j + 1) ps (omega arith),
            classes_no [] ps f (suc i) (j + 1 + 1) n (omega arith),
            with_yes_at ps [] f i j e,
            with_no_at ps [] f i (j + 1) (omega arith),
            classes_no ps [] f i (j + 1 + 1) n (omega arith),
            append-nil ps,
          )
          (simp append_assoc)
      | inr ne ↦ cc (
        with_no f (suc i) j ps (omega arith),
        with_no_at ps [] f i j ne,
        append-nil ps,
        lowered_same ps f i (j + 1) (suc n) (omega arith) (omega arith),
      )
    ]

-- a first frame with count 0 is the first of the order
pub foremost : (ps : List Counted) (f n : ℕ) → classes ((f, 0) ∷ ps) 0 (suc n) ≡ f ∷ classes ps 0 (suc n)
unfolding classes
foremost ps f n = rw (with_yes f 0 0 ps refl, classes_no [] ps f 0 1 n (omega arith))

-- a last frame with the highest count is the last of the order
pub hindmost : (ps : List Counted) (f t j n : ℕ) → t ≡ j + n → classes (ps ++ ((f, t) ∷ [])) j (suc n) ≡ classes ps j (suc n) ++ (f ∷ [])
unfolding classes with_count
hindmost ps f t j zero top = rw (with_yes_at ps [] f t j (omega arith)) (simp (append_assoc, append-nil))
hindmost ps f t j (suc n) top =
    rw (with_no_at ps [] f t j (omega arith), append-nil ps, hindmost ps f t (j + 1) n (omega arith)) (simp append_assoc)

-- what holds of each frame of the circle holds of each of the order
pub all_classes : (P : ℕ → Type 0) (ps : List Counted) (j n : ℕ) → AllByRecursion (λ p. P p.0) ps → AllByRecursion P (classes ps j n)
unfolding classes with_count
all_classes P ps j zero h = tt
all_classes P ps j (suc n) h = All-append P (with_count j ps) _ (All-map P _ _ (all_kept_by _ _ ps h)) (all_classes P ps (j + 1) n h)
