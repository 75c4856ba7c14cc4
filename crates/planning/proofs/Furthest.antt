-- The frame that MIN evicts. Assumes nothing.
use Rattle.std.proofs.Common.{◌≡◌, ℕ, zero, suc, ◌<◌, ◌≤◌, true, ltb, List, [], ◌∷◌, length, get_or, take, inl, inr, arith}
use Rattle.std.specs.List.{AllByRecursion as All}
use Rattle.std.proofs.ByRecursion.{All-weaker, All-get_or}
use Rattle.std.proofs.lemmas.Bool.{ltb-true, ltb-false, cond_both, cases_order}
use Rattle.std.proofs.lemmas.Bool.Decides.{nat_tests}
use Rattle.base.specs.Lists.{member, place_in}
use Rattle.planning.specs.Minimum.{furthest}
use Rattle.planning.specs.Chosen.{LowestFurthest}
use Rattle.planning.proofs.Within.{within, within_all}

-- a key that is touched no later than z is touched by every time by which z is
sooner : (y z t : ℕ) (ys : List ℕ) → place_in y ys ≤ place_in z ys → member z (take t ys) ≡ true → member y (take t ys) ≡ true
sooner y z zero ys l h = h
sooner y z (suc t) [] l h = h
sooner y z (suc t) (w ∷ ys) l h = grind (arith, nat_tests, sooner y z t ys)

-- the key in the furthest frame
abbrev pub last : List ℕ → List ℕ → ℕ
last keys rest = get_or keys (furthest keys rest) 0

-- the furthest frame is that of the tail, or the first
furthest_both : (x y : ℕ) (ys rest : List ℕ) (P : ℕ → Type 0) →
    (place_in x rest < place_in (last (y ∷ ys) rest) rest → P (suc (furthest (y ∷ ys) rest))) →
    (place_in (last (y ∷ ys) rest) rest ≤ place_in x rest → P 0) → P (furthest (x ∷ (y ∷ ys)) rest)
furthest_both x y ys rest P later here =
    let a = place_in x rest in
    let b = place_in (last (y ∷ ys) rest) rest in
    cond_both (ltb a b) _ _ P (λ e. later (ltb-true a b e)) (λ e. here (ltb-false a b e))

-- it is one of the frames
pub furthest_lt : (keys rest : List ℕ) → 1 ≤ length keys → furthest keys rest < length keys
furthest_lt [] rest some = absurd (omega arith)
furthest_lt (x ∷ []) rest some = omega arith
furthest_lt (x ∷ (y ∷ ys)) rest some =
    furthest_both x y ys rest (λ f. f < length (x ∷ (y ∷ ys))) (λ _. omega (arith, furthest_lt (y ∷ ys) rest (omega arith)))
    (λ _. omega arith)

-- no key is touched later than its key
furthest_all : (keys rest : List ℕ) → All (λ y. place_in y rest ≤ place_in (last keys rest) rest) keys
furthest_all [] rest = tt
furthest_all (x ∷ []) rest = (omega arith, tt)
furthest_all (x ∷ (y ∷ ys)) rest =
    let tail = furthest_all (y ∷ ys) rest in
    furthest_both x y ys rest (λ f. All (λ w. place_in w rest ≤ place_in (get_or (x ∷ (y ∷ ys)) f 0) rest) (x ∷ (y ∷ ys)))
    (λ l. (omega arith, tail))
    (λ l. (omega arith, All-weaker _ (λ w. place_in w rest ≤ place_in x rest) (λ w k. omega arith) (y ∷ ys) tail))

-- where the furthest key is touched again by a time, every key is
pub all_again : (keys rest : List ℕ) (t : ℕ) → member (last keys rest) (take t rest) ≡ true → within keys (take t rest) ≡ length keys
all_again keys rest t again =
    within_all keys (take t rest) (All-weaker _ _ (λ y l. sooner y (last keys rest) t rest l again) keys (furthest_all keys rest))

-- and every key in a lower frame is touched again sooner
furthest_first : (keys rest : List ℕ) (g : ℕ) → g < furthest keys rest → place_in (get_or keys g 0) rest < place_in (last keys rest) rest
furthest_first [] rest g l = absurd (omega arith)
furthest_first (x ∷ []) rest g l = absurd (omega arith)
furthest_first (x ∷ (y ∷ ys)) rest zero low =
    furthest_both x y ys rest (λ f. zero < f → place_in x rest < place_in (get_or (x ∷ (y ∷ ys)) f 0) rest) (λ h l. h)
    (λ h l. absurd (omega arith)) low
furthest_first (x ∷ (y ∷ ys)) rest (suc g) low =
    furthest_both x y ys rest (λ f. suc g < f → place_in (get_or (y ∷ ys) g 0) rest < place_in (get_or (x ∷ (y ∷ ys)) f 0) rest)
    (λ h l. furthest_first (y ∷ ys) rest g (omega arith))
    (λ h l. absurd (omega arith))
    low

-- there is only one such frame
pub lowest_one : (frames : ℕ) (again : ℕ → ℕ) (f g : ℕ) → LowestFurthest frames again f → LowestFurthest frames again g → f ≡ g
lowest_one frames again f g p q = elim (cases_order f g) [
  | inl e ↦ e
  | inr d ↦ elim d [
    | inl l ↦ absurd (omega (arith, q.first f l, p.most g q.within))
    | inr l ↦ absurd (omega (arith, p.first g l, q.most f p.within))
  ]
]

pub furthest_lowest : (keys rest : List ℕ) → 1 ≤ length keys →
    LowestFurthest (length keys) (λ g. place_in (get_or keys g 0) rest) (furthest keys rest)
furthest_lowest keys rest some = record {
  within = furthest_lt keys rest some;
  most = λ g l. All-get_or (λ y. place_in y rest ≤ place_in (last keys rest) rest) keys g 0 l (furthest_all keys rest);
  first = furthest_first keys rest;
}
