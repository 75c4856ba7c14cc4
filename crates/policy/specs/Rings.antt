-- A clock's order as that of its circle of filled frames with their counts. Assumes nothing.
use Rattle.std.specs.Prelude.{◌≡◌, ℕ, zero, suc, ◌+◌, ◌-◌, ◌<◌, Bool, true, false, ◌&&◌, ◌≢◌, nat_eq, nat_lt, refl}
use Rattle.std.specs.Prelude.{List, [], ◌∷◌, ◌++◌, map, length, filter, slice_index, slice_set}
use Rattle.std.proofs.Math.Path.{ap}
use Rattle.std.proofs.Common.{ap₂, ◌∙◌, inl, inr, add-one, arith}
use Rattle.std.specs.List.{AllByRecursion}
use Rattle.std.proofs.lemmas.List.{map-append, length-map, get_or-set_same, get_or-set_other}
use Rattle.std.proofs.lemmas.List.Elements.{filter-append}
use Rattle.std.proofs.ByRecursion.{All-weaker, All-map}
use Rattle.std.proofs.lemmas.Bool.{cases_lt, lt-ltb, le-ltb}
use Rattle.policy.specs.Circle.{circle, upward}
use Rattle.policy.specs.Counting.{CountState}
use Rattle.policy.specs.CountOrders.{CountValid, count_order, from_count}
use Rattle.policy.specs.Classes.{Counted, with_count, classes, length-classes, all_classes, one_more}
use Rattle.policy.specs.Circles.{Once, once_circle, once_upward, circle_within, length-circle, upward_within, length-upward}

-- frames with their counts
unfoldable pub with_counts : List ℕ → List ℕ → List Counted
with_counts counts xs = map (λ f. (f, slice_index counts f)) xs

counted_append : (counts xs ys : List ℕ) → with_counts counts (xs ++ ys) ≡ with_counts counts xs ++ with_counts counts ys
unfolding with_counts
counted_append counts xs ys = map-append _ xs ys

-- a frame of the circle with its count
counted_at : (counts xs ys : List ℕ) (f : ℕ) →
    with_counts counts (xs ++ (f ∷ ys)) ≡ with_counts counts xs ++ ((f, slice_index counts f) ∷ with_counts counts ys)
unfolding with_counts
counted_at counts xs ys f = counted_append counts xs (f ∷ ys)

-- a new count of f changes nothing at the others
counted_set : (counts xs : List ℕ) (f v : ℕ) → AllByRecursion (λ x. x ≢ f) xs →
    with_counts (slice_set counts f v) xs ≡ with_counts counts xs
unfolding with_counts
counted_set counts [] f v h = refl
counted_set counts (x ∷ xs) f v h = rw (get_or-set_other counts f x v 0 h.0, counted_set counts xs f v h.1)

-- f with its new count
counted_set_at : (counts xs ys : List ℕ) (f v : ℕ) → f < length counts → AllByRecursion (λ x. x ≢ f) xs → AllByRecursion (λ x. x ≢ f) ys →
    with_counts (slice_set counts f v) (xs ++ (f ∷ ys)) ≡ with_counts counts xs ++ ((f, v) ∷ with_counts counts ys)
counted_set_at counts xs ys f v low h k =
    rw (
      counted_at (slice_set counts f v) xs ys f,
      get_or-set_same counts f v 0 low,
      counted_set counts xs f v h,
      counted_set counts ys f v k,
    )

-- a test of two parts
kept_both : (p q : ℕ → Bool) (xs : List ℕ) → filter (λ f. p f && q f) xs ≡ filter q (filter p xs)
kept_both p q [] = refl
kept_both p q (x ∷ xs) = grind (arith, kept_both p q xs)

-- the frames with count j, taken before their counts are added
kept_counted : (counts : List ℕ) (j : ℕ) (xs : List ℕ) →
    filter (λ f. nat_eq (slice_index counts f) j) xs ≡ with_count j (with_counts counts xs)
unfolding with_counts with_count
kept_counted counts j [] = refl
kept_counted counts j (x ∷ xs) = grind (arith, kept_counted counts j xs)

-- the filled frames as the hand comes to them
unfoldable pub frames : CountState → List ℕ
frames s = filter (λ f. nat_lt f s.filled) (circle s.size s.hand)

-- with their counts
unfoldable pub clock_ring : CountState → List Counted
clock_ring s = with_counts s.counts (frames s)

-- a clock's order is by the classes of its ring
from_is : (s : CountState) (j n : ℕ) → from_count s j n ≡ classes (clock_ring s) j n
unfolding clock_ring frames classes
from_is s j zero = refl
from_is s j (suc n) =
    ap₂ (λ xs ys. xs ++ ys)
    (kept_both (λ f. nat_lt f s.filled) (λ f. nat_eq (slice_index s.counts f) j) (circle s.size s.hand) ∙
    kept_counted s.counts j (frames s))
    (from_is s (j + 1) n)

pub order_is : (s : CountState) → count_order s ≡ classes (clock_ring s) 0 (suc s.top)
order_is s = from_is s 0 (s.top + 1) ∙ ap (classes (clock_ring s) 0) (add-one s.top)

-- the order, where the filled frames are known
pub order_of : (s : CountState) (fs : List ℕ) → frames s ≡ fs → count_order s ≡ classes (with_counts s.counts fs) 0 (suc s.top)
unfolding clock_ring
order_of s fs e = order_is s ∙ ap (λ xs. classes (with_counts s.counts xs) 0 (suc s.top)) e

-- the order, where f has a new count n
pub order_set : (s : CountState) (counts xs ys : List ℕ) (f n : ℕ) → s.counts ≡ slice_set counts f n →
    frames s ≡ xs ++ (f ∷ ys) → f < length counts →
    AllByRecursion (λ x. x ≢ f) xs → AllByRecursion (λ x. x ≢ f) ys →
    count_order s ≡ classes (with_counts counts xs ++ ((f, n) ∷ with_counts counts ys)) 0 (suc s.top)
order_set s counts xs ys f n new e low h k =
    order_of s (xs ++ (f ∷ ys)) e
    ∙ ap (λ ps. classes ps 0 (suc s.top)) (ap (λ cs. with_counts cs (xs ++ (f ∷ ys))) new ∙ counted_set_at counts xs ys f n low h k)

-- a test that all pass, and one that none passes
kept_all : (p : ℕ → Bool) (xs : List ℕ) → AllByRecursion (λ x. p x ≡ true) xs → filter p xs ≡ xs
kept_all p [] h = refl
kept_all p (x ∷ xs) h = rw (h.0, kept_all p xs h.1)

kept_none : (p : ℕ → Bool) (xs : List ℕ) → AllByRecursion (λ x. p x ≡ false) xs → filter p xs ≡ []
kept_none p [] h = refl
kept_none p (x ∷ xs) h = rw (h.0, kept_none p xs h.1)

-- with all frames filled, the whole circle
pub frames_full : (s : CountState) → s.hand < s.size → s.filled ≡ s.size → frames s ≡ circle s.size s.hand
unfolding frames
frames_full s low full =
    kept_all _ (circle s.size s.hand) (All-weaker _ _ (λ x h. lt-ltb x s.filled (omega arith))
    (circle s.size s.hand) (circle_within s.size s.hand low))

-- with room, the frames before the hand
pub frames_room : (s : CountState) → s.hand ≡ s.filled → frames s ≡ upward 0 s.filled
unfolding frames
frames_room s at =
    filter-append _ (upward s.hand (s.size - s.hand)) (upward 0 s.hand)
    ∙ ap₂ (λ xs ys. xs ++ ys)
    (kept_none _ _ (All-weaker _ _ (λ x h. le-ltb x s.filled (omega arith)) _ (upward_within s.hand (s.size - s.hand))))
    (kept_all _ _ (All-weaker _ _ (λ x h. lt-ltb x s.filled (omega arith)) _ (upward_within 0 s.hand)))
    ∙ ap (upward 0) at

-- the filled frames are those below `filled`, each once
pub record Below (n : ℕ) (xs : List ℕ) : Type 0 where
  pub many : length xs ≡ n
  pub within : AllByRecursion (λ x. x < n) xs
  pub once : (f : ℕ) → f < n → Once f xs

pub frames_below : (s : CountState) → CountValid s → Below s.filled (frames s)
frames_below s v =
    elim (cases_lt s.filled s.size) [
      | inl room ↦ rw (frames_room s (v.hand_at_room room)) (record {
        many = length-upward 0 s.filled;
        within = All-weaker _ _ (λ x h. omega arith) _ (upward_within 0 s.filled);
        once = λ f low. once_upward f 0 s.filled (omega arith) (omega arith);
      })
      | inr full ↦
          let e : s.filled ≡ s.size = omega arith in
          rw (frames_full s v.hand_within e, e) (record {
            many = length-circle s.size s.hand (omega arith);
            within = circle_within s.size s.hand v.hand_within;
            once = λ f low. once_circle s.size s.hand f low v.hand_within;
          })
    ]

-- the order has the filled frames, each once
module _ (s : CountState) (v : CountValid s) where
  ring_within : AllByRecursion (λ p. p.1 < suc s.top) (clock_ring s)
  unfolding clock_ring with_counts
  ring_within = All-map _ _ (frames s) (All-weaker _ _ (λ x _. omega (arith, v.counts_within x)) (frames s) (frames_below s v).within)

  pub length-order : length (count_order s) ≡ s.filled
  unfolding clock_ring with_counts
  length-order = ap length (order_is s) ∙ length-classes (clock_ring s) (suc s.top) ring_within ∙
      length-map (frames s) _ ∙ (frames_below s v).many

  pub order_within : AllByRecursion (λ x. x < s.filled) (count_order s)
  unfolding clock_ring with_counts
  order_within = rw (order_is s) (all_classes _ (clock_ring s) 0 (suc s.top) (All-map _ _ (frames s) (frames_below s v).within))

  -- the order around a filled frame
  pub order_at : (f : ℕ) (low : f < s.filled) → let o = (frames_below s v).once f low in
      count_order s ≡ classes (with_counts s.counts o.before ++ ((f, slice_index s.counts f) ∷ with_counts s.counts o.after)) 0 (suc s.top)
  order_at f low =
      let o = (frames_below s v).once f low in
      order_of s _ o.is ∙ ap (λ ps. classes ps 0 (suc s.top)) (counted_at s.counts o.before o.after f)

  pub order_has : (f : ℕ) → f < s.filled → (a : List ℕ) × (b : List ℕ) × (count_order s ≡ a ++ (f ∷ b))
  order_has f low =
      let o = (frames_below s v).once f low in
      let (a, b, _, e) = one_more (with_counts s.counts o.before) (with_counts s.counts o.after) f (slice_index s.counts f) 0
      (suc s.top) (omega arith) (omega (arith, v.counts_within f)) in
      (a, b, order_at f low ∙ e)
