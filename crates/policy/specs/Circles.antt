-- The frames in the order in which the hand reaches them. Assumes nothing.
use Rattle.std.specs.Prelude.{◌≡◌, ℕ, zero, suc, ◌+◌, ◌-◌, ◌<◌, ◌≤◌, ◌⊎◌, List, [], ◌∷◌, ◌++◌, length, ◌≢◌, nat_lt, refl}
use Rattle.std.proofs.Common.{ap, inl, inr, arith}
use Rattle.std.specs.List.{AllByRecursion}
use Rattle.std.proofs.lemmas.List.{append_assoc, append-nil, length-append}
use Rattle.std.proofs.ByRecursion.{All-append, All-weaker}
use Rattle.std.proofs.lemmas.Bool.{cases_lt, cond-true, cond-false, lt-ltb, le-ltb}
use Rattle.base.specs.Rings.{onward}
use Rattle.policy.specs.Circle.{upward, circle}

pub length-upward : (a n : ℕ) → length (upward a n) ≡ n
length-upward a zero = refl
length-upward a (suc n) = ap suc (length-upward (a + 1) n)

-- the numbers from a to a + n
pub upward_within : (a n : ℕ) → AllByRecursion (λ x. (a ≤ x) × (x < a + n)) (upward a n)
upward_within a zero = tt
upward_within a (suc n) = (omega arith, All-weaker _ _ (λ x h. omega arith) (upward (a + 1) n) (upward_within (a + 1) n))

-- n numbers, and then m
upward_append : (a n m b k : ℕ) → b ≡ a + n → k ≡ n + m → upward a k ≡ upward a n ++ upward b m
upward_append a zero m b k from many = let e : a ≡ b = omega arith in let d : k ≡ m = omega arith in cc
upward_append a (suc n) m b k from many =
    let e : k ≡ suc (n + m) = omega arith in
    rw e (ap (λ z. a ∷ z) (upward_append (a + 1) n m b (n + m) (omega arith) refl))

-- one more at the end
pub upward_push : (n : ℕ) → upward 0 (n + 1) ≡ upward 0 n ++ (n ∷ [])
upward_push n = upward_append 0 n 1 n (n + 1) (omega arith) refl

-- all numbers of a stretch but f
pub others : (f a n : ℕ) → (f < a) ⊎ (a + n ≤ f) → AllByRecursion (λ x. x ≢ f) (upward a n)
others f a n out = All-weaker _ _ (λ x h. omega arith) (upward a n) (upward_within a n)

-- the circle from h on: h, and what comes after it
unfoldable pub after_hand : ℕ → ℕ → List ℕ
after_hand size h = upward (h + 1) (size - (h + 1)) ++ upward 0 h

pub circle_here : (size h : ℕ) → h < size → circle size h ≡ h ∷ after_hand size h
unfolding after_hand
circle_here size h low = let e : size - h ≡ suc (size - (h + 1)) = omega arith in rw e

-- the circle once the hand has moved on: h is its last
pub circle_next : (size h : ℕ) → h < size → circle size (onward size h) ≡ after_hand size h ++ (h ∷ [])
unfolding after_hand
circle_next size h low =
    elim (cases_lt (h + 1) size) [
      | inl more ↦ rw (cond-true (nat_lt (h + 1) size) (h + 1) 0 (lt-ltb (h + 1) size more), upward_push h) (simp append_assoc)
      | inr full ↦
          let e : size - (h + 1) ≡ 0 = omega arith in
          rw (
            cond-false (nat_lt (h + 1) size) (h + 1) 0 (le-ltb (h + 1) size full),
            upward_append 0 h 1 h (size - 0) (omega arith) (omega arith),
            e,
          )
          (append-nil _)
    ]

-- h is not behind itself
pub behind_others : (size h : ℕ) → AllByRecursion (λ x. x ≢ h) (after_hand size h)
unfolding after_hand
behind_others size h =
    All-append _ (upward (h + 1) (size - (h + 1))) (upward 0 h)
    (others h (h + 1) (size - (h + 1)) (inl (omega arith))) (others h 0 h (inr (omega arith)))

-- a list with f at one place
pub record Once (f : ℕ) (xs : List ℕ) : Type 0 where
  pub before : List ℕ
  pub after : List ℕ
  pub is : xs ≡ before ++ (f ∷ after)
  pub before_others : AllByRecursion (λ x. x ≢ f) before
  pub after_others : AllByRecursion (λ x. x ≢ f) after

-- in a stretch that has f, and in one of two lists
pub once_upward : (f a n : ℕ) → a ≤ f → f < a + n → Once f (upward a n)
once_upward f a n low high = record {
  before = upward a (f - a);
  after = upward (f + 1) (a + n - (f + 1));
  is = upward_append a (f - a) (suc (a + n - (f + 1))) f n (omega arith) (omega arith);
  before_others = others f a (f - a) (inr (omega arith));
  after_others = others f (f + 1) (a + n - (f + 1)) (inl (omega arith));
}

once_left : (f : ℕ) (xs ys : List ℕ) → Once f xs → AllByRecursion (λ x. x ≢ f) ys → Once f (xs ++ ys)
once_left f xs ys o h = record {
  before = o.before;
  after = o.after ++ ys;
  is = rw o.is (simp append_assoc);
  before_others = o.before_others;
  after_others = All-append _ o.after ys o.after_others h;
}

once_right : (f : ℕ) (xs ys : List ℕ) → AllByRecursion (λ x. x ≢ f) xs → Once f ys → Once f (xs ++ ys)
once_right f xs ys h o = record {
  before = xs ++ o.before;
  after = o.after;
  is = rw o.is (simp append_assoc);
  before_others = All-append _ xs o.before h o.before_others;
  after_others = o.after_others;
}

-- the circle has each frame once
pub once_circle : (size h f : ℕ) → f < size → h < size → Once f (circle size h)
once_circle size h f low within =
    elim (cases_lt f h) [
      | inl less ↦ once_right f (upward h (size - h)) (upward 0 h) (others f h (size - h) (inl less))
          (once_upward f 0 h (omega arith) (omega arith))
      | inr more ↦ once_left f (upward h (size - h)) (upward 0 h) (once_upward f h (size - h) more (omega arith))
          (others f 0 h (inr (omega arith)))
    ]

pub circle_within : (size h : ℕ) → h < size → AllByRecursion (λ x. x < size) (circle size h)
circle_within size h low =
    All-append _ (upward h (size - h)) (upward 0 h)
    (All-weaker _ _ (λ x k. omega arith) (upward h (size - h)) (upward_within h (size - h)))
    (All-weaker _ _ (λ x k. omega arith) (upward 0 h) (upward_within 0 h))

pub length-circle : (size h : ℕ) → h ≤ size → length (circle size h) ≡ size
length-circle size h low = simp (length-append, length-upward) (omega arith)
