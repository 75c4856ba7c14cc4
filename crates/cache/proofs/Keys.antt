-- Where a key stands in a list.
use Rattle.std.proofs.Common.{◌≡◌, ℕ, zero, suc, ◌+◌, ◌-◌, ◌<◌, ◌≤◌, true, false, ◌||◌, eqb, ltb, nat_eq, List, [], ◌∷◌, map, length, take}
use Rattle.std.proofs.Common.{drop, is_some, sym, refl, ◌∙◌, inl, inr, zero-add, arith}
use Rattle.std.proofs.lemmas.Bool.{cases_Bool, cases_eq, cases_lt, eq-eqb, ne_eqb, lt-ltb, le-ltb, or_parts, true≢false}
use Rattle.std.proofs.lemmas.List.{length-map, length-drop, drop-set-add, drop-append-le, take-set-le, take-append-le}
use Rattle.std.specs.List.{position, position_or_len}
use Rattle.policy.specs.Machine.{put}
use Rattle.base.specs.Lists.{member, place_in, found_in}

-- a list cut in two: in which part a key stands, and where
pub member_cut : (x n : ℕ) (xs : List ℕ) → member x xs ≡ (member x (take n xs) || member x (drop n xs))
member_cut x zero xs = refl
member_cut x (suc n) [] = refl
member_cut x (suc n) (y ∷ ys) = elim (cases_Bool (eqb x y)) [ inl e ↦ rw e | inr e ↦ rw e (member_cut x n ys) ]

pub place_front : (x n : ℕ) (xs : List ℕ) → member x (take n xs) ≡ true → place_in x xs < n
place_front x zero xs h = absurd (true≢false (sym h))
place_front x (suc n) [] h = absurd (true≢false (sym h))
place_front x (suc n) (y ∷ ys) h =
    elim (cases_Bool (eqb x y)) [
      | inl e ↦ rw e (omega arith)
      | inr e ↦
          rw e (let k : place_in x ys < n = place_front x n ys (rw e at h) in omega arith)
    ]

pub place_back : (x n : ℕ) (xs : List ℕ) → n ≤ length xs → member x (take n xs) ≡ false → place_in x xs ≡ n + place_in x (drop n xs)
place_back x zero xs h out = sym (zero-add _)
place_back x (suc n) [] h out = absurd (omega arith)
place_back x (suc n) (y ∷ ys) h out =
    let p = or_parts (eqb x y) (member x (take n ys)) out in
    let ih = place_back x n ys (omega arith) p.1 in
    rw (p.0, ih) (omega arith)

-- a key put into the later part leaves the front
pub put_back : (n f x : ℕ) (xs : List ℕ) → n ≤ length xs → drop n (put xs (n + f) x) ≡ put (drop n xs) f x
put_back n f x xs h = elim (cases_lt (n + f) (length xs)) [
  | inl k ↦ rw (length-drop, lt-ltb (n + f) (length xs) k, lt-ltb f (length xs - n) (omega arith), drop-set-add)
  | inr k ↦ rw (length-drop, le-ltb (n + f) (length xs) k, le-ltb f (length xs - n) (omega arith), drop-append-le)
]

pub put_front : (n f x : ℕ) (xs : List ℕ) → n ≤ length xs → take n (put xs (n + f) x) ≡ take n xs
put_front n f x xs h = elim (cases_lt (n + f) (length xs)) [
  | inl k ↦ rw (lt-ltb (n + f) (length xs) k) (take-set-le n xs (n + f) x (omega arith))
  | inr k ↦ rw (le-ltb (n + f) (length xs) k) (take-append-le n xs (x ∷ []) h)
]

-- a key that is not found
pub found_none : (keys : List ℕ) (x : ℕ) → is_some (found_in x keys) ≡ false → member x keys ≡ false
found_none keys x h = elim (cases_Bool (member x keys)) [ inl e ↦ absurd (true≢false (rw e at h)) | inr e ↦ e ]

-- a key stands in a list where its place is one of the list's
member_place : (x : ℕ) (xs : List ℕ) → member x xs ≡ ltb (place_in x xs) (length xs)
member_place x [] = refl
member_place x (y ∷ ys) = elim (cases_Bool (eqb x y)) [
  | inl e ↦ rw e (sym (lt-ltb 0 (length (y ∷ ys)) (omega arith)))
  | inr e ↦ rw e (member_place x ys ∙ elim (cases_lt (place_in x ys) (length ys)) [
    | inl l ↦ rw (lt-ltb (place_in x ys) (length ys) l, lt-ltb (suc (place_in x ys)) (length (y ∷ ys)) (omega arith))
    | inr l ↦ rw (le-ltb (place_in x ys) (length ys) l, le-ltb (suc (place_in x ys)) (length (y ∷ ys)) (omega arith))
  ])
]

-- the first element of a list that has a key, and where that key is found
module _ {X : Type 0} (key : X → ℕ) (x : ℕ) where
  first_place : (es : List X) → position_or_len (λ e. nat_eq (key e) x) es ≡ place_in x (map key es)
  first_place [] = refl
  first_place (e ∷ es) = elim (cases_eq x (key e)) [
    | inl k ↦ rw (eq-eqb (key e) x (sym k), eq-eqb x (key e) k)
    | inr n ↦ rw (ne_eqb (key e) x (λ k. n (sym k)), ne_eqb x (key e) n, first_place es) (omega arith)
  ]

  pub position_found : (es : List X) → position (λ e. nat_eq (key e) x) es ≡ found_in x (map key es)
  position_found es = rw (first_place es, member_place x (map key es), length-map es key)
