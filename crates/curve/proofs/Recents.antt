-- The different keys touched, the latest first, and where a key stands among them.
use Rattle.std.proofs.Common.{◌≡◌, ℕ, zero, suc, ◌≤◌, ◌&&◌, true, false, eqb, ltb, List, [], ◌∷◌, length, take}
use Rattle.std.proofs.Common.{refl, ap, ◌∙◌, ⊎_elim, arith, take-take}
use Rattle.std.proofs.lemmas.Bool.Decides.{nat_tests}
use Rattle.std.proofs.lemmas.Bool.{cases_Bool}
use Rattle.base.specs.Lists.{member, place_in, distinct, Apart, without}
use Rattle.policy.specs.Members.{without_misses, apart_without, without_gone}
use Rattle.curve.specs.Distances.{since, distance}
use Rattle.curve.specs.Recency.{to_front, found_at}

-- the different keys of past, the latest touched first
abbrev pub recent : List ℕ → List ℕ
recent [] = []
recent (x ∷ past) = x ∷ without x (recent past)

-- a key's place is the length of what stands before it
place_since : (x : ℕ) (xs : List ℕ) → place_in x xs ≡ length (since x xs)
place_since x [] = refl
place_since x (y ∷ ys) = let ih = place_since x ys in grind (arith, nat_tests)

-- a list without another key
since_without : (x z : ℕ) (xs : List ℕ) → eqb x z ≡ false → since x (without z xs) ≡ without z (since x xs)
since_without x z [] n = refl
since_without x z (y ∷ ys) n = let ih = since_without x z ys n in grind (arith, nat_tests)

other_without : (x z : ℕ) (xs : List ℕ) → eqb x z ≡ false → member x (without z xs) ≡ member x xs
other_without x z [] n = refl
other_without x z (y ∷ ys) n = let ih = other_without x z ys n in grind (arith, nat_tests)

pub length_without : (x : ℕ) (xs : List ℕ) → member x xs ≡ true → suc (length (without x xs)) ≡ length xs
length_without x [] e = grind arith
length_without x (y ∷ ys) e = let ih = length_without x ys in grind (arith, nat_tests)

-- the recent keys are the keys touched, each once
member_recent : (x : ℕ) (past : List ℕ) → member x (recent past) ≡ member x past
member_recent x [] = refl
member_recent x (y ∷ past) = let ih = member_recent x past in let o = other_without x y (recent past) in grind (arith, nat_tests)

pub apart_recent : (past : List ℕ) → Apart (recent past)
apart_recent [] = tt
apart_recent (x ∷ past) = (without_gone x (recent past) (apart_recent past), apart_without x (recent past) (apart_recent past))

length_recent : (past : List ℕ) → length (recent past) ≡ distinct past
length_recent [] = refl
length_recent (x ∷ past) =
    let ih = length_recent past in
    let m = member_recent x past in
    let l = length_without x (recent past) in
    let n = without_misses x (recent past) in
    ⊎_elim (λ e. rw e (omega (arith, l (m ∙ e)))) (λ e. rw (n (m ∙ e), e) (ap suc ih)) (cases_Bool (member x past))

-- those before x are the recent keys of the touches since x
since_recent : (x : ℕ) (past : List ℕ) → since x (recent past) ≡ recent (since x past)
since_recent x [] = refl
since_recent x (y ∷ past) =
    ⊎_elim
    (λ e. rw e)
    (λ e. rw e (ap (λ zs. y ∷ zs) (since_without x y (recent past) e ∙ ap (without y) (since_recent x past))))
    (cases_Bool (eqb x y))

place_recent : (x : ℕ) (past : List ℕ) → place_in x (recent past) ≡ distinct (since x past)
place_recent x past = place_since x (recent past) ∙ ap length (since_recent x past) ∙ length_recent (since x past)

-- what is cut off does not come back
take_front : (n x : ℕ) (xs : List ℕ) → take n (without x (take (suc n) xs)) ≡ take n (without x xs)
take_front zero x xs = refl
take_front (suc n) x [] = refl
take_front (suc n) x (y ∷ ys) =
    ⊎_elim
    (λ e. rw e (take-take (suc n) (suc n) ys (omega arith)))
    (λ e. rw e (ap (λ zs. y ∷ zs) (take_front n x ys)))
    (cases_Bool (eqb x y))

pub front_recent : (far x : ℕ) (past : List ℕ) → to_front far x (take far (recent past)) ≡ take far (recent (x ∷ past))
front_recent zero x past = refl
front_recent (suc n) x past = ap (λ zs. x ∷ zs) (take_front n x (recent past))

-- where a list that is cut has a key
member_take : (x n : ℕ) (xs : List ℕ) → member x (take n xs) ≡ (ltb (place_in x xs) n && member x xs)
member_take x zero xs = grind (arith, nat_tests)
member_take x (suc n) [] = grind (arith, nat_tests)
member_take x (suc n) (y ∷ ys) = let ih = member_take x n ys in grind (arith, nat_tests)

place_take : (x n : ℕ) (xs : List ℕ) → member x (take n xs) ≡ true → place_in x (take n xs) ≡ place_in x xs
place_take x zero xs e = grind arith
place_take x (suc n) [] e = refl
place_take x (suc n) (y ∷ ys) e = let ih = place_take x n ys in grind (arith, nat_tests)

-- a key is found at its distance
pub found_recent : (far x : ℕ) (past : List ℕ) → found_at far x (take far (recent past)) ≡ distance far x past
found_recent far x past =
    let m = member_recent x past in
    let p = place_recent x past in
    let t = member_take x far (recent past) in
    let q = place_take x far (recent past) in
    rw (← m, ← p) (grind (arith, nat_tests))

-- the k latest keys have one exactly when its distance is below k
pub held_recent : (far k x : ℕ) (past : List ℕ) → k ≤ far → member x (take k (recent past)) ≡ ltb (distance far x past) k
held_recent far k x past l =
    let m = member_recent x past in
    let p = place_recent x past in
    let t = member_take x k (recent past) in
    rw (← m, ← p) (grind (arith, nat_tests))
