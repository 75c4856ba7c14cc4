-- Membership, keys that are all different, and how many a list can have. Assumes nothing.
use Rattle.std.specs.Prelude.{◌≡◌, ℕ, zero, suc, ◌+◌, ◌<◌, ◌≤◌, true, false, cond, ◌||◌, ◌==◌, ◌≢◌, refl}
use Rattle.std.specs.Prelude.{List, [], ◌∷◌, ◌++◌, length, slice_index, slice_set}
use Rattle.std.proofs.Common.{sym, ap, inl, inr, ⊎_elim, arith}
use Rattle.std.specs.List.{AllByRecursion}
use Rattle.std.proofs.lemmas.Bool.Decides.{nat_tests}
use Rattle.std.proofs.lemmas.Bool.{cases_Bool, or_cases, or_left, or_right, or_from, eq-eqb, eqb-true, ne_eqb}
use Rattle.std.proofs.ByRecursion.{All-weaker}
use Rattle.base.specs.Lists.{member, place_in, distinct, Apart, without}

-- every key of xs is one of ys
abbrev pub Among : List ℕ → List ℕ → Type 0
Among ys xs = AllByRecursion (λ x. member x ys ≡ true) xs

-- what holds of each element holds of a member
pub all_member : (P : ℕ → Type 0) (xs : List ℕ) (x : ℕ) → AllByRecursion P xs → member x xs ≡ true → P x
all_member P [] x h e = grind arith
all_member P (y ∷ ys) x h e =
    ⊎_elim (λ t. rw (eqb-true x y t) h.0) (λ t. all_member P ys x h.1 t) (or_cases (x == y) (member x ys) e)

-- the first of a list is a member
pub member_first : (x : ℕ) (xs rest : List ℕ) → xs ≡ x ∷ rest → member x xs ≡ true
member_first x xs rest e = rw e (grind (arith, nat_tests))

-- what stands somewhere in a list is a member
pub member_at : (x : ℕ) (a b : List ℕ) → member x (a ++ (x ∷ b)) ≡ true
member_at x [] b = or_left (x == x) _ (eq-eqb x x refl)
member_at x (y ∷ a) b = or_right (x == y) _ (member_at x a b)

-- what differs from each element is no member
pub others_miss : (x : ℕ) (xs : List ℕ) → AllByRecursion (λ y. y ≢ x) xs → member x xs ≡ false
others_miss x [] h = refl
others_miss x (y ∷ ys) h = or_from (x == y) (member x ys) (ne_eqb x y (λ e. h.0 (sym e))) (others_miss x ys h.1)

-- where a member stands
pub place_within : (x : ℕ) (xs : List ℕ) → member x xs ≡ true → place_in x xs < length xs
place_within x [] e = grind arith
place_within x (y ∷ ys) e = let ih = place_within x ys in grind (arith, nat_tests)

pub index_place : (x : ℕ) (xs : List ℕ) → member x xs ≡ true → slice_index xs (place_in x xs) ≡ x
index_place x [] e = grind arith
index_place x (y ∷ ys) e = let ih = index_place x ys in grind (arith, nat_tests)

-- a member of a list that grows at its end
pub member_push : (x y : ℕ) (xs : List ℕ) → member x (xs ++ (y ∷ [])) ≡ (member x xs || x == y)
member_push x y [] = grind arith
member_push x y (z ∷ zs) = let ih = member_push x y zs in grind (arith, nat_tests)

-- keys stay apart with a new one at the end, or in place of one of them
pub apart_push : (xs : List ℕ) (x : ℕ) → Apart xs → member x xs ≡ false → Apart (xs ++ (x ∷ []))
apart_push [] x h e = (refl, tt)
apart_push (y ∷ ys) x h e = (let p = member_push y x ys in grind (arith, nat_tests), apart_push ys x h.1 (grind arith))

-- a key that is neither in a list nor put into it
set_misses : (y x : ℕ) (xs : List ℕ) (i : ℕ) → (y == x) ≡ false → member y xs ≡ false → member y (slice_set xs i x) ≡ false
set_misses y x [] i n e = e
set_misses y x (z ∷ zs) zero n e = grind arith
set_misses y x (z ∷ zs) (suc i) n e = let ih = set_misses y x zs i n in grind arith

pub apart_set : (xs : List ℕ) (i x : ℕ) → Apart xs → member x xs ≡ false → Apart (slice_set xs i x)
apart_set [] i x h e = tt
apart_set (y ∷ ys) zero x h e = (grind arith, h.1)
apart_set (y ∷ ys) (suc i) x h e = (set_misses y x ys i (grind (arith, nat_tests)) h.0, apart_set ys i x h.1 (grind arith))

-- every key of a list is one of it
pub among_itself : (xs : List ℕ) → Among xs xs
among_itself [] = tt
among_itself (x ∷ xs) = (grind (arith, nat_tests), All-weaker _ _ (λ y h. or_right (y == x) (member y xs) h) xs (among_itself xs))

-- how many of xs are among ys
abbrev shared : List ℕ → List ℕ → ℕ
shared [] ys = 0
shared (x ∷ xs) ys = cond (member x ys) 1 0 + shared xs ys

-- one key more among ys: none of xs, one that ys had, or one of xs
shared_other : (xs : List ℕ) (y : ℕ) (ys : List ℕ) → member y xs ≡ false → shared xs (y ∷ ys) ≡ shared xs ys
shared_other [] y ys e = refl
shared_other (x ∷ xs) y ys e = let ih = shared_other xs y ys in grind (arith, nat_tests)

shared_again : (xs : List ℕ) (y : ℕ) (ys : List ℕ) → member y ys ≡ true → shared xs (y ∷ ys) ≡ shared xs ys
shared_again [] y ys e = refl
shared_again (x ∷ xs) y ys e = let ih = shared_again xs y ys e in grind (arith, nat_tests)

shared_one : (xs : List ℕ) (y : ℕ) (ys : List ℕ) → Apart xs → shared xs (y ∷ ys) ≤ suc (shared xs ys)
shared_one [] y ys h = omega arith
shared_one (x ∷ xs) y ys h = let ih = shared_one xs y ys h.1 in let o = shared_other xs y ys in grind (arith, nat_tests)

-- no more of xs are among ys than ys has different keys
shared_few : (xs ys : List ℕ) → Apart xs → shared xs ys ≤ distinct ys
shared_few xs [] h = none xs
  where
    none : (xs : List ℕ) → shared xs [] ≤ 0
    none [] = omega arith
    none (x ∷ xs) = omega (arith, none xs)
shared_few xs (y ∷ ys) h =
    let ih = shared_few xs ys h in let a = shared_again xs y ys in let o = shared_one xs y ys h in grind (arith, nat_tests)

shared_all : (xs ys : List ℕ) → Among ys xs → shared xs ys ≡ length xs
shared_all [] ys h = refl
shared_all (x ∷ xs) ys h = let ih = shared_all xs ys h.1 in grind arith

-- different keys among ys are at most as many as ys has different keys
pub apart_few : (xs ys : List ℕ) → Apart xs → Among ys xs → length xs ≤ distinct ys
apart_few xs ys a h = omega (arith, shared_few xs ys a, shared_all xs ys h)

-- a list's keys are all different exactly when it has as many different keys as keys
distinct_most : (xs : List ℕ) → distinct xs ≤ length xs
distinct_most [] = omega arith
distinct_most (x ∷ xs) = let ih = distinct_most xs in grind (arith, nat_tests)

pub distinct_apart : (xs : List ℕ) → distinct xs ≡ length xs → Apart xs
distinct_apart [] e = tt
distinct_apart (x ∷ xs) e = (
  let ih = distinct_most xs in grind (arith, nat_tests),
  distinct_apart xs (let ih = distinct_most xs in grind (arith, nat_tests)),
)

pub apart_distinct : (xs : List ℕ) → Apart xs → distinct xs ≡ length xs
apart_distinct [] h = refl
apart_distinct (x ∷ xs) h = rw (h.0, apart_distinct xs h.1)

-- a list without one of its keys
pub member_without : (f g : ℕ) (xs : List ℕ) → member f xs ≡ true → (member g (without f xs) || g == f) ≡ member g xs
member_without f g [] e = grind arith
member_without f g (y ∷ ys) e = let ih = member_without f g ys in grind (arith, nat_tests)

pub without_misses : (f : ℕ) (xs : List ℕ) → member f xs ≡ false → without f xs ≡ xs
without_misses f [] e = refl
without_misses f (y ∷ ys) e = let ih = without_misses f ys in grind (arith, nat_tests)

pub without_splits : (f : ℕ) (xs : List ℕ) → member f xs ≡ true →
    (a : List ℕ) × (c : List ℕ) × (xs ≡ a ++ (f ∷ c)) × (without f xs ≡ a ++ c)
without_splits f [] e = absurd (grind arith)
without_splits f (y ∷ ys) e =
    ⊎_elim
    (λ t. ([], ys, ap (λ z. z ∷ ys) (sym (eqb-true f y t)), rw t))
    (λ t. let parts = without_splits f ys (rw t at e) in
    (y ∷ parts.0, parts.1, ap (λ zs. y ∷ zs) parts.2, rw t (ap (λ zs. y ∷ zs) parts.3)))
    (cases_Bool (f == y))

-- what is not in a list is not in it without some key either
fewer_without : (g f : ℕ) (xs : List ℕ) → member g xs ≡ false → member g (without f xs) ≡ false
fewer_without g f [] e = e
fewer_without g f (y ∷ ys) e = let ih = fewer_without g f ys in grind (arith, nat_tests)

-- keys that are all different stay so without one of them, which is then not there
pub apart_without : (f : ℕ) (xs : List ℕ) → Apart xs → Apart (without f xs)
apart_without f [] h = tt
apart_without f (y ∷ ys) h =
    elim (cases_Bool (f == y)) [ inl t ↦ rw t h.1 | inr t ↦ rw t (fewer_without y f ys h.0, apart_without f ys h.1) ]

pub without_gone : (f : ℕ) (xs : List ℕ) → Apart xs → member f (without f xs) ≡ false
without_gone f [] h = refl
without_gone f (y ∷ ys) h = let ih = without_gone f ys h.1 in let d = h.0 in grind (arith, nat_tests)

-- what stands at a place of a list is a member
pub member_index : (xs : List ℕ) (i : ℕ) → i < length xs → member (slice_index xs i) xs ≡ true
member_index [] i l = absurd (omega arith)
member_index (x ∷ xs) zero l = or_left (x == x) _ (eq-eqb x x refl)
member_index (x ∷ xs) (suc i) l = or_right (slice_index xs i == x) _ (member_index xs i (omega arith))
