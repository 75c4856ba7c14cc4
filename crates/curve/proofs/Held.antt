-- The keys that the frames of an order hold, the last frame's first.
use Rattle.std.proofs.Common.{◌≡◌, ℕ, suc, ◌≤◌, ◌<◌, true, false, eqb, List, [], ◌∷◌, ◌++◌, length, get_or, set}
use Rattle.std.proofs.Common.{sym, refl, ap, ◌∙◌, append-nil, append_assoc, ⊎_elim, arith}
use Rattle.std.proofs.lemmas.Bool.Decides.{nat_tests}
use Rattle.std.proofs.lemmas.Bool.{cases_Bool, or_left, or_right, or_from, eq-eqb}
use Rattle.std.proofs.lemmas.List.{length_push, take_all, take_at, get_or_append_left, get_or_push, get_or-set_same, get_or-set_other}
use Rattle.base.specs.Lists.{member, place_in, Apart, without}
use Rattle.policy.specs.Members.{member_at, member_push, member_index, place_within, index_place, without_misses, without_splits}
use Rattle.curve.specs.Recency.{to_front}
use Rattle.curve.proofs.Recents.{length_without}

abbrev pub held_in : List ℕ → List ℕ → List ℕ
held_in keys [] = []
held_in keys (f ∷ order) = held_in keys order ++ (get_or keys f 0 ∷ [])

length_held : (keys order : List ℕ) → length (held_in keys order) ≡ length order
length_held keys [] = refl
length_held keys (f ∷ order) = rw (length_push, length_held keys order) (omega arith)

-- a frame more at the end, and two parts of an order
held_append : (keys a b : List ℕ) → held_in keys (a ++ b) ≡ held_in keys b ++ held_in keys a
held_append keys [] b = sym (append-nil (held_in keys b))
held_append keys (f ∷ a) b =
    ap (λ zs. zs ++ (get_or keys f 0 ∷ [])) (held_append keys a b) ∙ append_assoc (held_in keys b) (held_in keys a) (get_or keys f 0 ∷ [])

held_push : (keys order : List ℕ) (f : ℕ) → held_in keys (order ++ (f ∷ [])) ≡ get_or keys f 0 ∷ held_in keys order
held_push keys order f = held_append keys order (f ∷ [])

-- keys that are the same at the order's frames
held_same : (keys keys' order : List ℕ) → ((f : ℕ) → member f order ≡ true → get_or keys' f 0 ≡ get_or keys f 0) →
    held_in keys' order ≡ held_in keys order
held_same keys keys' [] h = refl
held_same keys keys' (f ∷ order) h =
    rw (
      held_same keys keys' order (λ g e. h g (or_right (eqb g f) (member g order) e)),
      h f (or_left (eqb f f) (member f order) (eq-eqb f f refl)),
    )

-- an order with the frame of x has x, and none has a key that is not held
held_has : (keys order : List ℕ) (f : ℕ) → member f order ≡ true → member (get_or keys f 0) (held_in keys order) ≡ true
held_has keys [] f e = grind arith
held_has keys (g ∷ order) f e =
    let ih = held_has keys order f in
    member_push (get_or keys f 0) (get_or keys g 0) (held_in keys order) ∙ grind (arith, nat_tests)

held_misses : (keys order : List ℕ) (x : ℕ) → member x keys ≡ false → ((f : ℕ) → member f order ≡ true → f < length keys) →
    member x (held_in keys order) ≡ false
held_misses keys [] x e h = refl
held_misses keys (f ∷ order) x e h =
    let ih = held_misses keys order x e (λ g m. h g (or_right (eqb g f) (member g order) m)) in
    let here = member_index keys f (h f (or_left (eqb f f) (member f order) (eq-eqb f f refl))) in
    member_push x (get_or keys f 0) (held_in keys order) ∙
    or_from (member x (held_in keys order)) (eqb x (get_or keys f 0)) ih (grind (arith, nat_tests))

-- the frames hold a key exactly when the order's frames do
pub held_member : (keys order : List ℕ) (x : ℕ) → ((f : ℕ) → f < length keys → member f order ≡ true) →
    ((f : ℕ) → member f order ≡ true → f < length keys) → member x (held_in keys order) ≡ member x keys
held_member keys order x c b =
    ⊎_elim
    (λ e. rw (index_place x keys e) at (held_has keys order (place_in x keys) (c (place_in x keys) (place_within x keys e))) ∙ sym e)
    (λ e. held_misses keys order x e b ∙ sym e)
    (cases_Bool (member x keys))

-- a key taken from between others
without_between : (x : ℕ) (b a : List ℕ) → Apart (b ++ (x ∷ a)) → without x (b ++ (x ∷ a)) ≡ b ++ a
without_between x [] a h = rw (eq-eqb x x refl)
without_between x (y ∷ b) a h =
    let ih = without_between x b a h.1 in let m = member_at x b a in let d = h.0 in grind (arith, nat_tests)

-- a frame in use goes to the back: its key comes to the front
held_back : (keys order : List ℕ) (f : ℕ) → member f order ≡ true → Apart (held_in keys order) →
    held_in keys (without f order ++ (f ∷ [])) ≡ get_or keys f 0 ∷ without (get_or keys f 0) (held_in keys order)
held_back keys order f e h =
    let x = get_or keys f 0 in
    let parts = without_splits f order e in
    let a = parts.0 in
    let c = parts.1 in
    let split : held_in keys order ≡ held_in keys c ++ (x ∷ held_in keys a) =
    ap (held_in keys) parts.2 ∙ held_append keys a (f ∷ c) ∙ append_assoc (held_in keys c) (x ∷ []) (held_in keys a) in
    held_push keys (without f order) f ∙
    ap (λ zs. x ∷ zs) (ap (held_in keys) parts.3 ∙ held_append keys a c ∙
    sym (ap (without x) split ∙ without_between x (held_in keys c) (held_in keys a) (rw split at h)))

-- on k frames a hit, a fetch into the next frame and a fetch into the first of the order each bring x to the front
pub held_hit : (k x : ℕ) (keys order : List ℕ) (f : ℕ) → get_or keys f 0 ≡ x → member f order ≡ true → Apart (held_in keys order) →
    length order ≤ k → held_in keys (without f order ++ (f ∷ [])) ≡ to_front k x (held_in keys order)
held_hit k x keys order f at e h l =
    let new = rw at at (held_back keys order f e h) in
    let has : member x (held_in keys order) ≡ true = rw at at (held_has keys order f e) in
    let len = length_without x (held_in keys order) has in
    new ∙ sym (take_all k (x ∷ without x (held_in keys order)) (omega (arith, length_held keys order)))

pub held_room : (k x : ℕ) (keys order : List ℕ) → length keys ≡ length order → ((f : ℕ) → member f order ≡ true → f < length keys) →
    member x (held_in keys order) ≡ false → length order < k →
    held_in (keys ++ (x ∷ [])) (order ++ (length order ∷ [])) ≡ to_front k x (held_in keys order)
held_room k x keys order n b e l =
    held_push (keys ++ (x ∷ [])) order (length order) ∙
    rw (
      get_or_push keys x 0 (length order) n,
      held_same keys (keys ++ (x ∷ [])) order (λ f m. get_or_append_left keys (x ∷ []) 0 f (b f m)),
      without_misses x (held_in keys order) e,
    ) (sym (take_all k (x ∷ held_in keys order) (omega (arith, length_held keys order))))

pub held_full : (k x : ℕ) (keys rest : List ℕ) (f : ℕ) → f < length keys → member f rest ≡ false →
    member x (held_in keys (f ∷ rest)) ≡ false → suc (length rest) ≡ k →
    held_in (set keys f x) (rest ++ (f ∷ [])) ≡ to_front k x (held_in keys (f ∷ rest))
held_full k x keys rest f i n e l =
    held_push (set keys f x) rest f ∙
    rw (
      get_or-set_same keys f x 0 i,
      held_same keys (set keys f x) rest (λ g m. get_or-set_other keys f g x 0 (grind (arith, nat_tests))),
      without_misses x (held_in keys (f ∷ rest)) e,
    ) (sym (take_at (x ∷ held_in keys rest) (get_or keys f 0 ∷ []) k (omega (arith, length_held keys rest))))
