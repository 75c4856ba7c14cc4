-- What a touch does to the keys held and to the eviction order. Assumes nothing.
use Rattle.std.specs.Prelude.{◌≡◌, ℕ, zero, suc, ◌+◌, ◌<◌, ◌≤◌, true, false, refl}
use Rattle.std.specs.Prelude.{List, [], ◌∷◌, ◌++◌, length, drop, slice_index, slice_set}
use Rattle.std.proofs.Common.{⊎_elim, arith}
use Rattle.std.specs.List.{AllByRecursion}
use Rattle.std.proofs.lemmas.List.{length-append, length_push, length-set}
use Rattle.std.proofs.lemmas.List.{get_or_append_left, get_or_push, get_or-set_same, get_or-set_other}
use Rattle.std.proofs.ByRecursion.{All-push, All-drop, All-weaker, All-from_get_or}
use Rattle.std.proofs.lemmas.Bool.{cases_eq}
use Rattle.base.specs.Lists.{member, distinct, Apart}
use Rattle.policy.specs.Order.{Later}
use Rattle.policy.specs.Members.{all_member, apart_few}

module _ (P : ℕ → Type 0) (f : ℕ) (p : P f) where
  -- f put in somewhere
  all_insert : (b c : List ℕ) → AllByRecursion P (b ++ c) → AllByRecursion P (b ++ (f ∷ c))
  all_insert [] c h = (p, h)
  all_insert (y ∷ b) c h = (h.0, all_insert b c h.1)

  drop-insert : (j : ℕ) (b c : List ℕ) → AllByRecursion P (drop j (b ++ c)) → AllByRecursion P (drop (suc j) (b ++ (f ∷ c)))
  drop-insert j [] c h = h
  drop-insert zero (y ∷ b) c h = all_insert b c h.1
  drop-insert (suc j) (y ∷ b) c h = drop-insert j b c h

  -- f put in last
  drop-push : (j : ℕ) (xs : List ℕ) → AllByRecursion P (drop j xs) → AllByRecursion P (drop j (xs ++ (f ∷ [])))
  drop-push zero xs h = All-push P xs f h p
  drop-push (suc j) [] h = All-drop P j [] tt
  drop-push (suc j) (x ∷ xs) h = drop-push j xs h

  -- f moved to a later place
  drop-later : (j : ℕ) (a b c : List ℕ) → AllByRecursion P (drop j (a ++ (f ∷ (b ++ c)))) → AllByRecursion P (drop j (a ++ (b ++ (f ∷ c))))
  drop-later zero [] b c h = all_insert b c h.1
  drop-later (suc j) [] b c h = drop-insert j b c h
  drop-later zero (y ∷ a) b c h = (h.0, drop-later zero a b c h.1)
  drop-later (suc j) (y ∷ a) b c h = drop-later j a b c h

-- a frame moved later leaves the length
pub later_length : (f : ℕ) (xs ys : List ℕ) → Later f xs ys → length xs ≡ length ys
later_length f xs ys l = rw (l.3, l.4) (simp length-append (omega arith))

-- What a fetch of x does on k frames: it fills the next frame, or the first of the order takes x and comes last.
pub data Step (k x : ℕ) : List ℕ → List ℕ → List ℕ → List ℕ → Type 0 where
  fills : {keys order : List ℕ} → Step k x keys order (keys ++ (x ∷ [])) (order ++ (length keys ∷ []))
  swaps : {keys rest : List ℕ} {f : ℕ} → f < length keys → length keys ≡ k →
      Step k x keys (f ∷ rest) (slice_set keys f x) (rest ++ (f ∷ []))

-- frame f holds one of the keys of whole
abbrev pub HoldsOneOf : List ℕ → List ℕ → ℕ → Type 0
HoldsOneOf whole keys f = (f < length keys) × (member (slice_index keys f) whole ≡ true)

-- it does so after a fetch of such a key too
holds_push : (whole keys : List ℕ) (x f : ℕ) → HoldsOneOf whole keys f → HoldsOneOf whole (keys ++ (x ∷ [])) f
holds_push whole keys x f h = (simp length_push (omega arith), rw (get_or_append_left keys (x ∷ []) 0 f h.0) h.1)

holds_set : (whole keys : List ℕ) (x g : ℕ) → member x whole ≡ true → (f : ℕ) → HoldsOneOf whole keys f →
    HoldsOneOf whole (slice_set keys g x) f
holds_set whole keys x g w f h = (
  simp length-set h.0,
  ⊎_elim (λ e. rw (e, get_or-set_same keys g x 0 (rw e at h.0)) w) (λ n. rw (get_or-set_other keys g f x 0 n) h.1) (cases_eq f g),
)

-- all frames of the order but the first j hold keys of whole
abbrev pub Recent : List ℕ → ℕ → List ℕ → List ℕ → Type 0
Recent whole j keys order = AllByRecursion (HoldsOneOf whole keys) (drop j order)

-- a use of such a frame leaves the first j, or fewer
pub later_recent : (whole : List ℕ) (j : ℕ) (keys order order' : List ℕ) (f : ℕ) → Later f order order' →
    HoldsOneOf whole keys f → Recent whole j keys order → Recent whole j keys order'
later_recent whole j keys order order' f l p h =
    rw l.4 (drop-later (HoldsOneOf whole keys) f p j l.0 l.1 l.2 (rw l.3 at h))

-- if all frames hold keys of whole, and x is another key of it, whole has more different keys than there are frames
full_recent : (whole keys order : List ℕ) (x : ℕ) → Recent whole 0 keys order → ((f : ℕ) → f < length keys → member f order ≡ true) →
    member x whole ≡ true → member x keys ≡ false → Apart keys → length keys < distinct whole
full_recent whole keys order x h c w n a =
    apart_few (x ∷ keys) whole (n, a) (w, All-from_get_or _ keys 0 (λ f l. (all_member (HoldsOneOf whole keys) order f h (c f l)).1))

-- a fetch uses up one of the other frames
pub step_recent : {k x : ℕ} {keys order keys' order' : List ℕ} → Step k x keys order keys' order' →
    (whole : List ℕ) → distinct whole ≤ k → member x whole ≡ true → member x keys ≡ false → Apart keys →
    ((f : ℕ) → f < length keys → member f order ≡ true) →
    (j : ℕ) → Recent whole j keys order → (i : ℕ) × (i + length keys < j + length keys') × Recent whole i keys' order'
step_recent {x} {keys} {order} fills whole d w n a c j h = (
  j,
  simp length_push (omega arith),
  drop-push (HoldsOneOf whole (keys ++ (x ∷ []))) (length keys)
      (simp length_push (omega arith), rw (get_or_push keys x 0 (length keys) refl) w) j order
      (All-weaker _ _ (holds_push whole keys x) (drop j order) h),
)
step_recent {x} (swaps {keys} {rest} {f} l e) whole d w n a c zero h =
    let many : length keys < distinct whole = full_recent whole keys (f ∷ rest) x h c w n a in absurd (omega arith)
step_recent {x} (swaps {keys} {rest} {f} l e) whole d w n a c (suc j) h = (
  j,
  simp length-set (omega arith),
  drop-push (HoldsOneOf whole (slice_set keys f x)) f (simp length-set l, rw (get_or-set_same keys f x 0 l) w) j rest
      (All-weaker _ _ (holds_set whole keys x f w) (drop j rest) h),
)
