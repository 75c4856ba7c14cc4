-- How far the keys are from their homes, all together: closing a gap brings keys nearer, so it ends.
use Rattle.std.proofs.Common.{◌≡◌, ℕ, zero, suc, ◌+◌, ◌-◌, ◌*◌, ◌<◌, List, [], ◌∷◌, length, get_or, set}
use Rattle.std.proofs.Common.{Option, Some, None, mul-le-mul_right, arith, length-set}
use Rattle.std.proofs.lemmas.List.{get_or-set_other}
use Rattle.index.specs.declared.slot.Entry.{Entry}
use Rattle.index.specs.Places.{steps}
use Rattle.index.specs.Slots.{home}
use Rattle.index.proofs.Places.{steps_below}

-- the sum of a number for each slot and its place, the first at i
abbrev pub sum-from : {X : Type 0} → (ℕ → X → ℕ) → ℕ → List X → ℕ
sum-from f i [] = 0
sum-from f i (x ∷ xs) = f i x + sum-from f (i + 1) xs

sum-from_set : {X : Type 0} (f : ℕ → X → ℕ) (i : ℕ) (xs : List X) (p : ℕ) (v d : X) → p < length xs →
    sum-from f i (set xs p v) + f (i + p) (get_or xs p d) ≡ sum-from f i xs + f (i + p) v
sum-from_set f i [] p v d h = absurd (omega arith)
sum-from_set f i (x ∷ xs) zero v d h =
    let e : i + 0 ≡ i = omega arith in rw e (omega arith)
sum-from_set f i (x ∷ xs) (suc p) v d h =
    let e : i + suc p ≡ i + 1 + p = omega arith in
    let r = sum-from_set f (i + 1) xs p v d (omega arith) in
    rw e (omega arith)

module _ {K : Type 0} (spread : K → ℕ) (n : ℕ) where
  -- how far a slot's key is from its home
  abbrev pub far : ℕ → Option (Entry K) → ℕ
  far p None = 0
  far p (Some x) = steps n (home spread n x.key) p

  abbrev pub far_all : List (Option (Entry K)) → ℕ
  far_all xs = sum-from far 0 xs

  -- what is left to do, with the gap at hole: keys may come nearer, and a round may go on
  abbrev pub left : List (Option (Entry K)) → ℕ → ℕ → ℕ
  left xs hole last = far_all xs * n + (n - steps n hole last)

  pub nearer : (xs ys : List (Option (Entry K))) (hole next : ℕ) (x : Entry K) → hole < length xs → next < length xs → (next ≡ hole → ⊥) →
      get_or xs hole None ≡ None → get_or xs next None ≡ Some x → ys ≡ set (set xs hole (get_or xs next None)) next (get_or xs hole None) →
      steps n (home spread n x.key) hole < steps n (home spread n x.key) next → far_all ys < far_all xs
  nearer xs ys hole next x in-hole in_next other free held is on =
      let zs = set xs hole (Some x) in
      let e : ys ≡ set zs next None = rw (free, held) at is in
      let in-zs : next < length zs = rw (length-set xs hole (Some x)) in_next in
      let a = rw free at (sum-from_set far 0 xs hole (Some x) None in-hole) in
      let b = rw (get_or-set_other xs hole next (Some x) None other, held) at (sum-from_set far 0 zs next None None in-zs) in
      let h : 0 + hole ≡ hole = omega arith in
      let j : 0 + next ≡ next = omega arith in
      rw e (omega (arith, rw h at a, rw j at b))

  pub left_less : (xs ys : List (Option (Entry K))) (hole last next : ℕ) → hole < n → last < n → far_all ys < far_all xs →
      left ys next next < left xs hole last
  left_less xs ys hole last next in-hole in-last less =
      let s = steps_below n hole last in-hole in-last in
      omega (arith, mul-le-mul_right n less)

  -- one slot further on in the same round
  pub left_on : (xs : List (Option (Entry K))) (hole last next : ℕ) → hole < n → next < n → steps n hole next ≡ steps n hole last + 1 →
      left xs hole next < left xs hole last
  left_on xs hole last next in-hole in_next step =
      let s = steps_below n hole next in-hole in_next in
      omega arith
