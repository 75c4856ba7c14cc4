-- MIN's list is a serving, and a serving is a demand schedule. Assumes nothing.
use Rattle.std.proofs.Common.{◌≡◌, ℕ, ◌<◌, ◌≤◌, Bool, true, false, ltb, List, [], ◌∷◌, ◌++◌}
use Rattle.std.proofs.Common.{length, get_or, set, refl, inl, inr, zero-add, one-add, arith, length-set}
use Rattle.std.proofs.lemmas.List.{length_push}
use Rattle.std.proofs.lemmas.Bool.{ltb-true, ltb-false, cases_Bool}
use Rattle.base.specs.Lists.{member, without}
use Rattle.policy.specs.Members.{place_within, index_place, member_index}
use Rattle.planning.specs.Minimum.{furthest, min_serves, min_fetches}
use Rattle.planning.specs.Schedules.{Demand, Serving, done, hit, fill, swap}
use Rattle.planning.proofs.Within.{within, within_push, within_set, within_has, within_lacks, within_without}
use Rattle.planning.proofs.Members.{length_without}
use Rattle.planning.proofs.Furthest.{furthest_lt}

pub min_serving : (h : ℕ) → 1 ≤ h → (keys touches : List ℕ) → length keys ≤ h →
    Serving h keys touches (min_serves h keys touches) (min_fetches h keys touches)
min_serving h some keys [] few = done
min_serving h some keys (x ∷ rest) few = elim (cases_Bool (member x keys)) [
  | inl has ↦ rw (has, zero-add) (hit (place_within x keys has) (index_place x keys has) (min_serving h some keys rest few))
  | inr lacks ↦ elim (cases_Bool (ltb (length keys) h)) [
    | inl e ↦
        let room = ltb-true (length keys) h e in
        rw (lacks, e, one-add) (fill lacks room (min_serving h some (keys ++ (x ∷ [])) rest (simp length_push (omega arith))))
    | inr e ↦
        let full : length keys ≡ h = omega (arith, ltb-false (length keys) h e) in
        let frame : furthest keys rest < h = omega (arith, furthest_lt keys rest (omega arith)) in
        rw (lacks, e, one-add) (swap lacks full frame (min_serving h some (set keys (furthest keys rest) x) rest (simp length-set few)))
  ]
]

-- two lists with the same keys, each as often
record Same (xs ys : List ℕ) : Type 0 where
  sizes : length xs ≡ length ys
  counts : (w : ℕ) → within xs (w ∷ []) ≡ within ys (w ∷ [])

module _ {keys held : List ℕ} (same : Same keys held) where
  same_member : (x : ℕ) (b : Bool) → member x keys ≡ b → member x held ≡ b
  same_member x b e = grind (arith, e, same.counts x, within_has, within_lacks)

  same_push : (x : ℕ) → Same (keys ++ (x ∷ [])) (x ∷ held)
  same_push x = record {
    sizes = omega (arith, length_push keys x, same.sizes);
    counts = λ w. omega (arith, within_push keys x (w ∷ []), same.counts w);
  }

  same_set : (f x : ℕ) → f < length keys → Same (set keys f x) (x ∷ without (get_or keys f 0) held)
  same_set f x l =
      let y = get_or keys f 0 in
      let old = same_member y true (member_index keys f l) in
      record {
        sizes = omega (arith, length-set keys f x, length_without y held old, same.sizes);
        counts = λ w. omega (arith, within_set keys f x (w ∷ []) l, within_without y held (w ∷ []) old, same.counts w);
      }

serving_demand : {h : ℕ} {keys held touches frames : List ℕ} {d : ℕ} → Serving h keys touches frames d → Same keys held →
    Demand h held touches d
serving_demand done same = done
serving_demand (hit {keys} {f = f} l e more) same =
    hit (rw e at (same_member same (get_or keys f 0) true (member_index keys f l))) (serving_demand more same)
serving_demand (fill {keys} {x} new room more) same =
    fill (same_member same x false new) (omega arith) (serving_demand more (same_push same x))
serving_demand (swap {keys} {x} {f} new full l more) same =
    let in-keys : f < length keys = omega arith in
    swap (same_member same x false new) (omega arith) (get_or keys f 0)
    (same_member same (get_or keys f 0) true (member_index keys f in-keys)) (serving_demand more (same_set same f x in-keys))

pub served : (h d : ℕ) (touches frames : List ℕ) → Serving h [] touches frames d → Demand h [] touches d
served h d touches frames serving = serving_demand serving (record { sizes = refl; counts = λ _. refl })
