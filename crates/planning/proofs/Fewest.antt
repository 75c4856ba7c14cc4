-- MIN has the fewest fetches. Assumes nothing.
use Rattle.std.proofs.Common.{◌≡◌, ℕ, suc, ◌+◌, ◌-◌, ◌<◌, ◌≤◌, true, false, cond, ltb}
use Rattle.std.proofs.Common.{◌⊎◌, List, [], ◌∷◌, ◌++◌, length, take, set, inl, inr, arith}
use Rattle.std.proofs.lemmas.Bool.{ltb-false, cond_both, cases_Bool}
use Rattle.std.proofs.lemmas.Bool.Decides.{nat_tests}
use Rattle.base.specs.Lists.{member, without}
use Rattle.planning.specs.Minimum.{furthest, min_fetches}
use Rattle.planning.specs.Schedules.{Demand, done, hit, fill, swap}
use Rattle.planning.proofs.Furthest.{last, furthest_lt, all_again}
use Rattle.planning.proofs.Within.{one, within, Different, within_le, within_push}
use Rattle.planning.proofs.Within.{within_set, within_has, within_lacks, within_cons, within_without}
use Rattle.planning.proofs.Members.{length_without}

-- MIN's keys after a fetch of x
abbrev fetched : ℕ → List ℕ → ℕ → List ℕ → List ℕ
fetched h keys x rest = cond (ltb (length keys) h) (keys ++ (x ∷ [])) (set keys (furthest keys rest) x)

-- of the keys in ys, a fetch of x drops none, or it leaves h with x
abbrev Kept : ℕ → List ℕ → ℕ → List ℕ → List ℕ → Type 0
Kept h keys x ys next = (within keys ys + one x ys ≤ within next ys) ⊎ (h + one x ys ≤ within next ys + 1)

module _ (h : ℕ) (some : 1 ≤ h) (keys : List ℕ) (x : ℕ) (rest : List ℕ) where
  -- a property of both results of a fetch
  fetched_both : (P : List ℕ → Type 0) → P (keys ++ (x ∷ [])) →
      (h ≤ length keys → furthest keys rest < length keys → P (set keys (furthest keys rest) x)) → P (fetched h keys x rest)
  fetched_both P room full = cond_both (ltb (length keys) h) _ _ P (λ _. room)
      (λ e. let l = ltb-false (length keys) h e in full l (furthest_lt keys rest (omega arith)))

  -- a fetch adds x and nothing else
  fetched_le : (ys : List ℕ) → within (fetched h keys x rest) ys ≤ within keys ys + one x ys
  fetched_le ys = fetched_both (λ l. within l ys ≤ within keys ys + one x ys)
      (omega (arith, within_push keys x ys))
      (λ _ l. omega (arith, within_set keys (furthest keys rest) x ys l))

  -- MIN's keys stay different
  fetched_apart : member x keys ≡ false → Different keys → Different (fetched h keys x rest)
  fetched_apart new apart w = grind (arith, nat_tests, fetched_le (w ∷ []), apart w, within_lacks keys x new)

  -- what MIN drops is touched again last
  fetched_kept : (t : ℕ) → Kept h keys x (take t rest) (fetched h keys x rest)
  fetched_kept t = fetched_both (Kept h keys x (take t rest))
      (inl (omega (arith, within_push keys x (take t rest))))
      (λ full l. let sets = within_set keys (furthest keys rest) x (take t rest) l in
      elim (cases_Bool (member (last keys rest) (take t rest))) [
        | inl again ↦ inr (grind (arith, all_again keys rest t again))
        | inr never ↦ inl (grind arith)
      ])

-- by any time, the touches come to at most p more of the held keys than of MIN's
abbrev Ahead : List ℕ → List ℕ → ℕ → List ℕ → Type 0
Ahead held keys p touches = (t : ℕ) → within held (take t touches) ≤ within keys (take t touches) + p

-- a touch of x, by who holds it; `left` is what the schedule keeps where it fetches
module _ {h : ℕ} (some : 1 ≤ h) (held keys : List ℕ) (p x : ℕ) (rest : List ℕ) (ahead : Ahead held keys p (x ∷ rest)) where
  both_hit : member x held ≡ true → Different keys → Ahead held keys p rest
  both_hit here apart t = grind (arith, within_cons, within_has, apart x, ahead (suc t))

  min_fetches_it : length held ≤ h → member x held ≡ true → member x keys ≡ false →
      Ahead held (fetched h keys x rest) (p - 1) rest × (1 ≤ p)
  min_fetches_it few here lacks =
      let least : 1 ≤ p = omega (arith, ahead 1, within_has held x here, within_lacks keys x lacks) in (
        λ t. grind (
          arith,
          within_cons,
          within_has,
          within_lacks,
          within_le held (x ∷ take t rest),
          fetched_kept h some keys x rest t,
          ahead (suc t),
        ),
        least,
      )

  module _ (left : List ℕ) (drops : (ys : List ℕ) → within left ys ≤ within held ys) (new : member x held ≡ false) where
    schedule_fetches_it : Different keys → Ahead (x ∷ left) keys (p + 1) rest
    schedule_fetches_it apart t = grind (arith, within_cons, within_lacks, apart x, drops (take t rest), ahead (suc t))

    both_fetch : length left < h → member x keys ≡ false → Ahead (x ∷ left) (fetched h keys x rest) p rest
    both_fetch fits lacks t = grind (
      arith,
      within_cons,
      within_lacks,
      drops (take t rest),
      within_le left (take t rest),
      fetched_kept h some keys x rest t,
      ahead (suc t),
    )

-- a schedule's d fetches bound MIN's, from any keys
abbrev Bound : ℕ → List ℕ → List ℕ → ℕ → Type 0
Bound h held touches d = (keys : List ℕ) (p : ℕ) → Different keys → length held ≤ h → Ahead held keys p touches →
    min_fetches h keys touches ≤ d + p

module _ {h : ℕ} (some : 1 ≤ h) (held : List ℕ) (x : ℕ) (rest : List ℕ) (d : ℕ) where
  hit_bound : member x held ≡ true → Bound h held rest d → Bound h held (x ∷ rest) d
  hit_bound here bound keys p apart few ahead = elim (cases_Bool (member x keys)) [
    | inl has ↦ rw has (omega (arith, bound keys p apart few (both_hit some held keys p x rest ahead here apart)))
    | inr lacks ↦
        let next = min_fetches_it some held keys p x rest ahead few here lacks in
        rw lacks (omega (arith, bound (fetched h keys x rest) (p - 1) (fetched_apart h some keys x rest lacks apart) few next.0))
  ]

  fetch_bound : (left : List ℕ) → length left < h → ((ys : List ℕ) → within left ys ≤ within held ys) → member x held ≡ false →
      Bound h (x ∷ left) rest d → Bound h held (x ∷ rest) (suc d)
  fetch_bound left fits drops new bound keys p apart few ahead = elim (cases_Bool (member x keys)) [
    | inl has ↦ rw has (omega (
      arith,
      bound keys (p + 1) apart fits (schedule_fetches_it some held keys p x rest ahead left drops new apart),
    ))
    | inr lacks ↦
        rw lacks (omega (
          arith,
          bound (fetched h keys x rest) p (fetched_apart h some keys x rest lacks apart) fits
              (both_fetch some held keys p x rest ahead left drops new fits lacks),
        ))
  ]

demand_bound : {h : ℕ} {held touches : List ℕ} {d : ℕ} → 1 ≤ h → Demand h held touches d → Bound h held touches d
demand_bound some done = λ keys p _ _ _. omega arith
demand_bound some (hit {held} {x} {touches = rest} {d} here more) = hit_bound some held x rest d here (demand_bound some more)
demand_bound some (fill {held} {x} {touches = rest} {d} new room more) =
    fetch_bound some held x rest d held room (λ ys. omega arith) new (demand_bound some more)
demand_bound some (swap {held} {x} {touches = rest} {d} new full y old more) =
    fetch_bound some held x rest d (without y held) (omega (arith, length_without y held old))
    (λ ys. omega (arith, within_without y held ys old)) new (demand_bound some more)

pub fewest : (h d : ℕ) (touches : List ℕ) → 1 ≤ h → Demand h [] touches d → min_fetches h [] touches ≤ d
fewest h d touches some demand = omega (arith, demand_bound some demand [] 0 (λ _. omega arith) (omega arith) (λ _. omega arith))
