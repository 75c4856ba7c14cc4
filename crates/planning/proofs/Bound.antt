-- The competitive bound, by phases. Assumes nothing.
use Rattle.std.proofs.Common.{◌≡◌, ℕ, suc, ◌+◌, ◌*◌, ◌≤◌, true, List, [], ◌∷◌, ◌++◌}
use Rattle.std.proofs.Common.{length, inl, inr, append_assoc, append-nil, mul-le-mul_left, arith}
use Rattle.std.proofs.lemmas.Bool.{cases_lt}
use Rattle.std.proofs.lemmas.Bool.Decides.{nat_tests}
use Rattle.base.specs.Lists.{member, distinct, without}
use Rattle.planning.specs.Schedules.{Demand, done, hit, fill, swap}
use Rattle.planning.proofs.Members.{Subset, subset_push, length_without, subset_without, distinct_within}

-- A phase under way: it has touched `phase`, and a schedule on h frames, which now holds `held`, made e fetches in it.
-- `known` has the keys that the schedule held when the phase began, and those fetched since.
record Phase (h : ℕ) (phase held : List ℕ) (e : ℕ) : Type 0 where
  known : List ℕ
  size : length known ≤ h + e
  touches : Subset phase known
  holds : Subset held known

-- a phase that begins knows the keys held
begins : {h : ℕ} {phase held : List ℕ} → length held ≤ h → Subset phase held → Phase h phase held 0
begins {held = held} short part = record { known = held; size = omega arith; touches = part; holds = λ z f. f }

module _ {h : ℕ} {phase held : List ℕ} {e : ℕ} (p : Phase h phase held e) (x : ℕ) where
  -- a touch of a held key
  on_hit : member x held ≡ true → Phase h (phase ++ (x ∷ [])) held e
  on_hit here = record {
    known = p.known;
    size = p.size;
    touches = subset_push phase x p.known p.touches (p.holds x here);
    holds = p.holds;
  }

  -- a fetch of x, at which keys may be dropped
  on_fetch : (rest : List ℕ) → Subset rest held → Phase h (phase ++ (x ∷ [])) (x ∷ rest) (suc e)
  on_fetch rest kept = record {
    known = x ∷ p.known;
    size = omega arith;
    touches = subset_push phase x (x ∷ p.known) (λ z f. grind (arith, p.touches z f)) (grind (arith, nat_tests));
    holds = λ z f. grind (arith, kept z, p.holds z);
  }

-- `cost before touches` is what a policy fetches over `touches` that come after `before`
module _
    (k h w : ℕ) (some : 1 ≤ k) (wide : w + h ≡ k + 1)
    (cost : List ℕ → List ℕ → ℕ)
    (split : (before xs ys : List ℕ) → cost before (xs ++ ys) ≡ cost before xs + cost (before ++ xs) ys)
    (law : (before xs : List ℕ) → distinct xs ≤ k → cost before xs ≤ k) where
  -- the bound for a schedule that holds `held` and serves `rest` with d fetches, with a phase under way
  abbrev Bound : List ℕ → List ℕ → ℕ → Type 0
  Bound held rest d = (before phase : List ℕ) (e : ℕ) → distinct phase ≤ k → Phase h phase held e →
      w * cost before (phase ++ rest) ≤ k * (d + e) + k * w

  -- a touch goes on with the phase or, as key k + 1 of it, begins the next
  bound_touch : (held rest : List ℕ) (x d : ℕ) → Bound held rest d → length held ≤ h → member x held ≡ true →
      (before phase : List ℕ) (e : ℕ) → distinct phase ≤ k → Phase h (phase ++ (x ∷ [])) held e →
      w * cost before (phase ++ (x ∷ rest)) ≤ k * (d + e) + k * w
  bound_touch held rest x d later short here before phase e few p =
      elim (cases_lt k (distinct (phase ++ (x ∷ [])))) [
        | inl over ↦
            let made : w ≤ e = omega (arith, distinct_within (phase ++ (x ∷ [])) p.known p.touches) in
            let next = later (before ++ phase) (x ∷ []) 0 some (begins short (λ z f. grind (arith, nat_tests))) in
            rw split (omega (arith, mul-le-mul_left w (law before phase few), mul-le-mul_left k made, next))
        | inr still ↦ rw append_assoc at (later before (phase ++ (x ∷ [])) e still p)
      ]

  -- the bound, by induction on the schedule
  bound : {held rest : List ℕ} {d : ℕ} → Demand h held rest d → length held ≤ h → Bound held rest d
  bound done short before phase e few p = rw append-nil (omega (arith, mul-le-mul_left w (law before phase few)))
  bound (hit {x = x} here s) short before phase e few p =
      bound_touch _ _ x _ (bound s short) short here before phase e few (on_hit p x here)
  bound (fill {held = held} {x = x} new space s) short before phase e few p =
      omega (
        arith,
        bound_touch _ _ x _ (bound s space) space (grind (arith, nat_tests)) before phase (suc e) few
            (on_fetch p x held (λ z f. f)),
      )
  bound (swap {held = held} {x = x} new full y old s) short before phase e few p =
      let space : length (x ∷ without y held) ≤ h = omega (arith, length_without y held old) in
      omega (
        arith,
        bound_touch _ _ x _ (bound s space) space (grind (arith, nat_tests)) before phase (suc e) few
            (on_fetch p x (without y held) (subset_without y held)),
      )

  -- before the first touch, the phase is empty
  pub bound_from : {held touches : List ℕ} {d : ℕ} → Demand h held touches d → length held ≤ h → (before : List ℕ) →
      w * cost before touches ≤ k * d + k * w
  bound_from s short before = omega (arith, bound s short before [] 0 (omega arith) (begins short (λ z f. grind arith)))
