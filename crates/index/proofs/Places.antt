-- Steps between the places of a ring.
use Rattle.std.proofs.Common.{◌≡◌, ℕ, ◌+◌, ◌-◌, ◌<◌, ◌≤◌, arith}
use Rattle.std.proofs.lemmas.Bool.Decides.{nat_tests}
use Rattle.base.specs.Rings.{onward}
use Rattle.index.specs.Places.{steps}

module _ (n : ℕ) where
  pub steps_none : (a : ℕ) → steps n a a ≡ 0
  steps_none a = grind (arith, nat_tests)

  pub steps_below : (a b : ℕ) → a < n → b < n → steps n a b < n
  steps_below a b p q = grind (arith, nat_tests)

  -- places as far from one are the same
  pub steps_same : (a b c : ℕ) → a < n → b < n → c < n → steps n a b ≡ steps n a c → b ≡ c
  steps_same a b c p q r e = grind (arith, nat_tests)

  pub onward_below : (a : ℕ) → a < n → onward n a < n
  onward_below a p = grind (arith, nat_tests)

  pub steps_onward : (a b : ℕ) → a < n → b < n → (onward n b ≡ a → ⊥) → steps n a (onward n b) ≡ steps n a b + 1
  steps_onward a b p q e = grind (arith, nat_tests)

  -- the place before a is the last of the round that starts at a
  pub steps_round : (a b : ℕ) → a < n → b < n → onward n b ≡ a → steps n a b + 1 ≡ n
  steps_round a b p q e = grind (arith, nat_tests)

  -- the places on the way from a to c, where c is not below a, and where it is
  pub steps_upward : (a b c : ℕ) → a ≤ c → c < n → b < n → steps n a b < steps n a c → (a ≤ b) × (b < c)
  steps_upward a b c p q r h = (grind (arith, nat_tests), grind (arith, nat_tests))

  pub steps_around : (a b c : ℕ) → c < a → a ≤ n → b < a → steps n a b < steps n a c → b < c
  steps_around a b c p q r h = grind (arith, nat_tests)

  -- a place on the way divides it
  steps_between : (a b c : ℕ) → a < n → b < n → c < n → steps n a b ≤ steps n a c → steps n b c ≡ steps n a c - steps n a b
  steps_between a b c p q r h = grind (arith, nat_tests)

  -- what lies between b and d lies before d on the way that leads from a across b
  pub steps_before : (a b c d : ℕ) → a < n → b < n → c < n → d < n → steps n a b < steps n a d → steps n b c < steps n b d →
      steps n a c < steps n a d
  steps_before a b c d p q r s h k =
      let e = steps_between a b d p q s (omega arith) in let m = steps_below a d p s in grind (arith, nat_tests)
