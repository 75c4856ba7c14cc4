-- A key's home is one of the places. No other proof looks at how it is computed.
use Rattle.std.proofs.Common.{◌≡◌, refl, ℕ, ◌+◌, ◌*◌, ◌/◌, ◌%◌, ◌^◌, ◌<◌, ◌≤◌, mul-le-mul_right, arith}
use Rattle.std.proofs.Math.Nat.{mul-lt-mul_of_pos_right, mod-add-mod}
use Rattle.std.proofs.lemmas.Nat.{mul-mod_second}
use Rattle.index.specs.Slots.{scattered, home}

-- how a spread is scattered, by steps of 32 bits
pub scattered_is : (s : ℕ) → s * ((s * 2 % 2 ^ 32 + 2654435769) % 2 ^ 32) % 2 ^ 32 ≡ scattered s
unfolding scattered
scattered_is s = rw (mod-add-mod (s * 2) (2 ^ 32) 2654435769) (mul-mod_second s (s * 2 + 2654435769) (2 ^ 32))

pub scattered_below : (s : ℕ) → scattered s < 2 ^ 32
unfolding scattered
scattered_below s = omega arith

-- a fraction of 2 ^ 32 of the places is no more than they are
pub scaled_most : (s places : ℕ) → s < 2 ^ 32 → s * places / 2 ^ 32 ≤ places
scaled_most s places small =
    let most : s * places ≤ 2 ^ 32 * places = mul-le-mul_right places (omega arith) in
    omega arith

module _ {K : Type 0} (spread : K → ℕ) (places : ℕ) (key : K) where
  pub home_below : 0 < places → home spread places key < places
  unfolding home
  home_below some =
      let less : scattered (spread key) * places < 2 ^ 32 * places = mul-lt-mul_of_pos_right (scattered_below (spread key)) some in
      omega arith

  -- where there is none, it is 0
  pub home_within : home spread places key ≤ places
  unfolding home
  home_within = scaled_most (scattered (spread key)) places (scattered_below (spread key))

  -- how it is computed from a scattered spread
  pub home_is : (s : ℕ) → s ≡ scattered (spread key) → s * places / 2 ^ 32 ≡ home spread places key
  unfolding home
  home_is s is = rw is refl
