-- Frames in a circle, as a hand that goes from the last frame to frame 0 reaches them. Assumes nothing.
use Rattle.std.specs.Prelude.{ℕ, zero, suc, ◌+◌, ◌-◌, List, [], ◌∷◌, ◌++◌}

-- n numbers upward from a
abbrev pub upward : ℕ → ℕ → List ℕ
upward a zero = []
upward a (suc n) = a ∷ upward (a + 1) n

-- the frames below size, from the hand on
abbrev pub circle : ℕ → ℕ → List ℕ
circle size hand = upward hand (size - hand) ++ upward 0 hand
