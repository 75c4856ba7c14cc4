-- Decimal digits and the number that they write. Assumes nothing.
use Rattle.std.specs.Prelude.{ℕ, ◌+◌, ◌-◌, ◌*◌, Bool, true, cond, ◌&&◌, List, [], ◌∷◌, length, Some, None, Option, nat_le}

-- a byte from '0' to '9'
abbrev pub digit : ℕ → Bool
digit b = nat_le 48 b && nat_le b 57

-- every byte is a digit
abbrev pub all_digits : List ℕ → Bool
all_digits [] = true
all_digits (b ∷ bs) = digit b && all_digits bs

-- the number that digits write behind those of n
abbrev pub value_after : ℕ → List ℕ → ℕ
value_after n [] = n
value_after n (b ∷ bs) = value_after (n * 10 + (b - 48)) bs

-- the number that digits write
abbrev pub value : List ℕ → ℕ
value bs = value_after 0 bs

-- the number that one to `most` digits write, and none where the bytes have another form
abbrev pub numeral : ℕ → List ℕ → Option ℕ
numeral most bs = cond ((nat_le 1 (length bs) && nat_le (length bs) most) && all_digits bs) (Some (value bs)) None
