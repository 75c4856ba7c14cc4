-- What digits write. Assumes nothing.
use Rattle.std.proofs.Common.{◌≡◌, ℕ, ◌<◌, ◌≤◌, true, false, ◌&&◌, leb, List, length, Some, None, refl}
use Rattle.std.proofs.lemmas.Bool.{le-leb, and_right}
use Rattle.trace.specs.Numerals.{all_digits, value, numeral}

pub numeral_refused : (most : ℕ) (bs : List ℕ) → all_digits bs ≡ false → numeral most bs ≡ None
numeral_refused most bs e = rw (e, and_right (leb 1 (length bs) && leb (length bs) most) false refl)

pub numeral_read : (most : ℕ) (bs : List ℕ) → 0 < length bs → length bs ≤ most → all_digits bs ≡ true → numeral most bs ≡ Some (value bs)
numeral_read most bs some few e = rw (le-leb 1 (length bs) some, le-leb (length bs) most few, e)
