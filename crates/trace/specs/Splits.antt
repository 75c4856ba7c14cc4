-- How a text splits: at a byte into parts, and at its line endings into lines. Assumes nothing.
use Rattle.std.specs.Prelude.{◌≡◌, ℕ, Bool, false, cond, ◌&&◌, List, [], ◌∷◌, ◌++◌, ◌==◌, ◌≢◌}
use Rattle.std.specs.List.{AllByRecursion}

-- the byte between the fields of a line
abbrev pub comma : ℕ
comma = 44

-- the byte between the two parts of a time stamp
abbrev pub point : ℕ
point = 46

-- the byte that ends a line
abbrev pub line_feed : ℕ
line_feed = 10

-- the byte that may stand right before a line feed, as part of a line's ending
abbrev pub carriage_return : ℕ
carriage_return = 13

-- one byte more in front of the first part
abbrev pub led : ℕ → List (List ℕ) → List (List ℕ)
led b [] = (b ∷ []) ∷ []
led b (p ∷ ps) = (b ∷ p) ∷ ps

-- the parts between the bytes that equal `mark`, one part more than there are such bytes
abbrev pub parts : ℕ → List ℕ → List (List ℕ)
parts mark [] = [] ∷ []
parts mark (b ∷ bs) = cond (b == mark) ([] ∷ parts mark bs) (led b (parts mark bs))

-- a line feed comes first
abbrev pub feeds : List ℕ → Bool
feeds [] = false
feeds (b ∷ bs) = b == line_feed

-- the lines without their endings: a line feed ends a line, a carriage return right before it belongs to the ending,
-- and a line begins only where a byte stands
abbrev pub lines : List ℕ → List (List ℕ)
lines [] = []
lines (b ∷ bs) = cond (b == line_feed) ([] ∷ lines bs) (cond (b == carriage_return && feeds bs) (lines bs) (led b (lines bs)))

-- no byte equals the mark
abbrev pub Lacks : ℕ → List ℕ → Type 0
Lacks mark bs = AllByRecursion (λ b. b ≢ mark) bs

-- a text cut at its first mark
pub record Cut (mark : ℕ) (text before behind : List ℕ) : Type 0 where
  pub whole : text ≡ before ++ (mark ∷ behind)
  pub first : Lacks mark before
