-- Worked examples: fetches that are known from counting by hand, and ceilings. Assumes nothing.
use Rattle.std.specs.Prelude.{◌≡◌, ℕ, List, [], ◌∷◌}
use Rattle.policy.specs.Machine.{start, fetches}
use Rattle.policy.specs.Lru.{lru_rules}
use Rattle.policy.specs.Fifo.{fifo_rules}
use Rattle.policy.specs.Clock.{clock_rules}
use Rattle.curve.specs.Distances.{lru_distances, at_least}
use Rattle.planning.specs.Minimum.{min_fetches}
use Rattle.planning.specs.Plan.{ceiling}

-- what each rule fetches on k frames that begin empty
abbrev pub lru : ℕ → List ℕ → ℕ
lru k touches = fetches lru_rules (start lru_rules tt k) touches

abbrev pub fifo : ℕ → List ℕ → ℕ
fifo k touches = fetches fifo_rules (start fifo_rules tt k) touches

abbrev pub clock : ℕ → List ℕ → ℕ
clock k touches = fetches clock_rules (start clock_rules tt k) touches

abbrev pub optimum : ℕ → List ℕ → ℕ
optimum k touches = min_fetches k [] touches

-- a list on which FIFO fetches more often with four frames than with three, and LRU less often
abbrev pub anomaly : List ℕ
anomaly = 1 ∷ 2 ∷ 3 ∷ 4 ∷ 1 ∷ 2 ∷ 5 ∷ 1 ∷ 2 ∷ 3 ∷ 4 ∷ 5 ∷ []

-- a list on which it counts that a place sets the mark of its frame
abbrev pub marking : List ℕ
marking = 1 ∷ 2 ∷ 2 ∷ 3 ∷ 4 ∷ 3 ∷ []

-- a list of two keys in turn, after a third
abbrev pub pair : List ℕ
pair = 1 ∷ 2 ∷ 3 ∷ 2 ∷ 3 ∷ 2 ∷ 3 ∷ 2 ∷ 3 ∷ []

-- The table: what is counted, and its value.
abbrev pub examples : List (ℕ × ℕ)
examples =
    -- with four frames in place of three FIFO fetches more, and so does CLOCK
    (fifo 3 anomaly, 9)
    ∷ (fifo 4 anomaly, 10)
    ∷ (clock 3 anomaly, 9)
    ∷ (clock 4 anomaly, 10)
    -- LRU and the optimum never do
    ∷ (lru 3 anomaly, 10)
    ∷ (lru 4 anomaly, 8)
    ∷ (optimum 2 anomaly, 9)
    ∷ (optimum 3 anomaly, 7)
    ∷ (optimum 4 anomaly, 6)
    -- LRU's fetches are the touches at that distance or more
    ∷ (at_least 3 (lru_distances anomaly), 10)
    ∷ (at_least 4 (lru_distances anomaly), 8)
    -- other lists, and ceilings
    ∷ (clock 2 marking, 4)
    ∷ (optimum 2 pair, 3)
    ∷ (ceiling 2 2 (optimum 2 pair), 8)
    ∷ (ceiling 64 32 1000, 2003)
    ∷ (ceiling 3 2 5, 10)
    ∷ (ceiling 4 2 0, 4)
    ∷ (ceiling 18446744073709551615 1 18446744073709551615, 36893488147419103230)
    ∷ []

-- in every row what is counted is the value
abbrev pub Agree : List (ℕ × ℕ) → Type 0
Agree [] = Unit {0}
Agree (row ∷ rows) = (row.0 ≡ row.1) × Agree rows
