-- The curve of a trace, and how it is printed. Assumes nothing.
use Rattle.std.specs.Prelude.{ℕ, min, List, ◌∷◌, ◌++◌, map, Ok, Result, decimal}
use Rattle.std.specs.List.{range_with_len}
use Rattle.base.specs.Results.{and_then}
use Rattle.base.specs.declared.limits.TheConstants.{MAX_FRAMES}
use Rattle.trace.specs.declared.fault.ReplayFault.{ReplayFault}
use Rattle.trace.specs.Splits.{comma}
use Rattle.trace.specs.Touches.{judged, accepted}
use Rattle.curve.specs.Distances.{lru_distances}
use Rattle.curve.specs.Curve.{lru_fetches, list_after}
use Rattle.curve.specs.declared.point.Point.{Point}

-- the touches of a text, where the list of keys and that of distances have so many places
abbrev pub touches_read : List ℕ → ℕ → ℕ → Result (List ℕ) ReplayFault
touches_read text keys distances = judged text (min keys distances)

abbrev pub point_frames : Point → ℕ
point_frames p = p.frames

abbrev pub point_fetches : Point → ℕ
point_fetches p = p.lru

-- what LRU fetches on k frames
abbrev pub point_at : List ℕ → ℕ → Point
point_at touches k = record { frames = k; lru = lru_fetches touches k }

-- a point for each number of frames, or the fault
abbrev pub points_of : Result (List ℕ) ReplayFault → Result (List Point) ReplayFault
points_of r = and_then r (λ touches. Ok (map (point_at touches) (range_with_len 1 MAX_FRAMES)))

-- the distances afterwards: one for each touch, and behind them what stood there; after a fault what they were
abbrev pub distances_of : Result (List ℕ) ReplayFault → List ℕ → List ℕ
distances_of r old = list_after r (lru_distances (accepted r)) old

-- a point is printed as its numbers, with a comma between them
abbrev pub shown_point : Point → List ℕ
shown_point p = decimal p.frames ++ (comma ∷ decimal p.lru)
