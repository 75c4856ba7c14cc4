-- How far back, in different keys, each touch of a list finds its key. Assumes nothing.
use Rattle.std.specs.Prelude.{ℕ, min, cond, List, [], ◌∷◌, ◌==◌, map, nat_le, count_by}
use Rattle.std.specs.List.{range_with_len}
use Rattle.base.specs.Lists.{member, distinct}
use Rattle.base.specs.declared.limits.TheConstants.{MAX_FRAMES}

-- the touches since the latest touch of x, where past has the touches before, the latest first
abbrev pub since : ℕ → List ℕ → List ℕ
since x [] = []
since x (y ∷ past) = cond (x == y) [] (y ∷ since x past)

-- the distance of a touch of x: how many different keys were touched since the latest touch of x, at most `far`; and `far` where x was
-- never touched
abbrev pub distance : ℕ → ℕ → List ℕ → ℕ
distance far x past = cond (member x past) (min far (distinct (since x past))) far

-- the distance of each touch of a list, after the touches of past
abbrev pub distances_after : ℕ → List ℕ → List ℕ → List ℕ
distances_after far past [] = []
distances_after far past (x ∷ xs) = distance far x past ∷ distances_after far (x ∷ past) xs

-- of each touch of a list; none is above the most frames
abbrev pub lru_distances : List ℕ → List ℕ
lru_distances touches = distances_after MAX_FRAMES [] touches

-- how many of some distances are k or more
abbrev pub at_least : ℕ → List ℕ → ℕ
at_least k distances = count_by (nat_le k) distances

-- the same for each k from 1 to the most frames
unfoldable pub far_counts : List ℕ → List ℕ
far_counts distances = map (λ k. at_least k distances) (range_with_len 1 MAX_FRAMES)
