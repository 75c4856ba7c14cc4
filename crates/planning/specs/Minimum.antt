-- MIN, from the touches still to come. Assumes nothing.
use Rattle.std.specs.Prelude.{ℕ, suc, ◌+◌, cond, List, [], ◌∷◌, ◌++◌, length, nat_lt, slice_index, slice_set}
use Rattle.base.specs.Lists.{member, place_in}

-- the lowest frame whose key is touched again last; a key that is not touched again counts as touched past the end
abbrev pub furthest : List ℕ → List ℕ → ℕ
furthest [] rest = 0
furthest (x ∷ []) rest = 0
furthest (x ∷ (y ∷ ys)) rest =
    cond (nat_lt (place_in x rest) (place_in (slice_index (y ∷ ys) (furthest (y ∷ ys) rest)) rest)) (suc (furthest (y ∷ ys) rest)) 0

-- the frame that serves x, with keys held and rest to come
abbrev pub min_frame : ℕ → List ℕ → ℕ → List ℕ → ℕ
min_frame h keys x rest = cond (member x keys) (place_in x keys) (cond (nat_lt (length keys) h) (length keys) (furthest keys rest))

-- the keys held after it
abbrev pub min_keys : ℕ → List ℕ → ℕ → List ℕ → List ℕ
min_keys h keys x rest =
    cond (member x keys) keys (cond (nat_lt (length keys) h) (keys ++ (x ∷ [])) (slice_set keys (furthest keys rest) x))

abbrev pub min_serves : ℕ → List ℕ → List ℕ → List ℕ
min_serves h keys [] = []
min_serves h keys (x ∷ rest) = min_frame h keys x rest ∷ min_serves h (min_keys h keys x rest) rest

abbrev pub min_fetches : ℕ → List ℕ → List ℕ → ℕ
min_fetches h keys [] = 0
min_fetches h keys (x ∷ rest) = cond (member x keys) 0 1 + min_fetches h (min_keys h keys x rest) rest
