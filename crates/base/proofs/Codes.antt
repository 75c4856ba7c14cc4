-- Codes of the keys of a list.
use Rattle.std.proofs.Common.{◌≡◌, ℕ, ◌<◌, List, map, length, get_or, sym, ap, ◌∙◌}
use Rattle.std.proofs.lemmas.List.{get_or-map}

-- an element's code is the code at its place
pub code_at : {K : Type 0} (code : K → ℕ) (keys : List K) (i : ℕ) (key : K) → i < length keys → key ≡ get_or keys i key →
    code key ≡ get_or (map code keys) i 0
code_at code keys i key l e = ap code e ∙ sym (get_or-map code keys i key 0 l)
