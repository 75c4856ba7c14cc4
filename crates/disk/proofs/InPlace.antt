-- A list whose elements are replaced one after another, from the first on.
use Rattle.std.proofs.Common.{◌≡◌, ℕ, ◌+◌, ◌<◌, ◌≤◌, List, [], ◌∷◌, ◌++◌, length, get_or, take, drop, set, ◌∙◌, arith}
use Rattle.std.proofs.lemmas.List.{take_more, take_more_set, drop_more, drop-set-lt, length-set, take_all}

-- the list us, which is now ts, once i elements are replaced
pub record Replaced {X : Type 0} (us ts : List X) (i : ℕ) : Type 0 where
  pub rest : drop i ts ≡ drop i us
  pub long : length ts ≡ length us

module _ {X : Type 0} {us ts : List X} {i : ℕ} (q : Replaced us ts i) where
  -- once the next one, t, is replaced by t'
  module _ (d t t' : X) (h : i < length ts) (is : t ≡ get_or ts i d) where
    pub replaced_more : Replaced us (set ts i t') (i + 1)
    replaced_more =
        let a = drop_more ts i d h in
        let b = drop_more us i d (rw q.long at h) in
        let c = q.rest in
        let tail : drop (i + 1) ts ≡ drop (i + 1) us = cc in
        record { rest = drop-set-lt (i + 1) ts i t' (omega arith) ∙ tail; long = length-set ts i t' ∙ q.long }

    pub one_before : take (i + 1) us ≡ take i us ++ (t ∷ [])
    one_before =
        let h' : i < length us = rw q.long at h in
        let a = drop_more ts i d h in
        let b = drop_more us i d h' in
        let c = q.rest in
        let head : get_or us i d ≡ t = cc in
        rw (take_more us i d h', head)

    pub one_after : take (i + 1) (set ts i t') ≡ take i ts ++ (t' ∷ [])
    one_after = take_more_set ts i t' h

  -- in the end
  pub all_before : length us ≤ i → take i us ≡ us
  all_before h = take_all i us h

  pub all_after : length us ≤ i → take i ts ≡ ts
  all_after h = take_all i ts (rw q.long h)
