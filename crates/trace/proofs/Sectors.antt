-- The sectors that a line touches. Assumes nothing.
use Rattle.std.proofs.Common.{◌≡◌, ℕ, zero, suc, ◌+◌, ◌*◌, ◌^◌, ◌<◌, List, [], ◌∷◌, ◌++◌, map, length, take, set, sym, refl, ap, ◌∙◌}
use Rattle.std.proofs.Common.{add-zero, add-one, arith}
use Rattle.std.proofs.lemmas.List.{take_more_set, map_push}
use Rattle.base.specs.Keys.{volume_code}
use Rattle.base.specs.declared.key.volume.VolumeKey.{VolumeKey}
use Rattle.trace.specs.Touches.{sectors_from}

pub length-upward : (asu lba n : ℕ) → length (sectors_from asu lba n) ≡ n
length-upward asu lba zero = refl
length-upward asu lba (suc n) = ap suc (length-upward asu (lba + 1) n)

upward_push : (asu lba n : ℕ) → sectors_from asu lba (n + 1) ≡ sectors_from asu lba n ++ ((asu * 2 ^ 32 + (lba + n)) ∷ [])
upward_push asu lba zero = rw (add-zero lba)
upward_push asu lba (suc n) =
    let e : lba + 1 + n ≡ lba + suc n = omega arith in
    let again =
    ap (sectors_from asu (lba + 1)) (sym (add-one n)) ∙ upward_push asu (lba + 1) n
    ∙ ap (λ m. sectors_from asu (lba + 1) n ++ ((asu * 2 ^ 32 + m) ∷ [])) e in
    ap (sectors_from asu lba) (add-one (suc n)) ∙ ap (λ t. (asu * 2 ^ 32 + lba) ∷ t) again

-- one key more behind those of the line's first sectors
pub codes_more : (keys : List VolumeKey) (i : ℕ) (k : VolumeKey) (asu lba : ℕ) → i < length keys →
    volume_code k ≡ asu * 2 ^ 32 + (lba + i) → map volume_code (take i keys) ≡ sectors_from asu lba i →
    map volume_code (take (i + 1) (set keys i k)) ≡ sectors_from asu lba (i + 1)
codes_more keys i k asu lba l e h =
    ap (map volume_code) (take_more_set keys i k l) ∙ map_push volume_code (take i keys) k ∙ (λ j. h j ++ (e j ∷ []))
    ∙ sym (upward_push asu lba i)
