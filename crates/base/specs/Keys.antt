-- Codes of keys, and how a code is spread over 32 bits. Assumes nothing.
use Rattle.std.specs.Prelude.{ℕ, ◌+◌, ◌*◌, ◌/◌, ◌%◌, ◌^◌, List, map}
use Rattle.base.specs.declared.key.Key as keys
use Rattle.base.specs.declared.key.volume.VolumeKey.{VolumeKey}

-- the codes of a list of keys, by which definitions speak of it
abbrev pub codes_of : {K : Type 0} → keys.Ghosts K → List K → List ℕ
codes_of k list = map k.code list

-- the upper half of the code's product with an odd constant, modulo 2 ^ 64
unfoldable pub mixed : ℕ → ℕ
mixed code = ((code * 11400714819323198485) % 2 ^ 64) / 2 ^ 32

-- a volume key's code has the unit above the sector number
abbrev pub volume_code : VolumeKey → ℕ
volume_code k = k.asu * 2 ^ 32 + k.lba

abbrev pub volume_spread : VolumeKey → ℕ
volume_spread k = mixed (volume_code k)
