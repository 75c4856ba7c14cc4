-- A code has its unit and its sector number as the two digits to the base 2 ^ 32, so that it tells the key.
use Rattle.std.specs.Prelude.{◌≡◌, ◌/◌, ◌%◌, ◌^◌, ◌<◌}
use Rattle.std.proofs.Common.{sym, ap, ◌∙◌}
use Rattle.std.proofs.Math.Arith.{digits_div, digits_mod}
use Rattle.std.proofs.Math.Bridge.{le_prop}
use mathlib.Core.HLevel.{is_prop→PathP}
use Rattle.base.specs.Keys.{volume_code}
use Rattle.base.specs.declared.key.volume.VolumeKey.{VolumeKey}

same_unit : (a b : VolumeKey) → volume_code a ≡ volume_code b → a.asu ≡ b.asu
same_unit a b e = sym (digits_div a.asu a.fits) ∙ ap (λ n. n / 2 ^ 32) e ∙ digits_div b.asu b.fits

same_number : (a b : VolumeKey) → volume_code a ≡ volume_code b → a.lba ≡ b.lba
same_number a b e = sym (digits_mod a.asu a.fits) ∙ ap (λ n. n % 2 ^ 32) e ∙ digits_mod b.asu b.fits

pub same_key : (a b : VolumeKey) → volume_code a ≡ volume_code b → a ≡ b
same_key a b e =
    let p = same_unit a b e in
    let q = same_number a b e in
    λ i. record { asu = p i; lba = q i; fits = is_prop→PathP (λ j. q j < 2 ^ 32) (λ j. le_prop) a.fits b.fits i }
