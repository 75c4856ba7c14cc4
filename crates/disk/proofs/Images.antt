-- What a write does to an image, sector by sector.
use Rattle.std.proofs.Common.{◌≡◌, ℕ, ◌+◌, ◌*◌, ◌/◌, ◌<◌, ◌≤◌, cond, List, ◌++◌, length, take, drop, Ok, sym, ap, ◌∙◌, inl, inr, arith}
use mathlib.Core.Path.{fun_ext}
use borrow.Rule.Slice.PartMut.{put_mid}
use Rattle.std.proofs.lemmas.List.{length-append, length-take-le, length-drop, drop-drop, drop_at, take_at, drop-take}
use Rattle.std.proofs.lemmas.Slice.{take-put_mid_below, drop-put_mid}
use Rattle.std.proofs.lemmas.Bool.{cases_order, eq-eqb, ne_eqb, cond-true}
use Rattle.disk.specs.Meaning.{raised, replaced, written_one, answer, serves, after_write}
use Rattle.disk.specs.Image.{whole_sectors, sector_of, image_written, image_of}
use Rattle.disk.proofs.Served.{live_answer, served}

-- a whole sector ends within the image
pub sector_ends : (n x : ℕ) → x < n / 512 → x * 512 + 512 ≤ n
sector_ends n x h = omega arith

module _ (image : List ℕ) (x : ℕ) (buffer : List ℕ) (inside : x < length image / 512) (sized : length buffer ≡ 512) where
  -- the part that the code writes
  pub written_put : image_written image x buffer ≡ put_mid (x * 512) 512 image buffer
  written_put = ap (λ r. take (x * 512) image ++ (buffer ++ r)) (sym (drop-drop 512 (x * 512) image))

  pub written_length : length (image_written image x buffer) ≡ length image
  written_length =
      let e = sector_ends (length image) x inside in
      simp (length-append, length-drop) (omega (arith, length-take-le (x * 512) image (omega arith)))

  sector_same : sector_of (image_written image x buffer) x ≡ buffer
  sector_same =
      let e = sector_ends (length image) x inside in
      ap (take 512)
      (drop_at (take (x * 512) image) (buffer ++ drop (x * 512 + 512) image) (x * 512) (length-take-le (x * 512) image (omega arith))) ∙
      take_at buffer (drop (x * 512 + 512) image) 512 sized

  sector_below : (y : ℕ) → y < x → sector_of (image_written image x buffer) y ≡ sector_of image y
  sector_below y h =
      let e = sector_ends (length image) x inside in
      sym (drop-take (y * 512) 512 (image_written image x buffer)) ∙
      ap (λ w. drop (y * 512) (take (y * 512 + 512) w)) written_put ∙
      ap (drop (y * 512)) (take-put_mid_below (x * 512) 512 image buffer (y * 512 + 512) (omega arith) (omega arith)) ∙
      drop-take (y * 512) 512 image

  sector_above : (y : ℕ) → x < y → sector_of (image_written image x buffer) y ≡ sector_of image y
  sector_above y h =
      let e = sector_ends (length image) x inside in
      ap (λ w. sector_of w y) written_put ∙
      ap (take 512) (drop-put_mid (x * 512) 512 image buffer (y * 512) (omega arith) (omega arith) sized)

  -- one sector is replaced
  pub written_sectors : sector_of (image_written image x buffer) ≡ replaced (sector_of image) x buffer
  written_sectors = fun_ext (λ y. elim (cases_order y x) [
    | inl e ↦ rw (eq-eqb y x e, e) sector_same
    | inr d ↦ elim d [
      | inl l ↦ rw (ne_eqb y x (λ e. omega arith)) (sector_below y l)
      | inr l ↦ rw (ne_eqb y x (λ e. omega arith)) (sector_above y l)
    ]
  ])

  -- the disk over it has served a write
  pub written_meaning : (dead : List ℕ) (reads writes : ℕ) →
      image_of (image_written image x buffer) dead reads (raised writes) ≡ written_one (image_of image dead reads writes) x buffer
  written_meaning dead reads writes = rw (written_length, written_sectors)

-- a served write on a disk over an image
pub image_after : (image dead : List ℕ) (reads writes x : ℕ) (buffer : List ℕ) →
    Ok tt ≡ answer (image_of image dead reads writes) x (length buffer) →
    image_of (image_written image x buffer) dead reads (raised writes) ≡ after_write (image_of image dead reads writes) x buffer
image_after image dead reads writes x buffer e =
    let m = image_of image dead reads writes in
    let l = live_answer m x (length buffer) e in
    written_meaning image x buffer (omega (arith, l.inside)) l.whole dead reads writes ∙
    sym (cond-true (serves m x (length buffer)) (written_one m x buffer) m (served m x (length buffer) e))

-- what a served write leaves of a disk over an image, and of the image
pub disk_written : (image dead : List ℕ) (reads writes x : ℕ) (buffer image' : List ℕ) (writes' : ℕ) →
    Ok tt ≡ answer (image_of image dead reads writes) x (length buffer) → image' ≡ image_written image x buffer → writes' ≡ raised writes →
    image_of image' dead reads writes' ≡ after_write (image_of image dead reads writes) x buffer
disk_written image dead reads writes x buffer image' writes' e w n = rw (w, n) (image_after image dead reads writes x buffer e)

pub image_put : (image dead : List ℕ) (reads writes x : ℕ) (buffer image' : List ℕ) →
    Ok tt ≡ answer (image_of image dead reads writes) x (length buffer) →
    image' ≡ image_written image x buffer →
    image' ≡ cond (serves (image_of image dead reads writes) x (length buffer)) (image_written image x buffer) image
image_put image dead reads writes x buffer image' e w =
    w ∙ sym (cond-true (serves (image_of image dead reads writes) x (length buffer)) (image_written image x buffer) image
    (served (image_of image dead reads writes) x (length buffer) e))

-- each sector of an image has 512 bytes
pub image_sized : (image : List ℕ) (x : ℕ) → x < whole_sectors image → length (sector_of image x) ≡ 512
image_sized image x h =
    let e = sector_ends (length image) x (omega arith) in
    length-take-le 512 (drop (x * 512) image) (rw (length-drop (x * 512) image) (omega arith))
