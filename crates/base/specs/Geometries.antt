-- Which numbers make a geometry, and what it is then. Assumes nothing.
use Rattle.std.specs.Prelude.{◌≡◌, ℕ, ◌≤◌, cond, ◌&&◌, Ok, Err, Result, nat_le}
use Rattle.base.specs.declared.limits.TheConstants.{MAX_FRAMES, MAX_PINS}
use Rattle.base.specs.declared.refusal.Refusal.{Refusal}
use Rattle.base.specs.declared.refusal.Refusal.TheVariants.{FrameCount, PinPlaceCount}
use Rattle.base.specs.declared.geometry.Geometry.{Geometry}

abbrev pub frames_of : Geometry → ℕ
frames_of g = g.frames

abbrev pub pins_of : Geometry → ℕ
pins_of g = g.pins

-- the bounds that every geometry keeps
pub record Bounded (g : Geometry) : Type 0 where
  pub some : 1 ≤ frames_of g
  pub most : frames_of g ≤ MAX_FRAMES
  pub few : pins_of g ≤ MAX_PINS

-- how the numbers are judged: the frames first
abbrev pub judged_numbers : ℕ → ℕ → Result (ℕ × ℕ) Refusal
judged_numbers frames pins =
    cond (nat_le 1 frames && nat_le frames MAX_FRAMES)
    (cond (nat_le pins MAX_PINS) (Ok (frames, pins)) (Err PinPlaceCount))
    (Err FrameCount)

-- a geometry by its two numbers
abbrev pub read_off : Result Geometry Refusal → Result (ℕ × ℕ) Refusal
read_off (Ok g) = Ok (frames_of g, pins_of g)
read_off (Err e) = Err e

-- what making a geometry answers
abbrev pub built : ℕ → ℕ → Result Geometry Refusal → Type 0
built frames pins r = read_off r ≡ judged_numbers frames pins
