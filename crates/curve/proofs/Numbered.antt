-- The points of the curve, one after another.
use Rattle.std.proofs.Common.{◌≡◌, ℕ, ◌+◌, ◌<◌, List, [], ◌∷◌, ◌++◌, map, length, get_or, set, take, sym, ap, ◌∙◌, arith}
use Rattle.std.proofs.lemmas.List.{map-append, take_more, take_more_set, length-set}
use Rattle.std.proofs.lemmas.List.FromFn.{get_or-range_with_len, length-range_with_len}
use Rattle.std.specs.List.{range_with_len}
use Rattle.curve.specs.declared.point.Point.{Point}
use Rattle.curve.specs.Points.{point_frames, point_fetches}

-- the first i points have the numbers of frames from 1 on, and the fetches so far
pub record Numbered (far : ℕ) (fetches : List ℕ) (points : List Point) (i : ℕ) : Type 0 where
  pub long : length points ≡ far
  pub frames : map point_frames (take i points) ≡ take i (range_with_len 1 far)
  pub counts : map point_fetches (take i points) ≡ take i fetches

-- one number more
mapped_more : (f : Point → ℕ) (points : List Point) (ys : List ℕ) (i : ℕ) (p : Point) →
    i < length points → i < length ys → f p ≡ get_or ys i 0 →
    map f (take i points) ≡ take i ys → map f (take (i + 1) (set points i p)) ≡ take (i + 1) ys
mapped_more f points ys i p l m e q =
    ap (map f) (take_more_set points i p l) ∙ map-append f (take i points) (p ∷ []) ∙ ap (λ w. w ++ (f p ∷ [])) q ∙
    ap (λ y. take i ys ++ (y ∷ [])) e ∙ sym (take_more ys i 0 m)

pub numbered_more : (far : ℕ) (fetches : List ℕ) (points : List Point) (i : ℕ) (p : Point) → Numbered far fetches points i →
    i < far → i < length fetches → p.frames ≡ i + 1 → p.lru ≡ get_or fetches i 0 → Numbered far fetches (set points i p) (i + 1)
numbered_more far fetches points i p s l m ef el = record {
  long = length-set points i p ∙ s.long;
  frames = mapped_more point_frames points (range_with_len 1 far) i p (omega (arith, s.long)) (rw (length-range_with_len 1 far) l)
      (ef ∙ sym (get_or-range_with_len 1 far i 0 l ∙ omega arith)) s.frames;
  counts = mapped_more point_fetches points fetches i p (omega (arith, s.long)) m el s.counts;
}
