-- Keys that are written line by line. Assumes nothing.
use Rattle.std.proofs.Common.{◌≡◌, ℕ, ◌+◌, ◌≤◌, List, ◌∷◌, ◌++◌, map, length, take, drop, Ok, sym, ap, ◌∙◌, subst, append_assoc, arith}
use Rattle.std.proofs.Common.{length-append}
use Rattle.std.proofs.lemmas.List.{length-map, map-append}
use Rattle.std.proofs.lemmas.Slice.{take-put_mid, drop-put_mid}
use borrow.Rule.Slice.PartMut.{put_mid}
use Rattle.base.specs.Keys.{volume_code}
use Rattle.base.specs.declared.key.volume.VolumeKey.{VolumeKey}
use Rattle.trace.specs.declared.access.Access.{Access}
use Rattle.trace.specs.Accesses.{access_of}
use Rattle.trace.specs.Touches.{line_touches, judged_lines}
use Rattle.trace.proofs.Accepted.{ok_same}
use Rattle.trace.proofs.Judging.{judged_parts, length-touches}

-- t touches of `all` are written, and the lines left, behind line n, have the others
pub record Writing (n t : ℕ) (ls : List (List ℕ)) (all : List ℕ) (was keys : List VolumeKey) : Type 0 where
  pub rest : List ℕ
  pub accepts : judged_lines (n + 1) t ls ≡ Ok rest
  pub counts : t + length rest ≡ length all
  pub codes : map volume_code (take t keys) ++ rest ≡ all
  pub behind : drop (length all) keys ≡ drop (length all) was

-- a line more, whose access is a
module _ {n t : ℕ} {lines : List (List ℕ)} {all : List ℕ} {was keys : List VolumeKey} (w : Writing n t lines all was keys)
    {l : List ℕ} {ls : List (List ℕ)} {number : ℕ} (first : lines ≡ l ∷ ls) (next : number ≡ n + 1) where
  accepts_first : judged_lines number t (l ∷ ls) ≡ Ok w.rest
  accepts_first = ap (λ m. judged_lines m t (l ∷ ls)) next ∙ ap (judged_lines (n + 1) t) (sym first) ∙ w.accepts

  module _ (a : Access) (e : access_of number l ≡ Ok a) where
    writing_left : (more : List ℕ) × (judged_lines (number + 1) (t + a.sectors) ls ≡ Ok more) × (line_touches a ++ more ≡ w.rest)
    writing_left =
        let p = judged_parts number t l ls w.rest accepts_first in
        let P : Access → Type 0 =
        λ b. (more : List ℕ) × (judged_lines (number + 1) (t + b.sectors) ls ≡ Ok more) × (line_touches b ++ more ≡ w.rest) in
        subst P (ok_same (sym p.1 ∙ e)) p.3

    writing_counts : t + a.sectors + length writing_left.0 ≡ length all
    writing_counts =
        let long = ap length (sym writing_left.2) ∙ length-append (line_touches a) writing_left.0 in
        omega (arith, w.counts, length-touches a)

    pub writing_fits : t + a.sectors ≤ length all
    writing_fits = omega (arith, writing_counts)

    -- its touches are written behind the t before
    pub writing_more : (ys : List VolumeKey) (m k : ℕ) → m ≡ n + 1 → k ≡ a.sectors → length all ≤ length keys →
        map volume_code ys ≡ line_touches a → Writing m (t + a.sectors) ls all was (put_mid t k keys ys)
    writing_more ys m k counts is room touched =
        let more = writing_left in
        let long : length ys ≡ k = sym (length-map ys volume_code) ∙ ap length touched ∙ length-touches a ∙ sym is in
        let front : t ≤ length keys = omega (arith, writing_fits) in
        let before = map volume_code (take t keys) in
        let written =
        ap (map volume_code) (take-put_mid t k keys ys (t + a.sectors) (omega arith) front) ∙ map-append volume_code (take t keys) ys
        ∙ ap (λ cs. before ++ cs) touched in
        record {
          rest = more.0;
          accepts = ap (λ j. judged_lines (j + 1) (t + a.sectors) ls) (counts ∙ sym next) ∙ more.1;
          counts = writing_counts;
          codes = ap (λ cs. cs ++ more.0) written ∙ append_assoc before (line_touches a) more.0 ∙ ap (λ r. before ++ r) more.2 ∙ w.codes;
          behind = drop-put_mid t k keys ys (length all) (omega (arith, writing_fits)) front long ∙ w.behind;
        }
