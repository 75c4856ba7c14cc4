-- Lines that are judged one after another. Assumes nothing.
use Rattle.std.proofs.Common.{◌≡◌, ℕ, ◌+◌, ◌≤◌, leb, List, ◌∷◌, ◌++◌, length, Ok, Err, Result, sym, refl, ap, ◌∙◌, add_assoc, length-append}
use Rattle.std.proofs.lemmas.Bool.{le-leb, leb-true}
use Rattle.trace.specs.declared.access.Access.{Access}
use Rattle.trace.specs.declared.fault.LineFault.{LineFault}
use Rattle.trace.specs.declared.fault.LineFault.TheVariants as line_fault
use Rattle.trace.specs.Accesses.{access_of}
use Rattle.base.specs.Results.{and_then}
use Rattle.trace.specs.Touches.{line_touches, so_far, judged_lines}
use Rattle.trace.proofs.Accepted.{ok_same, then_parts, cond_parts}
use Rattle.trace.proofs.Sectors.{length-upward}

-- the touches before with those accepted
abbrev pub added : ℕ → Result (List ℕ) LineFault → Result ℕ LineFault
added t (Ok ts) = Ok (t + length ts)
added t (Err e) = Err e

added_front : (t k : ℕ) (xs : List ℕ) (r : Result (List ℕ) LineFault) → length xs ≡ k →
    added t (and_then r (λ more. Ok (xs ++ more))) ≡ added (t + k) r
added_front t k xs (Ok ts) e = rw (length-append xs ts, e, add_assoc t k (length ts))
added_front t k xs (Err f) e = refl

pub length-touches : (a : Access) → length (line_touches a) ≡ a.sectors
length-touches a = length-upward a.asu a.lba a.sectors

module _ (n t : ℕ) (l : List ℕ) (ls : List (List ℕ)) where
  pub judged_more : (a : Access) → access_of n l ≡ Ok a → t + a.sectors ≤ 4096 →
      added t (judged_lines n t (l ∷ ls)) ≡ added (t + a.sectors) (judged_lines (n + 1) (t + a.sectors) ls)
  judged_more a e h =
      let more = judged_lines (n + 1) (t + a.sectors) ls in
      rw (e, le-leb (t + a.sectors) 4096 h) (added_front t a.sectors (line_touches a) more (length-touches a))

  -- what an accepted first line tells
  pub judged_parts : (ts : List ℕ) → judged_lines n t (l ∷ ls) ≡ Ok ts →
      (a : Access) × (access_of n l ≡ Ok a) × (t + a.sectors ≤ 4096) ×
      ((more : List ℕ) × (judged_lines (n + 1) (t + a.sectors) ls ≡ Ok more) × (line_touches a ++ more ≡ ts))
  judged_parts ts h =
      let p = then_parts (access_of n l) _ ts h in
      let a = p.0 in
      let q = then_parts (so_far n (t + a.sectors)) _ ts p.2 in
      let few = cond_parts (leb (t + a.sectors) 4096) (t + a.sectors) q.0 (line_fault.TooManyTouches n) q.1 in
      let r = then_parts (judged_lines (n + 1) q.0 ls) _ ts q.2 in
      (a, p.1, leb-true _ _ few.0, (r.0, ap (λ s. judged_lines (n + 1) s ls) few.1 ∙ r.1, ok_same r.2))

-- one turn of counting
pub count_more : (now next number t : ℕ) (rest : List (List ℕ)) (l : List ℕ) (ls : List (List ℕ)) (a : Access) (all : Result ℕ LineFault) →
    added t (judged_lines (now + 1) t rest) ≡ all → rest ≡ l ∷ ls → number ≡ now + 1 → next ≡ now + 1 → Ok a ≡ access_of number l →
    t + a.sectors ≤ 4096 → added (t + a.sectors) (judged_lines (next + 1) (t + a.sectors) ls) ≡ all
count_more now next number t rest l ls a all inv lines is counts e h =
    let access : access_of (now + 1) l ≡ Ok a = ap (λ m. access_of m l) (sym is) ∙ sym e in
    let left = ap (λ r. added t (judged_lines (now + 1) t r)) (sym lines) in
    rw counts (sym (judged_more (now + 1) t l ls a access h) ∙ left ∙ inv)
