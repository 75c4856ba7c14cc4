-- How many distances are k or more, counted in one pass over the distances and one over the counts.
use Rattle.std.proofs.Common.{◌≡◌, ℕ, suc, ◌+◌, ◌-◌, ◌≤◌, ◌<◌, ◌≢◌, cond, eqb, leb, List, [], ◌∷◌, length}
use Rattle.std.proofs.Common.{get_or, set, take, replicate, All, count_by}
use Rattle.std.proofs.Common.{sym, refl, ap, ◌∙◌, ⊎_elim, arith}
use Rattle.std.proofs.lemmas.Bool.Decides.{nat_tests}
use Rattle.std.proofs.lemmas.Bool.{cases_eq, eq-eqb, ne_eqb}
use Rattle.std.proofs.lemmas.List.{take_all, length-set, get_or-set_same, get_or-set_other, get_or-replicate, length-replicate}
use Rattle.std.proofs.lemmas.List.Sums.{sum_by-cons, count_by-le-length, count_by_more_no, count_by_more_yes}
use Rattle.std.proofs.lemmas.List.{ext_get_or}
use Rattle.std.proofs.lemmas.List.FromFn.{get_or-map-range_with_len, length-map-range_with_len}
use Rattle.base.specs.declared.limits.TheConstants.{MAX_FRAMES}
use Rattle.curve.specs.Distances.{at_least, far_counts}

-- how many of some distances are d
abbrev pub how_many : ℕ → List ℕ → ℕ
how_many d ds = count_by (eqb d) ds

how_many-cons : (k d : ℕ) (ds : List ℕ) → how_many k (d ∷ ds) ≡ cond (eqb k d) 1 0 + how_many k ds
how_many-cons k d ds = sum_by-cons (λ x. cond (eqb k x) 1 0) d ds

pub at_least-cons : (k d : ℕ) (ds : List ℕ) → at_least k (d ∷ ds) ≡ cond (leb k d) 1 0 + at_least k ds
at_least-cons k d ds = sum_by-cons (λ x. cond (leb k x) 1 0) d ds

-- those that are k or more are k, or k + 1 or more
pub one_further : (k : ℕ) (ds : List ℕ) → at_least k ds ≡ how_many k ds + at_least (suc k) ds
one_further k [] = refl
one_further k (d ∷ ds) =
    let ih = one_further k ds in
    let a = at_least-cons k d ds in
    let b = at_least-cons (suc k) d ds in
    let h = how_many-cons k d ds in
    grind (arith, nat_tests)

-- and none is more than the most
pub none_above : (far : ℕ) (ds : List ℕ) → All (λ d. d ≤ far) ds → at_least (suc far) ds ≡ 0
none_above far [] h = refl
none_above far (d ∷ ds) h =
    let ih = none_above far ds (λ i e l. h (suc i) e (omega arith)) in
    let a = at_least-cons (suc far) d ds in
    let l = h 0 0 (omega arith) in
    grind (arith, nat_tests)

-- more frames never fetch more
pub fewer_further : (j k : ℕ) (ds : List ℕ) → j ≤ k → at_least k ds ≤ at_least j ds
fewer_further j k [] l = omega arith
fewer_further j k (d ∷ ds) l =
    let ih = fewer_further j k ds l in
    let a = at_least-cons k d ds in
    let b = at_least-cons j d ds in
    grind (arith, nat_tests)

pub at_least_most : (k : ℕ) (ds : List ℕ) → at_least k ds ≤ length ds
at_least_most k ds = count_by-le-length (leb k) ds

-- What the pass over the distances has counted after i of them: at place p those that are p + 1.
pub record CountsEqual (far : ℕ) (ds : List ℕ) (i : ℕ) (counts : List ℕ) : Type 0 where
  pub long : length counts ≡ far
  pub each : (p : ℕ) → p < far → get_or counts p 0 ≡ how_many (p + 1) (take i ds)

pub counted_first : (far : ℕ) (ds : List ℕ) → CountsEqual far ds 0 (replicate far 0)
counted_first far ds = record { long = length-replicate far 0; each = λ p l. get_or-replicate far p 0 0 l }

module _ (far : ℕ) (ds : List ℕ) (i : ℕ) (counts : List ℕ) (l : i < length ds) (s : CountsEqual far ds i counts) where
  -- a distance of 0 is counted nowhere
  pub counted_none : get_or ds i 0 ≡ 0 → CountsEqual far ds (i + 1) counts
  counted_none e = record {
    long = s.long;
    each = λ p m. s.each p m ∙ sym (count_by_more_no (eqb (p + 1)) ds i 0 l (rw e (ne_eqb (p + 1) 0 (λ w. omega (arith, w)))));
  }

  pub counted_some : (q v : ℕ) → get_or ds i 0 ≡ q + 1 → q < far → v ≡ get_or counts q 0 + 1 → CountsEqual far ds (i + 1) (set counts q v)
  counted_some q v e b ev = record {
    long = length-set counts q v ∙ s.long;
    each = λ p m.
        ⊎_elim
        (λ (w : p ≡ q). rw w (get_or-set_same counts q v 0 (omega (arith, s.long)) ∙ ev ∙ ap (λ n. n + 1) (s.each q b) ∙
        sym (count_by_more_yes (eqb (q + 1)) ds i 0 l (rw e (eq-eqb (q + 1) (q + 1) refl)))))
        (λ (n : p ≢ q). get_or-set_other counts q p v 0 n ∙ s.each p m ∙
        sym (count_by_more_no (eqb (p + 1)) ds i 0 l (rw e (ne_eqb (p + 1) (q + 1) (λ w. n (omega (arith, w)))))))
        (cases_eq p q);
  }

-- What the pass over the counts has added up, from the last place down to place n: from there on the distances that are p + 1 or more.
pub record CountsFar (far : ℕ) (ds counts : List ℕ) (n : ℕ) : Type 0 where
  pub long : length counts ≡ far
  pub summed : (p : ℕ) → n ≤ p + 1 → p < far → get_or counts p 0 ≡ at_least (p + 1) ds
  pub counted : (p : ℕ) → p + 1 < n → p < far → get_or counts p 0 ≡ how_many (p + 1) ds

-- the last count stands: no distance is above the most
pub summed_last : (far : ℕ) (ds : List ℕ) (i : ℕ) (counts : List ℕ) → All (λ d. d ≤ far) ds → length ds ≤ i → CountsEqual far ds i counts →
    CountsFar far ds counts far
summed_last far ds i counts most l s =
    let each : (p : ℕ) → p < far → get_or counts p 0 ≡ how_many (p + 1) ds = λ p m. s.each p m ∙ ap (how_many (p + 1)) (take_all i ds l) in
    record {
      long = s.long;
      summed = λ p a b.
          let none : at_least (suc (p + 1)) ds ≡ 0 = none_above (p + 1) ds (λ i d m. omega (arith, most i d m)) in
          each p b ∙ sym (omega (arith, one_further (p + 1) ds, none));
      counted = λ p a b. each p b;
    }

-- one count more is added up
pub summed_more : (far : ℕ) (ds counts : List ℕ) (n : ℕ) → CountsFar far ds counts n → 2 ≤ n → n ≤ far →
    CountsFar far ds (set counts (n - 1 - 1) (get_or counts (n - 1 - 1) 0 + get_or counts (n - 1) 0)) (n - 1)
summed_more far ds counts n s some most =
    let q = n - 1 - 1 in
    let v = get_or counts q 0 + get_or counts (n - 1) 0 in
    let here : v ≡ at_least (q + 1) ds =
    let a = s.counted q (omega arith) (omega arith) in
    let b = s.summed (n - 1) (omega arith) (omega arith) in
    let c = one_further (q + 1) ds in
    let e : suc (q + 1) ≡ n - 1 + 1 = omega arith in
    omega (arith, a, b, c, ap (λ k. at_least k ds) e) in
    record {
      long = length-set counts q v ∙ s.long;
      summed = λ p a b.
          ⊎_elim
          (λ (w : p ≡ q). rw w (get_or-set_same counts q v 0 (omega (arith, s.long)) ∙ here))
          (λ (w : p ≢ q). get_or-set_other counts q p v 0 w ∙ s.summed p (omega (arith, w)) b)
          (cases_eq p q);
      counted = λ p a b. get_or-set_other counts q p v 0 (omega (arith, a)) ∙ s.counted p (omega arith) b;
    }

-- the laws of the counts
pub far_counts-length : (ds : List ℕ) → length (far_counts ds) ≡ MAX_FRAMES
unfolding far_counts
far_counts-length ds = length-map-range_with_len (λ k. at_least k ds) 1 MAX_FRAMES

pub far_counts-at : (ds : List ℕ) (p : ℕ) → p < MAX_FRAMES → get_or (far_counts ds) p 0 ≡ at_least (p + 1) ds
unfolding far_counts
far_counts-at ds p l = get_or-map-range_with_len (λ k. at_least k ds) 1 MAX_FRAMES p (p + 1) 0 l (omega arith)

pub summed_all : (ds counts : List ℕ) (n : ℕ) → CountsFar MAX_FRAMES ds counts n → n ≤ 1 → counts ≡ far_counts ds
summed_all ds counts n s l =
    ext_get_or 0 counts (far_counts ds) (s.long ∙ sym (far_counts-length ds))
    (λ p m. s.summed p (omega arith) (omega (arith, s.long)) ∙ sym (far_counts-at ds p (omega (arith, s.long))))
