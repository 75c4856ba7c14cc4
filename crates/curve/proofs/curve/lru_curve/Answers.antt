use Rattle.std.proofs.Common.{◌≡◌, ◌≤◌, ℕ, List, [], map, length, take, drop, ◌++◌, All, sym, ap, ◌∙◌, subst, rules}
use Rattle.std.proofs.lemmas.List.{length-take-le, take_at}
use Rattle.base.specs.declared.limits.TheConstants.{MAX_FRAMES}
use Rattle.curve.specs.Distances.{lru_distances, far_counts}
use Rattle.curve.specs.Curve.{curve_of, Curve}
use Rattle.curve.proofs.Tallies.{far_counts-length}
use Rattle.curve.proofs.Curves.{curve_of-length, curve_counted, curve_holds, distances_many, distances_in, distances_most}
use Rattle.curve.proofs.curve.lru_curve.Goals as goal

pub count_fetches-fetches-requires-clause-most : goal.count_fetches-fetches-requires-clause-most
count_fetches-fetches-requires-clause-most g c =
    subst (All (λ d. d ≤ MAX_FRAMES)) (sym (distances_in g.K.Key.code c.args.keys.now _ _ c.measure.ensures))
    (distances_most MAX_FRAMES [] (map g.K.Key.code c.args.keys.now))

pub slice_bounds-copy_from_slice-end-2 : goal.slice_bounds-copy_from_slice-end-2
slice_bounds-copy_from_slice-end-2 g c =
    let fits : MAX_FRAMES ≤ length c.args.counts.now = search rules in
    sym (length-take-le MAX_FRAMES c.args.counts.now fits)

pub copy_from_slice-requires : goal.copy_from_slice-requires
copy_from_slice-requires g c =
    let fits : MAX_FRAMES ≤ length c.args.counts.now = search rules in
    length-take-le MAX_FRAMES c.args.counts.now fits ∙ sym (ap length c.count_fetches-fetches.ensures ∙ far_counts-length _)

-- the counts that are written
written : {K : Type 0} (code : K → ℕ) (keys : List K) (old new counts copied : List ℕ) →
    new ≡ lru_distances (map code keys) ++ drop (length keys) old → counts ≡ far_counts (take (length keys) new) → copied ≡ counts →
    copied ≡ curve_of (map code keys)
written code keys old new counts copied e f h =
    h ∙ f ∙ ap far_counts (distances_in code keys old new e) ∙ curve_counted (map code keys)

pub returns-clause-counts : goal.returns-clause-counts
returns-clause-counts g c =
    let touches = map g.K.Key.code c.args.keys.now in
    let w = written g.K.Key.code c.args.keys.now _ _ _ _ c.measure.ensures c.count_fetches-fetches.ensures
    c.copy_from_slice.ensures.after in
    ap (λ x. x ++ drop 64 c.args.counts.now) w ∙ ap (λ n. curve_of touches ++ drop n c.args.counts.now) (sym (curve_of-length touches))

pub returns-clause-curve : goal.returns-clause-curve
returns-clause-curve g c =
    let touches = map g.K.Key.code c.args.keys.now in
    let w = written g.K.Key.code c.args.keys.now _ _ _ _ c.measure.ensures c.count_fetches-fetches.ensures
    c.copy_from_slice.ensures.after in
    let d = distances_in g.K.Key.code c.args.keys.now _ _ c.measure.ensures in
    let front = take_at c.copy_from_slice.new.self (drop 64 c.args.counts.now) MAX_FRAMES (ap length w ∙ curve_of-length touches) ∙ w in
    subst (λ ds. Curve touches ds (take MAX_FRAMES (c.copy_from_slice.new.self ++ drop 64 c.args.counts.now))) (sym d)
    (subst (Curve touches (lru_distances touches)) (sym front) (curve_holds touches))

pub returns-clause-distances : goal.returns-clause-distances
returns-clause-distances g c =
    let ds = lru_distances (map g.K.Key.code c.args.keys.now) in
    let old = c.args.distances.now in
    let measured = c.measure.ensures in
    let behind : drop (length c.args.keys.now) old ≡ drop (length ds) old =
    ap (λ n. drop n old) (sym (distances_many g.K.Key.code c.args.keys.now)) in
    cc

-- By the one tactic that proves it: where the code is wrong no other is tried.
pub returns-in_err-check_lists-clause-distances : goal.returns-in_err-check_lists-clause-distances
returns-in_err-check_lists-clause-distances g c = search rules
