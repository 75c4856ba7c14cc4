-- LRU's fetches on every number of frames, by the distances.
use Rattle.std.proofs.Common.{◌≡◌, ℕ, zero, suc, ◌+◌, ◌-◌, ◌≤◌, ◌<◌, List, [], ◌∷◌, ◌++◌, map, length, get_or, take, drop, All}
use Rattle.std.proofs.Common.{sym, ap, ◌∙◌, arith}
use Rattle.std.proofs.lemmas.List.{take_at, length-map}
use Rattle.std.proofs.lemmas.List.{ext_get_or}
use Rattle.std.proofs.lemmas.List.FromFn.{get_or-map-range_with_len, length-map-range_with_len}
use Rattle.base.specs.declared.limits.TheConstants.{MAX_FRAMES}
use Rattle.policy.specs.Machine.{start}
use Rattle.policy.specs.Lru.{lru_rules}
use Rattle.curve.specs.Distances.{distances_after, lru_distances, at_least, far_counts}
use Rattle.curve.specs.Curve.{lru_fetches, curve_of, Curve}
use Rattle.curve.proofs.Machines.{follows_start, fetches_after}
use Rattle.curve.proofs.Measures.{distances-length, distance_most}
use Rattle.curve.proofs.Tallies.{fewer_further, far_counts-length, far_counts-at}

-- on k frames, LRU fetches at the touches at distance k or more
fetched_by_distance : (touches : List ℕ) (k : ℕ) → 1 ≤ k → k ≤ MAX_FRAMES → lru_fetches touches k ≡ at_least k (lru_distances touches)
fetched_by_distance touches k some most = fetches_after MAX_FRAMES most (start lru_rules tt k) (follows_start k some) touches

-- the laws of the curve
pub curve_of-length : (touches : List ℕ) → length (curve_of touches) ≡ MAX_FRAMES
unfolding curve_of
curve_of-length touches = length-map-range_with_len (lru_fetches touches) 1 MAX_FRAMES

curve_of-at : (touches : List ℕ) (p k : ℕ) → p < MAX_FRAMES → p + 1 ≡ k → get_or (curve_of touches) p 0 ≡ lru_fetches touches k
unfolding curve_of
curve_of-at touches p k l e = get_or-map-range_with_len (lru_fetches touches) 1 MAX_FRAMES p k 0 l (omega (arith, e))

-- what is counted by the distances is the curve
pub curve_counted : (touches : List ℕ) → far_counts (lru_distances touches) ≡ curve_of touches
curve_counted touches =
    let ds = lru_distances touches in
    let long = far_counts-length ds in
    ext_get_or 0 (far_counts ds) (curve_of touches) (long ∙ sym (curve_of-length touches))
    (λ p l.
    let low : p < MAX_FRAMES = omega (arith, long, l) in
    far_counts-at ds p low ∙ sym (fetched_by_distance touches (p + 1) (omega arith) (omega arith)) ∙
    sym (curve_of-at touches p (p + 1) low (omega arith)))

pub curve_holds : (touches : List ℕ) → Curve touches (lru_distances touches) (curve_of touches)
curve_holds touches =
    let fetched : (k : ℕ) → 1 ≤ k → k ≤ MAX_FRAMES → get_or (curve_of touches) (k - 1) 0 ≡ lru_fetches touches k =
    λ k some most. curve_of-at touches (k - 1) k (omega arith) (omega arith) in
    let far : (k : ℕ) → 1 ≤ k → k ≤ MAX_FRAMES → get_or (curve_of touches) (k - 1) 0 ≡ at_least k (lru_distances touches) =
    λ k some most. fetched k some most ∙ fetched_by_distance touches k some most in
    record {
      fetched = fetched;
      far = far;
      falling = λ j k some l most.
          let a = far j some (omega arith) in
          let b = far k (omega arith) most in
          omega (arith, a, b, fewer_further j k (lru_distances touches) l);
    }

-- there is one for each key
pub distances_many : {K : Type 0} (code : K → ℕ) (keys : List K) → length (lru_distances (map code keys)) ≡ length keys
distances_many code keys = distances-length MAX_FRAMES [] (map code keys) ∙ length-map keys code

-- the distances in front of what stands behind them
pub distances_in : {K : Type 0} (code : K → ℕ) (keys : List K) (old new : List ℕ) →
    new ≡ lru_distances (map code keys) ++ drop (length keys) old → take (length keys) new ≡ lru_distances (map code keys)
distances_in code keys old new e =
    let ds = lru_distances (map code keys) in
    ap (take (length keys)) e ∙
    take_at ds (drop (length keys) old) (length keys) (distances_many code keys)

-- no distance is above the most
pub distances_most : (far : ℕ) (past xs : List ℕ) → All (λ d. d ≤ far) (distances_after far past xs)
distances_most far past [] i d l = absurd (omega arith)
distances_most far past (x ∷ xs) zero d l = distance_most far x past
distances_most far past (x ∷ xs) (suc i) d l = distances_most far (x ∷ past) xs i d (omega arith)
