use Rattle.std.proofs.Common.{◌≡◌, [], map, get_or, drop, ◌++◌, ap, ◌∙◌, arith}
use Rattle.std.proofs.lemmas.List.{length-map}
use Rattle.base.proofs.Codes.{code_at}
use Rattle.base.specs.declared.limits.TheConstants.{MAX_FRAMES}
use Rattle.curve.specs.Distances.{lru_distances}
use Rattle.curve.specs.Recency.{to_front, found_at, keys_in}
use Rattle.curve.proofs.Measures.{measured_at, measured_more, measured_all, distance_most, past_after}
use Rattle.curve.proofs.distances.measure.Goals as goal

pub overflow_cast-distances : goal.overflow_cast-distances
overflow_cast-distances g c =
    let xs = map g.K.Key.code c.args.keys.now in
    let i = c.loop-place.place in
    let keys = keys_in c.loop-place.recency in
    let low = c.loop-place-test.true in
    let code : c.code.result ≡ get_or xs i 0 = c.code.ensures ∙ code_at g.K.Key.code c.args.keys.now i _ low c.index-keys-place.is in
    let at = measured_at MAX_FRAMES xs _ keys _ i c.loop-place.invariant.1 (rw length-map low) in
    let there : c.touch.result ≡ found_at MAX_FRAMES c.code.result keys = c.touch.ensures.place in
    let found = there ∙ ap (λ x. found_at MAX_FRAMES x keys) code in
    omega (arith, found ∙ at, distance_most MAX_FRAMES (get_or xs i 0) (past_after [] xs i))

pub loop-place-preserved : goal.loop-place-preserved
loop-place-preserved g c =
    let xs = map g.K.Key.code c.args.keys.now in
    let i = c.loop-place.place in
    let keys = keys_in c.loop-place.recency in
    let low = c.loop-place-test.true in
    let code : c.code.result ≡ get_or xs i 0 = c.code.ensures ∙ code_at g.K.Key.code c.args.keys.now i _ low c.index-keys-place.is in
    let there : c.touch.result ≡ found_at MAX_FRAMES c.code.result keys = c.touch.ensures.place in
    let front : keys_in c.touch.new.self ≡ to_front MAX_FRAMES c.code.result keys = c.touch.ensures.after in
    let found : c.touch.result ≡ found_at MAX_FRAMES (get_or xs i 0) keys = there ∙ ap (λ x. found_at MAX_FRAMES x keys) code in
    let after = front ∙ ap (λ x. to_front MAX_FRAMES x keys) code in
    let more = measured_more MAX_FRAMES xs _ keys _ i c.loop-place.invariant.1 (rw length-map low) _ _
    (omega (arith, c.loop-place.auto.distances, low, c.requires)) (omega (arith, low, c.requires)) (omega (arith, found)) after in
    (c.touch.ensures.padded, more)

pub returns : goal.returns
returns g c =
    let xs = map g.K.Key.code c.args.keys.now in
    let long = length-map c.args.keys.now g.K.Key.code in
    measured_all MAX_FRAMES xs _ _ _ c.loop-place.place c.loop-place.invariant.1
    (omega (arith, long, c.loop-place-test.false)) (omega (arith, long, c.loop-place.auto.place-end)) ∙
    ap (λ n. lru_distances xs ++ drop n c.args.distances.now) long
