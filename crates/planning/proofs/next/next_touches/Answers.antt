use Rattle.std.proofs.Common.{◌≡◌, ◌+◌, ◌-◌, ◌<◌, ◌≤◌, map, length, get_or, drop, set, unwrap_or, sym, ap, ◌∙◌, subst, arith}
use Rattle.std.proofs.lemmas.List.{length-map}
use Rattle.std.proofs.lemmas.Bool.{cond-true}
use Rattle.base.specs.Lists.{place_in}
use Rattle.index.specs.Maps.{Map, empty, after_put, put_answer}
use Rattle.index.specs.Slots.{map_of, number_of, slots_of}
use Rattle.base.proofs.Codes.{code_at}
use Rattle.planning.proofs.Nexts.{Looking, looking_none, looking_more, looking_accepted, found_next}
use Rattle.planning.proofs.next.next_touches.Goals as goal

pub loop-place-init : goal.loop-place-init
loop-place-init g c =
    let xs = map g.K.Key.code c.args.keys.now in (
      c.new-index.ensures.sound,
      rw length-map at
          (looking_none xs c.args.next.now _ _
          (c.new-index.ensures.map ∙ ap empty (sym (ap (λ (m : Map). m.places) c.new-index.ensures.map)))),
    )

pub loop-place-preserved : goal.loop-place-preserved
loop-place-preserved g c =
    let code = g.K.Key.code in
    let keys = c.args.keys.now in
    let xs = map code keys in
    let i = c.loop-place.place - 1 in
    let q = c.loop-place.invariant.1 in
    let low : i < length keys = omega (arith, c.loop-place.auto.place, c.loop-place-test.true) in
    let low' : i < length xs = rw length-map low in
    let before : c.loop-place.place ≡ i + 1 = omega (arith, c.loop-place-test.true) in
    let fits : length xs ≤ length (slots_of c.new-index.result) =
    rw length-map (omega (arith, ap (λ (m : Map). m.places) c.new-index.ensures.map, c.requires)) in
    let key = code_at code keys i c.index-keys-place.result low c.index-keys-place.is in
    let key' = code_at code keys i c.index-keys-place-in-loop-place.result low c.index-keys-place-in-loop-place.is in
    let at = ap (number_of code (slots_of c.loop-place.index)) key in
    let n : c.unwrap_or.result ≡ i + 1 + place_in (get_or xs i 0) (drop (i + 1) xs) =
    c.unwrap_or.ensures ∙ ap (λ r. unwrap_or r (length keys)) (c.find.ensures ∙ at) ∙
    ap (unwrap_or (number_of code (slots_of c.loop-place.index) (get_or xs i 0))) (sym (length-map keys code)) ∙
    found_next xs _ _ _ _ i q before low' fits in
    let room : i < length c.loop-place.next = omega (arith, c.requires, c.loop-place.auto.next) in
    let more = looking_more xs _ _ _ _ i q before low' fits c.unwrap_or.result room n in
    let map' = c.put.ensures.map ∙ ap (λ x. after_put (map_of code c.loop-place.index) x i) key' in (
      c.put.ensures.sound,
      subst (λ (m : Map). Looking xs (set c.loop-place.next i c.unwrap_or.result) m
          (length (slots_of c.new-index.result)) i) (sym map') more,
    )

pub unwrap-requires : goal.unwrap-requires
unwrap-requires g c =
    let code = g.K.Key.code in
    let keys = c.args.keys.now in
    let xs = map code keys in
    let i = c.loop-place.place - 1 in
    let low : i < length keys = omega (arith, c.loop-place.auto.place, c.loop-place-test.true) in
    let low' : i < length xs = rw length-map low in
    let before : c.loop-place.place ≡ i + 1 = omega (arith, c.loop-place-test.true) in
    let fits : length xs ≤ length (slots_of c.new-index.result) =
    rw length-map (omega (arith, ap (λ (m : Map). m.places) c.new-index.ensures.map, c.requires)) in
    let key' = code_at code keys i c.index-keys-place-in-loop-place.result low c.index-keys-place-in-loop-place.is in
    let taken = looking_accepted xs _ _ _ _ i c.loop-place.invariant.1 before low' fits in
    rw (c.put.ensures.answer ∙ ap (put_answer (map_of code c.loop-place.index)) key' ∙ cond-true _ _ _ taken)

pub returns : goal.returns
returns g c = λ j l. c.loop-place.invariant.1.nexts j (omega arith) (rw length-map l)
