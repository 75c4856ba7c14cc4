use Rattle.std.proofs.Common.{◌≡◌, ◌≤◌, ◌<◌, true, eqb, length, get_or, set, sym, ◌∙◌, arith}
use Rattle.std.proofs.lemmas.Bool.{eq-eqb}
use Rattle.base.specs.declared.limits.TheConstants.{MAX_FRAMES}
use Rattle.curve.specs.Recency.{to_front, found_at}
use Rattle.curve.proofs.Walks.{slid_front, slid_found, slid_lacks, slid_full}
use Rattle.curve.proofs.recency.bring_to_front.Goals as goal

pub returns-then-carried-code : goal.returns-then-carried-code
returns-then-carried-code c =
    let old = c.args.codes.now in
    let now = c.loop-place.codes in
    let i = c.loop-place.place in
    let v = c.loop-place.carried in
    let s = c.loop-place.invariant in
    let here : eqb c.args.code (get_or now i 0) ≡ true = eq-eqb _ _ (sym c.if-carried-code.true ∙ c.swap.ensures.y_after) in
    let low : i < length now = omega (arith, s.long, c.told-codes, c.loop-place-test.true) in
    let found : found_at MAX_FRAMES c.args.code old ≡ i = slid_found MAX_FRAMES c.args.code i v old now s low here in
    let front : set now i v ≡ to_front MAX_FRAMES c.args.code old =
    slid_front MAX_FRAMES c.args.code i v old now s low here (omega (arith, c.told-codes)) in
    let carried = c.swap.ensures.x_after in
    record { place = omega (arith, found); after = cc }

pub returns : goal.returns
returns c =
    let old = c.args.codes.now in
    let now = c.loop-place.codes in
    let s = c.loop-place.invariant in
    let all : length now ≤ c.loop-place.place = omega (arith, s.long, c.told-codes, c.loop-place-test.false) in
    record {
      place = sym (slid_lacks MAX_FRAMES c.args.code c.loop-place.place c.loop-place.carried old now s all);
      after = slid_full MAX_FRAMES c.args.code c.loop-place.place c.loop-place.carried old now s all (s.long ∙ c.told-codes);
    }
