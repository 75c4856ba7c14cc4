use Rattle.std.proofs.Common.{sym, ◌∙◌, arith}
use Rattle.trace.proofs.Writing.{writing_fits, writing_more}
use Rattle.trace.proofs.touches.write_keys.Goals as goal

pub slice_bounds-write_touches-end : goal.slice_bounds-write_touches-end
slice_bounds-write_touches-end c =
    let told = c.in-Some.ensures.steps in
    let fits =
    writing_fits c.loop-line.invariant told.first told.next c.unwrap-access.result (sym c.access.ensures ∙ c.unwrap-access.ensures) in
    omega (arith, c.requires.places)

pub loop-line-preserved : goal.loop-line-preserved
loop-line-preserved c =
    let told = c.in-Some.ensures.steps in
    let e = sym c.access.ensures ∙ c.unwrap-access.ensures in
    writing_more c.loop-line.invariant told.first told.next c.unwrap-access.result e c.write_touches.new.places _ _
    told.counted (omega arith) (omega (arith, c.requires.places)) c.write_touches.ensures
