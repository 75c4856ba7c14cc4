use Rattle.std.proofs.Common.{◌+◌, ◌≤◌, arith}
use Rattle.trace.proofs.Judging.{count_more}
use Rattle.trace.proofs.touches.count_touches.Goals as goal

pub loop-line-preserved : goal.loop-line-preserved
loop-line-preserved c =
    let told = c.in-Some.ensures.steps in
    let line = c.in-Some.line in
    let few : c.loop-line.count + c.in_ok-access.access.sectors ≤ 4096 = omega arith in (
      count_more _ _ line.number c.loop-line.count _ line.text.now _ c.in_ok-access.access _ c.loop-line.invariant.0 told.first
          told.next told.counted c.in_ok-access.ensures few,
      few,
    )
