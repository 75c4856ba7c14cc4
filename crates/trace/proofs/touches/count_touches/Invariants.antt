use Rattle.std.proofs.Common.{◌≡◌, ◌+◌, ◌≤◌}
use Rattle.trace.specs.Splits.{lines}
use Rattle.trace.specs.Reading.{unread, lines_read}
use Rattle.trace.specs.Touches.{judged_lines, counted}
use Rattle.trace.proofs.Judging.{added}
use Rattle.trace.proofs.touches.count_touches.Given as goal

abbrev pub invariant-loop-line : goal.invariant-loop-line
invariant-loop-line l =
    (added l.count (judged_lines (lines_read l.line-iterator + 1) l.count (lines (unread l.line-iterator))) ≡
    counted (judged_lines 1 0 (lines l.text))) × (l.count ≤ 4096)
