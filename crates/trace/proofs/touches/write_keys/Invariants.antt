use Rattle.trace.specs.Splits.{lines}
use Rattle.trace.specs.Reading.{unread, lines_read}
use Rattle.trace.specs.Touches.{touches_in}
use Rattle.trace.proofs.Writing.{Writing}
use Rattle.trace.proofs.touches.write_keys.Given as goal

abbrev pub invariant-loop-line : goal.invariant-loop-line
invariant-loop-line l =
    Writing (lines_read l.line-iterator) l.count (lines (unread l.line-iterator)) (touches_in l.text) l.initial.keys l.keys
