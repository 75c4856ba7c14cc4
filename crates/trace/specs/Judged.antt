-- What a judged trace has. Assumes nothing.
use Rattle.std.specs.Prelude.{ℕ, List, Result}
use Rattle.std.specs.Result.{result_map_both}
use Rattle.trace.specs.declared.judged.JudgedTrace.{JudgedTrace}
use Rattle.trace.specs.Touches.{touches_in}

-- its touches
abbrev pub trace_touches : JudgedTrace → List ℕ
trace_touches t = touches_in t.text.now

-- the touches of one that was accepted, or its fault
abbrev pub judged_touches : {E : Type 0} → Result JudgedTrace E → Result (List ℕ) E
judged_touches r = result_map_both trace_touches (λ e. e) r
