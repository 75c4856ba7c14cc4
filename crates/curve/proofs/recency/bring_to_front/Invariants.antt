use Rattle.base.specs.declared.limits.TheConstants.{MAX_FRAMES}
use Rattle.curve.proofs.Walks.{Slid}
use Rattle.curve.proofs.recency.bring_to_front.Given as goal

abbrev pub invariant-loop-place : goal.invariant-loop-place
invariant-loop-place l = Slid MAX_FRAMES l.code l.place l.carried l.initial.codes l.codes
