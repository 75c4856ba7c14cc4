use Rattle.disk.proofs.Turns.{Running}
use Rattle.disk.proofs.serve.take_turns.Given as goal

abbrev pub invariant-loop-turn : goal.invariant-loop-turn
invariant-loop-turn g l =
    g.D.Disk.sound l.disk × Running (g.D.Disk.meaning l.initial.disk) l.initial.turns l.turns l.turn-index (g.D.Disk.meaning l.disk)
