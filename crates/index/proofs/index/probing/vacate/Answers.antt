use Rattle.std.proofs.Common.{sym, refl, ◌∙◌, rules}
use Rattle.std.proofs.lemmas.List.Sorted.{sum_by-IsPermutation}
use Rattle.index.proofs.Changes.{read_is}
use Rattle.index.proofs.Gaps.{gap_none, closed_round, closed_free, home_inside, next_inside, next_within, hole_within}
use Rattle.index.proofs.Turns.{turned, turn_stays, turn_moves, turn_less, turn_on}
use Rattle.index.proofs.index.probing.vacate.Goals as goal

pub loop-hole-init : goal.loop-hole-init
loop-hole-init g c =
    (gap_none g.K.Key.spread _ c.args.slots.now c.args.place refl c.requires.within c.requires.reached, λ f. refl)

pub returns-then-next-hole : goal.returns-then-next-hole
returns-then-next-hole g c = record {
  long = c.loop-hole.invariant.0.long;
  same = c.loop-hole.invariant.1;
  reached = closed_round g.K.Key.spread _ _ _ _ c.loop-hole.invariant.0 (sym c.next_in_ring-next.ensures ∙ c.if-next-hole.true);
}

pub returns-in_default : goal.returns-in_default
returns-in_default g c =
    record {
      long = c.loop-hole.invariant.0.long;
      same = c.loop-hole.invariant.1;
      reached = closed_free g.K.Key.spread _ _ _ _ c.loop-hole.invariant.0 _ c.next_in_ring-next.ensures c.if-next-hole.false
          (read_is _ _ _ _ (next_within g.K.Key.spread _ _ _ _ c.loop-hole.invariant.0 _ c.next_in_ring-next.ensures) c.in_default.is);
    }

pub loop-hole-smaller-then-steps : goal.loop-hole-smaller-then-steps
loop-hole-smaller-then-steps g c =
    turn_less g.K.Key.spread _
    (turned _ _ _ c.loop-hole.invariant.0 c.next_in_ring-next.ensures c.if-next-hole.false c.in-Some.is
    c.home_of-home.ensures c.steps.ensures c.steps-in-loop-hole.ensures)
    _ c.if-steps.true c.swap.ensures.len c.swap.ensures.by_index

pub loop-hole-preserved-then-steps : goal.loop-hole-preserved-then-steps
loop-hole-preserved-then-steps g c = (
  turn_moves g.K.Key.spread _
      (turned _ _ _ c.loop-hole.invariant.0 c.next_in_ring-next.ensures c.if-next-hole.false c.in-Some.is
      c.home_of-home.ensures c.steps.ensures c.steps-in-loop-hole.ensures)
      _ c.if-steps.true c.swap.ensures.len c.swap.ensures.by_index,
  λ f. sum_by-IsPermutation f _ _ c.swap.ensures.permutation ∙ c.loop-hole.invariant.1 f,
)

pub loop-hole-preserved : goal.loop-hole-preserved
loop-hole-preserved g c = (
  turn_stays g.K.Key.spread _
      (turned _ _ _ c.loop-hole.invariant.0 c.next_in_ring-next.ensures c.if-next-hole.false c.in-Some.is
      c.home_of-home.ensures c.steps.ensures c.steps-in-loop-hole.ensures)
      c.if-steps.false,
  c.loop-hole.invariant.1,
)

pub next_in_ring-next-requires : goal.next_in_ring-next-requires
next_in_ring-next-requires g c = c.loop-hole.invariant.0.looked

pub offset_bounds-slots-next : goal.offset_bounds-slots-next
offset_bounds-slots-next g c =
    let within = next_within g.K.Key.spread _ _ _ _ c.loop-hole.invariant.0 _ c.next_in_ring-next.ensures in
    search rules

pub bounds-slots-next : goal.bounds-slots-next
bounds-slots-next g c = next_within g.K.Key.spread _ _ _ _ c.loop-hole.invariant.0 _ c.next_in_ring-next.ensures

pub bounds : goal.bounds
bounds g c = next_within g.K.Key.spread _ _ _ _ c.loop-hole.invariant.0 _ c.next_in_ring-next.ensures

pub steps-requires : goal.steps-requires
steps-requires g c = (
  home_inside g.K.Key.spread _ _ _ _ c.loop-hole.invariant.0 _ _ c.home_of-home.ensures,
  c.loop-hole.invariant.0.inside,
)

pub steps-requires-in-loop-hole : goal.steps-requires-in-loop-hole
steps-requires-in-loop-hole g c = (
  home_inside g.K.Key.spread _ _ _ _ c.loop-hole.invariant.0 _ _ c.home_of-home.ensures,
  next_inside g.K.Key.spread _ _ _ _ c.loop-hole.invariant.0 _ c.next_in_ring-next.ensures,
)

pub swap-requires-clause-a_in_bounds : goal.swap-requires-clause-a_in_bounds
swap-requires-clause-a_in_bounds g c = hole_within g.K.Key.spread _ _ _ _ c.loop-hole.invariant.0

pub swap-requires-clause-b_in_bounds : goal.swap-requires-clause-b_in_bounds
swap-requires-clause-b_in_bounds g c = next_within g.K.Key.spread _ _ _ _ c.loop-hole.invariant.0 _ c.next_in_ring-next.ensures

pub loop-hole-smaller : goal.loop-hole-smaller
loop-hole-smaller g c =
    turn_on g.K.Key.spread _
    (turned _ _ _ c.loop-hole.invariant.0 c.next_in_ring-next.ensures c.if-next-hole.false c.in-Some.is
    c.home_of-home.ensures c.steps.ensures c.steps-in-loop-hole.ensures)
