-- One turn of closing a gap, at a taken slot.
use Rattle.std.proofs.Common.{◌≡◌, ℕ, ◌<◌, ◌≤◌, List, length, get_or, Option, Some, None, arith}
use Rattle.std.specs.List.{SwappedAt}
use Rattle.index.specs.declared.slot.Entry.{Entry}
use Rattle.base.specs.Rings.{onward}
use Rattle.index.specs.Places.{steps}
use Rattle.index.specs.Slots.{home}
use Rattle.index.proofs.Changes.{read_is}
use Rattle.index.proofs.Gaps.{Ahead, Gap, gap_stays, gap_moves, next_inside, next_within, step}
use Rattle.index.proofs.Distances.{left, nearer, left_less, left_on}

module _ {K : Type 0} (spread : K → ℕ) (n : ℕ) where
  -- the slot next holds x, whose home is h; a and b are its steps to the hole and to next
  pub record Turn (xs : List (Option (Entry K))) (hole last next : ℕ) (x : Entry K) (h a b : ℕ) : Type 0 where
    pub gap : Gap spread n xs hole last
    pub is : next ≡ onward n last
    pub other : next ≡ hole → ⊥
    pub held : get_or xs next None ≡ Some x
    pub home : h ≡ home spread (length xs) x.key
    pub to_hole : a ≡ steps n h hole
    pub to_next : b ≡ steps n h next

  pub turned : {xs : List (Option (Entry K))} {hole last next : ℕ} {x : Entry K} {h a b : ℕ} (d : Option (Entry K)) →
      Gap spread n xs hole last → next ≡ onward n last → (next ≡ hole → ⊥) → get_or xs next d ≡ Some x →
      h ≡ home spread (length xs) x.key → a ≡ steps n h hole → b ≡ steps n h next → Turn xs hole last next x h a b
  turned {xs = xs} {last = last} {next = next} {x = x} d gap is other read home to_hole to_next =
      let inside = next_within spread n xs _ last gap next is in
      record {
        gap = gap;
        is = is;
        other = other;
        held = read_is xs next d (Some x) inside read;
        home = home;
        to_hole = to_hole;
        to_next = to_next;
      }

  module _ {xs : List (Option (Entry K))} {hole last next : ℕ} {x : Entry K} {h a b : ℕ} (t : Turn xs hole last next x h a b) where
    inside : next < length xs
    inside = next_within spread n xs hole last t.gap next t.is

    near : a ≡ steps n (home spread n x.key) hole
    near = rw (← t.gap.long) (rw (← t.home) (rw t.gap.long t.to_hole))

    far : b ≡ steps n (home spread n x.key) next
    far = rw (← t.gap.long) (rw (← t.home) (rw t.gap.long t.to_next))

    pub turn_stays : b ≤ a → Gap spread n xs hole next
    turn_stays le = gap_stays spread n xs hole last t.gap next t.is t.other x t.held
        (λ on. let p = near in let q = far in omega arith)

    pub turn_on : left spread n xs hole next < left spread n xs hole last
    turn_on = left_on spread n xs hole last next t.gap.inside (next_inside spread n xs hole last t.gap next t.is)
        (step spread n xs hole last t.gap next t.is t.other)

    module _ (ys : List (Option (Entry K))) (less : a < b) (long : length ys ≡ length xs) (swapped : SwappedAt xs ys hole next) where
      on : Ahead spread n x.key hole next
      on = let p = near in let q = far in omega arith

      pub turn_moves : Gap spread n ys next next
      turn_moves = gap_moves spread n xs hole last t.gap next t.is t.other x t.held ys on long swapped

      pub turn_less : left spread n ys next next < left spread n xs hole last
      turn_less = left_less spread n xs ys hole last next t.gap.inside t.gap.looked
          (nearer spread n xs ys hole next x (rw t.gap.long t.gap.inside) inside t.other t.gap.free t.held (swapped.3 None) on)
