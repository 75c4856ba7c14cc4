-- Closing the gap that a freed slot leaves.
use Rattle.std.proofs.Common.{◌≡◌, ℕ, ◌+◌, ◌<◌, ◌≤◌, true, List, length, get_or, set, Option, is_some, Some, None}
use Rattle.std.proofs.Common.{sym, ◌∙◌, inl, inr, arith, length-set}
use Rattle.std.proofs.lemmas.List.{get_or-set_same, get_or-set_other}
use Rattle.std.proofs.lemmas.Option.{none-some}
use Rattle.std.proofs.lemmas.Bool.{both_ways, cases_eq, cases_lt}
use Rattle.std.specs.List.{SwappedAt}
use Rattle.index.specs.declared.slot.Entry.{Entry}
use Rattle.base.specs.Rings.{onward}
use Rattle.index.specs.Places.{steps}
use Rattle.index.specs.Slots.{home, AllReached}
use Rattle.index.proofs.Homes.{home_below}
use Rattle.index.proofs.Places.{steps_none, steps_same, steps_below, steps_onward, steps_round, steps_before, onward_below}
use Rattle.index.proofs.Changes.{within_from_taken}

module _ {K : Type 0} (spread : K → ℕ) (n : ℕ) where
  -- whether p comes before q on the way from the key's home
  abbrev pub Ahead : K → ℕ → ℕ → Type 0
  Ahead k p q = steps n (home spread n k) p < steps n (home spread n k) q

  -- the slots while the gap is at hole: each key is reached but for the hole,
  -- and no key in a slot after the hole, up to the last one looked at, has the hole on its way
  pub record Gap (xs : List (Option (Entry K))) (hole last : ℕ) : Type 0 where
    pub long : length xs ≡ n
    pub inside : hole < n
    pub looked : last < n
    pub free : get_or xs hole None ≡ None
    pub across : (q : ℕ) (x : Entry K) → get_or xs q None ≡ Some x →
        (p : ℕ) → p < n → (p ≡ hole → ⊥) → Ahead x.key p q → is_some (get_or xs p None) ≡ true
    pub clear : (q : ℕ) (x : Entry K) → get_or xs q None ≡ Some x → steps n hole q ≤ steps n hole last → Ahead x.key hole q → ⊥

  -- the slots with one freed that were in order before
  pub gap_none : (xs : List (Option (Entry K))) (place : ℕ) → length xs ≡ n → place < n → AllReached spread xs →
      Gap (set xs place None) place place
  gap_none xs place long inside reached =
      let fits : place < length xs = rw long inside in
      let free = get_or-set_same xs place None None fits in
      let kept : (p : ℕ) → (p ≡ place → ⊥) → get_or (set xs place None) p None ≡ get_or xs p None =
      λ p off. get_or-set_other xs place p None None off in
      let reaches = rw long at reached in
      let apart : (q : ℕ) (x : Entry K) → get_or (set xs place None) q None ≡ Some x → q ≡ place → ⊥ =
      λ q x e at. none-some x (sym (rw at free) ∙ e) in
      record {
        long = length-set xs place None ∙ long;
        inside = inside;
        looked = inside;
        free = free;
        across = λ q x e p l off b. rw (kept p off) (reaches q x (sym (kept q (apart q x e)) ∙ e) p l b);
        clear = λ q x e near b.
            let none = steps_none n place in
            let in-q : q < n = rw (sym (length-set xs place None ∙ long)) (within_from_taken (set xs place None) q x e) in
            apart q x e (steps_same n place q place inside in-q inside (omega arith));
      }

  module _ (xs : List (Option (Entry K))) (hole last : ℕ) (gap : Gap xs hole last) where
    below : (q : ℕ) (x : Entry K) → get_or xs q None ≡ Some x → q < n
    below q x e = rw (sym gap.long) (within_from_taken xs q x e)

    closed : ((q : ℕ) (x : Entry K) → get_or xs q None ≡ Some x → Ahead x.key hole q → ⊥) → AllReached spread xs
    closed none = rw gap.long (λ q x e p l b. elim (cases_eq p hole) [
      | inl same ↦ absurd (none q x e (rw same at b))
      | inr other ↦ gap.across q x e p l other b
    ])

    -- the whole round has been looked at
    pub closed_round : onward n last ≡ hole → AllReached spread xs
    closed_round e = closed (λ q x held b.
        let r = steps_round n hole last gap.inside gap.looked e in
        let s = steps_below n hole q gap.inside (below q x held) in
        gap.clear q x held (omega arith) b)

    -- a key's home, and the slot after the last one looked at, are two of the places
    pub home_inside : (h : ℕ) (k : K) → h ≡ home spread (length xs) k → h < n
    home_inside h k is = rw (is, gap.long) (home_below spread n k (omega (arith, gap.inside)))

    pub next_inside : (next : ℕ) → next ≡ onward n last → next < n
    next_inside next is = rw is (onward_below n last gap.looked)

    pub next_within : (next : ℕ) → next ≡ onward n last → next < length xs
    next_within next is = rw gap.long (next_inside next is)

    pub hole_within : hole < length xs
    hole_within = rw gap.long gap.inside

    module _ (next : ℕ) (is : next ≡ onward n last) (other : next ≡ hole → ⊥) where
      in_next : next < n
      in_next = next_inside next is

      pub step : steps n hole next ≡ steps n hole last + 1
      step = rw is (steps_onward n hole last gap.inside gap.looked (λ e. other (is ∙ e)))

      -- no way leads across a free slot
      pub closed_free : get_or xs next None ≡ None → AllReached spread xs
      closed_free free = closed (λ q x held b.
          let in-q = below q x held in
          let from = home spread n x.key in
          let in-home = home_below spread n x.key (omega (arith, in-q)) in
          let more = step in
          elim (cases_lt (steps n hole last) (steps n hole q)) [
            | inr near ↦ gap.clear q x held near b
            | inl far ↦ elim (cases_lt (steps n hole next) (steps n hole q)) [
              | inl past ↦ both_ways (is_some (get_or xs next None)) (rw free)
                  (gap.across q x held next in_next other (steps_before n from hole next q in-home gap.inside in_next in-q b past))
              | inr here ↦
                  let same : steps n hole q ≡ steps n hole next = omega arith in
                  none-some x (sym (rw (steps_same n hole q next gap.inside in-q in_next same) free) ∙ held)
            ]
          ])

      module _ (x : Entry K) (held : get_or xs next None ≡ Some x) where
        -- the next slot's key has not the hole on its way
        pub gap_stays : (Ahead x.key hole next → ⊥) → Gap xs hole next
        gap_stays off = record {
          long = gap.long;
          inside = gap.inside;
          looked = in_next;
          free = gap.free;
          across = gap.across;
          clear = λ q y e near b.
              let more = step in
              elim (cases_lt (steps n hole last) (steps n hole q)) [
                | inr nearer ↦ gap.clear q y e nearer b
                | inl far ↦
                    let same : steps n hole q ≡ steps n hole next = omega arith in
                    let at = steps_same n hole q next gap.inside (below q y e) in_next same in
                    let one : y ≡ x = cc in
                    off (rw (at, one) at b)
              ];
        }

        -- the next slot's key moves into the hole, and its slot is the new one
        pub gap_moves : (ys : List (Option (Entry K))) → Ahead x.key hole next → length ys ≡ length xs →
            SwappedAt xs ys hole next → Gap ys next next
        gap_moves ys on same-long (filled, freed, rest, _) = record {
          long = same-long ∙ gap.long;
          inside = in_next;
          looked = in_next;
          free = freed None ∙ gap.free;
          across = λ q y e p l off b. elim (cases_eq p hole) [
            | inl at ↦ rw (at, filled None, held)
            | inr apart ↦ rw (rest p None apart off) (elim (cases_eq q hole) [
              | inl at-hole ↦
                  let moved = filled None in
                  let one : y ≡ x = cc in
                  let b' : Ahead x.key p hole = rw (at-hole, one) at b in
                  gap.across next x held p l apart (omega arith)
              | inr far ↦ elim (cases_eq q next) [
                | inl at ↦ absurd (none-some y (sym (rw at (freed None ∙ gap.free)) ∙ e))
                | inr away ↦ gap.across q y (sym (rest q None far away) ∙ e) p l apart b
              ]
            ])
          ];
          clear = λ q y e near b.
              let none = steps_none n next in
              let in-q : q < n = rw (sym (same-long ∙ gap.long)) (within_from_taken ys q y e) in
              let same : steps n next q ≡ steps n next next = omega arith in
              let at = steps_same n next q next in_next in-q in_next same in
              none-some y (sym (rw at (freed None ∙ gap.free)) ∙ e);
        }
