-- Looking for a key from its home upward: what is known of the slots that were passed.
use Rattle.std.proofs.Common.{◌≡◌, ℕ, suc, ◌+◌, ◌<◌, ◌≤◌, Bool, true, false, List, [], ◌∷◌, length, get_or, Option, is_some, Some, None}
use Rattle.std.proofs.Common.{count_by, sym, refl, ◌∙◌, inl, inr, arith}
use Rattle.std.proofs.lemmas.Bool.{both_ways, cases_eq, cases_lt, cases_order, eq-eqb, ne_eqb, false≢true}
use Rattle.std.proofs.lemmas.Bool.Decides.{nat_tests}
use Rattle.std.proofs.lemmas.Option.{same_Some, none-some}
use Rattle.index.specs.declared.slot.Entry.{Entry}
use Rattle.index.specs.Places.{steps}
use Rattle.index.specs.Slots.{holds, home, AllReached}
use Rattle.index.specs.Probes.{Absent, Open, Passed, Stops, StopsBetween, stop_in, passes}
use Rattle.index.specs.declared.index.probing.Stop.{Stop}
use Rattle.index.proofs.Changes.{read_is}
use Rattle.index.proofs.Counts.{count_by-cons}
use Rattle.index.proofs.Homes.{home_below}
use Rattle.index.proofs.Places.{steps_same, steps_upward, steps_around}

-- a test that holds of no element, and one that holds of each
count_none : {X : Type 0} (t : X → Bool) (d : X) (xs : List X) → ((i : ℕ) → i < length xs → t (get_or xs i d) ≡ false) → count_by t xs ≡ 0
count_none t d [] h = refl
count_none t d (x ∷ xs) h =
    grind (arith, count_by-cons, h 0 (omega arith), count_none t d xs (λ i l. h (suc i) (omega arith)))

count_each : {X : Type 0} (t : X → Bool) (d : X) (xs : List X) → ((i : ℕ) → i < length xs → t (get_or xs i d) ≡ true) →
    count_by t xs ≡ length xs
count_each t d [] h = refl
count_each t d (x ∷ xs) h =
    grind (arith, count_by-cons, h 0 (omega arith), count_each t d xs (λ i l. h (suc i) (omega arith)))

module _ {K : Type 0} (code : K → ℕ) (c : ℕ) where
  passes_taken : (s : Option (Entry K)) → passes code c s ≡ true → is_some s ≡ true
  passes_taken None e = absurd (false≢true e)
  passes_taken (Some x) e = refl

  -- the search came from one place to another, where it looks at a slot and answers r
  module _ (xs : List (Option (Entry K))) (from place : ℕ) (slot : Option (Entry K)) (r : Option (Option ℕ))
      (within : place < length xs) (read : slot ≡ get_or xs place slot) (is : r ≡ stop_in code c slot) where
    looked_at : stop_in code c (get_or xs place None) ≡ r
    looked_at = rw (read_is xs place slot slot within (sym read)) (sym is)

    pub stopped : (n : Option ℕ) → r ≡ Some n → stop_in code c (get_or xs place None) ≡ Some n
    stopped n e = looked_at ∙ e

    pub passed_one_more : r ≡ None → Passed code xs c from place → Passed code xs c from (place + 1)
    passed_one_more none passed = λ p l b. elim (cases_eq p place) [
      | inl at ↦ rw (at, looked_at, none) refl
      | inr other ↦ passed p l (omega arith)
    ]

  passes_apart : (s : Option (Entry K)) → passes code c s ≡ true → holds code c s ≡ false
  passes_apart None e = refl
  passes_apart (Some x) e = grind (arith, nat_tests)

module _ {K : Type 0} (code spread : K → ℕ) (xs : List (Option (Entry K))) (key : K) where
  -- how many steps lead from the key's home to a place
  abbrev way : ℕ → ℕ
  way place = steps (length xs) (home spread (length xs) key) place

  -- the first stop from the home, h, up to the last place
  pub stops_upward : (h c : ℕ) (s : Stop) → h ≡ home spread (length xs) key → c ≡ code key → StopsBetween code xs c h (length xs) (Some s) →
      Stops code spread xs key (Some s)
  stops_upward h c s is same found =
      let upward = rw (is, same) at found in (
        upward.1,
        upward.2,
        λ p l b. let on = steps_upward (length xs) (home spread (length xs) key) p s.place upward.0 upward.1 l b in upward.3 p on.0 on.1,
      )

  -- where there is none, the first stop from the first place up to the home
  pub stops_around : (h c : ℕ) (r : Option Stop) → h ≡ home spread (length xs) key → c ≡ code key → h ≤ length xs →
      Passed code xs c h (length xs) → StopsBetween code xs c 0 h r → Stops code spread xs key r
  stops_around h c None is same most upward around = rw (← same) (λ p l b. elim (cases_lt p h) [
    | inl before ↦ around p l before
    | inr behind ↦ upward p behind b
  ])
  stops_around h c (Some s) is same most upward around = rw (← is, ← same) (
    omega (arith, around.1),
    around.2,
    λ p l b. elim (cases_lt p h) [
      | inl before ↦ around.3 p (omega arith) (steps_around (length xs) h p s.place around.1 most before b)
      | inr behind ↦ upward p behind l
    ],
  )

  stops_free : (slot : Option (Entry K)) (n : Option ℕ) → stop_in code (code key) slot ≡ Some n → n ≡ None → slot ≡ None
  stops_free None n at e = refl
  stops_free (Some x) n at e = elim (cases_eq (code key) (code x.key)) [
    | inl same ↦ absurd (none-some x.number (sym (same_Some _ n (rw (eq-eqb (code key) (code x.key) same) at at) ∙ e)))
    | inr other ↦ absurd (none-some n (rw (ne_eqb (code key) (code x.key) other) at at))
  ]

  stops_held : ((a b : K) → code a ≡ code b → a ≡ b) → (slot : Option (Entry K)) (n : Option ℕ) (m : ℕ) →
      stop_in code (code key) slot ≡ Some n → n ≡ Some m → slot ≡ Some (record { key = key; number = m })
  stops_held faithful None n m at e = absurd (none-some m (same_Some None n at ∙ e))
  stops_held faithful (Some x) n m at e = elim (cases_eq (code key) (code x.key)) [
    | inl same ↦
        let k = sym (faithful key x.key same) in
        let v = same_Some x.number m (same_Some _ n (rw (eq-eqb (code key) (code x.key) same) at at) ∙ e) in
        λ i. Some (record { key = k i; number = v i })
    | inr other ↦ absurd (none-some n (rw (ne_eqb (code key) (code x.key) other) at at))
  ]

  -- every slot is taken by another key
  pub full_from_stops : Stops code spread xs key None → Absent code xs key × (count_by is_some xs ≡ length xs)
  full_from_stops passed = (
    count_none (holds code (code key)) None xs (λ p l. passes_apart code (code key) (get_or xs p None) (passed p (omega arith) l)),
    count_each is_some None xs (λ p l. passes_taken code (code key) (get_or xs p None) (passed p (omega arith) l)),
  )

  other_slot : (s : Option (Entry K)) → ((x : Entry K) → s ≡ Some x → code x.key ≡ code key → ⊥) → holds code (code key) s ≡ false
  other_slot None h = refl
  other_slot (Some x) h = ne_eqb (code key) (code x.key) (λ e. h x refl (sym e))

  -- behind a free slot the key is not reached, so it is nowhere
  pub open_from_stops : ((a b : K) → code a ≡ code b → a ≡ b) → AllReached spread xs → (s : Stop) →
      Stops code spread xs key (Some s) → s.number ≡ None → Open code spread xs key s.place
  open_from_stops faithful reached s (within, at, passed) none =
      let place = s.place in
      let free = stops_free (get_or xs place None) s.number at none in
      let below = home_below spread (length xs) key (omega (arith, within)) in
      record {
        within = within;
        free = free;
        absent = count_none (holds code (code key)) None xs
            (λ p l. elim (cases_order (way p) (way place)) [
              | inl e ↦ rw (steps_same (length xs) (home spread (length xs) key) p place below l within e, free)
              | inr (inl lt) ↦ passes_apart code (code key) (get_or xs p None) (passed p l lt)
              | inr (inr gt) ↦ other_slot (get_or xs p None) (λ x e same.
                  let t : is_some (get_or xs place None) ≡ true = reached p x e place within (rw (faithful x.key key same) gt) in
                  both_ways (is_some (get_or xs place None)) (rw free) t)
            ]);
        way = λ p l b. passes_taken code (code key) (get_or xs p None) (passed p l b);
      }

  -- a slot with a number is the key's
  pub found_from_stops : ((a b : K) → code a ≡ code b → a ≡ b) → (s : Stop) (n : ℕ) → Stops code spread xs key (Some s) →
      s.number ≡ Some n →
      get_or xs s.place None ≡ Some (record { key = key; number = n })
  found_from_stops faithful s n (within, at, passed) some = stops_held faithful (get_or xs s.place None) s.number n at some
