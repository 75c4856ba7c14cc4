-- What the calls of an index do to the map that its slots hold.
use Rattle.std.proofs.Common.{◌≡◌, ℕ, ◌+◌, ◌-◌, ◌<◌, ◌≤◌, Bool, true, false, cond, eqb, List, length, get_or, set, Option, is_some, Some}
use Rattle.std.proofs.Common.{None, count_by, sym, refl, ◌∙◌, inl, inr, arith, length-set}
use mathlib.Core.Path.{fun_ext}
use Rattle.std.specs.Map.{update}
use Rattle.std.proofs.Math.ListN.{replicate}
use Rattle.std.proofs.lemmas.List.{get_or-set_same, get_or-set_other, get_or-replicate, length-replicate}
use Rattle.std.proofs.lemmas.List.Folds.{sum_by-replicate}
use Rattle.std.proofs.lemmas.List.Sums.{count_by-le-length}
use Rattle.std.proofs.lemmas.Bool.{cases_eq}
use Rattle.std.proofs.lemmas.Option.{none-some}
use Rattle.index.specs.declared.slot.Entry.{Entry}
use Rattle.index.specs.declared.index.probing.Probe.{Probe}
use Rattle.index.specs.declared.index.probing.Probe.TheVariants.{Found, Vacant, Full}
use Rattle.index.specs.Maps.{Map, empty, after_put, after_remove}
use Rattle.index.specs.declared.index.Index.{Index}
use Rattle.index.specs.Slots.{holds, number_of, slots_of, slots_map, Before, AllReached, SoundIndex}
use Rattle.index.specs.Probes.{Absent, Open, Probed, Tells, Vacated}
use Rattle.index.proofs.Counts.{number_only}
use Rattle.index.proofs.Changes.{within_from_taken, freed_size, freed_different, freed_present, freed_at, renumbered, renumbered_size}
use Rattle.index.proofs.Changes.{renumbered_at, filled_size, filled_different, filled_at}
use Rattle.index.proofs.Maps.{after_put_known, after_put_new, after_remove_known}

-- maps with the same numbers, size and places are equal
same_map : (a b : Map) → ((c : ℕ) → a.at c ≡ b.at c) → a.size ≡ b.size → a.places ≡ b.places → a ≡ b
same_map a b at size places = λ i. record { at = fun_ext at i; size = size i; places = places i }

-- an index whose slots are all free
module _ {K : Type 0} (code : K → ℕ) (n : ℕ) where
  free_count : (t : Option (Entry K) → Bool) → t None ≡ false → count_by t (replicate n None) ≡ 0
  free_count t off = rw (sum_by-replicate (λ s. cond (t s) 1 0) n None, off) (omega arith)

  pub free_sound : (spread : K → ℕ) (index : Index K) → slots_of index ≡ replicate n None → index.taken ≡ 0 → SoundIndex code spread index
  free_sound spread index free none = record {
    counted = rw (free, none) (sym (free_count is_some refl));
    different = λ c. rw (free, free_count (holds code c) refl) (omega arith);
    reached = rw free (λ q x e.
        let none : Option (Entry K) = None in
        let inside : q < n = rw (length-replicate n none) at (within_from_taken (replicate n none) q x e) in
        absurd (none-some x (sym (get_or-replicate n q none none inside) ∙ e)));
  }

  pub free_map : (xs : List (Option (Entry K))) → xs ≡ replicate n None → slots_map code xs ≡ empty n
  free_map xs free = rw free
      (same_map (slots_map code (replicate n None)) (empty n)
      (λ c. let z = free_count (holds code c) refl in rw (number_only code c (replicate n None) (omega arith), z))
      (free_count is_some refl) (length-replicate n None))

module _ {K : Type 0} (code spread : K → ℕ) (xs : List (Option (Entry K))) where
  pub absent_none : (k : K) → Absent code xs k → number_of code xs (code k) ≡ None
  absent_none k h = rw (number_only code (code k) xs (omega arith), h)

  -- a key that is put where each slot on its way is taken is reached, and so are the others
  pub reached_set : (p : ℕ) (x : Entry K) → p < length xs → AllReached spread xs →
      ((q : ℕ) → q < length xs → Before spread xs x.key q p → is_some (get_or xs q None) ≡ true) → AllReached spread (set xs p (Some x))
  reached_set p x inside reached way =
      let ys = set xs p (Some x) in
      let here : get_or ys p None ≡ Some x = get_or-set_same xs p (Some x) None inside in
      rw (length-set xs p (Some x)) (λ q y e r l b. elim (cases_eq r p) [
        | inl at ↦ rw (at, here)
        | inr off ↦ rw (get_or-set_other xs p r (Some x) None off) (elim (cases_eq q p) [
          | inl at ↦ let one : y ≡ x = cc in way r l (rw (at, one) at b)
          | inr far ↦ reached q y (sym (get_or-set_other xs p q (Some x) None far) ∙ e) r l b
        ])
      ])

  module _ (different : (c : ℕ) → count_by (holds code c) xs ≤ 1) where
    -- the entry x stands at p
    module _ (p : ℕ) (x : Entry K) (there : get_or xs p None ≡ Some x) where
      pub found_at : number_of code xs (code x.key) ≡ Some x.number
      found_at = freed_present code xs (set xs p None) p x there different (λ f. refl)

      -- the slots with a new number there
      pub renumbered_map : (n : ℕ) →
          slots_map code (renumbered code xs p x n there different) ≡ after_put (slots_map code xs) (code x.key) n
      renumbered_map n =
          same_map (slots_map code (renumbered code xs p x n there different))
          (record { at = update eqb (number_of code xs) (code x.key) (Some n); size = count_by is_some xs; places = length xs })
          (renumbered_at code xs p x n there different) (renumbered_size code xs p x n there different)
          (length-set xs p (Some (record { key = x.key; number = n })))
          ∙ sym (after_put_known (slots_map code xs) (code x.key) n x.number found_at)

      -- the slots once it is taken out
      module _ (ys : List (Option (Entry K))) (v : Vacated spread xs p ys) where
        pub removed_size : count_by is_some ys + 1 ≡ count_by is_some xs
        removed_size = freed_size code xs ys p x there different v.same

        pub removed_different : (c : ℕ) → count_by (holds code c) ys ≤ 1
        removed_different = freed_different code xs ys p x there different v.same

        pub removed_map : slots_map code ys ≡ after_remove (slots_map code xs) (code x.key)
        removed_map =
            let size = removed_size in
            same_map (slots_map code ys) (record {
              at = update eqb (number_of code xs) (code x.key) None;
              size = count_by is_some xs - 1;
              places = length xs;
            })
            (freed_at code xs ys p x there different v.same) (omega arith) v.long
            ∙ sym (after_remove_known (slots_map code xs) (code x.key) x.number found_at)

    -- the key stands nowhere, and p is open for it
    module _ (p : ℕ) (x : Entry K) (o : Open code spread xs x.key p) where
      pub added_size : count_by is_some (set xs p (Some x)) ≡ count_by is_some xs + 1
      added_size = filled_size code xs p x o.within o.free different o.absent

      pub added_room : count_by is_some xs < length xs
      added_room =
          let a = added_size in let b = count_by-le-length is_some (set xs p (Some x)) in let c = length-set xs p (Some x) in omega arith

      pub added_different : (c : ℕ) → count_by (holds code c) (set xs p (Some x)) ≤ 1
      added_different = filled_different code xs p x o.within o.free different o.absent

      pub added_map : slots_map code (set xs p (Some x)) ≡ after_put (slots_map code xs) (code x.key) x.number
      added_map =
          same_map (slots_map code (set xs p (Some x))) (record {
            at = update eqb (number_of code xs) (code x.key) (Some x.number);
            size = count_by is_some xs + 1;
            places = length xs;
          })
          (filled_at code xs p x o.within o.free different o.absent) added_size (length-set xs p (Some x))
          ∙ sym (after_put_new (slots_map code xs) (code x.key) x.number (absent_none x.key o.absent) added_room)

    -- what looking for a key tells of the map
    pub tells : (k : K) (r : Probe) → Probed code spread xs k r → Tells (slots_map code xs) (code k) r
    tells k (Found p n) there = found_at p (record { key = k; number = n }) there
    tells k (Vacant p) open' = (absent_none k open'.absent, added_room p (record { key = k; number = 0 }) open')
    tells k Full full = (absent_none k full.0, omega (arith, full.1))
