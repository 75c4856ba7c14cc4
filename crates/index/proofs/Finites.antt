-- The size of an index is the number of codes with a number.
use Rattle.std.proofs.Common.{◌≡◌, ℕ, ◌≤◌, cond, eqb, List, [], ◌∷◌, length, Option, is_some, Some, None, count_by, refl, arith}
use Rattle.std.proofs.lemmas.List.Sums.{count_by-le-length}
use Rattle.std.proofs.lemmas.Bool.Decides.{nat_tests}
use Rattle.index.specs.declared.slot.Entry.{Entry}
use Rattle.index.specs.declared.index.Index.{Index}
use Rattle.index.specs.Maps.{Finite}
use Rattle.index.specs.Slots.{holds, number_of, slots_of, map_of, SoundIndex}
use Rattle.index.proofs.Counts.{count_by-cons, number_only}

module _ {K : Type 0} (code : K → ℕ) where
  -- the codes of the taken slots
  abbrev codes : List (Option (Entry K)) → List ℕ
  codes [] = []
  codes (None ∷ xs) = codes xs
  codes (Some x ∷ xs) = code x.key ∷ codes xs

  codes_length : (xs : List (Option (Entry K))) → length (codes xs) ≡ count_by is_some xs
  codes_length [] = refl
  codes_length (None ∷ xs) = grind (arith, count_by-cons, codes_length xs)
  codes_length (Some x ∷ xs) =
      omega (arith, count_by-cons is_some (Some x) xs, codes_length xs)

  codes_count : (c : ℕ) (xs : List (Option (Entry K))) → count_by (eqb c) (codes xs) ≡ count_by (holds code c) xs
  codes_count c [] = refl
  codes_count c (None ∷ xs) = grind (arith, count_by-cons, codes_count c xs)
  codes_count c (Some x ∷ xs) =
      omega (arith, count_by-cons (holds code c) (Some x) xs, count_by-cons (eqb c) (code x.key) (codes xs), codes_count c xs)

  codes_once : (c : ℕ) (xs : List (Option (Entry K))) → count_by (holds code c) xs ≤ 1 →
      count_by (eqb c) (codes xs) ≡ cond (is_some (number_of code xs c)) 1 0
  codes_once c xs h = rw (codes_count c xs, number_only code c xs h) (grind (arith, nat_tests))

  pub finite_from_sound : (spread : K → ℕ) (index : Index K) → SoundIndex code spread index → Finite (map_of code index)
  finite_from_sound spread index s = record {
    codes = codes (slots_of index);
    once = λ c. codes_once c (slots_of index) (s.different c);
    sized = codes_length (slots_of index);
    within = count_by-le-length is_some (slots_of index);
  }
