-- The backward pass that finds next touches.
use Rattle.std.proofs.Common.{◌≡◌, ℕ, ◌+◌, ◌<◌, ◌≤◌, true, false, cond, eqb, List, [], ◌∷◌, length, get_or}
use Rattle.std.proofs.Common.{drop, set, Some, None, Option, unwrap_or, sym, refl, ap, ◌∙◌, inl, inr, arith}
use Rattle.std.proofs.lemmas.List.{drop_more, drop_all, length-drop, get_or-set_same, get_or-set_other}
use Rattle.std.proofs.lemmas.Bool.{cases_Bool, cases_eq, lt-ltb, or_right, cond_both}
use Rattle.std.proofs.lemmas.Bool.Decides.{nat_tests}
use Rattle.base.specs.Lists.{member, place_in}
use Rattle.index.specs.Maps.{Map, has, accepts, after_put, empty}
use Rattle.planning.specs.Chosen.{NextTouch}

-- where a key is touched from place i on, if it is
abbrev pub later : List ℕ → ℕ → ℕ → Option ℕ
later xs i y = cond (member y (drop i xs)) (Some (i + place_in y (drop i xs))) None

-- a key that is not touched again counts as touched behind the end
place_absent : (y : ℕ) (xs : List ℕ) → member y xs ≡ false → place_in y xs ≡ length xs
place_absent y [] e = refl
place_absent y (x ∷ xs) e = let ih = place_absent y xs in grind (arith, nat_tests)

-- the touch at i, and those behind it
later_cons : (i x y : ℕ) (rest : List ℕ) →
    cond (member y (x ∷ rest)) (Some (i + place_in y (x ∷ rest))) None ≡
    cond (eqb x y) (Some i) (cond (member y rest) (Some (i + 1 + place_in y rest)) None)
later_cons i x y rest = let s : eqb x y ≡ eqb y x = grind (arith, nat_tests) in rw s (elim (cases_Bool (eqb y x)) [
  | inl e ↦ rw e (ap Some (omega arith))
  | inr e ↦ elim (cases_Bool (member y rest)) [ inl m ↦ rw (e, m) (ap Some (omega arith)) | inr m ↦ rw (e, m) ]
])

-- What holds once the touches from place i on are seen.
pub record Looking (xs next : List ℕ) (index : Map) (places i : ℕ) : Type 0 where
  pub found : (y : ℕ) → index.at y ≡ later xs i y
  pub few : index.size + i ≤ length xs
  pub slots : index.places ≡ places
  pub nexts : (j : ℕ) → i ≤ j → j < length xs → NextTouch xs next j

pub looking_none : (xs next : List ℕ) (index : Map) (places : ℕ) → index ≡ empty places → Looking xs next index places (length xs)
looking_none xs next index places e = record {
  found = λ y. rw (e, drop_all (length xs) xs (omega arith));
  few = rw e (omega arith);
  slots = rw e;
  nexts = λ j l h. absurd (omega arith);
}

module _ (xs next : List ℕ) (index : Map) (places j i : ℕ) (seen : Looking xs next index places j) (before : j ≡ i + 1)
    (low : i < length xs) (fits : length xs ≤ places) where
  q : Looking xs next index places (i + 1)
  q = rw before at seen

  -- the index takes the key
  pub looking_accepted : accepts index (get_or xs i 0) ≡ true
  looking_accepted = or_right _ _ (lt-ltb index.size index.places (omega (arith, q.few, q.slots)))

  pub looking_more : (n : ℕ) → i < length next → n ≡ i + 1 + place_in (get_or xs i 0) (drop (i + 1) xs) →
      Looking xs (set next i n) (after_put index (get_or xs i 0) i) places i
  looking_more n room e = rw looking_accepted (record {
    found = λ y. ap (cond (eqb (get_or xs i 0) y) (Some i)) (q.found y) ∙ sym (later_cons i (get_or xs i 0) y (drop (i + 1) xs)) ∙
        ap (λ w. cond (member y w) (Some (i + place_in y w)) None) (sym (drop_more xs i 0 low));
    few = cond_both (has index (get_or xs i 0)) index.size (index.size + 1) (λ n. n + i ≤ length xs) (λ _. omega (arith, q.few))
        (λ _. omega (arith, q.few));
    slots = q.slots;
    nexts = λ k l h. elim (cases_eq k i) [
      | inl s ↦ rw (s, get_or-set_same next i n 0 room) e
      | inr d ↦ rw (get_or-set_other next i k n 0 d) (q.nexts k (omega arith) h)
    ];
  })

  -- what the index answers is the next touch, or the list's end
  pub found_next : unwrap_or (index.at (get_or xs i 0)) (length xs) ≡ i + 1 + place_in (get_or xs i 0) (drop (i + 1) xs)
  found_next = elim (cases_Bool (member (get_or xs i 0) (drop (i + 1) xs))) [
    | inl m ↦ rw (q.found (get_or xs i 0), m)
    | inr m ↦ rw (q.found (get_or xs i 0), m) (omega (arith, place_absent (get_or xs i 0) (drop (i + 1) xs) m, length-drop (i + 1) xs))
  ]
