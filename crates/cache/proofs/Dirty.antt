-- Which sectors of a store are dirty, and what each change of a place does to that.
use Rattle.std.proofs.Common.{◌≡◌, ℕ, zero, suc, ◌<◌, ◌≤◌, Bool, true, false, cond, not, ◌&&◌, ◌||◌, eqb, ltb, List, [], ◌∷◌, map, filter}
use Rattle.std.proofs.Common.{count_by, length, get_or, sym, refl, ap, ◌∙◌, inl, inr, arith}
use Rattle.std.proofs.lemmas.Bool.{cases_Bool, cases_eq, cases_lt, eq-eqb, ne_eqb, lt-ltb, le-ltb, and_from, and_left, and_right}
use Rattle.std.proofs.lemmas.Bool.{not_from_true, not_from_false, true≢false}
use Rattle.std.proofs.lemmas.List.{length-map}
use Rattle.std.proofs.lemmas.List.Sums.{length-filter}
use mathlib.Core.Path.{fun_ext}
use Rattle.base.specs.Lists.{member}
use Rattle.cache.specs.declared.store.Place.{Place}
use Rattle.cache.specs.declared.store.Store.{Store}
use Rattle.cache.specs.Places.{HeldOnce, used, place_at, dirty, is_dirty, changed, stored, cleaned, installed}
use Rattle.cache.specs.View.{Holding, shown}
use Rattle.cache.proofs.Stores.{Absent, HeldAt, blank, cases_held, changed_used, changed_at, changed_other, changed_sector, changed_once}
use Rattle.cache.proofs.Stores.{shown_absent, shown_held, held_then, gone_then, absent_then, new_at, new_other, used_f, sector_f}

-- the sectors of the dirty places of a list
abbrev dirty_in : List Place → List ℕ
dirty_in ps = map (λ (p : Place). p.sector) (filter (λ (p : Place). p.dirty) ps)

-- a dirty sector is that of a dirty place
from_dirty : (ps : List Place) (x : ℕ) → member x (dirty_in ps) ≡ true →
    (i : ℕ) × (i < length ps) × ((get_or ps i blank).sector ≡ x) × ((get_or ps i blank).dirty ≡ true)
from_dirty [] x h = absurd (true≢false (sym h))
from_dirty (p ∷ ps) x h = elim (cases_Bool p.dirty) [
  | inl d ↦ elim (cases_eq x p.sector) [
    | inl e ↦ (0, omega arith, sym e, d)
    | inr n ↦ let q = from_dirty ps x (rw (d, ne_eqb x p.sector n) at h) in (suc q.0, (let l = q.1 in omega arith), q.2, q.3)
  ]
  | inr d ↦ let q = from_dirty ps x (rw d at h) in (suc q.0, (let l = q.1 in omega arith), q.2, q.3)
]

-- and the sector of a dirty place is dirty
to_dirty : (ps : List Place) (i : ℕ) → i < length ps → (get_or ps i blank).dirty ≡ true →
    member (get_or ps i blank).sector (dirty_in ps) ≡ true
to_dirty [] i l d = absurd (omega arith)
to_dirty (p ∷ ps) zero l d = rw (d, eq-eqb p.sector p.sector refl)
to_dirty (p ∷ ps) (suc i) l d =
    let k = to_dirty ps i (omega arith) d in
    let x = (get_or ps i blank).sector in
    elim (cases_Bool p.dirty) [
      | inl e ↦ elim (cases_Bool (eqb x p.sector)) [ inl m ↦ rw (e, m) | inr m ↦ rw (e, m) k ]
      | inr e ↦ rw e k
    ]

none_in : (ps : List Place) → ((i : ℕ) → i < length ps → (get_or ps i blank).dirty ≡ false) → dirty_in ps ≡ []
none_in [] clean = refl
none_in (p ∷ ps) clean = rw (clean 0 (omega arith)) (none_in ps (λ i l. clean (suc i) (omega arith)))

module _ (s : Store) where
  -- where no place is dirty, no sector is
  pub none_dirty : ((i : ℕ) → i < used s → (place_at s i).dirty ≡ false) → dirty s ≡ []
  none_dirty = none_in s.places.items

  pub clean_at : dirty s ≡ [] → (i : ℕ) → i < used s → (place_at s i).dirty ≡ false
  clean_at none i l = elim (cases_Bool (place_at s i).dirty) [
    | inl d ↦ absurd (true≢false (sym (rw none at (to_dirty s.places.items i l d))))
    | inr d ↦ d
  ]

  -- how many there are
  pub dirty_count : length (dirty s) ≡ count_by (λ (p : Place). p.dirty) s.places.items
  dirty_count =
      length-map (filter (λ (p : Place). p.dirty) s.places.items) (λ (p : Place). p.sector) ∙
      length-filter (λ (p : Place). p.dirty) s.places.items

  -- a sector that no place holds is not dirty, and one that place i holds is as that place
  pub dirty_absent : (x : ℕ) → Absent s x → is_dirty s x ≡ false
  dirty_absent x none = elim (cases_Bool (is_dirty s x)) [
    | inl m ↦ let q = from_dirty s.places.items x m in absurd (none q.0 q.1 q.2)
    | inr m ↦ m
  ]

  pub dirty_held : HeldOnce s → (x i : ℕ) → HeldAt s x i → is_dirty s x ≡ (place_at s i).dirty
  dirty_held once x i at = elim (cases_Bool (place_at s i).dirty) [
    | inl d ↦ rw d (rw at.1 at (to_dirty s.places.items i at.0 d))
    | inr d ↦ rw d (elim (cases_Bool (is_dirty s x)) [
      | inl m ↦
          let q = from_dirty s.places.items x m in
          let same : q.0 ≡ i = once q.0 i q.1 at.0 (q.2 ∙ sym at.1) in
          absurd (true≢false (sym q.3 ∙ ap (λ j. (place_at s j).dirty) same ∙ d))
      | inr m ↦ m
    ])
  ]

  -- the bytes shown are those below but for the dirty sectors
  pub shown_dirty : {count : ℕ} {dead : ℕ → Bool} {bytes : ℕ → List ℕ} → Holding count dead bytes s →
      shown s bytes ≡ (λ x. cond (is_dirty s x) (shown s bytes x) (bytes x))
  shown_dirty {bytes = bytes} h = fun_ext (λ x. elim (cases_held s x) [
    | inl p ↦ elim (cases_Bool (place_at s p.0).dirty) [
      | inl d ↦ rw (dirty_held h.apart x p.0 p.1, d)
      | inr d ↦ rw (dirty_held h.apart x p.0 p.1, d) (shown_held s h bytes x p.0 p.1 ∙ h.clean p.0 p.1.0 d ∙ ap bytes p.1.1)
    ]
    | inr a ↦ rw (dirty_absent x a) (shown_absent s bytes x a)
  ])

-- a place f in use changed to p, which has the same sector
changed_dirty : (s : Store) (f : ℕ) (p : Place) (same : p.sector ≡ (place_at s f).sector) (low : f < used s) (once : HeldOnce s) (y : ℕ) →
    is_dirty (changed s f p) y ≡ cond (eqb y (place_at s f).sector) p.dirty (is_dirty s y)
changed_dirty s f p same low once y =
    let t = changed s f p in
    let once' = changed_once s f p same low once in
    let there : (i : ℕ) → HeldAt s y i → HeldAt t y i =
    λ i at. (rw (changed_used s f p same) at.0, changed_sector s f p same low i ∙ at.1) in
    elim (cases_held s y) [
      | inl q ↦ elim (cases_eq q.0 f) [
        | inl e ↦
            let is : y ≡ (place_at s f).sector = sym (rw e at q.1.1) in
            rw (eq-eqb y (place_at s f).sector is) (dirty_held t once' y q.0 (there q.0 q.1) ∙ ap (λ i. (place_at t i).dirty) e ∙
            ap (λ (w : Place). w.dirty) (changed_at s f p same low))
        | inr n ↦
            rw (ne_eqb y (place_at s f).sector (λ k. n (once q.0 f q.1.0 low (q.1.1 ∙ k))))
            (dirty_held t once' y q.0 (there q.0 q.1) ∙ ap (λ (w : Place). w.dirty) (changed_other s f p same q.0 n) ∙
            sym (dirty_held s once y q.0 q.1))
      ]
      | inr a ↦
          rw (ne_eqb y (place_at s f).sector (λ k. a f low (sym k)))
          (dirty_absent t y (λ i l e. a i (rw (changed_used s f p same) at l) (sym (changed_sector s f p same low i) ∙ e)) ∙
          sym (dirty_absent s y a))
    ]

module _ (s : Store) (f : ℕ) (low : f < used s) (once : HeldOnce s) (y : ℕ) where
  -- a place with the bytes of a buffer: its sector is dirty besides
  pub stored_dirty : (b : List ℕ) → is_dirty (stored s f b) y ≡ (eqb y (place_at s f).sector || is_dirty s y)
  stored_dirty b =
      let q = changed_dirty s f (record (place_at s f) { dirty = true; block = b }) refl low once y in
      elim (cases_Bool (eqb y (place_at s f).sector)) [ inl e ↦ rw e at q ∙ rw e | inr e ↦ rw e at q ∙ rw e ]

  -- a place marked as clean: its sector is not
  pub cleaned_dirty : is_dirty (cleaned s f) y ≡ cond (eqb y (place_at s f).sector) false (is_dirty s y)
  cleaned_dirty = changed_dirty s f (record (place_at s f) { dirty = false }) refl low once y

-- whether place f is in use and holds sector y
abbrev pub has_sector : Store → ℕ → ℕ → Bool
has_sector s f y = ltb f (used s) && eqb y (place_at s f).sector

pub and_true : (x y : Bool) → y ≡ true → (x && y) ≡ x
and_true true y e = e
and_true false y e = refl

-- a place in use, or the next, given to a sector x that no place holds: the sector that it held is dirty no more
module _ {count : ℕ} {dead : ℕ → Bool} {bytes : ℕ → List ℕ} (s : Store) (h : Holding count dead bytes s) (x f : ℕ) (none : Absent s x)
    (next : f ≤ used s) where
  abbrev t : Store
  t = installed s f x (bytes x)

  pub installed_dirty : HeldOnce t → (y : ℕ) → is_dirty t y ≡ (is_dirty s y && not (has_sector s f y))
  installed_dirty once y = elim (cases_held s y) [
    | inl p ↦ elim (cases_eq p.0 f) [
      | inl e ↦
          let it : has_sector s f y ≡ true = and_from _ _ (lt-ltb f (used s) (rw e at p.1.0)) (eq-eqb y _ (sym (rw e at p.1.1))) in
          dirty_absent t y (gone_then s h x f none next y p.0 p.1 e) ∙ sym (and_right (is_dirty s y) _ (not_from_true _ it))
      | inr n ↦
          let other : has_sector s f y ≡ false = elim (cases_lt f (used s)) [
            | inl l ↦ and_right _ _ (ne_eqb y _ (λ k. n (h.apart p.0 f p.1.0 l (p.1.1 ∙ k))))
            | inr l ↦ and_left _ _ (le-ltb f (used s) l)
          ] in
          dirty_held t once y p.0 (held_then s h x f none next y p.0 p.1 n) ∙
          ap (λ (w : Place). w.dirty) (new_other s h x f none next p.0 p.1.0 n) ∙
          sym (and_true (is_dirty s y) _ (not_from_false _ other) ∙ dirty_held s h.apart y p.0 p.1)
    ]
    | inr a ↦
        let clean : is_dirty t y ≡ false = elim (cases_eq y x) [
          | inl e ↦
              dirty_held t once y f (used_f s h x f none next, sector_f s h x f none next ∙ sym e) ∙
              ap (λ (w : Place). w.dirty) (new_at s h x f none next)
          | inr n ↦ dirty_absent t y (absent_then s h x f none next y a n)
        ] in
        clean ∙ sym (and_left (is_dirty s y) _ (dirty_absent s y a))
  ]

-- a place marked as clean: but for its sector, what is dirty stays so
pub cleaned_still : (s : Store) (f : ℕ) → f < used s → HeldOnce s → (y : ℕ) →
    (is_dirty (cleaned s f) y && not (has_sector (cleaned s f) f y)) ≡ (is_dirty s y && not (has_sector s f y))
cleaned_still s f low once y =
    let clean = record (place_at s f) { dirty = false } in
    let same : has_sector (cleaned s f) f y ≡ has_sector s f y = rw (changed_used s f clean refl, changed_at s f clean refl low) in
    rw (same, cleaned_dirty s f low once y) (elim (cases_Bool (eqb y (place_at s f).sector)) [
      | inl e ↦ rw (e, lt-ltb f (used s) low) (sym (and_right (is_dirty s y) _ refl))
      | inr e ↦ rw e
    ])
