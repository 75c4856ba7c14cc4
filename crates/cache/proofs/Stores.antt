-- Stores: what they show, and what holds of them after each change.
use Rattle.std.proofs.Common.{◌≡◌, ℕ, ◌+◌, ◌<◌, ◌≤◌, Bool, true, false, cond, ltb, ◌≢◌, ◌⊎◌, List, [], ◌∷◌, length, get_or, sym, refl, ap}
use Rattle.std.proofs.Common.{◌∙◌, inl, inr, arith}
use mathlib.Core.Path.{fun_ext}
use Rattle.std.proofs.lemmas.Bool.{cases_Bool, cases_eq, cases_lt, eq-eqb, ne_eqb, lt-ltb, le-ltb, true≢false}
use Rattle.std.proofs.lemmas.List.{length-map, length-append, get_or-map, get_or_at, get_or_append_left, get_or-set_same, get_or-set_other}
use Rattle.std.proofs.lemmas.List.{length-set, map-set, map_push}
use Rattle.std.proofs.Math.Seq.{map-set_same}
use Rattle.base.specs.Lists.{member, place_in}
use Rattle.policy.specs.Machine.{put}
use Rattle.policy.specs.Members.{member_index, place_within, index_place}
use Rattle.disk.specs.Meaning.{replaced}
use Rattle.cache.specs.declared.store.Place.{Place}
use Rattle.cache.specs.declared.store.Store.{Store}
use Rattle.cache.specs.Places.{HeldOnce, used, place_at, clean_place, held, changed, stored, cleaned, installed}
use Rattle.cache.specs.View.{Holding, shown}

-- no place of a store holds a sector
abbrev pub Absent : Store → ℕ → Type 0
Absent s x = (i : ℕ) → i < used s → (place_at s i).sector ≡ x → ⊥

-- a place of it does
abbrev pub HeldAt : Store → ℕ → ℕ → Type 0
HeldAt s x i = (i < used s) × ((place_at s i).sector ≡ x)

-- what a place that no code reads would be
abbrev pub blank : Place
blank = clean_place 0 []

module _ (s : Store) where
  -- the list of the sectors held, by places
  pub held_length : length (held s) ≡ used s
  held_length = length-map s.places.items (λ (p : Place). p.sector)

  pub held_at : (i : ℕ) → i < used s → get_or (held s) i 0 ≡ (place_at s i).sector
  held_at i h = get_or-map (λ (p : Place). p.sector) s.places.items i blank 0 h

  -- a sector that is a member of the list is held at its place
  pub at_place : (x : ℕ) → member x (held s) ≡ true → HeldAt s x (place_in x (held s))
  at_place x h =
      let b : place_in x (held s) < used s = rw held_length at (place_within x (held s) h) in
      (b, sym (held_at (place_in x (held s)) b) ∙ index_place x (held s) h)

  pub member_from : (x i : ℕ) → HeldAt s x i → member x (held s) ≡ true
  member_from x i h = rw (held_at i h.0 ∙ h.1) at (member_index (held s) i (rw held_length h.0))

  pub absent_from : (x : ℕ) → member x (held s) ≡ false → Absent s x
  absent_from x h i b e = true≢false (sym (member_from x i (b, e)) ∙ h)

  pub cases_held : (x : ℕ) → ((i : ℕ) × HeldAt s x i) ⊎ Absent s x
  cases_held x = elim (cases_Bool (member x (held s)))
      [ inl e ↦ inl (place_in x (held s), at_place x e) | inr e ↦ inr (absent_from x e) ]

  pub not_member : (x : ℕ) → Absent s x → member x (held s) ≡ false
  not_member x none = elim (cases_Bool (member x (held s)))
      [ inl e ↦ let p = at_place x e in absurd (none (place_in x (held s)) p.0 p.1) | inr e ↦ e ]

  -- what is shown of a sector that no place holds
  pub shown_absent : (bytes : ℕ → List ℕ) (x : ℕ) → Absent s x → shown s bytes x ≡ bytes x
  shown_absent bytes x none = rw (not_member x none)

  module _ {count : ℕ} {dead : ℕ → Bool} {bytes : ℕ → List ℕ} (h : Holding count dead bytes s) where
    -- what is shown of one that place i holds
    pub place_is : (x i : ℕ) → HeldAt s x i → place_in x (held s) ≡ i
    place_is x i at =
        let p = at_place x (member_from x i at) in h.apart (place_in x (held s)) i p.0 at.0 (p.1 ∙ sym at.1)

    pub shown_held : (other : ℕ → List ℕ) (x i : ℕ) → HeldAt s x i → shown s other x ≡ (place_at s i).block
    shown_held other x i at = rw (member_from x i at, place_is x i at)

-- a function with one value replaced, at that place and elsewhere
pub replaced_at : {X : Type 0} (g : ℕ → X) (a x : ℕ) (w : X) → x ≡ a → replaced g a w x ≡ w
replaced_at g a x w e = rw (eq-eqb x a e)

pub replaced_other : {X : Type 0} (g : ℕ → X) (a x : ℕ) (w : X) → (x ≡ a → ⊥) → replaced g a w x ≡ g x
replaced_other g a x w n = rw (ne_eqb x a n)

pub replaced_same : {X : Type 0} (g : ℕ → X) (a : ℕ) (w : X) → g a ≡ w → replaced g a w ≡ g
replaced_same g a w e =
    fun_ext (λ x. elim (cases_eq x a) [ inl k ↦ replaced_at g a x w k ∙ sym (ap g k ∙ e) | inr n ↦ replaced_other g a x w n ])

-- a place f in use changed to p, which has the same sector
module _ (s : Store) (f : ℕ) (p : Place) (same : p.sector ≡ (place_at s f).sector) where
  pub changed_used : used (changed s f p) ≡ used s
  changed_used = length-set s.places.items f p

  pub changed_held : held (changed s f p) ≡ held s
  changed_held = map-set_same (λ (q : Place). q.sector) s.places.items f p blank same

  pub changed_other : (i : ℕ) → (i ≡ f → ⊥) → place_at (changed s f p) i ≡ place_at s i
  changed_other i n = get_or-set_other s.places.items f i p blank n

  module _ (low : f < used s) where
    pub changed_at : place_at (changed s f p) f ≡ p
    changed_at = get_or-set_same s.places.items f p blank low

    pub changed_sector : (i : ℕ) → (place_at (changed s f p) i).sector ≡ (place_at s i).sector
    changed_sector i = elim (cases_eq i f) [ inl e ↦ rw (e, changed_at) same | inr n ↦ rw (changed_other i n) ]

    pub changed_once : HeldOnce s → HeldOnce (changed s f p)
    changed_once once i j k l e = once i j (rw changed_used at k) (rw changed_used at l) (sym (changed_sector i) ∙ e ∙ changed_sector j)

    -- over bytes that may differ in the sector of f alone
    module _ {count : ℕ} {dead : ℕ → Bool} {bytes : ℕ → List ℕ} (h : Holding count dead bytes s) (bytes' : ℕ → List ℕ)
        (others : (x : ℕ) → (x ≡ (place_at s f).sector → ⊥) → bytes' x ≡ bytes x) where
      pub changed_holds : length p.block ≡ 512 → (p.dirty ≡ false → p.block ≡ bytes' p.sector) → Holding count dead bytes' (changed s f p)
      changed_holds long clean = record {
        apart = changed_once h.apart;
        inside = λ i k. rw (changed_sector i) (h.inside i (rw changed_used at k));
        live = λ i k. rw (changed_sector i) (h.live i (rw changed_used at k));
        sized = λ i k. elim (cases_eq i f)
            [ inl e ↦ rw (e, changed_at) long | inr n ↦ rw (changed_other i n) (h.sized i (rw changed_used at k)) ];
        clean = λ i k c. elim (cases_eq i f) [
          | inl e ↦ rw (e, changed_at) (clean (rw (e, changed_at) at c))
          | inr n ↦
              let k' : i < used s = rw changed_used at k in
              rw (changed_other i n) (h.clean i k' (rw (changed_other i n) at c) ∙ sym (others _ (λ e. n (h.apart i f k' low e))))
        ];
      }

      pub changed_shows : shown (changed s f p) bytes' ≡ replaced (shown s bytes) (place_at s f).sector p.block
      changed_shows = fun_ext (λ x. elim (cases_Bool (member x (held s))) [
        | inl e ↦ elim (cases_eq (place_in x (held s)) f) [
          | inl k ↦ rw (changed_held, e, k, changed_at, eq-eqb x (place_at s f).sector (sym (rw k at (at_place s x e).1)))
          | inr n ↦
              rw (
                changed_held,
                e,
                changed_other (place_in x (held s)) n,
                ne_eqb x (place_at s f).sector (λ k. n (place_is s h x f (low, sym k))),
              )
        ]
        | inr e ↦
            let other : x ≡ (place_at s f).sector → ⊥ = λ k. absent_from s x e f low (sym k) in
            rw (changed_held, e, ne_eqb x (place_at s f).sector other) (others x other)
      ])

-- a place marked clean, and one with the bytes of a buffer
module _ (s : Store) (f : ℕ) where
  pub cleaned_used : used (cleaned s f) ≡ used s
  cleaned_used = changed_used s f _ refl

  pub cleaned_held : held (cleaned s f) ≡ held s
  cleaned_held = changed_held s f _ refl

  pub cleaned_at : f < used s → (place_at (cleaned s f) f).dirty ≡ false
  cleaned_at low = ap (λ (p : Place). p.dirty) (changed_at s f _ refl low)

  pub cleaned_other : (i : ℕ) → (i ≡ f → ⊥) → place_at (cleaned s f) i ≡ place_at s i
  cleaned_other = changed_other s f _ refl

  pub stored_used : (b : List ℕ) → used (stored s f b) ≡ used s
  stored_used b = changed_used s f _ refl

  pub stored_held : (b : List ℕ) → held (stored s f b) ≡ held s
  stored_held b = changed_held s f _ refl

module _ {count : ℕ} {dead : ℕ → Bool} {bytes : ℕ → List ℕ} (s : Store) (h : Holding count dead bytes s) (f : ℕ) (low : f < used s) where
  -- a place written below and marked clean
  abbrev written : ℕ → List ℕ
  written = replaced bytes (place_at s f).sector (place_at s f).block

  abbrev clean_f : Place
  clean_f = clean_place (place_at s f).sector (place_at s f).block

  pub cleaned_holds : Holding count dead written (cleaned s f)
  cleaned_holds =
      changed_holds s f clean_f refl low h written (λ x n. replaced_other bytes _ x _ n) (h.sized f low)
      (λ _. sym (replaced_at bytes _ _ _ refl))

  pub cleaned_shows : shown (cleaned s f) written ≡ shown s bytes
  cleaned_shows =
      changed_shows s f clean_f refl low h written (λ x n. replaced_other bytes _ x _ n) ∙
      replaced_same (shown s bytes) _ _ (shown_held s h bytes _ f (low, refl))

  -- a place with the bytes of a buffer
  abbrev dirty_f : List ℕ → Place
  dirty_f b = record { sector = (place_at s f).sector; dirty = true; block = b }

  pub stored_holds : (b : List ℕ) → length b ≡ 512 → Holding count dead bytes (stored s f b)
  stored_holds b long = changed_holds s f (dirty_f b) refl low h bytes (λ x n. refl) long (λ c. absurd (true≢false c))

  pub stored_shows : (b : List ℕ) → shown (stored s f b) bytes ≡ replaced (shown s bytes) (place_at s f).sector b
  stored_shows b = changed_shows s f (dirty_f b) refl low h bytes (λ x n. refl)

-- a place in use, or the next, given to a sector x that no place holds, with the disk's bytes
module _ {count : ℕ} {dead : ℕ → Bool} {bytes : ℕ → List ℕ} (s : Store) (h : Holding count dead bytes s) (x f : ℕ) (none : Absent s x)
    (next : f ≤ used s) where
  abbrev new_place : Place
  new_place = clean_place x (bytes x)

  abbrev then_store : Store
  then_store = installed s f x (bytes x)

  -- the places in use then
  pub installed_used : used then_store ≡ cond (ltb f (used s)) (used s) (used s + 1)
  installed_used = elim (cases_lt f (used s)) [
    | inl k ↦ rw (lt-ltb f (used s) k) (length-set s.places.items f new_place)
    | inr k ↦ rw (le-ltb f (used s) k) (length-append s.places.items (new_place ∷ []))
  ]

  pub used_then : (i : ℕ) → i < used then_store → (i ≡ f → ⊥) → i < used s
  used_then i k n =
      let k' : i < cond (ltb f (used s)) (used s) (used s + 1) = rw installed_used at k in
      elim (cases_lt f (used s)) [
        | inl l ↦ rw (lt-ltb f (used s) l) at k'
        | inr l ↦ let q : i < used s + 1 = rw (le-ltb f (used s) l) at k' in let m : i ≢ f = n in omega arith
      ]

  pub used_f : f < used then_store
  used_f = rw installed_used (elim (cases_lt f (used s)) [
    | inl l ↦ rw (lt-ltb f (used s) l) l
    | inr l ↦ rw (le-ltb f (used s) l) (omega arith)
  ])

  pub still_used : (i : ℕ) → i < used s → i < used then_store
  still_used i k = rw installed_used (elim (cases_lt f (used s)) [
    | inl l ↦ rw (lt-ltb f (used s) l) k
    | inr l ↦ rw (le-ltb f (used s) l) (omega arith)
  ])

  -- what stands at f, and elsewhere
  pub new_at : place_at then_store f ≡ new_place
  new_at = elim (cases_lt f (used s)) [
    | inl k ↦ rw (lt-ltb f (used s) k) (get_or-set_same s.places.items f new_place blank k)
    | inr k ↦ rw (le-ltb f (used s) k) (get_or_at s.places.items new_place [] blank f (omega arith))
  ]

  pub new_other : (i : ℕ) → i < used s → (i ≡ f → ⊥) → place_at then_store i ≡ place_at s i
  new_other i l n = elim (cases_lt f (used s)) [
    | inl k ↦ rw (lt-ltb f (used s) k) (get_or-set_other s.places.items f i new_place blank n)
    | inr k ↦ rw (le-ltb f (used s) k) (get_or_append_left s.places.items (new_place ∷ []) blank i l)
  ]

  pub sector_f : (place_at then_store f).sector ≡ x
  sector_f = ap (λ (p : Place). p.sector) new_at

  -- a property of places that the new one has, and what was held
  pub each_then : (P : Place → Type 0) → P new_place → ((i : ℕ) → i < used s → P (place_at s i)) → (i : ℕ) → i < used then_store →
      P (place_at then_store i)
  each_then P new old i k = elim (cases_eq i f) [
    | inl e ↦ rw (e, new_at) new
    | inr n ↦ let l = used_then i k n in rw (new_other i l n) (old i l)
  ]

  -- a place that holds what one of before held
  pub sector_other : (i : ℕ) → i < used then_store → (i ≡ f → ⊥) → (place_at then_store i).sector ≡ (place_at s i).sector
  sector_other i k n = ap (λ (p : Place). p.sector) (new_other i (used_then i k n) n)

  pub sector_at_f : (i : ℕ) → i ≡ f → (place_at then_store i).sector ≡ x
  sector_at_f i e = rw e sector_f

  pub installed_holds : x < count → dead x ≡ false → length (bytes x) ≡ 512 → Holding count dead bytes then_store
  installed_holds inside live sized = record {
    apart = λ i j k l e. elim (cases_eq i f) [
      | inl p ↦ elim (cases_eq j f) [
        | inl q ↦ p ∙ sym q
        | inr n ↦ absurd (none j (used_then j l n) (sym (sector_other j l n) ∙ sym e ∙ sector_at_f i p))
      ]
      | inr m ↦ elim (cases_eq j f) [
        | inl q ↦ absurd (none i (used_then i k m) (sym (sector_other i k m) ∙ e ∙ sector_at_f j q))
        | inr n ↦ h.apart i j (used_then i k m) (used_then j l n) (sym (sector_other i k m) ∙ e ∙ sector_other j l n)
      ]
    ];
    inside = each_then (λ p. p.sector < count) inside h.inside;
    live = each_then (λ p. dead p.sector ≡ false) live h.live;
    sized = each_then (λ p. length p.block ≡ 512) sized h.sized;
    clean = each_then (λ p. p.dirty ≡ false → p.block ≡ bytes p.sector) (λ _. refl) h.clean;
  }

  -- a sector that another place holds is held there still, what place f held is held no more, and what was not held is not, but for x
  pub held_then : (y i : ℕ) → HeldAt s y i → (i ≡ f → ⊥) → HeldAt then_store y i
  held_then y i at n = (still_used i at.0, ap (λ (q : Place). q.sector) (new_other i at.0 n) ∙ at.1)

  pub gone_then : (y i : ℕ) → HeldAt s y i → i ≡ f → Absent then_store y
  gone_then y i at e j k q = elim (cases_eq j f) [
    | inl p ↦ none i at.0 (at.1 ∙ sym q ∙ sector_at_f j p)
    | inr n ↦ n (h.apart j i (used_then j k n) at.0 (sym (sector_other j k n) ∙ q ∙ sym at.1) ∙ e)
  ]

  pub absent_then : (y : ℕ) → Absent s y → (y ≡ x → ⊥) → Absent then_store y
  absent_then y a n i k e = elim (cases_eq i f) [
    | inl q ↦ n (sym e ∙ sector_at_f i q)
    | inr m ↦ a i (used_then i k m) (sym (sector_other i k m) ∙ e)
  ]

  -- where the place was clean, nothing that is shown changes
  pub installed_shows : (f < used s → (place_at s f).dirty ≡ false) → Holding count dead bytes then_store →
      shown then_store bytes ≡ shown s bytes
  installed_shows clean h' = fun_ext (λ y. elim (cases_held s y) [
    | inl p ↦ elim (cases_eq p.0 f) [
      | inl e ↦ shown_absent then_store bytes y (gone_then y p.0 p.1 e) ∙
          sym (shown_held s h bytes y p.0 p.1 ∙ h.clean p.0 p.1.0 (rw e (clean (rw e at p.1.0))) ∙ ap bytes p.1.1)
      | inr n ↦
          shown_held then_store h' bytes y p.0 (held_then y p.0 p.1 n) ∙ ap (λ (q : Place). q.block) (new_other p.0 p.1.0 n) ∙
          sym (shown_held s h bytes y p.0 p.1)
    ]
    | inr a ↦ elim (cases_eq y x) [
      | inl e ↦
          shown_held then_store h' bytes y f (used_f, sector_f ∙ sym e) ∙ ap (λ (q : Place). q.block) new_at ∙ ap bytes (sym e) ∙
          sym (shown_absent s bytes y a)
      | inr n ↦ shown_absent then_store bytes y (absent_then y a n) ∙ sym (shown_absent s bytes y a)
    ]
  ])

  -- the list of the sectors held then
  pub installed_held : held then_store ≡ put (held s) f x
  installed_held = elim (cases_lt f (used s)) [
    | inl k ↦ rw (held_length s, lt-ltb f (used s) k) (map-set (λ (p : Place). p.sector) s.places.items f new_place)
    | inr k ↦ rw (held_length s, le-ltb f (used s) k) (map_push (λ (p : Place). p.sector) s.places.items new_place)
  ]
