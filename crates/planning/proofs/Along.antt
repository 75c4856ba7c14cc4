-- MIN's pass over the touches, one after another.
use Rattle.std.proofs.Common.{◌≡◌, ℕ, zero, suc, ◌+◌, ◌<◌, ◌≤◌, min, max, Bool, true, false, cond, eqb}
use Rattle.std.proofs.Common.{ltb, List, [], ◌∷◌, ◌++◌, length, get_or, take, drop, set, Some, None}
use Rattle.std.proofs.Common.{sym, refl, ap, ◌∙◌, subst, inl, inr, append_assoc, zero-add, add-one, arith}
use Rattle.std.proofs.lemmas.Bool.Decides.{nat_tests}
use Rattle.std.proofs.lemmas.Bool.{cases_Bool, cases_eq, cases_lt, lt-ltb, le-ltb, ltb-true, ltb-false, ne_eqb}
use Rattle.std.proofs.lemmas.Option.{cond_some}
use Rattle.std.proofs.lemmas.List.{length_push, length-set, get_or_push, get_or_append_left}
use Rattle.std.proofs.lemmas.List.{get_or-set_same, get_or-set_other, drop_more, take_more_set}
use Rattle.std.proofs.lemmas.List.{at_drop_more, at_drop_all, append-nil, drop-drop, drop-set-lt, take-append-drop}
use Rattle.base.specs.Lists.{member, place_in, Apart}
use Rattle.policy.specs.Machine.{put}
use Rattle.policy.specs.Members.{place_within, index_place, apart_push, apart_set, member_index}
use Rattle.index.specs.Maps.{Map, empty}
use Rattle.planning.specs.Frames.{Shows, Room}
use Rattle.planning.specs.Minimum.{furthest, min_frame, min_keys, min_serves, min_fetches}
use Rattle.planning.specs.Chosen.{LowestFurthest, Chosen, NextTouch, next_of}
use Rattle.planning.proofs.Replays.{found_none}
use Rattle.planning.proofs.Furthest.{furthest_lowest, furthest_lt, lowest_one}

-- the keys that MIN holds after i touches
abbrev pub min_after : ℕ → List ℕ → List ℕ → ℕ → List ℕ
min_after h ks xs zero = ks
min_after h ks [] (suc i) = ks
min_after h ks (x ∷ xs) (suc i) = min_after h (min_keys h ks x xs) xs i

-- one touch more
after_suc : (h : ℕ) (ks xs : List ℕ) (i : ℕ) → i < length xs →
    min_after h ks xs (suc i) ≡ min_keys h (min_after h ks xs i) (get_or xs i 0) (drop (suc i) xs)
after_suc h ks [] i l = absurd (omega arith)
after_suc h ks (x ∷ xs) zero l = refl
after_suc h ks (x ∷ xs) (suc i) l = after_suc h (min_keys h ks x xs) xs i (omega arith)

pub after_more : (h : ℕ) (ks xs : List ℕ) (i : ℕ) → i < length xs →
    min_after h ks xs (i + 1) ≡ min_keys h (min_after h ks xs i) (get_or xs i 0) (drop (i + 1) xs)
after_more h ks xs i l = rw add-one (after_suc h ks xs i l)

-- different keys: each stands where it is found
place_of : (ks : List ℕ) (g : ℕ) → Apart ks → g < length ks → place_in (get_or ks g 0) ks ≡ g
place_of [] g p l = absurd (omega arith)
place_of (y ∷ ys) zero p l = grind (arith, nat_tests)
place_of (y ∷ ys) (suc g) p l =
    let ih = place_of ys g p.1 (omega arith) in
    let m = member_index ys g (omega arith) in
    let ne : eqb (get_or ys g 0) y ≡ false = ne_eqb (get_or ys g 0) y (λ e. let w : member y ys ≡ true = rw (sym e) m in grind arith) in
    rw ne (ap suc ih)

-- a touch of another key comes one place later
again_later : (y x i : ℕ) (rest : List ℕ) → eqb y x ≡ false → i + place_in y (x ∷ rest) ≡ i + 1 + place_in y rest
again_later y x i rest e = rw e (omega arith)

-- What holds before touch i: the lists so far, and for each filled frame where its key is touched again.
pub record Along (h : ℕ) (xs next hs : List ℕ) (index : Map) (out : List ℕ) (n i : ℕ) : Type 0 where
  pub serves : min_serves h [] xs ≡ take i out ++ min_serves h (min_after h [] xs i) (drop i xs)
  pub fetched : min_fetches h [] xs ≡ n + min_fetches h (min_after h [] xs i) (drop i xs)
  pub shows : Shows xs hs index (min_after h [] xs i)
  pub apart : Apart (min_after h [] xs i)
  pub few : length (min_after h [] xs i) ≤ h
  pub counted : n ≤ i
  pub again : (f : ℕ) → f < length (min_after h [] xs i) → next_of next hs f ≡ i + place_in (get_or (min_after h [] xs i) f 0) (drop i xs)

module _ (h : ℕ) (xs next hs : List ℕ) (index : Map) (out : List ℕ) (n i : ℕ) (a : Along h xs next hs index out n i)
    (low : i < length xs) (nexts : NextTouch xs next i) where
  -- the touch at i, the keys held before it, and the touches behind it
  abbrev x : ℕ
  x = get_or xs i 0

  abbrev ks : List ℕ
  ks = min_after h [] xs i

  abbrev rest : List ℕ
  rest = drop (i + 1) xs

  -- a frame whose key is another is touched again one place later
  others : (f : ℕ) → f < length ks → eqb (get_or ks f 0) x ≡ false → next_of next hs f ≡ i + 1 + place_in (get_or ks f 0) rest
  others f l ne = a.again f l ∙ ap (λ w. i + place_in (get_or ks f 0) w) (drop_more xs i 0 low) ∙ again_later (get_or ks f 0) x i rest ne

  -- the frame that MIN empties is the one that the next touches show
  pub chosen : (f : ℕ) → member x ks ≡ false → 1 ≤ length ks → LowestFurthest (length ks) (next_of next hs) f → f ≡ furthest ks rest
  chosen f new some p =
      let other : (g : ℕ) → g < length ks → next_of next hs g ≡ i + 1 + place_in (get_or ks g 0) rest =
      λ g l. others g l (ne_eqb (get_or ks g 0) x (λ e. let m : member x ks ≡ true = rw (sym e) (member_index ks g l) in grind arith)) in
      lowest_one (length ks) (λ g. place_in (get_or ks g 0) rest) f (furthest ks rest)
      (record {
        within = p.within;
        most = λ g l. omega (arith, p.most g l, other g l, other f p.within);
        first = λ g l. omega (arith, p.first g l, other g (omega (arith, p.within)), other f p.within);
      })
      (furthest_lowest ks rest some)

  -- what the lists owe, with the touch at i opened
  opened_serves : min_serves h ks (drop i xs) ≡ min_frame h ks x rest ∷ min_serves h (min_keys h ks x rest) rest
  opened_serves = at_drop_more (min_serves h ks) xs i 0 low

  opened_fetches : min_fetches h ks (drop i xs) ≡ cond (member x ks) 0 1 + min_fetches h (min_keys h ks x rest) rest
  opened_fetches = at_drop_more (min_fetches h ks) xs i 0 low

  -- frame f serves the touch, and every other frame stays as it was
  along_step : (f : ℕ) (index' : Map) → f ≡ min_frame h ks x rest → i < length out → f < length hs →
      Shows xs (set hs f i) index' (min_keys h ks x rest) → Apart (min_keys h ks x rest) → length (min_keys h ks x rest) ≤ h →
      get_or (min_keys h ks x rest) f 0 ≡ x →
      ((g : ℕ) → g < length (min_keys h ks x rest) → (g ≡ f → ⊥) → (g < length ks) × (get_or (min_keys h ks x rest) g 0 ≡ get_or ks g 0) ×
      (eqb (get_or ks g 0) x ≡ false)) →
      Along h xs next (set hs f i) index' (set out i f) (n + cond (member x ks) 0 1) (i + 1)
  along_step f index' ef room wide sh ap' few' here there =
      let ks' = min_keys h ks x rest in
      let e : min_after h [] xs (i + 1) ≡ ks' = after_more h [] xs i low in
      record {
        serves = rw (e, take_more_set out i f room, append_assoc (take i out) (f ∷ []) (min_serves h ks' rest), ef)
            (a.serves ∙ ap (λ w. take i out ++ w) opened_serves);
        fetched = rw e (omega (arith, a.fetched, opened_fetches));
        shows = rw e sh;
        apart = rw e ap';
        few = rw e few';
        counted = omega (arith, a.counted, one_more (member x ks));
        again = rw e (λ g l. elim (cases_eq g f) [
          | inl q ↦ rw (q, get_or-set_same hs f i 0 wide, here) nexts
          | inr q ↦ let t = there g l q in rw (get_or-set_other hs f g i 0 q, t.1) (others g t.0 t.2)
        ]);
      }
    where
      one_more : (b : Bool) → cond b 0 1 ≤ 1
      one_more true = omega arith
      one_more false = omega arith

  found_frame : (f : ℕ) → index.at x ≡ Some f → (member x ks ≡ true) × (f ≡ place_in x ks)
  found_frame f e = let q = cond_some (member x ks) _ f (sym (a.shows.found x) ∙ e) in (q.0, sym q.1)

  pub found_low : (f : ℕ) → index.at x ≡ Some f → f < length ks
  found_low f e = let q = found_frame f e in rw q.1 (place_within x ks q.0)

  -- a hit: the frame's key has a later touch now
  pub along_hit : (f : ℕ) → index.at x ≡ Some f → i < length out → h ≤ length hs →
      Along h xs next (set hs f i) index (set out i f) n (i + 1)
  along_hit f e room wide =
      let q = found_frame f e in
      let l = found_low f e in
      let same : min_keys h ks x rest ≡ ks = rw q.0 in
      let at_f : get_or ks f 0 ≡ x = rw q.1 (index_place x ks q.0) in
      let step = along_step f index (rw q.0 q.1) room (omega (arith, a.few)) (rw same (record {
        found = a.shows.found;
        sized = a.shows.sized;
        placed = λ g k. elim (cases_eq g f) [
          | inl w ↦ rw (w, get_or-set_same hs f i 0 (omega (arith, a.few))) low
          | inr w ↦ rw (get_or-set_other hs f g i 0 w) (a.shows.placed g k)
        ];
        holds = λ g k. elim (cases_eq g f) [
          | inl w ↦ rw (w, get_or-set_same hs f i 0 (omega (arith, a.few))) (sym at_f)
          | inr w ↦ rw (get_or-set_other hs f g i 0 w) (a.shows.holds g k)
        ];
      })) (rw same a.apart) (rw same a.few) (rw same at_f)
      (rw same (λ g k w. (
        k,
        refl,
        ne_eqb (get_or ks g 0) x
            (λ z. w (sym (place_of ks g a.apart k) ∙ ap (λ y. place_in y ks) z ∙ sym q.1)),
      ))) in
      let none : n + cond (member x ks) 0 1 ≡ n = rw q.0 (omega arith) in
      rw none at step

  -- a fetch into the next frame, or into the one that MIN empties
  pub along_fetch : (f : ℕ) (index' : Map) → member x ks ≡ false → f ≡ cond (ltb (length ks) h) (length ks) (furthest ks rest) → 1 ≤ h →
      i < length out → h ≤ length hs → Shows xs (set hs f i) index' (put ks f x) →
      Along h xs next (set hs f i) index' (set out i f) (n + 1) (i + 1)
  along_fetch f index' new ef some room wide sh = elim (cases_Bool (ltb (length ks) h)) [
    | inl r ↦
        let low' = ltb-true (length ks) h r in
        let f-is : f ≡ length ks = rw r at ef in
        let keys' : min_keys h ks x rest ≡ ks ++ (x ∷ []) = rw (new, r) in
        let put' : put ks f x ≡ ks ++ (x ∷ []) = rw (le-ltb f (length ks) (omega arith)) in
        let long = length_push ks x in
        done_fetch (along_step f index' (rw (new, r) f-is) room (omega arith) (rw (keys', ← put') sh)
        (rw keys' (apart_push ks x a.apart new)) (rw keys' (omega arith))
        (rw keys' (get_or_push ks x 0 f (sym f-is)))
        (rw keys' (λ g k w. let l : g < length ks = omega arith in (l, get_or_append_left ks (x ∷ []) 0 g l, fresh g l))))
    | inr r ↦
        let full = ltb-false (length ks) h r in
        let f-is : f ≡ furthest ks rest = rw r at ef in
        let l : f < length ks = rw f-is (furthest_lt ks rest (omega arith)) in
        let keys' : min_keys h ks x rest ≡ set ks f x = rw (new, r, f-is) in
        let put' : put ks f x ≡ set ks f x = rw (lt-ltb f (length ks) l) in
        let long = length-set ks f x in
        done_fetch (along_step f index' (rw (new, r) f-is) room (omega (arith, a.few)) (rw (keys', ← put') sh)
        (rw keys' (apart_set ks f x a.apart new)) (rw keys' (omega (arith, a.few)))
        (rw keys' (get_or-set_same ks f x 0 l))
        (rw keys' (λ g k w. let m : g < length ks = omega arith in (m, get_or-set_other ks f g x 0 w, fresh g m))))
  ]
    where
      fresh : (g : ℕ) → g < length ks → eqb (get_or ks g 0) x ≡ false
      fresh g l = ne_eqb (get_or ks g 0) x (λ e. let m : member x ks ≡ true = rw (sym e) (member_index ks g l) in grind arith)

      done_fetch : Along h xs next (set hs f i) index' (set out i f) (n + cond (member x ks) 0 1) (i + 1) →
          Along h xs next (set hs f i) index' (set out i f) (n + 1) (i + 1)
      done_fetch step = rw new at step

-- What holds before touch i, with the frames counted and the places behind as they were.
pub record Serving-along (h : ℕ) (xs next hs : List ℕ) (index : Map) (places : ℕ) (before out : List ℕ) (n filled i : ℕ) : Type 0 where
  pub along : Along h xs next hs index out n i
  pub filled_is : filled ≡ length (min_after h [] xs i)
  pub slots : index.places ≡ places
  pub rest : drop i out ≡ drop i before
  pub held_few : filled ≤ i

pub serving_none : (h : ℕ) (xs next hs : List ℕ) (index : Map) (places : ℕ) (out : List ℕ) → index ≡ empty places →
    Serving-along h xs next hs index places out out 0 0 0
serving_none h xs next hs index places out e = record {
  along = record {
    serves = refl;
    fetched = sym (zero-add _);
    shows = rw e (record { found = λ y. refl; sized = refl; placed = λ f l. absurd (omega arith); holds = λ f l. absurd (omega arith) });
    apart = tt;
    few = omega arith;
    counted = omega arith;
    again = λ f l. absurd (omega arith);
  };
  filled_is = refl;
  slots = rw e;
  rest = refl;
  held_few = omega arith;
}

-- What every way of serving touch i needs: what holds before it, where its key is touched next, slots enough and places to write to.
pub record Turn (h : ℕ) (xs next hs : List ℕ) (index : Map) (places : ℕ) (before out : List ℕ) (n filled i : ℕ) : Type 0 where
  pub state : Serving-along h xs next hs index places before out n filled i
  pub low : i < length xs
  pub nexts : NextTouch xs next i
  pub some : 1 ≤ h
  pub slots : min (length xs) (h + 1) ≤ places
  pub room : i < length out
  pub wide : h ≤ length hs

module _ {h : ℕ} {xs next hs : List ℕ} {index : Map} {places : ℕ} {before out : List ℕ} {n filled i : ℕ}
    (t : Turn h xs next hs index places before out n filled i) where
  abbrev s : Serving-along h xs next hs index places before out n filled i
  s = t.state

  abbrev held : List ℕ
  held = min_after h [] xs i

  abbrev y : ℕ
  y = get_or xs i 0

  pub serving_low : (f : ℕ) → index.at y ≡ Some f → f < h
  serving_low f e = omega (arith, found_low h xs next hs index out n i s.along t.low t.nexts f e, s.along.few)

  behind : drop (i + 1) out ≡ drop (i + 1) before
  behind = sym (drop-drop 1 i out) ∙ ap (drop 1) s.rest ∙ drop-drop 1 i before

  pub serving_hit : (f : ℕ) → index.at y ≡ Some f → Serving-along h xs next (set hs f i) index places before (set out i f) n filled (i + 1)
  serving_hit f e =
      let q = found_frame h xs next hs index out n i s.along t.low t.nexts f e in
      let same : min_after h [] xs (i + 1) ≡ held = after_more h [] xs i t.low ∙ rw q.0 in
      record {
        along = along_hit h xs next hs index out n i s.along t.low t.nexts f e t.room t.wide;
        filled_is = rw same s.filled_is;
        slots = s.slots;
        rest = drop-set-lt (i + 1) out i f (omega arith) ∙ behind;
        held_few = omega (arith, s.held_few);
      }

  -- a key that is not found is new
  absent : index.at y ≡ None → member y held ≡ false
  absent e = found_none index held y (s.along.shows.found y) e

  -- the frame that is chosen is MIN's
  pub chosen_frame : (f : ℕ) → index.at y ≡ None → Chosen filled h (next_of next hs) f →
      f ≡ cond (ltb (length held) h) (length held) (furthest held (drop (i + 1) xs))
  chosen_frame f e p = elim (cases_lt (length held) h) [
    | inl l ↦ rw (lt-ltb (length held) h l) (p.room (omega (arith, s.filled_is)) ∙ s.filled_is)
    | inr l ↦
        let full : h ≡ length held = omega (arith, s.along.few) in
        let lowest = subst (λ m. LowestFurthest m (next_of next hs) f) full (p.full (omega (arith, s.filled_is))) in
        rw (le-ltb (length held) h l) (chosen h xs next hs index out n i s.along t.low t.nexts f (absent e) (omega arith) lowest)
  ]

  pub chosen_low : (f : ℕ) → Chosen filled h (next_of next hs) f → (f < h) × (f ≤ filled)
  chosen_low f p = elim (cases_lt filled h) [
    | inl l ↦ (omega (arith, p.room l), omega (arith, p.room l))
    | inr l ↦ ((p.full l).within, omega (arith, (p.full l).within))
  ]

  pub serving_room : (f : ℕ) → index.at y ≡ None → Chosen filled h (next_of next hs) f → Room xs hs index held f filled i
  serving_room f e p = record {
    shows = s.along.shows;
    apart = s.along.apart;
    new = absent e;
    counted = s.filled_is;
    within = (chosen_low f p).1;
    free = rw s.slots (omega (arith, s.filled_is, s.along.few, s.held_few, t.low, t.slots));
  }

  pub serving_fetch : (f : ℕ) (hs' : List ℕ) (index' : Map) → index.at y ≡ None → Chosen filled h (next_of next hs) f → hs' ≡ set hs f i →
      Shows xs hs' index' (put held f y) → index'.places ≡ index.places →
      Serving-along h xs next hs' index' places before (set out i f) (n + 1) (max filled (f + 1)) (i + 1)
  serving_fetch f hs' index' e p eh sh ep =
      let ef = chosen_frame f e p in
      rw eh (record {
        along = along_fetch h xs next hs index out n i s.along t.low t.nexts f index' (absent e) ef t.some t.room t.wide (rw eh at sh);
        filled_is = rw (after_more h [] xs i t.low, absent e) (elim (cases_lt (length held) h) [
          | inl l ↦ rw (lt-ltb (length held) h l, length_push) (omega (arith, s.filled_is, p.room (omega (arith, s.filled_is))))
          | inr l ↦ rw (le-ltb (length held) h l, length-set) (omega (arith, s.filled_is, (p.full (omega (arith, s.filled_is))).within))
        ]);
        slots = ep ∙ s.slots;
        rest = drop-set-lt (i + 1) out i f (omega arith) ∙ behind;
        held_few = omega (arith, s.held_few, (chosen_low f p).1);
      })

pub serving_all : (h : ℕ) (xs next hs : List ℕ) (index : Map) (places : ℕ) (before out : List ℕ) (n filled i : ℕ) →
    Serving-along h xs next hs index places before out n filled i →
    length xs ≡ i → i ≤ length out → (n ≡ min_fetches h [] xs) × (out ≡ min_serves h [] xs ++ drop i before)
serving_all h xs next hs index places before out n filled i s e l =
    let ks = min_after h [] xs i in
    let none : min_fetches h ks (drop i xs) ≡ 0 = at_drop_all (min_fetches h ks) xs i (omega arith) in
    let end : min_serves h ks (drop i xs) ≡ [] = at_drop_all (min_serves h ks) xs i (omega arith) in
    let front : min_serves h [] xs ≡ take i out = s.along.serves ∙ ap (λ w. take i out ++ w) end ∙ append-nil (take i out) in (
      omega (arith, s.along.fetched, none),
      sym (take-append-drop i out) ∙ ap (λ w. w ++ drop i out) (sym front) ∙
          ap (λ w. min_serves h [] xs ++ w) s.rest,
    )
