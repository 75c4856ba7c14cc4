-- Which frame holds a key, once a frame holds another.
use Rattle.std.proofs.Common.{◌≡◌, ℕ, zero, suc, ◌<◌, ◌≤◌, true, false, cond, eqb, ltb, List, [], ◌∷◌, ◌++◌, map}
use Rattle.std.proofs.Common.{length, get_or, take, set, is_some, Option, Some, None, Ok, Result, sym, refl, ap, ◌∙◌, inl, inr, arith}
use Rattle.base.specs.declared.refusal.Refusal.{Refusal}
use Rattle.std.proofs.lemmas.Bool.Decides.{nat_tests}
use Rattle.std.proofs.lemmas.Bool.{cases_Bool, cases_eq, cases_lt, lt-ltb, le-ltb, ne_eqb, or_right}
use Rattle.std.proofs.lemmas.List.{ext_get_or, get_or-map, get_or-take, length-map, length-take-le, length_push}
use Rattle.std.proofs.lemmas.List.{length-set, get_or_push, get_or_append_left, get_or-set_same, get_or-set_other}
use Rattle.base.specs.Lists.{member, found_in, Apart}
use Rattle.policy.specs.Machine.{put}
use Rattle.policy.specs.Members.{member_index}
use Rattle.index.specs.Slots.{map_of}
use Rattle.index.specs.Maps.{Map, with_number, after_remove, has, accepts, put_answer, after_put}
use Rattle.planning.specs.declared.held.HeldKeys.{HeldKeys}
use Rattle.planning.specs.Frames.{keys_at, Shows, Room, without_frame}
use Rattle.base.proofs.Codes.{code_at}

-- one frame more, with a new key
frame_push : (keys : List ℕ) (x y : ℕ) → member x keys ≡ false →
    found_in y (keys ++ (x ∷ [])) ≡ cond (eqb x y) (Some (length keys)) (found_in y keys)
frame_push [] x y e = grind (arith, nat_tests)
frame_push (z ∷ zs) x y e = let ih = frame_push zs x y in grind (arith, nat_tests)

-- a frame with a new key in place of its own
frame_set : (keys : List ℕ) (f x y : ℕ) → Apart keys → f < length keys → member x keys ≡ false →
    found_in y (set keys f x) ≡ cond (eqb x y) (Some f) (cond (eqb (get_or keys f 0) y) None (found_in y keys))
frame_set [] f x y a h e = absurd (omega arith)
frame_set (z ∷ zs) zero x y a h e = grind (arith, nat_tests)
frame_set (z ∷ zs) (suc f) x y a h e =
    let ih = frame_set zs f x y in
    let m = member_index zs f (omega arith) in
    let n : eqb z (get_or zs f 0) ≡ false = ne_eqb z (get_or zs f 0) (λ q. let w : member z zs ≡ true = rw q m in grind arith) in
    grind (arith, nat_tests)

-- a key that no frame holds has no number
absent : (index : Map) (keys : List ℕ) (x : ℕ) → index.at x ≡ found_in x keys → member x keys ≡ false → has index x ≡ false
absent index keys x e m = ap is_some e ∙ rw m

module _ (touches hs : List ℕ) (index : Map) (keys : List ℕ) (f place : ℕ) (q : Shows touches hs index keys)
    (fresh : member (get_or touches place 0) keys ≡ false) (inside : place < length touches) (room : f < length hs) where
  -- the next frame filled
  pub shows_fill : f ≡ length keys →
      Shows touches (set hs f place) (with_number index (get_or touches place 0) f) (keys ++ (get_or touches place 0 ∷ []))
  shows_fill last = record {
    found = λ y. rw (q.found y, frame_push keys (get_or touches place 0) y fresh, ← last);
    sized = rw (
      absent index keys (get_or touches place 0) (q.found (get_or touches place 0)) fresh,
      q.sized,
      length_push keys (get_or touches place 0),
    );
    placed = λ g l. elim (cases_eq g f) [
      | inl e ↦ rw (e, get_or-set_same hs f place 0 room) inside
      | inr n ↦ rw (get_or-set_other hs f g place 0 n) (q.placed g (omega (arith, length_push keys (get_or touches place 0))))
    ];
    holds = λ g l. elim (cases_eq g f) [
      | inl e ↦ rw (e, get_or-set_same hs f place 0 room, get_or_push keys (get_or touches place 0) 0 f (sym last))
      | inr n ↦
          let low : g < length keys = omega (arith, length_push keys (get_or touches place 0)) in
          rw (get_or-set_other hs f g place 0 n, get_or_append_left keys (get_or touches place 0 ∷ []) 0 g low) (q.holds g low)
    ];
  }

  -- a filled frame's key put out
  pub shows_swap : Apart keys → f < length keys →
      Shows touches (set hs f place) (with_number (after_remove index (get_or keys f 0)) (get_or touches place 0) f)
      (set keys f (get_or touches place 0))
  shows_swap apart low = record {
    found = λ y. rw (q.found y, frame_set keys f (get_or touches place 0) y apart low fresh);
    sized =
        let out : has index (get_or keys f 0) ≡ true = ap is_some (q.found (get_or keys f 0)) ∙ rw (member_index keys f low) in
        let new : has (after_remove index (get_or keys f 0)) (get_or touches place 0) ≡ false =
        elim (cases_Bool (eqb (get_or keys f 0) (get_or touches place 0))) [
          | inl e ↦ rw e
          | inr e ↦ rw e (absent index keys (get_or touches place 0) (q.found (get_or touches place 0)) fresh)
        ] in
        rw (new, out, length-set keys f (get_or touches place 0)) (omega (arith, q.sized));
    placed = λ g l. elim (cases_eq g f) [
      | inl e ↦ rw (e, get_or-set_same hs f place 0 room) inside
      | inr n ↦ rw (get_or-set_other hs f g place 0 n) (q.placed g (omega (arith, length-set keys f (get_or touches place 0))))
    ];
    holds = λ g l. elim (cases_eq g f) [
      | inl e ↦ rw (e, get_or-set_same hs f place 0 room, get_or-set_same keys f (get_or touches place 0) 0 low)
      | inr n ↦
          let g-low : g < length keys = omega (arith, length-set keys f (get_or touches place 0)) in
          rw (get_or-set_other hs f g place 0 n, get_or-set_other keys f g (get_or touches place 0) 0 n) (q.holds g g-low)
    ];
  }

-- a new key put into a frame: the index accepts it, and shows it
pub holds_new : (touches hs : List ℕ) (index : Map) (keys : List ℕ) (f filled place : ℕ) → Room touches hs index keys f filled place →
    place < length touches → f < length hs →
    (put_answer (without_frame touches hs index f filled) (get_or touches place 0) ≡ Ok tt) ×
    Shows touches (set hs f place) (after_put (without_frame touches hs index f filled) (get_or touches place 0) f)
    (put keys f (get_or touches place 0))
holds_new touches hs index keys f filled place q inside room = elim (cases_lt f filled) [
  | inl l ↦
      let low : f < length keys = omega (arith, q.counted) in
      let sh = shows_swap touches hs index keys f place q.shows q.new inside room q.apart low in
      let out : has index (get_or keys f 0) ≡ true = ap is_some (q.shows.found (get_or keys f 0)) ∙ rw (member_index keys f low) in
      let size : (after_remove index (get_or keys f 0)).size < index.places = rw out (omega (arith, q.free, q.shows.sized, q.counted)) in
      let take' : accepts (after_remove index (get_or keys f 0)) (get_or touches place 0) ≡ true = or_right _ _ (lt-ltb _ _ size) in
      rw (lt-ltb f filled l, q.shows.holds f low, take', lt-ltb f (length keys) low) (refl, sh)
  | inr l ↦
      let last : f ≡ length keys = omega (arith, q.counted, q.within) in
      let sh = shows_fill touches hs index keys f place q.shows q.new inside room last in
      let size : index.size < index.places = omega (arith, q.free, q.shows.sized, q.counted) in
      let take' : accepts index (get_or touches place 0) ≡ true = or_right _ _ (lt-ltb _ _ size) in
      rw (le-ltb f filled l, take', le-ltb f (length keys) (omega arith)) (refl, sh)
]

-- the same, as the calls of an index answer it
pub holds_by_calls : {K : Type 0} (code : K → ℕ) (keys : List K) (hs : List ℕ) (index out after : Map) (ks : List ℕ) (f filled place : ℕ)
    (key : K) (a : Result (Unit {0}) Refusal) →
    out ≡ without_frame (map code keys) hs index f filled → after ≡ after_put out (code key) f → a ≡ put_answer out (code key) →
    key ≡ get_or keys place key →
    place < length keys → f < length hs → Room (map code keys) hs index ks f filled place →
    (a ≡ Ok tt) × Shows (map code keys) (set hs f place) after (put ks f (get_or (map code keys) place 0))
holds_by_calls code keys hs index out after ks f filled place key a eo ea er ek inside room q =
    let xs = map code keys in
    let x = get_or xs place 0 in
    let ex = code_at code keys place key inside ek in
    let h = holds_new xs hs index ks f filled place q (rw length-map inside) room in (
      er ∙ ap (λ m. put_answer m (code key)) eo ∙ ap (put_answer (without_frame xs hs index f filled)) ex ∙ h.0,
      let e : after ≡ after_put (without_frame xs hs index f filled) x f =
          ea ∙ ap (λ m. after_put m (code key) f) eo ∙ ap (λ y. after_put (without_frame xs hs index f filled) y f) ex in
          rw e h.1,
    )

-- the frame that is found for an element of the list is found for the code at its place
pub frame_at : {K : Type 0} (code : K → ℕ) (frames : HeldKeys K) (keys : List K) (i : ℕ) (key : K) (found : Option ℕ) →
    i < length keys → key ≡ get_or keys i key → found ≡ (map_of code frames.index).at (code key) →
    (map_of code frames.index).at (get_or (map code keys) i 0) ≡ found
frame_at code frames keys i key found l is e = ap (map_of code frames.index).at (sym (code_at code keys i key l is)) ∙ sym e

-- a put and a removal leave the number of slots
pub places_put : (index : Map) (x f : ℕ) → (after_put index x f).places ≡ index.places
places_put index x f = elim (cases_Bool (accepts index x)) [ inl e ↦ rw e | inr e ↦ rw e ]

pub places_out : (touches hs : List ℕ) (index : Map) (f filled : ℕ) → (without_frame touches hs index f filled).places ≡ index.places
places_out touches hs index f filled = elim (cases_Bool (ltb f filled)) [ inl e ↦ rw e | inr e ↦ rw e ]

-- the held-key list has the keys that the index shows
shown_keys : (touches hs : List ℕ) (index : Map) (keys : List ℕ) (filled : ℕ) → Shows touches hs index keys → filled ≡ length keys →
    length keys ≤ length hs → keys_at touches hs filled ≡ keys
shown_keys touches hs index keys filled q e wide =
    let long : length (take filled hs) ≡ length keys = length-take-le filled hs (omega arith) ∙ e in
    ext_get_or 0 (keys_at touches hs filled) keys (length-map (take filled hs) (λ p. get_or touches p 0) ∙ long) (λ f l.
    let low : f < length keys = omega (arith, length-map (take filled hs) (λ p. get_or touches p 0)) in
    get_or-map (λ p. get_or touches p 0) (take filled hs) f 0 0 (omega arith) ∙
    ap (λ p. get_or touches p 0) (get_or-take filled hs f 0 (omega arith)) ∙ q.holds f low)

module _ (touches hs : List ℕ) (index : Map) (keys : List ℕ) (f filled place : ℕ) (q : Room touches hs index keys f filled place)
    (wide : length keys ≤ length hs) where
  pub room_shown : Room touches hs index (keys_at touches hs filled) f filled place
  room_shown = rw (shown_keys touches hs index keys filled q.shows q.counted wide) q

  pub shows_shown : (hs' : List ℕ) (index' : Map) (x : ℕ) → Shows touches hs' index' (put (keys_at touches hs filled) f x) →
      Shows touches hs' index' (put keys f x)
  shows_shown hs' index' x w = rw (shown_keys touches hs index keys filled q.shows q.counted wide) at w
