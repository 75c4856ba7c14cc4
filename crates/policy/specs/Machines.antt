-- The frame machine by rules that have the shape of a policy. Assumes nothing.
use Rattle.std.specs.Prelude.{◌≡◌, ℕ, ◌+◌, ◌<◌, ◌≤◌, true, false, cond, List, [], ◌∷◌, ◌++◌, length, slice_set, refl}
use Rattle.std.proofs.Common.{◌∙◌, inl, inr, arith}
use Rattle.std.proofs.lemmas.List.{length_push, length-set}
use Rattle.std.proofs.lemmas.Bool.{cases_lt, cond_both, lt-ltb, le-ltb}
use Rattle.base.specs.Lists.{member, place_in, Apart}
use Rattle.policy.specs.Machine.{Rules, Machine, put, start, hit, fetch, touch, touched, fetches}
use Rattle.policy.specs.Shape.{first, placed, used, Shape, Running}
use Rattle.policy.specs.Members.{place_within, apart_push, apart_set}

-- a key put into the next frame, and into a filled one
pub put_next : (keys : List ℕ) (f x : ℕ) → f ≡ length keys → put keys f x ≡ keys ++ (x ∷ [])
put_next keys f x e = rw (le-ltb f (length keys) (omega arith))

pub put_over : (keys : List ℕ) (f x : ℕ) → f < length keys → put keys f x ≡ slice_set keys f x
put_over keys f x l = rw (lt-ltb f (length keys) l)

pub put_apart : (keys : List ℕ) (f x : ℕ) → Apart keys → member x keys ≡ false → Apart (put keys f x)
put_apart keys f x a new =
    elim (cases_lt f (length keys)) [
      | inl l ↦ rw (lt-ltb f (length keys) l) (apart_set keys f x a new)
      | inr l ↦ rw (le-ltb f (length keys) l) (apart_push keys x a new)
    ]

module _ {Setting State : Type 0} (r : Rules Setting State) where
  -- one list of touches after another, and one more touch at the end
  pub touched_append : (m : Machine State) (xs ys : List ℕ) → touched r m (xs ++ ys) ≡ touched r (touched r m xs) ys
  touched_append m [] ys = refl
  touched_append m (x ∷ xs) ys = touched_append (touch r m x) xs ys

  pub fetches_append : (m : Machine State) (xs ys : List ℕ) → fetches r m (xs ++ ys) ≡ fetches r m xs + fetches r (touched r m xs) ys
  fetches_append m [] ys = omega arith
  fetches_append m (x ∷ xs) ys = omega (arith, fetches_append (touch r m x) xs ys)

  pub touched_push : (m : Machine State) (xs : List ℕ) (x : ℕ) → touched r m (xs ++ (x ∷ [])) ≡ touch r (touched r m xs) x
  touched_push m xs x = touched_append m xs (x ∷ [])

  pub fetches_push : (m : Machine State) (xs : List ℕ) (x : ℕ) →
      fetches r m (xs ++ (x ∷ [])) ≡ fetches r m xs + cond (member x (touched r m xs).keys) 0 1
  fetches_push m xs x = fetches_append m xs (x ∷ []) ∙ omega arith

  -- at most each touch is a fetch
  pub fetches_most : (m : Machine State) (xs : List ℕ) → fetches r m xs ≤ length xs
  fetches_most m [] = omega arith
  fetches_most m (x ∷ xs) =
      let rest = fetches_most (touch r m x) xs in
      let one : cond {A = ℕ} (member x m.keys) 0 1 ≤ 1 =
      cond_both (member x m.keys) 0 1 (λ n. n ≤ 1) (λ _. omega arith) (λ _. omega arith) in
      omega arith

module _ {Setting State : Type 0} {r : Rules Setting State} (shape : Shape r) {k : ℕ} where
  module _ (m : Machine State) (s : Running r k m) where
    -- no more keys are held than there are frames
    pub held_most : length m.keys ≤ k
    held_most = omega (arith, shape.within m.policy s.reached)

    -- where a fetch places its key: in the next frame while there is room, and afterwards in one of the frames
    pub place_room : length m.keys < k → r.place m.policy ≡ length m.keys
    place_room l = shape.room_place m.policy s.reached (omega arith) ∙ s.filled

    pub place_full : k ≤ length m.keys → r.place m.policy < length m.keys
    place_full l = let most = held_most in omega (arith, shape.full_place m.policy s.reached (omega arith))

    pub place_below : r.place m.policy < k
    place_below =
        let most = held_most in
        elim (cases_lt (length m.keys) k) [ inl l ↦ omega (arith, place_room l) | inr l ↦ omega (arith, place_full l) ]

    pub place_most : r.place m.policy ≤ length m.keys
    place_most = elim (cases_lt (length m.keys) k) [ inl l ↦ omega (arith, place_room l) | inr l ↦ omega (arith, place_full l) ]

    -- a held key's frame is filled
    pub hit_filled : (x : ℕ) → member x m.keys ≡ true → place_in x m.keys < r.filled m.policy
    hit_filled x e = omega (arith, place_within x m.keys e)

    -- a touch keeps the machine running
    pub running_hit : (x : ℕ) → member x m.keys ≡ true → Running r k (hit r m x)
    running_hit x e =
        let f = place_in x m.keys in
        let l = hit_filled x e in
        record {
          reached = used s.reached f l;
          frames = shape.used_frames m.policy s.reached f l ∙ s.frames;
          filled = shape.used_filled m.policy s.reached f l ∙ s.filled;
          apart = s.apart;
        }

    fetch_filled : (x : ℕ) → r.filled (r.placed m.policy) ≡ length (put m.keys (r.place m.policy) x)
    fetch_filled x =
        elim (cases_lt (length m.keys) k) [
          | inl l ↦
              rw (put_next m.keys (r.place m.policy) x (place_room l), length_push)
              (omega (arith, shape.room_filled m.policy s.reached (omega arith)))
          | inr l ↦
              let most = held_most in
              rw (put_over m.keys (r.place m.policy) x (place_full l), length-set)
              (shape.full_filled m.policy s.reached (omega arith) ∙ s.filled)
        ]

    pub running_fetch : (x : ℕ) → member x m.keys ≡ false → Running r k (fetch r m x)
    running_fetch x e = record {
      reached = placed s.reached;
      frames = shape.placed_frames m.policy s.reached ∙ s.frames;
      filled = fetch_filled x;
      apart = put_apart m.keys (r.place m.policy) x s.apart e;
    }

    pub running_touch : (x : ℕ) → Running r k (touch r m x)
    running_touch x = cond_both (member x m.keys) (hit r m x) (fetch r m x) (Running r k) (running_hit x) (running_fetch x)

  pub running_touched : (m : Machine State) → Running r k m → (xs : List ℕ) → Running r k (touched r m xs)
  running_touched m s [] = s
  running_touched m s (x ∷ xs) = running_touched (touch r m x) (running_touch m s x) xs

  -- a machine runs from its start on
  pub running_start : 1 ≤ k → (c : Setting) → Running r k (start r c k)
  running_start some c = record {
    reached = first c k some;
    frames = shape.first_frames c k some;
    filled = shape.first_filled c k some;
    apart = tt;
  }

  pub running : 1 ≤ k → (c : Setting) (xs : List ℕ) → Running r k (touched r (start r c k) xs)
  running some c xs = running_touched (start r c k) (running_start some c) xs
