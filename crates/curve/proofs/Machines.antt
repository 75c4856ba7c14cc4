-- LRU on k frames holds the k latest of the different keys touched.
use Rattle.std.proofs.Common.{◌≡◌, ℕ, zero, suc, ◌+◌, ◌≤◌, ◌<◌, true, false, cond, ltb, leb, List, [], ◌∷◌, ◌++◌, length, set, take}
use Rattle.std.proofs.Common.{sym, refl, ap, ◌∙◌, ⊎_elim, arith}
use Rattle.std.proofs.lemmas.Bool.Decides.{nat_tests}
use Rattle.std.proofs.lemmas.Bool.{cases_lt, le-ltb, cond_both}
use Rattle.std.proofs.lemmas.List.{length_push, length-set, take_all}
use Rattle.base.specs.Lists.{member, place_in, Apart, without}
use Rattle.policy.specs.Machine.{Machine, put, start, hit, fetch, touch, fetches}
use Rattle.policy.specs.Machines.{put_next, put_over}
use Rattle.policy.specs.Members.{member_first, place_within, index_place, apart_push, apart_without, without_gone}
use Rattle.policy.specs.Queue.{Queue, to_back, queue_place}
use Rattle.policy.specs.Queues.{Valid, back_ordered, back_later}
use Rattle.policy.specs.Steps.{later_length}
use Rattle.policy.specs.Lru.{lru_rules}
use Rattle.curve.specs.Distances.{distance, distances_after, at_least}
use Rattle.curve.specs.Recency.{to_front}
use Rattle.curve.proofs.Recents.{recent, apart_recent, front_recent, held_recent}
use Rattle.curve.proofs.Tallies.{at_least-cons}
use Rattle.curve.proofs.Held.{held_in, held_member, held_hit, held_room, held_full}

-- the keys that a machine with a queue holds, those of the last frame to go first
abbrev pub held : Machine Queue → List ℕ
held m = held_in m.keys m.policy.order

-- keys that are all different stay so where the list is cut
fewer_take : (g n : ℕ) (xs : List ℕ) → member g xs ≡ false → member g (take n xs) ≡ false
fewer_take g zero xs e = refl
fewer_take g (suc n) [] e = refl
fewer_take g (suc n) (y ∷ ys) e = let ih = fewer_take g n ys in grind (arith, nat_tests)

apart_take : (n : ℕ) (xs : List ℕ) → Apart xs → Apart (take n xs)
apart_take zero xs h = tt
apart_take (suc n) [] h = tt
apart_take (suc n) (y ∷ ys) h = (fewer_take y n ys h.0, apart_take n ys h.1)

-- What a touch keeps of the machine, where past has the touches so far, the latest first.
pub record Follows (k : ℕ) (past : List ℕ) (m : Machine Queue) : Type 0 where
  pub valid : Valid m.policy
  pub size : m.policy.size ≡ k
  pub filled : length m.keys ≡ length m.policy.order
  pub once : Apart m.policy.order
  pub holds : held m ≡ take k (recent past)

module _ {k : ℕ} {past : List ℕ} (m : Machine Queue) (s : Follows k past m) (x : ℕ) where
  abbrev order : List ℕ
  order = m.policy.order

  has : (f : ℕ) → f < length m.keys → member f order ≡ true
  has f l = back_ordered.covers m.policy s.valid f (omega (arith, s.filled))

  below : (f : ℕ) → member f order ≡ true → f < length m.keys
  below f e = omega (arith, s.filled, back_ordered.bounded m.policy s.valid f e)

  within : length order ≤ k
  within = omega (arith, s.valid.fits, s.size)

  -- the machine holds x exactly when x is among the latest
  pub member_held : member x m.keys ≡ member x (take k (recent past))
  member_held = sym (held_member m.keys order x has below) ∙ ap (member x) s.holds

  -- x comes to the front
  front : (m' : Machine Queue) → held m' ≡ to_front k x (held m) → held m' ≡ take k (recent (x ∷ past))
  front m' e = e ∙ ap (to_front k x) s.holds ∙ front_recent k x past

  apart : Apart (held m)
  apart = rw s.holds (apart_take k (recent past) (apart_recent past))

  follows_hit : member x m.keys ≡ true → Follows k (x ∷ past) (hit lru_rules m x)
  follows_hit e =
      let f = place_in x m.keys in
      let low = place_within x m.keys e in
      let filled = has f low in
      record {
        valid = back_ordered.used_valid m.policy s.valid f (omega (arith, s.filled));
        size = s.size;
        filled = s.filled ∙ later_length f order (without f order ++ (f ∷ [])) (back_later f order filled);
        once = apart_push (without f order) f (apart_without f order s.once) (without_gone f order s.once);
        holds = front (hit lru_rules m x) (held_hit k x m.keys order f (index_place x m.keys e) filled apart within);
      }

  -- after a fetch of another key, by the keys and the order that it leaves
  follows_fetched : (keys' order' : List ℕ) → put m.keys (queue_place m.policy) x ≡ keys' →
      (to_back m.policy (queue_place m.policy)).order ≡ order' →
      length keys' ≡ length order' → Apart order' → held_in keys' order' ≡ to_front k x (held m) →
      Follows k (x ∷ past) (fetch lru_rules m x)
  follows_fetched keys' order' ek eo n a h = record {
    valid = back_ordered.placed_valid m.policy s.valid;
    size = s.size;
    filled = rw (ek, eo) n;
    once = rw eo a;
    holds = front (fetch lru_rules m x) (rw (ek, eo) h);
  }

  module _ (new : member x m.keys ≡ false) where
    misses : member x (held m) ≡ false
    misses = held_member m.keys order x has below ∙ new

    -- the next frame is filled
    follows_next : length order < m.policy.size → Follows k (x ∷ past) (fetch lru_rules m x)
    follows_next l =
        let next = back_ordered.room_place m.policy s.valid l in
        follows_fetched (m.keys ++ (x ∷ [])) (order ++ (length order ∷ []))
        (put_next m.keys (queue_place m.policy) x (next ∙ sym s.filled))
        (back_ordered.room_order m.policy s.valid l)
        (simp length_push (omega (arith, s.filled)))
        (apart_push order (length order) s.once (s.valid.frames (length order) ∙ le-ltb (length order) (length order) (omega arith)))
        (held_room k x m.keys order s.filled below misses (omega (arith, s.size)))

    -- the first frame of the order is filled anew
    follows_anew : m.policy.size ≤ length order → Follows k (x ∷ past) (fetch lru_rules m x)
    follows_anew l =
        let full : length order ≡ m.policy.size = omega (arith, s.valid.fits) in
        let parts = back_ordered.full_order m.policy s.valid full s.valid.some in
        let f = queue_place m.policy in
        let rest = parts.0 in
        let once : Apart (f ∷ rest) = rw parts.1 at s.once in
        let low = below f (member_first f order rest parts.1) in
        let many = ap length parts.1 in
        let back : held_in m.keys (f ∷ rest) ≡ held m = ap (held_in m.keys) (sym parts.1) in
        let again = ap (member x) (sym back) in
        follows_fetched (set m.keys f x) (rest ++ (f ∷ []))
        (put_over m.keys f x low)
        parts.2
        (simp (length-set, length_push) (omega (arith, s.filled)))
        (apart_push rest f once.1 once.0)
        (held_full k x m.keys rest f low once.0 (sym again ∙ misses) (omega (arith, s.size)) ∙ ap (to_front k x) back)

    follows_fetch : Follows k (x ∷ past) (fetch lru_rules m x)
    follows_fetch = ⊎_elim follows_next follows_anew (cases_lt (length order) m.policy.size)

  pub follows_touch : Follows k (x ∷ past) (touch lru_rules m x)
  follows_touch = cond_both (member x m.keys) (hit lru_rules m x) (fetch lru_rules m x) (Follows k (x ∷ past)) follows_hit follows_fetch

pub follows_start : (k : ℕ) → 1 ≤ k → Follows k [] (start lru_rules tt k)
follows_start k some = record {
  valid = back_ordered.first_valid tt k some;
  size = refl;
  filled = refl;
  once = tt;
  holds = sym (take_all k [] (omega arith));
}

-- a touch is a fetch exactly when its distance is k or more
pub fetches_after : {k : ℕ} {past : List ℕ} (far : ℕ) → k ≤ far → (m : Machine Queue) → Follows k past m → (xs : List ℕ) →
    fetches lru_rules m xs ≡ at_least k (distances_after far past xs)
fetches_after far l m s [] = refl
fetches_after {k} {past} far l m s (x ∷ xs) =
    let d = distance far x past in
    let rest = fetches lru_rules (touch lru_rules m x) xs in
    let held : member x m.keys ≡ ltb d k = member_held m s x ∙ held_recent far k x past l in
    let here : cond {A = ℕ} (member x m.keys) 0 1 ≡ cond (leb k d) 1 0 = rw held (grind (arith, nat_tests)) in
    let ih = fetches_after far l (touch lru_rules m x) (follows_touch m s x) xs in
    ap (λ n. n + rest) here ∙ ap (λ n. cond (leb k d) 1 0 + n) ih ∙ sym (at_least-cons k d (distances_after far (x ∷ past) xs))
