-- The replay's pass over the touches, one after another.
use Rattle.std.proofs.Common.{◌≡◌, ℕ, ◌+◌, ◌<◌, ◌≤◌, min, max, true, false, cond, ltb, List, [], ◌∷◌, ◌++◌}
use Rattle.std.proofs.Common.{length, get_or, take, set, Some, None, Ok, sym, refl, ap, ◌∙◌, inl, inr, arith}
use Rattle.std.proofs.lemmas.Option.{cond_some}
use Rattle.std.proofs.lemmas.List.{take_all, take_more, length-take-le, length_push, length-set}
use Rattle.std.proofs.lemmas.Bool.{cases_Bool, cases_lt, lt-ltb, cond_both}
use Rattle.base.specs.Lists.{member, place_in, found_in}
use Rattle.policy.specs.Machine.{Rules, Machine, put, hit, fetch, touch, touched, fetches}
use Rattle.policy.specs.Shape.{Shape, Running}
use Rattle.policy.specs.Calls.{use_answer, after_use}
use Rattle.policy.specs.Machines.{touched_push, fetches_push, fetches_most, running_touched}
use Rattle.policy.specs.Machines.{place_below, place_most, hit_filled, put_next, put_over}
use Rattle.index.specs.Maps.{Map, empty}
use Rattle.planning.specs.Frames.{Shows, Room}

-- a key that the index does not find
pub found_none : (index : Map) (keys : List ℕ) (x : ℕ) → index.at x ≡ found_in x keys → index.at x ≡ None → member x keys ≡ false
found_none index keys x sh e = let w : found_in x keys ≡ None = sym sh ∙ e in elim (cases_Bool (member x keys)) [
  | inl m ↦ absurd (let q : Some (place_in x keys) ≡ None = rw m at w in let z : ◌≡◌ {A = ℕ} 0 1 = cc in omega arith)
  | inr m ↦ m
]

-- a touch brings at most one key more
put_few : (keys : List ℕ) (f x : ℕ) → length (put keys f x) ≤ length keys + 1
put_few keys f x = cond_both (ltb f (length keys)) (set keys f x) (keys ++ (x ∷ [])) (λ l. length l ≤ length keys + 1)
    (λ _. omega (arith, length-set keys f x)) (λ _. omega (arith, length_push keys x))

touched_few : {Setting State : Type 0} (r : Rules Setting State) (m : Machine State) (xs : List ℕ) →
    length (touched r m xs).keys ≤ length m.keys + length xs
touched_few r m [] = omega arith
touched_few r m (x ∷ xs) =
    let one : length (touch r m x).keys ≤ length m.keys + 1 =
    cond_both (member x m.keys) (hit r m x) (fetch r m x) (λ n. length n.keys ≤ length m.keys + 1) (λ _. omega arith)
    (λ _. put_few m.keys (r.place m.policy) x) in
    omega (arith, touched_few r (touch r m x) xs)

module _ {Setting State : Type 0} (r : Rules Setting State) (m₀ : Machine State) where
  -- What holds before touch i: the policy, the count, and the keys held are those of the frame machine.
  pub record Replaying (xs hs : List ℕ) (index : Map) (places i : ℕ) (s : State) (n filled : ℕ) : Type 0 where
    pub state : s ≡ (touched r m₀ (take i xs)).policy
    pub count : n ≡ fetches r m₀ (take i xs)
    pub filled_is : filled ≡ length (touched r m₀ (take i xs)).keys
    pub shows : Shows xs hs index (touched r m₀ (take i xs)).keys
    pub slots : index.places ≡ places

  -- before the first touch, and after the last
  pub replaying_none : (xs hs : List ℕ) (places : ℕ) (index : Map) → m₀.keys ≡ [] → index ≡ empty places →
      Replaying xs hs index places 0 m₀.policy 0 0
  replaying_none xs hs places index none e = record {
    state = refl;
    count = refl;
    filled_is = rw none;
    shows = rw (none, e) (record {
      found = λ y. refl;
      sized = refl;
      placed = λ f l. absurd (omega arith);
      holds =
          λ f l. absurd (omega arith);
    });
    slots = rw e;
  }

  pub replaying_all : (xs hs : List ℕ) (index : Map) (places i : ℕ) (s : State) (n filled : ℕ) → Replaying xs hs index places i s n filled →
      length xs ≤ i → n ≡ fetches r m₀ xs
  replaying_all xs hs index places i s n filled q h = q.count ∙ ap (fetches r m₀) (take_all i xs h)

  -- What every way of touch i needs: what holds before it, how the policy runs, and slots enough.
  pub record Turn (k : ℕ) (xs hs : List ℕ) (index : Map) (places i : ℕ) (s : State) (n filled : ℕ) : Type 0 where
    pub shape : Shape r
    pub runs : Running r k m₀
    pub none : m₀.keys ≡ []
    pub state : Replaying xs hs index places i s n filled
    pub low : i < length xs
    pub slots : min (length xs) (k + 1) ≤ places

module _ {Setting State : Type 0} {r : Rules Setting State} {m₀ : Machine State} {k : ℕ} {xs hs : List ℕ} {index : Map}
    {places i : ℕ} {s : State} {n filled : ℕ} (t : Turn r m₀ k xs hs index places i s n filled) where
  abbrev q : Replaying r m₀ xs hs index places i s n filled
  q = t.state

  abbrev m : Machine State
  m = touched r m₀ (take i xs)

  abbrev x : ℕ
  x = get_or xs i 0

  running : Running r k m
  running = running_touched t.shape m₀ t.runs (take i xs)

  -- no more keys are held than there are frames
  pub held_most : length m.keys ≤ k
  held_most = omega (arith, running.filled, t.shape.within m.policy running.reached, running.frames)

  -- the machine after one touch more
  one_more : touched r m₀ (take (i + 1) xs) ≡ touch r m x
  one_more = ap (touched r m₀) (take_more xs i 0 t.low) ∙ touched_push r m₀ (take i xs) x

  count_more : fetches r m₀ (take (i + 1) xs) ≡ fetches r m₀ (take i xs) + cond (member x m.keys) 0 1
  count_more = ap (fetches r m₀) (take_more xs i 0 t.low) ∙ fetches_push r m₀ (take i xs) x

  -- there is at most one fetch to a touch
  pub count_most : n ≤ i
  count_most = omega (arith, q.count, fetches_most r m₀ (take i xs), length-take-le i xs (omega (arith, t.low)))

  -- and at most one key more is held
  held_few : filled ≤ i
  held_few = omega (arith, q.filled_is, touched_few r m₀ (take i xs), ap length t.none, length-take-le i xs (omega (arith, t.low)))

  -- the frame of a key that is found is filled
  found_filled : (f : ℕ) → index.at x ≡ Some f → (member x m.keys ≡ true) × (place_in x m.keys ≡ f) × (f < r.filled s)
  found_filled f e =
      let g = cond_some (member x m.keys) _ f (sym (q.shows.found x) ∙ e) in
      (g.0, g.1, rw (q.state, ← g.1) (hit_filled t.shape m running x g.0))

  -- so its use is not refused
  pub hit_accepted : (f : ℕ) → index.at x ≡ Some f → use_answer r s f ≡ Ok tt
  hit_accepted f e = rw (lt-ltb f (r.filled s) (found_filled f e).2)

  pub replaying_hit : (f : ℕ) (s' : State) → index.at x ≡ Some f → s' ≡ after_use r s f →
      Replaying r m₀ xs hs index places (i + 1) s' n filled
  replaying_hit f s' e es =
      let g = found_filled f e in
      let e' : touched r m₀ (take (i + 1) xs) ≡ hit r m x = one_more ∙ rw g.0 in
      record {
        state = rw (e', es, lt-ltb f (r.filled s) g.2, q.state, ← g.1);
        count = rw (count_more, g.0) (omega (arith, q.count));
        filled_is = rw e' q.filled_is;
        shows = rw e' q.shows;
        slots = q.slots;
      }

  -- a fetch: the frame that is placed accepts the key
  pub fetch_room : (f : ℕ) → index.at x ≡ None → f ≡ r.place s → Room xs hs index m.keys f filled i
  fetch_room f e ef = record {
    shows = q.shows;
    apart = running.apart;
    new = found_none index m.keys x (q.shows.found x) e;
    counted = q.filled_is;
    within = rw (ef, q.state, q.filled_is) (place_most t.shape m running);
    free = rw q.slots (omega (arith, held_few, q.filled_is, held_most, t.low, t.slots));
  }

  pub fetch_below : (f : ℕ) → f ≡ r.place s → f < k
  fetch_below f ef = rw (ef, q.state) (place_below t.shape m running)

  pub replaying_fetch : (f : ℕ) (s' : State) (hs' : List ℕ) (index' : Map) → index.at x ≡ None → f ≡ r.place s → s' ≡ r.placed s →
      Shows xs hs' index' (put m.keys f x) → index'.places ≡ index.places →
      Replaying r m₀ xs hs' index' places (i + 1) s' (n + 1) (max filled (f + 1))
  replaying_fetch f s' hs' index' e ef es sh ep =
      let new = found_none index m.keys x (q.shows.found x) e in
      let e' : touched r m₀ (take (i + 1) xs) ≡ fetch r m x = one_more ∙ rw new in
      let ef' : f ≡ r.place m.policy = ef ∙ ap r.place q.state in
      record {
        state = rw (e', es, q.state);
        count = rw (count_more, new) (omega (arith, q.count));
        filled_is = rw (e', ← ef') (grown (place_most t.shape m running));
        shows = rw (e', ← ef') sh;
        slots = ep ∙ q.slots;
      }
    where
      grown : r.place m.policy ≤ length m.keys → max filled (f + 1) ≡ length (put m.keys f x)
      grown most = elim (cases_lt f (length m.keys)) [
        | inl l ↦ rw (put_over m.keys f x l, length-set) (omega (arith, q.filled_is))
        | inr l ↦
            let same : f ≡ length m.keys = omega (arith, ef, ap r.place q.state) in
            rw (put_next m.keys f x same, length_push) (omega (arith, q.filled_is))
      ]
