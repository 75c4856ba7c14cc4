-- The law of policies that evict by an order. Assumes nothing.
use Rattle.std.specs.Prelude.{◌≡◌, ℕ, ◌+◌, ◌<◌, ◌≤◌, true, List, [], ◌∷◌, length}
use Rattle.std.proofs.Common.{sym, ◌∙◌, ⊎_elim, arith}
use Rattle.std.proofs.lemmas.List.{drop_all}
use Rattle.std.proofs.lemmas.Bool.{cases_Bool, cases_lt}
use Rattle.base.specs.Lists.{member, place_in, distinct}
use Rattle.policy.specs.Machine.{Rules, Machine, put, start, hit, fetch, touched, fetches}
use Rattle.policy.specs.Law.{Conservative}
use Rattle.policy.specs.Shape.{Running}
use Rattle.policy.specs.Order.{OrderedBy}
use Rattle.policy.specs.Members.{Among, member_first, place_within, index_place, among_itself}
use Rattle.policy.specs.Steps.{Step, fills, swaps, Recent, later_recent, step_recent}
use Rattle.policy.specs.Shapes.{reached_valid, ordered_shape}
use Rattle.policy.specs.Machines.{put_next, put_over, held_most, running, running_hit, running_fetch}

module _ {Setting State : Type 0} {r : Rules Setting State} {valid : State → Type 0} {order : State → List ℕ}
    (o : OrderedBy r valid order) {k : ℕ} where
  module _ (m : Machine State) (s : Running r k m) where
    ok : valid m.policy
    ok = reached_valid o s.reached

    -- the order has a frame for each key
    held : length m.keys ≡ length (order m.policy)
    held = sym s.filled ∙ o.filled_order m.policy ok

    -- a fetch of x as a step of the lists
    abbrev Stepping : ℕ → Type 0
    Stepping x = Step k x m.keys (order m.policy) (put m.keys (r.place m.policy) x) (order (r.placed m.policy))

    -- it fills a frame while there is room, and afterwards swaps
    step_room : (x : ℕ) → length m.keys < k → Stepping x
    step_room x l =
        let e = held in
        let room : length (order m.policy) < r.frames m.policy = omega arith in
        rw (o.room_order m.policy ok room, ← e, put_next m.keys (r.place m.policy) x (o.room_place m.policy ok room ∙ sym e)) fills

    step_full : (x : ℕ) → k ≤ length m.keys → 1 ≤ k → Stepping x
    step_full x l some =
        let e = held in
        let full : length (order m.policy) ≡ r.frames m.policy = omega (arith, o.within m.policy ok) in
        let turn = o.full_order m.policy ok full (omega arith) in
        let f = r.place m.policy in
        let inside : f < length m.keys = omega (arith, o.bounded m.policy ok f (member_first f (order m.policy) turn.0 turn.1)) in
        rw (turn.1, turn.2, put_over m.keys f x inside) (swaps {rest = turn.0} inside (omega arith))

    step : 1 ≤ k → (x : ℕ) → Stepping x
    step some x = ⊎_elim (step_room x) (λ l. step_full x l some) (cases_lt (length m.keys) k)

    -- a hit leaves at most j frames that hold other keys than those of whole
    recent_hit : (whole : List ℕ) (x j : ℕ) → member x m.keys ≡ true → member x whole ≡ true →
        Recent whole j m.keys (order m.policy) → Recent whole j m.keys (order (r.used m.policy (place_in x m.keys)))
    recent_hit whole x j e w h =
        let f = place_in x m.keys in
        let inside : f < length m.keys = place_within x m.keys e in
        later_recent whole j m.keys _ _ f (o.used_order m.policy ok f (rw held at inside)) (inside, rw (index_place x m.keys e) w) h

  -- all frames of the order but the first j hold keys of whole: a fetch takes one of those j, or an empty frame
  fetches_left : 1 ≤ k → (whole : List ℕ) → distinct whole ≤ k → (rest : List ℕ) → Among whole rest → (m : Machine State) → Running r k m →
      (j : ℕ) → Recent whole j m.keys (order m.policy) → fetches r m rest + length m.keys ≤ k + j
  fetches_left some whole d [] a m s j h = omega (arith, held_most (ordered_shape o) m s)
  fetches_left some whole d (x ∷ rest) a m s j h =
      ⊎_elim
      (λ e. let left = fetches_left some whole d rest a.1 (hit r m x) (running_hit (ordered_shape o) m s x e) j
      (recent_hit m s whole x j e a.0 h) in rw e (omega arith))
      (λ e. let after = step_recent (step m s some x) whole d a.0 e s.apart (rw (held m s) (o.covers m.policy (ok m s))) j h in
      let left = fetches_left some whole d rest a.1 (fetch r m x)
      (running_fetch (ordered_shape o) m s x e) after.0 after.2 in rw e (omega arith))
      (cases_Bool (member x m.keys))

-- a policy that evicts by an order keeps the law
pub conservative : {Setting State : Type 0} {r : Rules Setting State} {valid : State → Type 0} {order : State → List ℕ} →
    OrderedBy r valid order → Conservative r
conservative {r} {order} o c k some before stretch d =
    let m = touched r (start r c k) before in
    let s = running (ordered_shape o) some c before in
    let none : Recent stretch (length m.keys) m.keys (order m.policy) =
    rw (held o m s, drop_all (length (order m.policy)) (order m.policy) (omega arith)) tt in
    omega (arith, fetches_left o some stretch d stretch (among_itself stretch) m s (length m.keys) none)
