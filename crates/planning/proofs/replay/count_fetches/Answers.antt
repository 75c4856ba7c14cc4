use Rattle.std.proofs.Common.{◌≡◌, ℕ, List, map, length, refl, ap, ◌∙◌, arith}
use Rattle.std.proofs.lemmas.List.{length-map, length-set}
use Rattle.index.specs.Slots.{map_of, slots_of, SoundIndex}
use Rattle.policy.specs.Machine.{Rules, Machine}
use Rattle.planning.specs.Replay.{idle}
use Rattle.planning.specs.declared.held.HeldKeys.{HeldKeys}
use Rattle.planning.proofs.Holds.{frame_at, room_shown, shows_shown}
use Rattle.planning.proofs.Replays.{Replaying, Turn, replaying_none, replaying_all, replaying_hit}
use Rattle.planning.proofs.Replays.{replaying_fetch, hit_accepted, fetch_room, fetch_below, count_most, held_most}
use Rattle.planning.proofs.replay.count_fetches.Given as given
use Rattle.planning.proofs.replay.count_fetches.Goals as goal
use Rattle.planning.proofs.replay.count_fetches.Goals.{After-frame_of, in-Some, in-None}

-- the state of a turn under the names that its ways share
joined : {K P Setting State : Type 0} (code spread : K → ℕ) (r : Rules Setting State) (m₀ : Machine State) (xs : List ℕ)
    (places wide i : ℕ) (model : P → State) {p p' : P} {x x' : HeldKeys K} {n n' : ℕ} → p' ≡ p → x' ≡ x → n' ≡ n →
    SoundIndex code spread x.index → Replaying r m₀ xs x.held.now (map_of code x.index) places i (model p) n x.filled →
    length x.held.now ≡ wide →
    SoundIndex code spread x'.index ×
    (Replaying r m₀ xs x'.held.now (map_of code x'.index) places i (model p') n' x'.filled × (length x'.held.now ≡ wide))
joined code spread r m₀ xs places wide i model ep ex en s q l = rw (ep, ex, en) (s, (q, l))

-- what each way of a turn needs
turn : (g : given.Over) (c : After-frame_of g) →
    Turn g.P.Policy.rules (idle (g.P.Policy.model c.args.policy.now)) (g.P.Policy.rules.frames (g.P.Policy.model c.args.policy.now))
    (map g.K.Key.code c.args.keys.now) c.loop-place.frames.held.now (map_of g.K.Key.code c.loop-place.frames.index)
    (length (slots_of c.args.frames.now.index)) c.loop-place.place (g.P.Policy.model c.loop-place.policy) c.loop-place.fetches
    c.loop-place.frames.filled
turn g c = record {
  shape = g.met.P.Policy.shape;
  runs = c.requires.runs;
  none = refl;
  state = c.loop-place.invariant.1.0;
  low = rw length-map c.loop-place-test.true;
  slots = rw (length-map, c.requires.places.1) c.requires.slots;
}

pub loop-place-init : goal.loop-place-init
loop-place-init g c =
    let started = replaying_none g.P.Policy.rules (idle (g.P.Policy.model c.args.policy.now)) (map g.K.Key.code c.args.keys.now)
    c.args.frames.now.held.now _ _ refl c.requires.empty.map in
    (c.requires.empty.sound, (rw c.requires.empty.none started, refl))

pub unwrap-requires : goal.unwrap-requires
unwrap-requires g c =
    let here = (goal.at.unwrap-requires g c).After-frame_of in
    let found = frame_at g.K.Key.code c.loop-place.frames c.args.keys.now _ _ _ c.loop-place-test.true
    c.index-keys-place.is c.in-Some.ensures in
    rw (c.use_frame.ensures.value ∙ hit_accepted (turn g here) _ found)

pub hold-requires : goal.hold-requires
hold-requires g c =
    let here = (goal.at.hold-requires g c).After-frame_of in
    let t = turn g here in
    let placed = c.place-frame.ensures.value in
    let below = fetch_below t _ placed in
    let found = frame_at g.K.Key.code c.loop-place.frames c.args.keys.now _ _ _ c.loop-place-test.true
    c.index-keys-place.is c.in-None.ensures in
    let room = fetch_room t _ found placed in
    let wide = c.loop-place.invariant.1.1 in
    record {
      sound = c.loop-place.invariant.0;
      within = (
        omega (arith, below, c.requires.places, wide),
        (omega (arith, below, c.requires.places), (c.loop-place-test.true, omega (arith, c.requires.few))),
      );
      room = room_shown _ _ _ _ _ _ _ room (omega (arith, held_most t, c.requires.places, wide));
    }

pub overflow_add-fetches : goal.overflow_add-fetches
overflow_add-fetches g c =
    omega (arith, count_most (turn g (goal.at.overflow_add-fetches g c).After-frame_of), c.loop-place-test.true, c.requires.few)

pub loop-place-preserved : goal.loop-place-preserved
loop-place-preserved g c =
    let here = (goal.at.loop-place-preserved g c).After-frame_of in
    let t = turn g here in
    let xs = map g.K.Key.code c.args.keys.now in
    let wide = c.loop-place.invariant.1.1 in
    elim c.match-frame_of.branch [
      | in-Some w ↦
          let found = frame_at g.K.Key.code c.loop-place.frames c.args.keys.now _ _ _ c.loop-place-test.true
          c.index-keys-place.is w.in-Some.ensures in
          let hit = replaying_hit t _ _ found w.use_frame.ensures.after in
          joined g.K.Key.code g.K.Key.spread g.P.Policy.rules _ xs _ _ _ g.P.Policy.model w.policy-is w.frames-is w.fetches-is
          c.loop-place.invariant.0 hit wide
      | in-None w ↦
          let h = w.hold.ensures in
          let placed = w.place-frame.ensures in
          let found = frame_at g.K.Key.code c.loop-place.frames c.args.keys.now _ _ _ c.loop-place-test.true
          c.index-keys-place.is w.in-None.ensures in
          let room = fetch_room t _ found placed.value in
          let shows = shows_shown _ _ _ _ _ _ _ room (omega (arith, held_most t, c.requires.places, wide)) _ _ _ h.holds in
          let fetched = replaying_fetch t _ _ _ _ found placed.value placed.after shows h.places in
          joined g.K.Key.code g.K.Key.spread g.P.Policy.rules _ xs _ _ _ g.P.Policy.model w.policy-is w.frames-is w.fetches-is
          h.sound (rw h.filled fetched) (ap length h.held ∙ length-set _ _ _ ∙ wide)
    ]

pub returns : goal.returns
returns g c = replaying_all g.P.Policy.rules _ _ _ _ _ _ _ _ _ c.loop-place.invariant.1.0 (rw length-map c.loop-place-test.false)
