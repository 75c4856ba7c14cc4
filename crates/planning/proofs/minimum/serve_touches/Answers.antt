use Rattle.std.proofs.Common.{◌≡◌, ℕ, ◌+◌, ◌≤◌, List, [], ◌++◌, map, length, drop, set, sym, refl, ap, ◌∙◌, arith}
use Rattle.std.proofs.lemmas.List.{length-map, length-set}
use Rattle.index.specs.Slots.{map_of, slots_of, SoundIndex}
use Rattle.planning.specs.Minimum.{min_serves}
use Rattle.planning.specs.declared.held.HeldKeys.{HeldKeys}
use Rattle.planning.proofs.Holds.{frame_at, room_shown, shows_shown}
use Rattle.planning.proofs.Along.{Serving-along, Turn, serving_none, serving_low}
use Rattle.planning.proofs.Along.{serving_hit, serving_room, serving_fetch, serving_all, chosen_low}
use Rattle.planning.proofs.minimum.serve_touches.Given as given
use Rattle.planning.proofs.minimum.serve_touches.Goals as goal
use Rattle.planning.proofs.minimum.serve_touches.Goals.{After-frame_of, in-Some, in-None}

-- the state of a turn under the names that its ways share
joined : {K : Type 0} (code spread : K → ℕ) (h : ℕ) (xs next : List ℕ) (places wide : ℕ) (before out : List ℕ) (i : ℕ)
    {x x' : HeldKeys K} {n n' t t' : ℕ} → x' ≡ x → n' ≡ n → t' ≡ t → SoundIndex code spread x.index →
    Serving-along h xs next x.held.now (map_of code x.index) places before (set out i t) n x.filled (i + 1) → length x.held.now ≡ wide →
    SoundIndex code spread x'.index ×
    (Serving-along h xs next x'.held.now (map_of code x'.index) places before (set out i t') n' x'.filled (i + 1) ×
    (length x'.held.now ≡ wide))
joined code spread h xs next places wide before out i ex en et s q l = rw (ex, en, et) (s, (q, l))

-- what each way of a turn needs
turn : (g : given.Over) (c : After-frame_of g) →
    Turn (length c.args.frames.now.held.now) (map g.K.Key.code c.args.keys.now) c.args.next.now c.loop-place.frames.held.now
    (map_of g.K.Key.code c.loop-place.frames.index) (length (slots_of c.args.frames.now.index)) c.args.serving.now c.loop-place.serving
    c.loop-place.fetches c.loop-place.frames.filled c.loop-place.place
turn g c = record {
  state = c.loop-place.invariant.1.0;
  low = rw length-map c.loop-place-test.true;
  nexts = c.requires.next _ c.loop-place-test.true;
  some = c.requires.size.0;
  slots = rw length-map c.requires.slots;
  room = omega (arith, c.requires.few, c.loop-place.auto.serving, c.loop-place-test.true);
  wide = omega (arith, c.requires.size, c.loop-place.invariant.1.1);
}

pub loop-place-init : goal.loop-place-init
loop-place-init g c =
    (c.requires.empty.sound, (rw c.requires.empty.none (serving_none _ _ _ _ _ _ _ c.requires.empty.map), refl))

-- a frame that holds a key is below the number of frames
pub touch-requires : goal.touch-requires
touch-requires g c =
    let here = (goal.at.touch-requires g c).After-frame_of in
    let t = turn g here in
    let found = frame_at g.K.Key.code c.loop-place.frames c.args.keys.now _ _ _ c.loop-place-test.true
    c.index-keys-place.is c.in-Some.ensures in
    let below = serving_low t _ found in
    (omega (arith, below, t.wide), omega (arith, c.loop-place-test.true, c.requires.few))

pub choose-frame-requires : goal.choose-frame-requires
choose-frame-requires g c =
    let s = c.loop-place.invariant.1.0 in
    let wide = c.loop-place.invariant.1.1 in
    let long = length-map c.args.keys.now g.K.Key.code in
    record {
      some = (omega (arith, c.requires.size, wide), omega (arith, s.filled_is, s.along.few, wide));
      inside = λ f l. omega (arith, s.along.shows.placed f (omega (arith, s.filled_is)), long, c.requires.few);
    }

pub hold-requires : goal.hold-requires
hold-requires g c =
    let here = (goal.at.hold-requires g c).After-frame_of in
    let t = turn g here in
    let low = c.loop-place-test.true in
    let picked = rw c.loop-place.invariant.1.1 at c.choose-frame.ensures in
    let below = chosen_low t _ picked in
    let found = frame_at g.K.Key.code c.loop-place.frames c.args.keys.now _ _ _ c.loop-place-test.true
    c.index-keys-place.is c.in-None.ensures in
    let room = serving_room t _ found picked in
    record {
      sound = c.loop-place.invariant.0;
      within = (omega (arith, below.0, t.wide), (omega (arith, below.0, c.requires.size), (low, omega (arith, c.requires.few))));
      room = room_shown _ _ _ _ _ _ _ room (omega (arith, t.state.along.few, t.wide));
    }

pub overflow_cast-serving : goal.overflow_cast-serving
overflow_cast-serving g c =
    let here = (goal.at.overflow_cast-serving g c).After-frame_of in
    let t = turn g here in
    elim c.match-frame_of.branch [
      | in-Some w ↦
          let found = frame_at g.K.Key.code c.loop-place.frames c.args.keys.now _ _ _ c.loop-place-test.true
          c.index-keys-place.is w.in-Some.ensures in
          let below = serving_low t _ found in
          omega (arith, w.frame-is, below, c.requires.size)
      | in-None w ↦
          let below = chosen_low t _ (rw c.loop-place.invariant.1.1 at w.choose-frame.ensures) in
          omega (arith, w.frame-is, below.0, c.requires.size)
    ]

pub loop-place-preserved : goal.loop-place-preserved
loop-place-preserved g c =
    let here = (goal.at.loop-place-preserved g c).After-frame_of in
    let t = turn g here in
    let wide = c.loop-place.invariant.1.1 in
    elim c.match-frame_of.branch [
      | in-Some w ↦
          let h = w.touch.ensures in
          let found = frame_at g.K.Key.code c.loop-place.frames c.args.keys.now _ _ _ c.loop-place-test.true
          c.index-keys-place.is w.in-Some.ensures in
          let served = serving_hit t _ found in
          joined g.K.Key.code g.K.Key.spread _ _ _ _ _ _ _ _ w.frames-is w.fetches-is w.frame-is
          (rw h.index c.loop-place.invariant.0) (rw (h.index, h.held, h.filled) served) (ap length h.held ∙ length-set _ _ _ ∙ wide)
      | in-None w ↦
          let h = w.hold.ensures in
          let found = frame_at g.K.Key.code c.loop-place.frames c.args.keys.now _ _ _ c.loop-place-test.true
          c.index-keys-place.is w.in-None.ensures in
          let picked = rw wide at w.choose-frame.ensures in
          let room = serving_room t _ found picked in
          let shows = shows_shown _ _ _ _ _ _ _ room (omega (arith, t.state.along.few, t.wide)) _ _ _ h.holds in
          let served = serving_fetch t _ _ _ found picked h.held shows h.places in
          joined g.K.Key.code g.K.Key.spread _ _ _ _ _ _ _ _ w.frames-is w.fetches-is w.frame-is
          h.sound (rw h.filled served) (ap length h.held ∙ length-set _ _ _ ∙ wide)
    ]

pub returns : goal.returns
returns g c =
    let xs = map g.K.Key.code c.args.keys.now in
    let long = length-map c.args.keys.now g.K.Key.code in
    let e : length xs ≡ c.loop-place.place = long ∙ omega (arith, c.loop-place-test.false, c.loop-place.auto.place-end) in
    let inside : c.loop-place.place ≤ length c.loop-place.serving =
    omega (arith, c.requires.few, c.loop-place.auto.serving, c.loop-place.auto.place-end) in
    let q = serving_all _ _ _ _ _ _ _ _ _ _ _ c.loop-place.invariant.1.0 e inside in
    let serves = min_serves (length c.args.frames.now.held.now) [] xs in
    record { answer = q.0; serving = q.1 ∙ ap (λ n. serves ++ drop n c.args.serving.now) (sym e ∙ long) }
