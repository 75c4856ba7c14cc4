-- The curve of the touches that are read from a text.
use Rattle.std.proofs.Common.{◌≡◌, ℕ, ◌+◌, ◌-◌, ◌≤◌, ◌<◌, min, List, map, length, get_or, take, drop, ◌++◌, Result, Ok, IfOk}
use Rattle.std.proofs.Common.{sym, ap, ◌∙◌, subst, arith}
use Rattle.std.specs.List.{range_with_len}
use Rattle.std.proofs.lemmas.Bool.{le-leb}
use Rattle.std.proofs.lemmas.List.{ext_get_or, get_or-map, length-map, take_all}
use Rattle.std.proofs.lemmas.List.FromFn.{get_or-range_with_len, length-range_with_len}
use Rattle.std.proofs.lemmas.List.FromFn.{get_or-map-range_with_len, length-map-range_with_len}
use Rattle.base.specs.Keys.{volume_code}
use Rattle.base.specs.declared.key.volume.VolumeKey.{VolumeKey}
use Rattle.base.specs.declared.limits.TheConstants.{MAX_FRAMES, MAX_TOUCHES}
use Rattle.base.specs.declared.refusal.Refusal.{Refusal}
use Rattle.trace.specs.declared.fault.ReplayFault.{ReplayFault}
use Rattle.trace.specs.Touches.{judged, placed, counted, accepted, Written}
use Rattle.trace.proofs.Exact.{judged_sound, judged_placed}
use Rattle.trace.proofs.Accepted.{ok_same}
use Rattle.curve.specs.declared.point.Point.{Point}
use Rattle.curve.specs.Distances.{lru_distances}
use Rattle.curve.specs.Curve.{curve_answer, lru_fetches, list_after, Curve}
use Rattle.curve.specs.Points.{touches_read, point_frames, point_fetches, point_at, points_of, distances_of}

-- What is known of n keys that are read from a text.
pub record Recorded (text : List ℕ) (old new : List VolumeKey) (distances : List ℕ) (n : ℕ) (touches : List ℕ) : Type 0 where
  pub is : touches_read text (length old) (length distances) ≡ Ok touches
  pub few : length touches ≤ MAX_TOUCHES
  pub room : length touches ≤ length distances
  pub written : Written (touches_read text (length old) (length distances)) old new
  pub count : n ≡ length touches
  pub codes : map volume_code (take n new) ≡ touches

pub recorded : (text : List ℕ) (old new : List VolumeKey) (distances : List ℕ) (places n : ℕ) (touches : List ℕ) →
    places ≡ min (length old) (length distances) → Ok touches ≡ judged text places →
    Ok n ≡ counted (placed (length old) touches) → Written (placed (length old) touches) old new →
    Recorded text old new distances n touches
recorded text old new distances places n touches e is counts written =
    let all = judged_placed text places (length old) touches (omega (arith, e)) (sym is) in
    let within = (judged_sound text places touches (sym is)).0 in
    let count = ok_same (counts ∙ ap counted all) in
    let filled = subst (λ (r : Result (List ℕ) ReplayFault). Written r old new) all written in
    let read : Ok touches ≡ touches_read text (length old) (length distances) = is ∙ ap (judged text) e in
    record {
      is = sym read;
      few = within.few;
      room = omega (arith, e, within.room);
      written = subst (λ (r : Result (List ℕ) ReplayFault). Written r old new) read filled;
      count = count;
      codes = ap (λ k. map volume_code (take k new)) count ∙ filled.first;
    }

-- their lists have enough places
pub never_refused : (touches distances counts : ℕ) → touches ≤ MAX_TOUCHES → touches ≤ distances → MAX_FRAMES ≤ counts →
    curve_answer touches distances counts ≡ Ok tt
never_refused touches distances counts few room some =
    rw (le-leb touches MAX_TOUCHES few, le-leb touches distances room, le-leb MAX_FRAMES counts some)

-- points by their two numbers
nowhere : Point
nowhere = record { frames = 0; lru = 0 }

frames_at : (points : List Point) (p : ℕ) → p < length points → map point_frames points ≡ range_with_len 1 MAX_FRAMES → p < MAX_FRAMES →
    (get_or points p nowhere).frames ≡ p + 1
frames_at points p l e low =
    sym (get_or-map point_frames points p nowhere 0 l) ∙ ap (λ (w : List ℕ). get_or w p 0) e ∙
    get_or-range_with_len 1 MAX_FRAMES p 0 low ∙ omega arith

pub points_are : (touches : List ℕ) (points : List Point) → map point_frames points ≡ range_with_len 1 MAX_FRAMES →
    ((k : ℕ) → 1 ≤ k → k ≤ MAX_FRAMES → get_or (map point_fetches points) (k - 1) 0 ≡ lru_fetches touches k) →
    points ≡ map (point_at touches) (range_with_len 1 MAX_FRAMES)
points_are touches points e fetches =
    let ks = range_with_len 1 MAX_FRAMES in
    let long : length points ≡ MAX_FRAMES = sym (length-map points point_frames) ∙ ap length e ∙ length-range_with_len 1 MAX_FRAMES in
    ext_get_or nowhere points (map (point_at touches) ks) (long ∙ sym (length-map-range_with_len (point_at touches) 1 MAX_FRAMES))
    (λ p l.
    let low : p < MAX_FRAMES = omega (arith, long, l) in
    let f = frames_at points p l e low in
    let same : p ≡ p + 1 - 1 = omega arith in
    let c : (get_or points p nowhere).lru ≡ lru_fetches touches (p + 1) =
    sym (get_or-map point_fetches points p nowhere 0 l) ∙ ap (λ q. get_or (map point_fetches points) q 0) same ∙
    fetches (p + 1) (omega arith) (omega arith) in
    let here : get_or points p nowhere ≡ point_at touches (p + 1) = λ i. record { frames = f i; lru = c i } in
    here ∙ sym (get_or-map-range_with_len (point_at touches) 1 MAX_FRAMES p (p + 1) nowhere low (omega arith)))

module _ {text : List ℕ} {old new : List VolumeKey} {distances : List ℕ} {n : ℕ} {touches : List ℕ}
    (r : Recorded text old new distances n touches) where
  -- the touches that are read, or the fault; and their keys
  abbrev read : Result (List ℕ) ReplayFault
  read = touches_read text (length old) (length distances)

  abbrev keys : List VolumeKey
  keys = take n new

  keys_many : length keys ≡ length touches
  keys_many = sym (length-map keys volume_code) ∙ ap length r.codes

  -- their curve is not refused
  pub curve_accepted : (counts : ℕ) → MAX_FRAMES ≤ counts → (answer : Result (Unit {0}) Refusal) →
      answer ≡ curve_answer (length keys) (length distances) counts → answer ≡ Ok tt
  curve_accepted counts some answer e =
      e ∙ never_refused (length keys) (length distances) counts (omega (arith, keys_many, r.few)) (omega (arith, keys_many, r.room)) some

  -- the distances afterwards, and what holds of them and the counts
  pub distances_read : (answer : Result (Unit {0}) Refusal) (after : List ℕ) → answer ≡ Ok tt →
      after ≡ list_after answer (lru_distances (map volume_code keys)) distances → after ≡ distances_of read distances
  distances_read answer after ok e =
      e ∙ ap (λ a. list_after a (lru_distances (map volume_code keys)) distances) ok ∙
      ap (λ w. lru_distances w ++ drop (length (lru_distances w)) distances) r.codes ∙
      sym (ap (λ q. distances_of q distances) r.is)

  pub curve_read : (answer : Result (Unit {0}) Refusal) (after counts : List ℕ) → answer ≡ Ok tt →
      IfOk answer (λ _. Curve (map volume_code keys) (take (length keys) after) (take MAX_FRAMES counts)) →
      length counts ≡ MAX_FRAMES → Curve touches (take (length touches) after) counts
  curve_read answer after counts ok h long =
      let all = take_all MAX_FRAMES counts (omega (arith, long)) in
      let whole : Result (Unit {0}) Refusal → Type 0 =
      λ a. IfOk a (λ _. Curve (map volume_code keys) (take (length keys) after) (take MAX_FRAMES counts)) in
      rw (r.codes, keys_many, all) at (subst whole ok h)

  -- what is handed out: the points, and what holds of their fetches
  pub points_read : (after counts : List ℕ) (points : List Point) → Curve touches (take (length touches) after) counts →
      map point_frames points ≡ range_with_len 1 MAX_FRAMES → map point_fetches points ≡ counts → Ok points ≡ points_of read
  points_read after counts points held frames fetches =
      let each : (k : ℕ) → 1 ≤ k → k ≤ MAX_FRAMES → get_or (map point_fetches points) (k - 1) 0 ≡ lru_fetches touches k =
      λ k some most. ap (λ (w : List ℕ). get_or w (k - 1) 0) fetches ∙ held.fetched k some most in
      ap Ok (points_are touches points frames each) ∙ sym (ap points_of r.is)

  pub curve_handed : (after counts fetches : List ℕ) → Curve touches (take (length touches) after) counts → fetches ≡ counts →
      Curve (accepted read) (take (length (accepted read)) after) fetches
  curve_handed after counts fetches held e =
      let P : List ℕ → Type 0 = λ ts. Curve ts (take (length ts) after) fetches in
      subst P (sym (ap accepted r.is)) (subst (Curve touches (take (length touches) after)) (sym e) held)
