-- How planning judges, and what its numbers come to.
use Rattle.std.proofs.Common.{◌≡◌, ℕ, suc, ◌+◌, ◌-◌, ◌*◌, ◌^◌, ◌<◌, ◌≤◌, max, cond, ◌&&◌, leb, List, [], ◌∷◌, ◌++◌, map}
use Rattle.std.proofs.Common.{length, drop, Ok, Err, Result, sym, refl, ap, ◌∙◌, inl, inr, mul-le-mul_right, div-le_self, arith}
use Rattle.std.specs.Result.{result_and}
use Rattle.std.proofs.lemmas.Bool.{cases_Bool, and_parts, and_from, leb-true, le-leb, cond_both}
use Rattle.std.proofs.lemmas.List.{length-map}
use Rattle.base.specs.Geometries.{frames_of, pins_of, judged_numbers, read_off, built}
use Rattle.base.specs.Lists.{member}
use Rattle.base.specs.declared.geometry.Geometry.{Geometry}
use Rattle.base.specs.declared.limits.TheConstants.{MAX_TOUCHES}
use Rattle.base.specs.declared.refusal.Refusal.{Refusal}
use Rattle.policy.specs.Machine.{Rules}
use Rattle.planning.specs.declared.plan.Plan.{Plan}
use Rattle.planning.specs.declared.lists.Places.{Places}
use Rattle.planning.specs.Lists.{room_in, enough}
use Rattle.planning.specs.Minimum.{min_keys, min_serves, min_fetches}
use Rattle.planning.specs.Plan.{Planning, ceiling, plan_answer, planning_of, forecast_of, planned, forecasted, answer_of, serving_after}
use Rattle.planning.specs.Replay.{lists_answer}
use Rattle.planning.proofs.Judged.{never, same_ok}

-- lists that are as long as others
pub same_places : (s n h w s' n' h' w' : ℕ) → s' ≡ s → n' ≡ n → h' ≡ h → w' ≡ w →
    ◌≡◌ {A = Places} (record { slots = s'; next = n'; held = h'; serving = w' }) (record { slots = s; next = n; held = h; serving = w })
same_places s n h w s' n' h' w' es en eh ew = rw (es, en, eh, ew)

-- what passes
pub record Passed (n k h held : ℕ) (p : Places) : Type 0 where
  pub frames : (1 ≤ k) × (k ≤ 64)
  pub few : n ≤ 4096
  pub slots_for : n ≤ p.slots
  pub next_for : n ≤ p.next
  pub serving_for : n ≤ p.serving
  pub held_for : held ≤ p.held
  pub smaller : (1 ≤ h) × (h ≤ k)

pub plan_passed : (n k h held : ℕ) (p : Places) → Ok tt ≡ plan_answer n k h held p → Passed n k h held p
plan_passed n k h held p e = elim (cases_Bool (leb 1 k && leb k 64)) [
  | inl a ↦ elim (cases_Bool (leb n MAX_TOUCHES)) [
    | inl b ↦ elim (cases_Bool (enough n held p)) [
      | inl c ↦ elim (cases_Bool (leb 1 h && leb h k)) [
        | inl d ↦
            let f = and_parts (leb 1 k) (leb k 64) a in
            let q = and_parts (leb n (room_in p)) (leb held p.held) c in
            let room = leb-true n (room_in p) q.0 in
            let t = and_parts (leb 1 h) (leb h k) d in
            record {
              frames = (leb-true 1 k f.0, leb-true k 64 f.1);
              few = leb-true n MAX_TOUCHES b;
              slots_for = omega (arith, room);
              next_for = omega (arith, room);
              serving_for = omega (arith, room);
              held_for = leb-true held p.held q.1;
              smaller = (leb-true 1 h t.0, leb-true h k t.1);
            }
        | inr d ↦ absurd (never _ tt (sym (rw (a, b, c, d) at e)))
      ]
      | inr c ↦ absurd (never _ tt (sym (rw (a, b, c) at e)))
    ]
    | inr b ↦ absurd (never _ tt (sym (rw (a, b) at e)))
  ]
  | inr a ↦ absurd (never _ tt (sym (rw a at e)))
]

-- what was judged, by the codes of the keys and the places that the caller lends
pub judged_by : {K : Type 0} (code : K → ℕ) (keys : List K) (k h held need : ℕ) (judged lent : Places) → held ≡ need → judged ≡ lent →
    plan_answer (length keys) k h held judged ≡ plan_answer (length (map code keys)) k h need lent
judged_by code keys k h held need judged lent most same = rw (length-map keys code, most, same)

-- what planning hands out, where it refuses and where it passes
module _ (touches : List ℕ) (k h : ℕ) (p : Places) where
  pub planned_refused : (e : Refusal) → Err e ≡ plan_answer (length touches) k h h p → planned touches k h p ≡ Err e
  planned_refused e w = sym (ap (λ q. result_and q (Ok (planning_of touches k h))) w)

  pub planned_accepted : Ok tt ≡ plan_answer (length touches) k h h p → planned touches k h p ≡ Ok (planning_of touches k h)
  planned_accepted w = sym (ap (λ q. result_and q (Ok (planning_of touches k h))) w)

-- the same of a forecast
module _ {Setting State : Type 0} (r : Rules Setting State) (c : Setting) (touches : List ℕ) (k h : ℕ) (p : Places) where
  pub forecast_refused : (e : Refusal) → Err e ≡ plan_answer (length touches) k h (max k h) p → forecasted r c touches k h p ≡ Err e
  forecast_refused e w = sym (ap (λ q. result_and q (Ok (forecast_of r c touches k h))) w)

  pub forecast_accepted : Ok tt ≡ plan_answer (length touches) k h (max k h) p →
      forecasted r c touches k h p ≡ Ok (forecast_of r c touches k h)
  forecast_accepted w = sym (ap (λ q. result_and q (Ok (forecast_of r c touches k h))) w)

-- with places for both, planning alone passes too
pub plan_passes : (n k h : ℕ) (p : Places) → Passed n k h (max k h) p → Ok tt ≡ plan_answer n k h h p
plan_passes n k h p q = rw (
  and_from (leb 1 k) (leb k 64) (le-leb 1 k q.frames.0) (le-leb k 64 q.frames.1),
  le-leb n MAX_TOUCHES q.few,
  and_from (leb n (room_in p)) (leb h p.held) (le-leb n (room_in p) (omega (arith, q.slots_for, q.next_for, q.serving_for)))
      (le-leb h p.held (omega (arith, q.held_for))),
  and_from (leb 1 h) (leb h k) (le-leb 1 h q.smaller.0) (le-leb h k q.smaller.1),
)

-- and so does the replay
pub replay_passes : (n k h : ℕ) (p : Places) → Passed n k h (max k h) p → Ok tt ≡ lists_answer n p.slots k p.held
replay_passes n k h p q = rw (
  le-leb n MAX_TOUCHES q.few,
  and_from (leb n p.slots) (leb k p.held) (le-leb n p.slots q.slots_for) (le-leb k p.held (omega (arith, q.held_for))),
)

-- and the geometry of its frames is made
pub geometry_made : (k : ℕ) → 1 ≤ k → k ≤ 64 → judged_numbers k 0 ≡ Ok (k, 0)
geometry_made k some most = rw (and_from (leb 1 k) (leb k 64) (le-leb 1 k some) (le-leb k 64 most))

pub geometry_frames : (k : ℕ) (r : Result Geometry Refusal) (g : Geometry) → 1 ≤ k → k ≤ 64 → built k 0 r → r ≡ Ok g → frames_of g ≡ k
geometry_frames k r g some most b e =
    let w : ◌≡◌ {A = Result (ℕ × ℕ) Refusal} (Ok (frames_of g, pins_of g)) (Ok (k, 0)) =
    sym (ap read_off e) ∙ b ∙ geometry_made k some most in
    ap (λ (q : ℕ × ℕ). q.0) (same_ok _ _ w)

pub geometry_accepted : (k : ℕ) (r : Result Geometry Refusal) (e : Refusal) → 1 ≤ k → k ≤ 64 → built k 0 r → r ≡ Err e → ⊥
geometry_accepted k r e some most b w = never e (k, 0) (sym (ap read_off w) ∙ b ∙ geometry_made k some most)

-- MIN's list has a frame for each touch
pub serves_length : (h : ℕ) (keys touches : List ℕ) → length (min_serves h keys touches) ≡ length touches
serves_length h keys [] = refl
serves_length h keys (x ∷ rest) = ap suc (serves_length h (min_keys h keys x rest) rest)

-- what is handed out where nothing is refused: then all was judged good, and the frames stand at the front of the serving list
pub handed_judged : {A E : Type 0} (judged : Result (Unit {0}) E) (p : Planning A) (a : A) → Ok a ≡ answer_of (result_and judged (Ok p)) →
    judged ≡ Ok tt
handed_judged (Ok tt) p a e = refl
handed_judged (Err r) p a e = absurd (never r a (sym e))

pub handed_serving : {A E : Type 0} (judged : Result (Unit {0}) E) (p : Planning A) (a : A) (old : List ℕ) →
    Ok a ≡ answer_of (result_and judged (Ok p)) →
    serving_after (result_and judged (Ok p)) old ≡ p.serving ++ drop (length p.serving) old
handed_serving judged p a old e = rw (handed_judged judged p a e)

pub planned_serving : (touches : List ℕ) (k h : ℕ) (p : Places) (a : Plan) (old : List ℕ) → Ok a ≡ answer_of (planned touches k h p) →
    serving_after (planned touches k h p) old ≡ min_serves h [] touches ++ drop (length touches) old
planned_serving touches k h p a old e =
    handed_serving (plan_answer (length touches) k h h p) (planning_of touches k h) a old e ∙
    ap (λ n. min_serves h [] touches ++ drop n old) (serves_length h [] touches)

-- MIN fetches at most once a touch
pub min_most : (h : ℕ) (keys touches : List ℕ) → min_fetches h keys touches ≤ length touches
min_most h keys [] = omega arith
min_most h keys (x ∷ rest) =
    let one : cond {A = ℕ} (member x keys) 0 1 ≤ 1 = cond_both (member x keys) 0 1 (λ n. n ≤ 1) (λ _. omega arith) (λ _. omega arith) in
    omega (arith, min_most h (min_keys h keys x rest) rest)

-- so neither a plan's ceiling nor the product in it is too large
pub product_fits : (k d : ℕ) → k ≤ 64 → d ≤ 4096 → k * d < 2 ^ 64
product_fits k d few short =
    let product : k * d ≤ 64 * d = mul-le-mul_right d few in
    omega (arith, product)

pub ceiling_fits : (k h d : ℕ) → k ≤ 64 → d ≤ 4096 → ceiling k h d < 2 ^ 64
ceiling_fits k h d few short =
    let product : k * d ≤ 64 * d = mul-le-mul_right d few in
    omega (arith, product, div-le_self (k * d) (k - h + 1))
