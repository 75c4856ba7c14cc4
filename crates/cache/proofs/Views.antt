-- Views: each step keeps them sound, and what it does to what they show.
use Rattle.std.proofs.Common.{◌≡◌, ℕ, ◌+◌, ◌-◌, ◌<◌, ◌≤◌, Bool, true, false, cond, not, ◌&&◌, ◌||◌, eqb, ltb, List, length, is_ok, Some, Ok}
use Rattle.std.proofs.Common.{Result, sym, refl, ap, ◌∙◌, subst, inl, inr, arith}
use Rattle.std.proofs.lemmas.Bool.{cases_Bool, cases_lt, lt-ltb, le-ltb, ltb-true, ltb-false, or_parts, true≢false}
use Rattle.std.proofs.lemmas.Option.{cond_some}
use Rattle.base.specs.Lists.{member, place_in, found_in}
use Rattle.base.specs.declared.refusal.Refusal.{Refusal}
use Rattle.policy.specs.Machine.{Rules, put, touch, fetch}
use Rattle.policy.specs.Shape.{placed, used, Shape}
use Rattle.disk.specs.Meaning.{Meaning, Sized, answer, serves, raised, written_one}
use Rattle.disk.proofs.Served.{live_served, answer_live}
use Rattle.cache.specs.Places.{used as in_use, place_at, held, pins, framed, installed, is_dirty}
use Rattle.cache.specs.View.{View, Sound, seen, machine}
use Rattle.cache.specs.Steps.{used_frame, used_view, placed_view, looked_view, vacated_view, fetched_view, touched_view, next_place}
use Rattle.cache.specs.Steps.{place_of, with_place}
use Rattle.cache.specs.Requests.{fetched_below, puts_out}
use Rattle.cache.proofs.Keys.{member_cut, place_front, place_back, put_back, put_front}
use Rattle.cache.proofs.Dirty.{has_sector, and_true, installed_dirty, cleaned_still}
use Rattle.cache.proofs.Stores.{Absent, HeldAt, held_length, absent_from, at_place, cleaned_used, cleaned_held, cleaned_at, cleaned_holds}
use Rattle.cache.proofs.Stores.{cleaned_shows, replaced_other, installed_used, installed_holds, installed_shows, installed_held, used_f}
use Rattle.cache.proofs.Stores.{sector_f}

-- two disks of one shape that show the same
pub same_meaning : (m : Meaning) (b : ℕ → List ℕ) → b ≡ m.bytes →
    ◌≡◌ {A = Meaning} (record { count = m.count; bytes = b; dead = m.dead; reads = m.reads; writes = m.writes }) m
same_meaning m b e = rw e

-- 512 bytes written leave every sector with 512 bytes
pub written_sized : (m : Meaning) (x : ℕ) (b : List ℕ) → Sized m → length b ≡ 512 → Sized (written_one m x b)
written_sized m x b sizes long y inside = elim (cases_Bool (eqb y x)) [ inl e ↦ rw e long | inr e ↦ rw e (sizes y inside) ]

module _ {Setting State : Type 0} (r : Rules Setting State) (shape : Shape r) where
  module _ (v : View State) (s : Sound r v) where
    -- the pins are in use
    pub pinned_used : v.store.pinned ≤ in_use v.store
    pinned_used = let p = s.placing in omega arith

    pub pinned_held : v.store.pinned ≤ length (held v.store)
    pinned_held = rw (held_length v.store) pinned_used

    -- a place that the policy gives up is in use or the next
    pub place_next : (next_place r v ≤ in_use v.store) × (next_place r v < 72)
    place_next =
        let p = s.placing in let w = shape.within v.policy p.reached in
        elim (cases_lt (r.filled v.policy) (r.frames v.policy)) [
          | inl k ↦ let e = shape.room_place v.policy p.reached k in (omega arith, omega arith)
          | inr k ↦ let e = shape.full_place v.policy p.reached (omega arith) in (omega arith, omega arith)
        ]

    -- the frames filled after it
    pub placed_filled : r.filled (r.placed v.policy) + v.store.pinned ≡ cond (ltb (next_place r v) (in_use v.store)) (in_use v.store)
        (in_use v.store + 1)
    placed_filled =
        let p = s.placing in let w = shape.within v.policy p.reached in
        elim (cases_lt (r.filled v.policy) (r.frames v.policy)) [
          | inl k ↦
              let e = shape.room_place v.policy p.reached k in
              let m = shape.room_filled v.policy p.reached k in
              rw (le-ltb (next_place r v) (in_use v.store) (omega arith)) (omega arith)
          | inr k ↦
              let full : r.filled v.policy ≡ r.frames v.policy = omega arith in
              let q = shape.full_place v.policy p.reached full in
              let m = shape.full_filled v.policy p.reached full in
              rw (lt-ltb (next_place r v) (in_use v.store) (omega arith)) (omega arith)
        ]

  -- a use of a filled frame
  pub used_sound : (v : View State) (f : ℕ) → Sound r v → f < r.filled v.policy → Sound r (used_frame r v f)
  used_sound v f s k =
      let p = s.placing in
      let a = shape.used_frames v.policy p.reached f k in
      let b = shape.used_filled v.policy p.reached f k in
      record {
        placing = record { reached = used p.reached f k; most = omega arith; few = p.few; filled = omega arith };
        holding = s.holding;
        sizes = s.sizes;
        tallied = s.tallied;
      }

  -- what holds of a view w that is v with place p vacated for x
  pub record Vacated (v w : View State) (p x : ℕ) : Type 0 where
    pub sound : Sound r w
    pub shows : seen w ≡ seen v
    pub policy : w.policy ≡ v.policy
    pub holds : held w.store ≡ held v.store
    pub pinned : w.store.pinned ≡ v.store.pinned
    pub count : w.below.count ≡ v.below.count
    pub dead : w.below.dead ≡ v.below.dead
    pub bytes : w.below.bytes x ≡ v.below.bytes x
    pub fetched : w.fetched ≡ v.fetched
    pub below : w.below ≡ cond (ltb p (in_use v.store) && (place_at v.store p).dirty)
        (written_one v.below (place_at v.store p).sector (place_at v.store p).block) v.below
    pub clean : p < in_use w.store → (place_at w.store p).dirty ≡ false
    pub dirty : (y : ℕ) → (is_dirty w.store y && not (has_sector w.store p y)) ≡ (is_dirty v.store y && not (has_sector v.store p y))

  -- where nothing is written below
  vacated_same : (v : View State) (p x : ℕ) → Sound r v →
      v.below ≡ cond (ltb p (in_use v.store) && (place_at v.store p).dirty)
      (written_one v.below (place_at v.store p).sector (place_at v.store p).block) v.below →
      (p < in_use v.store → (place_at v.store p).dirty ≡ false) → Vacated v v p x
  vacated_same v p x s below clean = record {
    sound = s;
    shows = refl;
    policy = refl;
    holds = refl;
    pinned = refl;
    count = refl;
    dead = refl;
    bytes = refl;
    fetched = refl;
    below = below;
    clean = clean;
    dirty = λ y. refl;
  }

  pub vacated_is : (v : View State) (p x : ℕ) → Sound r v → Absent v.store x → Vacated v (vacated_view v p) p x
  vacated_is v p x s none = elim (cases_Bool (ltb p (in_use v.store))) [
    | inl e ↦ elim (cases_Bool (place_at v.store p).dirty) [
      | inl d ↦ let low = ltb-true p (in_use v.store) e in rw (e, d) (record {
        sound = record {
          placing = rw (cleaned_used v.store p) s.placing;
          holding = cleaned_holds v.store s.holding p low;
          sizes = written_sized v.below _ _ s.sizes (s.holding.sized p low);
          tallied = (s.tallied.0, omega arith);
        };
        dirty = λ y. cleaned_still v.store p low s.holding.apart y;
        shows = same_meaning (seen v) _ (cleaned_shows v.store s.holding p low);
        policy = refl;
        holds = cleaned_held v.store p;
        pinned = refl;
        count = refl;
        dead = refl;
        fetched = refl;
        below = rw (e, d);
        bytes = replaced_other v.below.bytes _ x _ (λ k. none p low (sym k));
        clean = λ h. cleaned_at v.store p low;
      })
      | inr d ↦ rw (e, d) (vacated_same v p x s (rw (e, d)) (λ h. d))
    ]
    | inr e ↦ rw e (vacated_same v p x s (rw e) (λ h. let q = ltb-false p (in_use v.store) e in absurd (omega arith)))
  ]

  -- a sector x that is not held, live below, put at place p, which is clean or the next
  module _ (w : View State) (x p : ℕ) (s : Sound r w) (none : Absent w.store x) (is : p ≡ next_place r w)
      (inside : x < w.below.count) (live : w.below.dead x ≡ false) (sized : length (w.below.bytes x) ≡ 512)
      (clean : p < in_use w.store → (place_at w.store p).dirty ≡ false) where
    pub next : p ≤ in_use w.store
    next = rw is (place_next w s).0

    pub placed_sound : Sound r (placed_view r w p x (w.below.bytes x))
    placed_sound =
        let q = s.placing in
        let a = shape.placed_frames w.policy q.reached in
        record {
          placing =
              record {
                reached = placed q.reached;
                most = omega arith;
                few = q.few;
                filled = rw (installed_used w.store s.holding x p none next, is) (placed_filled w s);
              };
          holding = installed_holds w.store s.holding x p none next inside live sized;
          sizes = s.sizes;
          tallied = s.tallied;
        }

    pub placed_shows : seen (placed_view r w p x (w.below.bytes x)) ≡ seen w
    placed_shows = same_meaning (seen w) _ (installed_shows w.store s.holding x p none next clean placed_sound.holding)

    placed_held : held (installed w.store p x (w.below.bytes x)) ≡ put (held w.store) p x
    placed_held = installed_held w.store s.holding x p none next

    pub placed_touches : machine (placed_view r w p x (w.below.bytes x)) ≡ fetch r (machine w) x
    placed_touches = rw (placed_held, is, put_back w.store.pinned (r.place w.policy) x (held w.store) (pinned_held w s))

    pub placed_pins : pins (placed_view r w p x (w.below.bytes x)).store ≡ pins w.store
    placed_pins = rw (placed_held, is) (put_front w.store.pinned (r.place w.policy) x (held w.store) (pinned_held w s))

    pub placed_at : HeldAt (placed_view r w p x (w.below.bytes x)).store x p
    placed_at = (used_f w.store s.holding x p none next, sector_f w.store s.holding x p none next)

    pub placed_dirty : (y : ℕ) →
        is_dirty (placed_view r w p x (w.below.bytes x)).store y ≡ (is_dirty w.store y && not (has_sector w.store p y))
    placed_dirty = installed_dirty w.store s.holding x p none next placed_sound.holding.apart

  -- what holds of a view w that is v after a fetch of x into place p
  pub record Fetched (v w : View State) (p x : ℕ) : Type 0 where
    pub sound : Sound r w
    pub shows : seen w ≡ seen v
    pub pinned : pins w.store ≡ pins v.store
    pub touches : machine w ≡ fetch r (machine v) x
    pub at : HeldAt w.store x p
    pub counts : w.fetched ≡ raised v.fetched
    pub below : w.below ≡ fetched_below r v
    pub dirty : (y : ℕ) → is_dirty w.store y ≡ (is_dirty v.store y && not (puts_out r v y))

  pub fetched_facts : (v : View State) (x : ℕ) → Sound r v → member x (held v.store) ≡ false → serves v.below x 512 ≡ true →
      Fetched v (fetched_view r v x) (next_place r v) x
  fetched_facts v x s out served =
      let p = next_place r v in
      let none = absent_from v.store x out in
      let u = looked_view v in
      let w = vacated_view u p in
      let q : Vacated u w p x =
      vacated_is u p x (record { placing = s.placing; holding = s.holding; sizes = s.sizes; tallied = (omega arith, s.tallied.1) })
      none in
      let l = live_served v.below x 512 served in
      let inside : x < w.below.count = rw q.count l.inside in
      let live : w.below.dead x ≡ false = rw q.dead l.live in
      let sized : length (w.below.bytes x) ≡ 512 = rw q.bytes (s.sizes x l.inside) in
      let is : p ≡ next_place r w = rw (q.policy, q.pinned) in
      let out' : member x (held w.store) ≡ false = rw q.holds out in
      let none' = absent_from w.store x out' in
      let P : List ℕ → Type 0 = λ b. Fetched v (placed_view r w p x b) p x in
      subst P q.bytes (record {
        sound = placed_sound w x p q.sound none' is inside live sized q.clean;
        shows = placed_shows w x p q.sound none' is inside live sized q.clean ∙ q.shows;
        pinned = placed_pins w x p q.sound none' is inside live sized q.clean ∙ rw (q.holds, q.pinned);
        touches = placed_touches w x p q.sound none' is inside live sized q.clean ∙ rw (q.policy, q.holds, q.pinned);
        at = placed_at w x p q.sound none' is inside live sized q.clean;
        counts = ap raised q.fetched;
        below = q.below;
        dirty = λ y. placed_dirty w x p q.sound none' is inside live sized q.clean y ∙ q.dirty y;
      })

  -- whether an access to x makes a fetch
  abbrev fetches_for : View State → ℕ → Bool
  fetches_for v x = (serves v.below x 512 && not (member x (pins v.store))) && not (member x (framed v.store))

  -- what holds of a view w that is v after an access to x
  pub record Touched (v w : View State) (x : ℕ) : Type 0 where
    pub sound : Sound r w
    pub shows : seen w ≡ seen v
    pub pinned : pins w.store ≡ pins v.store
    pub touches : machine w ≡ cond (serves v.below x 512 && not (member x (pins v.store))) (touch r (machine v) x) (machine v)
    pub at : serves v.below x 512 ≡ true → HeldAt w.store x (place_of r v x)
    pub counts : w.fetched ≡ cond (fetches_for v x) (raised v.fetched) v.fetched
    pub below : w.below ≡ cond (fetches_for v x) (fetched_below r v) v.below
    pub dirty : (y : ℕ) → is_dirty w.store y ≡ (is_dirty v.store y && not (fetches_for v x && puts_out r v y))
    pub refused : serves v.below x 512 ≡ false → w ≡ v

  module _ (v : View State) (x : ℕ) (s : Sound r v) where
    abbrev cut : Type 0
    cut = member x (held v.store) ≡ (member x (pins v.store) || member x (framed v.store))

    in_parts : cut
    in_parts = member_cut x v.store.pinned (held v.store)

    -- a sector that is held is served
    pub held_served : member x (held v.store) ≡ true → serves v.below x 512 ≡ true
    held_served e =
        let p = at_place v.store x e in
        let i = place_in x (held v.store) in
        ap is_ok (answer_live v.below x 512 refl (rw p.1 at (s.holding.inside i p.0)) (rw p.1 at (s.holding.live i p.0)))

    -- the frame of one that is held and not pinned
    pub frame_filled : member x (held v.store) ≡ true → v.store.pinned ≤ place_in x (held v.store) →
        place_in x (held v.store) - v.store.pinned < r.filled v.policy
    frame_filled e low =
        let p = (at_place v.store x e).0 in
        let q = s.placing.filled in
        omega arith

    pub frame_is : member x (pins v.store) ≡ false → place_in x (held v.store) ≡ v.store.pinned + place_in x (framed v.store)
    frame_is out = place_back x v.store.pinned (held v.store) (pinned_held v s) out

    hit_pin : member x (held v.store) ≡ true → member x (pins v.store) ≡ true → Touched v (used_view r v (place_in x (held v.store))) x
    hit_pin e q =
        let k = held_served e in
        let low = place_front x v.store.pinned (held v.store) q in
        rw (lt-ltb (place_in x (held v.store)) v.store.pinned low) (record {
          sound = s;
          shows = refl;
          pinned = refl;
          touches = rw (k, q);
          at = λ _. rw e (at_place v.store x e);
          counts = rw (k, q);
          below = rw (k, q);
          dirty = λ y. rw (k, q) (sym (and_true _ _ refl));
          refused = λ n. absurd (true≢false (sym k ∙ n));
        })

    hit_frame : member x (held v.store) ≡ true → member x (pins v.store) ≡ false → Touched v (used_view r v (place_in x (held v.store))) x
    hit_frame e q =
        let k = held_served e in
        let m : member x (framed v.store) ≡ true = rw q at (sym in_parts ∙ e) in
        let at-frame = frame_is q in
        let low : v.store.pinned ≤ place_in x (held v.store) = omega arith in
        let frame : place_in x (held v.store) - v.store.pinned ≡ place_in x (framed v.store) = omega arith in
        rw (le-ltb (place_in x (held v.store)) v.store.pinned low) (record {
          sound = used_sound v _ s (frame_filled e low);
          shows = refl;
          pinned = refl;
          touches = rw (k, q, m, frame);
          at = λ _. rw e (at_place v.store x e);
          counts = rw (k, q, m);
          below = rw (k, q, m);
          dirty = λ y. rw (k, q, m) (sym (and_true _ _ refl));
          refused = λ n. absurd (true≢false (sym k ∙ n));
        })

    miss : member x (held v.store) ≡ false → serves v.below x 512 ≡ true → Touched v (fetched_view r v x) x
    miss e k =
        let o = or_parts (member x (pins v.store)) (member x (framed v.store)) (sym in_parts ∙ e) in
        let q = fetched_facts v x s e k in
        record {
          sound = q.sound;
          shows = q.shows;
          pinned = q.pinned;
          touches = rw (k, o.0, o.1) q.touches;
          at = λ _. rw e q.at;
          counts = rw (k, o.0, o.1) q.counts;
          below = rw (k, o.0, o.1) q.below;
          dirty = λ y. rw (k, o.0, o.1) (q.dirty y);
          refused = λ n. absurd (true≢false (sym k ∙ n));
        }

    pub touched_facts : Touched v (touched_view r v x) x
    touched_facts = elim (cases_Bool (member x (held v.store))) [
      | inl e ↦ rw e (elim (cases_Bool (member x (pins v.store))) [ inl q ↦ hit_pin e q | inr q ↦ hit_frame e q ])
      | inr e ↦ elim (cases_Bool (serves v.below x 512)) [
        | inl k ↦ rw (e, k) (miss e k)
        | inr k ↦ rw (e, k) (record {
          sound = s;
          shows = refl;
          pinned = refl;
          touches = rw k;
          at = λ n. absurd (true≢false (sym n ∙ k));
          counts = rw k;
          below = rw k;
          dirty = λ y. rw k (sym (and_true _ _ refl));
          refused = λ n. refl;
        })
      ]
    ]

    -- a sector that is found: its frame is filled, and the answer
    module _ (p : ℕ) (at : Some p ≡ found_in x (held v.store)) where
      pub hit_filled : v.store.pinned ≤ p → p - v.store.pinned < r.filled v.policy
      hit_filled low =
          let q = cond_some _ _ _ (sym at) in
          rw (← q.1) (frame_filled q.0 (rw (← q.1) at low))

      pub hit_answers : ◌≡◌ {A = Result ℕ Refusal} (Ok p) (with_place (answer v.below x 512) (place_of r v x))
      hit_answers =
          let q = cond_some _ _ _ (sym at) in
          let l = live_served v.below x 512 (held_served q.0) in
          rw (answer_live v.below x 512 refl l.inside l.live, q.0, q.1)

  -- every sector of a sound cache shows 512 bytes
  pub shown_sized : (v : View State) → Sound r v → Sized (seen v)
  shown_sized v s x inside = elim (cases_Bool (member x (held v.store))) [
    | inl e ↦ rw e (s.holding.sized (place_in x (held v.store)) (at_place v.store x e).0)
    | inr e ↦ rw e (s.sizes x inside)
  ]
