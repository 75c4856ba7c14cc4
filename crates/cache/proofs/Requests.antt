-- Requests: an access, and then the place's bytes read or written.
use Rattle.std.proofs.Common.{inl, inr, ◌≡◌, ℕ, true, false, not, ◌&&◌, ◌||◌, eqb, List, length, is_ok, Ok, Err, Result, sym, refl, ap, ◌∙◌}
use Rattle.std.proofs.Common.{arith}
use Rattle.std.proofs.lemmas.Bool.{cases_Bool, cases_eq, cond-true, cond-false, ne_eqb, and_right, true≢false}
use Rattle.base.specs.declared.refusal.Refusal.{Refusal}
use Rattle.disk.specs.declared.turn.Request.{Request}
use Rattle.disk.specs.declared.turn.Request.TheVariants.{Read, Write, Flush}
use Rattle.disk.specs.Asked.{is_write}
use Rattle.disk.specs.Meaning.{Meaning, answer, serves, read_one, written_one}
use Rattle.policy.specs.Machine.{Rules}
use Rattle.policy.specs.Shape.{Shape}
use Rattle.cache.specs.Places.{place_at, pins, is_dirty}
use Rattle.cache.specs.View.{View, Sound, seen, machine}
use Rattle.cache.specs.Steps.{read_view, write_view, touched_view, judged_view, place_of, with_place}
use Rattle.cache.specs.Events.{Event, Took, accesses}
use Rattle.cache.specs.Requests.{Turned, misses, puts_out, dirty_after}
use Rattle.cache.proofs.Dirty.{and_true, stored_dirty}
use Rattle.cache.proofs.Stores.{HeldAt, shown_held, stored_used, stored_held, stored_holds, stored_shows}
use Rattle.cache.proofs.Views.{Touched, touched_facts}

-- a turn by its parts, with the cache after it
abbrev turn : {State : Type 0} → Request → ℕ → List ℕ → List ℕ → Result (Unit {0}) Refusal → View State → Event State
turn k x b b' a w = record { asked = record { request = k; sector = x; buffer = b }; after = b'; answer = a; cache = w }

-- what an answer with a place was
pub with_ok : (a : Result (Unit {0}) Refusal) (f g : ℕ) → Ok f ≡ with_place a g → (a ≡ Ok tt) × (f ≡ g)
with_ok (Ok u) f g h = (refl, cc)
with_ok (Err e) f g h = absurd (let z : ◌≡◌ {A = ℕ} 0 1 = cc in omega arith)

pub with_err : (a : Result (Unit {0}) Refusal) (e : Refusal) (g : ℕ) → Err e ≡ with_place a g → a ≡ Err e
with_err (Ok u) e g h = let z : ◌≡◌ {A = ℕ} 0 1 = cc in absurd (omega arith)
with_err (Err d) e g h = let q : d ≡ e = cc in ap Err q

-- what is served has a buffer of 512 bytes
served_long : (m : Meaning) (x len : ℕ) → serves m x len ≡ true → len ≡ 512
served_long m x len s = elim (cases_eq len 512) [ inl e ↦ e | inr n ↦ absurd (true≢false (sym s ∙ rw (ne_eqb len 512 n))) ]

-- a request with a buffer of 512 bytes is an access: where that is refused, it changes nothing
pub judged_touched : {Setting State : Type 0} (r : Rules Setting State) (shape : Shape r) (v : View State) (x : ℕ) → Sound r v →
    touched_view r v x ≡ judged_view r v x 512
judged_touched r shape v x s = elim (cases_Bool (serves v.below x 512)) [
  | inl e ↦ sym (cond-true (serves v.below x 512) (touched_view r v x) v e)
  | inr e ↦ (touched_facts r shape v x s).refused e ∙ sym (cond-false (serves v.below x 512) (touched_view r v x) v e)
]

-- A request for x with a buffer b to a cache v, which is w once it is judged and, where it is served, touched.
pub record AfterTouch {Setting State : Type 0} (r : Rules Setting State) (v w : View State) (x : ℕ) (b : List ℕ) : Type 0 where
  pub shape : Shape r
  pub sound : Sound r v
  pub is : w ≡ judged_view r v x (length b)

module _ {Setting State : Type 0} {r : Rules Setting State} {v w : View State} {x : ℕ} {b : List ℕ} (q : AfterTouch r v w x b) where
  -- where it was refused, nothing has changed
  module _ (e : Refusal) (refused : Err e ≡ with_place (answer v.below x (length b)) (place_of r v x)) where
    refusal : answer v.below x (length b) ≡ Err e
    refusal = with_err (answer v.below x (length b)) e (place_of r v x) refused

    unserved : serves v.below x (length b) ≡ false
    unserved = ap is_ok refusal

    pub refused_same : w ≡ v
    refused_same = q.is ∙ rw unserved

    refused_turned : (k : Request) → Turned r k v x (length b) v
    refused_turned k = record {
      refused = λ _. refl;
      pinned = refl;
      touches = rw unserved;
      counts = rw unserved;
      below = rw unserved;
      dirty = λ y. rw (unserved, and_right (is_write k) false refl) (sym (and_true (is_dirty v.store y) true refl));
    }

    refused_at : (k : Request) → accesses k ≡ true → (a : Result (Unit {0}) Refusal) → a ≡ Err e → Took r v (turn k x b b a v)
    refused_at Read one a is = record {
      answers = is ∙ sym refusal;
      fills = rw unserved;
      shows = rw unserved;
      turned = λ _. refused_turned Read;
      flushed = λ f. absurd (true≢false (ap accesses f));
    }
    refused_at Write one a is = record {
      answers = is ∙ sym refusal;
      fills = refl;
      shows = rw unserved;
      turned = λ _. refused_turned Write;
      flushed = λ f. absurd (true≢false (ap accesses f));
    }
    refused_at Flush one a is = absurd (true≢false (sym one))

    pub refused_took : (k : Request) → accesses k ≡ true → (a : Result (Unit {0}) Refusal) → a ≡ Err e → Took r v (turn k x b b a w)
    refused_took k one a is = rw refused_same (refused_at k one a is)

  -- where it was accepted, with the place f
  module _ (f : ℕ) (accepted : Ok f ≡ with_place (answer v.below x (length b)) (place_of r v x)) where
    accepting : (answer v.below x (length b) ≡ Ok tt) × (f ≡ place_of r v x)
    accepting = with_ok (answer v.below x (length b)) f (place_of r v x) accepted

    served : serves v.below x (length b) ≡ true
    served = ap is_ok accepting.0

    pub accepted_long : length b ≡ 512
    accepted_long = served_long v.below x (length b) served

    -- what the touch did
    touched_is : Touched r q.shape v w x
    touched_is = rw (q.is, served) (touched_facts r q.shape v x q.sound)

    pub accepted_at : HeldAt w.store x f
    accepted_at = rw accepting.1 (touched_is.at (rw accepted_long at served))

    dirty_is : (y : ℕ) → is_dirty w.store y ≡ (is_dirty v.store y && not (misses r v x (length b) && puts_out r v y))
    dirty_is y = rw accepted_long (touched_is.dirty y)

    -- what it did besides, also to a view that differs only in its bytes, marks and tallies
    turned : (k : Request) (w' : View State) → pins w'.store ≡ pins w.store → machine w' ≡ machine w → w'.fetched ≡ w.fetched →
        w'.below ≡ w.below → ((y : ℕ) → is_dirty w'.store y ≡ dirty_after r k v x (length b) y) → Turned r k v x (length b) w'
    turned k w' ep em ef eb ed =
        let t = touched_is in
        record {
          refused = λ n. absurd (true≢false (sym served ∙ n));
          touches = rw accepted_long (em ∙ t.touches);
          counts = rw accepted_long (ef ∙ t.counts);
          pinned = ep ∙ t.pinned;
          below = rw accepted_long (eb ∙ t.below);
          dirty = ed;
        }

    read_fills : (place_at w.store f).block ≡ (seen v).bytes x
    read_fills = sym (shown_held w.store touched_is.sound.holding w.below.bytes x f accepted_at) ∙ ap (λ m. m.bytes x) touched_is.shows

    -- the read served from it
    module _ (w' : View State) (after : w' ≡ read_view w) where
      pub read_sound : Sound r w'
      read_sound =
          let k = touched_is.sound in
          rw after (record { placing = k.placing; holding = k.holding; sizes = k.sizes; tallied = k.tallied })

      pub read_took : (bs : List ℕ) → bs ≡ (place_at w.store f).block → Took r v (turn Read x b bs (Ok tt) w')
      read_took bs fills = record {
        answers = sym accepting.0;
        fills = rw served (fills ∙ read_fills);
        shows = rw (after, served) (ap read_one touched_is.shows);
        turned = λ _. rw after (turned Read (read_view w) refl refl refl refl dirty_is);
        flushed = λ n. absurd (true≢false (ap accesses n));
      }

    -- the write served into it
    module _ (w' : View State) (after : w' ≡ write_view w f b) where
      pub write_sound : Sound r w'
      write_sound =
          let k = touched_is.sound in
          rw after (record {
            placing = rw (stored_used w.store f b) k.placing;
            holding = stored_holds w.store k.holding f accepted_at.0 b accepted_long;
            sizes = k.sizes;
            tallied = k.tallied;
          })

      write_dirty : (y : ℕ) → is_dirty (write_view w f b).store y ≡ dirty_after r Write v x (length b) y
      write_dirty y =
          rw (stored_dirty w.store f accepted_at.0 touched_is.sound.holding.apart y b, accepted_at.1, served)
          (ap (λ c. eqb y x || c) (rw served at (dirty_is y)))

      pub write_took : Took r v (turn Write x b b (Ok tt) w')
      write_took =
          let k = touched_is.sound in
          record {
            answers = sym accepting.0;
            fills = refl;
            shows = rw (after, served, stored_shows w.store k.holding f accepted_at.0 b, accepted_at.1)
                (ap (λ m. written_one m x b) touched_is.shows);
            turned = λ _. rw after
                (turned Write (write_view w f b) (rw (stored_held w.store f b)) (rw (stored_held w.store f b)) refl refl write_dirty);
            flushed = λ n. absurd (true≢false (ap accesses n));
          }
