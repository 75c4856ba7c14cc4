-- What a flush does, place by place.
use Rattle.std.proofs.Common.{◌≡◌, ℕ, zero, suc, ◌+◌, ◌<◌, ◌≤◌, min, Bool, false, ◌≢◌, [], take, count_by, sym, refl, ap, ◌∙◌, inl, inr}
use Rattle.std.proofs.Common.{arith}
use mathlib.Core.Path.{fun_ext}
use Rattle.std.proofs.lemmas.Bool.{cases_Bool, cases_eq}
use Rattle.policy.specs.Machine.{Rules}
use Rattle.policy.specs.Shape.{Shape}
use Rattle.std.proofs.lemmas.List.{take_all}
use Rattle.std.proofs.lemmas.List.Sums.{count_by_more_yes, count_by_more_no}
use Rattle.disk.specs.Meaning.{largest_tally}
use Rattle.cache.specs.declared.store.Place.{Place}
use Rattle.cache.specs.Places.{used, place_at, dirty, pins}
use Rattle.cache.specs.View.{View, Sound, seen, machine}
use Rattle.cache.specs.Steps.{backed_view}
use Rattle.cache.specs.Flush.{Flushed}
use Rattle.cache.proofs.Dirty.{none_dirty, shown_dirty, dirty_count}
use Rattle.cache.proofs.Stores.{blank, cleaned_used, cleaned_held, cleaned_at, cleaned_other, cleaned_holds, cleaned_shows}
use Rattle.cache.proofs.Views.{same_meaning, written_sized}

-- whether a place is dirty
abbrev is_marked : Place → Bool
is_marked p = p.dirty

-- the first n places written below where they are dirty
abbrev pub flushed_view : {State : Type 0} → View State → ℕ → View State
flushed_view v zero = v
flushed_view v (suc n) = backed_view (flushed_view v n) n

-- where nothing is dirty, the disk below has what the cache shows
pub clean_shows : {Setting State : Type 0} (r : Rules Setting State) (w : View State) → Sound r w → dirty w.store ≡ [] →
    w.below.bytes ≡ (seen w).bytes
clean_shows r w s clean = sym (shown_dirty w.store s.holding ∙ fun_ext (λ x. rw clean))

module _ {Setting State : Type 0} (r : Rules Setting State) (shape : Shape r) where
  -- what holds of w, which is v with its first n places written below
  pub record Flushing (v w : View State) (n : ℕ) : Type 0 where
    pub sound : Sound r w
    pub shows : seen w ≡ seen v
    pub stays : machine w ≡ machine v
    pub fetched : w.fetched ≡ v.fetched
    pub filled : used w.store ≡ used v.store
    pub pinned : pins w.store ≡ pins v.store
    pub clean : (i : ℕ) → i < n → (place_at w.store i).dirty ≡ false
    pub rest : (i : ℕ) → n ≤ i → (place_at w.store i).dirty ≡ (place_at v.store i).dirty
    pub reads : w.below.reads ≡ v.below.reads
    pub writes : w.below.writes ≡ min (v.below.writes + count_by is_marked (take n v.store.places.items)) largest_tally

  -- one place more
  flushing_more : (v w : View State) (n : ℕ) → n < used v.store → Flushing v w n → Flushing v (backed_view w n) (suc n)
  flushing_more v w n h q =
      let filled : n < used w.store = rw q.filled h in
      let on : n + 1 ≡ suc n = omega arith in
      elim (cases_Bool (place_at w.store n).dirty) [
        | inl d ↦ rw d (record {
          sound = record {
            placing = rw (cleaned_used w.store n) q.sound.placing;
            holding = cleaned_holds w.store q.sound.holding n filled;
            sizes = written_sized w.below _ _ q.sound.sizes (q.sound.holding.sized n filled);
            tallied = (q.sound.tallied.0, omega arith);
          };
          shows = same_meaning (seen w) _ (cleaned_shows w.store q.sound.holding n filled) ∙ q.shows;
          stays = rw (cleaned_held w.store n) q.stays;
          fetched = q.fetched;
          filled = cleaned_used w.store n ∙ q.filled;
          pinned = rw (cleaned_held w.store n) q.pinned;
          reads = q.reads;
          clean = λ i k. elim (cases_eq i n) [
            | inl e ↦ rw e (cleaned_at w.store n filled)
            | inr m ↦ rw (cleaned_other w.store n i m) (q.clean i (let m' : i ≢ n = m in omega arith))
          ];
          rest = λ i k. rw (cleaned_other w.store n i (λ e. omega arith)) (q.rest i (omega arith));
          writes =
              let e = rw on at (count_by_more_yes is_marked v.store.places.items n blank h (sym (q.rest n (omega arith)) ∙ d)) in
              let k = q.writes in
              omega (arith, e, k);
        })
        | inr d ↦ rw d (record {
          sound = q.sound;
          shows = q.shows;
          stays = q.stays;
          fetched = q.fetched;
          filled = q.filled;
          pinned = q.pinned;
          reads = q.reads;
          clean = λ i k. elim (cases_eq i n) [ inl e ↦ rw e d | inr m ↦ q.clean i (let m' : i ≢ n = m in omega arith) ];
          rest = λ i k. q.rest i (omega arith);
          writes =
              let e = rw on at (count_by_more_no is_marked v.store.places.items n blank h (sym (q.rest n (omega arith)) ∙ d)) in
              let k = q.writes in
              omega (arith, e, k);
        })
      ]

  pub flushing : (v : View State) (n : ℕ) → Sound r v → n ≤ used v.store → Flushing v (flushed_view v n) n
  flushing v zero s h = record {
    sound = s;
    shows = refl;
    stays = refl;
    fetched = refl;
    filled = refl;
    pinned = refl;
    reads = refl;
    writes = (let k = s.tallied.1 in omega arith);
    clean = λ i k. absurd (omega arith);
    rest = λ i k. refl;
  }
  flushing v (suc n) s h = flushing_more v (flushed_view v n) n (omega arith) (flushing v n s (omega arith))

  pub flushed_is : (v w : View State) → Sound r v → Flushing v w (used v.store) → Flushed v w
  flushed_is v w s q =
      let clean = none_dirty w.store (λ i k. q.clean i (rw q.filled at k)) in
      let bytes : w.below.bytes ≡ (seen v).bytes = clean_shows r w q.sound clean ∙ ap (λ m. m.bytes) q.shows in
      record {
        shows = q.shows;
        stays = q.stays;
        pinned = q.pinned;
        fetched = q.fetched;
        clean = clean;
        written = bytes ∙ shown_dirty v.store s.holding;
        bytes = bytes;
        reads = q.reads;
        writes = rw (dirty_count v.store, ← take_all (used v.store) v.store.places.items (omega arith)) q.writes;
      }

  -- the same of a view that is known to be so
  pub flushing_at : (v w : View State) (n : ℕ) → Sound r v → n ≤ used v.store → w ≡ flushed_view v n → Flushing v w n
  flushing_at v w n s h e = rw e (flushing v n s h)
