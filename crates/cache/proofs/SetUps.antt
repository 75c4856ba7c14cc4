-- Caches that are set up: empty, with one sector pinned more, and started.
use Rattle.std.proofs.Common.{◌≡◌, ℕ, ◌+◌, ◌<◌, ◌≤◌, true, false, List, [], ◌∷◌, length, sym, refl, ap, ◌∙◌, arith}
use Rattle.std.proofs.lemmas.Bool.{le-ltb}
use Rattle.std.proofs.lemmas.List.{drop_all, length-append}
use Rattle.base.specs.Lists.{member}
use Rattle.disk.specs.Meaning.{Meaning, Sized, Tallied, serves, read_one}
use Rattle.disk.proofs.Served.{live_served}
use Rattle.policy.specs.Machine.{Rules}
use Rattle.policy.specs.Shape.{first, Shape}
use Rattle.disk.specs.declared.disk.Disk as disks
use Rattle.policy.specs.declared.policy.Policy as policies
use Rattle.cache.specs.declared.set_up.SetUpCache.{SetUpCache}
use Rattle.cache.specs.declared.store.Place.{Place}
use Rattle.cache.specs.declared.store.Store.{Store}
use Rattle.cache.specs.Places.{used, dirty, clean_place, held, framed, pinned_in}
use Rattle.cache.specs.View.{View, Sound, Holding, seen}
use Rattle.cache.specs.Promise.{Begun, Taken}
use Rattle.cache.specs.SetUp.{set_up_view, FirstState, Ready, origin}
use Rattle.cache.proofs.Stores.{Absent, held_length, absent_from, installed_holds, each_then}
use Rattle.cache.proofs.Dirty.{none_dirty, clean_at}
use Rattle.cache.proofs.Flushes.{clean_shows}

-- a cache that has served nothing
abbrev pub idle : {State : Type 0} → Meaning → State → Store → View State
idle m p s = record { below = m; policy = p; store = s; fetched = 0; reads = 0; writes = 0 }

module _ {Setting State : Type 0} (r : Rules Setting State) (shape : Shape r) where
  -- an empty one
  pub empty_sound : (c : Setting) (k : ℕ) → 1 ≤ k → k ≤ 64 → (m : Meaning) (p : State) (s : Store) → Sized m → Tallied m →
      p ≡ r.first c k → s.places.items ≡ [] → s.pinned ≡ 0 →
      Sound r (idle m p s)
  empty_sound c k some most m p s sizes tallied is empty unpinned =
      let none : used s ≡ 0 = ap length empty in
      let frames : r.frames p ≡ k = rw is (shape.first_frames c k some) in
      let filled : r.filled p ≡ 0 = rw is (shape.first_filled c k some) in
      record {
        placing = record { reached = rw is (first c k some); most = omega arith; few = omega arith; filled = omega arith };
        holding = record {
          apart = λ i j h. absurd (omega arith);
          inside = λ i h. absurd (omega arith);
          live = λ i h. absurd (omega arith);
          sized = λ i h. absurd (omega arith);
          clean = λ i h. absurd (omega arith);
        };
        sizes = sizes;
        tallied = tallied;
      }

-- a cache c that is set up: no frame is filled, and nothing is dirty
module _ {D P Setting : Type 0} (d : disks.Ghosts D) (p : policies.Ghosts P Setting) (shape : Shape p.rules) (c : SetUpCache D P)
    (q : Ready d p c) where
  abbrev m : Meaning
  m = d.meaning c.below

  abbrev s : Store
  s = c.store

  framed_none : framed s ≡ []
  framed_none = drop_all s.pinned (held s) (rw (held_length s) (omega (arith, q.unfilled)))

  pub idle_shows : (seen (set_up_view d p c)).bytes ≡ m.bytes
  idle_shows = sym (clean_shows p.rules (set_up_view d p c) q.own q.clean)

  -- what a cache is started with has taken no turns
  pub idle_begun : (setting : Setting) → FirstState d p c setting → Begun p.rules (origin d p c setting)
  idle_begun setting is = record {
    some = c.geometry.some;
    most = c.geometry.most;
    first = is;
    unfilled = framed_none;
    clean = q.clean;
    bytes = idle_shows;
    counts = refl;
    tallies = (refl, refl);
    reads = q.own.tallied.0;
  }

  pub idle_taken : (setting : Setting) → FirstState d p c setting → Taken p.rules (origin d p c setting) [] (set_up_view d p c)
  idle_taken setting is = record { begun = idle_begun setting is; steps = tt; last = refl }

  -- a pin of x, which is not pinned, where it is served
  module _ (x : ℕ) (out : member x (held s) ≡ false) (room : s.pinned < 8) (served : serves m x 512 ≡ true) where
    abbrev then_store : Store
    then_store = pinned_in s x (m.bytes x)

    none : Absent s x
    none = absent_from s x out

    next : used s ≤ used s
    next = omega arith

    pinned_used : used then_store ≡ used s + 1
    pinned_used = length-append s.places.items (clean_place x (m.bytes x) ∷ [])

    pinned_holds : Holding m.count m.dead m.bytes then_store
    pinned_holds =
        let l = live_served m x 512 served in
        let h : Holding m.count m.dead m.bytes (record { pinned = s.pinned; places = then_store.places }) =
        rw (le-ltb (used s) (used s) next) at (installed_holds s q.own.holding x (used s) none next l.inside l.live
        (q.own.sizes x l.inside)) in
        record { apart = h.apart; inside = h.inside; live = h.live; sized = h.sized; clean = h.clean }

    pin_sound : Sound p.rules (idle (read_one m) (p.model c.policy) then_store)
    pin_sound =
        let k = q.own.placing in
        record {
          placing = record { reached = k.reached; most = k.most; few = omega arith; filled = rw pinned_used (omega arith) };
          holding = pinned_holds;
          sizes = q.own.sizes;
          tallied = (omega arith, q.own.tallied.1);
        }

    pin_clean : dirty then_store ≡ []
    pin_clean = none_dirty then_store (rw (le-ltb (used s) (used s) next) at
        (each_then s q.own.holding x (used s) none next (λ (w : Place). w.dirty ≡ false) refl (clean_at s q.clean)))

    -- the cache c' whose disk has served the read, and whose store has the sector, is as c was
    pub pin_kept : (c' : SetUpCache D P) (b : List ℕ) → d.meaning c'.below ≡ read_one m → c'.store ≡ pinned_in s x b → b ≡ m.bytes x →
        c'.policy ≡ c.policy →
        c'.geometry ≡ c.geometry → d.sound c'.below → Ready d p c'
    pin_kept c' b em es eb ep eg under = record {
      under = under;
      own = rw (em, es, eb, ep) pin_sound;
      setting = q.setting;
      first = rw (ep, eg) q.first;
      unfilled = rw (es, eb) (pinned_used ∙ ap (λ n. n + 1) q.unfilled);
      clean = rw (es, eb) pin_clean;
    }
