-- The turns that a cache has taken since its start, one after another: what holds after one more, and so after all of them.
use Rattle.std.proofs.Common.{◌≡◌, ℕ, ◌+◌, ◌<◌, ◌≤◌, min, Bool, true, false, cond, not, ◌&&◌, ◌||◌, ltb, List, [], ◌∷◌, ◌++◌, length, Ok}
use Rattle.std.proofs.Common.{Result, sym, refl, ap, ◌∙◌, subst, inl, inr, append_assoc, arith}
use Rattle.std.proofs.lemmas.Bool.{cases_Bool, true≢false}
use Rattle.std.proofs.lemmas.List.{append-nil, map-append}
use Rattle.base.specs.declared.refusal.Refusal.{Refusal}
use Rattle.base.specs.Lists.{member}
use Rattle.disk.specs.declared.turn.Request.{Request}
use Rattle.disk.specs.declared.turn.Request.TheVariants.{Read, Write, Flush}
use Rattle.disk.specs.declared.disk.Disk as disks
use Rattle.policy.specs.declared.policy.Policy as policies
use Rattle.cache.specs.declared.cache.Cache.{Cache}
use Rattle.cache.specs.Reading.{view, event, Takes}
use Rattle.disk.specs.Meaning.{Meaning, unserved, serves, raised, largest_tally}
use Rattle.disk.specs.Asked.{Asked, is_read, is_write, answer_asked, after_asked, buffer_asked, buffer_after}
use Rattle.disk.proofs.Turns.{all_push, buffer_all}
use Rattle.policy.specs.Machine.{Rules, Machine, start, touch, touched, fetches}
use Rattle.policy.specs.Machines.{touched_append, fetches_append}
use Rattle.cache.specs.Places.{used, place_at, pins, framed}
use Rattle.cache.specs.View.{View, seen, machine}
use Rattle.cache.specs.Steps.{next_place}
use Rattle.cache.specs.Requests.{Turned, misses, fetched_below}
use Rattle.cache.specs.Flush.{Flushed}
use Rattle.cache.specs.Events.{Event, Each, Took, AsAlone, Serves, Served, nothing, reads, reads_writes, accesses}
use Rattle.cache.specs.Events.{all_asked, alone_after, touch_of, touches_of, cache_after}
use Rattle.cache.specs.Promise.{Origin, Begun, Taken, FetchesCounted, alone, touches, machine_fetches}

module _ {State : Type 0} where
  -- lists of turns with one more at the end
  pub each_push : (P : List (Event State) → Event State → Type 0) (past es : List (Event State)) (e : Event State) → Each P past es →
      P (past ++ es) e →
      Each P past (es ++ (e ∷ []))
  each_push P past [] e q a = (subst (λ (l : List (Event State)). P l e) (append-nil past) a, tt)
  each_push P past (x ∷ es) e q a =
      (q.0, each_push P (past ++ (x ∷ [])) es e q.1 (subst (λ (l : List (Event State)). P l e) (sym (append_assoc past (x ∷ []) es)) a))

  pub after_push : (v : View State) (es : List (Event State)) (e : Event State) → cache_after v (es ++ (e ∷ [])) ≡ e.cache
  after_push v [] e = refl
  after_push v (x ∷ es) e = after_push x.cache es e

-- what was asked, with one turn more
pub asked_push : {State : Type 0} (es : List (Event State)) (e : Event State) → all_asked (es ++ (e ∷ [])) ≡ all_asked es ++ (e.asked ∷ [])
asked_push {State} es e = map-append (λ (d : Event State). d.asked) es (e ∷ [])

touches_push : (m : Meaning) (pinned : List ℕ) (past : List Asked) (a : Asked) →
    touches_of m pinned (past ++ (a ∷ [])) ≡ touches_of m pinned past ++ touch_of m pinned a
touches_push m pinned [] a = append-nil (touch_of m pinned a)
touches_push m pinned (b ∷ past) a =
    ap (λ ts. touch_of m pinned b ++ ts) (touches_push m pinned past a) ∙ sym (append_assoc (touch_of m pinned b) _ _)

module _ {State : Type 0} (m : Meaning) where
  -- the disk alone after one turn more
  pub alone_push : (es : List (Event State)) (e : Event State) → alone_after m (es ++ (e ∷ [])) ≡ after_asked (alone_after m es) e.asked
  alone_push es e = rw (asked_push es e) (all_push (unserved m) (omega arith, omega arith) (all_asked es) e.asked)

  -- the buffer that it gives back
  buffer_alone : (es : List (Event State)) (a : Asked) → buffer_asked (alone_after m es) a ≡ buffer_after m (all_asked es) a
  buffer_alone es a = buffer_all (unserved m) (all_asked es) a

  pub as_alone : (es : List (Event State)) (v : View State) (e : Event State) → seen v ≡ alone_after m es →
      e.answer ≡ answer_asked (seen v) e.asked → e.after ≡ buffer_asked (seen v) e.asked →
      (e.asked.request ≡ Flush → e.cache.below.bytes ≡ (seen v).bytes) → AsAlone m es e
  as_alone es v e shows answers fills flushed = record {
    answers = answers ∙ ap (λ n. answer_asked n e.asked) shows;
    bytes = fills ∙ ap (λ n. buffer_asked n e.asked) shows ∙ buffer_alone es e.asked;
    flushed = λ q. flushed q ∙ ap (λ (n : Meaning). n.bytes) shows;
  }

-- whether a turn reads or writes, is served, and asks for a sector that is not pinned
abbrev touching : Request → Bool → Bool → Bool
touching q s pinned = ((is_read q && s) || (is_write q && s)) && not pinned

module _ {Setting State : Type 0} (r : Rules Setting State) where
  -- what a turn costs
  record Costs (v : View State) (q : Request) (s p : Bool) (x : ℕ) (v' : View State) : Type 0 where
    pub pinned : pins v'.store ≡ pins v.store
    pub frames : machine v' ≡ touched r (machine v) (cond (touching q s p) (x ∷ []) [])
    pub counts : v'.fetched ≡ cond (touching q s p && not (member x (framed v.store))) (raised v.fetched) v.fetched
    pub reads : v'.below.reads ≡ cond (touching q s p && not (member x (framed v.store))) (raised v.below.reads) v.below.reads

  touched_one : (n n' : Machine State) (s p : Bool) (x : ℕ) → n' ≡ cond (s && not p) (touch r n x) n →
      n' ≡ touched r n (cond (s && not p) (x ∷ []) [])
  touched_one n n' true true x e = e
  touched_one n n' true false x e = e
  touched_one n n' false p x e = e

  -- the reads below after a fetch or none
  fetched_reads : (v : View State) (c : Bool) (m : Meaning) → m ≡ cond c (fetched_below r v) v.below →
      m.reads ≡ cond c (raised v.below.reads) v.below.reads
  fetched_reads v true m e =
      rw e (elim (cases_Bool (ltb (next_place r v) (used v.store) && (place_at v.store (next_place r v)).dirty)) [
        | inl k ↦ rw k refl
        | inr k ↦ rw k refl
      ])
  fetched_reads v false m e = ap (λ (n : Meaning). n.reads) e

  module _ (v v' : View State) (x len : ℕ) where
    turned_costs : (q : Request) → is_read q ≡ not (is_write q) → Turned r q v x len v' →
        Costs v q (serves (seen v) x len) (member x (pins v.store)) x v'
    turned_costs q one t =
        let s = serves (seen v) x len in
        let p = member x (pins v.store) in
        let is : touching q s p ≡ (s && not p) = elim (cases_Bool (is_write q))
        [ inl w ↦ rw (one, w) | inr w ↦ rw (one, w) (elim (cases_Bool s) [ inl k ↦ rw k | inr k ↦ rw k ]) ] in
        record {
          pinned = t.pinned;
          frames = rw is (touched_one (machine v) (machine v') s p x t.touches);
          counts = rw is t.counts;
          reads = rw is (fetched_reads v (misses r v x len) v'.below t.below);
        }

    costs : (q : Request) → (accesses q ≡ true → Turned r q v x len v') → (q ≡ Flush → Flushed v v') →
        Costs v q (serves (seen v) x len) (member x (pins v.store)) x v'
    costs Read t f = turned_costs Read refl (t refl)
    costs Write t f = turned_costs Write refl (t refl)
    costs Flush t f = let k = f refl in record { pinned = k.pinned; frames = k.stays; counts = k.fetched; reads = k.reads }

  -- the disk below after a turn that is a fetch or none
  served_turn : (v : View State) (c : Bool) (m : Meaning) → m ≡ cond c (fetched_below r v) v.below → Served v.below m
  served_turn v true m e = rw e (elim (cases_Bool (ltb (next_place r v) (used v.store) && (place_at v.store (next_place r v)).dirty))
      [ inl k ↦ rw k (reads_writes _ _) | inr k ↦ rw k reads ])
  served_turn v false m e = rw e nothing

  idle_turn : (v : View State) (c : Bool) (m : Meaning) (F F' : ℕ) → m ≡ cond c (fetched_below r v) v.below → F' ≡ cond c (raised F) F →
      F' ≤ F → F < largest_tally → m ≡ v.below
  idle_turn v true m F F' e q low room = absurd (omega arith)
  idle_turn v false m F F' e q low room = e

  serves_of : (v : View State) (e : Event State) → Took r v e → Serves v e
  serves_of v e k = record {
    few = λ a. served_turn v (misses r v e.asked.sector (length e.asked.buffer)) e.cache.below (k.turned a).below;
    idle =
        λ a low room. idle_turn v (misses r v e.asked.sector (length e.asked.buffer)) e.cache.below v.fetched e.cache.fetched
        (k.turned a).below (k.turned a).counts low room;
    flush_reads = λ f. (k.flushed f).reads;
    flush_writes = λ f. (k.flushed f).writes;
  }

  -- the fetches of one touch or none
  fetch_one : (n : Machine State) (b : Bool) (x : ℕ) → fetches r n (cond b (x ∷ []) []) ≡ cond {A = ℕ} (b && not (member x n.keys)) 1 0
  fetch_one n true x = elim (cases_Bool (member x n.keys)) [ inl k ↦ rw k | inr k ↦ rw k ]
  fetch_one n false x = refl

  count_one : (c : Bool) (a F F' n : ℕ) → F ≡ min (a + n) largest_tally → F' ≡ cond c (raised F) F →
      F' ≡ min (a + (n + cond {A = ℕ} c 1 0)) largest_tally
  count_one true a F F' n e q = omega arith
  count_one false a F F' n e q = omega arith

  module _ (n₀ n : Machine State) (ts : List ℕ) (b : Bool) (x : ℕ) (is : n ≡ touched r n₀ ts) where
    -- the frames after touches and one more turn, and what is raised at each fetch, from a number on
    frames_more : (n' : Machine State) → n' ≡ touched r n (cond b (x ∷ []) []) → n' ≡ touched r n₀ (ts ++ cond b (x ∷ []) [])
    frames_more n' q = q ∙ rw (is, touched_append r n₀ ts (cond b (x ∷ []) []))

    count_more : (a F F' : ℕ) → F ≡ min (a + fetches r n₀ ts) largest_tally → F' ≡ cond (b && not (member x n.keys)) (raised F) F →
        F' ≡ min (a + fetches r n₀ (ts ++ cond b (x ∷ []) [])) largest_tally
    count_more a F F' f q =
        count_one (b && not (member x n.keys)) a F F' (fetches r n₀ ts) f q ∙
        rw (fetches_append r n₀ ts (cond b (x ∷ []) []), ← is, fetch_one n b x)

  module _ (o : Origin Setting State) where
    -- what holds of a cache v that has taken some turns
    pub record Facts (es : List (Event State)) (v : View State) : Type 0 where
      pub shows : seen v ≡ alone_after (alone o) es
      pub pinned : pins v.store ≡ pins o.cache.store
      pub frames : machine v ≡ touched r (start r o.setting o.frames) (touches o es)
      pub counts : v.fetched ≡ min (machine_fetches r o es) largest_tally
      pub reads : v.below.reads ≡ min ((alone o).reads + machine_fetches r o es) largest_tally
      pub turnwise : Each (FetchesCounted r o) [] es
      pub answers : Each (AsAlone (alone o)) [] es
      pub asks : Each (λ past e. Serves (cache_after o.cache past) e) [] es

    facts_none : Begun r o → Facts [] o.cache
    facts_none b = record {
      shows = rw (b.bytes, b.tallies.0, b.tallies.1);
      pinned = refl;
      frames = rw (b.first, b.unfilled);
      counts = b.counts;
      reads = (let k = b.reads in omega arith);
      turnwise = tt;
      answers = tt;
      asks = tt;
    }

    facts_more : (es : List (Event State)) (v : View State) (e : Event State) → v ≡ cache_after o.cache es → Facts es v → Took r v e →
        Facts (es ++ (e ∷ [])) e.cache
    facts_more es v e is f k =
        let m = alone o in
        let x = e.asked.sector in
        let len = length e.asked.buffer in
        let n₀ = start r o.setting o.frames in
        let serve : serves (seen v) x len ≡ serves m x len = ap (λ n. serves n x len) f.shows in
        let c = rw (serve, f.pinned) at (costs v e.cache x len e.asked.request k.turned k.flushed) in
        let b = touching e.asked.request (serves m x len) (member x (pins o.cache.store)) in
        let more = ap (touches_of m (pins o.cache.store)) (asked_push es e) ∙ touches_push m (pins o.cache.store) (all_asked es) e.asked in
        let low =
        count_more n₀ (machine v) (touches o es) b x f.frames 0 v.fetched e.cache.fetched (let q = f.counts in omega arith) c.counts in
        let counts : e.cache.fetched ≡ min (machine_fetches r o (es ++ (e ∷ []))) largest_tally = rw more (omega (arith, low)) in
        record {
          shows = k.shows ∙ rw f.shows (sym (alone_push m es e));
          pinned = c.pinned ∙ f.pinned;
          frames = rw more (frames_more n₀ (machine v) (touches o es) b x f.frames (machine e.cache) c.frames);
          counts = counts;
          reads = rw more (count_more n₀ (machine v) (touches o es) b x f.frames m.reads v.below.reads e.cache.below.reads f.reads c.reads);
          turnwise = each_push (FetchesCounted r o) [] es e f.turnwise counts;
          answers = each_push (AsAlone m) [] es e f.answers (as_alone m es v e f.shows k.answers k.fills (λ q. (k.flushed q).bytes));
          asks = each_push (λ past d. Serves (cache_after o.cache past) d) [] es e f.asks (rw is at (serves_of v e k));
        }

    -- turn by turn
    facts_all : (past es : List (Event State)) → Facts past (cache_after o.cache past) →
        Each (λ us e. Took r (cache_after o.cache us) e) past es →
        Facts (past ++ es) (cache_after o.cache (past ++ es))
    facts_all past [] f s = rw (append-nil past) f
    facts_all past (e ∷ es) f s =
        let g = facts_more past (cache_after o.cache past) e refl f s.0 in
        rw (append_assoc past (e ∷ []) es) at (facts_all (past ++ (e ∷ [])) es (rw (after_push o.cache past e) g) s.1)

    pub facts_of : (es : List (Event State)) (v : View State) → Taken r o es v → Facts es v
    facts_of es v t = rw t.last (facts_all [] es (facts_none t.begun) t.steps)

    -- one turn more
    pub taken_push : (es : List (Event State)) (v : View State) (e : Event State) → Taken r o es v → Took r v e →
        Taken r o (es ++ (e ∷ [])) e.cache
    taken_push es v e t k = record {
      begun = t.begun;
      steps = each_push (λ past d. Took r (cache_after o.cache past) d) [] es e t.steps (rw t.last at k);
      last = sym (after_push o.cache es e);
    }

module _ {D P Setting : Type 0} (d : disks.Ghosts D) (p : policies.Ghosts P Setting) where
  -- a turn that a cache took stands behind those taken before
  pub takes_of : (c c' : Cache D P) (q : Request) (x : ℕ) (b b' : List ℕ) (a : Result (Unit {0}) Refusal) →
      Took p.rules (view d p c) (event d p q x b b' a c') → Takes d p c q x b b' a c'
  takes_of c c' q x b b' a k = record { took = k; taken = λ o es t. taken_push p.rules o es (view d p c) (event d p q x b b' a c') t k }

  pub flush_takes : (c c' : Cache D P) (x : ℕ) (b : List ℕ) → Flushed (view d p c) (view d p c') → Takes d p c Flush x b b (Ok tt) c'
  flush_takes c c' x b f = takes_of c c' Flush x b b (Ok tt) (record {
    answers = refl;
    fills = refl;
    shows = f.shows;
    turned = λ q. absurd (true≢false (sym q));
    flushed = λ _. f;
  })
