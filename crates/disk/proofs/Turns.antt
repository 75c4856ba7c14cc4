-- Lists of turns, turn by turn.
use Rattle.std.proofs.Common.{◌≡◌, ℕ, zero, suc, ◌+◌, ◌<◌, ◌≤◌, min, Bool, true, false, cond, ◌&&◌, eqb, Result}
use Rattle.std.proofs.Common.{List, [], ◌∷◌, ◌++◌, map, length, get_or, take, set, count_by, vec_items, vec_len}
use Rattle.std.proofs.Common.{sym, refl, ap, ◌∙◌, inl, inr, append_assoc, add-zero, arith}
use mathlib.Core.Path.{fun_ext}
use Rattle.std.proofs.lemmas.Bool.{cases_Bool}
use Rattle.std.proofs.lemmas.List.{with_items_is, append-nil, map-append}
use Rattle.std.proofs.lemmas.List.Sums.{sum_by_push}
use Rattle.std.specs.Vec.{with_items}
use Rattle.base.specs.declared.refusal.Refusal.{Refusal}
use Rattle.disk.specs.declared.turn.Request.{Request}
use Rattle.disk.specs.declared.turn.Request.TheVariants.{Read, Write, Flush}
use Rattle.disk.specs.declared.turn.Turn.{Turn}
use Rattle.disk.specs.Meaning.{Meaning, Tallied, raised, answer, serves, after_read, buffer_read, largest_tally}
use Rattle.disk.specs.Asked.{Asked, is_read, is_write, after_request, buffer_request, answer_asked, after_asked, buffer_asked}
use Rattle.disk.specs.Asked.{reads_in, writes_in, latest, bytes_after, buffer_after, after_all}
use Rattle.disk.proofs.InPlace.{Replaced, replaced_more, one_before, one_after, all_before, all_after}
use Rattle.disk.specs.Turns.{asked_in, Done, Answered, AllAnswered}

-- a read served into the buffer of a turn
module _ (m : Meaning) (t : Turn) (bs : List ℕ) (is : t.request ≡ Read) (same : bs ≡ vec_items t.buffer) where
  pub read_bytes : (ws : List ℕ) → length ws ≡ vec_len t.buffer → ws ≡ buffer_read m t.sector bs →
      vec_items (with_items t.buffer ws) ≡ buffer_asked m (asked_in t)
  read_bytes ws long e = rw (is, with_items_is t.buffer ws long, ← same) e

  pub read_answers : (a : Result (Unit {0}) Refusal) → a ≡ answer m t.sector (length bs) → a ≡ answer_asked m (asked_in t)
  read_answers a e = rw (is, ← same) e

  pub read_after : (m' : Meaning) → m' ≡ after_read m t.sector bs → m' ≡ after_asked m (asked_in t)
  read_after m' e = rw (is, ← same) e

-- a tally raised n times
abbrev pub raises : ℕ → ℕ → ℕ
raises zero w = w
raises (suc n) w = raised (raises n w)

-- it is cut at its largest value
raises_cut : (n w : ℕ) → raises (suc n) w ≡ min (w + suc n) largest_tally
raises_cut zero w = omega arith
raises_cut (suc n) w = let ih = raises_cut n w in rw ih (omega arith)

raises_is : (n w : ℕ) → raises n w ≤ largest_tally → raises n w ≡ min (w + n) largest_tally
raises_is zero w h = omega arith
raises_is (suc n) w h = raises_cut n w

raises_low : (n w : ℕ) → w ≤ largest_tally → raises n w ≡ min (w + n) largest_tally
raises_low zero w h = omega arith
raises_low (suc n) w h = raises_cut n w

raises_more : (b : Bool) (n w : ℕ) → cond b (raised (raises n w)) (raises n w) ≡ raises (n + cond b 1 0) w
raises_more true n w = let e : n + 1 ≡ suc n = omega arith in rw e
raises_more false n w = rw add-zero

-- the disk once all this was asked, its tallies raised one by one
abbrev pub along : Meaning → List Asked → Meaning
along m past = record m {
  bytes = bytes_after m past;
  reads = raises (count_by (reads_in m) past) m.reads;
  writes = raises (count_by (writes_in m) past) m.writes;
}

-- this is the disk afterwards, where its tallies have 64 bits in the end, or had them at the start
pub along_is : (m : Meaning) (past : List Asked) → Tallied (along m past) → along m past ≡ after_all m past
along_is m past b = rw (raises_is (count_by (reads_in m) past) m.reads b.0, raises_is (count_by (writes_in m) past) m.writes b.1)

along_low : (m : Meaning) (past : List Asked) → Tallied m → along m past ≡ after_all m past
along_low m past b = rw (raises_low (count_by (reads_in m) past) m.reads b.0, raises_low (count_by (writes_in m) past) m.writes b.1)

-- the disk after what is asked, part by part
request_after : (n : Meaning) (q : Request) (x : ℕ) (b : List ℕ) → after_request q n x b ≡ record {
  count = n.count;
  bytes = λ y. cond ((is_write q && serves n x (length b)) && eqb y x) b (n.bytes y);
  dead = n.dead;
  reads = cond (is_read q && serves n x (length b)) (raised n.reads) n.reads;
  writes = cond (is_write q && serves n x (length b)) (raised n.writes) n.writes;
}
request_after n Read x b = elim (cases_Bool (serves n x (length b))) [ inl e ↦ rw e | inr e ↦ rw e ]
request_after n Write x b = elim (cases_Bool (serves n x (length b))) [ inl e ↦ rw e | inr e ↦ rw e ]
request_after n Flush x b = refl

module _ (m : Meaning) where
  -- one more at the end
  latest_push : (b : List ℕ) (x : ℕ) (past : List Asked) (a : Asked) →
      latest m b x (past ++ (a ∷ [])) ≡ cond (writes_in m a && eqb x a.sector) a.buffer (latest m b x past)
  latest_push b x [] a = refl
  latest_push b x (s ∷ past) a = latest_push (cond (writes_in m s && eqb x s.sector) s.buffer b) x past a

  pub along_push : (past : List Asked) (a : Asked) → along m (past ++ (a ∷ [])) ≡ after_asked (along m past) a
  along_push past a =
      let bytes : bytes_after m (past ++ (a ∷ [])) ≡ (λ y. cond (writes_in m a && eqb y a.sector) a.buffer (bytes_after m past y)) =
      fun_ext (λ y. latest_push (m.bytes y) y past a) in
      let reads = raises_more (reads_in m a) (count_by (reads_in m) past) m.reads in
      let writes = raises_more (writes_in m a) (count_by (writes_in m) past) m.writes in
      rw (
        bytes,
        sum_by_push (λ s. cond (reads_in m s) 1 0) past a,
        sum_by_push (λ s. cond (writes_in m s) 1 0) past a,
        ← reads,
        ← writes,
      ) (sym (request_after (along m past) a.request a.sector a.buffer))

  pub all_push : Tallied m → (past : List Asked) (a : Asked) → after_all m (past ++ (a ∷ [])) ≡ after_asked (after_all m past) a
  all_push b past a =
      sym (along_low m (past ++ (a ∷ [])) b) ∙ along_push past a ∙ ap (λ n. after_asked n a) (along_low m past b)

  -- the buffer that is given back by the disk after all that was asked before, whatever its tallies are
  given_back : (past : List Asked) (reads writes : ℕ) (q : Request) (x : ℕ) (b : List ℕ) →
      buffer_request q (record m { bytes = bytes_after m past; reads = reads; writes = writes }) x b
      ≡ cond (is_read q && serves m x (length b)) (bytes_after m past x) b
  given_back past reads writes Read x b = refl
  given_back past reads writes Write x b = refl
  given_back past reads writes Flush x b = refl

  buffer_along : (past : List Asked) (a : Asked) → buffer_asked (along m past) a ≡ buffer_after m past a
  buffer_along past a = given_back past (along m past).reads (along m past).writes a.request a.sector a.buffer

  pub buffer_all : (past : List Asked) (a : Asked) → buffer_asked (after_all m past) a ≡ buffer_after m past a
  buffer_all past a = given_back past (after_all m past).reads (after_all m past).writes a.request a.sector a.buffer

  -- a turn that was done on the disk after some turns is answered
  pub done_answered : (past : List Asked) (t t' : Turn) → Done (along m past) t t' → Answered m past t t'
  done_answered past t t' d = record {
    task = d.task;
    request = d.request;
    sector = d.sector;
    bytes_are = d.bytes_are ∙ buffer_along past (asked_in t);
    answers = d.answers;
  }

  answered_push : (past : List Asked) (ts ts' : List Turn) (t t' : Turn) → AllAnswered m past ts ts' →
      Answered m (past ++ map asked_in ts) t t' → AllAnswered m past (ts ++ (t ∷ [])) (ts' ++ (t' ∷ []))
  answered_push past [] [] t t' q a = (rw (append-nil past) at a, tt)
  answered_push past [] (s' ∷ ts') t t' q a = absurd q
  answered_push past (s ∷ ts) [] t t' q a = absurd q
  answered_push past (s ∷ ts) (s' ∷ ts') t t' q a =
      (q.0, answered_push (past ++ (asked_in s ∷ [])) ts ts' t t' q.1 (rw (append_assoc past (asked_in s ∷ []) (map asked_in ts)) a))

-- what holds once i turns of the list us, which is now ts, are taken
pub record Running (m : Meaning) (us ts : List Turn) (i : ℕ) (m' : Meaning) : Type 0 where
  pub replaced : Replaced us ts i
  pub answered : AllAnswered m [] (take i us) (take i ts)
  pub after : m' ≡ along m (map asked_in (take i us))

module _ (m : Meaning) (us ts : List Turn) (i : ℕ) (m' : Meaning) (q : Running m us ts i m') where
  pub running_more : (d t t' : Turn) (m'' : Meaning) → i < length ts → t ≡ get_or ts i d → Done m' t t' →
      m'' ≡ after_asked m' (asked_in t) → Running m us (set ts i t') (i + 1) m''
  running_more d t t' m'' h is e em =
      let past = map asked_in (take i us) in
      let front = one_before q.replaced d t t' h is in
      let answered = done_answered m past t t' (rw q.after at e) in
      record {
        replaced = replaced_more q.replaced d t t' h is;
        answered = rw (front, one_after q.replaced d t t' h is) (answered_push m [] (take i us) (take i ts) t t' q.answered answered);
        after = rw (front, map-append asked_in (take i us) (t ∷ []), along_push m past (asked_in t), ← q.after) em;
      }

  pub running_all : length us ≤ i → AllAnswered m [] us ts × (m' ≡ along m (map asked_in us))
  running_all h =
      let a = all_before q.replaced h in
      (rw (a, all_after q.replaced h) at q.answered, rw a at q.after)
