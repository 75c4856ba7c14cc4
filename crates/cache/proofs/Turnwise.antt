-- A list of turns, one after another.
use Rattle.std.proofs.Common.{◌≡◌, ℕ, ◌+◌, ◌<◌, ◌≤◌, List, [], ◌∷◌, ◌++◌, map, length, get_or, take, set, Some, refl, ap, ◌∙◌, subst}
use Rattle.disk.specs.declared.turn.Turn.{Turn}
use Rattle.disk.specs.declared.disk.Disk as disks
use Rattle.policy.specs.declared.policy.Policy as policies
use Rattle.cache.specs.declared.cache.Cache.{Cache}
use Rattle.disk.specs.Meaning.{Meaning, unserved}
use Rattle.disk.specs.Asked.{answer_asked, buffer_after, after_all}
use Rattle.disk.specs.Turns.{asked_in, Answered, AllAnswered}
use Rattle.disk.proofs.InPlace.{Replaced, replaced_more, one_before, one_after, all_before, all_after}
use Rattle.cache.specs.Events.{Event, Each, AsAlone, all_asked}
use Rattle.cache.specs.Promise.{Origin, Taken}
use Rattle.cache.specs.Reading.{view}
use Rattle.cache.specs.declared.set_up.SetUpCache.{SetUpCache}
use Rattle.policy.specs.Law.{Conservative}
use Rattle.cache.specs.SetUp.{Begins, origin}
use Rattle.cache.specs.Promise.{alone}
use Rattle.cache.specs.Runs.{Report, TakesTurn, TakesTurns, TakesOne, none, more, Runs}
use Rattle.cache.proofs.Takings.{asked_push, taken_push}
use Rattle.cache.proofs.Promises.{promise_of}
use Rattle.std.proofs.Common.{append_assoc}
use Rattle.std.proofs.lemmas.List.{append-nil}

-- the events of a list of turns, in order
data Reported {State : Type 0} : List Turn → List Turn → List (Event State) → Type 0 where
  done : Reported [] [] []
  next : {t t' : Turn} {e : Event State} {ts ts' : List Turn} {es : List (Event State)} → Report t t' e → Reported ts ts' es →
      Reported (t ∷ ts) (t' ∷ ts') (e ∷ es)

-- what was asked in them
reported_asked : {State : Type 0} {ts ts' : List Turn} {es : List (Event State)} → Reported ts ts' es → all_asked es ≡ map asked_in ts
reported_asked done = refl
reported_asked (next k rest) = rw (k.asked, reported_asked rest)

-- turns whose events are those of the disk alone are answered as it answers them
module _ {State : Type 0} (m : Meaning) where
  answered : {t t' : Turn} {e : Event State} (past : List (Event State)) → Report t t' e → AsAlone m past e →
      Answered m (all_asked past) t t'
  answered past k a = record {
    task = k.back.task;
    request = k.back.request;
    sector = k.back.sector;
    bytes_are = k.back.bytes_are ∙ a.bytes ∙ ap (buffer_after m (all_asked past)) k.asked;
    answers = k.back.answers ∙ ap Some (a.answers ∙ ap (answer_asked m) k.asked);
  }

  all_alone : {ts ts' : List Turn} {es : List (Event State)} (past : List (Event State)) → Reported ts ts' es →
      Each (AsAlone m) past es → AllAnswered m (all_asked past) ts ts'
  all_alone past done a = tt
  all_alone past (next {t = t} {t' = t'} {e = e} {ts = ts} {ts' = ts'} {es = es} k rest) a =
      let more : all_asked (past ++ (e ∷ [])) ≡ all_asked past ++ (asked_in t ∷ []) = rw (asked_push past e, k.asked) in
      (answered past k a.0, rw more at (all_alone (past ++ (e ∷ [])) rest a.1))

module _ {D P Setting : Type 0} (d : disks.Ghosts D) (p : policies.Ghosts P Setting) where
  reported : {c c' : Cache D P} {ts ts' : List Turn} {es : List (Event p.State)} → TakesTurns d p c ts ts' es c' → Reported ts ts' es
  reported none = done
  reported (more k rest) = next k.report (reported rest)

  taken_all : {c c' : Cache D P} {ts ts' : List Turn} {es : List (Event p.State)} → TakesTurns d p c ts ts' es c' →
      (o : Origin Setting p.State) (past : List (Event p.State)) → Taken p.rules o past (view d p c) →
      Taken p.rules o (past ++ es) (view d p c')
  taken_all none o past t = rw (append-nil past) t
  taken_all (more {e = e} {es = es} k rest) o past t =
      rw (append_assoc past (e ∷ []) es) at
      (taken_all rest o (past ++ (e ∷ [])) (subst (Taken p.rules o (past ++ (e ∷ []))) k.leaves (taken_push p.rules o past _ e t k.took)))

  -- a run, from its start and the turns taken
  pub ran : Conservative p.rules → (s : SetUpCache D P) (c c' : Cache D P) (ts ts' : List Turn) (es : List (Event p.State)) →
      Begins d p s c → TakesTurns d p c ts ts' es c' → Runs d p s ts ts' c'
  ran law s c c' ts ts' es b k = record {
    ran = λ setting first.
        let o = origin d p s setting in
        let t = taken_all k o [] (b.taken setting first) in
        let promise = promise_of p.rules law o es (view d p c') t in
        record {
          started = c;
          begins = b;
          events = es;
          turns = k;
          alone = all_alone (alone o) [] (reported k) promise.answers;
          shows = promise.shows ∙ ap (after_all (unserved (alone o))) (reported_asked (reported k));
          taken = t;
          promise = promise;
        };
  }

  turns_push : {c c' c'' : Cache D P} {ts ts' : List Turn} {es : List (Event p.State)} {t t' : Turn} {e : Event p.State} →
      TakesTurns d p c ts ts' es c' →
      TakesTurn d p c' t t' e c'' → TakesTurns d p c (ts ++ (t ∷ [])) (ts' ++ (t' ∷ [])) (es ++ (e ∷ [])) c''
  turns_push none q = more q none
  turns_push (more k rest) q = more k (turns_push rest q)

  -- what holds once a cache, at first c₀, has taken i turns of the list us, which is now ts
  pub record Taking (c₀ : Cache D P) (us ts : List Turn) (i : ℕ) (c : Cache D P) : Type 0 where
    pub replaced : Replaced us ts i
    pub events : List (Event p.State)
    pub turns : TakesTurns d p c₀ (take i us) (take i ts) events c

  pub taking_none : (c₀ : Cache D P) (us : List Turn) → Taking c₀ us us 0 c₀
  taking_none c₀ us = record { replaced = record { rest = refl; long = refl }; events = []; turns = none }

  module _ (c₀ : Cache D P) (us ts : List Turn) (i : ℕ) (c : Cache D P) (q : Taking c₀ us ts i c) where
    pub taking_more : (e t t' : Turn) (c' : Cache D P) → i < length ts → t ≡ get_or ts i e → TakesOne d p c t t' c' →
        Taking c₀ us (set ts i t') (i + 1) c'
    taking_more e t t' c' h is k = record {
      replaced = replaced_more q.replaced e t t' h is;
      events = q.events ++ (k.event ∷ []);
      turns = rw (one_before q.replaced e t t' h is, one_after q.replaced e t t' h is) (turns_push q.turns k.taken);
    }

    pub taking_all : length us ≤ i → TakesTurns d p c₀ us ts q.events c
    taking_all h = rw (all_before q.replaced h, all_after q.replaced h) at q.turns
