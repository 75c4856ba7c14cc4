-- Reading accepts the traces within the limits, and no other text. Assumes nothing.
use Rattle.std.specs.Result.{IsErr}
use Rattle.std.proofs.Common.{◌≡◌, ℕ, ◌+◌, ◌≤◌, List, map, length, take, Ok, Err, Result, sym, refl, ap, ◌∙◌, subst, inl, inr, arith}
use Rattle.std.proofs.lemmas.Bool.{le-leb}
use Rattle.base.specs.Keys.{volume_code}
use Rattle.base.specs.declared.key.volume.VolumeKey.{VolumeKey}
use Rattle.trace.specs.declared.fault.ReplayFault.{ReplayFault}
use Rattle.trace.specs.Touches.{placed, judged, counted, Written}
use Rattle.trace.specs.Traces.{Trace, Within, Reads}
use Rattle.trace.specs.Refused.{Refused, Refuses}
use Rattle.trace.specs.Faults.{reported}
use Rattle.trace.proofs.Accepted.{never, ok_same, err_same}
use Rattle.trace.proofs.Complete.{trace_accepted}
use Rattle.trace.proofs.Refusing.{refused_judged}
use Rattle.trace.proofs.Deciding.{decided}

counted_parts : {E : Type 0} (r : Result (List ℕ) E) (n : ℕ) → counted r ≡ Ok n → (ts : List ℕ) × (r ≡ Ok ts) × (length ts ≡ n)
counted_parts (Ok ts) n h = (ts, refl, ok_same h)
counted_parts (Err e) n h = never h

counted_err : {E : Type 0} (r : Result (List ℕ) E) (f : E) → counted r ≡ Err f → r ≡ Err f
counted_err (Ok ts) f h = never (sym h)
counted_err (Err e) f h = ap (λ g. Err g) (err_same h)

judged_complete : (text : List ℕ) (places : ℕ) (ts : List ℕ) → Trace text ts → Within text (length ts) places → judged text places ≡ Ok ts
judged_complete text places ts h w =
    let few : 0 + length ts ≤ 4096 = omega (arith, w.few) in
    rw (le-leb (length text) 32768 w.short, trace_accepted h 1 0 few, le-leb (length ts) places w.room)

written_first : {E : Type 0} (r : Result (List ℕ) E) (ts : List ℕ) (before after : List VolumeKey) → r ≡ Ok ts → Written r before after →
    map volume_code (take (length ts) after) ≡ ts
written_first (Ok us) ts before after e w = subst (λ vs. map volume_code (take (length vs) after) ≡ vs) (ok_same e) w.first
written_first (Err f) ts before after e w = never e

pub judged_sound : (text : List ℕ) (places : ℕ) (ts : List ℕ) → judged text places ≡ Ok ts → Within text (length ts) places × Trace text ts
judged_sound text places ts h = elim (decided text places) [
  | inl w ↦ never (sym (refused_judged w.is).0 ∙ h)
  | inr g ↦
      let same = ok_same (sym (judged_complete text places g.ts g.trace g.within) ∙ h) in
      subst (λ us. Within text (length us) places × Trace text us) same (g.within, g.trace)
]

-- accepted touches have places in a longer list too
pub judged_placed : (text : List ℕ) (p q : ℕ) (ts : List ℕ) → p ≤ q → judged text p ≡ Ok ts → placed q ts ≡ Ok ts
judged_placed text p q ts l h = let room = (judged_sound text p ts h).0.room in rw (le-leb (length ts) q (omega arith))

pub reads_all : (text : List ℕ) (answer : Result ℕ ReplayFault) (before after : List VolumeKey) →
    answer ≡ counted (judged text (length before)) → Written (judged text (length before)) before after → Reads text answer before after
reads_all text answer before after is written = record {
  sound = λ n e.
      let p = counted_parts (judged text (length before)) n (sym is ∙ e) in
      let s = judged_sound text (length before) p.0 p.1 in
      let codes = written_first (judged text (length before)) p.0 before after p.1 written in
      let trace = subst (λ m. Trace text (map volume_code (take m after))) p.2 (subst (Trace text) (sym codes) s.1) in
      (subst (λ m. Within text m (length before)) p.2 s.0, trace);
  complete = λ ts h w.
      let e = judged_complete text (length before) ts h w in
      (is ∙ ap counted e, written_first (judged text (length before)) ts before after e written);
}

pub reads_judged : (text : List ℕ) (answer : Result ℕ ReplayFault) (before after : List VolumeKey) (ts : List ℕ) →
    Ok ts ≡ judged text (length before) → answer ≡ counted (placed (length before) ts) → Written (placed (length before) ts) before after →
    Reads text answer before after
reads_judged text answer before after ts is counts written =
    let n = length before in
    let same = judged_placed text n n ts (omega arith) (sym is) ∙ is in
    reads_all text answer before after (counts ∙ ap counted same) (subst (λ r. Written r before after) same written)

pub reads_refused : (text : List ℕ) (answer : Result ℕ ReplayFault) (keys : List VolumeKey) → answer ≡ counted (judged text (length keys)) →
    IsErr answer → Reads text answer keys keys
reads_refused text (Ok n) keys is e = absurd cc
reads_refused text (Err f) keys is e =
    let refused = counted_err (judged text (length keys)) f (sym is) in
    reads_all text (Err f) keys keys is (subst (λ r. Written r keys keys) (sym refused) refl)

-- the fault that is answered is the one that the text is refused for
pub refuses_first : (text : List ℕ) (places : ℕ) (answer : Result ℕ ReplayFault) → answer ≡ counted (judged text places) →
    Refuses text places answer
refuses_first text places answer is = record {
  sound = λ f e.
      let refused = counted_err (judged text places) f (sym is ∙ e) in
      elim (decided text places) [
        | inl w ↦
            let p = refused_judged w.is in
            let same : w.f ≡ f = err_same (sym p.0 ∙ refused) in
            subst (λ g. Refused text places g (reported g)) same (subst (Refused text places w.f) (sym p.1) w.is)
        | inr g ↦ never (sym refused ∙ judged_complete text places g.ts g.trace g.within)
      ];
  complete = λ f r w.
      let p = refused_judged w in
      (is ∙ ap counted p.0, p.1);
}
