-- How the lists of a replay are judged.
use Rattle.std.proofs.Common.{◌≡◌, ℕ, ◌<◌, ◌≤◌, ◌&&◌, leb, List, map, length, get_or, Ok, Err, Result, sym, ap, ◌∙◌, inl, inr, arith}
use Rattle.std.specs.Result.{result_and}
use Rattle.std.proofs.lemmas.Bool.{cases_Bool, and_parts, leb-true}
use Rattle.base.specs.declared.limits.TheConstants.{MAX_TOUCHES}
use Rattle.base.specs.declared.refusal.Refusal.{Refusal}
use Rattle.policy.specs.Machine.{Rules, start, fetches}
use Rattle.planning.specs.Replay.{lists_answer, replayed}

pub never : {A E : Type 0} (e : E) (a : A) → ◌≡◌ {A = Result A E} (Err e) (Ok a) → ⊥
never e a h = let z : ◌≡◌ {A = ℕ} 0 1 = cc in omega arith

pub same_ok : {A E : Type 0} (a b : A) → ◌≡◌ {A = Result A E} (Ok a) (Ok b) → a ≡ b
same_ok a b h = cc

same_err : {A E : Type 0} (a b : E) → ◌≡◌ {A = Result A E} (Err a) (Err b) → a ≡ b
same_err a b h = cc

-- lists that pass have enough places
pub record Enough (touches slots k held : ℕ) : Type 0 where
  pub few : touches ≤ 4096
  pub slots_for : touches ≤ slots
  pub held_for : k ≤ held

pub lists_enough : (n slots k held : ℕ) → Ok tt ≡ lists_answer n slots k held → Enough n slots k held
lists_enough n slots k held e = elim (cases_Bool (leb n MAX_TOUCHES)) [
  | inl a ↦ elim (cases_Bool (leb n slots && leb k held)) [
    | inl b ↦
        let p = and_parts (leb n slots) (leb k held) b in
        record { few = leb-true n MAX_TOUCHES a; slots_for = leb-true n slots p.0; held_for = leb-true k held p.1 }
    | inr b ↦ absurd (never _ tt (sym (rw (a, b) at e)))
  ]
  | inr a ↦ absurd (never _ tt (sym (rw a at e)))
]

module _ {Setting State : Type 0} (r : Rules Setting State) (c : Setting) (k : ℕ) (touches : List ℕ) (slots held : ℕ) where
  pub replayed_refused : (e : Refusal) → Err e ≡ lists_answer (length touches) slots k held → Err e ≡ replayed r c k touches slots held
  replayed_refused e h = ap (λ q. result_and q (Ok (fetches r (start r c k) touches))) h

  pub replayed_accepted : Ok tt ≡ lists_answer (length touches) slots k held →
      replayed r c k touches slots held ≡ Ok (fetches r (start r c k) touches)
  replayed_accepted h = sym (ap (λ q. result_and q (Ok (fetches r (start r c k) touches))) h)
