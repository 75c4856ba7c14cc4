-- Which calls a disk serves.
use Rattle.std.proofs.Common.{◌≡◌, ℕ, ◌<◌, true, false, eqb, ltb, is_ok, Ok, sym, ap, inl, inr, arith}
use Rattle.std.proofs.lemmas.Bool.{cases_Bool, lt-ltb, ltb-true, eqb-true}
use Rattle.disk.specs.Meaning.{Meaning, answer, serves}

-- a call with a whole buffer on a live sector is served
pub answer_live : (m : Meaning) (x n : ℕ) → n ≡ 512 → x < m.count → m.dead x ≡ false → answer m x n ≡ Ok tt
answer_live m x n e h l = rw (e, lt-ltb x m.count h, l)

-- and no other is
pub record Live (m : Meaning) (x n : ℕ) : Type 0 where
  pub whole : n ≡ 512
  pub inside : x < m.count
  pub live : m.dead x ≡ false

pub live_served : (m : Meaning) (x n : ℕ) → serves m x n ≡ true → Live m x n
live_served m x n h = elim (cases_Bool (eqb n 512)) [
  | inl w ↦ elim (cases_Bool (ltb x m.count)) [
    | inl e ↦ elim (cases_Bool (m.dead x)) [
      | inl d ↦ absurd (let z : true ≡ false = sym (rw (w, e, d) at h) in grind arith)
      | inr d ↦ record { whole = eqb-true n 512 w; inside = ltb-true x m.count e; live = d }
    ]
    | inr e ↦ absurd (let z : true ≡ false = sym (rw (w, e) at h) in grind arith)
  ]
  | inr w ↦ absurd (let z : true ≡ false = sym (rw w at h) in grind arith)
]

-- the answer tells whether a call is served
pub served : (m : Meaning) (x n : ℕ) → Ok tt ≡ answer m x n → serves m x n ≡ true
served m x n e = sym (ap is_ok e)

pub live_answer : (m : Meaning) (x n : ℕ) → Ok tt ≡ answer m x n → Live m x n
live_answer m x n e = live_served m x n (served m x n e)
