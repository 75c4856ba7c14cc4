-- What a put and a remove come to, by whether the code has a number.
use Rattle.std.proofs.Common.{◌≡◌, ℕ, ◌+◌, ◌-◌, ◌<◌, eqb, Some, None, sym, inl, inr}
use mathlib.Core.Path.{fun_ext}
use Rattle.std.specs.Map.{update}
use Rattle.std.proofs.lemmas.Bool.{lt-ltb, cases_eq}
use Rattle.std.proofs.lemmas.Map.{update_here, update_apart}
use Rattle.index.specs.Maps.{Map, after_put, after_remove}

module _ (m : Map) (code : ℕ) where
  pub after_put_known : (number old : ℕ) → m.at code ≡ Some old →
      after_put m code number ≡ record { at = update eqb m.at code (Some number); size = m.size; places = m.places }
  after_put_known number old e = rw e

  pub after_put_new : (number : ℕ) → m.at code ≡ None → m.size < m.places →
      after_put m code number ≡ record { at = update eqb m.at code (Some number); size = m.size + 1; places = m.places }
  after_put_new number e less = rw (e, lt-ltb m.size m.places less)

  pub after_remove_known : (old : ℕ) → m.at code ≡ Some old →
      after_remove m code ≡ record { at = update eqb m.at code None; size = m.size - 1; places = m.places }
  after_remove_known old e = rw e

  unchanged : m.at code ≡ None → (c : ℕ) → update eqb m.at code None c ≡ m.at c
  unchanged e c = elim (cases_eq c code) [
    | inl same ↦ rw (same, update_here m.at code None, e)
    | inr other ↦ update_apart m.at code None c other
  ]

  pub remove_none : m.at code ≡ None → m ≡ after_remove m code
  remove_none e = sym (rw e (λ i. record { at = fun_ext (unchanged e) i; size = m.size; places = m.places }))
