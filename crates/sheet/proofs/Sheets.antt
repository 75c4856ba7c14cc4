-- The rows of a sheet, and the texts that it is made of.
use Rattle.std.proofs.Common.{◌≡◌, ℕ, zero, suc, ◌+◌, ◌<◌, ◌≤◌, List, [], ◌++◌, length, get_or, drop, true, is_ok, Ok, Err, Result}
use Rattle.std.proofs.Common.{sym, refl, ap, ◌∙◌, arith}
use Rattle.std.proofs.lemmas.List.{drop_at}
use Rattle.trace.specs.declared.fault.ReplayFault.{ReplayFault}
use Rattle.trace.specs.Touches.{counted}
use Rattle.base.specs.Geometries.{built}
use Rattle.base.specs.declared.geometry.Geometry.{Geometry}
use Rattle.base.specs.declared.refusal.Refusal.{Refusal}
use Rattle.planning.specs.Lists.{SameLists}
use Rattle.planning.specs.declared.lists.Places.{Places}
use Rattle.planning.specs.declared.lists.Lists.{Lists}
use Rattle.planning.proofs.Judged.{never, same_ok}
use Rattle.planning.specs.Minimum.{min_serves}
use Rattle.planning.proofs.Plans.{geometry_accepted, serves_length}
use Rattle.sheet.specs.Rows.{frame_counts, Roomy, served}

-- each number of frames makes a geometry
pub counts_within : (i : ℕ) → i < 6 → (1 ≤ get_or frame_counts i 0) × (get_or frame_counts i 0 ≤ 64)
counts_within zero l = (omega arith, omega arith)
counts_within (suc zero) l = (omega arith, omega arith)
counts_within (suc (suc zero)) l = (omega arith, omega arith)
counts_within (suc (suc (suc zero))) l = (omega arith, omega arith)
counts_within (suc (suc (suc (suc zero)))) l = (omega arith, omega arith)
counts_within (suc (suc (suc (suc (suc zero))))) l = (omega arith, omega arith)
counts_within (suc (suc (suc (suc (suc (suc i)))))) l = absurd (omega arith)

pub geometry_ok : (k : ℕ) (r : Result Geometry Refusal) → 1 ≤ k → k ≤ 64 → built k 0 r → is_ok r ≡ true
geometry_ok k (Ok g) some most b = refl
geometry_ok k (Err e) some most b = absurd (geometry_accepted k (Err e) e some most b refl)

-- lists stay roomy as long as they are the same
pub roomy_long : {K : Type 0} (n : ℕ) (l l' : Lists K) → Roomy n l → SameLists l l' → Roomy n l'
roomy_long n l l' q s = let e = s.long in record {
  few = q.few;
  slots = omega (arith, q.slots, ap (λ (p : Places). p.slots) e);
  next = omega (arith, q.next, ap (λ (p : Places). p.next) e);
  serving = omega (arith, q.serving, ap (λ (p : Places). p.serving) e);
  held = omega (arith, q.held, ap (λ (p : Places). p.held) e);
}

pub same_lists : {K : Type 0} (a b c : Lists K) → SameLists a b → SameLists b c → SameLists a c
same_lists a b c p q = record {
  long = q.long ∙ p.long;
  slots = q.slots ∙ p.slots;
  next = q.next ∙ p.next;
  held = q.held ∙ p.held;
  serving = q.serving ∙ p.serving;
}

-- the serving list after so many rows
abbrev pub served_rows : List ℕ → ℕ → List ℕ → List ℕ
served_rows touches zero old = old
served_rows touches (suc i) old = served (get_or frame_counts i 0) touches old

-- a row leaves what stands behind the last touch
behind_rows : (touches : List ℕ) (i : ℕ) (old : List ℕ) → drop (length touches) (served_rows touches i old) ≡ drop (length touches) old
behind_rows touches zero old = refl
behind_rows touches (suc i) old =
    let h = get_or frame_counts i 0 in
    drop_at (min_serves h [] touches) (drop (length touches) old) (length touches) (serves_length h [] touches)

pub served_more : (touches : List ℕ) (i h : ℕ) (old before after : List ℕ) → h ≡ get_or frame_counts i 0 →
    before ≡ served_rows touches i old → after ≡ served h touches before →
    after ≡ served_rows touches (i + 1) old
served_more touches i h old before after e b a =
    let next : i + 1 ≡ suc i = omega arith in
    let behind = ap (drop (length touches)) b ∙ behind_rows touches i old in
    rw next (a ∙ ap (λ n. served n touches before) e ∙ ap (λ w. min_serves (get_or frame_counts i 0) [] touches ++ w) behind)

-- a count is that of some touches
pub counted_some : (r : Result (List ℕ) ReplayFault) (n : ℕ) → Ok n ≡ counted r → (ts : List ℕ) × (r ≡ Ok ts) × (n ≡ length ts)
counted_some (Ok ts) n e = (ts, refl, same_ok _ _ e)
counted_some (Err f) n e = absurd (never _ _ (sym e))

-- the serving list after the same schedule has served the touches twice, and three times
served_again : (ms a b c : List ℕ) → b ≡ ms ++ drop (length ms) a → c ≡ ms ++ drop (length ms) b → c ≡ ms ++ drop (length ms) a
served_again ms a b c eb ec = ec ∙ rw eb (ap (λ l. ms ++ l) (drop_at ms (drop (length ms) a) (length ms) refl))

pub served_thrice : (ms a b c d : List ℕ) → b ≡ ms ++ drop (length ms) a → c ≡ ms ++ drop (length ms) b → d ≡ ms ++ drop (length ms) c →
    d ≡ ms ++ drop (length ms) a
served_thrice ms a b c d eb ec ed = served_again ms a c d (served_again ms a b c eb ec) ed
