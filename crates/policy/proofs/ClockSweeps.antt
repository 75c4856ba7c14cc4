-- CLOCK's marks as the code sets them up and sweeps them. Assumes nothing.
use Rattle.std.proofs.Common.{◌≡◌, ℕ, zero, suc, ◌+◌, ◌<◌, ◌≤◌, Bool, true, false, cond, List, length, get_or, set}
use Rattle.std.proofs.Common.{count_by, replicate, take, ap, ◌∙◌, arith}
use Rattle.std.proofs.lemmas.List.Sums.{sum_by-set}
use Rattle.std.proofs.lemmas.List.{take-replicate, length-replicate}
use Rattle.policy.specs.Clock.{ClockState, cleared, sweep}

-- how many marks are set
abbrev pub marked : List Bool → ℕ
marked ms = count_by (λ m. m) ms

-- a mark that is set, and then cleared
marked_cleared : (ms : List Bool) (i : ℕ) → i < length ms → get_or ms i false ≡ true → marked (set ms i false) + 1 ≡ marked ms
marked_cleared ms i l e =
    let h = sum_by-set (λ (m : Bool). cond m 1 0) ms i false false l in
    let one : cond {A = ℕ} (get_or ms i false) 1 0 ≡ 1 = rw e in
    omega arith

-- so many steps, enough for the marks that are set, end the sweep from s in the state t
abbrev pub Left : ClockState → ClockState → Type 0
Left s t = (n : ℕ) × (marked s.marks ≤ n) × (sweep n s ≡ t)

-- as long as the mark under the hand is set, the sweep has a step to make
pub left_goes : (s t : ClockState) → s.hand < length s.marks → get_or s.marks s.hand false ≡ true → Left s t → Left (cleared s) t
left_goes s t low e (zero, few, left) = absurd (omega (arith, marked_cleared s.marks s.hand low e))
left_goes s t low e (suc n, few, left) = (n, omega (arith, marked_cleared s.marks s.hand low e), rw e at left)

-- the first k of 64 clear marks
pub first_marks : (k : ℕ) (all marks : List Bool) → all ≡ replicate 64 false → marks ≡ take k all → k ≤ 64 →
    (marks ≡ replicate k false) × (length marks ≡ k)
first_marks k all marks clear first most =
    let same : marks ≡ replicate k false = first ∙ ap (take k) clear ∙ take-replicate k 64 false most in
    (same, ap length same ∙ length-replicate k false)
