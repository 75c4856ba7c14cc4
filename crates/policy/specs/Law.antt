-- The law that every policy keeps. Assumes nothing.
use Rattle.std.specs.Prelude.{ℕ, ◌≤◌, List}
use Rattle.base.specs.Lists.{distinct}
use Rattle.policy.specs.Machine.{Rules, start, touched, fetches}

-- after any touches, a stretch of touches with at most k different keys has at most k fetches
abbrev pub Conservative : {Setting State : Type 0} → Rules Setting State → Type 0
Conservative {Setting} r = (c : Setting) (k : ℕ) → 1 ≤ k → (before stretch : List ℕ) →
    distinct stretch ≤ k → fetches r (touched r (start r c k) before) stretch ≤ k
