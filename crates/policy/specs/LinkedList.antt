-- A doubly linked list of frames, closed to a ring by a sentinel, which stands before the first and after the last.
-- Assumes nothing.
use Rattle.std.specs.Prelude.{ℕ, zero, suc, ◌+◌, ◌≤◌, Bool, ◌&&◌, List, [], ◌∷◌, ◌==◌, slice_index, slice_set, replicate}
use Rattle.base.specs.declared.limits.TheConstants.{MAX_FRAMES}

-- the sentinel's number, which is no frame's
abbrev pub sentinel : ℕ
sentinel = MAX_FRAMES

-- For each frame and the sentinel, the one after it and the one before it.
pub record Ring : Type 0 where
  pub next : List ℕ
  pub previous : List ℕ

-- each of an array's links leads to a frame or to the sentinel
abbrev pub Leads : List ℕ → Type 0
Leads links = (i : ℕ) → slice_index links i ≤ sentinel

-- the n that come after p
abbrev pub following : Ring → ℕ → ℕ → List ℕ
following r p zero = []
following r p (suc n) = slice_index r.next p ∷ following r (slice_index r.next p) n

-- whether q is the one after p, and p the one before q
abbrev pub neighbours : Ring → ℕ → ℕ → Bool
neighbours r p q = slice_index r.next p == q && slice_index r.previous q == p

-- whether each two that come one after the other in p, xs and q are neighbours
abbrev pub linked : Ring → ℕ → List ℕ → ℕ → Bool
linked r p [] q = neighbours r p q
linked r p (x ∷ xs) q = neighbours r p x && linked r x xs q

-- the sentinel alone: it comes after itself
abbrev pub sentinel_alone : Ring
sentinel_alone = record { next = replicate (MAX_FRAMES + 1) sentinel; previous = replicate (MAX_FRAMES + 1) sentinel }

-- two made neighbours
abbrev pub connected : Ring → ℕ → ℕ → Ring
connected r p q = record { next = slice_set r.next p q; previous = slice_set r.previous q p }

-- a frame taken out: the ones before and after it become neighbours
abbrev pub unlinked : Ring → ℕ → Ring
unlinked r f = connected r (slice_index r.previous f) (slice_index r.next f)

-- a frame put last: between the last so far and the sentinel
abbrev pub appended : Ring → ℕ → Ring
appended r f = connected (connected r (slice_index r.previous sentinel) f) f sentinel
