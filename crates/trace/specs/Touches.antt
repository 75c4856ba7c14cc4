-- The touches of a trace, as codes of volume keys, and how a text is judged line by line. Assumes nothing.
use Rattle.std.specs.Prelude.{◌≡◌, ℕ, zero, suc, ◌+◌, ◌*◌, ◌^◌, cond, List, [], ◌∷◌, ◌++◌, map, length, take, drop, Ok, Err, Result, nat_le}
use Rattle.base.specs.Results.{and_then, map_err}
use Rattle.base.specs.Keys.{volume_code}
use Rattle.base.specs.declared.key.volume.VolumeKey.{VolumeKey}
use Rattle.base.specs.declared.limits.TheConstants.{MAX_TEXT_BYTES, MAX_TOUCHES}
use Rattle.base.specs.declared.refusal.Refusal.TheVariants as refusal
use Rattle.trace.specs.declared.access.Access.{Access}
use Rattle.trace.specs.declared.fault.LineFault.{LineFault}
use Rattle.trace.specs.declared.fault.LineFault.TheVariants as line_fault
use Rattle.trace.specs.declared.fault.ReplayFault.{ReplayFault}
use Rattle.trace.specs.declared.fault.ReplayFault.TheVariants as replay_fault
use Rattle.trace.specs.Splits.{lines}
use Rattle.trace.specs.Accesses.{access_of}

-- the codes of so many sectors of a unit, upward from the first
abbrev pub sectors_from : ℕ → ℕ → ℕ → List ℕ
sectors_from asu lba zero = []
sectors_from asu lba (suc n) = (asu * 2 ^ 32 + lba) ∷ sectors_from asu (lba + 1) n

-- a line touches its sectors, whether it reads or writes
abbrev pub line_touches : Access → List ℕ
line_touches a = sectors_from a.asu a.lba a.sectors

-- the touches up to and with line n, unless they exceed the most
abbrev pub so_far : ℕ → ℕ → Result ℕ LineFault
so_far n t = cond (nat_le t MAX_TOUCHES) (Ok t) (Err (line_fault.TooManyTouches n))

-- the touches of lines, the first of which is line n, with t touches before it
abbrev pub judged_lines : ℕ → ℕ → List (List ℕ) → Result (List ℕ) LineFault
judged_lines n t [] = Ok []
judged_lines n t (l ∷ ls) =
    and_then (access_of n l) (λ a.
    and_then (so_far n (t + a.sectors)) (λ s.
    and_then (judged_lines (n + 1) s ls) (λ more.
    Ok (line_touches a ++ more))))

-- the touches fit a list of so many places
abbrev pub placed : ℕ → List ℕ → Result (List ℕ) ReplayFault
placed places ts = cond (nat_le (length ts) places) (Ok ts) (Err (replay_fault.Refused refusal.TooFewPlaces))

-- the touches of a text for a list of so many places: first its length is judged, then its lines, then the places
abbrev pub judged : List ℕ → ℕ → Result (List ℕ) ReplayFault
judged text places =
    cond (nat_le (length text) MAX_TEXT_BYTES)
    (and_then (map_err replay_fault.Line (judged_lines 1 0 (lines text))) (placed places))
    (Err (replay_fault.Refused refusal.TraceTooLong))

-- how many touches were accepted
abbrev pub counted : {E : Type 0} → Result (List ℕ) E → Result ℕ E
counted (Ok ts) = Ok (length ts)
counted (Err e) = Err e

-- the touches of lines that are accepted, and none of others
abbrev pub accepted : {E : Type 0} → Result (List ℕ) E → List ℕ
accepted (Ok ts) = ts
accepted (Err e) = []

-- the touches of a text whose lines are accepted
abbrev pub touches_in : List ℕ → List ℕ
touches_in text = accepted (judged_lines 1 0 (lines text))

-- the first places hold the touches, by their codes, and the places behind are as before
pub record Filled (ts : List ℕ) (before after : List VolumeKey) : Type 0 where
  pub first : map volume_code (take (length ts) after) ≡ ts
  pub behind : drop (length ts) after ≡ drop (length ts) before

-- the key list afterwards: filled with the touches, or as before where the text is refused
abbrev pub Written : {E : Type 0} → Result (List ℕ) E → List VolumeKey → List VolumeKey → Type 0
Written (Ok ts) before after = Filled ts before after
Written (Err e) before after = after ≡ before
