-- Turns of tasks, as a disk alone takes them. Assumes nothing.
use Rattle.std.specs.Prelude.{◌≡◌, ℕ, List, [], ◌∷◌, ◌++◌, map, Some, Result, vec_items, codes}
use Rattle.base.specs.declared.refusal.Refusal.{Refusal}
use Rattle.disk.specs.declared.turn.Request.{Request}
use Rattle.disk.specs.declared.turn.Request.TheVariants.{Read, Write, Flush}
use Rattle.disk.specs.declared.turn.Turn.{Turn}
use Rattle.disk.specs.Meaning.{Meaning}
use Rattle.disk.specs.Asked.{Asked, answer_asked, buffer_asked, buffer_after, after_all}

-- the word that a request is printed as
abbrev pub shown_request : Request → List ℕ
shown_request Read = codes "read"
shown_request Write = codes "write"
shown_request Flush = codes "flush"

-- what a turn asks
abbrev pub asked_in : Turn → Asked
asked_in t = record { request = t.request; sector = t.sector; buffer = vec_items t.buffer }

-- a turn as it was given, and as it is given back: with its answer, and these bytes in its buffer
pub record GivenBack (t t' : Turn) (answer : Result (Unit {0}) Refusal) (bytes : List ℕ) : Type 0 where
  pub task : t'.task ≡ t.task
  pub request : t'.request ≡ t.request
  pub sector : t'.sector ≡ t.sector
  pub bytes_are : vec_items t'.buffer ≡ bytes
  pub answers : t'.answer ≡ Some answer

module _ (m : Meaning) where
  -- a turn that the disk has taken
  abbrev pub Done : Turn → Turn → Type 0
  Done t t' = GivenBack t t' (answer_asked m (asked_in t)) (buffer_asked m (asked_in t))

  -- a turn that it has taken after others: an accepted read has the bytes of the last accepted write of its sector, or those at the start
  abbrev pub Answered : List Asked → Turn → Turn → Type 0
  Answered past t t' = GivenBack t t' (answer_asked m (asked_in t)) (buffer_after m past (asked_in t))

  -- every turn of a list, one after another
  abbrev pub AllAnswered : List Asked → List Turn → List Turn → Type 0
  AllAnswered past [] [] = Unit {0}
  AllAnswered past [] (t' ∷ ts') = ⊥
  AllAnswered past (t ∷ ts) [] = ⊥
  AllAnswered past (t ∷ ts) (t' ∷ ts') = Answered past t t' × AllAnswered (past ++ (asked_in t ∷ [])) ts ts'

  -- the disk after the turns
  abbrev pub after_turns : List Turn → Meaning
  after_turns ts = after_all m (map asked_in ts)
