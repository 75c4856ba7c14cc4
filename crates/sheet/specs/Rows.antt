-- What a sheet shows of a list of touches. Assumes nothing.
use Rattle.std.specs.Prelude.{ℕ, ◌≤◌, min, cond, List, [], ◌∷◌, ◌++◌, map, length, drop, Ok, Err, Result, nat_le, decimal}
use Rattle.base.specs.Results.{and_then}
use Rattle.base.specs.declared.limits.TheConstants.{MAX_FRAMES, MAX_TOUCHES}
use Rattle.base.specs.declared.refusal.Refusal.TheVariants as refusal
use Rattle.policy.specs.Machine.{start, fetches}
use Rattle.policy.specs.Lru.{lru_rules}
use Rattle.policy.specs.Fifo.{fifo_rules}
use Rattle.policy.specs.Clock.{clock_rules}
use Rattle.planning.specs.Minimum.{min_serves, min_fetches}
use Rattle.planning.specs.Lists.{places, room_in}
use Rattle.planning.specs.declared.lists.Lists.{Lists}
use Rattle.planning.specs.declared.lists.Places.{Places}
use Rattle.trace.specs.declared.fault.ReplayFault.{ReplayFault}
use Rattle.trace.specs.declared.fault.ReplayFault.TheVariants as replay_fault
use Rattle.trace.specs.Splits.{comma}
use Rattle.trace.specs.Touches.{judged}
use Rattle.sheet.specs.declared.row.Row.{Row}

-- the fetches of each policy, and of MIN, on k frames
abbrev pub row_of : List ℕ → ℕ → Row
row_of touches k = record {
  frames = k;
  lru = fetches lru_rules (start lru_rules tt k) touches;
  fifo = fetches fifo_rules (start fifo_rules tt k) touches;
  clock = fetches clock_rules (start clock_rules tt k) touches;
  min = min_fetches k [] touches;
}

-- a row is printed as its numbers, with commas between them
abbrev pub shown_row : Row → List ℕ
shown_row r =
    decimal r.frames ++ (comma ∷ (decimal r.lru ++ (comma ∷ (decimal r.fifo ++
    (comma ∷ (decimal r.clock ++ (comma ∷ decimal r.min)))))))

-- the numbers of frames that a sheet has a row for
abbrev pub frame_counts : List ℕ
frame_counts = 1 ∷ (2 ∷ (3 ∷ (4 ∷ (8 ∷ (64 ∷ [])))))

-- how many places the lists have that the caller lends, the list of keys and those of planning
pub record Lent : Type 0 where
  pub keys : ℕ
  pub lists : Places

abbrev pub lent : {K : Type 0} → List K → Lists K → Lent
lent keys lists = record { keys = length keys; lists = places lists }

-- lists with places for so many touches and the most frames
pub record Roomy {K : Type 0} (touches : ℕ) (lists : Lists K) : Type 0 where
  pub few : touches ≤ MAX_TOUCHES
  pub slots : touches ≤ length lists.slots.now
  pub next : touches ≤ length lists.next.now
  pub serving : touches ≤ length lists.serving.now
  pub held : MAX_FRAMES ≤ length lists.held.now

-- how many touches they have places for
abbrev pub room : Lent → ℕ
room l = min l.keys (room_in l.lists)

-- the touches of a text that the lists have places for; the held-key list has a place for each of the most frames
abbrev pub touches_for : List ℕ → Lent → Result (List ℕ) ReplayFault
touches_for text l = and_then (judged text (room l))
    (λ touches. cond (nat_le MAX_FRAMES l.lists.held) (Ok touches) (Err (replay_fault.Refused refusal.TooFewPlaces)))

-- the sheet: a row for each number of frames, or the fault
abbrev pub sheet_of : List ℕ → Lent → Result (List Row) ReplayFault
sheet_of text l = and_then (touches_for text l) (λ touches. Ok (map (row_of touches) frame_counts))

-- the serving list after MIN on h frames has served some touches: a frame for each, and behind them what stood there
abbrev pub served : ℕ → List ℕ → List ℕ → List ℕ
served h touches old = min_serves h [] touches ++ drop (length touches) old

-- the serving list after a sheet, of which the row of 64 frames is the last; after a fault what it was
abbrev pub serving_of : Result (List ℕ) ReplayFault → List ℕ → List ℕ
serving_of (Ok touches) old = served 64 touches old
serving_of (Err fault) old = old
