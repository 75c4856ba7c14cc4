use Rattle.std.proofs.Common.{◌≡◌, ℕ, ◌-◌, ◌≤◌, min, List, map, length, take, Ok, Result, sym, ap, ◌∙◌, subst, arith, rules}
use Rattle.std.proofs.lemmas.Bool.{le-leb, true≢false}
use Rattle.std.proofs.lemmas.List.{length-take}
use Rattle.base.specs.Keys.{volume_code}
use Rattle.base.specs.declared.key.volume.VolumeKey.{VolumeKey}
use Rattle.planning.specs.declared.lists.Lists.{Lists}
use Rattle.trace.specs.declared.fault.ReplayFault.{ReplayFault}
use Rattle.trace.specs.Touches.{judged, counted, Written}
use Rattle.trace.specs.Judged.{trace_touches}
use Rattle.trace.proofs.Exact.{judged_sound, judged_placed}
use Rattle.sheet.specs.Rows.{Lent, lent, Roomy, room, row_of, frame_counts, touches_for, sheet_of, served, serving_of}
use Rattle.planning.specs.Lists.{room_in}
use Rattle.planning.proofs.Judged.{same_ok}
use Rattle.sheet.proofs.sheet.sheet_of_trace.Goals as goal

-- the touches that the lists have places for
fits : (text : List ℕ) (l : Lent) (ts : List ℕ) → judged text (room l) ≡ Ok ts → 64 ≤ l.lists.held → touches_for text l ≡ Ok ts
fits text l ts e w = rw (e, le-leb 64 l.lists.held w)

sheet_fits : (text : List ℕ) (l : Lent) (ts : List ℕ) → touches_for text l ≡ Ok ts → sheet_of text l ≡ Ok (map (row_of ts) frame_counts)
sheet_fits text l ts e = rw e

-- and the lists for each row
roomy : (text : List ℕ) (keys : List VolumeKey) (lists : Lists VolumeKey) (ts : List ℕ) (n : ℕ) →
    judged text (room (lent keys lists)) ≡ Ok ts → 64 ≤ length lists.held.now → n ≤ length ts → Roomy n lists
roomy text keys lists ts n e held l =
    let within = (judged_sound text (room (lent keys lists)) ts e).0 in
    record {
      few = omega (arith, l, within.few);
      slots = omega (arith, l, within.room);
      next = omega (arith, l, within.room);
      serving = omega (arith, l, within.room);
      held = held;
    }

pub rows_of_keys-requires : goal.rows_of_keys-requires
rows_of_keys-requires c =
    let text = c.args.text.now in
    let keys = c.args.keys.now in
    let l = lent keys c.args.lists.now in
    let ts = trace_touches c.in_ok-trace.trace in
    let er = c.min.ensures ∙ ap (min l.keys) (c.room.ensures ∙ ap room_in c.places.ensures) in
    let accepted = sym (c.in_ok-trace.ensures.answer ∙ ap (judged text) er) in
    let placed = judged_placed text (room l) l.keys ts (omega arith) accepted in
    let count = same_ok _ _ (c.in_ok-touches.ensures.answer ∙ ap counted placed) in
    let written = c.read_into.new.keys in
    let few = length-take (c.in_ok-touches.touches - 0) written in
    roomy text keys c.args.lists.now ts _ accepted c.if-lists-lt-MAX_FRAMES.false (omega (arith, few, count))

pub returns : goal.returns
returns c =
    let text = c.args.text.now in
    let l = lent c.args.keys.now c.args.lists.now in
    let er = c.min.ensures ∙ ap (min l.keys) (c.room.ensures ∙ ap room_in c.places.ensures) in
    let old = c.args.lists.now.serving.now in
    let ts = trace_touches c.in_ok-trace.trace in
    let accepted = sym (c.in_ok-trace.ensures.answer ∙ ap (judged text) er) in
    let room = judged_placed text (room l) l.keys ts (omega arith) accepted in
    let tf = fits text l ts accepted c.if-lists-lt-MAX_FRAMES.false in
    let written = c.in_ok-touches.ensures.keys in
    let count = same_ok _ _ (c.in_ok-touches.ensures.answer ∙ ap counted room) in
    let filled = subst (λ (r : Result (List ℕ) ReplayFault). Written r c.args.keys.now c.read_into.new.keys) room written in
    let all : c.in_ok-touches.touches - 0 ≡ length ts = omega (arith, count) in
    let part : map volume_code (take (c.in_ok-touches.touches - 0) c.read_into.new.keys) ≡ ts =
    ap (λ n. map volume_code (take n c.read_into.new.keys)) all ∙ filled.first in
    let rows = c.rows_of_keys.ensures.rows ∙ ap (λ (w : List ℕ). map (row_of w) frame_counts) part in
    record {
      answer = ap Ok rows ∙ sym (sheet_fits text l ts tf);
      keys = subst (λ (r : Result (List ℕ) ReplayFault). Written r c.args.keys.now c.read_into.new.keys) (sym tf) filled;
      serving = c.rows_of_keys.ensures.serving ∙ ap (λ w. served 64 w old) part ∙ sym (ap (λ r. serving_of r old) tf);
      same = c.rows_of_keys.ensures.same;
      refused = λ e. absurd (true≢false e);
    }

-- By the one tactic that proves it: where the code is wrong no other is tried.
pub returns-then-lists-lt-MAX_FRAMES-clause-answer : goal.returns-then-lists-lt-MAX_FRAMES-clause-answer
returns-then-lists-lt-MAX_FRAMES-clause-answer c = search rules
