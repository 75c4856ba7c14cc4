use Rattle.std.proofs.Common.{◌≡◌, ℕ, ◌+◌, ◌<◌, ◌≤◌, List, [], ◌∷◌, ◌++◌, map, length, get_or, take, set, sym, ap, ◌∙◌, arith, rules}
use Rattle.std.proofs.lemmas.Grind.{common_steps}
use Rattle.std.proofs.Math.Seq.{map-set_same}
use Rattle.std.proofs.lemmas.List.{length-map, take_more, take_more_set, take_all, get_or-map}
use Rattle.base.specs.Keys.{volume_code}
use Rattle.planning.proofs.Plans.{geometry_frames}
use Rattle.sheet.specs.declared.row.Row.{Row}
use Rattle.sheet.specs.Rows.{row_of, frame_counts}
use Rattle.sheet.proofs.Sheets.{counts_within, geometry_ok, roomy_long, same_lists, served_rows, served_more}
use Rattle.sheet.proofs.sheet.rows_of_keys.Goals as goal

abbrev frames_in : Row → ℕ
frames_in r = r.frames

six : (rows : List Row) → map frames_in rows ≡ frame_counts → length rows ≡ 6
six rows e = sym (length-map rows frames_in) ∙ ap length e

-- a row's number of frames, by its place
frames_at : (rows : List Row) (i : ℕ) (d : Row) → map frames_in rows ≡ frame_counts → i < 6 →
    (get_or rows i d).frames ≡ get_or frame_counts i 0
frames_at rows i d e l = sym (get_or-map frames_in rows i d 0 (omega (arith, six rows e, l))) ∙ ap (λ (ks : List ℕ). get_or ks i 0) e

-- so it makes a geometry
within_at : (rows : List Row) (i : ℕ) (d : Row) → map frames_in rows ≡ frame_counts → i < 6 →
    (1 ≤ (get_or rows i d).frames) × ((get_or rows i d).frames ≤ 64)
within_at rows i d e l =
    let f = frames_at rows i d e l in
    let w = counts_within i l in
    (omega (arith, f, w.0), omega (arith, f, w.1))

-- one row more
rows_more : (touches : List ℕ) (rows : List Row) (i : ℕ) (row : Row) → i < 6 → length rows ≡ 6 →
    row ≡ row_of touches (get_or frame_counts i 0) → take i rows ≡ take i (map (row_of touches) frame_counts) →
    take (i + 1) (set rows i row) ≡ take (i + 1) (map (row_of touches) frame_counts)
rows_more touches rows i row l long e q =
    let ms = map (row_of touches) frame_counts in
    take_more_set rows i row (omega arith) ∙ ap (λ w. w ++ (row ∷ [])) q ∙
    ap (λ (x : Row). take i ms ++ (x ∷ [])) (e ∙ sym (get_or-map (row_of touches) frame_counts i 0 row l)) ∙ sym (take_more ms i row l)

pub unwrap-geometry-requires : goal.unwrap-geometry-requires
unwrap-geometry-requires c =
    let w = within_at c.loop-row.row-items c.loop-row.row-index _ c.loop-row.invariant.1.0 c.loop-row-test.true in
    geometry_ok _ c.new.result w.0 w.1 c.new.ensures

pub row_of_keys-requires : goal.row_of_keys-requires
row_of_keys-requires c = c.loop-row.invariant.0

pub loop-row-preserved : goal.loop-row-preserved
loop-row-preserved c =
    let i = c.loop-row.row-index in
    let rows = c.loop-row.row-items in
    let q = c.loop-row.invariant in
    let w = within_at rows i _ q.1.0 c.loop-row-test.true in
    let touches = map volume_code c.args.keys.now in
    let f = frames_at rows i _ q.1.0 c.loop-row-test.true in
    let made = geometry_frames _ _ _ w.0 w.1 c.new.ensures c.unwrap-geometry.ensures in
    let row = c.row_of_keys.ensures.counts ∙ ap (row_of touches) (made ∙ f) in (
      roomy_long _ _ _ q.0 c.row_of_keys.ensures.same,
      (
        map-set_same frames_in rows i c.row_of_keys.result _ (ap frames_in row ∙ sym f) ∙ q.1.0,
        (
          rows_more touches rows i c.row_of_keys.result c.loop-row-test.true (six rows q.1.0) row q.1.1.0,
          (
            served_more touches i _ c.args.lists.now.serving.now _ _ (made ∙ f) q.1.1.1.0 c.row_of_keys.ensures.serving,
            same_lists _ _ _ q.1.1.1.1 c.row_of_keys.ensures.same,
          ),
        ),
      ),
    )

pub returns-clause-rows : goal.returns-clause-rows
returns-clause-rows c =
    let ms : List Row = map (row_of (map volume_code c.args.keys.now)) frame_counts in
    let i = c.loop-row.row-index in
    let rows = c.loop-row.row-items in
    sym (take_all i rows (omega (arith, six rows c.loop-row.invariant.1.0, c.loop-row-test.false))) ∙ c.loop-row.invariant.1.1.0 ∙
    take_all i ms c.loop-row-test.false

pub returns-clause-serving : goal.returns-clause-serving
returns-clause-serving c =
    let touches = map volume_code c.args.keys.now in
    let six : c.loop-row.row-index ≡ 6 = omega (arith, c.loop-row-test.false, c.loop-row.auto.row-index-end) in
    c.loop-row.invariant.1.1.1.0 ∙ ap (λ n. served_rows touches n c.args.lists.now.serving.now) six

-- By the one tactic that proves it: where the code is wrong no other is tried.
pub loop-row-init : goal.loop-row-init
loop-row-init c = grind (arith, common_steps)

pub returns-clause-same : goal.returns-clause-same
returns-clause-same c = search rules
