-- The rows so far are counted, each row has its number of frames from the beginning, and the serving list is as the last row left it.
use Rattle.std.proofs.Common.{◌≡◌, map, length, take}
use Rattle.base.specs.Keys.{volume_code}
use Rattle.planning.specs.Lists.{SameLists}
use Rattle.sheet.specs.declared.row.Row.{Row}
use Rattle.sheet.specs.Rows.{row_of, frame_counts, Roomy}
use Rattle.sheet.proofs.Sheets.{served_rows}
use Rattle.sheet.proofs.sheet.rows_of_keys.Given as goal

abbrev pub invariant-loop-row : goal.invariant-loop-row
invariant-loop-row l =
    Roomy (length l.keys) l.lists × ((map (λ (r : Row). r.frames) l.row-items ≡ frame_counts) ×
    ((take l.row-index l.row-items ≡ take l.row-index (map (row_of (map volume_code l.keys)) frame_counts)) ×
    ((l.lists.serving.now ≡ served_rows (map volume_code l.keys) l.row-index l.initial.lists.serving.now) ×
    SameLists l.initial.lists l.lists)))
