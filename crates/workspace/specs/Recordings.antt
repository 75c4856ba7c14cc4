-- How many places the lists of a recording have. Assumes nothing.
use Rattle.std.specs.Prelude.{vec_len}
use Rattle.base.specs.declared.limits.TheConstants.{MAX_FRAMES, MAX_TOUCHES}
use Rattle.workspace.specs.declared.TheConstants.{SLOTS}
use Rattle.sheet.specs.Rows.{Lent}
use Rattle.workspace.specs.declared.recording.Recording.{Recording}

-- how many places its lists have
abbrev pub lent_by : Recording → Lent
lent_by r = record {
  keys = vec_len r.keys;
  lists = record {
    slots = vec_len r.workspace.slots;
    next = vec_len r.workspace.next;
    held = vec_len r.workspace.held;
    serving = vec_len r.workspace.serving;
  };
}

-- as many as the longest trace and the largest cache need, and as many slots again
abbrev pub most_lent : Lent
most_lent = record {
  keys = MAX_TOUCHES;
  lists = record { slots = SLOTS; next = MAX_TOUCHES; held = MAX_FRAMES; serving = MAX_TOUCHES };
}
