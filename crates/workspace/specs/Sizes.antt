-- How many places the lists have. Assumes nothing.
use Rattle.std.specs.Prelude.{◌≡◌, vec_len}
use Rattle.base.specs.declared.limits.TheConstants.{MAX_FRAMES, MAX_TOUCHES}
use Rattle.workspace.specs.declared.TheConstants.{SLOTS}
use Rattle.workspace.specs.declared.Workspace.{Workspace}

pub record FullSize {K : Type 0} (w : Workspace K) : Type 0 where
  pub slots : vec_len w.slots ≡ SLOTS
  pub next : vec_len w.next ≡ MAX_TOUCHES
  pub held : vec_len w.held ≡ MAX_FRAMES
  pub serving : vec_len w.serving ≡ MAX_TOUCHES
