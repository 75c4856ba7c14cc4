-- The frames of the code's linked list. Assumes nothing.
use Rattle.std.specs.Prelude.{ℕ, List}
use Rattle.policy.specs.LinkedList.{sentinel, following}
use Rattle.policy.specs.Links.{ring}
use Rattle.policy.specs.declared.lru.list.FrameList.{FrameList}

-- those that come after the sentinel
abbrev pub frames_in : FrameList → List ℕ
frames_in l = following (ring l.links) sentinel l.len
