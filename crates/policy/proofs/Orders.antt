-- LRU's order of the filled frames. Assumes nothing.
use Rattle.std.proofs.Common.{◌≡◌, ℕ, ◌+◌, ◌<◌, ◌≤◌, true, false, [], ◌∷◌, ◌++◌, length, sym, ◌∙◌, slice_index, arith}
use Rattle.std.proofs.lemmas.List.{length_push}
use Rattle.std.proofs.lemmas.Bool.{lt-ltb, le-ltb, ltb-true}
use Rattle.base.specs.Lists.{member, without}
use Rattle.policy.specs.FrameList.{frames_in}
use Rattle.policy.specs.declared.lru.list.FrameList.{FrameList}
use Rattle.policy.specs.Members.{member_index, without_gone}
use Rattle.policy.specs.Steps.{later_length}
use Rattle.policy.specs.Queues.{Covers, back_later}
use Rattle.policy.proofs.LinkedLists.{list_apart}

module _ (l : FrameList) (covers : Covers (frames_in l)) where
  -- the next frame to fill is new to the order
  pub next_new : member (length (frames_in l)) (frames_in l) ≡ false
  next_new = let n = length (frames_in l) in covers n ∙ le-ltb n n (omega arith)

  -- the first of the order is one of its frames
  pub first_below : 1 ≤ length (frames_in l) → slice_index (frames_in l) 0 < length (frames_in l)
  first_below some = ltb-true _ _ (sym (covers (slice_index (frames_in l) 0)) ∙ member_index (frames_in l) 0 some)

  module _ (f : ℕ) (low : f < length (frames_in l)) where
    -- the order has each frame below its length, and once
    pub held : member f (frames_in l) ≡ true
    held = covers f ∙ lt-ltb f (length (frames_in l)) low

    pub gone : member f (without f (frames_in l)) ≡ false
    gone = without_gone f (frames_in l) (list_apart l)

    -- it is as long once the frame is at its end
    pub as_long : length (without f (frames_in l) ++ (f ∷ [])) ≡ length (frames_in l)
    as_long = sym (later_length f (frames_in l) _ (back_later f (frames_in l) held))

    pub one_less : length (without f (frames_in l)) + 1 ≡ length (frames_in l)
    one_less = sym (length_push (without f (frames_in l)) f) ∙ as_long
