-- Demand schedules. Assumes nothing.
use Rattle.std.specs.Prelude.{◌≡◌, ℕ, suc, ◌<◌, true, false, List, [], ◌∷◌, ◌++◌, length, slice_index, slice_set}
use Rattle.base.specs.Lists.{member, without}

-- Demand h held touches d: a schedule on h frames that holds `held` can serve `touches` with d fetches.
pub data Demand (h : ℕ) : List ℕ → List ℕ → ℕ → Type 0 where
  done : {held : List ℕ} → Demand h held [] 0
  -- a touch of a held key changes nothing
  hit : {held : List ℕ} {x : ℕ} {touches : List ℕ} {d : ℕ} → member x held ≡ true → Demand h held touches d → Demand h held (x ∷ touches) d
  -- any other is a fetch; while there is room nothing is dropped
  fill : {held : List ℕ} {x : ℕ} {touches : List ℕ} {d : ℕ} →
      member x held ≡ false → length held < h → Demand h (x ∷ held) touches d → Demand h held (x ∷ touches) (suc d)
  -- where h keys are held, one of them is dropped first
  swap : {held : List ℕ} {x : ℕ} {touches : List ℕ} {d : ℕ} →
      member x held ≡ false → length held ≡ h → (y : ℕ) → member y held ≡ true → Demand h (x ∷ without y held) touches d →
      Demand h held (x ∷ touches) (suc d)

-- Serving h keys touches frames d: the list says for each touch the frame that serves it and then holds its key; d of them are fetches.
pub data Serving (h : ℕ) : List ℕ → List ℕ → List ℕ → ℕ → Type 0 where
  done : {keys : List ℕ} → Serving h keys [] [] 0
  hit : {keys : List ℕ} {x f : ℕ} {touches frames : List ℕ} {d : ℕ} →
      f < length keys → slice_index keys f ≡ x → Serving h keys touches frames d → Serving h keys (x ∷ touches) (f ∷ frames) d
  fill : {keys : List ℕ} {x : ℕ} {touches frames : List ℕ} {d : ℕ} →
      member x keys ≡ false → length keys < h → Serving h (keys ++ (x ∷ [])) touches frames d →
      Serving h keys (x ∷ touches) (length keys ∷ frames) (suc d)
  swap : {keys : List ℕ} {x f : ℕ} {touches frames : List ℕ} {d : ℕ} →
      member x keys ≡ false → length keys ≡ h → f < h → Serving h (slice_set keys f x) touches frames d →
      Serving h keys (x ∷ touches) (f ∷ frames) (suc d)
