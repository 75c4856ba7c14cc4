-- Rules that behave as others do, state by state. Assumes nothing.
use Rattle.std.specs.Prelude.{◌≡◌, ℕ, List, [], ◌∷◌, ◌++◌}
use Rattle.std.proofs.Common.{sym, ap, ◌∙◌}
use Rattle.policy.specs.Machine.{Rules}
use Rattle.policy.specs.Order.{OrderedBy}

-- setting and state of r, read as those of r', give the same answers and states
pub record Simulates {Setting State Setting' State' : Type 0} (r : Rules Setting State) (r' : Rules Setting' State')
    (setting : Setting → Setting') (state : State → State') : Type 0 where
  pub first : (c : Setting) (k : ℕ) → state (r.first c k) ≡ r'.first (setting c) k
  pub frames : (s : State) → r.frames s ≡ r'.frames (state s)
  pub filled : (s : State) → r.filled s ≡ r'.filled (state s)
  pub place : (s : State) → r.place s ≡ r'.place (state s)
  pub placed : (s : State) → state (r.placed s) ≡ r'.placed (state s)
  pub used : (s : State) (f : ℕ) → state (r.used s f) ≡ r'.used (state s) f

-- an eviction order of the others is one of theirs
pub ordered_as : {Setting State Setting' State' : Type 0} {r : Rules Setting State} {r' : Rules Setting' State'}
    {setting : Setting → Setting'} {state : State → State'} {valid : State' → Type 0} {order : State' → List ℕ} →
    Simulates r r' setting state → OrderedBy r' valid order → OrderedBy r (λ s. valid (state s)) (λ s. order (state s))
ordered_as {r} {r'} {setting} {state} {valid} {order} m o = record {
  first_valid = λ c k l. rw (m.first c k) (o.first_valid (setting c) k l);
  first_frames = λ c k. m.frames (r.first c k) ∙ ap r'.frames (m.first c k) ∙ o.first_frames (setting c) k;
  first_order = λ c k. ap order (m.first c k) ∙ o.first_order (setting c) k;
  filled_order = λ s v. m.filled s ∙ o.filled_order (state s) v;
  within = λ s v. rw (m.frames s) (o.within (state s) v);
  covers = λ s v. o.covers (state s) v;
  bounded = λ s v. o.bounded (state s) v;
  placed_valid = λ s v. rw (m.placed s) (o.placed_valid (state s) v);
  placed_frames = λ s v. m.frames (r.placed s) ∙ ap r'.frames (m.placed s) ∙ o.placed_frames (state s) v ∙ sym (m.frames s);
  room_place = λ s v l. m.place s ∙ o.room_place (state s) v (rw (m.frames s) at l);
  room_order = λ s v l. ap order (m.placed s) ∙ o.room_order (state s) v (rw (m.frames s) at l);
  full_order = λ s v e l.
      let (rest, before, after) = o.full_order (state s) v (e ∙ m.frames s) (rw (m.frames s) at l) in
      (rest, before ∙ ap (λ f. f ∷ rest) (sym (m.place s)), ap order (m.placed s) ∙ after ∙ ap (λ f. rest ++ (f ∷ [])) (sym (m.place s)));
  used_valid = λ s v f l. rw (m.used s f) (o.used_valid (state s) v f l);
  used_frames = λ s v f l. m.frames (r.used s f) ∙ ap r'.frames (m.used s f) ∙ o.used_frames (state s) v f l ∙ sym (m.frames s);
  used_order = λ s v f l. rw (m.used s f) (o.used_order (state s) v f l);
}
