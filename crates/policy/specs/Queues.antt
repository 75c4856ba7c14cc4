-- A queue of frames is an eviction order. Assumes nothing.
use Rattle.std.specs.Prelude.{◌≡◌, ℕ, ◌<◌, ◌≤◌, true, ltb, List, [], ◌∷◌, ◌++◌, length, nat_lt, slice_index, refl}
use Rattle.std.proofs.Common.{sym, ap, ◌∙◌, append-nil, append_assoc, ⊎_elim, arith}
use Rattle.std.proofs.lemmas.List.{length_push}
use Rattle.std.proofs.lemmas.Bool.Decides.{nat_tests}
use Rattle.std.proofs.lemmas.Bool.{cases_lt, lt-ltb, le-ltb, ltb-true, eq-eqb}
use Rattle.base.specs.Lists.{member, without}
use Rattle.policy.specs.Order.{Later, OrderedBy}
use Rattle.policy.specs.Queue.{Queue, to_back, queue_place, queue_rules}
use Rattle.policy.specs.Members.{member_first, member_push, member_without, without_misses, without_splits}
use Rattle.policy.specs.Steps.{later_length}

-- a member moved to the back, and one left where it was
pub back_later : (f : ℕ) (xs : List ℕ) → member f xs ≡ true → Later f xs (without f xs ++ (f ∷ []))
back_later f xs e =
    let parts = without_splits f xs e in
    (parts.0, parts.1, [], rw append-nil parts.2, rw parts.3 (append_assoc parts.0 parts.1 (f ∷ [])))

pub stays_later : (f : ℕ) (xs : List ℕ) → member f xs ≡ true → Later f xs xs
stays_later f xs e = let parts = without_splits f xs e in (parts.0, [], parts.1, parts.2, parts.2)

-- the frames below the order's length, and no others, are in it
abbrev pub Covers : List ℕ → Type 0
Covers order = (f : ℕ) → member f order ≡ nat_lt f (length order)

-- they are so once a frame is moved to the back, or the next is put there
pub covers_back : (order : List ℕ) → Covers order → (f : ℕ) → f < length order → Covers (without f order ++ (f ∷ []))
covers_back order h f l g =
    let e = h f ∙ lt-ltb f (length order) l in
    member_push g f (without f order) ∙ member_without f g order e ∙ h g ∙
    ap (ltb g) (later_length f order (without f order ++ (f ∷ [])) (back_later f order e))

pub covers_next : (order : List ℕ) → Covers order → Covers (order ++ (length order ∷ []))
covers_next order h g = member_push g (length order) order ∙ rw (h g, length_push) (grind (arith, nat_tests))

-- the next frame is new to the queue
pub next_misses : (order : List ℕ) → Covers order → without (length order) order ≡ order
next_misses order h = let n = length order in without_misses n order (h n ∙ le-ltb n n (omega arith))

-- the first of a queue, moved to the back
pub back_first : (f : ℕ) (rest : List ℕ) → without f (f ∷ rest) ++ (f ∷ []) ≡ rest ++ (f ∷ [])
back_first f rest = rw (eq-eqb f f refl)

-- the states that come up
pub record Valid (q : Queue) : Type 0 where
  pub some : 1 ≤ q.size
  pub fits : length q.order ≤ q.size
  pub frames : Covers q.order

-- the frames of the order
holds_frame : (q : Queue) → Valid q → (f : ℕ) → f < length q.order → member f q.order ≡ true
holds_frame q v f l = v.frames f ∙ lt-ltb f (length q.order) l

within_frame : (q : Queue) → Valid q → (f : ℕ) → member f q.order ≡ true → f < length q.order
within_frame q v f e = ltb-true f (length q.order) (sym (v.frames f) ∙ e)

-- a frame moved to the back
pub back_valid : (q : Queue) → Valid q → (f : ℕ) → f < length q.order → Valid (to_back q f)
back_valid q v f l =
    let same : length q.order ≡ length (to_back q f).order =
    later_length f q.order (to_back q f).order (back_later f q.order (holds_frame q v f l)) in
    record { some = v.some; fits = omega arith; frames = covers_back q.order v.frames f l }

-- a place while there is room
abbrev grown : Queue → Queue
grown q = record q { order = q.order ++ (length q.order ∷ []) }

grown_valid : (q : Queue) → Valid q → length q.order < q.size → Valid (grown q)
grown_valid q v l = record { some = v.some; fits = simp length_push (omega arith); frames = covers_next q.order v.frames }

placed_room : (q : Queue) → Valid q → length q.order < q.size → to_back q (queue_place q) ≡ grown q
placed_room q v l = rw (lt-ltb (length q.order) q.size l, next_misses q.order v.frames)

-- a place with all frames filled
head_of : (xs : List ℕ) → 1 ≤ length xs → (rest : List ℕ) × (xs ≡ slice_index xs 0 ∷ rest)
head_of [] l = absurd (omega arith)
head_of (x ∷ xs) l = (xs, refl)

full_place : (q : Queue) → Valid q → q.size ≤ length q.order → (rest : List ℕ) × (q.order ≡ queue_place q ∷ rest)
full_place q v l = rw (le-ltb (length q.order) q.size l) (head_of q.order (omega arith))

-- a place leaves a valid queue
placed_valid : (q : Queue) → Valid q → Valid (to_back q (queue_place q))
placed_valid q v =
    ⊎_elim
    (λ l. rw (placed_room q v l) (grown_valid q v l))
    (λ l. back_valid q v (queue_place q) (within_frame q v (queue_place q) (member_first (queue_place q) q.order _ (full_place q v l).1)))
    (cases_lt (length q.order) q.size)

-- a queue is an eviction order, if a use keeps it one
queue_ordered : (used : Queue → ℕ → Queue) →
    ((q : Queue) → Valid q → (f : ℕ) → f < length q.order →
    Valid (used q f) × ((used q f).size ≡ q.size) × Later f q.order (used q f).order) →
    OrderedBy (queue_rules used) Valid (λ q. q.order)
queue_ordered used h = record {
  first_valid = λ c k l. record { some = l; fits = omega arith; frames = λ f. sym (le-ltb f 0 (omega arith)) };
  first_frames = λ c k. refl;
  first_order = λ c k. refl;
  filled_order = λ q v. refl;
  within = λ q v. v.fits;
  covers = holds_frame;
  bounded = within_frame;
  placed_valid = placed_valid;
  placed_frames = λ q v. refl;
  room_place = λ q v l. rw (lt-ltb (length q.order) q.size l);
  room_order = λ q v l. ap (λ p. p.order) (placed_room q v l);
  full_order = λ q v l s.
      let front = full_place q v (omega arith) in
      let f = queue_place q in
      (front.0, front.1, ap (λ xs. without f xs ++ (f ∷ [])) front.1 ∙ back_first f front.0);
  used_valid = λ q v f l. (h q v f l).0;
  used_frames = λ q v f l. (h q v f l).1;
  used_order = λ q v f l. (h q v f l).2;
}

-- LRU, where a use moves the frame to the back, and FIFO, where it leaves it
pub back_ordered : OrderedBy (queue_rules to_back) Valid (λ q. q.order)
back_ordered = queue_ordered to_back (λ q v f l. (back_valid q v f l, refl, back_later f q.order (holds_frame q v f l)))

pub stay_ordered : OrderedBy (queue_rules (λ q f. q)) Valid (λ q. q.order)
stay_ordered = queue_ordered (λ q f. q) (λ q v f l. (v, refl, stays_later f q.order (holds_frame q v f l)))
