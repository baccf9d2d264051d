-- The state after an act: its mode, counts and open bodies.
use mathlib.Core.Path.{◌≡◌, refl, sym, ap, ◌∙◌}
use mathlib.Core.Bool.{Bool, true, false, ◌||◌}
use mathlib.Core.List.{List, [], ◌∷◌}
use Prim.Native.Nat.{ℕ, zero, suc, ◌+◌, ◌-◌, ◌%◌, ◌≤◌, ◌<◌}
use native.Mathlib.Numerals.{add-one}
use native.Mathlib.Omega.{arith}
use lib.Dec.{eqb, leb, ltb}
use lib.ListN.{length, get_or, set, length-set}
use lib.Seq.{get_or-set_same, get_or-set_other}
use borrow.Author.Tests.{eqb-true, eqb-false, ne_eqb, lt-ltb, le-ltb, lt-leb, leb-true}
use Rattle.classes.specs.Lists.{pick}
use Rattle.definition_rules.specs.Table.{number_up}
use Rattle.definition_rules.specs.Declarations.{BodyMode, in_fields, group_opened, in_group, groups_closed, Frame, frame, is_extension, after_field, field_done, parent_of}
use Rattle.definition_rules.specs.Declarations.{is_under_extension}
use Rattle.definition_automaton.specs.Acts.{end_act, plugin_act, as_act, name_act, type_act, closing_act, body_act, start_act, run_act, mark_act, typed_act, tag_act, act_of, next_mode}
use Rattle.definition_automaton.specs.States.{Stand, state, entry_of, body_after, context_number, context_of, parent_number, extension_flag, with_body, field_done_of, pushed_of, popped_of, over_of, more_of, counted_of, mode_moved, after_of}
use Rattle.definition_automaton.specs.Noting.{notes}
use Rattle.definition_automaton.proofs.Views.{body_mode_of, frames_from, open_frames, body_context, context_in, pop_frame, in_mode, frames_after}

-- ---- the open bodies after a store

bodies_above : (d : ℕ) (ns bs : List ℕ) (i v : ℕ) → d ≤ i → frames_from d ns (set bs i v) ≡ frames_from d ns bs
unfolding frames_from
bodies_above zero ns bs i v h = refl
bodies_above (suc d) ns bs i v h = rw (get_or-set_other bs i d v 0 (λ q. omega arith), bodies_above d ns bs i v (omega arith))

numbers_above : (d : ℕ) (ns bs : List ℕ) (i v : ℕ) → d ≤ i → frames_from d (set ns i v) bs ≡ frames_from d ns bs
unfolding frames_from
numbers_above zero ns bs i v h = refl
numbers_above (suc d) ns bs i v h = rw (get_or-set_other ns i d v 0 (λ q. omega arith), numbers_above d ns bs i v (omega arith))

-- the state's rows have eight places
pub record Sized (s : Stand) : Type 0 where
  pub numbers8 : length s.numbers ≡ 8
  pub bodies8 : length s.bodies ≡ 8
  pub low : s.depth ≤ 8

-- ---- the innermost body

context_body : (m : ℕ) → context_number m ≡ body_context (body_mode_of m)
unfolding context_number body_context body_mode_of pick
context_body m = go (eqb m 0) (eqb m 1) (eqb m 2) refl refl refl
  where
    go : (a b c : Bool) → eqb m 0 ≡ a → eqb m 1 ≡ b → eqb m 2 ≡ c → pick (ltb m 3) (m + 1) 4 ≡ body_context (pick a in_fields (pick b group_opened (pick c in_group groups_closed)))
    go true b c e f g = let z : m ≡ 0 = eqb-true m 0 e in rw z
    go false true c e f g = let z : m ≡ 1 = eqb-true m 1 f in rw z
    go false false true e f g = let z : m ≡ 2 = eqb-true m 2 g in rw z
    go false false false e f g = rw (le-ltb m 3 (omega (arith, eqb-false m 0 e, eqb-false m 1 f, eqb-false m 2 g)))

after_body : (m : ℕ) → body_mode_of (body_after m) ≡ after_field (body_mode_of m)
unfolding body_mode_of body_after after_field pick
after_body m = go (eqb m 0) (eqb m 1) (eqb m 2) refl refl refl
  where
    go : (a b c : Bool) → eqb m 0 ≡ a → eqb m 1 ≡ b → eqb m 2 ≡ c → body_mode_of (pick b 2 m) ≡ after_field (pick a in_fields (pick b group_opened (pick c in_group groups_closed)))
    go true b c e f g = let z : m ≡ 0 = eqb-true m 0 e in let y : b ≡ false = sym f ∙ rw z in rw (y, z)
    go false true c e f g = refl
    go false false true e f g = rw (e, f, g)
    go false false false e f g = rw (e, f, g)

extension_body : (b : BodyMode) → eqb (extension_flag (body_context b)) 1 ≡ is_extension b
unfolding extension_flag body_context is_extension pick
extension_body in_fields = refl
extension_body group_opened = refl
extension_body in_group = refl
extension_body groups_closed = refl

entry_in : (row : List ℕ) (d : ℕ) → suc d ≤ 8 → entry_of row d ≡ get_or row d 0
unfolding entry_of pick
entry_in row d h = rw (lt-ltb d 8 h)

module _ (m : ℕ) (ns bs : List ℕ) (c o : ℕ) where
  pub context_is : (d : ℕ) → d ≤ 8 → context_of (state m d ns bs c o) ≡ context_in (frames_from d ns bs)
  unfolding context_of context_in frames_from pick
  context_is zero h = refl
  context_is (suc d) h = let e : suc d - 1 ≡ d = omega arith in rw (ne_eqb (suc d) 0 (λ q. omega arith), e, entry_in bs d h) (context_body (get_or bs d 0))

  pub extension_is : (d : ℕ) → d ≤ 8 → eqb (extension_flag (context_of (state m d ns bs c o))) 1 ≡ is_under_extension (frames_from d ns bs)
  unfolding frames_from context_in is_under_extension
  extension_is d h = rw (context_is d h) (by d)
    where
      by : (d : ℕ) → eqb (extension_flag (context_in (frames_from d ns bs))) 1 ≡ is_under_extension (frames_from d ns bs)
      by zero = unfold extension_flag pick in refl
      by (suc d) = extension_body (body_mode_of (get_or bs d 0))

-- all numbers of open bodies are below a bound
unfoldable pub Below : ℕ → List Frame → Type 0
Below k [] = Unit {0}
Below k (frame p m ∷ σ) = (p < k) × Below k σ

pub below_more : (k : ℕ) (σ : List Frame) → Below k σ → Below (suc k) σ
unfolding Below
below_more k [] b = tt
below_more k (frame p m ∷ σ) b = (omega (arith, b.0), below_more k σ b.1)

pub parent_is : (m : ℕ) (ns bs : List ℕ) (c o d : ℕ) → d ≤ 8 → c ≤ 65535 → Below c (frames_from d ns bs) → number_up (parent_number (state m d ns bs c o)) ≡ parent_of (frames_from d ns bs)
unfolding parent_number parent_of frames_from number_up pick Below
parent_is m ns bs c o zero h l b = refl
parent_is m ns bs c o (suc d) h l b = let e : suc d - 1 ≡ d = omega arith in rw (ne_eqb (suc d) 0 (λ q. omega arith), e, entry_in ns d h, ne_eqb (get_or ns d 0) 65535 (λ q. omega (arith, b.0)))

done_below : (k : ℕ) (σ : List Frame) → Below k σ → Below k (field_done σ)
unfolding Below field_done
done_below k [] b = tt
done_below k (frame p m ∷ σ) b = b

in_mode_below : (k : ℕ) (m : BodyMode) (σ : List Frame) → Below k σ → Below k (in_mode m σ)
unfolding Below in_mode
in_mode_below k m [] b = tt
in_mode_below k m (frame p c ∷ σ) b = b

pop_below : (k : ℕ) (σ : List Frame) → Below k σ → Below k (pop_frame σ)
unfolding Below pop_frame
pop_below k [] b = tt
pop_below k (frame p c ∷ σ) b = b.1

push_below : (k : ℕ) (σ : List Frame) → Below k σ → Below (suc k) (frame k in_fields ∷ σ)
unfolding Below
push_below k σ b = (omega arith, below_more k σ b)

frames_13 : (σ : List Frame) (k a : ℕ) → a ≡ 13 → field_done σ ≡ frames_after σ k a
unfolding frames_after pick
frames_13 σ k a e = rw e

frames_14 : (σ : List Frame) (k a : ℕ) → a ≡ 14 → frame k in_fields ∷ field_done σ ≡ frames_after σ k a
unfolding frames_after pick
frames_14 σ k a e = rw e

frames_15 : (σ : List Frame) (k a : ℕ) → a ≡ 15 → pop_frame σ ≡ frames_after σ k a
unfolding frames_after pick
frames_15 σ k a e = rw e

frames_17 : (σ : List Frame) (k a : ℕ) → a ≡ 17 → in_mode (body_mode_of 1) σ ≡ frames_after σ k a
unfolding frames_after pick body_mode_of
frames_17 σ k a e = rw e

frames_18 : (σ : List Frame) (k a : ℕ) → a ≡ 18 → in_mode (body_mode_of 3) σ ≡ frames_after σ k a
unfolding frames_after pick body_mode_of
frames_18 σ k a e = rw e

frames_rest : (σ : List Frame) (k a : ℕ) → eqb a 13 ≡ false → eqb a 14 ≡ false → eqb a 15 ≡ false → eqb a 17 ≡ false → eqb a 18 ≡ false → σ ≡ frames_after σ k a
unfolding frames_after pick
frames_rest σ k a e f g h i = sym (rw (e, f, g, h, i))

-- an act that opens no body
pub below_stay : (a k : ℕ) (σ : List Frame) → (a ≡ 14 → ⊥) → Below k σ → Below k (frames_after σ k a)
unfolding frames_after
below_stay a k σ n b = go (eqb a 13) (eqb a 14) (eqb a 15) (eqb a 17) (eqb a 18) (ne_eqb a 14 n)
  where
    go : (x y z u v : Bool) → y ≡ false → Below k (pick x (field_done σ) (pick y (frame k in_fields ∷ field_done σ) (pick z (pop_frame σ) (pick u (in_mode group_opened σ) (pick v (in_mode groups_closed σ) σ)))))
    go true y z u v e = unfold pick in (done_below k σ b)
    go false true z u v e = cc
    go false false true u v e = unfold pick in (pop_below k σ b)
    go false false false true v e = unfold pick in (in_mode_below k group_opened σ b)
    go false false false false true e = unfold pick in (in_mode_below k groups_closed σ b)
    go false false false false false e = unfold pick in b

pub below_after : (a k : ℕ) (σ : List Frame) → Below k σ → Below (suc k) (frames_after σ k a)
below_after a k σ b = go (eqb a 14) refl
  where
    go : (t : Bool) → eqb a 14 ≡ t → Below (suc k) (frames_after σ k a)
    go true e = rw (← frames_14 σ k a (eqb-true a 14 e)) (push_below k (field_done σ) (done_below k σ b))
    go false e = below_more k _ (below_stay a k σ (eqb-false a 14 e) b)

-- ---- the parts of an act

pub record StateMoved (s t : Stand) (σ : List Frame) : Type 0 where
  pub mode_same : t.mode ≡ s.mode
  pub count_same : t.count ≡ s.count
  pub over_same : t.over ≡ s.over
  pub frames : open_frames t ≡ σ
  pub sized : Sized t

module _ (m : ℕ) (ns bs : List ℕ) (c o : ℕ) (n8 : length ns ≡ 8) (b8 : length bs ≡ 8) where
  body_moved : (d v : ℕ) → d ≤ 8 → StateMoved (state m d ns bs c o) (with_body (state m d ns bs c o) v) (in_mode (body_mode_of v) (frames_from d ns bs))
  unfolding with_body pick in_mode frames_from
  body_moved zero v h = record { mode_same = refl; count_same = refl; over_same = refl; frames = refl; sized = record { numbers8 = n8; bodies8 = b8; low = h } }
  body_moved (suc d) v h =
      let e : frames_from (suc d) ns (set bs d v) ≡ frame (get_or ns d 0) (body_mode_of v) ∷ frames_from d ns bs = rw (get_or-set_same bs d v 0 (omega arith), bodies_above d ns bs d v (omega arith)) in
      let z : suc d - 1 ≡ d = omega arith in
      rw (ne_eqb (suc d) 0 (λ q. omega arith), z, lt-leb 8 d h) (record { mode_same = refl; count_same = refl; over_same = refl; frames = e; sized = record { numbers8 = n8; bodies8 = length-set bs d v ∙ b8; low = h } })

  done_moved : (d : ℕ) → d ≤ 8 → StateMoved (state m d ns bs c o) (field_done_of (state m d ns bs c o)) (field_done (frames_from d ns bs))
  unfolding field_done_of pick frames_from field_done in_mode
  done_moved zero h = record { mode_same = refl; count_same = refl; over_same = refl; frames = refl; sized = record { numbers8 = n8; bodies8 = b8; low = h } }
  done_moved (suc d) h =
      let b = body_moved (suc d) (body_after (get_or bs d 0)) h in
      let e : in_mode (body_mode_of (body_after (get_or bs d 0))) (frames_from (suc d) ns bs) ≡ frame (get_or ns d 0) (after_field (body_mode_of (get_or bs d 0))) ∷ frames_from d ns bs = rw (after_body (get_or bs d 0)) in
      let z : suc d - 1 ≡ d = omega arith in
      rw (ne_eqb (suc d) 0 (λ q. omega arith), z, entry_in bs d h) (record { mode_same = b.mode_same; count_same = b.count_same; over_same = b.over_same; frames = b.frames ∙ e; sized = b.sized })

  push_moved : (d : ℕ) → d < 8 → c < 65536 → StateMoved (state m d ns bs c o) (pushed_of (state m d ns bs c o)) (frame c in_fields ∷ frames_from d ns bs)
  unfolding pushed_of pick frames_from body_mode_of
  push_moved d h l =
      let z : c % 65536 ≡ c = omega arith in
      let e : frames_from (d + 1) (set ns d c) (set bs d 0) ≡ frame c in_fields ∷ frames_from d ns bs = rw (add-one d, get_or-set_same ns d c 0 (omega arith), get_or-set_same bs d 0 0 (omega arith), bodies_above d (set ns d c) bs d 0 (omega arith), numbers_above d ns bs d c (omega arith)) in
      rw (lt-leb 8 d h, z) (record { mode_same = refl; count_same = refl; over_same = refl; frames = e; sized = record { numbers8 = length-set ns d c ∙ n8; bodies8 = length-set bs d 0 ∙ b8; low = omega arith } })

  pop_moved : (d : ℕ) → d ≤ 8 → StateMoved (state m d ns bs c o) (popped_of (state m d ns bs c o)) (pop_frame (frames_from d ns bs))
  unfolding pop_frame frames_from
  pop_moved zero h = record { mode_same = refl; count_same = refl; over_same = refl; frames = refl; sized = record { numbers8 = n8; bodies8 = b8; low = omega arith } }
  pop_moved (suc d) h = record { mode_same = refl; count_same = refl; over_same = refl; frames = (let z : suc d - 1 ≡ d = omega arith in rw z); sized = record { numbers8 = n8; bodies8 = b8; low = omega arith } }

frames_length : (d : ℕ) (ns bs : List ℕ) → length (frames_from d ns bs) ≡ d
unfolding frames_from
frames_length zero ns bs = refl
frames_length (suc d) ns bs = ap suc (frames_length d ns bs)

done_length : (σ : List Frame) → length (field_done σ) ≡ length σ
unfolding field_done
done_length [] = refl
done_length (frame p m ∷ σ) = refl

-- ---- after an act

pub record StateAfter (s : Stand) (a name : ℕ) (t : Stand) : Type 0 where
  pub mode_is : t.mode ≡ next_mode a
  pub count_is : t.count ≡ pick (notes a) (more_of s.count) s.count
  pub over_is : t.over ≡ pick (notes a) (over_of s.count s.over name) s.over
  pub frames : open_frames t ≡ frames_after (open_frames s) s.count a
  pub sized : Sized t

note_13 : (a : ℕ) → a ≡ 13 → notes a ≡ true
unfolding notes
note_13 a e = rw e

note_14 : (a : ℕ) → a ≡ 14 → notes a ≡ true
unfolding notes
note_14 a e = rw e

note_none : (a : ℕ) → eqb a 13 ≡ false → eqb a 14 ≡ false → notes a ≡ false
unfolding notes
note_none a e f = rw (e, f)

module _ (s : Stand) (a name : ℕ) (z : Sized s) where
  -- an act that notes nothing
  quiet : (t : Stand) → eqb a 13 ≡ false → eqb a 14 ≡ false → StateMoved (mode_moved s a) t (frames_after (open_frames s) s.count a) → StateAfter s a name t
  unfolding pick
  quiet t e f w = record {
    mode_is = w.mode_same;
    count_is = w.count_same ∙ sym (rw (note_none a e f));
    over_is = w.over_same ∙ sym (rw (note_none a e f));
    frames = w.frames;
    sized = w.sized;
  }

  -- an act that notes a declaration
  noting : (t : Stand) → notes a ≡ true → StateMoved (mode_moved s a) t (frames_after (open_frames s) s.count a) → StateAfter s a name (counted_of t name)
  unfolding pick
  noting t e w = record {
    mode_is = w.mode_same;
    count_is = rw e (ap more_of w.count_same);
    over_is = rw (e, w.count_same, w.over_same);
    frames = w.frames;
    sized = record { numbers8 = w.sized.numbers8; bodies8 = w.sized.bodies8; low = w.sized.low };
  }

  moved_to : {t : Stand} {σ τ : List Frame} → StateMoved (mode_moved s a) t σ → σ ≡ τ → StateMoved (mode_moved s a) t τ
  moved_to w e = record { mode_same = w.mode_same; count_same = w.count_same; over_same = w.over_same; frames = w.frames ∙ e; sized = w.sized }

  done_here : StateMoved (mode_moved s a) (field_done_of (mode_moved s a)) (field_done (open_frames s))
  done_here = done_moved (next_mode a) s.numbers s.bodies s.count s.over z.numbers8 z.bodies8 s.depth z.low

  after_13 : a ≡ 13 → StateAfter s a name (counted_of (field_done_of (mode_moved s a)) name)
  after_13 e = noting (field_done_of (mode_moved s a)) (note_13 a e) (moved_to done_here (frames_13 (open_frames s) s.count a e))

  after_14 : a ≡ 14 → s.depth < 8 → s.count < 65536 → StateAfter s a name (counted_of (pushed_of (field_done_of (mode_moved s a))) name)
  after_14 e h l =
      let w = done_here in
      let u : Stand = field_done_of (mode_moved s a) in
      let d : u.depth ≡ s.depth = sym (frames_length u.depth u.numbers u.bodies) ∙ (ap length w.frames ∙ (done_length (open_frames s) ∙ frames_length s.depth s.numbers s.bodies)) in
      let p : StateMoved u (pushed_of u) (frame u.count in_fields ∷ open_frames u) = push_moved u.mode u.numbers u.bodies u.count u.over w.sized.numbers8 w.sized.bodies8 u.depth (omega arith) (omega (arith, w.count_same)) in
      let g : open_frames (pushed_of u) ≡ frames_after (open_frames s) s.count a = p.frames ∙ (rw (w.count_same, w.frames) (frames_14 (open_frames s) s.count a e)) in
      noting (pushed_of u) (note_14 a e) (record { mode_same = p.mode_same ∙ w.mode_same; count_same = p.count_same ∙ w.count_same; over_same = p.over_same ∙ w.over_same; frames = g; sized = p.sized })

  after_15 : a ≡ 15 → StateAfter s a name (popped_of (mode_moved s a))
  after_15 e = quiet (popped_of (mode_moved s a)) (rw e) (rw e) (moved_to (pop_moved (next_mode a) s.numbers s.bodies s.count s.over z.numbers8 z.bodies8 s.depth z.low) (frames_15 (open_frames s) s.count a e))

  after_17 : a ≡ 17 → StateAfter s a name (with_body (mode_moved s a) 1)
  after_17 e = quiet (with_body (mode_moved s a) 1) (rw e) (rw e) (moved_to (body_moved (next_mode a) s.numbers s.bodies s.count s.over z.numbers8 z.bodies8 s.depth 1 z.low) (frames_17 (open_frames s) s.count a e))

  after_18 : a ≡ 18 → StateAfter s a name (with_body (mode_moved s a) 3)
  after_18 e = quiet (with_body (mode_moved s a) 3) (rw e) (rw e) (moved_to (body_moved (next_mode a) s.numbers s.bodies s.count s.over z.numbers8 z.bodies8 s.depth 3 z.low) (frames_18 (open_frames s) s.count a e))

  after_rest : eqb a 13 ≡ false → eqb a 14 ≡ false → eqb a 15 ≡ false → eqb a 17 ≡ false → eqb a 18 ≡ false → StateAfter s a name (mode_moved s a)
  after_rest e f g h k = quiet (mode_moved s a) e f (record { mode_same = refl; count_same = refl; over_same = refl; frames = frames_rest (open_frames s) s.count a e f g h k; sized = record { numbers8 = z.numbers8; bodies8 = z.bodies8; low = z.low } })

  pub after_is : (a ≡ 14 → s.depth < 8) → s.count < 65536 → StateAfter s a name (after_of s a name)
  unfolding after_of
  after_is room l = go (eqb a 13) (eqb a 14) (eqb a 15) (eqb a 17) (eqb a 18) refl refl refl refl refl
    where
      go : (b c d f g : Bool) → eqb a 13 ≡ b → eqb a 14 ≡ c → eqb a 15 ≡ d → eqb a 17 ≡ f → eqb a 18 ≡ g → StateAfter s a name (pick b (counted_of (field_done_of (mode_moved s a)) name) (pick c (counted_of (pushed_of (field_done_of (mode_moved s a))) name) (pick d (popped_of (mode_moved s a)) (pick f (with_body (mode_moved s a) 1) (pick g (with_body (mode_moved s a) 3) (mode_moved s a))))))
      go true c d f g e1 e2 e3 e4 e5 = unfold pick in (after_13 (eqb-true a 13 e1))
      go false true d f g e1 e2 e3 e4 e5 = let e = eqb-true a 14 e2 in unfold pick in (after_14 e (room e) l)
      go false false true f g e1 e2 e3 e4 e5 = unfold pick in (after_15 (eqb-true a 15 e3))
      go false false false true g e1 e2 e3 e4 e5 = unfold pick in (after_17 (eqb-true a 17 e4))
      go false false false false true e1 e2 e3 e4 e5 = unfold pick in (after_18 (eqb-true a 18 e5))
      go false false false false false e1 e2 e3 e4 e5 = unfold pick in (after_rest e1 e2 e3 e4 e5)

-- ---- braces: 14 is for `{` alone, 1 for a run, and `}` for 15 alone

unfoldable pub Braced : ℕ → ℕ → Bool
Braced n a = pick (eqb a 14) (eqb n 123) (pick (eqb a 1) (leb 256 n) (pick (eqb n 125) (eqb a 0 || eqb a 15) true))

zero_braced : (n : ℕ) → Braced n 0 ≡ true
unfolding Braced pick
zero_braced n = go (eqb n 125)
  where
    go : (t : Bool) → pick t true true ≡ true
    go true = refl
    go false = refl

if_braced : (n : ℕ) (t : Bool) (a b : ℕ) → (t ≡ true → Braced n a ≡ true) → (t ≡ false → Braced n b ≡ true) → Braced n (pick t a b) ≡ true
unfolding pick
if_braced n true a b f g = f refl
if_braced n false a b f g = g refl

at_braced : (n b a : ℕ) → Braced b a ≡ true → eqb n b ≡ true → Braced n a ≡ true
at_braced n b a h e = rw (eqb-true n b e) h

big_not : (n : ℕ) → leb 256 n ≡ true → n ≡ 125 → ⊥
big_not n h q = omega (arith, leb-true 256 n h)

run_braced : (n a : ℕ) → eqb a 14 ≡ false → leb 256 n ≡ true → Braced n a ≡ true
unfolding Braced pick
run_braced n a e h = rw (e, h, ne_eqb n 125 (big_not n h)) (go (eqb a 1))
  where
    go : (t : Bool) → pick t true true ≡ true
    go true = refl
    go false = refl

mark_braced : (n b a : ℕ) → Braced b a ≡ true → Braced n (mark_act b a n) ≡ true
unfolding mark_act
mark_braced n b a h = if_braced n (eqb n b) a 0 (at_braced n b a h) (λ _. zero_braced n)

due_braced : (n a : ℕ) → eqb a 14 ≡ false → Braced n (run_act a n) ≡ true
unfolding run_act
due_braced n a h = if_braced n (leb 256 n) a 0 (run_braced n a h) (λ _. zero_braced n)

module _ (context kind n : ℕ) where
  end_braced : Braced n (end_act kind n) ≡ true
  unfolding end_act
  end_braced = if_braced n (eqb kind 258) _ _ (λ _. if_braced n (eqb n 123) 14 0 (at_braced n 123 14 (unfold Braced pick in refl)) (λ _. zero_braced n)) (λ _. if_braced n (eqb n 59) 13 0 (at_braced n 59 13 (unfold Braced pick in refl)) (λ _. zero_braced n))

  word_braced : (b a : ℕ) → Braced b a ≡ true → eqb n b ≡ true → Braced n (pick (eqb context 0) 0 a) ≡ true
  word_braced b a h e = if_braced n (eqb context 0) 0 a (λ _. zero_braced n) (λ _. at_braced n b a h e)

  plugin_braced : Braced n (plugin_act context kind n) ≡ true
  unfolding plugin_act
  plugin_braced = if_braced n (eqb n 261) _ _ (word_braced 261 12 (unfold Braced pick in refl)) (λ _. end_braced)

  as_braced : Braced n (as_act context kind n) ≡ true
  unfolding as_act
  as_braced = if_braced n (eqb n 260) _ _ (word_braced 260 9 (unfold Braced pick in refl)) (λ _. plugin_braced)

  name_braced : Braced n (name_act context kind n) ≡ true
  unfolding name_act
  name_braced = if_braced n (eqb n 91) _ _ (word_braced 91 6 (unfold Braced pick in refl)) (λ _. as_braced)

  close_braced : (b a : ℕ) → Braced b a ≡ true → eqb n b ≡ true → Braced n (closing_act context a) ≡ true
  unfolding closing_act
  close_braced b a h e = if_braced n (eqb context 1) a _ (λ _. at_braced n b a h e) (λ _. if_braced n (eqb context 4) a 0 (λ _. at_braced n b a h e) (λ _. zero_braced n))

  type_braced : leb 256 n ≡ true → Braced n (type_act context n) ≡ true
  unfolding type_act
  type_braced r = if_braced n (eqb context 0) _ _ (λ _. if_braced n (ltb n 259) 1 0 (λ _. run_braced n 1 refl r) (λ _. zero_braced n)) (λ _. if_braced n (eqb context 4) 0 1 (λ _. zero_braced n) (λ _. run_braced n 1 refl r))

  start_braced : Braced n (start_act context n) ≡ true
  unfolding start_act body_act
  start_braced = if_braced n (leb 256 n) _ _ type_braced (λ _. if_braced n (eqb n 125) _ _ (close_braced 125 15 (unfold Braced pick in refl)) (λ _. if_braced n (eqb n 91) _ _ (close_braced 91 17 (unfold Braced pick in refl)) (λ _. if_braced n (eqb n 93) _ _ (λ e. if_braced n (eqb context 3) 18 0 (λ _. at_braced n 93 18 (unfold Braced pick in refl) e) (λ _. zero_braced n)) (λ _. zero_braced n))))

  typed_braced : Braced n (typed_act kind n) ≡ true
  unfolding typed_act
  typed_braced = if_braced n (leb 256 n) 5 _ (run_braced n 5 refl) (λ _. if_braced n (eqb kind 256) _ 0 (λ _. mark_braced n 60 2 (unfold Braced pick in refl)) (λ _. zero_braced n))

  tag_braced : Braced n (tag_act n) ≡ true
  unfolding tag_act
  tag_braced = if_braced n (leb 256 n) 10 _ (run_braced n 10 refl) (λ _. mark_braced n 63 11 (unfold Braced pick in refl))

  pub act_braced : (m : ℕ) → Braced n (act_of m context kind n) ≡ true
  unfolding act_of
  act_braced m =
      if_braced n (eqb m 0) _ _ (λ _. start_braced)
      (λ _. if_braced n (eqb m 1) _ _ (λ _. mark_braced n 59 16 (unfold Braced pick in refl))
      (λ _. if_braced n (eqb m 2) _ _ (λ _. typed_braced)
      (λ _. if_braced n (eqb m 3) _ _ (λ _. due_braced n 3 refl)
      (λ _. if_braced n (eqb m 4) _ _ (λ _. mark_braced n 62 4 (unfold Braced pick in refl))
      (λ _. if_braced n (eqb m 5) _ _ (λ _. due_braced n 19 refl)
      (λ _. if_braced n (eqb m 6) _ _ (λ _. name_braced)
      (λ _. if_braced n (eqb m 7) _ _ (λ _. as_braced)
      (λ _. if_braced n (eqb m 8) _ _ (λ _. plugin_braced)
      (λ _. if_braced n (eqb m 9) _ _ (λ _. end_braced)
      (λ _. if_braced n (eqb m 10) _ _ (λ _. due_braced n 7 refl)
      (λ _. if_braced n (eqb m 11) _ _ (λ _. tag_braced) (λ _. mark_braced n 93 8 (unfold Braced pick in refl)))))))))))))

pub opens : (n a : ℕ) → Braced n a ≡ true → a ≡ 14 → n ≡ 123
unfolding Braced pick
opens n a h e = eqb-true n 123 (rw e at h)

pub types : (n a : ℕ) → Braced n a ≡ true → a ≡ 1 → 256 ≤ n
unfolding Braced pick
types n a h e = leb-true 256 n (rw e at h)

pub closes : (n a : ℕ) → Braced n a ≡ true → n ≡ 125 → (a ≡ 0 → ⊥) → a ≡ 15
unfolding Braced pick
closes n a h e z = go (eqb a 14) (eqb a 1) (eqb a 0) (eqb a 15) refl refl refl refl (rw e at h)
  where
    go : (x v y w : Bool) → eqb a 14 ≡ x → eqb a 1 ≡ v → eqb a 0 ≡ y → eqb a 15 ≡ w → pick x false (pick v false (y || w)) ≡ true → a ≡ 15
    go true v y w p s q r t = cc
    go false true y w p s q r t = cc
    go false false true w p s q r t = absurd (z (eqb-true a 0 q))
    go false false false true p s q r t = eqb-true a 15 r
    go false false false false p s q r t = cc

-- how deep the open bodies are after an act
done_deep : (σ : List Frame) → length (field_done σ) ≤ length σ
done_deep σ = omega (arith, done_length σ)

mode_deep : (m : BodyMode) (σ : List Frame) → length (in_mode m σ) ≤ length σ
unfolding in_mode
mode_deep m [] = omega arith
mode_deep m (frame p b ∷ σ) = omega arith

pop_deep : (σ : List Frame) → length (pop_frame σ) ≤ length σ - 1
unfolding pop_frame
pop_deep [] = omega arith
pop_deep (f ∷ σ) = omega arith

pub after_deep : (σ : List Frame) (k a : ℕ) → (length (frames_after σ k a) ≤ suc (length σ)) × ((a ≡ 14 → ⊥) → length (frames_after σ k a) ≤ length σ) × (a ≡ 15 → length (frames_after σ k a) ≤ length σ - 1)
unfolding pick frames_after
after_deep σ k a = (all (eqb a 13) (eqb a 14) (eqb a 15) (eqb a 17) (eqb a 18), (λ h. few (eqb a 13) (eqb a 14) (eqb a 15) (eqb a 17) (eqb a 18) (ne_eqb a 14 h)), λ e. rw e (pop_deep σ))
  where
    all : (x y z u v : Bool) → length (pick x (field_done σ) (pick y (frame k in_fields ∷ field_done σ) (pick z (pop_frame σ) (pick u (in_mode group_opened σ) (pick v (in_mode groups_closed σ) σ))))) ≤ suc (length σ)
    all true y z u v = omega (arith, done_deep σ)
    all false true z u v = omega (arith, done_deep σ)
    all false false true u v = omega (arith, pop_deep σ)
    all false false false true v = omega (arith, mode_deep group_opened σ)
    all false false false false true = omega (arith, mode_deep groups_closed σ)
    all false false false false false = omega arith

    few : (x y z u v : Bool) → y ≡ false → length (pick x (field_done σ) (pick y (frame k in_fields ∷ field_done σ) (pick z (pop_frame σ) (pick u (in_mode group_opened σ) (pick v (in_mode groups_closed σ) σ))))) ≤ length σ
    few true y z u v e = omega (arith, done_deep σ)
    few false true z u v e = cc
    few false false true u v e = omega (arith, pop_deep σ)
    few false false false true v e = omega (arith, mode_deep group_opened σ)
    few false false false false true e = omega (arith, mode_deep groups_closed σ)
    few false false false false false e = omega arith

pub depth_is : (s : Stand) → length (open_frames s) ≡ s.depth
depth_is s = frames_length s.depth s.numbers s.bodies
