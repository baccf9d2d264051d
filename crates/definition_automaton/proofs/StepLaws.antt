-- A token does what its act says: the decisions by number are the automaton's.
use mathlib.Core.Path.{◌≡◌, refl, sym, subst}
use mathlib.Core.Bool.{Bool, true, false, not, ◌&&◌}
use mathlib.Core.List.{List, [], ◌∷◌}
use Prim.Native.Nat.{ℕ, ◌≤◌, ◌<◌}
use native.Mathlib.Omega.{arith}
use lib.Dec.{eqb, leb, ltb}
use borrow.Author.Tests.{eqb-true, ne_eqb, le-leb, lt-leb}
use Rattle.classes.specs.Lists.{pick, same_bytes}
use Rattle.definition_rules.specs.Words.{kw_as, kw_plugin, takes_range, is_compound, is_reference}
use Rattle.definition_rules.specs.Scan.{run, mark}
use Rattle.definition_rules.specs.Forms.{type_run}
use Rattle.definition_rules.specs.Declarations.{BodyMode, in_fields, group_opened, in_group, groups_closed, Frame, frame, after_card, after_plugin, at_start, due_semicolon, after_type, due_range, in_heading, due_card, due_tag, due_card_end, Action, stop, move, note, allow, with_card, with_tag, with_plugin, takes_field, takes_close, takes_group_end, is_in_body, start_run, start_mark, heading_end, heading_run, heading_mark, step, field_done}
use Rattle.definition_automaton.specs.Acts.{end_act, plugin_act, as_act, name_act, type_act, closing_act, body_act, start_act, run_act, mark_act, typed_act, tag_act, act_of, next_modes, next_mode}
use Rattle.definition_automaton.specs.Noting.{Hand, pending_by, notes}
use Rattle.definition_automaton.specs.declared.Span.{Span}
use Rattle.definition_automaton.proofs.Views.{run_in, spots_in, heading_in, phase_in, body_context, context_in, pop_frame, in_mode, frames_after, noted_in, action_in}

-- ---- a mode is one of twelve, or the last

mode_cases : (P : ℕ → Type 0) → P 0 → P 1 → P 2 → P 3 → P 4 → P 5 → P 6 → P 7 → P 8 → P 9 → P 10 → P 11 → ((m : ℕ) → eqb m 0 ≡ false → eqb m 1 ≡ false → eqb m 2 ≡ false → eqb m 3 ≡ false → eqb m 4 ≡ false → eqb m 5 ≡ false → eqb m 6 ≡ false → eqb m 7 ≡ false → eqb m 8 ≡ false → eqb m 9 ≡ false → eqb m 10 ≡ false → eqb m 11 ≡ false → P m) → (m : ℕ) → P m
mode_cases P p0 p1 p2 p3 p4 p5 p6 p7 p8 p9 p10 p11 q m =
    by 0 p0 (λ e0. by 1 p1 (λ e1. by 2 p2 (λ e2. by 3 p3 (λ e3. by 4 p4 (λ e4. by 5 p5 (λ e5. by 6 p6 (λ e6. by 7 p7 (λ e7. by 8 p8 (λ e8. by 9 p9 (λ e9. by 10 p10 (λ e10. by 11 p11 (λ e11. q m e0 e1 e2 e3 e4 e5 e6 e7 e8 e9 e10 e11))))))))))))
  where
    go : (b : Bool) (n : ℕ) → eqb m n ≡ b → P n → (eqb m n ≡ false → P m) → P m
    go true n e p f = subst P (sym (eqb-true m n e)) p
    go false n e p f = f e

    by : (n : ℕ) → P n → (eqb m n ≡ false → P m) → P m
    by n p f = go (eqb m n) n refl p f

last_act : (m context kind n : ℕ) → eqb m 0 ≡ false → eqb m 1 ≡ false → eqb m 2 ≡ false → eqb m 3 ≡ false → eqb m 4 ≡ false → eqb m 5 ≡ false → eqb m 6 ≡ false → eqb m 7 ≡ false → eqb m 8 ≡ false → eqb m 9 ≡ false → eqb m 10 ≡ false → eqb m 11 ≡ false → act_of m context kind n ≡ mark_act 93 8 n
unfolding act_of pick
last_act m context kind n e0 e1 e2 e3 e4 e5 e6 e7 e8 e9 e10 e11 = rw (e0, e1, e2, e3, e4, e5, e6, e7, e8, e9, e10, e11)

last_phase : (text : List ℕ) (p : Hand) (m : ℕ) → eqb m 0 ≡ false → eqb m 1 ≡ false → eqb m 2 ≡ false → eqb m 3 ≡ false → eqb m 4 ≡ false → eqb m 5 ≡ false → eqb m 6 ≡ false → eqb m 7 ≡ false → eqb m 8 ≡ false → eqb m 9 ≡ false → eqb m 10 ≡ false → eqb m 11 ≡ false → phase_in text m p ≡ due_card_end (spots_in p) (heading_in text p)
unfolding phase_in pick
last_phase text p m e0 e1 e2 e3 e4 e5 e6 e7 e8 e9 e10 e11 = rw (e0, e1, e2, e3, e4, e5, e6, e7, e8, e9, e10, e11)

in_body : (σ : List Frame) → is_in_body σ ≡ not (eqb (context_in σ) 0)
unfolding is_in_body context_in body_context
in_body [] = refl
in_body (frame p in_fields ∷ σ) = refl
in_body (frame p group_opened ∷ σ) = refl
in_body (frame p in_group ∷ σ) = refl
in_body (frame p groups_closed ∷ σ) = refl

-- what the number of a type's run says
pub record KindFacts (w : List ℕ) (kind : ℕ) : Type 0 where
  pub range : takes_range w ≡ eqb kind 256
  pub compound : is_compound w ≡ eqb kind 258
  pub reference : is_reference w ≡ not (ltb kind 259)
  pub named : same_bytes w kw_as ≡ eqb kind 260
  pub plug : same_bytes w kw_plugin ≡ eqb kind 261
  pub least : 256 ≤ kind

module _ (text : List ℕ) (σ : List Frame) (k : ℕ) (p : Hand) (x : Span) (facts : KindFacts (run_in text p.typed) p.kind) where
  -- ---- a mark

  module _ (n : ℕ) (small : n < 256) where
    abbrev MarkStep : ℕ → Type 0
    MarkStep m = step σ k x.start (phase_in text m p) (mark n) ≡ action_in text σ k p (act_of m (context_in σ) p.kind n) n x

    no_run : leb 256 n ≡ false
    no_run = lt-leb 256 n small

    mark_0 : (τ : List Frame) → start_mark τ n ≡ action_in text τ k p (start_act (context_in τ) n) n x
    unfolding start_mark start_act body_act closing_act context_in body_context action_in pick allow takes_close takes_group_end frames_after pop_frame in_mode phase_in next_mode next_modes notes
    mark_0 [] = rw no_run (by (eqb n 125) (eqb n 91) (eqb n 93))
      where
        by : (a b c : Bool) → stop ≡ action_in text [] k p (pick a 0 (pick b 0 (pick c 0 0))) n x
        by true b c = refl
        by false true c = refl
        by false false true = refl
        by false false false = refl
    mark_0 (frame q m ∷ τ) = rw no_run (by (eqb n 125) (eqb n 91) (eqb n 93) m)
      where
        by : (a b c : Bool) (m : BodyMode) → pick a (allow (takes_close m) (move τ due_semicolon)) (pick b (allow (takes_close m) (move (frame q group_opened ∷ τ) at_start)) (allow (c && takes_group_end m) (move (frame q groups_closed ∷ τ) at_start)))
            ≡ action_in text (frame q m ∷ τ) k p (pick a (closing_act (body_context m) 15) (pick b (closing_act (body_context m) 17) (pick c (pick (eqb (body_context m) 3) 18 0) 0))) n x
        by true b c in_fields = refl
        by true b c group_opened = refl
        by true b c in_group = refl
        by true b c groups_closed = refl
        by false true c in_fields = refl
        by false true c group_opened = refl
        by false true c in_group = refl
        by false true c groups_closed = refl
        by false false true in_fields = refl
        by false false true group_opened = refl
        by false false true in_group = refl
        by false false true groups_closed = refl
        by false false false m = refl

    mark_2 : allow (eqb n 60 && takes_range (run_in text p.typed)) (move σ (due_range p.typed.start (run_in text p.typed))) ≡ action_in text σ k p (typed_act p.kind n) n x
    unfolding typed_act mark_act action_in pick allow frames_after phase_in next_mode next_modes notes pending_by
    mark_2 = rw (no_run, facts.range) (by (eqb n 60) (eqb p.kind 256))
      where
        by : (a b : Bool) → allow (a && b) (move σ (due_range p.typed.start (run_in text p.typed))) ≡ action_in text σ k p (pick b (pick a 2 0) 0) n x
        by true true = refl
        by true false = refl
        by false true = refl
        by false false = refl

    ends : heading_end σ k (spots_in p) (heading_in text p) n ≡ action_in text σ k p (end_act p.kind n) n x
    unfolding heading_end end_act action_in pick allow frames_after phase_in next_mode next_modes notes pending_by type_run
    ends = rw facts.compound (by (eqb n 59) (eqb n 123) (eqb p.kind 258) refl refl)
      where
        by : (a b c : Bool) → eqb n 59 ≡ a → eqb n 123 ≡ b →
            pick a (allow (not c) (note (noted_in text σ p) (field_done σ) at_start)) (allow (b && c) (note (noted_in text σ p) (frame k in_fields ∷ field_done σ) at_start))
            ≡ action_in text σ k p (pick c (pick b 14 0) (pick a 13 0)) n x
        by true true c e f = absurd (omega (arith, eqb-true n 59 e, eqb-true n 123 f))
        by true false true e f = refl
        by true false false e f = refl
        by false true true e f = refl
        by false true false e f = refl
        by false false true e f = refl
        by false false false e f = refl

    not_as : eqb n 260 ≡ false
    not_as = ne_eqb n 260 (λ q. omega arith)

    not_plugin : eqb n 261 ≡ false
    not_plugin = ne_eqb n 261 (λ q. omega arith)

    mark_8 : heading_end σ k (spots_in p) (heading_in text p) n ≡ action_in text σ k p (plugin_act (context_in σ) p.kind n) n x
    unfolding plugin_act pick
    mark_8 = rw not_plugin ends

    mark_7 : heading_end σ k (spots_in p) (heading_in text p) n ≡ action_in text σ k p (as_act (context_in σ) p.kind n) n x
    unfolding as_act pick
    mark_7 = rw not_as mark_8

    mark_6 : pick (eqb n 91) (allow (is_in_body σ) (move σ (due_card (spots_in p) (heading_in text p)))) (heading_end σ k (spots_in p) (heading_in text p) n) ≡ action_in text σ k p (name_act (context_in σ) p.kind n) n x
    unfolding name_act action_in pick allow frames_after phase_in next_mode next_modes notes pending_by
    mark_6 = rw (in_body σ) (by (eqb n 91) (eqb (context_in σ) 0))
      where
        by : (a b : Bool) → pick a (allow (not b) (move σ (due_card (spots_in p) (heading_in text p)))) (heading_end σ k (spots_in p) (heading_in text p) n) ≡ action_in text σ k p (pick a (pick b 0 6) (as_act (context_in σ) p.kind n)) n x
        by true true = refl
        by true false = refl
        by false b = mark_7

    one : (b a : ℕ) (A : Action) → A ≡ action_in text σ k p a n x → allow (eqb n b) A ≡ action_in text σ k p (mark_act b a n) n x
    unfolding mark_act pick
    one b a A e = by (eqb n b)
      where
        by : (t : Bool) → allow t A ≡ action_in text σ k p (pick t a 0) n x
        by true = unfold allow in e
        by false = unfold allow action_in pick in refl

    closed : allow (eqb n 93) (move σ (in_heading after_card (spots_in p) (heading_in text p))) ≡ action_in text σ k p (mark_act 93 8 n) n x
    closed = one 93 8 (move σ (in_heading after_card (spots_in p) (heading_in text p))) (unfold action_in pick frames_after phase_in next_mode next_modes notes pending_by in refl)

    mark_12 : (m : ℕ) → eqb m 0 ≡ false → eqb m 1 ≡ false → eqb m 2 ≡ false → eqb m 3 ≡ false → eqb m 4 ≡ false → eqb m 5 ≡ false → eqb m 6 ≡ false → eqb m 7 ≡ false → eqb m 8 ≡ false → eqb m 9 ≡ false → eqb m 10 ≡ false → eqb m 11 ≡ false → MarkStep m
    unfolding step
    mark_12 m e0 e1 e2 e3 e4 e5 e6 e7 e8 e9 e10 e11 = rw (last_phase text p m e0 e1 e2 e3 e4 e5 e6 e7 e8 e9 e10 e11, last_act m (context_in σ) p.kind n e0 e1 e2 e3 e4 e5 e6 e7 e8 e9 e10 e11) closed

    pub mark_step : (m : ℕ) → MarkStep m
    unfolding act_of start_act type_act body_act closing_act mark_act typed_act run_act name_act as_act plugin_act end_act tag_act next_modes next_mode pick action_in phase_in frames_after notes pending_by context_in body_context pop_frame in_mode step allow start_run start_mark heading_run heading_mark heading_end takes_field takes_close takes_group_end is_in_body with_card with_tag with_plugin type_run
    mark_step = mode_cases MarkStep
        (mark_0 σ)
        (one 59 16 _ refl)
        mark_2
        (rw no_run refl)
        (one 62 4 _ refl)
        (rw no_run refl)
        mark_6
        mark_7
        mark_8
        ends
        (rw no_run refl)
        (rw no_run (one 63 11 _ refl))
        mark_12

  -- ---- a run

  module _ (n : ℕ) (known : KindFacts (run_in text x) n) where
    abbrev Ran : ℕ → Type 0
    Ran m = step σ k x.start (phase_in text m p) (run (run_in text x)) ≡ action_in text σ k p (act_of m (context_in σ) p.kind n) n x

    is_run : leb 256 n ≡ true
    is_run = le-leb 256 n known.least

    no_mark : (b : ℕ) → b < 256 → eqb n b ≡ false
    no_mark b h = ne_eqb n b (λ q. omega (arith, known.least))

    run_0 : (τ : List Frame) → start_run τ x.start (run_in text x) ≡ action_in text τ k p (start_act (context_in τ) n) n x
    unfolding start_run start_act type_act context_in body_context action_in pick allow takes_field frames_after phase_in next_mode next_modes notes pending_by
    run_0 [] = rw (is_run, known.reference) (by (ltb n 259))
      where
        by : (a : Bool) → allow (not (not a)) (move [] (after_type x.start (run_in text x))) ≡ action_in text [] k p (pick a 1 0) n x
        by true = refl
        by false = refl
    run_0 (frame q in_fields ∷ τ) = rw is_run refl
    run_0 (frame q group_opened ∷ τ) = rw is_run refl
    run_0 (frame q in_group ∷ τ) = rw is_run refl
    run_0 (frame q groups_closed ∷ τ) = rw is_run refl

    no_end : stop ≡ action_in text σ k p (end_act p.kind n) n x
    unfolding end_act pick action_in
    no_end = rw (no_mark 123 (omega arith), no_mark 59 (omega arith)) (by (eqb p.kind 258))
      where
        by : (a : Bool) → stop ≡ action_in text σ k p (pick a 0 0) n x
        by true = refl
        by false = refl

    run_8 : allow (same_bytes (run_in text x) kw_plugin && is_in_body σ) (move σ (in_heading after_plugin (spots_in p) (with_plugin (heading_in text p)))) ≡ action_in text σ k p (plugin_act (context_in σ) p.kind n) n x
    unfolding plugin_act action_in pick allow frames_after phase_in next_mode next_modes notes pending_by with_plugin
    run_8 = rw (known.plug, in_body σ) (by (eqb n 261) (eqb (context_in σ) 0))
      where
        by : (a b : Bool) → allow (a && not b) (move σ (in_heading after_plugin (spots_in p) (with_plugin (heading_in text p)))) ≡ action_in text σ k p (pick a (pick b 0 12) (end_act p.kind n)) n x
        by true true = refl
        by true false = refl
        by false b = no_end

    run_7 : pick (same_bytes (run_in text x) kw_as) (allow (is_in_body σ) (move σ (due_tag (spots_in p) (heading_in text p)))) (allow (same_bytes (run_in text x) kw_plugin && is_in_body σ) (move σ (in_heading after_plugin (spots_in p) (with_plugin (heading_in text p))))) ≡ action_in text σ k p (as_act (context_in σ) p.kind n) n x
    unfolding as_act action_in pick allow frames_after phase_in next_mode next_modes notes pending_by
    run_7 = rw known.named (by (eqb n 260))
      where
        at : (b : Bool) → allow (not b) (move σ (due_tag (spots_in p) (heading_in text p))) ≡ action_in text σ k p (pick b 0 9) n x
        at true = refl
        at false = refl

        by : (a : Bool) → pick a (allow (is_in_body σ) (move σ (due_tag (spots_in p) (heading_in text p)))) (allow (same_bytes (run_in text x) kw_plugin && is_in_body σ) (move σ (in_heading after_plugin (spots_in p) (with_plugin (heading_in text p))))) ≡ action_in text σ k p (pick a (pick (eqb (context_in σ) 0) 0 9) (plugin_act (context_in σ) p.kind n)) n x
        by true = rw (in_body σ) (at (eqb (context_in σ) 0))
        by false = run_8

    run_6 : pick (same_bytes (run_in text x) kw_as) (allow (is_in_body σ) (move σ (due_tag (spots_in p) (heading_in text p)))) (allow (same_bytes (run_in text x) kw_plugin && is_in_body σ) (move σ (in_heading after_plugin (spots_in p) (with_plugin (heading_in text p))))) ≡ action_in text σ k p (name_act (context_in σ) p.kind n) n x
    unfolding name_act pick
    run_6 = rw (no_mark 91 (omega arith)) run_7

    none : (b a : ℕ) → b < 256 → stop ≡ action_in text σ k p (mark_act b a n) n x
    unfolding mark_act pick action_in
    none b a h = rw (no_mark b h)

    run_12 : (m : ℕ) → eqb m 0 ≡ false → eqb m 1 ≡ false → eqb m 2 ≡ false → eqb m 3 ≡ false → eqb m 4 ≡ false → eqb m 5 ≡ false → eqb m 6 ≡ false → eqb m 7 ≡ false → eqb m 8 ≡ false → eqb m 9 ≡ false → eqb m 10 ≡ false → eqb m 11 ≡ false → Ran m
    unfolding step
    run_12 m e0 e1 e2 e3 e4 e5 e6 e7 e8 e9 e10 e11 = rw (last_phase text p m e0 e1 e2 e3 e4 e5 e6 e7 e8 e9 e10 e11, last_act m (context_in σ) p.kind n e0 e1 e2 e3 e4 e5 e6 e7 e8 e9 e10 e11) (none 93 8 (omega arith))

    pub run_step : (m : ℕ) → Ran m
    unfolding act_of start_act type_act body_act closing_act mark_act typed_act run_act name_act as_act plugin_act end_act tag_act next_modes next_mode pick action_in phase_in frames_after notes pending_by context_in body_context pop_frame in_mode step allow start_run start_mark heading_run heading_mark heading_end takes_field takes_close takes_group_end is_in_body with_card with_tag with_plugin type_run
    run_step = mode_cases Ran
        (run_0 σ)
        (none 59 16 (omega arith))
        (rw is_run refl)
        (rw is_run refl)
        (none 62 4 (omega arith))
        (rw is_run refl)
        run_6
        run_7
        run_8
        no_end
        (rw is_run refl)
        (rw is_run refl)
        run_12
