-- The automaton over items, with places for numbers of tokens: the same outcome, placed.
use mathlib.Core.Path.{◌≡◌, refl, ap, sym, ◌∙◌}
use mathlib.Core.Bool.{Bool, true, false, not, ◌&&◌}
use mathlib.Core.List.{List, [], ◌∷◌}
use Prim.Native.Nat.{ℕ, suc, ◌+◌}
use native.Mathlib.Nat.{add-zero, zero-add}
use native.Mathlib.Omega.{arith}
use lib.Dec.{eqb}
use lib.ListN.{length, get_or}
use Rattle.classes.specs.Lists.{pick, same_bytes}
use Rattle.definition_rules.specs.Words.{kw_as, kw_plugin, takes_range, is_compound, is_reference}
use Rattle.definition_rules.specs.Scan.{TextToken, run, mark, Item, gap, item, bad, items_of, text_tokens_of, places_of}
use Rattle.definition_rules.specs.Forms.{Heading, type_run}
use Rattle.definition_rules.specs.Declarations.{Spots, Noted, Frame, frame, Stage, after_name, after_card, after_tag, after_plugin, Phase, at_start, due_semicolon, after_type, due_range, due_range_end, due_name, in_heading, due_card, due_tag, due_card_end, Action, stop, move, note, allow, takes_field, takes_close, takes_group_end, is_in_body, start_run, start_mark, heading_end, heading_run, heading_mark, step, Outcome, stuck_at, complete, map_outcome, end_if, at_end, parse_forms}
use Rattle.definition_rules.specs.Compile.{token_place, outcome_of}
use Rattle.definition_scanner.specs.Live.{live, live_from}
use Rattle.definition_forms.specs.Placed.{placed_spots, placed_noted, placed_by}

unfoldable pub parse_placed : ℕ → List Frame → ℕ → Phase → List Item → Outcome (List Noted)
parse_placed end σ k p [] = at_end σ k end p
parse_placed end σ k p (gap ∷ r) = parse_placed end σ k p r
parse_placed end σ k p (bad q ∷ r) = parse_placed end σ k p r
parse_placed end σ k p (item a x ∷ r) =
    elim (step σ k a p x) [
      | stop ↦ stuck_at a
      | move τ q ↦ parse_placed end τ k q r
      | note d τ q ↦ map_outcome (λ l. d ∷ l) (parse_placed end τ (suc k) q r)
    ]

pub parse_live : (end : ℕ) (is : List Item) (σ : List Frame) (k : ℕ) (p : Phase) → parse_placed end σ k p (live is) ≡ parse_placed end σ k p is
unfolding parse_placed live
parse_live end [] σ k p = refl
parse_live end (gap ∷ r) σ k p = parse_live end r σ k p
parse_live end (bad q ∷ r) σ k p = parse_live end r σ k p
parse_live end (item a x ∷ r) σ k p = by (step σ k a p x) (λ τ j q. parse_live end r τ j q)
  where
    by : (A : Action) → ((τ : List Frame) (j : ℕ) (q : Phase) → parse_placed end τ j q (live r) ≡ parse_placed end τ j q r) →
        ◌≡◌ {A = Outcome (List Noted)}
        (elim A [ stop ↦ stuck_at a | move τ q ↦ parse_placed end τ k q (live r) | note d τ q ↦ map_outcome (λ l. d ∷ l) (parse_placed end τ (suc k) q (live r)) ])
        (elim A [ stop ↦ stuck_at a | move τ q ↦ parse_placed end τ k q r | note d τ q ↦ map_outcome (λ l. d ∷ l) (parse_placed end τ (suc k) q r) ])
    by stop f = refl
    by (move τ q) f = f τ k q
    by (note d τ q) f = ap (map_outcome (λ l. d ∷ l)) (f τ (suc k) q)

-- ---- renaming of spots

unfoldable phase_placed : (ℕ → ℕ) → Phase → Phase
phase_placed f at_start = at_start
phase_placed f due_semicolon = due_semicolon
phase_placed f (after_type y w) = after_type (f y) w
phase_placed f (due_range y w) = due_range (f y) w
phase_placed f (due_range_end y g w v) = due_range_end (f y) (f g) w v
phase_placed f (due_name y g w x) = due_name (f y) (f g) w x
phase_placed f (in_heading l s h) = in_heading l (placed_spots f s) h
phase_placed f (due_card s h) = due_card (placed_spots f s) h
phase_placed f (due_tag s h) = due_tag (placed_spots f s) h
phase_placed f (due_card_end s h) = due_card_end (placed_spots f s) h

unfoldable action_placed : (ℕ → ℕ) → Action → Action
action_placed f stop = stop
action_placed f (move τ q) = move τ (phase_placed f q)
action_placed f (note d τ q) = note (placed_noted f d) τ (phase_placed f q)

unfoldable pub outcome_placed : (ℕ → ℕ) → Outcome (List Noted) → Outcome (List Noted)
outcome_placed f (stuck_at i) = stuck_at (f i)
outcome_placed f (complete ns) = complete (placed_by f ns)

module _ (f : ℕ → ℕ) where
  allow_placed : (t : Bool) (A B : Action) → B ≡ action_placed f A → allow t B ≡ action_placed f (allow t A)
  unfolding allow
  allow_placed true A B e = e
  allow_placed false A B e = unfold action_placed in refl

  pick_placed : (t : Bool) (A B C D : Action) → C ≡ action_placed f A → D ≡ action_placed f B → pick t C D ≡ action_placed f (pick t A B)
  unfolding pick
  pick_placed true A B C D e g = e
  pick_placed false A B C D e g = g

  start_run_placed : (σ : List Frame) (i : ℕ) (w : List ℕ) → start_run σ (f i) w ≡ action_placed f (start_run σ i w)
  unfolding start_run action_placed phase_placed
  start_run_placed [] i w = allow_placed (not (is_reference w)) _ _ refl
  start_run_placed (frame p m ∷ σ) i w = allow_placed (takes_field m) _ _ refl

  start_mark_placed : (σ : List Frame) (n : ℕ) → start_mark σ n ≡ action_placed f (start_mark σ n)
  unfolding start_mark action_placed phase_placed
  start_mark_placed [] n = refl
  start_mark_placed (frame p m ∷ σ) n = pick_placed (eqb n 125) _ _ _ _ (allow_placed (takes_close m) _ _ refl) (pick_placed (eqb n 91) _ _ _ _ (allow_placed (takes_close m) _ _ refl) (allow_placed (eqb n 93 && takes_group_end m) _ _ refl))

  end_placed : (σ : List Frame) (k : ℕ) (s : Spots) (h : Heading) (n : ℕ) → heading_end σ k (placed_spots f s) h n ≡ action_placed f (heading_end σ k s h n)
  unfolding heading_end action_placed phase_placed placed_noted
  end_placed σ k s h n = pick_placed (eqb n 59) _ _ _ _ (allow_placed (not (is_compound (type_run h))) _ _ refl) (allow_placed (eqb n 123 && is_compound (type_run h)) _ _ refl)

  run_placed : (σ : List Frame) (l : Stage) (s : Spots) (h : Heading) (w : List ℕ) → heading_run σ l (placed_spots f s) h w ≡ action_placed f (heading_run σ l s h w)
  unfolding heading_run action_placed phase_placed
  run_placed σ after_name s h w = pick_placed (same_bytes w kw_as) _ _ _ _ (allow_placed (is_in_body σ) _ _ refl) (allow_placed (same_bytes w kw_plugin && is_in_body σ) _ _ refl)
  run_placed σ after_card s h w = pick_placed (same_bytes w kw_as) _ _ _ _ (allow_placed (is_in_body σ) _ _ refl) (allow_placed (same_bytes w kw_plugin && is_in_body σ) _ _ refl)
  run_placed σ after_tag s h w = allow_placed (same_bytes w kw_plugin && is_in_body σ) _ _ refl
  run_placed σ after_plugin s h w = refl

  mark_placed : (σ : List Frame) (l : Stage) (k : ℕ) (s : Spots) (h : Heading) (n : ℕ) → heading_mark σ l k (placed_spots f s) h n ≡ action_placed f (heading_mark σ l k s h n)
  unfolding heading_mark action_placed phase_placed
  mark_placed σ after_name k s h n = pick_placed (eqb n 91) _ _ _ _ (allow_placed (is_in_body σ) _ _ refl) (end_placed σ k s h n)
  mark_placed σ after_card k s h n = end_placed σ k s h n
  mark_placed σ after_tag k s h n = end_placed σ k s h n
  mark_placed σ after_plugin k s h n = end_placed σ k s h n

  step_placed : (σ : List Frame) (k i : ℕ) (p : Phase) (x : TextToken) → step σ k (f i) (phase_placed f p) x ≡ action_placed f (step σ k i p x)
  unfolding step action_placed phase_placed placed_spots
  step_placed σ k i at_start (run w) = start_run_placed σ i w
  step_placed σ k i at_start (mark n) = start_mark_placed σ n
  step_placed σ k i due_semicolon (run w) = refl
  step_placed σ k i due_semicolon (mark n) = allow_placed (eqb n 59) _ _ refl
  step_placed σ k i (after_type y w) (run v) = refl
  step_placed σ k i (after_type y w) (mark n) = allow_placed (eqb n 60 && takes_range w) _ _ refl
  step_placed σ k i (due_range y w) (run v) = refl
  step_placed σ k i (due_range y w) (mark n) = refl
  step_placed σ k i (due_range_end y g w v) (run u) = refl
  step_placed σ k i (due_range_end y g w v) (mark n) = allow_placed (eqb n 62) _ _ refl
  step_placed σ k i (due_name y g w x) (run v) = refl
  step_placed σ k i (due_name y g w x) (mark n) = refl
  step_placed σ k i (in_heading l s h) (run w) = run_placed σ l s h w
  step_placed σ k i (in_heading l s h) (mark n) = mark_placed σ l k s h n
  step_placed σ k i (due_card s h) (run w) = refl
  step_placed σ k i (due_card s h) (mark n) = refl
  step_placed σ k i (due_tag s h) (run w) = refl
  step_placed σ k i (due_tag s h) (mark n) = allow_placed (eqb n 63) _ _ refl
  step_placed σ k i (due_card_end s h) (run w) = refl
  step_placed σ k i (due_card_end s h) (mark n) = allow_placed (eqb n 93) _ _ refl

  map_placed : (d : Noted) (o : Outcome (List Noted)) → map_outcome (λ l. placed_noted f d ∷ l) (outcome_placed f o) ≡ outcome_placed f (map_outcome (λ l. d ∷ l) o)
  unfolding map_outcome outcome_placed placed_by
  map_placed d (stuck_at i) = refl
  map_placed d (complete ns) = refl

  end_if_placed : (t : Bool) (i : ℕ) → end_if t (f i) ≡ outcome_placed f (end_if t i)
  unfolding end_if outcome_placed placed_by
  end_if_placed true i = refl
  end_if_placed false i = refl

  at_end_placed : (σ : List Frame) (k i : ℕ) (p : Phase) → at_end σ k (f i) (phase_placed f p) ≡ outcome_placed f (at_end σ k i p)
  unfolding at_end phase_placed outcome_placed
  at_end_placed [] k i at_start = end_if_placed (eqb k 0) i
  at_end_placed [] k i due_semicolon = refl
  at_end_placed [] k i (after_type y w) = refl
  at_end_placed [] k i (due_range y w) = refl
  at_end_placed [] k i (due_range_end y g w v) = refl
  at_end_placed [] k i (due_name y g w x) = refl
  at_end_placed [] k i (in_heading l s h) = refl
  at_end_placed [] k i (due_card s h) = refl
  at_end_placed [] k i (due_tag s h) = refl
  at_end_placed [] k i (due_card_end s h) = refl
  at_end_placed (g ∷ σ) k i p = refl

  module _ (end : ℕ) where
    abbrev Numbered : ℕ → List Item → Type 0
    Numbered i is = (j : ℕ) → f (i + j) ≡ get_or (places_of is) j end

    next_numbered : (i a : ℕ) (x : TextToken) (r : List Item) → Numbered i (item a x ∷ r) → Numbered (suc i) r
    unfolding places_of
    next_numbered i a x r h j = let e : suc i + j ≡ i + suc j = omega arith in rw e (h (suc j))

    first_numbered : (i a : ℕ) (x : TextToken) (r : List Item) → Numbered i (item a x ∷ r) → f i ≡ a
    unfolding places_of
    first_numbered i a x r h = ap f (sym (add-zero i)) ∙ h 0

    last_numbered : (i : ℕ) → Numbered i [] → f i ≡ end
    unfolding places_of
    last_numbered i h = ap f (sym (add-zero i)) ∙ h 0

    abbrev Placing : List Item → Type 0
    Placing is = (σ : List Frame) (k i : ℕ) (p : Phase) → Numbered i is → parse_placed end σ k (phase_placed f p) is ≡ outcome_placed f (parse_forms σ k i p (text_tokens_of is))

    placing_step : (a : ℕ) (x : TextToken) (r : List Item) → Placing r → Placing (item a x ∷ r)
    unfolding parse_placed parse_forms text_tokens_of
    placing_step a x r g σ k i p h =
        let e : step σ k a (phase_placed f p) x ≡ action_placed f (step σ k i p x) = ap (λ b. step σ k b (phase_placed f p) x) (sym (first_numbered i a x r h)) ∙ step_placed σ k i p x in
        rw (e, parse_placed) (by (step σ k i p x))
      where
        by : (A : Action) →
            elim (action_placed f A) [ stop ↦ stuck_at a | move τ q ↦ parse_placed end τ k q r | note d τ q ↦ map_outcome (λ l. d ∷ l) (parse_placed end τ (suc k) q r) ]
            ≡ outcome_placed f (elim A [ stop ↦ stuck_at i | move τ q ↦ parse_forms τ k (suc i) q (text_tokens_of r) | note d τ q ↦ map_outcome (λ l. d ∷ l) (parse_forms τ (suc k) (suc i) q (text_tokens_of r)) ])
        by stop = unfold action_placed outcome_placed in (ap stuck_at (sym (first_numbered i a x r h)))
        by (move τ q) = unfold action_placed in (g τ k (suc i) q (next_numbered i a x r h))
        by (note d τ q) = unfold action_placed in (ap (map_outcome (λ l. placed_noted f d ∷ l)) (g τ (suc k) (suc i) q (next_numbered i a x r h)) ∙ map_placed d (parse_forms τ (suc k) (suc i) q (text_tokens_of r)))

    placing : (is : List Item) → Placing is
    unfolding parse_placed parse_forms text_tokens_of
    placing [] σ k i p h = ap (λ e. at_end σ k e (phase_placed f p)) (sym (last_numbered i h)) ∙ at_end_placed σ k i p
    placing (gap ∷ r) σ k i p h = placing r σ k i p (unfold places_of in h)
    placing (bad q ∷ r) σ k i p h = placing r σ k i p (unfold places_of in h)
    placing (item a x ∷ r) σ k i p h = placing_step a x r (placing r) σ k i p h

-- the outcome of a text, placed
abbrev pub placed_outcome : List ℕ → Outcome (List Noted)
placed_outcome text = outcome_placed (token_place text (items_of text)) (outcome_of text)

pub outcome_is : (text : List ℕ) → placed_outcome text ≡ parse_placed (length text) [] 0 at_start (live_from text 0)
unfolding token_place phase_placed
outcome_is text = sym (parse_live (length text) (items_of text) [] 0 at_start ∙ placing (token_place text (items_of text)) (length text) (items_of text) [] 0 0 at_start (λ j. rw (zero-add j)))

-- ---- back

pub stuck_back : (f : ℕ → ℕ) (o : Outcome (List Noted)) (p : ℕ) → outcome_placed f o ≡ stuck_at p → (i : ℕ) × (o ≡ stuck_at i) × (f i ≡ p)
unfolding outcome_placed
stuck_back f (stuck_at i) p e = (i, refl, (cc))
stuck_back f (complete ns) p e = cc

pub complete_back : (f : ℕ → ℕ) (o : Outcome (List Noted)) (ms : List Noted) → outcome_placed f o ≡ complete ms → (ns : List Noted) × (o ≡ complete ns) × (placed_by f ns ≡ ms)
unfolding outcome_placed
complete_back f (stuck_at i) ms e = cc
complete_back f (complete ns) ms e = (ns, refl, (cc))
