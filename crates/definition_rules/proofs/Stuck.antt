-- T3. The place of number 3: the first token with which no completion exists, or the end.
use mathlib.Core.Path.{◌≡◌, refl, ap, subst, sym, ◌∙◌}
use mathlib.Core.Bool.{Bool, true, false}
use mathlib.Core.List.{List, [], ◌∷◌, ◌++◌, append_assoc}
use Prim.Native.Nat.{ℕ, suc, ◌+◌, ◌<◌}
use native.Mathlib.Omega.{arith}
use lib.Dec.{eqb}
use lib.ListN.{length}
use borrow.Author.Tests.{ne_eqb}
use Rattle.classes.specs.Lists.{same_bytes, pick}
use Rattle.definition_rules.specs.Words.{kw_int, number_if, number_in, kind_of_run, is_compound, is_reference}
use Rattle.definition_rules.specs.Scan.{TextToken, run, mark}
use Rattle.definition_rules.specs.Forms.{MaybeRun, absent, given, own_name, tagless, Heading, heading, type_run, Fits, Viable, StuckBy, token, ending_due}
use Rattle.definition_rules.specs.Declarations.{declaration, Spots, spots_of, card_spot, Noted, noted, in_fields, group_opened, in_group, groups_closed, Frame, frame, Stage, after_name, after_card, after_tag, after_plugin, Phase, at_start, due_semicolon, after_type, due_range, due_range_end, due_name, in_heading, due_card, due_tag, due_card_end, Action, stop, move, note, allow, with_card, with_tag, takes_field, takes_close, takes_group_end, is_extension, after_field, field_done, parent_of, is_under_extension, start_run, start_mark, heading_end, heading_mark, step, Outcome, stuck_at, complete, map_outcome, end_if, at_end, parse_forms, parse_tokens}
use mathlib.Core.Logic.{◌⊎◌, inl, inr}
use Rattle.definition_rules.proofs.FormComplete.{parse_move, parse_note, parse_stop, fits_complete}
use Rattle.definition_rules.proofs.FormSound.{stuck_complete, complete_fits}

-- ---- every state can be completed

abbrev any_run : List ℕ
any_run = 120 ∷ []

abbrev Completes : List Frame → ℕ → ℕ → Phase → List TextToken → Type 0
Completes σ k i p ts = (ns : List Noted) × (parse_forms σ k i p ts ≡ complete ns)

-- closes all that is open; a top more makes one or more
unfoldable closing : List Frame → List TextToken
closing [] = run kw_int ∷ run any_run ∷ mark 59 ∷ []
closing (frame p in_fields ∷ σ) = mark 125 ∷ mark 59 ∷ closing σ
closing (frame p group_opened ∷ σ) = run kw_int ∷ run any_run ∷ mark 59 ∷ mark 93 ∷ mark 125 ∷ mark 59 ∷ closing σ
closing (frame p in_group ∷ σ) = mark 93 ∷ mark 125 ∷ mark 59 ∷ closing σ
closing (frame p groups_closed ∷ σ) = mark 125 ∷ mark 59 ∷ closing σ

noted_too : (d : Noted) (m : Outcome (List Noted)) → (ns : List Noted) × (m ≡ complete ns) → (ns : List Noted) × (map_outcome (λ r. d ∷ r) m ≡ complete ns)
unfolding map_outcome
noted_too d m h = (d ∷ h.0, rw h.1)

close_start : (σ : List Frame) (k i : ℕ) → Completes σ k i at_start (closing σ)
unfolding closing parse_forms step start_run start_mark allow is_reference takes_field takes_close takes_group_end heading_mark heading_end pick is_compound kind_of_run number_in number_if same_bytes type_run parent_of is_under_extension is_extension field_done after_field at_end
close_start [] k i = noted_too _ (end_if (eqb (suc k) 0) (suc (suc (suc i)))) (rw (ne_eqb (suc k) 0 (λ q. omega arith)) ([], unfold end_if in refl))
close_start (frame p in_fields ∷ σ) k i = close_start σ k (suc (suc i))
close_start (frame p group_opened ∷ σ) k i = noted_too _ (parse_forms σ (suc k) (suc (suc (suc (suc (suc (suc i)))))) at_start (closing σ)) (close_start σ (suc k) (suc (suc (suc (suc (suc (suc i)))))))
close_start (frame p in_group ∷ σ) k i = close_start σ k (suc (suc (suc i)))
close_start (frame p groups_closed ∷ σ) k i = close_start σ k (suc (suc i))

-- ends a heading and closes the rest
unfoldable ending_of : Bool → List Frame → ℕ → List TextToken
ending_of true σ k = mark 123 ∷ closing (frame k in_fields ∷ field_done σ)
ending_of false σ k = mark 59 ∷ closing (field_done σ)

abbrev ending : List Frame → ℕ → Heading → List TextToken
ending σ k h = ending_of (is_compound (type_run h)) σ k

close_heading : (σ : List Frame) (k i : ℕ) (l : Stage) (s : Spots) (h : Heading) → Completes σ k i (in_heading l s h) (ending σ k h)
close_heading σ k i l s h = by (is_compound (type_run h)) refl
  where
    d : Noted
    d = noted s (declaration (parent_of σ) (is_under_extension σ) h)

    semi : (l : Stage) → is_compound (type_run h) ≡ false → step σ k i (in_heading l s h) (mark 59) ≡ note d (field_done σ) at_start
    semi after_name e = unfold step heading_mark heading_end pick allow in (rw e)
    semi after_card e = unfold step heading_mark heading_end pick allow in (rw e)
    semi after_tag e = unfold step heading_mark heading_end pick allow in (rw e)
    semi after_plugin e = unfold step heading_mark heading_end pick allow in (rw e)

    brace : (l : Stage) → is_compound (type_run h) ≡ true → step σ k i (in_heading l s h) (mark 123) ≡ note d (frame k in_fields ∷ field_done σ) at_start
    brace after_name e = unfold step heading_mark heading_end pick allow in (rw e)
    brace after_card e = unfold step heading_mark heading_end pick allow in (rw e)
    brace after_tag e = unfold step heading_mark heading_end pick allow in (rw e)
    brace after_plugin e = unfold step heading_mark heading_end pick allow in (rw e)

    by : (b : Bool) → is_compound (type_run h) ≡ b → Completes σ k i (in_heading l s h) (ending_of b σ k)
    by true e =
        let x = noted_too d (parse_forms (frame k in_fields ∷ field_done σ) (suc k) (suc i) at_start (closing (frame k in_fields ∷ field_done σ))) (close_start (frame k in_fields ∷ field_done σ) (suc k) (suc i)) in
        unfold ending_of in (x.0, parse_note σ (frame k in_fields ∷ field_done σ) k i (in_heading l s h) at_start (mark 123) (closing (frame k in_fields ∷ field_done σ)) d (brace l e) ∙ x.1)
    by false e =
        let x = noted_too d (parse_forms (field_done σ) (suc k) (suc i) at_start (closing (field_done σ))) (close_start (field_done σ) (suc k) (suc i)) in
        unfold ending_of in (x.0, parse_note σ (field_done σ) k i (in_heading l s h) at_start (mark 59) (closing (field_done σ)) d (semi l e) ∙ x.1)

abbrev bare_heading : List ℕ → MaybeRun → Heading
bare_heading w g = heading w g any_run absent own_name false

close_name : (σ : List Frame) (k i y g : ℕ) (w : List ℕ) (x : MaybeRun) → Completes σ k i (due_name y g w x) (run any_run ∷ ending σ k (bare_heading w x))
unfolding parse_forms step
close_name σ k i y g w x = close_heading σ k (suc i) after_name (spots_of y g i) (bare_heading w x)

pub completion : (σ : List Frame) (k i : ℕ) (p : Phase) → (ts : List TextToken) × Completes σ k i p ts
unfolding parse_forms step allow
completion σ k i at_start = (closing σ, close_start σ k i)
completion σ k i due_semicolon = (mark 59 ∷ closing σ, close_start σ k (suc i))
completion σ k i (after_type y w) = (run any_run ∷ ending σ k (bare_heading w absent), close_heading σ k (suc i) after_name (spots_of y y i) (bare_heading w absent))
completion σ k i (due_range y w) = (run any_run ∷ mark 62 ∷ run any_run ∷ ending σ k (bare_heading w (given any_run)), close_name σ k (suc (suc i)) y i w (given any_run))
completion σ k i (due_range_end y g w v) = (mark 62 ∷ run any_run ∷ ending σ k (bare_heading w (given v)), close_name σ k (suc i) y g w (given v))
completion σ k i (due_name y g w x) = (run any_run ∷ ending σ k (bare_heading w x), close_name σ k i y g w x)
completion σ k i (in_heading l s h) = (ending σ k h, close_heading σ k i l s h)
completion σ k i (due_card s h) = (run any_run ∷ mark 93 ∷ ending σ k (with_card any_run h), close_heading σ k (suc (suc i)) after_card (card_spot i s) (with_card any_run h))
completion σ k i (due_tag s h) = (mark 63 ∷ ending σ k (with_tag tagless h), close_heading σ k (suc i) after_tag s (with_tag tagless h))
completion σ k i (due_card_end s h) = (mark 93 ∷ ending σ k h, close_heading σ k (suc i) after_card s h)

map_done : {A B : Type 0} (f : A → B) (a : A) → map_outcome f (complete a) ≡ complete (f a)
unfolding map_outcome
map_done f a = refl

map_stuck : {A B : Type 0} (f : A → B) (i : ℕ) → map_outcome f (stuck_at i) ≡ stuck_at i
unfolding map_outcome
map_stuck f i = refl

-- a state at the end of the row
at_end_lem : (σ : List Frame) (k j : ℕ) (p : Phase) → ◌⊎◌ (parse_forms σ k j p [] ≡ stuck_at j) (parse_forms σ k j p [] ≡ complete [])
unfolding parse_forms at_end end_if
at_end_lem [] k j at_start = by (eqb k 0)
  where
    by : (b : Bool) → ◌⊎◌ (end_if b j ≡ stuck_at j) (end_if b j ≡ complete [])
    by true = inl refl
    by false = inr refl
at_end_lem (f ∷ σ) k j p = inl refl
at_end_lem [] k j due_semicolon = inl refl
at_end_lem [] k j (after_type y w) = inl refl
at_end_lem [] k j (due_range y w) = inl refl
at_end_lem [] k j (due_range_end y g w v) = inl refl
at_end_lem [] k j (due_name y g w x) = inl refl
at_end_lem [] k j (in_heading l s h) = inl refl
at_end_lem [] k j (due_card s h) = inl refl
at_end_lem [] k j (due_tag s h) = inl refl
at_end_lem [] k j (due_card_end s h) = inl refl

-- ---- over a beginning

-- after the beginning ps the automaton stands in a state, whatever follows
pub record Reached (σ : List Frame) (k i : ℕ) (p : Phase) (ps : List TextToken) : Type 0 where
  pub stack : List Frame
  pub count : ℕ
  pub phase : Phase
  pub before : List Noted → List Noted
  pub goes : (ts : List TextToken) → parse_forms σ k i p (ps ++ ts) ≡ map_outcome before (parse_forms stack count (i + length ps) phase ts)

-- or it stops inside
pub record HaltsInside (σ : List Frame) (k i : ℕ) (p : Phase) (ps : List TextToken) : Type 0 where
  pub at : ℕ
  pub inside : at < i + length ps
  pub halts : (ts : List TextToken) → parse_forms σ k i p (ps ++ ts) ≡ stuck_at at

map_same : (o : Outcome (List Noted)) → map_outcome (λ r. r) o ≡ o
unfolding map_outcome
map_same (stuck_at i) = refl
map_same (complete a) = refl

map_twice : (f g : List Noted → List Noted) (o : Outcome (List Noted)) → map_outcome f (map_outcome g o) ≡ map_outcome (λ r. f (g r)) o
unfolding map_outcome
map_twice f g (stuck_at i) = refl
map_twice f g (complete a) = refl

at_number : (σ : List Frame) (k i j : ℕ) (p : Phase) (ts : List TextToken) → i ≡ j → parse_forms σ k i p ts ≡ parse_forms σ k j p ts
at_number σ k i j p ts e = rw e

abbrev HaltsOrReaches : List TextToken → Type 0
HaltsOrReaches ps = (σ : List Frame) (k i : ℕ) (p : Phase) → ◌⊎◌ (HaltsInside σ k i p ps) (Reached σ k i p ps)

over_step : (x : TextToken) (ps : List TextToken) → HaltsOrReaches ps → HaltsOrReaches (x ∷ ps)
over_step x ps f σ k i p = by (step σ k i p x) refl
  where
    by : (a : Action) → step σ k i p x ≡ a → ◌⊎◌ (HaltsInside σ k i p (x ∷ ps)) (Reached σ k i p (x ∷ ps))
    by stop e = inl (record { at = i; inside = omega arith; halts = λ ts. parse_stop σ k i p x (ps ++ ts) e })
    by (move τ q) e = go (f τ k (suc i) q)
      where
        go : ◌⊎◌ (HaltsInside τ k (suc i) q ps) (Reached τ k (suc i) q ps) → ◌⊎◌ (HaltsInside σ k i p (x ∷ ps)) (Reached σ k i p (x ∷ ps))
        go (inl h) = inl (record { at = h.at; inside = omega (arith, h.inside); halts = λ ts. parse_move σ τ k i p q x (ps ++ ts) e ∙ h.halts ts })
        go (inr r) = inr (record { stack = r.stack; count = r.count; phase = r.phase; before = r.before; goes = λ ts. parse_move σ τ k i p q x (ps ++ ts) e ∙ (r.goes ts ∙ ap (map_outcome r.before) (at_number r.stack r.count (suc i + length ps) (i + suc (length ps)) r.phase ts (omega arith))) })
    by (note d τ q) e = go (f τ (suc k) (suc i) q)
      where
        go : ◌⊎◌ (HaltsInside τ (suc k) (suc i) q ps) (Reached τ (suc k) (suc i) q ps) → ◌⊎◌ (HaltsInside σ k i p (x ∷ ps)) (Reached σ k i p (x ∷ ps))
        go (inl h) = inl (record { at = h.at; inside = omega (arith, h.inside); halts = λ ts. parse_note σ τ k i p q x (ps ++ ts) d e ∙ (ap (map_outcome (λ r. d ∷ r)) (h.halts ts) ∙ map_stuck (λ r. d ∷ r) h.at) })
        go (inr r) = inr (record { stack = r.stack; count = r.count; phase = r.phase; before = λ l. d ∷ r.before l; goes = λ ts. parse_note σ τ k i p q x (ps ++ ts) d e ∙ (ap (map_outcome (λ r. d ∷ r)) (r.goes ts ∙ ap (map_outcome r.before) (at_number r.stack r.count (suc i + length ps) (i + suc (length ps)) r.phase ts (omega arith))) ∙ map_twice (λ l. d ∷ l) r.before _) })

over : (ps : List TextToken) → HaltsOrReaches ps
over [] σ k i p = inr (record { stack = σ; count = k; phase = p; before = λ r. r; goes = λ ts. at_number σ k i (i + 0) p ts (omega arith) ∙ sym (map_same _) })
over (x ∷ ps) σ k i p = over_step x ps (over ps) σ k i p

-- ---- the theorem

abbrev Start : List TextToken → Type 0
Start ps = Reached [] 0 0 at_start ps

reached_viable : (ps : List TextToken) → Start ps → Viable ps
reached_viable ps r =
    let c = completion r.stack r.count (0 + length ps) r.phase in
    (c.0, (complete_fits (ps ++ c.0) (r.before c.1.0) (r.goes c.0 ∙ (ap (map_outcome r.before) c.1.1 ∙ map_done r.before c.1.0))).0)

viable_reached : {X : Type 0} (ps : List TextToken) → Viable ps → (Start ps → X) → X
viable_reached {X} ps v k = by (over ps [] 0 0 at_start)
  where
    by : ◌⊎◌ (HaltsInside [] 0 0 at_start ps) (Start ps) → X
    by (inl h) = let f = fits_complete (ps ++ v.0) v.1 in stuck_complete (sym (h.halts v.0) ∙ f.1)
    by (inr r) = k r

-- the token t after ps can't go on, whatever follows
abbrev CannotGoOn : List TextToken → TextToken → Type 0
CannotGoOn ps t = (more : List TextToken) → Fits (ps ++ (t ∷ more)) → ⊥

not_viable : (ps : List TextToken) (t : TextToken) → CannotGoOn ps t → Viable (ps ++ (t ∷ [])) → ⊥
not_viable ps t c v = c v.0 (rw (append_assoc ps (t ∷ []) v.0) at v.1)

viable_not : (ps : List TextToken) (t : TextToken) → (Viable (ps ++ (t ∷ [])) → ⊥) → CannotGoOn ps t
viable_not ps t c more f = c (more, rw (append_assoc ps (t ∷ []) more) f)

fits_not_stuck : (ts : List TextToken) (i : ℕ) → parse_tokens ts ≡ stuck_at i → Fits ts → ⊥
fits_not_stuck ts i e f = let c = fits_complete ts f in stuck_complete (sym e ∙ c.1)

halt_at : (ps : List TextToken) (r : Start ps) (t : TextToken) (more : List TextToken) → step r.stack r.count (0 + length ps) r.phase t ≡ stop → parse_tokens (ps ++ (t ∷ more)) ≡ stuck_at (0 + length ps)
halt_at ps r t more e = r.goes (t ∷ more) ∙ (ap (map_outcome r.before) (parse_stop r.stack r.count (0 + length ps) r.phase t more e) ∙ map_stuck r.before (0 + length ps))

-- ps read so far, ts still to read
stuck_number : {i j : ℕ} → ◌≡◌ {A = Outcome (List Noted)} (stuck_at i) (stuck_at j) → i ≡ j
stuck_number e = cc

pub data Fate (ps : List TextToken) (ts : List TextToken) : Type 0 where
  stops : (qs : List TextToken) (t : TextToken) (more : List TextToken) (r : Start qs) → ps ++ ts ≡ qs ++ (t ∷ more) → step r.stack r.count (0 + length qs) r.phase t ≡ stop → Fate ps ts
  passes : Start (ps ++ ts) → Fate ps ts

fate_on : (ps : List TextToken) (t : TextToken) (ts : List TextToken) → Fate (ps ++ (t ∷ [])) ts → Fate ps (t ∷ ts)
fate_on ps t ts (stops qs u more r e s) = stops qs u more r (sym (append_assoc ps (t ∷ []) ts) ∙ e) s
fate_on ps t ts (passes r) = passes (subst Start (append_assoc ps (t ∷ []) ts) r)

one_more : (ps : List TextToken) (t : TextToken) (r : Start ps) (a : Action) → step r.stack r.count (0 + length ps) r.phase t ≡ a → (a ≡ stop → ⊥) → Start (ps ++ (t ∷ []))
one_more ps t r a e n = by (over (ps ++ (t ∷ [])) [] 0 0 at_start)
  where
    by : ◌⊎◌ (HaltsInside [] 0 0 at_start (ps ++ (t ∷ []))) (Start (ps ++ (t ∷ []))) → Start (ps ++ (t ∷ []))
    by (inr s) = s
    by (inl h) = absurd (go a e n)
      where
        halted : (ts : List TextToken) → map_outcome r.before (parse_forms r.stack r.count (0 + length ps) r.phase (t ∷ ts)) ≡ stuck_at h.at
        halted ts = sym (r.goes (t ∷ ts)) ∙ (ap parse_tokens (sym (append_assoc ps (t ∷ []) ts)) ∙ h.halts ts)

        go : (a : Action) → step r.stack r.count (0 + length ps) r.phase t ≡ a → (a ≡ stop → ⊥) → ⊥
        go stop e n = n refl
        go (move τ q) e n = let c = completion τ r.count (suc (0 + length ps)) q in stuck_complete (sym (halted c.0) ∙ (ap (map_outcome r.before) (parse_move r.stack τ r.count (0 + length ps) r.phase q t c.0 e ∙ c.1.1) ∙ map_done r.before c.1.0))
        go (note d τ q) e n = let c = completion τ (suc r.count) (suc (0 + length ps)) q in stuck_complete (sym (halted c.0) ∙ (ap (map_outcome r.before) (parse_note r.stack τ r.count (0 + length ps) r.phase q t c.0 d e ∙ (ap (map_outcome (λ r. d ∷ r)) c.1.1 ∙ map_done (λ r. d ∷ r) c.1.0)) ∙ map_done r.before (d ∷ c.1.0)))

fate : (ts ps : List TextToken) → Start ps → Fate ps ts
fate [] ps r = passes (subst Start (sym (nil_right ps)) r)
  where
    nil_right : (l : List TextToken) → l ++ [] ≡ l
    nil_right [] = refl
    nil_right (x ∷ l) = ap (λ q. x ∷ q) (nil_right l)
fate (t ∷ ts) ps r = by (step r.stack r.count (0 + length ps) r.phase t) refl (λ s. fate ts (ps ++ (t ∷ [])) s)
  where
    action_no : {X : Type 0} {d : Noted} {τ : List Frame} {q : Phase} → note d τ q ≡ stop → X
    action_no e = let z : ◌≡◌ {A = ℕ} 0 1 = cc in absurd (omega arith)

    move_no : {X : Type 0} {τ : List Frame} {q : Phase} → move τ q ≡ stop → X
    move_no e = let z : ◌≡◌ {A = ℕ} 0 1 = cc in absurd (omega arith)

    by : (a : Action) → step r.stack r.count (0 + length ps) r.phase t ≡ a → (Start (ps ++ (t ∷ [])) → Fate (ps ++ (t ∷ [])) ts) → Fate ps (t ∷ ts)
    by stop e f = stops ps t ts r refl e
    by (move τ q) e f = fate_on ps t ts (f (one_more ps t r (move τ q) e move_no))
    by (note d τ q) e f = fate_on ps t ts (f (one_more ps t r (note d τ q) e action_no))

begun : Start []
begun = record { stack = []; count = 0; phase = at_start; before = λ r. r; goes = λ ts. sym (map_same _) }

-- a state at the end that is not complete
end_stuck : (ts : List TextToken) (r : Start ts) (i : ℕ) → parse_tokens ts ≡ stuck_at i → i ≡ length ts
end_stuck ts r i e = by (at_end_lem r.stack r.count (0 + length ts) r.phase)
  where
    nil_right : (l : List TextToken) → l ++ [] ≡ l
    nil_right [] = refl
    nil_right (x ∷ l) = ap (λ q. x ∷ q) (nil_right l)

    ended : map_outcome r.before (parse_forms r.stack r.count (0 + length ts) r.phase []) ≡ stuck_at i
    ended = sym (r.goes []) ∙ (ap parse_tokens (nil_right ts) ∙ e)

    by : ◌⊎◌ (parse_forms r.stack r.count (0 + length ts) r.phase [] ≡ stuck_at (0 + length ts)) (parse_forms r.stack r.count (0 + length ts) r.phase [] ≡ complete []) → i ≡ length ts
    by (inl q) = let z = stuck_number {i = i} {j = 0 + length ts} (sym ended ∙ (ap (map_outcome r.before) q ∙ map_stuck r.before (0 + length ts))) in omega arith
    by (inr q) = stuck_complete (sym ended ∙ (ap (map_outcome r.before) q ∙ map_done r.before []))

-- number 3 at token i exactly when i is the first token that can't go on, or more is due at the end
pub stuck_by : (ts : List TextToken) (i : ℕ) → parse_tokens ts ≡ stuck_at i → StuckBy ts i
stuck_by ts i e = by (fate ts [] begun)
  where
    by : Fate [] ts → StuckBy ts i
    by (stops ps t more r q s) =
        let z = stuck_number {i = i} {j = 0 + length ps} (sym e ∙ (ap parse_tokens q ∙ halt_at ps r t more s)) in
        token ps t more q (omega arith) (reached_viable ps r) (not_viable ps t (λ us f. fits_not_stuck (ps ++ (t ∷ us)) (0 + length ps) (halt_at ps r t us s) f))
    by (passes r) = ending_due (end_stuck ts r i e) (reached_viable ts r) (fits_not_stuck ts i e)

outcome_case : {X : Type 0} (ts : List TextToken) → ((i : ℕ) → parse_tokens ts ≡ stuck_at i → X) → ((ns : List Noted) → parse_tokens ts ≡ complete ns → X) → X
outcome_case {X} ts f g = by (parse_tokens ts) refl
  where
    by : (o : Outcome (List Noted)) → parse_tokens ts ≡ o → X
    by (stuck_at i) e = f i e
    by (complete ns) e = g ns e

dead_token : (ps : List TextToken) (t : TextToken) → Viable ps → CannotGoOn ps t → (r : Start ps) × (step r.stack r.count (0 + length ps) r.phase t ≡ stop)
dead_token ps t v c = viable_reached ps v (λ r. (r, by r (step r.stack r.count (0 + length ps) r.phase t) refl))
  where
    live : (r : Start ps) (a : Action) → step r.stack r.count (0 + length ps) r.phase t ≡ a → (a ≡ stop → ⊥) → ⊥
    live r a e n =
        let s = reached_viable (ps ++ (t ∷ [])) (one_more ps t r a e n) in
        c s.0 (subst Fits (append_assoc ps (t ∷ []) s.0) s.1)

    by : (r : Start ps) (a : Action) → step r.stack r.count (0 + length ps) r.phase t ≡ a → a ≡ stop
    by r stop e = refl
    by r (move τ q) e = absurd (live r (move τ q) e (λ z. let w : ◌≡◌ {A = ℕ} 0 1 = cc in omega arith))
    by r (note d τ q) e = absurd (live r (note d τ q) e (λ z. let w : ◌≡◌ {A = ℕ} 0 1 = cc in omega arith))

pub by_stuck : (ts : List TextToken) (i : ℕ) → StuckBy ts i → parse_tokens ts ≡ stuck_at i
by_stuck ts i (token ps t more e n v c) =
    let d = dead_token ps t v (viable_not ps t c) in
    ap parse_tokens e ∙ (halt_at ps d.0 t more d.1 ∙ ap stuck_at (omega arith))
by_stuck ts i (ending_due n v f) =
    outcome_case ts
    (λ j e. viable_reached ts v (λ r. e ∙ ap stuck_at (end_stuck ts r j e ∙ sym n)))
    (λ ns e. absurd (f (complete_fits ts ns e).0))
