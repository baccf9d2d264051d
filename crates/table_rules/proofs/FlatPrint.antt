-- A definition for a flat list of declarations, and its reading.
use mathlib.Core.Path.{◌≡◌, refl, ap, ◌∙◌}
use mathlib.Core.Bool.{Bool, true, false}
use mathlib.Core.List.{List, [], ◌∷◌}
use Prim.Native.Nat.{ℕ, suc, ◌+◌, ◌≤◌}
use native.Mathlib.Omega.{arith}
use lib.ListN.{length}
use borrow.Author.Tests.{ne_eqb}
use Rattle.classes.specs.Lists.{pick}
use Rattle.definition_rules.specs.Words.{is_compound}
use Rattle.definition_rules.specs.Scan.{TextToken, mark}
use Rattle.definition_rules.specs.Forms.{type_run, put_head, HeadAllowed, Heading, Level, top_level, field_level}
use Rattle.reading_rules.specs.Record.{Up, top}
use Rattle.definition_rules.specs.Declarations.{allow, takes_field, takes_close, takes_group_end, is_extension, after_field, field_done, parent_of, is_under_extension, start_mark, step, map_outcome, end_if, at_end, parse_forms, declarations_of, Declaration, declaration, BodyMode, in_fields, group_opened, in_group, groups_closed, Frame, frame, at_start, complete}
use Rattle.table_rules.specs.RecordRules.{is_open, closed_to, in_extension, push_if}
use Rattle.definition_rules.proofs.FormComplete.{parse_move, StandsAt, read_head, told, told_note, end_plain, end_brace, close}

-- ---- a flat list of declarations printed, the bodies closed and the extension groups opened as they must

unfoldable pub put_end_of : Bool → ℕ
put_end_of true = 123
put_end_of false = 59

unfoldable pub put_heading : Heading → List TextToken → List TextToken
put_heading h r = put_head h (mark (put_end_of (is_compound (type_run h))) ∷ r)

unfoldable pub pushed : List ℕ → ℕ → List Frame → List Frame
pushed w k σ = push_if (is_compound w) k σ

unfoldable pub put_close : BodyMode → List TextToken → List TextToken
put_close in_fields r = mark 125 ∷ mark 59 ∷ r
put_close group_opened r = r
put_close in_group r = mark 93 ∷ mark 125 ∷ mark 59 ∷ r
put_close groups_closed r = mark 125 ∷ mark 59 ∷ r

unfoldable pub put_closes : Up → List Frame → List TextToken → List TextToken
put_closes u [] r = r
put_closes u (frame q m ∷ σ) r = pick (is_open u q) r (put_close m (put_closes u σ r))

-- the first field of an extension opens its group
unfoldable pub put_open : Bool → List Frame → List TextToken → List TextToken
put_open e [] r = r
put_open true (frame q in_fields ∷ σ) r = mark 91 ∷ r
put_open true (frame q group_opened ∷ σ) r = r
put_open true (frame q in_group ∷ σ) r = r
put_open true (frame q groups_closed ∷ σ) r = r
put_open false (f ∷ σ) r = r

unfoldable pub print_flat : List Frame → ℕ → List Declaration → List TextToken
print_flat σ k [] = put_closes top σ []
print_flat σ k (declaration u e h ∷ ds) = put_closes u σ (put_open e (closed_to u σ) (put_heading h (print_flat (pushed (type_run h) k (in_extension e (closed_to u σ))) (suc k) ds)))

-- no group is just opened or closed
unfoldable pub Settled : List Frame → Type 0
Settled [] = Unit {0}
Settled (frame q in_fields ∷ σ) = Settled σ
Settled (frame q group_opened ∷ σ) = ⊥
Settled (frame q in_group ∷ σ) = Settled σ
Settled (frame q groups_closed ∷ σ) = ⊥

-- what may stand on a stack
unfoldable pub FitsOn : List Frame → Bool → Heading → Type 0
FitsOn [] e h = (e ≡ false) × HeadAllowed top_level h
FitsOn (frame q in_fields ∷ σ) e h = HeadAllowed field_level h
FitsOn (frame q group_opened ∷ σ) e h = ⊥
FitsOn (frame q in_group ∷ σ) e h = (e ≡ true) × HeadAllowed field_level h
FitsOn (frame q groups_closed ∷ σ) e h = ⊥

unfoldable pub InOrder : List Frame → ℕ → List Declaration → Type 0
InOrder σ k [] = Unit {0}
InOrder σ k (declaration u e h ∷ ds) = (parent_of (closed_to u σ) ≡ u) × FitsOn (closed_to u σ) e h × InOrder (pushed (type_run h) k (in_extension e (closed_to u σ))) (suc k) ds

-- ---- it is read back

abbrev Heads : List Frame → ℕ → Bool → Heading → List TextToken → List Frame → List TextToken → Type 0
Heads σ k e h us τ r = (i : ℕ) → (j : ℕ) × (told (parse_forms σ k i at_start us) ≡ map_outcome (λ l. declaration (parent_of σ) e h ∷ l) (told (parse_forms (pushed (type_run h) k τ) (suc k) j at_start r)))

head_end : (l : Level) (σ : List Frame) (k : ℕ) (h : Heading) (r : List TextToken) → StandsAt l σ → HeadAllowed l h → Heads σ k (is_under_extension σ) h (put_heading h r) (field_done σ) r
unfolding put_heading pushed
head_end l σ k h r a o i = by (is_compound (type_run h)) refl
  where
    d : Declaration
    d = declaration (parent_of σ) (is_under_extension σ) h

    by : (b : Bool) → is_compound (type_run h) ≡ b → (j : ℕ) × (told (parse_forms σ k i at_start (put_head h (mark (put_end_of b) ∷ r))) ≡ map_outcome (λ l. declaration (parent_of σ) (is_under_extension σ) h ∷ l) (told (parse_forms (push_if b k (field_done σ)) (suc k) j at_start r)))
    by true e = unfold put_end_of push_if in (let x = read_head l σ k i h (mark 123 ∷ r) a o in (suc x.0, ap told (x.3 ∙ end_brace σ k x.0 x.1 x.2 h r e) ∙ told_note x.2 (declaration (parent_of σ) (is_under_extension σ) h) (parse_forms (frame k in_fields ∷ field_done σ) (suc k) (suc x.0) at_start r)))
    by false e = unfold put_end_of push_if in (let x = read_head l σ k i h (mark 59 ∷ r) a o in (suc x.0, ap told (x.3 ∙ end_plain σ k x.0 x.1 x.2 h r e) ∙ told_note x.2 (declaration (parent_of σ) (is_under_extension σ) h) (parse_forms (field_done σ) (suc k) (suc x.0) at_start r)))

pub settled_tail : (q : ℕ) (m : BodyMode) (σ : List Frame) → Settled (frame q m ∷ σ) → Settled σ
unfolding Settled
settled_tail q in_fields σ h = h
settled_tail q group_opened σ h = absurd h
settled_tail q in_group σ h = h
settled_tail q groups_closed σ h = absurd h

read_close : (q : ℕ) (m : BodyMode) (σ : List Frame) (k i : ℕ) (r : List TextToken) → Settled (frame q m ∷ σ) → (j : ℕ) × (parse_forms (frame q m ∷ σ) k i at_start (put_close m r) ≡ parse_forms σ k j at_start r)
unfolding Settled put_close
read_close q in_fields σ k i r h = (suc (suc i), close q in_fields σ k i r (unfold takes_close in refl))
read_close q group_opened σ k i r h = absurd h
read_close q in_group σ k i r h = (suc (suc (suc i)), parse_move (frame q in_group ∷ σ) (frame q groups_closed ∷ σ) k i at_start at_start (mark 93) (mark 125 ∷ mark 59 ∷ r) (unfold step start_mark pick allow takes_group_end in refl) ∙ close q groups_closed σ k (suc i) r (unfold takes_close in refl))
read_close q groups_closed σ k i r h = absurd h

read_closes : (u : Up) (σ : List Frame) (k i : ℕ) (r : List TextToken) → Settled σ → (j : ℕ) × (parse_forms σ k i at_start (put_closes u σ r) ≡ parse_forms (closed_to u σ) k j at_start r)
unfolding put_closes closed_to
read_closes u [] k i r h = (i, refl)
read_closes u (frame q m ∷ σ) k i r h =
    let x = read_close q m σ k i (put_closes u σ r) h in
    let y = read_closes u σ k x.0 r (settled_tail q m σ h) in
    by (is_open u q) (y.0, x.1 ∙ y.1)
  where
    by : (b : Bool) → (j : ℕ) × (parse_forms (frame q m ∷ σ) k i at_start (put_close m (put_closes u σ r)) ≡ parse_forms (closed_to u σ) k j at_start r) → (j : ℕ) × (parse_forms (frame q m ∷ σ) k i at_start (pick b r (put_close m (put_closes u σ r))) ≡ parse_forms (pick b (frame q m ∷ σ) (closed_to u σ)) k j at_start r)
    by true e = unfold pick in (i, refl)
    by false e = unfold pick in e

pub settled_closed : (u : Up) (σ : List Frame) → Settled σ → Settled (closed_to u σ)
unfolding closed_to pick
settled_closed u [] h = h
settled_closed u (frame q m ∷ σ) h = by (is_open u q) h (settled_closed u σ (settled_tail q m σ h))
  where
    by : (b : Bool) → Settled (frame q m ∷ σ) → Settled (closed_to u σ) → Settled (pick b (frame q m ∷ σ) (closed_to u σ))
    by true x y = x
    by false x y = y

pub closed_top : (σ : List Frame) → closed_to top σ ≡ []
unfolding closed_to is_open pick
closed_top [] = refl
closed_top (frame q m ∷ σ) = closed_top σ

read_one : (σ : List Frame) (k : ℕ) (e : Bool) (h : Heading) (r : List TextToken) → FitsOn σ e h → Heads σ k e h (put_open e σ (put_heading h r)) (in_extension e σ) r
unfolding FitsOn put_open in_extension
read_one [] k e h r f i = rw f.0 (unfold field_done is_under_extension in (head_end top_level [] k h r (unfold StandsAt in tt) f.1 i))
read_one (frame q in_fields ∷ σ) k true h r f i =
    let x = head_end field_level (frame q group_opened ∷ σ) k h r (unfold StandsAt takes_field in refl) f (suc i) in
    (x.0, ap told (parse_move (frame q in_fields ∷ σ) (frame q group_opened ∷ σ) k i at_start at_start (mark 91) (put_heading h r) (unfold step start_mark pick allow takes_close in refl)) ∙ (unfold field_done after_field is_under_extension is_extension parent_of in x.1))
read_one (frame q in_fields ∷ σ) k false h r f i = unfold field_done after_field is_under_extension is_extension in (head_end field_level (frame q in_fields ∷ σ) k h r (unfold StandsAt takes_field in refl) f i)
read_one (frame q group_opened ∷ σ) k e h r f i = absurd f
read_one (frame q in_group ∷ σ) k e h r f i = rw f.0 (unfold field_done after_field is_under_extension is_extension in (head_end field_level (frame q in_group ∷ σ) k h r (unfold StandsAt takes_field in refl) f.1 i))
read_one (frame q groups_closed ∷ σ) k e h r f i = absurd f

pub settled_next : (σ : List Frame) (k : ℕ) (e : Bool) (h : Heading) → Settled σ → Settled (pushed (type_run h) k (in_extension e σ))
unfolding pushed Settled
settled_next σ k e h c = by (is_compound (type_run h)) (op e σ c)
  where
    op : (e : Bool) (σ : List Frame) → Settled σ → Settled (in_extension e σ)
    op e [] c = unfold in_extension in c
    op true (frame q m ∷ σ) c = unfold in_extension in settled_tail q m σ c
    op false (f ∷ σ) c = unfold in_extension in c

    by : (b : Bool) → Settled (in_extension e σ) → Settled (push_if b k (in_extension e σ))
    by true c = unfold push_if in c
    by false c = unfold push_if in c

read_end : (k i : ℕ) → 1 ≤ k → told (parse_forms [] k i at_start []) ≡ complete []
unfolding told parse_forms at_end end_if map_outcome declarations_of
read_end k i h = rw (ne_eqb k 0 (λ q. omega arith))

pub read_flat : (ds : List Declaration) (σ : List Frame) (k i : ℕ) → Settled σ → InOrder σ k ds → 1 ≤ k + length ds → told (parse_forms σ k i at_start (print_flat σ k ds)) ≡ complete ds
unfolding InOrder print_flat map_outcome
read_flat [] σ k i c p l = let x = read_closes top σ k i [] c in ap told x.1 ∙ (rw (closed_top σ) (read_end k x.0 (omega arith)))
read_flat (declaration u e h ∷ ds) σ k i c p l =
    let ρ = closed_to u σ in
    let τ = pushed (type_run h) k (in_extension e ρ) in
    let x = read_closes u σ k i (put_open e ρ (put_heading h (print_flat τ (suc k) ds))) c in
    let y = read_one ρ k e h (print_flat τ (suc k) ds) p.1 x.0 in
    ap told x.1 ∙ (y.1 ∙ (ap (map_outcome (λ l. declaration (parent_of ρ) e h ∷ l)) (read_flat ds τ (suc k) y.0 (settled_next ρ k e h (settled_closed u σ c)) p.2 (omega arith)) ∙ ap (λ q. complete (declaration q e h ∷ ds)) p.0))
