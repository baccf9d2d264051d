-- T2, one way: what a tree prints to is read as the tree's declarations.
use mathlib.Core.Path.{◌≡◌, refl, ap, sym, ◌∙◌}
use mathlib.Core.Bool.{Bool, true, false}
use mathlib.Core.List.{List, [], ◌∷◌}
use Prim.Native.Nat.{ℕ, suc, ◌+◌}
use native.Mathlib.Omega.{arith}
use borrow.Author.Tests.{ne_eqb}
use Rattle.classes.specs.Lists.{same_bytes, pick}
use Rattle.definition_rules.specs.Words.{is_compound}
use Rattle.definition_rules.specs.Scan.{TextToken, run, mark}
use Rattle.definition_rules.specs.Forms.{MaybeRun, absent, given, Tag, own_name, tagless, explicit, Heading, heading, type_run, put_range, put_card, put_tag, put_plugin, put_head, FormSort, parameter, fields, groups, tops, Form, plain, compound, no_field, field, no_group, group, last_top, more_tops, print_form, Level, top_level, field_level, RangeAllowed, HeadAllowed, Allowed, Fits}
use Rattle.reading_rules.specs.Record.{Up, top, under}
use Rattle.definition_rules.specs.Declarations.{Declaration, declaration, count_form, declare, tree_declarations, Spots, spots_of, card_spot, tag_spot, Noted, noted, BodyMode, in_fields, group_opened, in_group, groups_closed, Frame, frame, Stage, after_name, after_card, after_tag, after_plugin, Phase, at_start, due_semicolon, after_type, in_heading, stop, move, note, allow, with_card, with_tag, with_plugin, takes_field, takes_close, takes_group_end, is_extension, after_field, field_done, parent_of, is_under_extension, is_in_body, start_run, start_mark, heading_end, heading_run, heading_mark, step, Outcome, stuck_at, complete, map_outcome, end_if, at_end, parse_forms, parse_tokens, declarations_of}

-- ---- steps

pub parse_move : (σ τ : List Frame) (k i : ℕ) (p q : Phase) (x : TextToken) (xs : List TextToken) → step σ k i p x ≡ move τ q → parse_forms σ k i p (x ∷ xs) ≡ parse_forms τ k (suc i) q xs
unfolding parse_forms
parse_move σ τ k i p q x xs e = rw (e, parse_forms)

pub parse_note : (σ τ : List Frame) (k i : ℕ) (p q : Phase) (x : TextToken) (xs : List TextToken) (d : Noted) → step σ k i p x ≡ note d τ q → parse_forms σ k i p (x ∷ xs) ≡ map_outcome (λ r. d ∷ r) (parse_forms τ (suc k) (suc i) q xs)
unfolding parse_forms
parse_note σ τ k i p q x xs d e = rw (e, parse_forms)

pub parse_stop : (σ : List Frame) (k i : ℕ) (p : Phase) (x : TextToken) (xs : List TextToken) → step σ k i p x ≡ stop → parse_forms σ k i p (x ∷ xs) ≡ stuck_at i
unfolding parse_forms
parse_stop σ k i p x xs e = rw (e, parse_forms)

-- ---- a heading, up to what ends it

abbrev pub Arrives : List Frame → ℕ → ℕ → Phase → List TextToken → Heading → List TextToken → Type 0
Arrives σ k i ph us h ts = (j : ℕ) × (l : Stage) × (s : Spots) × (parse_forms σ k i ph us ≡ parse_forms σ k j (in_heading l s h) ts)

unfoldable BeforePlugin : Stage → Type 0
BeforePlugin after_name = Unit {0}
BeforePlugin after_card = Unit {0}
BeforePlugin after_tag = Unit {0}
BeforePlugin after_plugin = ⊥

unfoldable BeforeTag : Stage → Type 0
BeforeTag after_name = Unit {0}
BeforeTag after_card = Unit {0}
BeforeTag after_tag = ⊥
BeforeTag after_plugin = ⊥

module _ (f : Frame) (ρ : List Frame) (k : ℕ) where
  read_plugin : (i : ℕ) (l : Stage) (s : Spots) (w : List ℕ) (g : MaybeRun) (n : List ℕ) (c : MaybeRun) (t : Tag) (p : Bool) (ts : List TextToken) → BeforePlugin l → Arrives (f ∷ ρ) k i (in_heading l s (heading w g n c t false)) (put_plugin p ts) (heading w g n c t p) ts
  unfolding BeforePlugin put_plugin parse_forms step heading_run allow is_in_body same_bytes with_plugin pick
  read_plugin i l s w g n c t false ts h = (i, l, s, refl)
  read_plugin i after_name s w g n c t true ts h = (suc i, after_plugin, s, refl)
  read_plugin i after_card s w g n c t true ts h = (suc i, after_plugin, s, refl)
  read_plugin i after_tag s w g n c t true ts h = (suc i, after_plugin, s, refl)
  read_plugin i after_plugin s w g n c t true ts h = absurd h

  read_tag : (i : ℕ) (l : Stage) (s : Spots) (w : List ℕ) (g : MaybeRun) (n : List ℕ) (c : MaybeRun) (t : Tag) (p : Bool) (ts : List TextToken) → BeforeTag l → Arrives (f ∷ ρ) k i (in_heading l s (heading w g n c own_name false)) (put_tag t (put_plugin p ts)) (heading w g n c t p) ts
  unfolding BeforeTag BeforePlugin put_tag parse_forms step heading_run allow is_in_body same_bytes with_tag pick
  read_tag i after_name s w g n c own_name p ts h = read_plugin i after_name s w g n c own_name p ts tt
  read_tag i after_card s w g n c own_name p ts h = read_plugin i after_card s w g n c own_name p ts tt
  read_tag i after_tag s w g n c own_name p ts h = absurd h
  read_tag i after_plugin s w g n c own_name p ts h = absurd h
  read_tag i after_name s w g n c tagless p ts h = read_plugin (suc (suc i)) after_tag s w g n c tagless p ts tt
  read_tag i after_card s w g n c tagless p ts h = read_plugin (suc (suc i)) after_tag s w g n c tagless p ts tt
  read_tag i after_tag s w g n c tagless p ts h = absurd h
  read_tag i after_plugin s w g n c tagless p ts h = absurd h
  read_tag i after_name s w g n c (explicit v) p ts h = read_plugin (suc (suc i)) after_tag (tag_spot (suc i) s) w g n c (explicit v) p ts tt
  read_tag i after_card s w g n c (explicit v) p ts h = read_plugin (suc (suc i)) after_tag (tag_spot (suc i) s) w g n c (explicit v) p ts tt
  read_tag i after_tag s w g n c (explicit v) p ts h = absurd h
  read_tag i after_plugin s w g n c (explicit v) p ts h = absurd h

  read_card : (i : ℕ) (s : Spots) (w : List ℕ) (g : MaybeRun) (n : List ℕ) (c : MaybeRun) (t : Tag) (p : Bool) (ts : List TextToken) → Arrives (f ∷ ρ) k i (in_heading after_name s (heading w g n absent own_name false)) (put_card c (put_tag t (put_plugin p ts))) (heading w g n c t p) ts
  unfolding BeforeTag put_card parse_forms step heading_mark allow is_in_body with_card pick
  read_card i s w g n absent t p ts = read_tag i after_name s w g n absent t p ts tt
  read_card i s w g n (given v) t p ts = read_tag (suc (suc (suc i))) after_card (card_spot (suc i) s) w g n (given v) t p ts tt

abbrev Named : List Frame → ℕ → ℕ → Phase → List TextToken → Heading → List TextToken → Type 0
Named σ k i ph us h ts = (j : ℕ) × (s : Spots) × (parse_forms σ k i ph us ≡ parse_forms σ k j (in_heading after_name s h) ts)

read_range : (σ : List Frame) (k i y : ℕ) (w : List ℕ) (g : MaybeRun) (n : List ℕ) (ts : List TextToken) → RangeAllowed w g → Named σ k i (after_type y w) (put_range g (run n ∷ ts)) (heading w g n absent own_name false) ts
unfolding put_range RangeAllowed parse_forms step allow pick
read_range σ k i y w absent n ts h = (suc i, spots_of y y i, refl)
read_range σ k i y w (given v) n ts h = (suc (suc (suc (suc i))), spots_of y (suc i) (suc (suc (suc i))), rw (h, parse_forms))

-- where a parameter may stand
unfoldable pub StandsAt : Level → List Frame → Type 0
StandsAt top_level [] = Unit {0}
StandsAt top_level (f ∷ σ) = ⊥
StandsAt field_level [] = ⊥
StandsAt field_level (frame p m ∷ σ) = takes_field m ≡ true

pub read_head : (l : Level) (σ : List Frame) (k i : ℕ) (h : Heading) (ts : List TextToken) → StandsAt l σ → HeadAllowed l h → Arrives σ k i at_start (put_head h ts) h ts
unfolding StandsAt HeadAllowed put_head
read_head top_level [] k i (heading w g n c t p) ts a o =
    let x = read_range [] k (suc i) i w g n (put_card c (put_tag t (put_plugin p ts))) o.1 in
    (x.0, after_name, x.1, parse_move [] [] k i at_start (after_type i w) (run w) (put_range g (run n ∷ put_card c (put_tag t (put_plugin p ts)))) (unfold step start_run allow in (rw o.0)) ∙ (x.2 ∙ (rw (o.2, o.3, o.4) (unfold put_card put_tag put_plugin in refl))))
read_head top_level (f ∷ σ) k i h ts a o = absurd a
read_head field_level [] k i h ts a o = absurd a
read_head field_level (frame q m ∷ ρ) k i (heading w g n c t p) ts a o =
    let x = read_range (frame q m ∷ ρ) k (suc i) i w g n (put_card c (put_tag t (put_plugin p ts))) o in
    let y = read_card (frame q m) ρ k x.0 x.1 w g n c t p ts in
    (y.0, y.1, y.2, parse_move (frame q m ∷ ρ) (frame q m ∷ ρ) k i at_start (after_type i w) (run w) (put_range g (run n ∷ put_card c (put_tag t (put_plugin p ts)))) (unfold step start_run allow in (rw a)) ∙ (x.2 ∙ y.3))

-- ---- what ends a heading

unfoldable pub told : Outcome (List Noted) → Outcome (List Declaration)
told o = map_outcome declarations_of o

pub told_note : (s : Spots) (d : Declaration) (o : Outcome (List Noted)) → told (map_outcome (λ r. noted s d ∷ r) o) ≡ map_outcome (λ r. d ∷ r) (told o)
unfolding told map_outcome declarations_of
told_note s d (stuck_at i) = refl
told_note s d (complete ns) = refl

pub end_plain : (σ : List Frame) (k j : ℕ) (l : Stage) (s : Spots) (h : Heading) (r : List TextToken) → is_compound (type_run h) ≡ false → parse_forms σ k j (in_heading l s h) (mark 59 ∷ r) ≡ map_outcome (λ x. noted s (declaration (parent_of σ) (is_under_extension σ) h) ∷ x) (parse_forms (field_done σ) (suc k) (suc j) at_start r)
end_plain σ k j l s h r e = parse_note σ (field_done σ) k j (in_heading l s h) at_start (mark 59) r (noted s (declaration (parent_of σ) (is_under_extension σ) h)) (by l)
  where
    by : (l : Stage) → step σ k j (in_heading l s h) (mark 59) ≡ note (noted s (declaration (parent_of σ) (is_under_extension σ) h)) (field_done σ) at_start
    by after_name = unfold step heading_mark heading_end pick allow in (rw e)
    by after_card = unfold step heading_mark heading_end pick allow in (rw e)
    by after_tag = unfold step heading_mark heading_end pick allow in (rw e)
    by after_plugin = unfold step heading_mark heading_end pick allow in (rw e)

pub end_brace : (σ : List Frame) (k j : ℕ) (l : Stage) (s : Spots) (h : Heading) (r : List TextToken) → is_compound (type_run h) ≡ true → parse_forms σ k j (in_heading l s h) (mark 123 ∷ r) ≡ map_outcome (λ x. noted s (declaration (parent_of σ) (is_under_extension σ) h) ∷ x) (parse_forms (frame k in_fields ∷ field_done σ) (suc k) (suc j) at_start r)
end_brace σ k j l s h r e = parse_note σ (frame k in_fields ∷ field_done σ) k j (in_heading l s h) at_start (mark 123) r (noted s (declaration (parent_of σ) (is_under_extension σ) h)) (by l)
  where
    by : (l : Stage) → step σ k j (in_heading l s h) (mark 123) ≡ note (noted s (declaration (parent_of σ) (is_under_extension σ) h)) (frame k in_fields ∷ field_done σ) at_start
    by after_name = unfold step heading_mark heading_end pick allow in (rw e)
    by after_card = unfold step heading_mark heading_end pick allow in (rw e)
    by after_tag = unfold step heading_mark heading_end pick allow in (rw e)
    by after_plugin = unfold step heading_mark heading_end pick allow in (rw e)

pub close : (p : ℕ) (m : BodyMode) (σ : List Frame) (k i : ℕ) (r : List TextToken) → takes_close m ≡ true → parse_forms (frame p m ∷ σ) k i at_start (mark 125 ∷ mark 59 ∷ r) ≡ parse_forms σ k (suc (suc i)) at_start r
close p m σ k i r e =
    parse_move (frame p m ∷ σ) σ k i at_start due_semicolon (mark 125) (mark 59 ∷ r) (unfold step start_mark pick allow in (rw e))
    ∙ parse_move σ σ k (suc i) due_semicolon at_start (mark 59) r (unfold step allow in refl)

-- ---- trees

-- what reading x does on σ: x's declarations in front of what is read after it, on τ
abbrev pub ReadsForm : {s : FormSort} → Form s → Up → Bool → List Frame → ℕ → ℕ → List Frame → List TextToken → Type 0
ReadsForm x u e σ k i τ r = (j : ℕ) × (told (parse_forms σ k i at_start (print_form x r)) ≡ map_outcome (declare x u e k) (told (parse_forms τ (k + count_form x) j at_start r)))

map_id : (o : Outcome (List Declaration)) → map_outcome (λ r. r) o ≡ o
unfolding map_outcome
map_id (stuck_at i) = refl
map_id (complete a) = refl

map_map : (f g : List Declaration → List Declaration) (o : Outcome (List Declaration)) → map_outcome f (map_outcome g o) ≡ map_outcome (λ r. f (g r)) o
unfolding map_outcome
map_map f g (stuck_at i) = refl
map_map f g (complete a) = refl

at_count : (σ : List Frame) (k n j : ℕ) (r : List TextToken) → k ≡ n → parse_forms σ k j at_start r ≡ parse_forms σ n j at_start r
at_count σ k n j r e = rw e

-- a mode that a field does not change
unfoldable pub Steady : BodyMode → Type 0
Steady in_fields = Unit {0}
Steady group_opened = ⊥
Steady in_group = Unit {0}
Steady groups_closed = ⊥

steady_takes : (m : BodyMode) → Steady m → takes_field m ≡ true
unfolding Steady takes_field
steady_takes in_fields h = refl
steady_takes group_opened h = absurd h
steady_takes in_group h = refl
steady_takes groups_closed h = absurd h

steady_same : (p : ℕ) (m : BodyMode) (σ : List Frame) → Steady m → field_done (frame p m ∷ σ) ≡ frame p m ∷ σ
unfolding Steady field_done after_field
steady_same p in_fields σ h = refl
steady_same p group_opened σ h = absurd h
steady_same p in_group σ h = refl
steady_same p groups_closed σ h = absurd h

-- one sort after another
abbrev pub Param : Form parameter → Type 0
Param x = (l : Level) (σ : List Frame) (k i : ℕ) (r : List TextToken) → StandsAt l σ → Allowed l x → ReadsForm x (parent_of σ) (is_under_extension σ) σ k i (field_done σ) r

abbrev pub Fields : Form fields → Type 0
Fields f = (p : ℕ) (m : BodyMode) (σ : List Frame) (k i : ℕ) (r : List TextToken) → Steady m → Allowed field_level f → ReadsForm f (under p) (is_extension m) (frame p m ∷ σ) k i (frame p m ∷ σ) r

abbrev pub Groups : Form groups → Type 0
Groups g = (p : ℕ) (m : BodyMode) (σ : List Frame) (k i : ℕ) (r : List TextToken) → takes_close m ≡ true → Allowed field_level g → (n : BodyMode) × (takes_close n ≡ true) × ReadsForm g (under p) true (frame p m ∷ σ) k i (frame p n ∷ σ) r

read_plain : (h : Heading) → Param (plain h)
unfolding print_form declare count_form Allowed
read_plain h l σ k i r a o =
    let x = read_head l σ k i h (mark 59 ∷ r) a o.0 in
    (suc x.0, ap told (x.3 ∙ end_plain σ k x.0 x.1 x.2 h r o.1) ∙ (told_note x.2 (declaration (parent_of σ) (is_under_extension σ) h) _ ∙ ap (λ y. map_outcome (λ r. declaration (parent_of σ) (is_under_extension σ) h ∷ r) (told y)) (at_count (field_done σ) (suc k) (k + 1) (suc x.0) r (omega arith))))

read_compound : (h : Heading) (f : Form fields) (g : Form groups) → Fields f → Groups g → Param (compound h f g)
unfolding print_form declare count_form Allowed is_extension
read_compound h f g F G l σ k i r a o =
    let d = declaration (parent_of σ) (is_under_extension σ) h in
    let x = read_head l σ k i h (mark 123 ∷ print_form f (print_form g (mark 125 ∷ mark 59 ∷ r))) a o.0 in
    let y = F k in_fields (field_done σ) (suc k) (suc x.0) (print_form g (mark 125 ∷ mark 59 ∷ r)) (unfold Steady in tt) o.2 in
    let z = G k in_fields (field_done σ) (suc k + count_form f) y.0 (mark 125 ∷ mark 59 ∷ r) (unfold takes_close in refl) o.3 in
    let e = close k z.0 (field_done σ) (suc k + count_form f + count_form g) z.2.0 r z.1 ∙ at_count (field_done σ) (suc k + count_form f + count_form g) (k + suc (count_form f + count_form g)) (suc (suc z.2.0)) r (omega arith) in (
      suc (suc z.2.0),
      ap told (x.3 ∙ end_brace σ k x.0 x.1 x.2 h _ o.1)
          ∙ (told_note x.2 d _
          ∙ (ap (map_outcome (λ r. d ∷ r)) (y.1 ∙ (ap (map_outcome (declare f (under k) false (suc k))) (z.2.1 ∙ ap (λ q. map_outcome (declare g (under k) true (suc k + count_form f)) (told q)) e) ∙ map_map (declare f (under k) false (suc k)) (declare g (under k) true (suc k + count_form f)) _))
          ∙ map_map (λ r. d ∷ r) (λ r. declare f (under k) false (suc k) (declare g (under k) true (suc k + count_form f) r)) _)),
    )

read_field : (x : Form parameter) (f : Form fields) → Param x → Fields f → Fields (field x f)
unfolding print_form declare count_form Allowed parent_of is_under_extension
read_field x f X F p m σ k i r s o =
    let a = X field_level (frame p m ∷ σ) k i (print_form f r) (unfold StandsAt in (steady_takes m s)) o.0 in
    let b = F p m σ (k + count_form x) a.0 r s o.1 in
    (b.0, a.1 ∙ (ap (λ τ. map_outcome (declare x (under p) (is_extension m) k) (told (parse_forms τ (k + count_form x) a.0 at_start (print_form f r)))) (steady_same p m σ s) ∙ (ap (map_outcome (declare x (under p) (is_extension m) k)) b.1 ∙ (map_map (declare x (under p) (is_extension m) k) (declare f (under p) (is_extension m) (k + count_form x)) _ ∙ ap (λ q. map_outcome (λ r. declare x (under p) (is_extension m) k (declare f (under p) (is_extension m) (k + count_form x) r)) (told q)) (at_count (frame p m ∷ σ) (k + count_form x + count_form f) (k + (count_form x + count_form f)) b.0 r (omega arith))))))

read_group : (x : Form parameter) (f : Form fields) (g : Form groups) → Param x → Fields f → Groups g → Groups (group x f g)
unfolding print_form declare count_form Allowed parent_of is_under_extension is_extension field_done after_field
read_group x f g X F G p m σ k i r c o =
    let kx = k + count_form x in
    let a = X field_level (frame p group_opened ∷ σ) k (suc i) (print_form f (mark 93 ∷ print_form g r)) (unfold StandsAt takes_field in refl) o.0 in
    let b = F p in_group σ kx a.0 (mark 93 ∷ print_form g r) (unfold Steady in tt) o.1 in
    let d = G p groups_closed σ (k + (count_form x + count_form f)) (suc b.0) r (unfold takes_close in refl) o.2 in
    let opening = parse_move (frame p m ∷ σ) (frame p group_opened ∷ σ) k i at_start at_start (mark 91) (print_form x (print_form f (mark 93 ∷ print_form g r))) (unfold step start_mark pick allow in (rw c)) in
    let closing = parse_move (frame p in_group ∷ σ) (frame p groups_closed ∷ σ) (kx + count_form f) b.0 at_start at_start (mark 93) (print_form g r) (unfold step start_mark pick allow takes_group_end in refl) ∙ at_count (frame p groups_closed ∷ σ) (kx + count_form f) (k + (count_form x + count_form f)) (suc b.0) (print_form g r) (omega arith) in (
      d.0,
      d.1,
      (
        d.2.0,
        ap told opening
            ∙ (a.1
            ∙ (ap (map_outcome (declare x (under p) true k)) (b.1 ∙ (ap (λ q. map_outcome (declare f (under p) true kx) (told q)) closing ∙ (ap (map_outcome (declare f (under p) true kx)) (d.2.1 ∙ ap (λ q. map_outcome (declare g (under p) true (k + (count_form x + count_form f))) (told q)) (at_count (frame p d.0 ∷ σ) (k + (count_form x + count_form f) + count_form g) (k + (count_form x + (count_form f + count_form g))) d.2.0 r (omega arith))) ∙ map_map (declare f (under p) true kx) (declare g (under p) true (k + (count_form x + count_form f))) _)))
            ∙ map_map (declare x (under p) true k) (λ r. declare f (under p) true kx (declare g (under p) true (k + (count_form x + count_form f)) r)) _)),
      ),
    )

abbrev pub Meaning : {s : FormSort} → Form s → Type 0
Meaning {s = parameter} x = Param x
Meaning {s = fields} x = Fields x
Meaning {s = groups} x = Groups x
Meaning {s = tops} x = (k i : ℕ) → Allowed top_level x → told (parse_forms [] k i at_start (print_form x [])) ≡ complete (declare x top false k [])

end_top : (k j : ℕ) → told (parse_forms [] (suc k) j at_start []) ≡ complete []
unfolding told map_outcome parse_forms at_end end_if declarations_of
end_top k j = rw (ne_eqb (suc k) 0 (λ q. omega arith))

count_some : (x : Form parameter) (k : ℕ) → (n : ℕ) × (k + count_form x ≡ suc n)
unfolding count_form
count_some (plain h) k = (k, omega arith)
count_some (compound h f g) k = (k + (count_form f + count_form g), omega arith)

read_last : (x : Form parameter) → Param x → (k i : ℕ) → Allowed top_level x → told (parse_forms [] k i at_start (print_form x [])) ≡ complete (declare x top false k [])
unfolding parent_of is_under_extension field_done
read_last x X k i o =
    let a = X top_level [] k i [] (unfold StandsAt in tt) o in
    let c = count_some x k in
    a.1 ∙ (ap (λ q. map_outcome (declare x top false k) (told (parse_forms [] q a.0 at_start []))) c.1 ∙ (ap (map_outcome (declare x top false k)) (end_top c.0 a.0) ∙ (unfold map_outcome in refl)))

read_more : (x : Form parameter) (t : Form tops) → Param x → Meaning t → Meaning (more_tops x t)
unfolding print_form declare count_form Allowed parent_of is_under_extension field_done map_outcome
read_more x t X T k i o =
    let a = X top_level [] k i (print_form t []) (unfold StandsAt in tt) o.0 in
    a.1 ∙ ap (map_outcome (declare x top false k)) (T (k + count_form x) a.0 o.1)

pub read_form : {s : FormSort} (x : Form s) → Meaning x
unfolding print_form declare count_form Allowed
read_form (plain h) = read_plain h
read_form (compound h f g) = read_compound h f g (read_form f) (read_form g)
read_form no_field = λ p m σ k i r s o. (i, ap told (at_count (frame p m ∷ σ) k (k + 0) i r (omega arith)) ∙ sym (map_id _))
read_form (field x f) = read_field x f (read_form x) (read_form f)
read_form no_group = λ p m σ k i r c o. (m, c, (i, ap told (at_count (frame p m ∷ σ) k (k + 0) i r (omega arith)) ∙ sym (map_id _)))
read_form (group x f g) = read_group x f g (read_form x) (read_form f) (read_form g)
read_form (last_top x) = read_last x (read_form x)
read_form (more_tops x t) = read_more x t (read_form x) (read_form t)

pub form_told : (d : Form tops) → Allowed top_level d → told (parse_tokens (print_form d [])) ≡ complete (tree_declarations d)
form_told d o = read_form d 0 0 o

pub told_complete : {X : Type 0} (o : Outcome (List Noted)) (ds : List Declaration) → told o ≡ complete ds → ((ns : List Noted) → o ≡ complete ns → declarations_of ns ≡ ds → X) → X
unfolding told map_outcome
told_complete (stuck_at i) ds e k = let z : ◌≡◌ {A = ℕ} 0 1 = cc in absurd (omega arith)
told_complete (complete ns) ds e k = k ns refl (cc)

-- a tree that prints to the tokens: they are read, and the declarations are the tree's
pub fits_complete : (ts : List TextToken) (f : Fits ts) → (ns : List Noted) × (parse_tokens ts ≡ complete ns) × (declarations_of ns ≡ tree_declarations f.0)
fits_complete ts f = told_complete (parse_tokens ts) (tree_declarations f.0) (ap (λ x. told (parse_tokens x)) (sym f.2) ∙ form_told f.0 f.1) (λ ns e q. (ns, e, q))
