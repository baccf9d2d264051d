-- T2, the other way: tokens that are read come from a tree, and the declarations are the tree's.
-- For each state of the automaton it is said what can follow (Rest); by induction over the tokens it does.
use mathlib.Core.Path.{◌≡◌, refl, ap, subst, sym, ◌∙◌}
use mathlib.Core.Bool.{Bool, true, false, not, ◌&&◌}
use mathlib.Core.List.{List, [], ◌∷◌}
use Prim.Native.Nat.{ℕ, suc, ◌+◌, ◌≤◌}
use native.Mathlib.Omega.{arith}
use lib.Dec.{eqb}
use borrow.Author.Tests.{eqb-true, eqb-false, not-true}
use Rattle.classes.proofs.Rows.{same_true}
use Rattle.classes.proofs.Bools.{clash_bool, both_true}
use Rattle.classes.specs.Lists.{same_bytes, pick}
use Rattle.definition_rules.specs.Words.{kw_as, kw_plugin, takes_range, is_compound, is_reference}
use Rattle.definition_rules.specs.Scan.{TextToken, run, mark}
use Rattle.definition_rules.specs.Forms.{MaybeRun, absent, given, Tag, own_name, tagless, explicit, Heading, heading, type_run, put_range, put_card, put_tag, put_plugin, put_head, parameter, fields, groups, tops, Form, plain, compound, no_field, field, no_group, group, last_top, more_tops, print_form, Level, top_level, field_level, RangeAllowed, HeadAllowed, Allowed, Fits}
use Rattle.reading_rules.specs.Record.{top, under}
use Rattle.definition_rules.specs.Declarations.{Declaration, declaration, count_form, declare, tree_declarations, Spots, Noted, noted, BodyMode, in_fields, group_opened, in_group, groups_closed, Frame, frame, Stage, after_name, after_card, after_tag, after_plugin, Phase, at_start, due_semicolon, after_type, due_range, due_range_end, due_name, in_heading, due_card, due_tag, due_card_end, Action, stop, move, note, allow, with_card, with_tag, with_plugin, takes_field, takes_close, takes_group_end, is_extension, after_field, field_done, parent_of, is_under_extension, is_in_body, start_run, start_mark, heading_end, heading_run, heading_mark, step, Outcome, stuck_at, complete, map_outcome, end_if, at_end, parse_forms, parse_tokens, declarations_of}
use mathlib.Core.Logic.{◌⊎◌, inl, inr}

-- ---- what can follow where a parameter can start: n is the number of the next declaration

unfoldable pub After : List Frame → ℕ → List TextToken → List Declaration → Type 0
After [] n ts ds = ◌⊎◌ ((1 ≤ n) × (ts ≡ []) × (ds ≡ [])) ((d : Form tops) × Allowed top_level d × (print_form d [] ≡ ts) × (declare d top false n [] ≡ ds))
After (frame p in_fields ∷ σ) n ts ds =
    (f : Form fields) × (g : Form groups) × Allowed field_level f × Allowed field_level g × (r : List TextToken) × (es : List Declaration) × (m : ℕ)
    × (print_form f (print_form g (mark 125 ∷ mark 59 ∷ r)) ≡ ts)
    × (declare f (under p) false n (declare g (under p) true (n + count_form f) es) ≡ ds)
    × (m ≡ n + (count_form f + count_form g)) × After σ m r es
After (frame p group_opened ∷ σ) n ts ds =
    (x : Form parameter) × (f : Form fields) × (g : Form groups) × Allowed field_level x × Allowed field_level f × Allowed field_level g × (r : List TextToken) × (es : List Declaration) × (m : ℕ)
    × (print_form x (print_form f (mark 93 ∷ print_form g (mark 125 ∷ mark 59 ∷ r))) ≡ ts)
    × (declare x (under p) true n (declare f (under p) true (n + count_form x) (declare g (under p) true (n + (count_form x + count_form f)) es)) ≡ ds)
    × (m ≡ n + (count_form x + (count_form f + count_form g))) × After σ m r es
After (frame p in_group ∷ σ) n ts ds =
    (f : Form fields) × (g : Form groups) × Allowed field_level f × Allowed field_level g × (r : List TextToken) × (es : List Declaration) × (m : ℕ)
    × (print_form f (mark 93 ∷ print_form g (mark 125 ∷ mark 59 ∷ r)) ≡ ts)
    × (declare f (under p) true n (declare g (under p) true (n + count_form f) es) ≡ ds)
    × (m ≡ n + (count_form f + count_form g)) × After σ m r es
After (frame p groups_closed ∷ σ) n ts ds =
    (g : Form groups) × Allowed field_level g × (r : List TextToken) × (es : List Declaration) × (m : ℕ)
    × (print_form g (mark 125 ∷ mark 59 ∷ r) ≡ ts)
    × (declare g (under p) true n es ≡ ds)
    × (m ≡ n + count_form g) × After σ m r es

-- ---- what can follow a heading: `;` or `{`

unfoldable pub HeadingEnds : List Frame → ℕ → Heading → List TextToken → List Declaration → Type 0
HeadingEnds σ n h ts ds =
    (r : List TextToken) × (es : List Declaration) × (ds ≡ declaration (parent_of σ) (is_under_extension σ) h ∷ es)
    × ◌⊎◌ ((mark 59 ∷ r ≡ ts) × (is_compound (type_run h) ≡ false) × After (field_done σ) (suc n) r es)
    ((mark 123 ∷ r ≡ ts) × (is_compound (type_run h) ≡ true) × After (frame n in_fields ∷ field_done σ) (suc n) r es)

-- ---- the rest of a heading after its name

unfoldable pub card_on : MaybeRun → Heading → Heading
card_on absent h = h
card_on (given v) h = with_card v h

unfoldable pub tag_on : Tag → Heading → Heading
tag_on own_name h = h
tag_on tagless h = with_tag tagless h
tag_on (explicit v) h = with_tag (explicit v) h

unfoldable pub plugin_on : Bool → Heading → Heading
plugin_on true h = with_plugin h
plugin_on false h = h

-- "tops take no cardinality, tag or plugin"
unfoldable pub Bare : List Frame → MaybeRun → Tag → Bool → Type 0
Bare [] c t p = (c ≡ absent) × (t ≡ own_name) × (p ≡ false)
Bare (f ∷ σ) c t p = Unit {0}

unfoldable pub HeadingTail : Stage → List Frame → ℕ → Heading → List TextToken → List Declaration → Type 0
HeadingTail after_name σ n h ts ds =
    (c : MaybeRun) × (t : Tag) × (p : Bool) × (us : List TextToken) × Bare σ c t p
    × (put_card c (put_tag t (put_plugin p us)) ≡ ts) × HeadingEnds σ n (plugin_on p (tag_on t (card_on c h))) us ds
HeadingTail after_card σ n h ts ds =
    (t : Tag) × (p : Bool) × (us : List TextToken) × Bare σ absent t p
    × (put_tag t (put_plugin p us) ≡ ts) × HeadingEnds σ n (plugin_on p (tag_on t h)) us ds
HeadingTail after_tag σ n h ts ds = (p : Bool) × (us : List TextToken) × Bare σ absent own_name p × (put_plugin p us ≡ ts) × HeadingEnds σ n (plugin_on p h) us ds
HeadingTail after_plugin σ n h ts ds = HeadingEnds σ n h ts ds

unfoldable pub Rest : List Frame → ℕ → Phase → List TextToken → List Declaration → Type 0
Rest σ n at_start ts ds = After σ n ts ds
Rest σ n due_semicolon ts ds = (r : List TextToken) × (mark 59 ∷ r ≡ ts) × After σ n r ds
Rest σ n (after_type y w) ts ds = (g : MaybeRun) × (v : List ℕ) × (us : List TextToken) × RangeAllowed w g × (put_range g (run v ∷ us) ≡ ts) × HeadingTail after_name σ n (heading w g v absent own_name false) us ds
Rest σ n (due_range y w) ts ds = (u : List ℕ) × (v : List ℕ) × (us : List TextToken) × (run u ∷ mark 62 ∷ run v ∷ us ≡ ts) × HeadingTail after_name σ n (heading w (given u) v absent own_name false) us ds
Rest σ n (due_range_end y g w u) ts ds = (v : List ℕ) × (us : List TextToken) × (mark 62 ∷ run v ∷ us ≡ ts) × HeadingTail after_name σ n (heading w (given u) v absent own_name false) us ds
Rest σ n (due_name y g w x) ts ds = (v : List ℕ) × (us : List TextToken) × (run v ∷ us ≡ ts) × HeadingTail after_name σ n (heading w x v absent own_name false) us ds
Rest σ n (in_heading l s h) ts ds = HeadingTail l σ n h ts ds
Rest σ n (due_card s h) ts ds = (v : List ℕ) × (us : List TextToken) × (run v ∷ mark 93 ∷ us ≡ ts) × HeadingTail after_card σ n (with_card v h) us ds
Rest σ n (due_tag s h) ts ds = ◌⊎◌ ((v : List ℕ) × (us : List TextToken) × (run v ∷ us ≡ ts) × HeadingTail after_tag σ n (with_tag (explicit v) h) us ds) ((us : List TextToken) × (mark 63 ∷ us ≡ ts) × HeadingTail after_tag σ n (with_tag tagless h) us ds)
Rest σ n (due_card_end s h) ts ds = (us : List TextToken) × (mark 93 ∷ us ≡ ts) × HeadingTail after_card σ n h us ds

-- ---- a parameter in front

-- x in front of what can follow it
unfoldable pub Stands : List Frame → Form parameter → Type 0
Stands [] x = Allowed top_level x
Stands (frame p m ∷ σ) x = (takes_field m ≡ true) × Allowed field_level x

in_front : (σ : List Frame) (n m : ℕ) (x : Form parameter) (r : List TextToken) (es : List Declaration) → Stands σ x → m ≡ n + count_form x → After (field_done σ) m r es → After σ n (print_form x r) (declare x (parent_of σ) (is_under_extension σ) n es)
unfolding After Stands field_done after_field parent_of is_under_extension is_extension takes_field print_form declare count_form Allowed
in_front [] n m x r es s e (inl a) = inr (last_top x, s, ap (print_form x) (sym a.1), ap (declare x top false n) (sym a.2))
in_front [] n m x r es s e (inr a) = inr (more_tops x a.0, (s, a.1), ap (print_form x) a.2, ap (declare x top false n) (ap (λ q. declare a.0 top false q []) (sym e) ∙ a.3))
in_front (frame p in_fields ∷ σ) n m x r es s e a = (
  field x a.0,
  a.1,
  (s.1, a.2),
  a.3,
  a.4,
  a.5,
  a.6,
  ap (print_form x) a.7,
  ap (declare x (under p) false n) (ap (λ q. declare a.0 (under p) false (n + count_form x) (declare a.1 (under p) true q a.5)) (omega arith) ∙ (ap (λ q. declare a.0 (under p) false q (declare a.1 (under p) true (q + count_form a.0) a.5)) (sym e) ∙ a.8)),
  omega (arith, a.9),
  a.10,
)
in_front (frame p group_opened ∷ σ) n m x r es s e a = (
  x,
  a.0,
  a.1,
  s.1,
  a.2,
  a.3,
  a.4,
  a.5,
  a.6,
  ap (print_form x) a.7,
  ap (declare x (under p) true n) (ap (λ q. declare a.0 (under p) true (n + count_form x) (declare a.1 (under p) true q a.5)) (omega arith) ∙ (ap (λ q. declare a.0 (under p) true q (declare a.1 (under p) true (q + count_form a.0) a.5)) (sym e) ∙ a.8)),
  omega (arith, a.9),
  a.10,
)
in_front (frame p in_group ∷ σ) n m x r es s e a = (
  field x a.0,
  a.1,
  (s.1, a.2),
  a.3,
  a.4,
  a.5,
  a.6,
  ap (print_form x) a.7,
  ap (declare x (under p) true n) (ap (λ q. declare a.0 (under p) true (n + count_form x) (declare a.1 (under p) true q a.5)) (omega arith) ∙ (ap (λ q. declare a.0 (under p) true q (declare a.1 (under p) true (q + count_form a.0) a.5)) (sym e) ∙ a.8)),
  omega (arith, a.9),
  a.10,
)
in_front (frame p groups_closed ∷ σ) n m x r es s e a = clash_bool s.0

after_as : (σ : List Frame) (n : ℕ) (ts us : List TextToken) (ds es : List Declaration) → ts ≡ us → ds ≡ es → After σ n ts ds → After σ n us es
after_as σ n ts us ds es p q a = rw (← p, ← q) a

-- ---- a heading and what ends it is a parameter

whole : (w : List ℕ) (g : MaybeRun) (n : List ℕ) (c : MaybeRun) (t : Tag) (p : Bool) → plugin_on p (tag_on t (card_on c (heading w g n absent own_name false))) ≡ heading w g n c t p
unfolding plugin_on tag_on card_on with_plugin with_tag with_card
whole w g n absent own_name false = refl
whole w g n absent own_name true = refl
whole w g n absent tagless false = refl
whole w g n absent tagless true = refl
whole w g n absent (explicit v) false = refl
whole w g n absent (explicit v) true = refl
whole w g n (given u) own_name false = refl
whole w g n (given u) own_name true = refl
whole w g n (given u) tagless false = refl
whole w g n (given u) tagless true = refl
whole w g n (given u) (explicit v) false = refl
whole w g n (given u) (explicit v) true = refl

-- a type run that may start a parameter
unfoldable pub TypeBegins : List Frame → List ℕ → Type 0
TypeBegins [] w = is_reference w ≡ false
TypeBegins (frame p m ∷ σ) w = takes_field m ≡ true

level : List Frame → Level
level [] = top_level
level (f ∷ σ) = field_level

head_allowed : (σ : List Frame) (w : List ℕ) (g : MaybeRun) (v : List ℕ) (c : MaybeRun) (t : Tag) (p : Bool) → TypeBegins σ w → RangeAllowed w g → Bare σ c t p → HeadAllowed (level σ) (heading w g v c t p)
unfolding TypeBegins Bare HeadAllowed level
head_allowed [] w g v c t p b r e = (b, r, e.0, e.1, e.2)
head_allowed (frame q m ∷ σ) w g v c t p b r e = r

stands : (σ : List Frame) (w : List ℕ) (x : Form parameter) → TypeBegins σ w → Allowed (level σ) x → Stands σ x
unfolding TypeBegins Stands level
stands [] w x b a = a
stands (frame q m ∷ σ) w x b a = (b, a)

parameter_front : (σ : List Frame) (n : ℕ) (w : List ℕ) (h : Heading) (us : List TextToken) (ds : List Declaration) → TypeBegins σ w → HeadAllowed (level σ) h → HeadingEnds σ n h us ds → After σ n (put_head h us) ds
unfolding HeadingEnds
parameter_front σ n w h us ds b a e = by e.3
  where
    by : ◌⊎◌ ((mark 59 ∷ e.0 ≡ us) × (is_compound (type_run h) ≡ false) × After (field_done σ) (suc n) e.0 e.1) ((mark 123 ∷ e.0 ≡ us) × (is_compound (type_run h) ≡ true) × After (frame n in_fields ∷ field_done σ) (suc n) e.0 e.1) → After σ n (put_head h us) ds
    by (inl z) =
        after_as σ n _ _ _ _ (ap (put_head h) z.0) (sym e.2)
        (unfold print_form declare count_form Allowed in (in_front σ n (suc n) (plain h) e.0 e.1 (stands σ w (plain h) b (a, z.1)) (omega arith) z.2))
    by (inr z) = inside z (unfold After in z.2)
      where
        inside : (z : (mark 123 ∷ e.0 ≡ us) × (is_compound (type_run h) ≡ true) × After (frame n in_fields ∷ field_done σ) (suc n) e.0 e.1)
            → (f : Form fields) × (g : Form groups) × Allowed field_level f × Allowed field_level g × (r : List TextToken) × (es : List Declaration) × (m : ℕ)
            × (print_form f (print_form g (mark 125 ∷ mark 59 ∷ r)) ≡ e.0)
            × (declare f (under n) false (suc n) (declare g (under n) true (suc n + count_form f) es) ≡ e.1)
            × (m ≡ suc n + (count_form f + count_form g)) × After (field_done σ) m r es
            → After σ n (put_head h us) ds
        inside z y =
            after_as σ n _ _ _ _ (ap (λ q. put_head h (mark 123 ∷ q)) y.7 ∙ ap (put_head h) z.0) (ap (λ q. declaration (parent_of σ) (is_under_extension σ) h ∷ q) y.8 ∙ sym e.2)
            (unfold print_form declare count_form Allowed in (in_front σ n y.6 (compound h y.0 y.1) y.4 y.5 (stands σ w (compound h y.0 y.1) b (a, z.1, y.2, y.3)) (omega (arith, y.9)) y.10))

begin : (σ : List Frame) (n y : ℕ) (w : List ℕ) (xs : List TextToken) (ds : List Declaration) → TypeBegins σ w → Rest σ n (after_type y w) xs ds → After σ n (run w ∷ xs) ds
unfolding Rest HeadingTail put_head
begin σ n y w xs ds b z =
    let t = z.5 in
    let h = heading w z.0 z.1 t.0 t.1 t.2 in
    after_as σ n _ _ ds ds (ap (λ q. run w ∷ put_range z.0 (run z.1 ∷ q)) t.5 ∙ ap (λ q. run w ∷ q) z.4) refl
    (parameter_front σ n w h t.3 ds b (head_allowed σ w z.0 z.1 t.0 t.1 t.2 b z.3 t.4) (subst (λ q. HeadingEnds σ n q t.3 ds) (whole w z.0 z.1 t.0 t.1 t.2) t.6))

-- ---- each step backwards

unfoldable Back : List Frame → ℕ → Phase → TextToken → List TextToken → Action → Type 0
Back σ n p x xs stop = Unit {0}
Back σ n p x xs (move τ q) = (ds : List Declaration) → Rest τ n q xs ds → Rest σ n p (x ∷ xs) ds
Back σ n p x xs (note (noted s d) τ q) = (ds : List Declaration) → Rest τ (suc n) q xs ds → Rest σ n p (x ∷ xs) (d ∷ ds)

allow_back : (σ : List Frame) (n : ℕ) (p : Phase) (x : TextToken) (xs : List TextToken) (b : Bool) (a : Action) → (b ≡ true → Back σ n p x xs a) → Back σ n p x xs (allow b a)
unfolding allow Back
allow_back σ n p x xs true a f = f refl
allow_back σ n p x xs false a f = tt

pick_back : (σ : List Frame) (n : ℕ) (p : Phase) (x : TextToken) (xs : List TextToken) (b : Bool) (a c : Action) → (b ≡ true → Back σ n p x xs a) → Back σ n p x xs c → Back σ n p x xs (pick b a c)
unfolding pick
pick_back σ n p x xs true a c f g = f refl
pick_back σ n p x xs false a c f g = g

in_body : (σ : List Frame) (c : MaybeRun) (t : Tag) (p : Bool) → is_in_body σ ≡ true → Bare σ c t p
unfolding is_in_body Bare
in_body [] c t p e = clash_bool e
in_body (f ∷ σ) c t p e = tt

bare : (σ : List Frame) → Bare σ absent own_name false
unfolding Bare
bare [] = (refl, refl, refl)
bare (f ∷ σ) = tt

is_mark_lem : (m n : ℕ) (r : List TextToken) → eqb n m ≡ true → mark m ∷ r ≡ mark n ∷ r
is_mark_lem m n r e = ap (λ q. mark q ∷ r) (sym (eqb-true n m e))

-- the end of a heading
end_back : (σ : List Frame) (n : ℕ) (s : Spots) (h : Heading) (m : ℕ) (p : Phase) (xs : List TextToken) → ((ds : List Declaration) → HeadingEnds σ n h (mark m ∷ xs) ds → Rest σ n p (mark m ∷ xs) ds) → Back σ n p (mark m) xs (heading_end σ n s h m)
unfolding heading_end Back Rest
end_back σ n s h m p xs f =
    pick_back σ n p (mark m) xs (eqb m 59) _ _
    (λ e. allow_back σ n p (mark m) xs (not (is_compound (type_run h))) _ (λ c ds a. f _ (unfold HeadingEnds in (xs, ds, refl, inl (is_mark_lem 59 m xs e, not-true (is_compound (type_run h)) c, a)))))
    (allow_back σ n p (mark m) xs (eqb m 123 && is_compound (type_run h)) _ (λ c ds a. let y = both_true (eqb m 123) (is_compound (type_run h)) c in f _ (unfold HeadingEnds in (xs, ds, refl, inr (is_mark_lem 123 m xs y.0, y.1, a)))))

-- an end from each stage
ends_tail : (l : Stage) (σ : List Frame) (n : ℕ) (h : Heading) (ts : List TextToken) (ds : List Declaration) → HeadingEnds σ n h ts ds → HeadingTail l σ n h ts ds
unfolding HeadingTail put_card put_tag put_plugin plugin_on tag_on card_on
ends_tail after_name σ n h ts ds e = (absent, own_name, false, ts, bare σ, refl, e)
ends_tail after_card σ n h ts ds e = (own_name, false, ts, bare σ, refl, e)
ends_tail after_tag σ n h ts ds e = (false, ts, bare σ, refl, e)
ends_tail after_plugin σ n h ts ds e = e

module _ (σ : List Frame) (n : ℕ) (s : Spots) (h : Heading) (w : List ℕ) (xs : List TextToken) where
  plugin_back : (l : Stage) → ((ds : List Declaration) → is_in_body σ ≡ true → run kw_plugin ∷ xs ≡ run w ∷ xs → HeadingEnds σ n (with_plugin h) xs ds → HeadingTail l σ n h (run w ∷ xs) ds) → Back σ n (in_heading l s h) (run w) xs (allow (same_bytes w kw_plugin && is_in_body σ) (move σ (in_heading after_plugin s (with_plugin h))))
  plugin_back l f = allow_back σ n (in_heading l s h) (run w) xs (same_bytes w kw_plugin && is_in_body σ) _ (λ e. unfold Back Rest in (λ ds z. let y = both_true (same_bytes w kw_plugin) (is_in_body σ) e in f ds y.1 (ap (λ q. run q ∷ xs) (sym (same_true w kw_plugin y.0))) (unfold HeadingTail in z)))

  as_back : (l : Stage) → ((t : Tag) (p : Bool) (us : List TextToken) (ds : List Declaration) → is_in_body σ ≡ true → put_tag t (put_plugin p us) ≡ run w ∷ xs → HeadingEnds σ n (plugin_on p (tag_on t h)) us ds → HeadingTail l σ n h (run w ∷ xs) ds) → same_bytes w kw_as ≡ true → Back σ n (in_heading l s h) (run w) xs (allow (is_in_body σ) (move σ (due_tag s h)))
  as_back l f e = allow_back σ n (in_heading l s h) (run w) xs (is_in_body σ) _ (λ b. unfold Back Rest in (λ ds z. by ds b z))
    where
      by : (ds : List Declaration) → is_in_body σ ≡ true → ◌⊎◌ ((v : List ℕ) × (us : List TextToken) × (run v ∷ us ≡ xs) × HeadingTail after_tag σ n (with_tag (explicit v) h) us ds) ((us : List TextToken) × (mark 63 ∷ us ≡ xs) × HeadingTail after_tag σ n (with_tag tagless h) us ds) → HeadingTail l σ n h (run w ∷ xs) ds
      by ds b (inl z) = go (unfold HeadingTail in z.3)
        where
          go : (p : Bool) × (us : List TextToken) × Bare σ absent own_name p × (put_plugin p us ≡ z.1) × HeadingEnds σ n (plugin_on p (with_tag (explicit z.0) h)) us ds → HeadingTail l σ n h (run w ∷ xs) ds
          go y = f (explicit z.0) y.0 y.1 ds b (unfold put_tag in (ap (λ q. run kw_as ∷ run z.0 ∷ q) y.3 ∙ (ap (λ q. run kw_as ∷ q) z.2 ∙ ap (λ q. run q ∷ xs) (sym (same_true w kw_as e))))) (unfold tag_on in y.4)
      by ds b (inr z) = go (unfold HeadingTail in z.2)
        where
          go : (p : Bool) × (us : List TextToken) × Bare σ absent own_name p × (put_plugin p us ≡ z.0) × HeadingEnds σ n (plugin_on p (with_tag tagless h)) us ds → HeadingTail l σ n h (run w ∷ xs) ds
          go y = f tagless y.0 y.1 ds b (unfold put_tag in (ap (λ q. run kw_as ∷ mark 63 ∷ q) y.3 ∙ (ap (λ q. run kw_as ∷ q) z.1 ∙ ap (λ q. run q ∷ xs) (sym (same_true w kw_as e))))) (unfold tag_on in y.4)

  run_back : (l : Stage) → Back σ n (in_heading l s h) (run w) xs (heading_run σ l s h w)
  unfolding heading_run HeadingTail put_card put_tag put_plugin plugin_on tag_on card_on
  run_back after_name = pick_back σ n (in_heading after_name s h) (run w) xs (same_bytes w kw_as) _ _
      (as_back after_name (λ t p us ds b e z. (absent, t, p, us, in_body σ absent t p b, e, z)))
      (plugin_back after_name (λ ds b e z. (absent, own_name, true, xs, in_body σ absent own_name true b, e, z)))
  run_back after_card = pick_back σ n (in_heading after_card s h) (run w) xs (same_bytes w kw_as) _ _
      (as_back after_card (λ t p us ds b e z. (t, p, us, in_body σ absent t p b, e, z)))
      (plugin_back after_card (λ ds b e z. (own_name, true, xs, in_body σ absent own_name true b, e, z)))
  run_back after_tag = plugin_back after_tag (λ ds b e z. (true, xs, in_body σ absent own_name true b, e, z))
  run_back after_plugin = unfold Back in tt

mark_back : (σ : List Frame) (n : ℕ) (s : Spots) (h : Heading) (m : ℕ) (xs : List TextToken) (l : Stage) → Back σ n (in_heading l s h) (mark m) xs (heading_mark σ l n s h m)
unfolding heading_mark
mark_back σ n s h m xs after_name = pick_back σ n (in_heading after_name s h) (mark m) xs (eqb m 91) _ _
    (λ e. allow_back σ n (in_heading after_name s h) (mark m) xs (is_in_body σ) (move σ (due_card s h)) (λ b. unfold Back Rest HeadingTail in (λ ds z. let t = z.3 in (given z.0, t.0, t.1, t.2, in_body σ (given z.0) t.0 t.1 b, unfold put_card in (ap (λ q. mark 91 ∷ run z.0 ∷ mark 93 ∷ q) t.4 ∙ (ap (λ q. mark 91 ∷ q) z.2 ∙ is_mark_lem 91 m xs e)), unfold card_on in t.5))))
    (end_back σ n s h m (in_heading after_name s h) xs (λ ds z. unfold Rest in (ends_tail after_name σ n h (mark m ∷ xs) ds z)))
mark_back σ n s h m xs after_card = end_back σ n s h m (in_heading after_card s h) xs (λ ds z. unfold Rest in (ends_tail after_card σ n h (mark m ∷ xs) ds z))
mark_back σ n s h m xs after_tag = end_back σ n s h m (in_heading after_tag s h) xs (λ ds z. unfold Rest in (ends_tail after_tag σ n h (mark m ∷ xs) ds z))
mark_back σ n s h m xs after_plugin = end_back σ n s h m (in_heading after_plugin s h) xs (λ ds z. unfold Rest in (ends_tail after_plugin σ n h (mark m ∷ xs) ds z))

-- bodies close, groups open and close
close_after : (p : ℕ) (m : BodyMode) (σ : List Frame) (n : ℕ) (r : List TextToken) (ds : List Declaration) → takes_close m ≡ true → After σ n r ds → After (frame p m ∷ σ) n (mark 125 ∷ mark 59 ∷ r) ds
unfolding After takes_close print_form declare count_form Allowed
close_after p in_fields σ n r ds e a = (no_field, no_group, tt, tt, r, ds, n, refl, refl, omega arith, a)
close_after p group_opened σ n r ds e a = clash_bool e
close_after p in_group σ n r ds e a = clash_bool e
close_after p groups_closed σ n r ds e a = (no_group, tt, r, ds, n, refl, refl, omega arith, a)

open_after_lem : (p : ℕ) (m : BodyMode) (σ : List Frame) (n : ℕ) (r : List TextToken) (ds : List Declaration) → takes_close m ≡ true → After (frame p group_opened ∷ σ) n r ds → After (frame p m ∷ σ) n (mark 91 ∷ r) ds
unfolding After takes_close print_form declare count_form Allowed
open_after_lem p in_fields σ n r ds e a = (no_field, group a.0 a.1 a.2, tt, (a.3, a.4, a.5), a.6, a.7, a.8, ap (λ q. mark 91 ∷ q) a.9, ap (λ q. declare a.0 (under p) true q (declare a.1 (under p) true (q + count_form a.0) (declare a.2 (under p) true (q + (count_form a.0 + count_form a.1)) a.7))) (omega arith) ∙ a.10, omega (arith, a.11), a.12)
open_after_lem p group_opened σ n r ds e a = clash_bool e
open_after_lem p in_group σ n r ds e a = clash_bool e
open_after_lem p groups_closed σ n r ds e a = (group a.0 a.1 a.2, (a.3, a.4, a.5), a.6, a.7, a.8, ap (λ q. mark 91 ∷ q) a.9, a.10, a.11, a.12)

end_group_after : (p : ℕ) (m : BodyMode) (σ : List Frame) (n : ℕ) (r : List TextToken) (ds : List Declaration) → takes_group_end m ≡ true → After (frame p groups_closed ∷ σ) n r ds → After (frame p m ∷ σ) n (mark 93 ∷ r) ds
unfolding After takes_group_end print_form declare count_form Allowed
end_group_after p in_fields σ n r ds e a = clash_bool e
end_group_after p group_opened σ n r ds e a = clash_bool e
end_group_after p in_group σ n r ds e a = (no_field, a.0, tt, a.1, a.2, a.3, a.4, ap (λ q. mark 93 ∷ q) a.5, ap (λ q. declare a.0 (under p) true q a.3) (omega arith) ∙ a.6, omega (arith, a.7), a.8)
end_group_after p groups_closed σ n r ds e a = clash_bool e

start_mark_back : (σ : List Frame) (n m : ℕ) (xs : List TextToken) → Back σ n at_start (mark m) xs (start_mark σ m)
unfolding start_mark
start_mark_back [] n m xs = unfold Back in tt
start_mark_back (frame p b ∷ σ) n m xs =
    pick_back (frame p b ∷ σ) n at_start (mark m) xs (eqb m 125) _ _
    (λ e. allow_back (frame p b ∷ σ) n at_start (mark m) xs (takes_close b) (move σ due_semicolon) (λ c. unfold Back Rest in (λ ds z. after_as (frame p b ∷ σ) n _ _ ds ds (ap (λ q. mark 125 ∷ q) z.1 ∙ is_mark_lem 125 m xs e) refl (close_after p b σ n z.0 ds c z.2))))
    (pick_back (frame p b ∷ σ) n at_start (mark m) xs (eqb m 91) _ _
    (λ e. allow_back (frame p b ∷ σ) n at_start (mark m) xs (takes_close b) (move (frame p group_opened ∷ σ) at_start) (λ c. unfold Back Rest in (λ ds z. after_as (frame p b ∷ σ) n _ _ ds ds (is_mark_lem 91 m xs e) refl (open_after_lem p b σ n xs ds c z))))
    (allow_back (frame p b ∷ σ) n at_start (mark m) xs (eqb m 93 && takes_group_end b) (move (frame p groups_closed ∷ σ) at_start) (λ c. unfold Back Rest in (λ ds z. let y = both_true (eqb m 93) (takes_group_end b) c in after_as (frame p b ∷ σ) n _ _ ds ds (is_mark_lem 93 m xs y.0) refl (end_group_after p b σ n xs ds y.1 z)))))

start_run_back : (σ : List Frame) (n i : ℕ) (w : List ℕ) (xs : List TextToken) → Back σ n at_start (run w) xs (start_run σ i w)
unfolding start_run
start_run_back [] n i w xs = allow_back [] n at_start (run w) xs (not (is_reference w)) _ (λ e. unfold Back in (λ ds z. unfold Rest in (begin [] n i w xs ds (unfold TypeBegins in (not-true (is_reference w) e)) z)))
start_run_back (frame p m ∷ σ) n i w xs = allow_back (frame p m ∷ σ) n at_start (run w) xs (takes_field m) _ (λ e. unfold Back in (λ ds z. unfold Rest in (begin (frame p m ∷ σ) n i w xs ds (unfold TypeBegins in e) z)))

step_back : (σ : List Frame) (n i : ℕ) (p : Phase) (x : TextToken) (xs : List TextToken) → Back σ n p x xs (step σ n i p x)
unfolding step
step_back σ n i at_start (run w) xs = start_run_back σ n i w xs
step_back σ n i at_start (mark m) xs = start_mark_back σ n m xs
step_back σ n i due_semicolon (run w) xs = unfold Back in tt
step_back σ n i due_semicolon (mark m) xs = allow_back σ n due_semicolon (mark m) xs (eqb m 59) _ (λ e. unfold Back Rest in (λ ds z. (xs, is_mark_lem 59 m xs e, z)))
step_back σ n i (after_type y w) (run v) xs = unfold Back Rest RangeAllowed put_range in (λ ds z. (absent, v, xs, tt, refl, z))
step_back σ n i (after_type y w) (mark m) xs = allow_back σ n (after_type y w) (mark m) xs (eqb m 60 && takes_range w) _ (λ e. unfold Back Rest RangeAllowed put_range in (λ ds z. let y = both_true (eqb m 60) (takes_range w) e in (given z.0, z.1, z.2, y.1, ap (λ q. mark 60 ∷ q) z.3 ∙ is_mark_lem 60 m xs y.0, z.4)))
step_back σ n i (due_range y w) (run v) xs = unfold Back Rest in (λ ds z. (v, z.0, z.1, ap (λ q. run v ∷ q) z.2, z.3))
step_back σ n i (due_range y w) (mark m) xs = unfold Back in tt
step_back σ n i (due_range_end y g w v) (run u) xs = unfold Back in tt
step_back σ n i (due_range_end y g w v) (mark m) xs = allow_back σ n (due_range_end y g w v) (mark m) xs (eqb m 62) _ (λ e. unfold Back Rest in (λ ds z. (z.0, z.1, ap (λ q. mark 62 ∷ q) z.2 ∙ is_mark_lem 62 m xs e, z.3)))
step_back σ n i (due_name y g w x) (run v) xs = unfold Back Rest in (λ ds z. (v, xs, refl, z))
step_back σ n i (due_name y g w x) (mark m) xs = unfold Back in tt
step_back σ n i (in_heading l s h) (run w) xs = run_back σ n s h w xs l
step_back σ n i (in_heading l s h) (mark m) xs = mark_back σ n s h m xs l
step_back σ n i (due_card s h) (run v) xs = unfold Back Rest in (λ ds z. (v, z.0, ap (λ q. run v ∷ q) z.1, z.2))
step_back σ n i (due_card s h) (mark m) xs = unfold Back in tt
step_back σ n i (due_tag s h) (run v) xs = unfold Back Rest in (λ ds z. inl (v, xs, refl, z))
step_back σ n i (due_tag s h) (mark m) xs = allow_back σ n (due_tag s h) (mark m) xs (eqb m 63) _ (λ e. unfold Back Rest in (λ ds z. inr (xs, is_mark_lem 63 m xs e, z)))
step_back σ n i (due_card_end s h) (run w) xs = unfold Back in tt
step_back σ n i (due_card_end s h) (mark m) xs = allow_back σ n (due_card_end s h) (mark m) xs (eqb m 93) _ (λ e. unfold Back Rest in (λ ds z. (xs, is_mark_lem 93 m xs e, z)))

-- ---- the whole row

pub stuck_complete : {A X : Type 0} {i : ℕ} {a : A} → ◌≡◌ {A = Outcome A} (stuck_at i) (complete a) → X
stuck_complete e = let z : ◌≡◌ {A = ℕ} 0 1 = cc in absurd (omega arith)

pub map_complete : {A B X : Type 0} (f : A → B) (m : Outcome A) {y : B} → map_outcome f m ≡ complete y → ((a : A) → m ≡ complete a → f a ≡ y → X) → X
unfolding map_outcome
map_complete f (stuck_at i) e k = stuck_complete e
map_complete f (complete a) e k = k a refl (cc)

end_rest : (σ : List Frame) (n i : ℕ) (p : Phase) (ns : List Noted) → at_end σ n i p ≡ complete ns → Rest σ n p [] (declarations_of ns)
unfolding at_end
end_rest [] n i at_start ns e = by (eqb n 0) refl e
  where
    by : (b : Bool) → eqb n 0 ≡ b → end_if b i ≡ complete ns → Rest [] n at_start [] (declarations_of ns)
    by true q e = unfold end_if in (stuck_complete e)
    by false q e = unfold end_if in (let z : [] ≡ ns = cc in rw (← z) (unfold Rest After declarations_of in (inl (omega (arith, eqb-false n 0 q), refl, refl))))
end_rest [] n i due_semicolon ns e = stuck_complete e
end_rest [] n i (after_type y w) ns e = stuck_complete e
end_rest [] n i (due_range y w) ns e = stuck_complete e
end_rest [] n i (due_range_end y g w v) ns e = stuck_complete e
end_rest [] n i (due_name y g w x) ns e = stuck_complete e
end_rest [] n i (in_heading l s h) ns e = stuck_complete e
end_rest [] n i (due_card s h) ns e = stuck_complete e
end_rest [] n i (due_tag s h) ns e = stuck_complete e
end_rest [] n i (due_card_end s h) ns e = stuck_complete e
end_rest (f ∷ σ) n i p ns e = stuck_complete e

abbrev pub Sound : List TextToken → Type 0
Sound xs = (σ : List Frame) (n i : ℕ) (p : Phase) (ns : List Noted) → parse_forms σ n i p xs ≡ complete ns → Rest σ n p xs (declarations_of ns)

sound_step : (x : TextToken) (xs : List TextToken) → Sound xs → Sound (x ∷ xs)
unfolding parse_forms
sound_step x xs f σ n i p ns e = by (step σ n i p x) refl (step_back σ n i p x xs)
  where
    by : (a : Action) → step σ n i p x ≡ a → Back σ n p x xs a → Rest σ n p (x ∷ xs) (declarations_of ns)
    by stop q b = stuck_complete (rw (q, parse_forms) at e)
    by (move τ r) q b = unfold Back in (b (declarations_of ns) (f τ n (suc i) r ns (rw (q, parse_forms) at e)))
    by (note (noted s d) τ r) q b = map_complete (λ l. noted s d ∷ l) (parse_forms τ (suc n) (suc i) r xs) (rw (q, parse_forms) at e) (λ l e1 e2. rw (← e2) (unfold Back declarations_of in (b (declarations_of l) (f τ (suc n) (suc i) r l e1))))

pub parse_sound : (xs : List TextToken) → Sound xs
unfolding parse_forms
parse_sound [] σ n i p ns e = end_rest σ n i p ns e
parse_sound (x ∷ xs) σ n i p ns e = sound_step x xs (parse_sound xs) σ n i p ns e

-- tokens that are read fit: a tree prints to them, and the declarations are the tree's
pub complete_fits : (ts : List TextToken) (ns : List Noted) → parse_tokens ts ≡ complete ns → (f : Fits ts) × (tree_declarations f.0 ≡ declarations_of ns)
complete_fits ts ns e = by (unfold Rest After in (parse_sound ts [] 0 0 at_start ns e))
  where
    by : ◌⊎◌ ((1 ≤ 0) × (ts ≡ []) × (declarations_of ns ≡ [])) ((d : Form tops) × Allowed top_level d × (print_form d [] ≡ ts) × (declare d top false 0 [] ≡ declarations_of ns)) → (f : Fits ts) × (tree_declarations f.0 ≡ declarations_of ns)
    by (inl z) = absurd (omega (arith, z.0))
    by (inr z) = ((z.0, z.1, z.2), z.3)
