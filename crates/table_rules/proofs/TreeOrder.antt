-- The declarations of a tree stand in order, and no deeper than its braces.
use mathlib.Core.Path.{◌≡◌, refl, subst, sym, ◌∙◌}
use mathlib.Core.Bool.{Bool, true, false}
use mathlib.Core.List.{List, [], ◌∷◌}
use Prim.Native.Nat.{ℕ, suc, ◌+◌, ◌≤◌, ◌<◌}
use native.Mathlib.Omega.{arith}
use lib.Dec.{eqb, ltb}
use lib.ListN.{length}
use borrow.Author.Tests.{ne_eqb, eq-eqb, eqb-true, ltb-true}
use Rattle.classes.proofs.Bools.{clash_bool, both_true}
use Rattle.numbers.specs.Limits.{depth_limit}
use Rattle.classes.specs.Lists.{pick}
use Rattle.definition_rules.specs.Scan.{braces_after, TextToken, mark}
use Rattle.definition_rules.specs.Forms.{put_head, print_form, HeadAllowed, Allowed, Heading, heading, FormSort, parameter, fields, groups, tops, Form, plain, compound, no_field, field, no_group, group, last_top, more_tops, Level, top_level, field_level}
use Rattle.reading_rules.specs.Record.{Up, top, under}
use Rattle.definition_rules.specs.Declarations.{count_form, declare, parent_of, Declaration, BodyMode, in_fields, in_group, Frame, frame}
use Rattle.table_rules.specs.RecordRules.{is_open, closed_to, in_extension, push_if}
use Rattle.table_rules.proofs.Spelling.{roomy, nest}
use Rattle.table_rules.proofs.FlatPrint.{pushed, FitsOn, InOrder, closed_top}
use Rattle.table_rules.proofs.Depth.{LowEnough, nest_range, nest_card, nest_tag, nest_plugin}

-- ---- depth

nest_head : (d : ℕ) (h : Heading) (r : List TextToken) → nest d (put_head h r) ≡ nest d r
unfolding put_head nest
nest_head d (heading w g n c t p) r = nest_range d g _ ∙ (nest_card d c _ ∙ (nest_tag d t _ ∙ nest_plugin d p r))

-- d structs and unions are open around the tree
unfoldable pub Shallow : {s : FormSort} → ℕ → Form s → Type 0
Shallow d (plain h) = Unit {0}
Shallow d (compound h f g) = (d < depth_limit) × Shallow (suc d) f × Shallow (suc d) g
Shallow d no_field = Unit {0}
Shallow d (field x f) = Shallow d x × Shallow d f
Shallow d no_group = Unit {0}
Shallow d (group x f g) = Shallow d x × Shallow d f × Shallow d g
Shallow d (last_top x) = Shallow d x
Shallow d (more_tops x t) = Shallow d x × Shallow d t

nest_semi : (d : ℕ) (r : List TextToken) → nest d (mark 59 ∷ r) ≡ nest d r
unfolding nest roomy braces_after pick
nest_semi d r = refl

nest_open : (d : ℕ) (r : List TextToken) → nest d (mark 91 ∷ r) ≡ nest d r
unfolding nest roomy braces_after pick
nest_open d r = refl

nest_shut : (d : ℕ) (r : List TextToken) → nest d (mark 93 ∷ r) ≡ nest d r
unfolding nest roomy braces_after pick
nest_shut d r = refl

nest_brace : (d : ℕ) (r : List TextToken) → nest d (mark 123 ∷ r) ≡ true → (d < depth_limit) × (nest (suc d) r ≡ true)
unfolding nest roomy braces_after pick
nest_brace d r e = let x = both_true (ltb d depth_limit) (nest (suc d) r) e in (ltb-true d depth_limit x.0, x.1)

nest_close : (d : ℕ) (r : List TextToken) → nest (suc d) (mark 125 ∷ mark 59 ∷ r) ≡ true → nest d r ≡ true
unfolding nest roomy braces_after pick
nest_close d r e = subst (λ x. nest x r ≡ true) (omega arith) e

pub nest_tree : {s : FormSort} (x : Form s) (d : ℕ) (r : List TextToken) → nest d (print_form x r) ≡ true → Shallow d x × (nest d r ≡ true)
unfolding print_form Shallow
nest_tree (plain h) d r e = (tt, sym (nest_semi d r) ∙ (sym (nest_head d h (mark 59 ∷ r)) ∙ e))
nest_tree (compound h f g) d r e =
    let a = nest_brace d _ (sym (nest_head d h _) ∙ e) in
    let b = nest_tree f (suc d) _ a.1 in
    let c = nest_tree g (suc d) _ b.1 in
    ((a.0, b.0, c.0), nest_close d r c.1)
nest_tree no_field d r e = (tt, e)
nest_tree (field x f) d r e = let a = nest_tree x d _ e in let b = nest_tree f d r a.1 in ((a.0, b.0), b.1)
nest_tree no_group d r e = (tt, e)
nest_tree (group x f g) d r e =
    let a = nest_tree x d _ (sym (nest_open d _) ∙ e) in
    let b = nest_tree f d _ a.1 in
    let c = nest_tree g d r (sym (nest_shut d _) ∙ b.1) in
    ((a.0, b.0, c.0), c.1)
nest_tree (last_top x) d r e = nest_tree x d r e
nest_tree (more_tops x t) d r e = let a = nest_tree x d _ e in let b = nest_tree t d r a.1 in ((a.0, b.0), b.1)

-- ---- open bodies: numbers fall

unfoldable pub Desc : ℕ → List Frame → Type 0
Desc k [] = Unit {0}
Desc k (frame p m ∷ σ) = (p < k) × Desc p σ

frame_no : (f : Frame) (l : List Frame) → [] ≡ f ∷ l → ⊥
frame_no f l e = let x : ◌≡◌ {A = ℕ} 0 1 = cc in omega arith

pub closed_at : (σ : List Frame) (k p q : ℕ) (n : BodyMode) (ρ : List Frame) → Desc k σ → closed_to (under p) σ ≡ frame q n ∷ ρ → (q ≡ p) × (p < k) × Desc p ρ
unfolding closed_to Desc is_open pick
closed_at [] k p q n ρ d e = absurd (frame_no (frame q n) ρ e)
closed_at (frame a m ∷ σ) k p q n ρ d e = by (eqb a p) refl e (λ e. closed_at σ a p q n ρ d.1 e)
  where
    by : (b : Bool) → eqb a p ≡ b → pick b (frame a m ∷ σ) (closed_to (under p) σ) ≡ frame q n ∷ ρ → (closed_to (under p) σ ≡ frame q n ∷ ρ → (q ≡ p) × (p < a) × Desc p ρ) → (q ≡ p) × (p < k) × Desc p ρ
    by true c e f = let x = eqb-true a p c in let y : a ≡ q = cc in let z : σ ≡ ρ = cc in (omega arith, omega (arith, d.0), rw (← x, ← z) d.1)
    by false c e f = let x = f e in (x.0, omega (arith, x.1, d.0), x.2)

closed_less : (σ : List Frame) (k p q : ℕ) (n : BodyMode) (ρ : List Frame) → Desc k σ → closed_to (under p) σ ≡ frame q n ∷ ρ → (u : ℕ) → u < p → closed_to (under u) σ ≡ closed_to (under u) ρ
unfolding closed_to Desc is_open pick
closed_less [] k p q n ρ d e u l = absurd (frame_no (frame q n) ρ e)
closed_less (frame a m ∷ σ) k p q n ρ d e u l = by (eqb a p) refl e (λ e. closed_less σ a p q n ρ d.1 e u l)
  where
    by : (b : Bool) → eqb a p ≡ b → pick b (frame a m ∷ σ) (closed_to (under p) σ) ≡ frame q n ∷ ρ → (closed_to (under p) σ ≡ frame q n ∷ ρ → closed_to (under u) σ ≡ closed_to (under u) ρ) → pick (eqb a u) (frame a m ∷ σ) (closed_to (under u) σ) ≡ closed_to (under u) ρ
    by true c e f = let x = eqb-true a p c in let z : σ ≡ ρ = cc in rw (ne_eqb a u (λ w. omega arith), z)
    by false c e f = let x = closed_at σ a p q n ρ d.1 e in rw (ne_eqb a u (λ w. omega (arith, x.1))) (f e)

closed_self : (p : ℕ) (m : BodyMode) (ρ : List Frame) → closed_to (under p) (frame p m ∷ ρ) ≡ frame p m ∷ ρ
unfolding closed_to is_open pick
closed_self p m ρ = rw (eq-eqb p p refl)

pub desc_more : (k n : ℕ) (ρ : List Frame) → k ≤ n → Desc k ρ → Desc n ρ
unfolding Desc
desc_more k n [] h d = tt
desc_more k n (frame p m ∷ ρ) h d = (omega (arith, d.0), d.1)

-- ---- the declarations of a tree stand in order

abbrev pub Stand : List Frame → ℕ → List Declaration → Type 0
Stand σ k ds = InOrder σ k ds × LowEnough σ k ds

-- where a parameter stands: the open bodies, its own on top
pub data Place : Level → Up → Bool → List Frame → List Frame → Type 0 where
  outside : Place top_level top false [] []
  in_field : (p : ℕ) (ρ : List Frame) → Place field_level (under p) false (frame p in_fields ∷ ρ) (frame p in_fields ∷ ρ)
  first_ext : (p : ℕ) (ρ : List Frame) → Place field_level (under p) true (frame p in_fields ∷ ρ) (frame p in_group ∷ ρ)
  more_ext : (p : ℕ) (ρ : List Frame) → Place field_level (under p) true (frame p in_group ∷ ρ) (frame p in_group ∷ ρ)

place_fits : {l : Level} {u : Up} {e : Bool} {ρ τ : List Frame} → Place l u e ρ τ → (h : Heading) → HeadAllowed l h → (parent_of ρ ≡ u) × FitsOn ρ e h × (in_extension e ρ ≡ τ) × (closed_to u τ ≡ τ) × (length τ ≡ length ρ)
unfolding parent_of FitsOn in_extension
place_fits outside h a = (refl, (refl, a), refl, unfold closed_to in refl, refl)
place_fits (in_field p ρ) h a = (refl, a, refl, closed_self p in_fields ρ, refl)
place_fits (first_ext p ρ) h a = (refl, a, refl, closed_self p in_group ρ, refl)
place_fits (more_ext p ρ) h a = (refl, (refl, a), refl, closed_self p in_group ρ, refl)

-- once a body numbered k inside τ is closed one is back at τ
place_back : {l : Level} {u : Up} {e : Bool} {ρ τ : List Frame} → Place l u e ρ τ → (σ : List Frame) (n k : ℕ) (m : BodyMode) → Desc n σ → Desc k τ → closed_to (under k) σ ≡ frame k m ∷ τ → closed_to u σ ≡ τ
place_back outside σ n k m d b e = closed_top σ
place_back (in_field p ρ) σ n k m d b e = closed_less σ n k k m (frame p in_fields ∷ ρ) d e p (unfold Desc in b.0) ∙ closed_self p in_fields ρ
place_back (first_ext p ρ) σ n k m d b e = closed_less σ n k k m (frame p in_group ∷ ρ) d e p (unfold Desc in b.0) ∙ closed_self p in_group ρ
place_back (more_ext p ρ) σ n k m d b e = closed_less σ n k k m (frame p in_group ∷ ρ) d e p (unfold Desc in b.0) ∙ closed_self p in_group ρ

place_desc : {l : Level} {u : Up} {e : Bool} {ρ τ : List Frame} → Place l u e ρ τ → (σ : List Frame) (k : ℕ) → Desc k σ → closed_to u σ ≡ ρ → Desc k τ
place_desc outside σ k d e = unfold Desc in tt
place_desc (in_field p ρ) σ k d e = unfold Desc in (let x = closed_at σ k p p in_fields ρ d e in (x.1, x.2))
place_desc (first_ext p ρ) σ k d e = unfold Desc in (let x = closed_at σ k p p in_fields ρ d e in (x.1, x.2))
place_desc (more_ext p ρ) σ k d e = unfold Desc in (let x = closed_at σ k p p in_group ρ d e in (x.1, x.2))

abbrev Next : Up → List Frame → ℕ → List Declaration → Type 0
Next u τ n r = (σ : List Frame) → Desc n σ → closed_to u σ ≡ τ → Stand σ n r

abbrev pub ParameterStands : Form parameter → Type 0
ParameterStands x = (l : Level) (u : Up) (e : Bool) (ρ τ : List Frame) (w : Place l u e ρ τ) (σ : List Frame) (k : ℕ) (r : List Declaration) → Desc k σ → closed_to u σ ≡ ρ → Allowed l x → Shallow (length ρ) x → Next u τ (k + count_form x) r → Stand σ k (declare x u e k r)

-- how fields stand: outside extensions, or in one
pub data Run : Bool → BodyMode → Type 0 where
  plain_run : Run false in_fields
  ext_run : Run true in_group

abbrev pub FieldsStand : Form fields → Type 0
FieldsStand f = (e : Bool) (m : BodyMode) (w : Run e m) (p : ℕ) (ρ : List Frame) (σ : List Frame) (k : ℕ) (r : List Declaration) → Desc k σ → closed_to (under p) σ ≡ frame p m ∷ ρ → Allowed field_level f → Shallow (suc (length ρ)) f → Next (under p) (frame p m ∷ ρ) (k + count_form f) r → Stand σ k (declare f (under p) e k r)

pub data Grouped : BodyMode → Type 0 where
  none_yet : Grouped in_fields
  some_yet : Grouped in_group

abbrev pub GroupsStand : Form groups → Type 0
GroupsStand g = (m : BodyMode) (w : Grouped m) (p : ℕ) (ρ : List Frame) (σ : List Frame) (k : ℕ) (r : List Declaration) → Desc k σ → closed_to (under p) σ ≡ frame p m ∷ ρ → Allowed field_level g → Shallow (suc (length ρ)) g → ((n : BodyMode) → Grouped n → Next (under p) (frame p n ∷ ρ) (k + count_form g) r) → Stand σ k (declare g (under p) true k r)

stand_plain : (h : Heading) → ParameterStands (plain h)
unfolding declare count_form Allowed InOrder LowEnough pushed push_if
stand_plain h l u b ρ τ w σ k r d e a s next =
    let x = place_fits w h a.0 in
    let n = next τ (desc_more k (k + 1) τ (omega arith) (place_desc w σ k d e)) x.3 in
    let n1 = subst (λ q. Stand τ q r) {y = suc k} (omega arith) n in
    rw (e, a.1, x.2) ((x.0, x.1, n1.0), ((λ z. clash_bool z), n1.1))

run_place : {e : Bool} {m : BodyMode} → Run e m → (p : ℕ) (ρ : List Frame) → Place field_level (under p) e (frame p m ∷ ρ) (frame p m ∷ ρ)
run_place plain_run p ρ = in_field p ρ
run_place ext_run p ρ = more_ext p ρ

stand_field : (x : Form parameter) (f : Form fields) → ParameterStands x → FieldsStand f → FieldsStand (field x f)
unfolding declare count_form Allowed Shallow
stand_field x f X F b m w p ρ σ k r d e a s next =
    X _ _ _ _ _ (run_place w p ρ) σ k _ d e a.0 s.0 (λ σ1 d1 e1. F b m w p ρ σ1 (k + count_form x) r d1 e1 a.1 s.1 (λ σ2 d2 e2. subst (λ q. Stand σ2 q r) (omega arith) (next σ2 (desc_more (k + count_form x + count_form f) (k + (count_form x + count_form f)) σ2 (omega arith) d2) e2)))

group_place : {m : BodyMode} → Grouped m → (p : ℕ) (ρ : List Frame) → Place field_level (under p) true (frame p m ∷ ρ) (frame p in_group ∷ ρ)
group_place none_yet p ρ = first_ext p ρ
group_place some_yet p ρ = more_ext p ρ

stand_group : (x : Form parameter) (f : Form fields) (g : Form groups) → ParameterStands x → FieldsStand f → GroupsStand g → GroupsStand (group x f g)
unfolding declare count_form Allowed Shallow
stand_group x f g X F G m w p ρ σ k r d e a s next =
    X _ _ _ _ _ (group_place w p ρ) σ k _ d e a.0 s.0 (λ σ1 d1 e1.
    F true in_group ext_run p ρ σ1 (k + count_form x) _ d1 e1 a.1 s.1 (λ σ2 d2 e2.
    subst (λ q. Stand σ2 q (declare g (under p) true (k + (count_form x + count_form f)) r)) (omega arith)
    (G in_group some_yet p ρ σ2 (k + (count_form x + count_form f)) r (desc_more (k + count_form x + count_form f) (k + (count_form x + count_form f)) σ2 (omega arith) d2) e2 a.2 s.2 (λ n v σ3 d3 e3.
    subst (λ q. Stand σ3 q r) (omega arith) (next n v σ3 (desc_more (k + (count_form x + count_form f) + count_form g) (k + (count_form x + (count_form f + count_form g))) σ3 (omega arith) d3) e3)))))

stand_compound : (h : Heading) (f : Form fields) (g : Form groups) → FieldsStand f → GroupsStand g → ParameterStands (compound h f g)
unfolding declare count_form Allowed Shallow InOrder LowEnough pushed push_if
stand_compound h f g F G l u c ρ τ w σ k r d e a s next =
    let x = place_fits w h a.0 in
    let b = place_desc w σ k d e in
    let n : Stand (frame k in_fields ∷ τ) (suc k) (declare f (under k) false (suc k) (declare g (under k) true (suc k + count_form f) r)) =
    F false in_fields plain_run k τ (frame k in_fields ∷ τ) (suc k) _ (unfold Desc in (omega arith, b)) (closed_self k in_fields τ) a.2 (rw x.4 s.1) (λ σ1 d1 e1.
    G in_fields none_yet k τ σ1 (suc k + count_form f) r d1 e1 a.3 (rw x.4 s.2) (λ m v σ2 d2 e2.
    subst (λ q. Stand σ2 q r) (omega arith) (next σ2 (desc_more (suc k + count_form f + count_form g) (k + suc (count_form f + count_form g)) σ2 (omega arith) d2) (place_back w σ2 (suc k + count_form f + count_form g) k m d2 b e2)))) in
    rw (e, a.1, x.2) ((x.0, x.1, n.0), ((λ z. s.0), n.1))

abbrev pub OrderOf : {s : FormSort} → Form s → Type 0
OrderOf {s = parameter} x = ParameterStands x
OrderOf {s = fields} x = FieldsStand x
OrderOf {s = groups} x = GroupsStand x
OrderOf {s = tops} x = (σ : List Frame) (k : ℕ) → Desc k σ → closed_to top σ ≡ [] → Allowed top_level x → Shallow 0 x → Stand σ k (declare x top false k [])

stand_nil : (σ : List Frame) (k : ℕ) → Stand σ k []
unfolding InOrder LowEnough
stand_nil σ k = (tt, tt)

stand_last : (x : Form parameter) → ParameterStands x → OrderOf (last_top x)
unfolding declare Allowed Shallow
stand_last x X σ k d e a s = X top_level top false [] [] outside σ k [] d e a s (λ σ1 d1 e1. stand_nil σ1 (k + count_form x))

stand_more : (x : Form parameter) (t : Form tops) → ParameterStands x → OrderOf t → OrderOf (more_tops x t)
unfolding declare Allowed Shallow
stand_more x t X T σ k d e a s = X top_level top false [] [] outside σ k _ d e a.0 s.0 (λ σ1 d1 e1. T σ1 (k + count_form x) d1 e1 a.1 s.1)

stand_no_field : FieldsStand no_field
unfolding declare count_form
stand_no_field b m w p ρ σ k r d e a s next = subst (λ q. Stand σ q r) (omega arith) (next σ (desc_more k (k + 0) σ (omega arith) d) e)

stand_no_group : GroupsStand no_group
unfolding declare count_form
stand_no_group m w p ρ σ k r d e a s next = subst (λ q. Stand σ q r) (omega arith) (next m w σ (desc_more k (k + 0) σ (omega arith) d) e)

pub stand_tree : {s : FormSort} (x : Form s) → OrderOf x
stand_tree (plain h) = stand_plain h
stand_tree (compound h f g) = stand_compound h f g (stand_tree f) (stand_tree g)
stand_tree no_field = stand_no_field
stand_tree (field x f) = stand_field x f (stand_tree x) (stand_tree f)
stand_tree no_group = stand_no_group
stand_tree (group x f g) = stand_group x f g (stand_tree x) (stand_tree f) (stand_tree g)
stand_tree (last_top x) = stand_last x (stand_tree x)
stand_tree (more_tops x t) = stand_more x t (stand_tree x) (stand_tree t)
