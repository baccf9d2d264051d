-- T2: two trees that print to the same tokens are one.
use mathlib.Core.Path.{◌≡◌, refl, ap, sym}
use mathlib.Core.Bool.{Bool, true, false}
use mathlib.Core.List.{List, [], ◌∷◌}
use Prim.Native.Nat.{ℕ}
use native.Mathlib.Omega.{arith}
use Rattle.definition_rules.specs.Words.{kw_as, kw_plugin}
use Rattle.definition_rules.specs.Scan.{TextToken, run, mark}
use Rattle.definition_rules.specs.Forms.{MaybeRun, absent, given, Tag, own_name, tagless, explicit, Heading, heading, put_range, put_card, put_tag, put_plugin, put_head, FormSort, parameter, fields, groups, tops, Form, plain, compound, no_field, field, no_group, group, last_top, more_tops, print_form}

run_mark : {X : Type 0} {w : List ℕ} {n : ℕ} {r s : List TextToken} → run w ∷ r ≡ mark n ∷ s → X
run_mark e = let z : ◌≡◌ {A = ℕ} 0 1 = cc in absurd (omega arith)

run_run : (v w : List ℕ) (r s : List TextToken) → run v ∷ r ≡ run w ∷ s → (v ≡ w) × (r ≡ s)
run_run v w r s e = let x : v ≡ w = cc in let y : r ≡ s = cc in (x, y)

mark_mark : (m n : ℕ) (r s : List TextToken) → mark m ∷ r ≡ mark n ∷ s → (m ≡ n) × (r ≡ s)
mark_mark m n r s e = let x : m ≡ n = cc in let y : r ≡ s = cc in (x, y)

words_differ : {X : Type 0} {r s : List TextToken} → run kw_plugin ∷ r ≡ run kw_as ∷ s → X
words_differ e = let z : ◌≡◌ {A = ℕ} 112 97 = cc in absurd (omega arith)

module _ (a b : ℕ) (r s : List TextToken) where
  same_plugin : (p q : Bool) → put_plugin p (mark a ∷ r) ≡ put_plugin q (mark b ∷ s) → (p ≡ q) × (mark a ∷ r ≡ mark b ∷ s)
  unfolding put_plugin
  same_plugin false false e = (refl, e)
  same_plugin false true e = run_mark (sym e)
  same_plugin true false e = run_mark e
  same_plugin true true e = (refl, (run_run kw_plugin kw_plugin (mark a ∷ r) (mark b ∷ s) e).1)

  no_as : {X : Type 0} (p : Bool) {u : List TextToken} → put_plugin p (mark a ∷ r) ≡ run kw_as ∷ u → X
  unfolding put_plugin
  no_as false e = run_mark (sym e)
  no_as true e = words_differ e

  as_no : {X : Type 0} (q : Bool) {u : List TextToken} → run kw_as ∷ u ≡ put_plugin q (mark b ∷ s) → X
  unfolding put_plugin
  as_no false e = run_mark e
  as_no true e = words_differ (sym e)

  same_tag : (t u : Tag) (p q : Bool) → put_tag t (put_plugin p (mark a ∷ r)) ≡ put_tag u (put_plugin q (mark b ∷ s)) → (t ≡ u) × (put_plugin p (mark a ∷ r) ≡ put_plugin q (mark b ∷ s))
  unfolding put_tag
  same_tag own_name own_name p q e = (refl, e)
  same_tag own_name tagless p q e = no_as p e
  same_tag own_name (explicit v) p q e = no_as p e
  same_tag tagless own_name p q e = as_no q e
  same_tag tagless tagless p q e = (refl, (mark_mark 63 63 _ _ (run_run kw_as kw_as _ _ e).1).1)
  same_tag tagless (explicit v) p q e = run_mark (sym (run_run kw_as kw_as _ _ e).1)
  same_tag (explicit v) own_name p q e = as_no q e
  same_tag (explicit v) tagless p q e = run_mark (run_run kw_as kw_as _ _ e).1
  same_tag (explicit v) (explicit w) p q e = let x = run_run v w _ _ (run_run kw_as kw_as _ _ e).1 in (ap explicit x.0, x.1)

  no_bracket : {X : Type 0} (t : Tag) (p : Bool) {u : List TextToken} → (a ≡ 91 → ⊥) → put_tag t (put_plugin p (mark a ∷ r)) ≡ mark 91 ∷ u → X
  unfolding put_tag put_plugin
  no_bracket own_name false {u} h e = absurd (h (mark_mark a 91 r u e).0)
  no_bracket own_name true h e = run_mark e
  no_bracket tagless p h e = run_mark e
  no_bracket (explicit v) p h e = run_mark e

  bracket_no : {X : Type 0} (t : Tag) (p : Bool) {u : List TextToken} → (b ≡ 91 → ⊥) → mark 91 ∷ u ≡ put_tag t (put_plugin p (mark b ∷ s)) → X
  unfolding put_tag put_plugin
  bracket_no own_name false {u} h e = absurd (h (sym (mark_mark 91 b u s e).0))
  bracket_no own_name true h e = run_mark (sym e)
  bracket_no tagless p h e = run_mark (sym e)
  bracket_no (explicit v) p h e = run_mark (sym e)

  same_card : (c d : MaybeRun) (t u : Tag) (p q : Bool) → (a ≡ 91 → ⊥) → (b ≡ 91 → ⊥) → put_card c (put_tag t (put_plugin p (mark a ∷ r))) ≡ put_card d (put_tag u (put_plugin q (mark b ∷ s))) → (c ≡ d) × (put_tag t (put_plugin p (mark a ∷ r)) ≡ put_tag u (put_plugin q (mark b ∷ s)))
  unfolding put_card
  same_card absent absent t u p q h k e = (refl, e)
  same_card absent (given v) t u p q h k e = no_bracket t p h e
  same_card (given v) absent t u p q h k e = bracket_no u q k e
  same_card (given v) (given w) t u p q h k e = let x = run_run v w _ _ (mark_mark 91 91 _ _ e).1 in (ap given x.0, (mark_mark 93 93 _ _ x.1).1)

same_range : (g h : MaybeRun) (v w : List ℕ) (r s : List TextToken) → put_range g (run v ∷ r) ≡ put_range h (run w ∷ s) → (g ≡ h) × (v ≡ w) × (r ≡ s)
unfolding put_range
same_range absent absent v w r s e = let x = run_run v w r s e in (refl, x.0, x.1)
same_range absent (given y) v w r s e = run_mark e
same_range (given x) absent v w r s e = run_mark (sym e)
same_range (given x) (given y) v w r s e =
    let a = run_run x y _ _ (mark_mark 60 60 _ _ e).1 in
    let b = run_run v w r s (mark_mark 62 62 _ _ a.1).1 in
    (ap given a.0, b.0, b.1)

same_head : (h k : Heading) (a b : ℕ) (r s : List TextToken) → (a ≡ 91 → ⊥) → (b ≡ 91 → ⊥) → put_head h (mark a ∷ r) ≡ put_head k (mark b ∷ s) → (h ≡ k) × (a ≡ b) × (r ≡ s)
unfolding put_head
same_head (heading w g n c t p) (heading w1 g1 n1 c1 t1 p1) a b r s x y e =
    let e0 = run_run w w1 _ _ e in
    let e1 = same_range g g1 n n1 _ _ e0.1 in
    let e2 = same_card a b r s c c1 t t1 p p1 x y e1.2 in
    let e3 = same_tag a b r s t t1 p p1 e2.1 in
    let e4 = same_plugin a b r s p p1 e3.1 in
    let e5 = mark_mark a b r s e4.1 in
    (rw (e0.0, e1.0, e1.1, e2.0, e3.0, e4.0), e5.0, e5.1)

-- ---- trees, each in front of what may follow

unfoldable pub StartsMark : List TextToken → Type 0
StartsMark [] = ⊥
StartsMark (run w ∷ r) = ⊥
StartsMark (mark n ∷ r) = Unit {0}

unfoldable RunFirst : List TextToken → Type 0
RunFirst [] = ⊥
RunFirst (run w ∷ r) = Unit {0}
RunFirst (mark n ∷ r) = ⊥

param_first : (x : Form parameter) (r : List TextToken) → RunFirst (print_form x r)
unfolding print_form
param_first (plain (heading w g n c t p)) r = unfold put_head RunFirst in tt
param_first (compound (heading w g n c t p) f g1) r = unfold put_head RunFirst in tt

first_clash : {X : Type 0} (u v : List TextToken) → RunFirst u → StartsMark v → u ≡ v → X
unfolding RunFirst StartsMark
first_clash [] v h k e = absurd h
first_clash (mark n ∷ u) v h k e = absurd h
first_clash (run w ∷ u) [] h k e = absurd k
first_clash (run w ∷ u) (run y ∷ v) h k e = absurd k
first_clash (run w ∷ u) (mark n ∷ v) h k e = run_mark e

abbrev pub SameParam : Form parameter → Type 0
SameParam x = (y : Form parameter) (r s : List TextToken) → print_form x r ≡ print_form y s → (x ≡ y) × (r ≡ s)

abbrev pub SameFields : Form fields → Type 0
SameFields f = (g : Form fields) (r s : List TextToken) → StartsMark r → StartsMark s → print_form f r ≡ print_form g s → (f ≡ g) × (r ≡ s)

-- groups end at `}`
abbrev pub SameGroups : Form groups → Type 0
SameGroups f = (g : Form groups) (r s : List TextToken) → print_form f (mark 125 ∷ r) ≡ print_form g (mark 125 ∷ s) → (f ≡ g) × (r ≡ s)

no_59 : ◌≡◌ {A = ℕ} 59 91 → ⊥
no_59 e = omega arith

no_123 : ◌≡◌ {A = ℕ} 123 91 → ⊥
no_123 e = omega arith

group_mark : (g : Form groups) (r : List TextToken) → StartsMark (print_form g (mark 125 ∷ r))
unfolding print_form StartsMark
group_mark no_group r = tt
group_mark (group x f g) r = tt

same_plain : (h : Heading) → SameParam (plain h)
unfolding print_form
same_plain h (plain k) r s e = let x = same_head h k 59 59 r s no_59 no_59 e in (ap plain x.0, x.2)
same_plain h (compound k f g) r s e = let x = same_head h k 59 123 r _ no_59 no_123 e in absurd (omega (arith, x.1))

same_compound : (h : Heading) (f : Form fields) (g : Form groups) → SameFields f → SameGroups g → SameParam (compound h f g)
unfolding print_form
same_compound h f g F G (plain k) r s e = let x = same_head h k 123 59 _ s no_123 no_59 e in absurd (omega (arith, x.1))
same_compound h f g F G (compound k f1 g1) r s e =
    let x = same_head h k 123 123 _ _ no_123 no_123 e in
    let y = F f1 _ _ (group_mark g (mark 59 ∷ r)) (group_mark g1 (mark 59 ∷ s)) x.2 in
    let z = G g1 (mark 59 ∷ r) (mark 59 ∷ s) y.1 in
    (rw (x.0, y.0, z.0), (mark_mark 59 59 r s z.1).1)

same_nofield : SameFields no_field
unfolding print_form
same_nofield no_field r s h k e = (refl, e)
same_nofield (field x f) r s h k e = first_clash _ r (param_first x (print_form f s)) h (sym e)

same_field : (x : Form parameter) (f : Form fields) → SameParam x → SameFields f → SameFields (field x f)
unfolding print_form
same_field x f X F no_field r s h k e = first_clash _ s (param_first x (print_form f r)) k e
same_field x f X F (field y g) r s h k e =
    let a = X y _ _ e in
    let b = F g r s h k a.1 in
    (rw (a.0, b.0), b.1)

shut_mark : (r : List TextToken) → StartsMark (mark 93 ∷ r)
unfolding StartsMark
shut_mark r = tt

same_nogroup : SameGroups no_group
unfolding print_form
same_nogroup no_group r s e = (refl, (mark_mark 125 125 r s e).1)
same_nogroup (group x f g) r s e = let z = mark_mark 125 91 r _ e in absurd (omega (arith, z.0))

same_group : (x : Form parameter) (f : Form fields) (g : Form groups) → SameParam x → SameFields f → SameGroups g → SameGroups (group x f g)
unfolding print_form
same_group x f g X F G no_group r s e = let z = mark_mark 91 125 _ s e in absurd (omega (arith, z.0))
same_group x f g X F G (group y h k) r s e =
    let a = X y _ _ (mark_mark 91 91 _ _ e).1 in
    let b = F h _ _ (shut_mark _) (shut_mark _) a.1 in
    let c = G k r s (mark_mark 93 93 _ _ b.1).1 in
    (rw (a.0, b.0, c.0), c.1)

abbrev pub Same : {s : FormSort} → Form s → Type 0
Same {s = parameter} x = SameParam x
Same {s = fields} x = SameFields x
Same {s = groups} x = SameGroups x
Same {s = tops} x = (y : Form tops) → print_form x [] ≡ print_form y [] → x ≡ y

nil_first : {X : Type 0} (u : List TextToken) → RunFirst u → u ≡ [] → X
unfolding RunFirst
nil_first [] h e = absurd h
nil_first (run w ∷ u) h e = let z : ◌≡◌ {A = ℕ} 0 1 = cc in absurd (omega arith)
nil_first (mark n ∷ u) h e = absurd h

tops_first : (t : Form tops) → RunFirst (print_form t [])
unfolding print_form
tops_first (last_top x) = param_first x []
tops_first (more_tops x t) = param_first x (print_form t [])

same_last : (x : Form parameter) → SameParam x → Same (last_top x)
unfolding print_form
same_last x X (last_top y) e = ap last_top (X y [] [] e).0
same_last x X (more_tops y t) e = nil_first (print_form t []) (tops_first t) (sym (X y [] (print_form t []) e).1)

same_more : (x : Form parameter) (t : Form tops) → SameParam x → Same t → Same (more_tops x t)
unfolding print_form
same_more x t X T (last_top y) e = nil_first (print_form t []) (tops_first t) (X y (print_form t []) [] e).1
same_more x t X T (more_tops y u) e = let a = X y (print_form t []) (print_form u []) e in let b = T u a.1 in rw (a.0, b)

pub same_form : {s : FormSort} (x : Form s) → Same x
same_form (plain h) = same_plain h
same_form (compound h f g) = same_compound h f g (same_form f) (same_form g)
same_form no_field = same_nofield
same_form (field x f) = same_field x f (same_form x) (same_form f)
same_form no_group = same_nogroup
same_form (group x f g) = same_group x f g (same_form x) (same_form f) (same_form g)
same_form (last_top x) = same_last x (same_form x)
same_form (more_tops x t) = same_more x t (same_form x) (same_form t)

-- the tree is the only one
pub form_unique : (d e : Form tops) → print_form d [] ≡ print_form e [] → d ≡ e
form_unique d e q = same_form d e q
