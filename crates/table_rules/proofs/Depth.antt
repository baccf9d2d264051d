-- Depth of what is printed.
use mathlib.Core.Path.{◌≡◌, refl, ap, subst, sym, ◌∙◌}
use mathlib.Core.Bool.{Bool, true, false, ◌&&◌}
use mathlib.Core.List.{List, [], ◌∷◌}
use Prim.Native.Nat.{ℕ, suc, ◌<◌}
use native.Mathlib.Omega.{arith}
use lib.ListN.{length}
use borrow.Author.Tests.{lt-ltb}
use Rattle.classes.specs.Lists.{pick}
use Rattle.definition_rules.specs.Words.{is_compound}
use Rattle.definition_rules.specs.Scan.{braces_after, TextToken, mark}
use Rattle.definition_rules.specs.Forms.{type_run, put_range, put_card, put_tag, put_plugin, put_head, MaybeRun, absent, given, Tag, own_name, tagless, explicit, Heading, heading}
use Rattle.reading_rules.specs.Record.{Up, top}
use Rattle.definition_rules.specs.Declarations.{Declaration, declaration, BodyMode, in_fields, group_opened, in_group, groups_closed, Frame, frame}
use Rattle.table_rules.specs.RecordRules.{is_open, closed_to, in_extension, push_if}
use Rattle.table_rules.proofs.Spelling.{roomy, nest}
use Rattle.table_rules.proofs.FlatPrint.{put_end_of, put_heading, pushed, put_close, put_closes, put_open, print_flat, Settled, InOrder, settled_tail, settled_closed, settled_next}

-- a table's structs and unions nest at most eight deep
unfoldable pub LowEnough : List Frame → ℕ → List Declaration → Type 0
LowEnough σ k [] = Unit {0}
LowEnough σ k (declaration u e h ∷ ds) = (is_compound (type_run h) ≡ true → length (closed_to u σ) < 8) × LowEnough (pushed (type_run h) k (in_extension e (closed_to u σ))) (suc k) ds

pub nest_range : (d : ℕ) (g : MaybeRun) (r : List TextToken) → nest d (put_range g r) ≡ nest d r
unfolding nest put_range roomy braces_after pick
nest_range d absent r = refl
nest_range d (given v) r = refl

pub nest_card : (d : ℕ) (g : MaybeRun) (r : List TextToken) → nest d (put_card g r) ≡ nest d r
unfolding nest put_card roomy braces_after pick
nest_card d absent r = refl
nest_card d (given v) r = refl

pub nest_tag : (d : ℕ) (t : Tag) (r : List TextToken) → nest d (put_tag t r) ≡ nest d r
unfolding nest put_tag roomy braces_after pick
nest_tag d own_name r = refl
nest_tag d tagless r = refl
nest_tag d (explicit v) r = refl

pub nest_plugin : (d : ℕ) (p : Bool) (r : List TextToken) → nest d (put_plugin p r) ≡ nest d r
unfolding nest put_plugin
nest_plugin d true r = refl
nest_plugin d false r = refl

open_len : (e : Bool) (σ : List Frame) → length (in_extension e σ) ≡ length σ
unfolding in_extension
open_len e [] = refl
open_len true (frame q m ∷ σ) = refl
open_len false (f ∷ σ) = refl

nest_end : (w : List ℕ) (k : ℕ) (σ : List Frame) (r : List TextToken) → (is_compound w ≡ true → length σ < 8) → nest (length σ) (mark (put_end_of (is_compound w)) ∷ r) ≡ nest (length (pushed w k σ)) r
unfolding pushed nest
nest_end w k σ r h = by (is_compound w) refl
  where
    by : (b : Bool) → is_compound w ≡ b → roomy (length σ) (put_end_of b) && nest (braces_after (length σ) (put_end_of b)) r ≡ nest (length (push_if b k σ)) r
    by true e = unfold roomy braces_after put_end_of pick push_if in (rw (lt-ltb (length σ) 8 (h e)))
    by false e = unfold roomy braces_after put_end_of pick push_if in refl

nest_heading : (h : Heading) (k : ℕ) (σ : List Frame) (r : List TextToken) → (is_compound (type_run h) ≡ true → length σ < 8) → nest (length σ) (put_heading h r) ≡ nest (length (pushed (type_run h) k σ)) r
unfolding put_heading put_head type_run nest
nest_heading (heading w g n c t p) k σ r h = nest_range (length σ) g _ ∙ (nest_card (length σ) c _ ∙ (nest_tag (length σ) t _ ∙ (nest_plugin (length σ) p _ ∙ nest_end w k σ r h)))

nest_closing : (m : BodyMode) (d : ℕ) (r : List TextToken) → (m ≡ group_opened → ⊥) → nest (suc d) (put_close m r) ≡ nest d r
unfolding nest put_close roomy braces_after pick
nest_closing in_fields d r h = ap (λ x. nest x r) (omega arith)
nest_closing group_opened d r h = absurd (h refl)
nest_closing in_group d r h = ap (λ x. nest x r) (omega arith)
nest_closing groups_closed d r h = ap (λ x. nest x r) (omega arith)

nest_closings : (u : Up) (σ : List Frame) (r : List TextToken) → Settled σ → nest (length σ) (put_closes u σ r) ≡ nest (length (closed_to u σ)) r
unfolding put_closes closed_to
nest_closings u [] r h = refl
nest_closings u (frame q m ∷ σ) r h = by (is_open u q) (nest_closing m (length σ) (put_closes u σ r) (ng m h) ∙ nest_closings u σ r (settled_tail q m σ h))
  where
    ng : (m : BodyMode) → Settled (frame q m ∷ σ) → m ≡ group_opened → ⊥
    ng m h e = unfold Settled in (subst (λ x. Settled (frame q x ∷ σ)) e h)

    by : (b : Bool) → nest (suc (length σ)) (put_close m (put_closes u σ r)) ≡ nest (length (closed_to u σ)) r → nest (suc (length σ)) (pick b r (put_close m (put_closes u σ r))) ≡ nest (length (pick b (frame q m ∷ σ) (closed_to u σ))) r
    by true e = unfold pick in refl
    by false e = unfold pick in e

nest_opening : (e : Bool) (σ : List Frame) (d : ℕ) (r : List TextToken) → nest d (put_open e σ r) ≡ nest d r
unfolding put_open nest roomy braces_after pick
nest_opening e [] d r = refl
nest_opening true (frame q in_fields ∷ σ) d r = refl
nest_opening true (frame q group_opened ∷ σ) d r = refl
nest_opening true (frame q in_group ∷ σ) d r = refl
nest_opening true (frame q groups_closed ∷ σ) d r = refl
nest_opening false (f ∷ σ) d r = refl

pub nest_print : (ds : List Declaration) (σ : List Frame) (k : ℕ) → Settled σ → InOrder σ k ds → LowEnough σ k ds → nest (length σ) (print_flat σ k ds) ≡ true
unfolding print_flat InOrder LowEnough
nest_print [] σ k c p l = nest_closings top σ [] c ∙ (unfold nest in refl)
nest_print (declaration u e h ∷ ds) σ k c p l =
    let ρ = closed_to u σ in
    let τ = pushed (type_run h) k (in_extension e ρ) in
    let r = print_flat τ (suc k) ds in
    nest_closings u σ (put_open e ρ (put_heading h r)) c ∙ (nest_opening e ρ (length ρ) (put_heading h r) ∙ (ap (λ x. nest x (put_heading h r)) (sym (open_len e ρ)) ∙ (nest_heading h k (in_extension e ρ) r (λ z. rw (open_len e ρ) (l.0 z)) ∙ nest_print ds τ (suc k) (settled_next ρ k e h (settled_closed u σ c)) p.2 l.1)))
