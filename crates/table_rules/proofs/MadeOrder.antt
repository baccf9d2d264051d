-- Declarations made of records stand in order.
use mathlib.Core.Path.{◌≡◌, refl, sym}
use mathlib.Core.Bool.{Bool, true, false, not, ◌&&◌, ◌||◌}
use mathlib.Core.List.{List, [], ◌∷◌}
use Prim.Native.Nat.{ℕ, suc}
use lib.Dec.{ltb}
use lib.ListN.{length}
use borrow.Author.Tests.{not-true, ltb-true}
use Rattle.classes.proofs.Bools.{clash_bool, both_true}
use Rattle.numbers.specs.Limits.{depth_limit}
use Rattle.classes.specs.Lists.{pick, All}
use Rattle.definition_rules.specs.Words.{kind_of_run, kind_takes_range, kind_is_compound, takes_range, is_compound, is_reference}
use Rattle.definition_rules.specs.Forms.{type_run, RangeAllowed, HeadAllowed, MaybeRun, absent, given, heading, top_level}
use Rattle.reading_rules.specs.Record.{top, Record, same_up}
use Rattle.definition_rules.specs.Declarations.{parent_of, in_fields, group_opened, in_group, groups_closed, Frame, frame}
use Rattle.table_rules.specs.RecordRules.{closed_to, in_extension, push_if, may_stand, stands_in, ordered, is_single_value, top_fine}
use Rattle.table_rules.proofs.FreshNames.{fresh}
use Rattle.table_rules.proofs.FlatPrint.{pushed, FitsOn, InOrder}
use Rattle.table_rules.proofs.Witness.{write_range, type_for, shows, tag_for, card_for, range_for, DistinctTops, declaration_for, SoundRecord, RecordOk, type_kind_lem, declarations_for}
use Rattle.table_rules.proofs.Depth.{LowEnough}
use Rattle.table_rules.proofs.FaultLaws.{up_true}
use Rattle.table_rules.proofs.RuleFacts.{flag_of}

and3 : (a b c : Bool) → a && (b && c) ≡ true → (a ≡ true) × (b ≡ true) × (c ≡ true)
and3 a b c e = let x = both_true a (b && c) e in let y = both_true b c x.1 in (x.0, y.0, y.1)

range_allowed : (k a b : ℕ) (w : List ℕ) → kind_of_run w ≡ k → RangeAllowed w (range_for k a b)
unfolding range_for
range_allowed k a b w e = by (kind_takes_range k) refl
  where
    by : (r : Bool) → kind_takes_range k ≡ r → RangeAllowed w (pick r (given (write_range a b)) absent)
    by true q = unfold pick RangeAllowed takes_range in (rw e (unfold kind_takes_range in q))
    by false q = unfold pick RangeAllowed in tt

module _ (T : List MaybeRun) (A : ℕ → Bool) (q : ℕ) (o : DistinctTops T) where
  compound_made : (r : Record) → SoundRecord T A r → is_compound (type_for T r.kind r.target) ≡ kind_is_compound r.kind
  unfolding is_compound kind_is_compound
  compound_made r s = rw (type_kind_lem T A r o s)

  fits_top : (i : ℕ) (r : Record) → RecordOk T A r → top_fine r ≡ true → r.parent ≡ top → HeadAllowed top_level (heading (type_for T r.kind r.target) (range_for r.kind r.least r.most) (pick (shows r.parent r.untagged) r.label (fresh q i)) (card_for (is_single_value A r.parent) r.lo_count r.hi_count) (tag_for r.parent r.untagged r.label) r.plugin)
  unfolding HeadAllowed
  fits_top i r s f e =
      let x = flag_of r f e in (
        unfold is_reference in (rw (type_kind_lem T A r o s.0) x.2),
        range_allowed r.kind r.least r.most (type_for T r.kind r.target) (type_kind_lem T A r o s.0),
        rw e (unfold is_single_value card_for in refl),
        rw e (unfold tag_for in refl),
        x.1,
      )

  fits_made : (σ : List Frame) (i : ℕ) (r : Record) → RecordOk T A r → top_fine r ≡ true → parent_of σ ≡ r.parent → may_stand σ r.extension ≡ true → FitsOn σ r.extension (heading (type_for T r.kind r.target) (range_for r.kind r.least r.most) (pick (shows r.parent r.untagged) r.label (fresh q i)) (card_for (is_single_value A r.parent) r.lo_count r.hi_count) (tag_for r.parent r.untagged r.label) r.plugin)
  unfolding FitsOn may_stand parent_of
  fits_made [] i r s f e m = (not-true r.extension m, fits_top i r s f (sym e))
  fits_made (frame p in_fields ∷ σ) i r s f e m = unfold HeadAllowed in (range_allowed r.kind r.least r.most (type_for T r.kind r.target) (type_kind_lem T A r o s.0))
  fits_made (frame p group_opened ∷ σ) i r s f e m = clash_bool m
  fits_made (frame p in_group ∷ σ) i r s f e m = (m, unfold HeadAllowed in (range_allowed r.kind r.least r.most (type_for T r.kind r.target) (type_kind_lem T A r o s.0)))
  fits_made (frame p groups_closed ∷ σ) i r s f e m = clash_bool m

  pub order_made : (rs : List Record) (σ : List Frame) (i : ℕ) → ordered σ i rs ≡ true → All (RecordOk T A) rs → All (λ r. top_fine r ≡ true) rs → InOrder σ i (declarations_for T A q i rs) × LowEnough σ i (declarations_for T A q i rs)
  unfolding ordered declarations_for declaration_for InOrder LowEnough All pushed type_run
  order_made [] σ i e s f = (tt, tt)
  order_made (r ∷ rs) σ i e s f =
      let ρ = closed_to r.parent σ in
      let x = both_true (stands_in ρ r) _ e in
      let y = and3 (same_up (parent_of ρ) r.parent) (may_stand ρ r.extension) (not (kind_is_compound r.kind) || ltb (length ρ) depth_limit) (unfold stands_in in x.0) in
      let p = up_true (parent_of ρ) r.parent y.0 in
      let c = compound_made r s.0.0 in
      let z = order_made rs (push_if (kind_is_compound r.kind) i (in_extension r.extension ρ)) (suc i) x.1 s.1 f.1 in
      rw c ((p, fits_made ρ i r s.0 f.0 p y.1, z.0), ((λ k. ltb-true (length ρ) depth_limit (room (kind_is_compound r.kind) (ltb (length ρ) depth_limit) y.2 k)), z.1))
    where
      room : (a b : Bool) → not a || b ≡ true → a ≡ true → b ≡ true
      room true b e k = e
      room false b e k = clash_bool k
