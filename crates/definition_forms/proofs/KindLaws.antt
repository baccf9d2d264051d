-- What a run's number says of the run.
use mathlib.Core.Path.{◌≡◌, refl, sym, subst, ◌∙◌}
use Rattle.std.specs.Prelude.{Option, Some, None}
use Rattle.std.specs.Option.{is_some}
use mathlib.Core.Bool.{Bool, true, false, not, ◌&&◌, false≢true}
use mathlib.Core.List.{List, []}
use Prim.Native.Nat.{ℕ, ◌≤◌, ◌<◌}
use native.Mathlib.Omega.{arith}
use lib.Dec.{eqb, leb, ltb}
use borrow.Author.Tests.{eqb-true, eqb-false, ne_eqb, lt-leb, le-leb, leb-true, ltb-true, ltb-false}
use Rattle.classes.proofs.Rows.{same_true}
use Rattle.classes.specs.Lists.{pick, same_bytes}
use Rattle.classes.specs.Bytes.{is_mark}
use Rattle.definition_rules.specs.Words.{kw_as, kw_plugin, number_if, number_in, kind_of_run, takes_range, is_compound, is_reference}
use Rattle.definition_words.proofs.WordLaws.{same_sym}
use Rattle.definition_automaton.specs.Acts.{type_kind, run_kind}
use Rattle.definition_automaton.specs.Codes.{token_number, act_number, answer_number}
use Rattle.definition_automaton.specs.declared.Action.{Action}
use Rattle.definition_automaton.specs.declared.Action.TheVariants.{TakeType, OpenRange, TakeRange, CloseRange, TakeName, OpenCard, TakeCard, CloseCard, TakeAs, TakeTag, TakeNoTag, TakePlugin, EndHeading, OpenBody, CloseBody, EndBody, OpenGroup, CloseGroup, TakeNameAfterRange}
use Rattle.definition_automaton.specs.declared.Token.{Token}
use Rattle.definition_automaton.specs.declared.Token.TheVariants.{End, Bad, Semicolon, RangeOpens, RangeCloses, Question, BracketOpens, BracketCloses, BraceOpens, BraceCloses, RangedType, SimpleType, CompoundType, Reference, As, Plugin}
use Rattle.definition_automaton.proofs.StepLaws.{KindFacts}
use Rattle.definition_rules.proofs.RunLaws.{kind_le}

-- the parts that depend on the kind alone
record TypeFacts (k n : ℕ) : Type 0 where
  range : (leb 3 k && leb k 5) ≡ eqb n 256
  compound : (leb 8 k && leb k 9) ≡ eqb n 258
  reference : eqb k 10 ≡ not (ltb n 259)
  least : 256 ≤ n
  small : n < 260

type_facts : (k : ℕ) → k ≤ 10 → TypeFacts k (type_kind k)
unfolding type_kind pick
type_facts k h = go (eqb k 10) (leb 8 k) (ltb k 3) (leb k 5) refl refl refl refl
  where
    go : (a b c d : Bool) → eqb k 10 ≡ a → leb 8 k ≡ b → ltb k 3 ≡ c → leb k 5 ≡ d → TypeFacts k (pick a 259 (pick b 258 (pick c 257 (pick d 256 257))))
    go true b c d e f g i = let z : k ≡ 10 = eqb-true k 10 e in rw z (record { range = refl; compound = refl; reference = refl; least = omega arith; small = omega arith })
    go false true c d e f g i =
        let l = leb-true 8 k f in
        let n = eqb-false k 10 e in
        record { range = rw (le-leb 3 k (omega arith), lt-leb k 5 (omega arith)); compound = rw (f, le-leb k 9 (omega arith)); reference = e; least = omega arith; small = omega arith }
    go false false true d e f g i =
        let l = ltb-true k 3 g in
        record { range = rw (lt-leb 3 k l); compound = rw f; reference = e; least = omega arith; small = omega arith }
    go false false false true e f g i =
        let l = ltb-false k 3 g in
        record { range = rw (le-leb 3 k l, i); compound = rw f; reference = e; least = omega arith; small = omega arith }
    go false false false false e f g i =
        let l = ltb-false k 3 g in
        record { range = rw (le-leb 3 k l, i); compound = rw f; reference = e; least = omega arith; small = omega arith }

as_facts : KindFacts kw_as 260
unfolding takes_range is_compound is_reference kind_of_run number_in number_if same_bytes
as_facts = record { range = refl; compound = refl; reference = refl; named = refl; plug = refl; least = omega arith }

plugin_facts : KindFacts kw_plugin 261
unfolding takes_range is_compound is_reference kind_of_run number_in number_if same_bytes
plugin_facts = record { range = refl; compound = refl; reference = refl; named = refl; plug = refl; least = omega arith }

pub kind_facts : (w : List ℕ) → KindFacts w (run_kind w)
unfolding run_kind pick
kind_facts w = go (same_bytes kw_as w) (same_bytes kw_plugin w) refl refl
  where
    go : (a b : Bool) → same_bytes kw_as w ≡ a → same_bytes kw_plugin w ≡ b → KindFacts w (pick a 260 (pick b 261 (type_kind (kind_of_run w))))
    go true b e f = subst (λ v. KindFacts v 260) (same_true kw_as w e) as_facts
    go false true e f = subst (λ v. KindFacts v 261) (same_true kw_plugin w f) plugin_facts
    go false false e f =
        let t = type_facts (kind_of_run w) (kind_le w) in
        record {
          range = unfold takes_range in t.range;
          compound = unfold is_compound in t.compound;
          reference = unfold is_reference in t.reference;
          named = same_sym w kw_as ∙ (e ∙ sym (ne_eqb (type_kind (kind_of_run w)) 260 (λ q. omega (arith, t.small))));
          plug = same_sym w kw_plugin ∙ (f ∙ sym (ne_eqb (type_kind (kind_of_run w)) 261 (λ q. omega (arith, t.small))));
          least = t.least;
        }

pub mark_some : (b : ℕ) → is_mark b ≡ true → b ≡ 0 → ⊥
unfolding is_mark
mark_some b h e = let n : false ≡ true = rw e at h in cc

-- no run: the empty one
pub none_kind : run_kind [] ≡ 259
unfolding run_kind type_kind pick kind_of_run number_in number_if same_bytes
none_kind = refl

-- only the end's number is 0
pub end_is : (t : Token) → token_number t ≡ 0 → t ≡ End
end_is End e = refl
end_is Bad e = absurd (omega arith)
end_is Semicolon e = absurd (omega arith)
end_is RangeOpens e = absurd (omega arith)
end_is RangeCloses e = absurd (omega arith)
end_is Question e = absurd (omega arith)
end_is BracketOpens e = absurd (omega arith)
end_is BracketCloses e = absurd (omega arith)
end_is BraceOpens e = absurd (omega arith)
end_is BraceCloses e = absurd (omega arith)
end_is RangedType e = absurd (omega arith)
end_is SimpleType e = absurd (omega arith)
end_is CompoundType e = absurd (omega arith)
end_is Reference e = absurd (omega arith)
end_is As e = absurd (omega arith)
end_is Plugin e = absurd (omega arith)

-- no act's number is that of none
pub some_act : (a : Action) → act_number a ≡ 0 → ⊥
some_act TakeType e = absurd (omega arith)
some_act OpenRange e = absurd (omega arith)
some_act TakeRange e = absurd (omega arith)
some_act CloseRange e = absurd (omega arith)
some_act TakeName e = absurd (omega arith)
some_act OpenCard e = absurd (omega arith)
some_act TakeCard e = absurd (omega arith)
some_act CloseCard e = absurd (omega arith)
some_act TakeAs e = absurd (omega arith)
some_act TakeTag e = absurd (omega arith)
some_act TakeNoTag e = absurd (omega arith)
some_act TakePlugin e = absurd (omega arith)
some_act EndHeading e = absurd (omega arith)
some_act OpenBody e = absurd (omega arith)
some_act CloseBody e = absurd (omega arith)
some_act EndBody e = absurd (omega arith)
some_act OpenGroup e = absurd (omega arith)
some_act CloseGroup e = absurd (omega arith)
some_act TakeNameAfterRange e = absurd (omega arith)

-- an answer that is none has the number 0, and no other has
pub no_act : (a : Option Action) → is_some a ≡ false → answer_number a ≡ 0
no_act None e = refl
no_act (Some a) e = absurd (false≢true (sym e))

pub an_act : (a : Option Action) → is_some a ≡ true → answer_number a ≡ 0 → ⊥
an_act None e = absurd (false≢true e)
an_act (Some a) e = some_act a
