use Prim.Native.Nat.{◌-◌}
use mathlib.Core.Path.{sym, ◌∙◌}
use Rattle.reading_rules.specs.Schema.{is_untagged_of}
use Rattle.message_lookup.proofs.Steps.{search_hit, search_more, search_end, search_starts}
use Rattle.message_lookup.proofs.next_untagged.Goals as goal

pub loop-at-init : goal.loop-at-init
loop-at-init c = search_starts _ _ _ (is_untagged_of c.args.p) c.args.i

pub returns-then-is_untagged_of : goal.returns-then-is_untagged_of
returns-then-is_untagged_of c = sym (search_hit _ _ _ (is_untagged_of c.args.p) c.loop-at.at c.loop-at-test.true (sym c.is_untagged_of.ensures ∙ c.if-is_untagged_of.true)) ∙ c.loop-at.invariant

pub loop-at-preserved : goal.loop-at-preserved
loop-at-preserved c = sym (search_more _ _ _ (is_untagged_of c.args.p) c.loop-at.at c.loop-at-test.true (sym c.is_untagged_of.ensures ∙ c.if-is_untagged_of.false)) ∙ c.loop-at.invariant

pub returns : goal.returns
returns c = sym (search_end _ _ _ (is_untagged_of c.args.p) c.loop-at.at c.loop-at-test.false) ∙ c.loop-at.invariant
