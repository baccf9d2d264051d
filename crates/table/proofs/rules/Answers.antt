use mathlib.Core.Path.{sym, ◌∙◌}
use Rattle.table_rules.specs.RecordRules.{record_rules}
use Rattle.table_rules.proofs.TextRules.{ordered_after_parents}
use Rattle.table_records.specs.Shown.{held_records}
use Rattle.table.proofs.Laws.{some_few, rules_none}
use Rattle.table.proofs.rules.Goals as goal

pub returns-then-records-eq0 : goal.returns-then-records-eq0
returns-then-records-eq0 c = sym (rules_none c.args.records.now.table.now c.args.records.now.unpacked.now c.args.records.now.count c.if-records-eq0.true)

pub returns-then-not-ordered : goal.returns-then-not-ordered
unfolding record_rules
returns-then-not-ordered c = rw ((some_few c.args.records.now.table.now c.args.records.now.unpacked.now c.args.records.now.count c.if-records-eq0.false c.requires.0).0, (some_few c.args.records.now.table.now c.args.records.now.unpacked.now c.args.records.now.count c.if-records-eq0.false c.requires.0).1, sym c.ordered.ensures ∙ c.if-not-ordered.true)

pub returns-then-not-every_fine : goal.returns-then-not-every_fine
unfolding record_rules
returns-then-not-every_fine c = rw ((some_few c.args.records.now.table.now c.args.records.now.unpacked.now c.args.records.now.count c.if-records-eq0.false c.requires.0).0, (some_few c.args.records.now.table.now c.args.records.now.unpacked.now c.args.records.now.count c.if-records-eq0.false c.requires.0).1, sym c.ordered.ensures ∙ c.if-not-ordered.false, sym c.every_fine.ensures ∙ c.if-not-every_fine.true)

pub returns-then-not-all_new : goal.returns-then-not-all_new
unfolding record_rules
returns-then-not-all_new c = rw ((some_few c.args.records.now.table.now c.args.records.now.unpacked.now c.args.records.now.count c.if-records-eq0.false c.requires.0).0, (some_few c.args.records.now.table.now c.args.records.now.unpacked.now c.args.records.now.count c.if-records-eq0.false c.requires.0).1, sym c.ordered.ensures ∙ c.if-not-ordered.false, sym c.every_fine.ensures ∙ c.if-not-every_fine.false, sym c.all_new.ensures ∙ c.if-not-all_new.true)

pub returns : goal.returns
unfolding record_rules
returns c = rw ((some_few c.args.records.now.table.now c.args.records.now.unpacked.now c.args.records.now.count c.if-records-eq0.false c.requires.0).0, (some_few c.args.records.now.table.now c.args.records.now.unpacked.now c.args.records.now.count c.if-records-eq0.false c.requires.0).1, sym c.ordered.ensures ∙ c.if-not-ordered.false, sym c.every_fine.ensures ∙ c.if-not-every_fine.false, sym c.all_new.ensures ∙ c.if-not-all_new.false) (c.checks_fine.ensures (ordered_after_parents (held_records c.args.records.now) (sym c.ordered.ensures ∙ c.if-not-ordered.false)))
