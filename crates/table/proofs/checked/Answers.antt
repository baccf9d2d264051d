use mathlib.Core.Path.{◌≡◌, sym, ◌∙◌}
use mathlib.Core.Bool.{true}
use Rattle.numbers.specs.Limits.{parameter_limit}
use Rattle.table_rules.specs.RecordRules.{table_rules}
use Rattle.table_walk.specs.Walked.{Walked, RecordsCounted}
use Rattle.table.specs.Checks.{Checked}
use Rattle.table.proofs.Laws.{table_counted, table_bad, searchable}
use Rattle.table.proofs.checked.Goals as goal

pub returns-in_err-count : goal.returns-in_err-count
returns-in_err-count c = rw c.from_residual.ensures (unfold Checked Walked in (table_bad c.args.table.now (c.in_err-count.ensures c.requires)))

pub rules-requires : goal.rules-requires
unfolding Walked
rules-requires c =
    let w : RecordsCounted c.args.table.now c.unpack.new.unpacked c.in_ok-count.count = c.in_ok-count.ensures c.requires in
    (w.few, w.laid)

pub returns-then-rules : goal.returns-then-rules
unfolding Checked Walked
returns-then-rules c =
    let w : RecordsCounted c.args.table.now c.unpack.new.unpacked c.in_ok-count.count = c.in_ok-count.ensures c.requires in
    let k : table_rules parameter_limit c.args.table.now ≡ true = sym (c.rules.ensures ∙ table_counted c.args.table.now c.unpack.new.unpacked _ w) ∙ c.if-rules.true in
    record { kept = k; counted = w; searchable = searchable c.args.table.now c.unpack.new.unpacked _ k w }

pub returns : goal.returns
unfolding Checked Walked
returns c =
    let w : RecordsCounted c.args.table.now c.unpack.new.unpacked c.in_ok-count.count = c.in_ok-count.ensures c.requires in
    sym (c.rules.ensures ∙ table_counted c.args.table.now c.unpack.new.unpacked _ w) ∙ c.if-rules.false
