use mathlib.Core.Path.{sym, ◌∙◌}
use native.Mathlib.Omega.{arith}
use Rattle.table_records.specs.Shown.{held_records}
use Rattle.table.proofs.Laws.{checks_broken, checks_repeated, checks_structs, checks_finite}
use Rattle.table.proofs.checks_fine.Goals as goal

pub returns-then-not-none_broken : goal.returns-then-not-none_broken
returns-then-not-none_broken c = λ w. sym (checks_broken (held_records c.args.records.now) (sym c.none_broken.ensures ∙ c.if-not-none_broken.true))

pub returns-then-not-tags_once : goal.returns-then-not-tags_once
returns-then-not-tags_once c = λ w. sym (checks_repeated (held_records c.args.records.now) (sym c.none_broken.ensures ∙ c.if-not-none_broken.false) (sym c.tags_once.ensures ∙ c.if-not-tags_once.true))

pub returns-then-only_structs : goal.returns-then-only_structs
returns-then-only_structs c = λ w. sym (checks_structs (held_records c.args.records.now) (sym c.none_broken.ensures ∙ c.if-not-none_broken.false) (sym c.tags_once.ensures ∙ c.if-not-tags_once.false) (c.only_structs.ensures w c.if-only_structs.true))

pub returns : goal.returns
returns c = λ w. c.none_endless.ensures ∙ checks_finite (held_records c.args.records.now) _ (sym c.none_broken.ensures ∙ c.if-not-none_broken.false) (sym c.tags_once.ensures ∙ c.if-not-tags_once.false) (c.finites.ensures w (omega (arith, c.requires.0)) (omega (arith, c.requires.0)))
