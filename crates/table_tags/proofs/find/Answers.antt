use mathlib.Core.Path.{sym, ap, ◌∙◌}
use Rattle.table_tags.specs.Search.{found_of}
use Rattle.table_tags.proofs.Searching.{searched_all, searched_from, searched_round}
use Rattle.table_tags.proofs.find.Goals as goal

pub returns-then-records-from : goal.returns-then-records-from
returns-then-records-from c = c.search.ensures ∙ searched_all c.args.records.now.table.now c.args.records.now.unpacked.now c.args.records.now.count c.args.p c.args.word.now c.requires

pub returns-in-Some : goal.returns-in-Some
returns-in-Some c = searched_from c.args.records.now.table.now c.args.records.now.unpacked.now c.args.records.now.count c.args.p c.args.word.now c.requires c.args.from _ (sym c.search-2.ensures ∙ ap found_of c.in-Some.is)

pub returns-in-None : goal.returns-in-None
returns-in-None c = c.search-in-None.ensures ∙ searched_round c.args.records.now.table.now c.args.records.now.unpacked.now c.args.records.now.count c.args.p c.args.word.now c.requires c.args.from c.if-records-from.false (sym c.search-2.ensures ∙ ap found_of c.in-None.is)
