use Rattle.std.proofs.Common.{rules}
use borrow.Author.Tests.{tests}
use Rattle.std.proofs.lemmas.Iterator.{first_from_Range}
use Rattle.std.proofs.Common.{◌≡◌, true, false}
use Rattle.definition_headings.specs.Heads.{is_named_at}
use Rattle.definition_headings.proofs.HeadLaws.{first_top}
use Rattle.definition_headings.proofs.find_top.Goals as goal

pub returns : goal.returns
returns c = first_top c.args.noted.now.text.now c.args.noted.now.cells.now c.args.noted.now.count c.args.w.now _
    (first_from_Range _ _ _ _ (λ j. is_named_at c.args.noted.now.text.now c.args.noted.now.cells.now j c.args.w.now ≡ true) (λ j. is_named_at c.args.noted.now.text.now c.args.noted.now.cells.now j c.args.w.now ≡ false) c.find.ensures.ran (λ x q k. search (rules, tests)) (λ x q k. search (rules, tests)))
