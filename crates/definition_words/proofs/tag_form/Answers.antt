use Rattle.std.proofs.Common.{rules}
use borrow.Author.Tests.{tests}
use Rattle.classes.specs.Bytes.{is_tag_byte}
use Rattle.classes.proofs.Chains.{every_from_all}
use Rattle.definition_rules.specs.Words.{tag_form}
use Rattle.definition_words.proofs.WordLaws.{some_bytes}
use Rattle.definition_words.proofs.tag_form.Goals as goal

pub returns : goal.returns
unfolding tag_form
returns c = rw (some_bytes c.args.w.now, every_from_all is_tag_byte c.args.w.now _ _ _ c.all.ensures.ran (cc) (λ x b q k. search (rules, tests)))
