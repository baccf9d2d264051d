use Rattle.std.proofs.Common.{rules}
use borrow.Author.Tests.{tests, le-leb, lt-leb}
use mathlib.Core.Bool.{not}
use Rattle.classes.specs.Lists.{every}
use Rattle.classes.specs.Bytes.{is_name_byte}
use Rattle.classes.proofs.Chains.{every_from_all}
use Rattle.definition_rules.specs.Words.{name_form, starts_with_letter, is_keyword}
use Rattle.definition_words.proofs.WordLaws.{third_holds, third_fails}
use Rattle.definition_words.proofs.name_form.Goals as goal

pub returns-then-is_short : goal.returns-then-is_short
unfolding name_form
returns-then-is_short c = rw (c.starts_with_letter.ensures, c.is_keyword.ensures, every_from_all is_name_byte c.args.w.now _ _ _ c.all.ensures.ran (cc) (λ x b q k. search (rules, tests)), le-leb _ _ c.if-is_short.true) (third_holds (starts_with_letter c.args.w.now) (every is_name_byte c.args.w.now) (not (is_keyword c.args.w.now)))

pub returns-else-is_short : goal.returns-else-is_short
unfolding name_form
returns-else-is_short c = rw (lt-leb _ _ c.if-is_short.false) (third_fails (starts_with_letter c.args.w.now) (every is_name_byte c.args.w.now) (not (is_keyword c.args.w.now)))
