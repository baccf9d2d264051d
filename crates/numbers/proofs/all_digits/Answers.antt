use Rattle.std.proofs.Common.{rules}
use borrow.Author.Tests.{tests}
use Rattle.classes.specs.Bytes.{is_digit}
use Rattle.classes.proofs.Chains.{every_from_all}
use Rattle.numbers.proofs.all_digits.Goals as goal

pub returns : goal.returns
returns c = every_from_all is_digit _ _ _ _ c.all.ensures.ran (cc) (λ x b q k. search (rules, tests))
