use Rattle.std.proofs.Common.{rules}
use borrow.Author.Tests.{tests}
use lib.Dec.{eqb}
use Rattle.classes.proofs.Chains.{every_from_all}
use Rattle.test_frames.proofs.numbers_kept.Goals as goal

pub returns : goal.returns
returns c = every_from_all (λ n. eqb n 0xA5A5A5A5) _ _ _ _ c.all.ensures.ran (cc) (λ x b q k. search (rules, tests))
