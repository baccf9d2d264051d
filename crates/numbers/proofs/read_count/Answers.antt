use mathlib.Core.Path.{sym}
use Rattle.numbers.proofs.Ranges.{count_over, count_answer}
use Rattle.numbers.proofs.read_count.Goals as goal

pub returns-then-n-gt-COUNT_MOST : goal.returns-then-n-gt-COUNT_MOST
returns-then-n-gt-COUNT_MOST c = sym (count_over c.args.w.now _ c.number_from-n.ensures c.if-n-gt-COUNT_MOST.true)

pub returns : goal.returns
returns c = rw (c.then_some.ensures, c.is_natural.ensures) (count_answer c.args.w.now _ c.number_from-n.ensures c.if-n-gt-COUNT_MOST.false)
