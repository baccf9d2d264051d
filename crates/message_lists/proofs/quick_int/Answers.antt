use native.Mathlib.Omega.{arith}
use Rattle.message_lists.proofs.Quicks.{quick_value, quick_on}
use Rattle.message_lists.proofs.quick_int.Goals as goal

pub int_row-requires-clause-end_bound : goal.int_row-requires-clause-end_bound
int_row-requires-clause-end_bound c = omega (arith, (rw c.in-Before.is at c.digits_at.ensures).counted.within, ((rw c.in-Before.is at c.digits_at.ensures).counted.first 0).less, c.requires.room)

pub returns-then-takes-f : goal.returns-then-takes-f
returns-then-takes-f c = quick_on _ c.args.s.now c.args.f _ (rw c.in-Some.is at c.requires.ints_of) _ _ _ _ c.takes.result (rw c.in-Before.is at c.digits_at.ensures) c.takes.ensures c.if-takes-f.true c.int_row.ensures

pub int_row-requires-then-takes-clause-end_bound : goal.int_row-requires-then-takes-clause-end_bound
int_row-requires-then-takes-clause-end_bound c = omega (arith, (rw c.in-Number.is at c.digits_at.ensures).within, ((rw c.in-Number.is at c.digits_at.ensures).first 0).less, c.requires.room)

pub returns-then-takes : goal.returns-then-takes
returns-then-takes c = quick_value _ c.args.s.now c.args.f _ (rw c.in-Some.is at c.requires.ints_of) _ _ _ _ (rw c.in-Number.is at c.digits_at.ensures) (c.takes-in-Number.ensures c.if-takes.true) c.int_row-then-takes.ensures
