use native.Mathlib.Omega.{arith}
use Rattle.table.proofs.Laws.{promised}
use Rattle.table.proofs.table_ok.Goals as goal

pub returns-then-table-le-FEW_BYTES-clause-compilable : goal.returns-then-table-le-FEW_BYTES-clause-compilable
returns-then-table-le-FEW_BYTES-clause-compilable c = (promised c.args.table.now _ (λ i. omega (arith, c.shared_slice_known-1.given i)) c.passes.ensures).1

pub returns-clause-compilable : goal.returns-clause-compilable
returns-clause-compilable c = (promised c.args.table.now _ (λ i. omega (arith, c.shared_slice_known-1.given i)) c.passes-2.ensures).1
