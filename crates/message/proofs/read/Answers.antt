use native.Mathlib.Omega.{arith}
use Rattle.message.proofs.Top.{promised}
use Rattle.message.proofs.read.Goals as goal

pub returns-then-table-le-FEW_BYTES-clause-read_promise : goal.returns-then-table-le-FEW_BYTES-clause-read_promise
returns-then-table-le-FEW_BYTES-clause-read_promise c = (promised c.args.table.now c.args.message.now c.args.rows.now _ _ (λ i. omega (arith, c.shared_slice_known-1.given i)) (c.read_with.ensures.result_value, c.read_with.ensures.rows_after)).1.1

pub returns-clause-read_promise : goal.returns-clause-read_promise
returns-clause-read_promise c = (promised c.args.table.now c.args.message.now c.args.rows.now _ _ (λ i. omega (arith, c.shared_slice_known-1.given i)) (c.read_with-2.ensures.result_value, c.read_with-2.ensures.rows_after)).1.1
