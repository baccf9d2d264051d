use mathlib.Core.List.{[]}
use Rattle.std.proofs.lemmas.Result.{err_from_is_err_and}
use Rattle.message.proofs.Passes.{counted, refused_at}
use Rattle.message.proofs.count.Goals as goal

pub returns-clause-rows_counted : goal.returns-clause-rows_counted
returns-clause-rows_counted c = counted _ _ _ _ _ _ c.in_ok-done.done (rw c.root.ensures at c.in_ok-done.ensures)

pub returns-in_err-done-clause-rows_counted : goal.returns-in_err-done-clause-rows_counted
returns-in_err-done-clause-rows_counted c =
    let p = err_from_is_err_and c.from_residual.result c.from_residual.ensures.1 in
    rw (p.1, p.2) (refused_at _ _ _ _ [] [] _ _ (rw c.root.ensures at c.in_err-done.ensures))
