use Rattle.std.proofs.lemmas.Result.{err_from_is_err_and}
use Rattle.message_unknown.proofs.Steps.{part_past, part_refused}
use Rattle.message_unknown.proofs.braces_at.Goals as goal

pub returns-in_err-v : goal.returns-in_err-v
returns-in_err-v c =
    let p = err_from_is_err_and c.from_residual.result c.from_residual.ensures.1 in
    rw (p.1, p.2) (part_refused c.args.base c.args.s.now c.args.past.at c.requires.1 _ _ c.in_err-v.ensures)

pub returns : goal.returns
returns c = part_past c.args.base c.args.s.now c.args.past.at c.requires.1 c.in_ok-v.v c.in_ok-v.ensures
