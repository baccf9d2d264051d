use Rattle.std.specs.Prelude.{Ok, Err}
use Rattle.std.proofs.lemmas.Result.{err_from_is_err_and}
use Rattle.message_unknown.proofs.Steps.{listed_start, listed_on, listed_out, list_more, list_last, list_refused}
use Rattle.message_unknown.proofs.list.Goals as goal

pub loop-past-init : goal.loop-past-init
loop-past-init c = listed_start _ _ _

pub returns-in_err-past : goal.returns-in_err-past
returns-in_err-past c =
    let p = err_from_is_err_and c.from_residual.result c.from_residual.ensures.1 in
    rw (p.1, p.2) (listed_out c.args.base c.args.s.now _ _ (Err c.in_err-past.field-0.0) c.loop-past.invariant (list_refused c.args.base c.args.s.now _ _ _ c.in_err-past.ensures))

pub loop-past-preserved : goal.loop-past-preserved
loop-past-preserved c = listed_on _ _ _ _ _ c.loop-past.invariant (list_more c.args.base c.args.s.now _ c.in_ok-past.past c.in_ok-past.ensures c.head-h.result (c.head-h.ensures _) c.in-Comma.is)

pub returns-in_default : goal.returns-in_default
returns-in_default c = listed_out c.args.base c.args.s.now _ _ (Ok c.in_ok-past.past) c.loop-past.invariant (list_last c.args.base c.args.s.now _ c.in_ok-past.past c.in_ok-past.ensures c.head-h.result (c.head-h.ensures _) c.in_default.not-Comma)
