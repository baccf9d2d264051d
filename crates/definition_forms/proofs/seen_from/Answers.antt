use Rattle.definition_forms.proofs.Seeing.{sees_run, sees_mark, sees_bad, sees_end, mark_at}
use Rattle.definition_forms.proofs.seen_from.Goals as goal

pub mark_token-requires : goal.mark_token-requires
mark_token-requires c = mark_at _ _ _ _ _ _ c.next.ensures c.in-Mark.is

pub returns-in-Run : goal.returns-in-Run
returns-in-Run c = sees_run _ _ _ _ _ _ _ c.next.ensures c.in-Run.is c.part.ensures c.run_token.ensures

pub returns-in-Mark : goal.returns-in-Mark
returns-in-Mark c = sees_mark _ _ _ _ _ _ _ c.next.ensures c.in-Mark.is c.mark_token.ensures

pub returns-in-Bad : goal.returns-in-Bad
returns-in-Bad c = sees_bad _ _ _ _ c.next.ensures c.in-Bad.is

pub returns-in-End : goal.returns-in-End
returns-in-End c = sees_end _ _ _ c.next.ensures c.in-End.is
