use mathlib.Core.Path.{refl}
use native.Mathlib.Omega.{arith}
use Rattle.message_lookup.proofs.Marked.{marks_more}
use Rattle.std.specs.Prelude.{Ok}
use Rattle.std.proofs.lemmas.Result.{err_from_is_err_and}
use Rattle.message_reader.proofs.Steps.{items_none, item_void, item_passed, bodying_out, bodying_stopped, bodying_item, due_item, untagged_end}
use Rattle.message_reader.proofs.item.Goals as goal

pub overflow_add-f : goal.overflow_add-f
overflow_add-f c = let w = ((rw c.in-Void.is at c.in_ok-item_at.ensures) c.requires.marked.ks c.requires.marked.marks) in omega (arith, w.step.less, w.step.within, c.requires.room.short)

pub overflow_add-f-in-Void : goal.overflow_add-f-in-Void
overflow_add-f-in-Void c = let w = ((rw c.in-Void.is at c.in_ok-item_at.ensures) c.requires.marked.ks c.requires.marked.marks) in omega (arith, w.step.less, w.step.within, c.requires.room.short)

pub put_row-requires-clause-small : goal.put_row-requires-clause-small
put_row-requires-clause-small c = let w = ((rw c.in-Void.is at c.in_ok-item_at.ensures) c.requires.marked.ks c.requires.marked.marks) in omega (arith, w.step.less, w.step.within, w.below, c.requires.room)

pub overflow_add-result-in-Void : goal.overflow_add-result-in-Void
overflow_add-result-in-Void c = let w = ((rw c.in-Void.is at c.in_ok-item_at.ensures) c.requires.marked.ks c.requires.marked.marks) in omega (arith, w.below, c.requires.room.known)

pub returns-in-End : goal.returns-in-End
returns-in-End c = λ e before i. bodying_out i _ (Ok (record { past = record { at = c.args.f.at }; row = c.args.f.row })) (λ fuel. items_none _ _ c.args.f _ _ fuel i.seen ((rw c.in-End.is at c.in_ok-item_at.ensures) i.seen i.marked _ fuel) c.requires.room.here)

pub returns-in-Void : goal.returns-in-Void
returns-in-Void c = λ e before i. let w = (rw c.in-Void.is at c.in_ok-item_at.ensures) i.seen i.marked in bodying_item i _ _ _ _ (item_void _ _ _ c.args.f _ i.seen _ _ _ _ _ _ w (rw c.mark.ensures (marks_more _ i.seen _ (omega (arith, w.below, c.requires.room.known)) i.marked)) c.put_row.ensures)

pub returns-in-List : goal.returns-in-List
returns-in-List c = λ e before i. let w = (rw c.in-List.is at c.in_ok-item_at.ensures) i.seen i.marked in rw untagged_end (due_item i _ _ _ _ w (rw c.mark-in-List.ensures (marks_more _ i.seen _ (omega (arith, w.below, c.requires.room.known)) i.marked)))

pub returns-in-Unknown : goal.returns-in-Unknown
returns-in-Unknown c = λ e before i. bodying_item i _ _ _ _ (item_passed _ c.args.records.now.count _ c.args.f _ i.seen _ _ _ _ ((rw c.in-Unknown.is at c.in_ok-item_at.ensures) i.seen i.marked) i.marked refl)

pub returns-in_err-item_at : goal.returns-in_err-item_at
returns-in_err-item_at c = λ e before i.
    let p = err_from_is_err_and c.from_residual.result c.from_residual.ensures.1 in
    rw (p.1, p.2) (bodying_stopped i _ _ (λ fuel. c.in_err-item_at.ensures i.seen i.marked _ fuel))
