use Rattle.message_tokens.proofs.Heads.{head_or, mark_equals, mark_comma, mark_opening, mark_closing}
use Rattle.message_tokens.proofs.Cursor.head.Goals as goal

pub returns-in-61 : goal.returns-in-61
returns-in-61 c = λ base. rw c.mark.ensures (mark_equals base c.args.s.now _ c.if-at-s.true c.in-61.is)

pub returns-in-44 : goal.returns-in-44
returns-in-44 c = λ base. rw c.mark-in-44.ensures (mark_comma base c.args.s.now _ c.if-at-s.true c.in-44.is)

pub returns-in-123 : goal.returns-in-123
returns-in-123 c = λ base. rw c.mark-in-123.ensures (mark_opening base c.args.s.now _ c.if-at-s.true c.in-123.is)

pub returns-in-125 : goal.returns-in-125
returns-in-125 c = λ base. rw c.mark-in-125.ensures (mark_closing base c.args.s.now _ c.if-at-s.true c.in-125.is)

pub returns : goal.returns
returns c = λ base. rw c.unwrap_or.ensures (head_or base c.args.s.now _ c.next.result c.args.self (c.next.ensures base))
