use Rattle.definition_scanner.proofs.Steps.{slash_end, slash_stray, slash_line, slash_block, slash_endless}
use Rattle.definition_scanner.proofs.slash.Goals as goal

pub returns-then-text-n : goal.returns-then-text-n
returns-then-text-n c = slash_end _ _ c.requires.0 c.requires.1 c.if-text-n.true

pub returns-then-b-eq47 : goal.returns-then-b-eq47
returns-then-b-eq47 c = slash_line _ _ c.requires.0 c.requires.1 c.if-text-n.false c.if-b-eq47.true c.line_end.ensures

pub returns-in-Some : goal.returns-in-Some
returns-in-Some c = slash_block _ _ c.requires.0 c.requires.1 c.if-text-n.false c.if-b-eq47.false c.if-b-eq42.true (rw c.in-Some.is at c.comment_end.ensures)

pub returns-in-None : goal.returns-in-None
returns-in-None c = slash_endless _ _ c.requires.0 c.requires.1 c.if-text-n.false c.if-b-eq47.false c.if-b-eq42.true (rw c.in-None.is at c.comment_end.ensures)

pub returns : goal.returns
returns c = slash_stray _ _ c.requires.0 c.requires.1 c.if-text-n.false c.if-b-eq47.false c.if-b-eq42.false
