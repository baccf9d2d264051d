use mathlib.Core.Path.{sym, ◌∙◌}
use Rattle.table_tags.proofs.Marking.{marked_more, never_met}
use Rattle.table_tags.proofs.tag_again_marked.Goals as goal

pub returns-clause-value : goal.returns-clause-value
returns-clause-value c = never_met _ _ _ _ _ _ c.requires.marked_before (c.key-k.ensures ∙ rw (c.parent_at.ensures, c.label_at.ensures)) (sym c.get_or-old.ensures ∙ c.if-old.false)

pub returns-clause-marked_before_2 : goal.returns-clause-marked_before_2
returns-clause-marked_before_2 c = (rw c.set.ensures (marked_more _ _ _ _ _ c.requires.marked_before (c.key-k.ensures ∙ rw (c.parent_at.ensures, c.label_at.ensures))))
