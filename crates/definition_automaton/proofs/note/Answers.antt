use mathlib.Core.Path.{sym, ◌∙◌}
use borrow.Author.Tests.{lt-ltb}
use Rattle.classes.specs.Lists.{pick}
use Rattle.definition_automaton.specs.Noting.{note_cells}
use Rattle.definition_automaton.proofs.note.Goals as goal

pub returns-then-st-lt-PARAMETER_LIMIT : goal.returns-then-st-lt-PARAMETER_LIMIT
unfolding note_cells pick
returns-then-st-lt-PARAMETER_LIMIT c = rw (sym c.notes.ensures ∙ c.if-notes.true, lt-ltb _ _ c.if-st-lt-PARAMETER_LIMIT.true) (c.put.ensures ∙ rw (c.numbers-row.ensures, c.is_extension.ensures, c.context.ensures, c.parent.ensures))
