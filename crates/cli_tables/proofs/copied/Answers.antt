use mathlib.Core.Path.{◌∙◌}
use Rattle.cli_tables.proofs.CopyLaws.{copied_there}
use Rattle.cli_tables.proofs.copied.Goals as goal

pub returns : goal.returns
returns c = c.into_written.ensures ∙ copied_there c.args.bytes.now c.args.to.now _ _ _ _ c.new-page.ensures.old c.new-page.ensures.place c.text.ensures.wrote.bytes c.text.ensures.wrote.place
