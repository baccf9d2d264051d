use mathlib.Core.List.{[]}
use Rattle.reading_rules.specs.Schema.{schema_of}
use Rattle.message_bodies.proofs.Parts.{skip_ends, skip_word}
use Rattle.message_bodies.proofs.unknown_item.Goals as goal

pub returns-in-Equals : goal.returns-in-Equals
returns-in-Equals c = skip_ends _ _ _ c.head-h.result (c.head-h.ensures _) (schema_of []) c.in-Equals.is c.list.result c.list.ensures

pub returns-in_default : goal.returns-in_default
returns-in_default c = skip_word _ _ _ c.head-h.result (c.head-h.ensures _) c.in_default.not-Equals
