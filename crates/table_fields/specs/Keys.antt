-- The name that a record shows, in its body or among the tops.
use Rattle.reading_rules.specs.Record.{Record}
use Rattle.definition_rules.specs.Faults.{Key, key}

abbrev pub label_key : Record → Key
label_key r = key r.parent r.label
