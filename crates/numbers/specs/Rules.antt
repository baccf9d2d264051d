-- The number that a broken rule is refused with.
use Rattle.std.specs.Prelude.{ℕ}
use Rattle.numbers.specs.declared.Rule.{Rule}
use Rattle.numbers.specs.declared.Rule.TheVariants.{Depth, DefinitionLength, DefinitionTokens, DefinitionForms, ParameterCount, LabelForm, RangeForm, Placement, LabelTwice, Target, Endless, TableRoom, Table, MessageLength, MessageTokens, MessageForms, ValueForm, ValueCount, TagTwice, FieldMissing, Alternative, RowRoom, ValueRange}

abbrev pub rule_number : Rule → ℕ
rule_number Depth = 0
rule_number DefinitionLength = 1
rule_number DefinitionTokens = 2
rule_number DefinitionForms = 3
rule_number ParameterCount = 4
rule_number LabelForm = 5
rule_number RangeForm = 6
rule_number Placement = 7
rule_number LabelTwice = 8
rule_number Target = 9
rule_number Endless = 10
rule_number TableRoom = 11
rule_number Table = 20
rule_number MessageLength = 21
rule_number MessageTokens = 22
rule_number MessageForms = 23
rule_number ValueForm = 24
rule_number ValueCount = 25
rule_number TagTwice = 26
rule_number FieldMissing = 27
rule_number Alternative = 28
rule_number RowRoom = 29
rule_number ValueRange = 30
