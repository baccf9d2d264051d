-- Number 22, met token by token.
use Rattle.std.specs.Prelude.{ℕ, Option, None, Some}
use Rattle.reading_rules.specs.Schema.{Found, nowhere, found}
use Rattle.message_rules.specs.Scan.{CutResult, either, too_deep}

-- the answer in the paper's terms
abbrev pub fault_of : Option ℕ → Found
fault_of None = nowhere
fault_of (Some at) = found at

-- the smallest place of 22 from here on, with n open
unfoldable pub fault_from : ℕ → CutResult → Found
fault_from n c = either (too_deep n c.lexemes) c.bad
