use lib.ListN.{take}
use Rattle.text.specs.Text.{Added, each, hex_byte}
use Rattle.text.proofs.Page.hex.Given as goal

abbrev pub invariant-loop-b : goal.invariant-loop-b
invariant-loop-b l = Added (each hex_byte (take l.b-index l.bytes)) l.initial.self l.self
