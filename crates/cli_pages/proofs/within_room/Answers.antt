use native.Mathlib.Omega.{arith}
use Rattle.std.proofs.lemmas.List.{length-take}
use Rattle.cli_pages.proofs.within_room.Goals as goal

pub returns : goal.returns
returns c = rw (c.part.ensures, length-take) (omega arith)
