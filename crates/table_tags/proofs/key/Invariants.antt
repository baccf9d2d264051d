use mathlib.Core.Path.{◌≡◌}
use Prim.Native.Nat.{◌<◌}
use lib.ListN.{drop}
use Rattle.table_tags.specs.Keys.{tag_marks, key_from, tag_key}
use Rattle.table_tags.proofs.key.Given as goal

abbrev pub invariant-loop-b : goal.invariant-loop-b
invariant-loop-b l = (tag_key l.p l.label ≡ key_from l.k (drop l.b-index l.label)) × (l.k < tag_marks)
