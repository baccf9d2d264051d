use mathlib.Core.Path.{◌≡◌}
use borrow.Author.Rules.{rules}
use lib.ListN.{length}
use Rattle.text.proofs.Writing.{both}
use Rattle.test_frames.proofs.Lines.{bytes_line_lem, no_bytes}
use Rattle.test_frames.proofs.put_bytes.Goals as goal

pub returns-then-is_empty : goal.returns-then-is_empty
returns-then-is_empty c =
    let none : length c.args.bytes.now ≡ 0 = search rules in
    rw (no_bytes c.args.bytes.now none) c.text.ensures

pub returns : goal.returns
returns c =
    let some : length c.args.bytes.now ≡ 0 → ⊥ = search rules in
    bytes_line_lem c.args.bytes.now some (both c.text-2.ensures (both c.hex.ensures c.byte.ensures))
