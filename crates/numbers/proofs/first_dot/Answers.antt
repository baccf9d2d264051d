use native.Mathlib.Omega.{arith}
use Rattle.std.proofs.Common.{rules, ◌≡◌, ◌+◌}
use Rattle.classes.specs.Lists.{run_of}
use Rattle.classes.proofs.Rows.{run_within}
use Rattle.numbers.specs.Range.{not_dot}
use Rattle.numbers.proofs.first_dot.Goals as goal

pub returns : goal.returns
returns c =
    let h : c.run_end.result ≡ 0 + run_of not_dot c.args.w.now = c.run_end.ensures not_dot (λ b r k. search rules) in
    (omega (arith, h), omega (arith, h, run_within not_dot c.args.w.now))
