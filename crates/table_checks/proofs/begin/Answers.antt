use mathlib.Core.Path.{◌≡◌}
use mathlib.Core.Bool.{Bool}
use mathlib.Core.List.{[]}
use Prim.Native.Nat.{ℕ}
use native.Mathlib.Omega.{arith}
use Rattle.table_records.specs.Shown.{held_record}
use Rattle.table_checks.specs.Sweeps.{body_over}
use Rattle.table_checks.proofs.Bodies.{set_below, body_empty, over_start}
use Rattle.table_checks.proofs.begin.Goals as goal

pub loop-i-preserved : goal.loop-i-preserved
loop-i-preserved c = λ have. set_below c.loop-i.rest c.loop-i.i _ (omega arith) (λ (k : ℕ) (b : Bool). b ≡ body_over have k (held_record c.args.records.now k) k []) (c.loop-i.invariant have) (rw c.kind_at.ensures (body_empty have c.loop-i.i (held_record c.args.records.now c.loop-i.i)))

pub returns : goal.returns
returns c = λ have. over_start c.args.records.now.table.now c.args.records.now.unpacked.now c.args.records.now.count have c.loop-i.i c.loop-i.rest (omega arith) (c.loop-i.invariant have)
