use Prim.Native.Nat.{◌-◌}
use native.Mathlib.Omega.{arith}
use Rattle.definition_scanner.proofs.FaultLaws.{all_faults}
use Rattle.definition_scanner.proofs.scan_fault.Goals as goal

pub loop-d-init : goal.loop-d-init
loop-d-init c = (all_faults _, omega arith)
