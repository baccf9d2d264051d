use Prim.Native.Nat.{◌+◌}
use mathlib.Core.Path.{ap}
use Rattle.std.proofs.Common.{rules}
use Rattle.classes.proofs.Chains.{run_from_count}
use Rattle.classes.proofs.run_end.Goals as goal

pub returns : goal.returns
returns g c f h = ap (λ n. c.args.from + n) (run_from_count f _ c.take_while.result _ _ c.count.ensures.ran (cc) c.take_while.ensures.closure c.take_while.ensures.done (λ x b q k. (search rules, search (rules, h))))
