use mathlib.Core.Path.{refl}
use native.Mathlib.Omega.{arith}
use Rattle.numbers.proofs.Packing.{three_pairs}
use Rattle.numbers.proofs.six_digits.Goals as goal

pub returns : goal.returns
returns c = three_pairs _ _ _ (omega arith) refl refl _ _ _ c.two_digits.ensures.0 c.two_digits-2.ensures.0 c.two_digits-3.ensures.0
