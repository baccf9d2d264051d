use mathlib.Core.Path.{refl}
use native.Mathlib.Omega.{arith}
use Rattle.numbers.proofs.Packing.{four_pairs}
use Rattle.numbers.proofs.eight_digits.Goals as goal

pub returns : goal.returns
returns c = four_pairs _ _ _ _ (omega arith) refl refl refl _ _ _ _ c.two_digits.ensures.0 c.two_digits-2.ensures.0 c.two_digits-3.ensures.0 c.two_digits-4.ensures.0
