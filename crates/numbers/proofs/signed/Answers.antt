use mathlib.Core.Path.{sym}
use Rattle.numbers.proofs.Bytes.{signed_low, signed_high}
use Rattle.numbers.proofs.signed.Goals as goal

pub returns-then-z-lt-BIAS : goal.returns-then-z-lt-BIAS
returns-then-z-lt-BIAS c = sym (signed_low _ c.if-z-lt-BIAS.true)

pub returns : goal.returns
returns c = sym (signed_high _ c.if-z-lt-BIAS.false)
