use Rattle.std.proofs.Common.{refl, arith}
use Rattle.message_tokens.proofs.Eight.{eight_summed}
use Rattle.message_tokens.proofs.Naturals.{digits_counted}
use Rattle.message_tokens.proofs.digits_by_eight.Goals as goal

pub returns-then-are_digits : goal.returns-then-are_digits
returns-then-are_digits c = digits_counted c.args.s.now _ _ _ (eight_summed c.args.s.now _ (λ i. omega (arith, c.shared_slice_known-1.given i)) _ _ (omega arith) (omega arith) c.first_digits-d.ensures (c.are_digits.ensures c.if-are_digits.true)) _ refl c.digits_before.result c.digits_before.ensures
