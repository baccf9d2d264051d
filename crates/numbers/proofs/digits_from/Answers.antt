use Rattle.numbers.proofs.Digits.{digits_are}
use Rattle.numbers.proofs.digits_from.Goals as goal

pub returns : goal.returns
returns c = rw (c.all_digits.ensures, c.rest-digits.ensures) (digits_are _)
