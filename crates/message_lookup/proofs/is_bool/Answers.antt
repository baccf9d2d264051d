use Rattle.reading_rules.specs.Value.{is_bool}
use Rattle.message_lookup.proofs.Judging.{same_slices}
use Rattle.message_lookup.proofs.is_bool.Goals as goal

pub returns : goal.returns
unfolding is_bool
returns c = rw (c.eq.ensures, c.as_slice.ensures, c.eq-2.ensures, c.as_slice-2.ensures, same_slices, same_slices)
