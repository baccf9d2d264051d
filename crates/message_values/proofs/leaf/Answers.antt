use mathlib.Core.Path.{refl, sym, ap}
use Rattle.message_lookup.specs.Questions.{broken_number}
use Rattle.message_values.proofs.leaf.Goals as goal

pub returns-in-Err : goal.returns-in-Err
returns-in-Err c = record { unfit = rw c.in-Err.is (rw c.in-Err.is at c.requires.broken); same = sym (ap broken_number c.in-Err.is); place = refl }
