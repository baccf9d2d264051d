use mathlib.Core.Path.{◌≡◌}
use borrow.Author.Rules.{rules}
use borrow.Author.Tests.{ne_eqb}
use Rattle.text.proofs.Writing.{both}
use Rattle.cli_wording.specs.Sayings.{bytes}
use Rattle.cli_wanted.specs.Wanted.{allowed_text}
use Rattle.cli_wanted.proofs.put_allowed.Goals as goal

pub returns-in-3 : goal.returns-in-3
unfolding allowed_text bytes
returns-in-3 c = rw (← c.kind_at.ensures, c.in-3.is) (both c.text.ensures c.put_span.ensures)

pub returns-in-6 : goal.returns-in-6
unfolding allowed_text bytes
returns-in-6 c = rw (← c.kind_at.ensures, c.in-6.is) c.text-in-6.ensures

pub returns-in-7 : goal.returns-in-7
unfolding allowed_text bytes
returns-in-7 c = rw (← c.kind_at.ensures, c.in-7.is) c.text-in-7.ensures

pub returns-in_default : goal.returns-in_default
unfolding allowed_text bytes
returns-in_default c =
    let no_int : c.kind_at.result ≡ 3 → ⊥ = search rules in
    let no_date : c.kind_at.result ≡ 6 → ⊥ = search rules in
    let no_time : c.kind_at.result ≡ 7 → ⊥ = search rules in
    rw (← c.kind_at.ensures, ne_eqb _ 3 no_int, ne_eqb _ 6 no_date, ne_eqb _ 7 no_time)
    (both (both c.text-in_default.ensures c.put_span-in_default.ensures) c.text-in_default-2.ensures)
