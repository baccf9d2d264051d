use Rattle.std.proofs.Common.{rules, ◌≡◌, take}
use Rattle.std.specs.List.{count_by}
use lib.Dec.{eqb}
use Rattle.cli_places.proofs.LineLaws.{breaks_are}
use Rattle.cli_places.proofs.line_of.Goals as goal

pub returns : goal.returns
returns c =
    let counted : c.count.result ≡ count_by (λ b. eqb b 10) (take c.args.place c.args.s.now) = search rules in
    rw (breaks_are c.args.s.now c.args.place c.requires.0, counted)
