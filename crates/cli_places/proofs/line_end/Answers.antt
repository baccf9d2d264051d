use Rattle.std.proofs.Common.{rules, arith}
use Rattle.cli_places.proofs.LineLaws.{first_end, no_end}
use Rattle.cli_places.proofs.line_end.Goals as goal

pub returns-in-Some : goal.returns-in-Some
returns-in-Some c = first_end c.args.s.now c.args.place c.requires c.in-Some.i (search rules) (search rules) (search rules)

pub returns-in-None : goal.returns-in-None
returns-in-None c = (no_end c.args.s.now c.args.place c.requires (search rules), omega arith)
