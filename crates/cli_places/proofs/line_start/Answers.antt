use Rattle.std.proofs.Common.{rules, arith}
use Rattle.cli_places.proofs.LineLaws.{last_start, no_start}
use Rattle.cli_places.proofs.line_start.Goals as goal

pub returns-in-Some : goal.returns-in-Some
returns-in-Some c = last_start c.args.s.now c.args.place c.in-Some.i c.requires (search rules) (search rules) (search rules)

pub returns-in-None : goal.returns-in-None
returns-in-None c = (no_start c.args.s.now c.args.place c.requires (search rules), omega arith)
