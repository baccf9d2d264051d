use Rattle.std.proofs.Common.{rules, sym, length}
use Rattle.cli_places.proofs.LineLaws.{text_stays, all_off}
use Rattle.cli_places.proofs.text_end.Goals as goal

pub returns-in-Some : goal.returns-in-Some
returns-in-Some c = (sym (text_stays c.args.s.now (length c.args.s.now) c.in-Some.i (search rules) (search rules) (search rules)), search rules)

pub returns-in-None : goal.returns-in-None
returns-in-None c = (sym (all_off c.args.s.now (length c.args.s.now) (search rules)), search rules)
