use mathlib.Core.Path.{◌≡◌}
use native.Mathlib.Omega.{arith}
use Rattle.text.proofs.Writing.{both}
use Rattle.cli_wording.specs.Sayings.{bytes}
use Rattle.cli_report.specs.Shown.{view_start, view_end}
use Rattle.cli_report.proofs.ShownLaws.{from_view, to_view, view}
use Rattle.cli_report.proofs.refusals.put_view.Goals as goal

pub returns : goal.returns
unfolding bytes
returns c =
    let from : c.max-from.result ≡ view_start c.args.s.now c.args.place = from_view _ _ _ _ c.line_start.ensures.0 (omega arith) in
    let to : c.min-to.result ≡ view_end c.args.s.now c.args.place = to_view _ _ _ _ _ c.line_end.ensures.0 from (omega arith) in
    view _ _ _ _ _ _ _ from to c.part.ensures c.part-2.ensures
    (both (both (both c.put_shown.ensures c.byte.ensures) c.put_blanks.ensures) c.put_mark.ensures)
