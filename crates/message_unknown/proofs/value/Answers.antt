use Rattle.std.proofs.Common.{arith}
use Rattle.message_unknown.proofs.Steps.{went_start, went_on, ends_after, halts_after, passes_after, value_on, value_word, value_string, value_braces, value_none, opening_within}
use Rattle.message_unknown.proofs.value.Goals as goal

pub loop-next-init : goal.loop-next-init
loop-next-init c = went_start _ _ _ _

pub braces_at-requires : goal.braces_at-requires
braces_at-requires c = (c.requires, opening_within c.args.base c.args.s.now _ c.head-h.result (c.head-h.ensures c.args.base) c.in-Opening.is)

pub returns-in-String : goal.returns-in-String
returns-in-String c = passes_after c.loop-next.invariant (value_string c.args.base c.args.s.now _ c.head-h.result (c.head-h.ensures _) c.in-String.is)

pub returns-in-Opening : goal.returns-in-Opening
returns-in-Opening c = ends_after c.braces_at.result c.loop-next.invariant (value_braces c.args.base c.args.s.now _ c.head-h.result (c.head-h.ensures _) c.braces_at.result c.in-Opening.is c.braces_at.ensures)

pub returns-in_default : goal.returns-in_default
returns-in_default c = halts_after c.loop-next.invariant (value_none c.args.base c.args.s.now _ c.head-h.result (c.head-h.ensures _) c.in_default.not-Word c.in_default.not-String c.in_default.not-Opening)

pub returns-in_default-kind : goal.returns-in_default-kind
returns-in_default-kind c = passes_after c.loop-next.invariant (value_word c.args.base c.args.s.now _ c.head-h.result (c.head-h.ensures _) c.in-Word.is c.head-next.result (c.head-next.ensures _) c.in_default-kind.not-Equals)

pub loop-next-preserved : goal.loop-next-preserved
loop-next-preserved c =
    let on = value_on c.args.base c.args.s.now _ c.head-h.result (c.head-h.ensures _) c.in-Word.is c.head-next.result (c.head-next.ensures _) c.in-Equals.is in
    went_on c.loop-next.invariant on.is on.moved

pub loop-next-smaller : goal.loop-next-smaller
loop-next-smaller c =
    let on = value_on c.args.base c.args.s.now _ c.head-h.result (c.head-h.ensures _) c.in-Word.is c.head-next.result (c.head-next.ensures _) c.in-Equals.is in
    omega (arith, on.moved.less, on.moved.within)
