use Rattle.std.proofs.Common.{rules, ◌≡◌}
use mathlib.Core.Path.{ap, ◌∙◌}
use native.Mathlib.Omega.{arith}
use lib.ListN.{length}
use Rattle.definition_automaton.specs.Acts.{act_of}
use Rattle.definition_automaton.specs.States.{context_of}
use Rattle.definition_automaton.specs.declared.Token.TheVariants.{End}
use Rattle.definition_automaton.specs.Codes.{token_number, mode_number, answer_number, stand_of, hand_of}
use Rattle.definition_forms.proofs.KindLaws.{end_is, no_act, an_act}
use Rattle.definition_forms.proofs.Loop.{inv_start, inv_stuck, note_length, inv_step, inv_end}
use Rattle.definition_forms.proofs.forms.Goals as goal

pub loop-x-init : goal.loop-x-init
loop-x-init c = record { read = λ clean. inv_start _ _ _ _ _ clean c.seen_from-x.ensures c.start-st.ensures c.nothing-p.ensures; at = 0; sees = c.seen_from-x.ensures; room = c.requires.parameter_limit_in_bounds; short = c.requires.text_len_bound }

pub returns-then-is_stuck : goal.returns-then-is_stuck
returns-then-is_stuck c =
    let z : c.loop-x.x.kind ≡ End → ⊥ = search rules in
    let f : answer_number c.act-act.result ≡ act_of (mode_number c.loop-x.st.mode) (context_of (stand_of c.loop-x.st)) (token_number c.loop-x.p.kind) (token_number c.loop-x.x.kind) = c.act-act.ensures ∙ ap (λ d. act_of (mode_number c.loop-x.st.mode) d (token_number c.loop-x.p.kind) (token_number c.loop-x.x.kind)) c.context.ensures in
    λ clean. inv_stuck (c.loop-x.invariant.read clean) (answer_number c.act-act.result) f (λ e. z (end_is _ e)) (no_act c.act-act.result (rw c.if-is_stuck.true at c.is_none-is_stuck.ensures)) _ c.stuck.ensures

pub loop-x-preserved : goal.loop-x-preserved
loop-x-preserved c =
    let z : c.loop-x.x.kind ≡ End → ⊥ = search rules in
    let f : answer_number c.act-act.result ≡ act_of (mode_number c.loop-x.st.mode) (context_of (stand_of c.loop-x.st)) (token_number c.loop-x.p.kind) (token_number c.loop-x.x.kind) = c.act-act.ensures ∙ ap (λ d. act_of (mode_number c.loop-x.st.mode) d (token_number c.loop-x.p.kind) (token_number c.loop-x.x.kind)) c.context.ensures in
    let n : length c.note.new.cells ≡ length c.loop-x.cells = ap length c.note.ensures ∙ note_length (stand_of c.loop-x.st) (hand_of c.loop-x.p) (answer_number c.act-act.result) c.loop-x.cells in
    record {
      read = λ clean. inv_step (c.loop-x.invariant.read clean) (answer_number c.act-act.result) f c.loop-x.invariant.short c.loop-x.invariant.room (λ e. z (end_is _ e)) (an_act c.act-act.result (rw c.if-is_stuck.false at c.is_none-is_stuck.ensures)) _ c.seen_from-x-in-loop-x.ensures _ _ _ c.acted-st.ensures c.read-p.ensures c.note.ensures;
      at = c.loop-x.x.end;
      sees = c.seen_from-x-in-loop-x.ensures;
      room = omega arith;
      short = c.loop-x.invariant.short;
    }

pub returns : goal.returns
returns c =
    let z : c.loop-x.x.kind ≡ End = search rules in
    λ clean. inv_end (c.loop-x.invariant.read clean) (ap token_number z) _ c.finish.ensures
