use mathlib.Core.Path.{◌∙◌, sym}
use Rattle.reading_rules.specs.Record.{Record, blank}
use Rattle.reading_rules.specs.Schema.{schema_of, kind_of, core_of}
use Rattle.message_lookup.proofs.Steps.{past, here, core_own, core_target}
use Rattle.message_lookup.proofs.core.Goals as goal

pub returns-then-records-p : goal.returns-then-records-p
unfolding blank schema_of kind_of core_of
returns-then-records-p c = past (λ (r : Record). core_of c.args.p r.target (kind_of r.kind)) _ _ _ c.args.p c.if-records-p.true

pub returns-then-kind_at-eq-REFERENCE : goal.returns-then-kind_at-eq-REFERENCE
unfolding schema_of
returns-then-kind_at-eq-REFERENCE c = here (λ (r : Record). core_of c.args.p r.target (kind_of r.kind)) _ _ _ c.args.p c.if-records-p.false (c.target_at.ensures ∙ core_target _ _ _ (sym c.kind_at.ensures ∙ c.if-kind_at-eq-REFERENCE.true))

pub returns : goal.returns
unfolding schema_of
returns c = here (λ (r : Record). core_of c.args.p r.target (kind_of r.kind)) _ _ _ c.args.p c.if-records-p.false (core_own _ _ _ (λ e. c.if-kind_at-eq-REFERENCE.false (c.kind_at.ensures ∙ e)))
