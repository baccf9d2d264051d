use Rattle.std.proofs.Common.{◌≡◌, ℕ, ◌*◌, List, [], ◌∷◌, take, sym, ap, ◌∙◌, eqb-true, arith}
use Rattle.std.proofs.lemmas.List.Edits.{sets}
use Rattle.numbers.specs.Limits.{row_width}
use Rattle.message_rules.specs.Rows.{cells}
use Rattle.message_rows.specs.declared.Row.{Row}
use Rattle.message_rows.proofs.Stores.{row_out, row_copied, sets_more}
use Rattle.message_rows.proofs.put_row.Goals as goal

abbrev numbers_of : Row → List ℕ
numbers_of r = r.parameter ∷ r.parent ∷ r.start ∷ r.end ∷ r.index ∷ []

pub returns-then-is_empty : goal.returns-then-is_empty
unfolding cells
returns-then-is_empty c = row_out c.args.rows.now (row_width * c.args.row) c.args.r.parameter c.args.r.parent c.args.r.start c.args.r.end c.args.r.index (omega (arith, eqb-true _ _ (sym c.if-is_empty.ensures)))

pub returns-then-i-rows : goal.returns-then-i-rows
unfolding cells
returns-then-i-rows c = rw c.copy_from_slice.ensures.after (row_copied c.args.rows.now (numbers_of c.args.r) (5 * c.args.row) _ (omega (arith, c.if-i-rows.true)) (omega arith))

pub loop-k-preserved : goal.loop-k-preserved
loop-k-preserved c = c.set.ensures ∙ rw c.loop-k.invariant (sets_more (numbers_of c.args.r) c.args.rows.now (5 * c.args.row) c.loop-k.k c.loop-k-test.true)

pub returns : goal.returns
unfolding cells
returns c =
    let e : c.loop-k.k ≡ 5 = omega (arith, c.loop-k-test.false, c.loop-k.auto.k-end) in
    c.loop-k.invariant ∙ ap (λ k. sets c.args.rows.now (5 * c.args.row) (take k (numbers_of c.args.r))) e
