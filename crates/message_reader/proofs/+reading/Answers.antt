use mathlib.Core.Path.{sym, refl, ◌∙◌}
use mathlib.Core.List.{[]}
use Prim.Native.Nat.{◌-◌}
use native.Mathlib.Omega.{arith}
use Rattle.std.specs.Prelude.{Ok, Err}
use Rattle.std.proofs.lemmas.Result.{err_from_is_err_and}
use Rattle.message_lookup.specs.Questions.{shape_of}
use Rattle.message_lookup.specs.Seen.{no_marks}
use Rattle.message_reader.proofs.Steps.{listing_start, listing_turn, listing_on, listing_done, listing_refused, bodying_start, bodying_room, bodying_depth, untagged_end, choosing_start, choosing_room, choosing_value, choosing_whole, choosing_stopped, choosing_on, plain_fits, body_none, body_ends_lem, braced_ends, braced_refused, quick_taken, element_more, element_last, element_after, element_refused, plain_none, plain_simple, plain_struct, no_place}
use Rattle.message_reader.proofs.+reading.Goals as goal

pub body-overflow_add-result : goal.body-overflow_add-result
body-overflow_add-result t c = omega (arith, (c.head-h.ensures 0).within, c.requires.room.short)

pub body-returns-then-f-eq0 : goal.body-returns-then-f-eq0
body-returns-then-f-eq0 t c = body_none _ _ c.args.f _ c.head-h.result (c.head-h.ensures _) c.if-f-eq0.true

pub body-returns : goal.body-returns
body-returns t c = body_ends_lem _ _ c.args.f _ _ _ c.fields.result c.if-f-eq0.false (rw c.deeper.ensures at c.fields.ensures)

pub braced-returns-in_err-brace : goal.braced-returns-in_err-brace
braced-returns-in_err-brace t c =
    let p = err_from_is_err_and c.from_residual.result c.from_residual.ensures.1 in
    rw (p.1, p.2) (c.in_err-brace.ensures _ _)

pub braced-returns-in_err-done : goal.braced-returns-in_err-done
braced-returns-in_err-done t c =
    let p = err_from_is_err_and c.from_residual-in_err-done.result c.from_residual-in_err-done.ensures.1 in
    rw (p.1, p.2) (braced_refused _ _ c.args.f _ _ _ [] [] [] c.in_ok-brace.ensures _ _ (rw c.inner.ensures at c.in_err-done.ensures))

pub braced-returns : goal.braced-returns
braced-returns t c = braced_ends _ _ c.args.f _ _ _ _ _ _ c.in_ok-brace.ensures _ _ (rw c.inner.ensures at c.in_ok-done.ensures) c.shut.result c.shut.ensures

pub element-returns-in-Some : goal.element-returns-in-Some
element-returns-in-Some t c = element_more _ _ c.args.f _ _ _ _ (rw c.in-Last.is at c.in_ok-v.ensures) _ (rw c.in-Some.is at c.in_ok-w-in-Last.ensures)

pub element-returns-in-None : goal.element-returns-in-None
element-returns-in-None t c = element_last _ _ c.args.f _ _ _ _ (rw c.in-Last.is at c.in_ok-v.ensures) (rw c.in-None.is at c.in_ok-w-in-Last.ensures)

pub element-returns-in_err-w-in-Last : goal.element-returns-in_err-w-in-Last
element-returns-in_err-w-in-Last t c =
    let p = err_from_is_err_and c.from_residual-in_err-w-in-Last.result c.from_residual-in_err-w-in-Last.ensures.1 in
    rw (p.1, p.2) (element_after _ _ c.args.f _ _ _ _ (rw c.in-Last.is at c.in_ok-v.ensures) _ _ c.in_err-w-in-Last.ensures)

pub element-returns-in_err-v : goal.element-returns-in_err-v
element-returns-in_err-v t c =
    let p = err_from_is_err_and c.from_residual.result c.from_residual.ensures.1 in
    rw (p.1, p.2) (element_refused _ _ c.args.f _ _ c.in_err-v.ensures)

pub fields-loop-q-init : goal.fields-loop-q-init
unfolding no_marks
fields-loop-q-init t c = bodying_start _ _ _ _ _ _ _ _ refl c.requires.room.here

pub fields-list-requires : goal.fields-list-requires
fields-list-requires t c = let r = bodying_room c.loop-q.invariant _ c.requires.room in let d = (rw c.in-List.is at (c.in_ok-q.ensures _ _ c.loop-q.invariant)) in let k = bodying_depth c.loop-q.invariant in rw c.for_field-due.ensures (omega (arith, k), (omega (arith, r, d.far, d.within), (c.requires.searchable, omega (arith, d.below))))

pub fields-overflow_add-from : goal.fields-overflow_add-from
fields-overflow_add-from t c = let d = (rw c.in-List.is at (c.in_ok-q.ensures _ _ c.loop-q.invariant)) in let r = bodying_room c.loop-q.invariant _ c.requires.room in omega (arith, d.below, r.known)

pub fields-loop-q-smaller-in-List : goal.fields-loop-q-smaller-in-List
fields-loop-q-smaller-in-List t c = let d = (rw c.in-List.is at (c.in_ok-q.ensures _ _ c.loop-q.invariant)) in let l = (rw c.for_field-due.ensures at c.in_ok-done-in-List.ensures) in rw c.moved-g.ensures (omega (arith, d.far, l.moved.far, l.moved.within))

pub fields-returns-in_err-done-in-List : goal.fields-returns-in_err-done-in-List
fields-returns-in_err-done-in-List t c =
    let p = err_from_is_err_and c.from_residual-in_err-done-in-List.result c.from_residual-in_err-done-in-List.ensures.1 in
    rw (p.1, p.2) ((rw c.in-List.is at (c.in_ok-q.ensures _ _ c.loop-q.invariant)).refused _ _ (rw c.for_field-due.ensures at c.in_err-done-in-List.ensures))

pub fields-loop-q-smaller : goal.fields-loop-q-smaller
fields-loop-q-smaller t c = let w = (rw c.in-On.is at (c.in_ok-q.ensures _ _ c.loop-q.invariant)) in rw c.moved-g-in-On.ensures (omega (arith, w.0, w.1.loop.line.moved.within))

pub fields-loop-q-preserved : goal.fields-loop-q-preserved
fields-loop-q-preserved t c = rw (c.moved-g-in-On.ensures, untagged_end) (rw c.in-On.is at (c.in_ok-q.ensures _ _ c.loop-q.invariant)).1

pub fields-returns-in-Done : goal.fields-returns-in-Done
fields-returns-in-Done t c = rw c.in-Done.is at (c.in_ok-q.ensures _ _ c.loop-q.invariant)

pub fields-returns-in_err-q : goal.fields-returns-in_err-q
fields-returns-in_err-q t c =
    let p = err_from_is_err_and c.from_residual.result c.from_residual.ensures.1 in
    rw (p.1, p.2) (c.in_err-q.ensures _ _ c.loop-q.invariant)

pub list-loop-v-init : goal.list-loop-v-init
list-loop-v-init t c = listing_start _ _ _ _ c.requires.room.here c.requires.parameter_lt_n.1

pub list-loop-v-smaller : goal.list-loop-v-smaller
list-loop-v-smaller t c = let t = listing_turn c.loop-v.invariant _ _ _ (rw c.in-On.is at c.in_ok-v.ensures) in rw c.next_value-g.ensures (omega (arith, t))

pub list-loop-v-preserved : goal.list-loop-v-preserved
list-loop-v-preserved t c = listing_on c.loop-v.invariant _ _ _ _ (rw c.in-On.is at c.in_ok-v.ensures) c.next_value-g.ensures

pub list-returns-in-Last : goal.list-returns-in-Last
list-returns-in-Last t c = listing_done c.loop-v.invariant _ _ _ (rw c.in-Last.is at c.in_ok-v.ensures)

pub list-returns-in_err-v : goal.list-returns-in_err-v
list-returns-in_err-v t c =
    let p = err_from_is_err_and c.from_residual.result c.from_residual.ensures.1 in
    rw (p.1, p.2) (listing_refused c.loop-v.invariant [] c.in_err-v.field-0.0 c.in_err-v.ensures)

pub list_value-returns-in-Some : goal.list_value-returns-in-Some
list_value-returns-in-Some t c = quick_taken _ _ c.args.f _ _ _ (rw c.in-Some.is at c.quick_int.ensures)

pub list_value-returns-in_err-done-in-None : goal.list_value-returns-in_err-done-in-None
list_value-returns-in_err-done-in-None t c =
    let p = err_from_is_err_and c.from_residual.result c.from_residual.ensures.1 in
    rw (p.1, p.2) c.in_err-done-in-None.ensures

pub plain_value-returns-in_default : goal.plain_value-returns-in_default
plain_value-returns-in_default t c = plain_none _ _ c.args.f _ _ c.no_value.result (shape_of c.kind.result) (rw (← c.requires.u_value) (sym c.kind.ensures)) (no_place _ c.in_default.not-Simple c.in_default.not-Struct) c.no_value.ensures

pub plain_value-returns-in-Simple : goal.plain_value-returns-in-Simple
plain_value-returns-in-Simple t c = plain_simple _ _ c.args.f _ _ c.simple.result _ c.requires.u_value (sym (rw c.in-Simple.is at c.kind.ensures)) c.simple.ensures

pub plain_value-returns-in-Struct : goal.plain_value-returns-in-Struct
plain_value-returns-in-Struct t c = plain_struct _ _ c.args.f _ _ c.braced.result _ c.requires.u_value (sym (rw c.in-Struct.is at c.kind.ensures)) c.braced.ensures

pub value-loop-f-init : goal.value-loop-f-init
value-loop-f-init t c = choosing_start _ _ _ _ _ c.requires.room c.requires.parameter_lt_n

pub value-returns-else-is_union : goal.value-returns-else-is_union
value-returns-else-is_union t c = choosing_value c.loop-f.invariant _ _ _ (Ok c.in_ok-done.done) c.core-u.ensures (sym c.is_union.ensures ∙ c.if-is_union.false) c.in_ok-done.ensures c.put_ends-else-is_union.ensures

pub value-returns-in_err-done : goal.value-returns-in_err-done
value-returns-in_err-done t c =
    let p = err_from_is_err_and c.from_residual-in_err-done.result c.from_residual-in_err-done.ensures.1 in
    rw (p.1, p.2) (choosing_value c.loop-f.invariant _ [] [] (Err c.in_err-done.field-0.0) c.core-u.ensures (sym c.is_union.ensures ∙ c.if-is_union.false) c.in_err-done.ensures refl)

pub value-loop-f-preserved : goal.value-loop-f-preserved
value-loop-f-preserved t c = choosing_on c.loop-f.invariant _ _ _ _ _ _ c.core-u.ensures (sym c.is_union.ensures ∙ c.if-is_union.true) (rw c.in-Deeper.is at c.in_ok-q.ensures) c.open_row.ensures c.under-g.ensures

pub value-returns-in-Last : goal.value-returns-in-Last
value-returns-in-Last t c = choosing_whole c.loop-f.invariant _ _ _ _ _ _ c.whole-done.result c.core-u.ensures (sym c.is_union.ensures ∙ c.if-is_union.true) (rw c.in-Last.is at c.in_ok-q.ensures) c.whole-done.ensures c.put_ends.ensures

pub value-returns-in_err-q : goal.value-returns-in_err-q
value-returns-in_err-q t c =
    let p = err_from_is_err_and c.from_residual.result c.from_residual.ensures.1 in
    rw (p.1, p.2) (choosing_stopped c.loop-f.invariant _ _ _ c.core-u.ensures (sym c.is_union.ensures ∙ c.if-is_union.true) c.in_err-q.ensures)

pub value-put_ends-requires : goal.value-put_ends-requires
value-put_ends-requires t c = let r = choosing_room c.loop-f.invariant in let w = (rw c.in-Last.is at c.in_ok-q.ensures) in omega (arith, r, c.whole-done.ensures.same, w.step.within, c.requires.room)

pub value-put_ends-requires-else-is_union : goal.value-put_ends-requires-else-is_union
value-put_ends-requires-else-is_union t c = let r = choosing_room c.loop-f.invariant in omega (arith, r, plain_fits _ _ _ _ _ _ c.in_ok-done.done c.core-u.ensures (sym c.is_union.ensures ∙ c.if-is_union.false) c.in_ok-done.ensures, c.requires.room)

pub value-overflow_add-f : goal.value-overflow_add-f
value-overflow_add-f t c = let w = (rw c.in-Last.is at c.in_ok-q.ensures) in omega (arith, c.whole-done.ensures.same, w.step.within, c.requires.room)

pub value-overflow_add-f-else-is_union : goal.value-overflow_add-f-else-is_union
value-overflow_add-f-else-is_union t c = omega (arith, plain_fits _ _ _ _ _ _ c.in_ok-done.done c.core-u.ensures (sym c.is_union.ensures ∙ c.if-is_union.false) c.in_ok-done.ensures, c.requires.room)
