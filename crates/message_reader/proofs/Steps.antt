-- Each step of the readers that call each other, said of plain lists and numbers.
use mathlib.Core.Path.{◌≡◌, refl, sym, ap, subst, ◌∙◌}
use mathlib.Core.Bool.{Bool, true, false}
use mathlib.Core.List.{List, [], ◌∷◌}
use Prim.Native.Nat.{ℕ, zero, suc, ◌+◌, ◌-◌, ◌*◌, ◌≤◌, ◌<◌}
use native.Mathlib.Nat.{zero-add}
use native.Mathlib.Numerals.{add-one}
use native.Mathlib.Omega.{arith}
use lib.ListN.{length, take, drop, drop_of_length-le}
use lib.Seq.{sets, length-sets, drop-drop}
use Rattle.numbers.specs.Limits.{row_width}
use Rattle.reading_rules.specs.Token.{Token, word, equals, comma, opening, closing}
use Rattle.reading_rules.specs.Schema.{Schema}
use Rattle.reading_rules.specs.Schema as schema
use Rattle.reading_rules.specs.Reading.{TreeSort, value, list, body, Tree, braced, last, more, listed, stopped, itemized, no_item, void_item, list_item}
use Rattle.message_rules.specs.Scan.{lexeme, tokens_of}
use Rattle.message_rules.specs.Scan.{Lexeme as Lex}
use Rattle.reading_rules.specs.Parse.{Result, refused, got, then, need, shut, struct_at, union_at, none_at, simple_at, by_kind, value_at, may_grow, after_value, list_at, whole_list, items_at, list_then, lists_at, body_at}
use Rattle.message_rules.specs.Rows.{row_count, lexeme_at, row_over, rows_of, cells}
use Rattle.reading_rules.specs.Reading.{width}
use Rattle.message_rules.specs.Verdict.{start_or}
use Rattle.message_rules.proofs.RowLaws.{rows_counted}
use Rattle.message_tokens.specs.Cursor.{cut_at, lexemes_at, Step}
use Rattle.message_tokens.specs.Head.{HeadAt}
use Rattle.message_tokens.specs.declared.Head.{Head}
use Rattle.message_tokens.specs.declared.Cursor.{Cursor}
use Rattle.message_tokens.proofs.Heads.{step_lex, step_tokens, step_left, step_within}
use Rattle.message_unknown.specs.Along.{Tail, tokens_at, Stopped}
use Rattle.message_unknown.specs.Along as along
use Rattle.message_unknown.proofs.AlongLaws.{tail_trans, drop_tail, step_tail, tokens_length, part_lexemes, part_start, part_end}
use Rattle.message_rows.proofs.Stores.{row_first}
use Rattle.message_rows.proofs.Trees.{rows_at, place_at, body_any}
use Rattle.reading_rules.specs.Schema.{first, found}
use Rattle.message_lookup.specs.Questions.{schema_at, untagged_from, shape_of}
use Rattle.message_lookup.specs.declared.Shape.{Shape}
use Rattle.message_lookup.specs.declared.Shape.TheVariants.{Void, Simple, Struct, Union, Reference}
use Rattle.message_lookup.specs.Seen.{Marks, no_marks}
use Rattle.reading_rules.specs.Schema.{numbers_where, is_untagged_of}
use Rattle.table_records.specs.Stored.{records_at}
use Rattle.table_records.proofs.Laws.{length_records}
use Rattle.message_lookup.proofs.Laws.{untagged_all, untagged_below, next_in}
use Rattle.message_lookup.proofs.Marked.{marks_none}
use Rattle.message_frame.specs.declared.Frame.{Frame}
use Rattle.message_frame.specs.declared.Done.{Done}
use Rattle.numbers.specs.Rules.{rule_number}
use Rattle.numbers.specs.declared.Refusal.{Refusal}
use Rattle.std.specs.Prelude.{Result as Answer, Ok, Err, Some}
use Rattle.message_rows.specs.Filled.{with_ends}
use Rattle.message_frame.specs.Ends.{Room, Moved, Ended, Ends, EndedValue, EndsValue}
use Rattle.message_lists.specs.Quickly.{QuickValue, QuickOn, QuickAt}
use Rattle.message_frame.specs.Going.{Going, Chain}
use Rattle.message_frame.specs.Ends.{Values}
use Rattle.message_values.specs.Values.{Shut, ShutAt}
use Rattle.message_choices.specs.Choices.{Deeper, Whole}
use Rattle.message_lists.specs.Lists.{Grows}
use Rattle.message_bodies.specs.Bodies.{VoidItem, ListItem, Passes}
use Rattle.message_frame.proofs.GoingLaws.{stopped_before, stopped_then, stopped_same, then_refused, then_got, read_same, going_start, going_stopped, going_on, going_read, going_step, chain_start, chain_stopped, chain_on, chain_read}
use Rattle.message_frame.proofs.AtToken.{stop_here}
use Rattle.message_reader.specs.Turning.{values_of, here, Fewer, Turned, Line, Loop, ElementAt, TakenAt, Itemed, PlainAt, is_union, placed_of, moved_of, next_of, field_of, under_of, inner_of, deeper_of, open_row, WholeAt, left_at, body_of, Bodying, Due}
use Rattle.message_lists.specs.declared.Taken.{Taken}
use Rattle.message_lists.specs.declared.Taken.TheVariants as taken

shorter : {A : Type 0} (j : ℕ) (x : List A) → length (drop j x) ≤ length x
shorter zero x = omega arith
shorter (suc j) [] = omega arith
shorter (suc j) (l ∷ x) = omega (arith, shorter j x)

-- ---- room
room_placed : (f : Frame) (len n least at row j : ℕ) → Room f len n → Moved len f.at least f.row at row → j ≤ f.base + at → Room (placed_of f at row j) len n
room_placed f len n least at row j r m h = record { short = r.short; here = m.within; few = omega (arith, r.few, m.counted, m.far); above = r.above; indexed = h; known = r.known }

pub room_moved : (f : Frame) (len n least at row : ℕ) → Room f len n → Moved len f.at least f.row at row → Room (moved_of f at row) len n
room_moved f len n least at row r m = room_placed f len n least at row f.index r m (omega (arith, r.indexed, m.far))

pub room_under : (f : Frame) (len n at q : ℕ) → Room f len n → f.at < at → at ≤ len → Room (under_of f at q) len n
room_under f len n at q r l h = record { short = r.short; here = h; few = omega (arith, r.few, l); above = omega (arith, r.few, r.short, r.here); indexed = omega arith; known = r.known }

-- ---- answers that are equal
pub value_same : {o o' : Result (Tree value)} (s : List ℕ) (f : Frame) (before after : List ℕ) (g : Answer Done Refusal) → o ≡ o' → EndsValue o' s f before after g → EndsValue o s f before after g
value_same s f before after (Ok d) e h = record { ended = record { read = record { tree = h.ended.read.tree; is = e ∙ h.ended.read.is; left = h.ended.read.left; written = h.ended.read.written; sized = h.ended.read.sized }; moved = h.ended.moved }; wide = h.wide; last = h.last }
value_same s f before after (Err x) e h = stopped_same e h

-- ---- loops: the answer at the start, and the answer now
pub line_start_lem : {k : TreeSort} (o : Result (Tree k)) (s : List ℕ) (f : Frame) (before : List ℕ) → f.at ≤ length s → Line o o s f before before f.at f.row f.index
line_start_lem o s f before h = record {
  going = going_start o (lexemes_at f.base s f.at) before f.row f.parameter f.parent f.index;
  moved = record { far = omega arith; within = h; counted = omega arith };
}

module _ {k k' : TreeSort} {o : Result (Tree k)} {o' : Result (Tree k')} {s : List ℕ} {f : Frame} {before after : List ℕ} {at row j : ℕ} (l : Line o o' s f before after at row j) where
  moved_on : {len least e m : ℕ} → Moved len at least row e m → Moved len f.at least f.row e m
  moved_on w = record { far = omega (arith, l.moved.far, w.far); within = w.within; counted = omega (arith, l.moved.counted, w.counted) }

  pub line_on : {o'' : Result (Tree k')} {mid : List ℕ} {e m j' : ℕ} → Turned o' o'' s (placed_of f at row j) after mid e m j' → Line o o'' s f before mid e m j'
  line_on t = record { going = going_on l.going t.going; moved = record { far = omega (arith, l.moved.far, t.moved.far); within = t.moved.within; counted = omega (arith, l.moved.counted, t.moved.counted) } }

  pub line_out : (mid : List ℕ) (least : ℕ) (r : Answer Done Refusal) → Ends o' s (placed_of f at row j) after mid least r → Ends o s f before mid least r
  line_out mid least (Ok d) w = record { read = going_read l.going w.read; moved = moved_on w.moved }
  line_out mid least (Err x) w = going_stopped l.going w

-- with fuel
pub loop_start : {k : TreeSort} (now : ℕ → Result (Tree k)) (s : List ℕ) (f : Frame) (before : List ℕ) → f.at ≤ length s → Loop (now (suc (length (tokens_at f.base s f.at)))) now s f before before f.at f.row f.index
loop_start now s f before h = record {
  fuel = suc (length (tokens_at f.base s f.at));
  enough = omega arith;
  line = line_start_lem (now (suc (length (tokens_at f.base s f.at)))) s f before h;
}

module _ {k k' : TreeSort} {o : Result (Tree k)} {now : ℕ → Result (Tree k')} {s : List ℕ} {f : Frame} {before after : List ℕ} {at row j : ℕ} (l : Loop o now s f before after at row j) where
  pub loop_on : {next : ℕ → Result (Tree k')} {mid : List ℕ} {e m j' : ℕ} → Fewer s (placed_of f at row j) e → ((fuel : ℕ) → Turned (now (suc fuel)) (next fuel) s (placed_of f at row j) after mid e m j') → Loop o next s f before mid e m j'
  loop_on {next} {mid} {e} {m} {j'} w t = go l.fuel l.enough l.line
    where
      go : (fuel : ℕ) → length (tokens_at f.base s at) < fuel → Line o (now fuel) s f before after at row j → Loop o next s f before mid e m j'
      go zero h g = absurd (omega arith)
      go (suc fuel) h g = record { fuel = fuel; enough = omega (arith, h, w); line = line_on g (t fuel) }

  pub loop_out : (mid : List ℕ) (least : ℕ) (r : Answer Done Refusal) → ((fuel : ℕ) → Ends (now (suc fuel)) s (placed_of f at row j) after mid least r) → Ends o s f before mid least r
  loop_out mid least r t = go l.fuel l.enough l.line
    where
      go : (fuel : ℕ) → length (tokens_at f.base s at) < fuel → Line o (now fuel) s f before after at row j → Ends o s f before mid least r
      go zero h g = absurd (omega arith)
      go (suc fuel) h g = line_out g mid least r (t fuel)

  pub loop_stopped : (n q : ℕ) → ((fuel : ℕ) → Stopped (now (suc fuel)) (lexemes_at f.base s at) (f.base + length s) n q) → Stopped o (lexemes_at f.base s f.at) (f.base + length s) n q
  loop_stopped n q t = go l.fuel l.enough l.line
    where
      go : (fuel : ℕ) → length (tokens_at f.base s at) < fuel → Line o (now fuel) s f before after at row j → Stopped o (lexemes_at f.base s f.at) (f.base + length s) n q
      go zero h g = absurd (omega arith)
      go (suc fuel) h g = going_stopped g.going (t fuel)

-- ---- lists
module _ (S : Schema) (Vs : Values) (q c : ℕ) (x : List Lex) where
  list_is : (fuel : ℕ) (v : Tree value) (y : List Token) → Vs q (tokens_of x) ≡ got v y → list_at S Vs (suc fuel) q c (tokens_of x) ≡ after_value S q (suc c) (list_at S Vs fuel q (suc c)) v y
  unfolding list_at
  list_is fuel v y e = then_got (Vs q (tokens_of x)) (after_value S q (suc c) (list_at S Vs fuel q (suc c))) v y e

  list_refused : (fuel n : ℕ) (y : List Token) → Vs q (tokens_of x) ≡ refused n y → list_at S Vs (suc fuel) q c (tokens_of x) ≡ refused n y
  unfolding list_at
  list_refused fuel n y e = then_refused (Vs q (tokens_of x)) (after_value S q (suc c) (list_at S Vs fuel q (suc c))) n y e

  grows_is : (fuel : ℕ) (v : Tree value) (z : List Token) → may_grow (S.hi q) (suc c) ≡ true → after_value S q (suc c) (list_at S Vs fuel q (suc c)) v (comma ∷ z) ≡ then (list_at S Vs fuel q (suc c) z) (λ l r. got (more v l) r)
  unfolding after_value need
  grows_is fuel v z e = rw e refl

module _ (S : Schema) (s : List ℕ) (f : Frame) (before after : List ℕ) (v : Cursor) (m : ℕ) (h : EndedValue (values_of S f.depth f.parameter (here s f)) s f before after v.at m) where
  pub element_more : (w : ℕ) → Grows S s f.base f.parameter v.at (f.index + 1) w → (fuel : ℕ) → Fewer s f w × Turned (list_at S (values_of S f.depth) (suc fuel) f.parameter f.index (here s f)) (list_at S (values_of S f.depth) fuel f.parameter (suc f.index) (tokens_at f.base s w)) s f before after w m (suc f.index)
  unfolding width rows_of
  element_more w g fuel =
      let r = h.ended.read in
      let b = step_within f.base s v.at comma g.place w g.step in
      let l = step_left f.base s v.at comma g.place w g.step in
      let one_more : width r.tree + 1 ≡ suc (width r.tree) = omega arith in
      let k : may_grow (S.hi f.parameter) (suc f.index) ≡ true = rw (← add-one f.index) g.may in
      let y : lexemes_at f.base s w ≡ drop (suc (width r.tree)) (lexemes_at f.base s f.at) = l ∙ (ap (drop 1) r.left ∙ (drop-drop 1 (width r.tree) (lexemes_at f.base s f.at) ∙ ap (λ j. drop j (lexemes_at f.base s f.at)) one_more)) in (
        omega (arith, ap length (step_tokens f.base s v.at comma g.place w g.step), tokens_length (lexemes_at f.base s v.at), tokens_length (lexemes_at f.base s f.at), ap length r.left, shorter (width r.tree) (lexemes_at f.base s f.at)),
        record {
          going = going_step
              (list_at S (values_of S f.depth) (suc fuel) f.parameter f.index (here s f)) (list_at S (values_of S f.depth) fuel f.parameter (suc f.index) (tokens_at f.base s w))
              (lexemes_at f.base s f.at) (lexemes_at f.base s w) before after f.row f.parameter f.parent f.index m (suc f.index) (more r.tree) (suc (width r.tree)) (rows_of (lexemes_at f.base s f.at) r.tree 0 f.row f.parameter f.parent f.index)
              (list_is S (values_of S f.depth) f.parameter f.index (lexemes_at f.base s f.at) fuel r.tree (tokens_at f.base s v.at) r.is
              ∙ rw (step_tokens f.base s v.at comma g.place w g.step) (grows_is S (values_of S f.depth) f.parameter f.index (lexemes_at f.base s f.at) fuel r.tree (tokens_at f.base s w) k))
              y (λ t. omega arith)
              (λ t. rw (zero-add (suc (width r.tree)), ← r.sized) refl)
              r.written (r.sized ∙ ap (λ j. f.row + j) (sym (rows_counted (lexemes_at f.base s f.at) r.tree 0 f.row f.parameter f.parent f.index)));
          moved = record { far = omega (arith, h.ended.moved.far, b.0); within = b.1; counted = omega (arith, h.ended.moved.counted, b.0) };
        },
      )

  pub element_last : ((next : List Token → Result (Tree list)) (w : Tree value) → after_value S f.parameter (f.index + 1) next w (tokens_at f.base s v.at) ≡ got (last w) (tokens_at f.base s v.at)) → (fuel : ℕ) → Ended (list_at S (values_of S f.depth) (suc fuel) f.parameter f.index (here s f)) s f before after 1 v.at m
  unfolding width rows_of row_count
  element_last g fuel =
      let r = h.ended.read in
      record {
        read = record {
          tree = last r.tree;
          is = list_is S (values_of S f.depth) f.parameter f.index (lexemes_at f.base s f.at) fuel r.tree (tokens_at f.base s v.at) r.is ∙ rw (add-one f.index) at (g (list_at S (values_of S f.depth) fuel f.parameter (suc f.index)) r.tree);
          left = r.left;
          written = r.written;
          sized = r.sized;
        };
        moved = h.ended.moved;
      }

  pub element_after : (n p : ℕ) → ((next : List Token → Result (Tree list)) (w : Tree value) → Stopped (after_value S f.parameter (f.index + 1) next w (tokens_at f.base s v.at)) (lexemes_at f.base s v.at) (f.base + length s) n p) → (fuel : ℕ) → Stopped (list_at S (values_of S f.depth) (suc fuel) f.parameter f.index (here s f)) (lexemes_at f.base s f.at) (f.base + length s) n p
  element_after n p g fuel =
      let r = h.ended.read in
      let t : Tail (lexemes_at f.base s v.at) (lexemes_at f.base s f.at) = rw r.left (drop_tail (width r.tree) (lexemes_at f.base s f.at)) in
      stopped_before (lexemes_at f.base s f.at) (lexemes_at f.base s v.at) t
      (λ j z e. list_is S (values_of S f.depth) f.parameter f.index (lexemes_at f.base s f.at) fuel r.tree (tokens_at f.base s v.at) r.is ∙ e)
      (rw (add-one f.index) at (g (list_at S (values_of S f.depth) fuel f.parameter (suc f.index)) r.tree))

pub element_refused : (S : Schema) (s : List ℕ) (f : Frame) (n p : ℕ) → Stopped (values_of S f.depth f.parameter (here s f)) (lexemes_at f.base s f.at) (f.base + length s) n p → (fuel : ℕ) → Stopped (list_at S (values_of S f.depth) (suc fuel) f.parameter f.index (here s f)) (lexemes_at f.base s f.at) (f.base + length s) n p
element_refused S s f n p h fuel = stopped_before (lexemes_at f.base s f.at) (lexemes_at f.base s f.at) along.here (list_refused S (values_of S f.depth) f.parameter f.index (lexemes_at f.base s f.at) fuel) h

-- ---- bodies
module _ (S : Schema) (s : List ℕ) (f : Frame) (inside : Bool) (before : List ℕ) where
  -- what is empty
  read_none : {k : TreeSort} (o : Result (Tree k)) (t : Tree k) → o ≡ got t (here s f) → width t ≡ 0 → rows_of (lexemes_at f.base s f.at) t 0 f.row f.parameter f.parent f.index ≡ [] → f.at ≤ length s → Ended o s f before before 0 f.at f.row
  unfolding cells
  read_none o t e w r l =
      record {
        read = record { tree = t; is = e; left = rw w refl; written = rw r refl; sized = omega (arith, ap length r, rows_counted (lexemes_at f.base s f.at) t 0 f.row f.parameter f.parent f.index) };
        moved = record { far = omega arith; within = l; counted = omega arith };
      }

  pub field_none : (q : ℕ) (qs : List ℕ) → lists_at S (values_of S f.depth) inside f.parameter (q ∷ qs) (here s f) ≡ got stopped (here s f) → f.at ≤ length s → Ended (lists_at S (values_of S f.depth) inside f.parameter (q ∷ qs) (here s f)) s f before before 0 f.at f.row
  unfolding width rows_of
  field_none q qs e l = read_none (lists_at S (values_of S f.depth) inside f.parameter (q ∷ qs) (here s f)) stopped e refl refl l

  pub items_none : (fuel : ℕ) (ks : List ℕ) → items_at S (values_of S f.depth) inside f.parameter (suc fuel) ks (here s f) ≡ got no_item (here s f) → f.at ≤ length s → Ended (items_at S (values_of S f.depth) inside f.parameter (suc fuel) ks (here s f)) s f before before 0 f.at f.row
  unfolding width rows_of
  items_none fuel ks e l = read_none (items_at S (values_of S f.depth) inside f.parameter (suc fuel) ks (here s f)) no_item e refl refl l

-- the list of the untagged field q
module _ (S : Schema) (s : List ℕ) (f : Frame) (inside : Bool) (before : List ℕ) (q : ℕ) (qs : List ℕ) (e : lists_at S (values_of S f.depth) inside f.parameter (q ∷ qs) (here s f) ≡ list_then S (values_of S f.depth) (lists_at S (values_of S f.depth) inside f.parameter qs) q (here s f)) where
  pub field_on : (after : List ℕ) (at m : ℕ) → Ended (whole_list S (values_of S f.depth) q (here s f)) s (field_of f f.at q) before after 1 at m → Turned (lists_at S (values_of S f.depth) inside f.parameter (q ∷ qs) (here s f)) (lists_at S (values_of S f.depth) inside f.parameter qs (tokens_at f.base s at)) s f before after at m f.index
  unfolding list_then width rows_of
  field_on after at m h =
      let r = h.read in
      record {
        going = going_step
            (lists_at S (values_of S f.depth) inside f.parameter (q ∷ qs) (here s f)) (lists_at S (values_of S f.depth) inside f.parameter qs (tokens_at f.base s at))
            (lexemes_at f.base s f.at) (lexemes_at f.base s at) before after f.row f.parameter f.parent f.index m f.index (listed q r.tree) (width r.tree) (rows_of (lexemes_at f.base s f.at) r.tree 0 f.row q f.parent 0)
            (e ∙ then_got (whole_list S (values_of S f.depth) q (here s f)) _ r.tree (tokens_at f.base s at) r.is)
            r.left (λ t. refl)
            (λ t. rw (zero-add (width r.tree), ← r.sized) refl)
            r.written (r.sized ∙ ap (λ j. f.row + j) (sym (rows_counted (lexemes_at f.base s f.at) r.tree 0 f.row q f.parent 0)));
        moved = h.moved;
      }

  pub field_refused : (k p : ℕ) → Stopped (whole_list S (values_of S f.depth) q (here s f)) (lexemes_at f.base s f.at) (f.base + length s) k p → Stopped (lists_at S (values_of S f.depth) inside f.parameter (q ∷ qs) (here s f)) (lexemes_at f.base s f.at) (f.base + length s) k p
  unfolding list_then
  field_refused k p h = stopped_same e (stopped_then _ h)

-- items
module _ (S : Schema) (n : ℕ) (s : List ℕ) (f : Frame) (inside : Bool) (ks : List ℕ) (marks : List Bool) (before after : List ℕ) where
  -- a void field's item
  pub item_void : (q a e : ℕ) → VoidItem S n s f inside ks q a e → Marks marks (q ∷ ks) → after ≡ sets before (row_width * f.row) (cells (record { parameter = q; parent = f.parent; start = f.base + a; end = f.base + e; index = 0 } ∷ [])) → Itemed S s f inside ks marks before after e (f.row + 1)
  unfolding width rows_of row_over lexeme_at
  item_void q a e v k w =
      let b = step_within f.base s f.at (word v.text) a e v.step in
      let x = step_lex f.base s f.at (word v.text) a e v.step in
      record {
        seen = q ∷ ks;
        marked = k;
        fewer = omega (arith, ap length (step_tokens f.base s f.at (word v.text) a e v.step));
        turned = λ fuel. record {
          going = going_step
              (items_at S (values_of S f.depth) inside f.parameter (suc fuel) ks (here s f)) (items_at S (values_of S f.depth) inside f.parameter fuel (q ∷ ks) (tokens_at f.base s e))
              (lexemes_at f.base s f.at) (lexemes_at f.base s e) before after f.row f.parameter f.parent f.index (f.row + 1) f.index (void_item q v.text) 1 (row_over (lexemes_at f.base s f.at) 0 1 q f.parent 0 ∷ [])
              (v.is (values_of S f.depth) fuel)
              (step_left f.base s f.at (word v.text) a e v.step) (λ t. omega arith)
              (λ t. rw (add-one f.row) refl)
              (w ∙ rw x refl) refl;
          moved = record { far = omega (arith, b.0); within = b.1; counted = omega (arith, b.0) };
        };
      }

  -- a field's item with its list
  module _ (q e : ℕ) (v : ListItem S n s f inside ks q e) where
    pub item_list : (at m : ℕ) → Marks marks (q ∷ ks) → Ended (whole_list S (values_of S f.depth) q (tokens_at f.base s e)) s (field_of f e q) before after 1 at m → Itemed S s f inside ks marks before after at m
    unfolding width rows_of
    item_list at m k h =
        let r = h.read in
        let b = step_within f.base s f.at (word v.text) v.start v.past v.first in
        let c = step_within f.base s v.past equals v.place e v.second in
        let l : lexemes_at f.base s e ≡ drop 2 (lexemes_at f.base s f.at) = step_left f.base s v.past equals v.place e v.second ∙ (ap (drop 1) (step_left f.base s f.at (word v.text) v.start v.past v.first) ∙ drop-drop 1 1 (lexemes_at f.base s f.at)) in
        let g : rows_of (lexemes_at f.base s e) r.tree 0 f.row q f.parent 0 ≡ rows_of (lexemes_at f.base s f.at) r.tree (2 + 0) f.row q f.parent 0 = rw l (rows_at 2 (lexemes_at f.base s f.at) r.tree 0 (2 + 0) f.row q f.parent 0 (omega arith)) in
        record {
          seen = q ∷ ks;
          marked = k;
          fewer = omega (arith, ap length (step_tokens f.base s f.at (word v.text) v.start v.past v.first), ap length (step_tokens f.base s v.past equals v.place e v.second), tokens_length (lexemes_at f.base s e), tokens_length (lexemes_at f.base s at), ap length r.left, shorter (width r.tree) (lexemes_at f.base s e));
          turned = λ fuel. record {
            going = going_step
                (items_at S (values_of S f.depth) inside f.parameter (suc fuel) ks (here s f)) (items_at S (values_of S f.depth) inside f.parameter fuel (q ∷ ks) (tokens_at f.base s at))
                (lexemes_at f.base s f.at) (lexemes_at f.base s at) before after f.row f.parameter f.parent f.index m f.index (list_item q v.text r.tree) (2 + 0 + width r.tree) (rows_of (lexemes_at f.base s f.at) r.tree (2 + 0) f.row q f.parent 0)
                (v.is (values_of S f.depth) fuel ∙ then_got (whole_list S (values_of S f.depth) q (tokens_at f.base s e)) _ r.tree (tokens_at f.base s at) r.is)
                (r.left ∙ (ap (drop (width r.tree)) l ∙ drop-drop (width r.tree) 2 (lexemes_at f.base s f.at))) (λ t. omega arith)
                (λ t. rw (← r.sized) refl)
                (r.written ∙ rw g refl)
                (r.sized ∙ ap (λ j. f.row + j) (sym (rows_counted (lexemes_at f.base s f.at) r.tree (2 + 0) f.row q f.parent 0)));
            moved = record { far = omega (arith, b.0, c.0, h.moved.far); within = h.moved.within; counted = omega (arith, b.0, c.0, h.moved.counted) };
          };
        }

    pub item_refused : (i p : ℕ) → Stopped (whole_list S (values_of S f.depth) q (tokens_at f.base s e)) (lexemes_at f.base s e) (f.base + length s) i p → (fuel : ℕ) → Stopped (items_at S (values_of S f.depth) inside f.parameter (suc fuel) ks (here s f)) (lexemes_at f.base s f.at) (f.base + length s) i p
    item_refused i p h fuel =
        stopped_before (lexemes_at f.base s f.at) (lexemes_at f.base s e)
        (tail_trans (lexemes_at f.base s f.at) (lexemes_at f.base s v.past) (lexemes_at f.base s e) (step_tail f.base s v.past equals v.place e v.second) (step_tail f.base s f.at (word v.text) v.start v.past v.first))
        (λ j z g. v.is (values_of S f.depth) fuel ∙ g) (stopped_then _ h)

  -- an unknown item
  pub item_passed : (e : ℕ) → Passes S s f inside ks e → Marks marks ks → after ≡ before → Itemed S s f inside ks marks before after e f.row
  item_passed e v k w = record {
    seen = ks;
    marked = k;
    fewer = v.short;
    turned = λ fuel. record {
      going = rw w (v.going (values_of S f.depth) fuel f.row f.parent f.index before);
      moved = record { far = omega (arith, v.less); within = v.within; counted = omega (arith, v.less) };
    };
  }

-- ---- a body
pub body_none : (S : Schema) (s : List ℕ) (f : Frame) (inside : Bool) (h : Head) → HeadAt f.base s f.at h → f.depth ≡ 0 → Stopped (body_at S f.depth inside f.parameter (here s f)) (lexemes_at f.base s f.at) (f.base + length s) 0 (f.base + h.start)
unfolding body_at
body_none S s f inside h g e = stop_here (body_at S f.depth inside f.parameter (here s f)) f.base s f.at h 0 g (rw e refl)

pub body_ends_lem : (S : Schema) (s : List ℕ) (f : Frame) (inside : Bool) (before after : List ℕ) (g : Answer Done Refusal) → (f.depth ≡ 0 → ⊥) → Ends (lists_at S (values_of S (f.depth - 1)) inside f.parameter (S.untagged f.parameter) (here s f)) s (deeper_of f) before after 0 g → Ends (body_at S f.depth inside f.parameter (here s f)) s f before after 0 g
unfolding body_at
body_ends_lem S s f inside before after g d h =
    let e : f.depth ≡ suc (f.depth - 1) = omega (arith, d) in
    let i : body_at S f.depth inside f.parameter (here s f) ≡ lists_at S (values_of S (f.depth - 1)) inside f.parameter (S.untagged f.parameter) (here s f) = ap (λ k. body_at S k inside f.parameter (here s f)) e in
    go g h i
  where
    go : (g : Answer Done Refusal) → Ends (lists_at S (values_of S (f.depth - 1)) inside f.parameter (S.untagged f.parameter) (here s f)) s (deeper_of f) before after 0 g → body_at S f.depth inside f.parameter (here s f) ≡ lists_at S (values_of S (f.depth - 1)) inside f.parameter (S.untagged f.parameter) (here s f) → Ends (body_at S f.depth inside f.parameter (here s f)) s f before after 0 g
    go (Ok d) h i = record { read = read_same i h.read; moved = h.moved }
    go (Err x) h i = stopped_same i h

-- ---- structs
place_first : (base : ℕ) (x : List Lex) (a e : ℕ) {t : Token} {y : List Lex} → x ≡ lexeme t (base + a) (base + e) ∷ y → (lexeme_at x 0).start ≡ base + a
unfolding lexeme_at
place_first base x a e h = rw h refl

place_last : (base : ℕ) (x : List Lex) (i j : ℕ) → j ≡ i → (a e : ℕ) {t : Token} {y : List Lex} → drop i x ≡ lexeme t (base + a) (base + e) ∷ y → (lexeme_at x j).end ≡ base + e
unfolding lexeme_at
place_last base x i j q a e h = sym (ap (λ (l : Lex). l.end) (place_at i x 0 j (omega (arith, q)))) ∙ rw h refl

closing_shut : (b : Tree body) (x y : List Token) → x ≡ closing ∷ y → shut b x ≡ got (braced b) y
unfolding shut
closing_shut b x y e = rw e refl

abbrev pub is_place : schema.Kind → Bool
is_place schema.void = false
is_place schema.simple = true
is_place schema.struct = true
is_place schema.union = false
is_place schema.reference = false

module _ (S : Schema) (s : List ℕ) (f : Frame) (u a e : ℕ) (before mid after : List ℕ) (w : Step (cut_at f.base s f.at) f.base s f.at opening a e) where
  struct_is : struct_at (body_at S f.depth true) u (here s f) ≡ then (body_at S f.depth true u (tokens_at f.base s e)) shut
  unfolding struct_at
  struct_is = rw (step_tokens f.base s f.at opening a e w) refl

  body_same : body_at S f.depth true u (tokens_at f.base s e) ≡ body_at S f.depth true u (tokens_at (f.base + e) (take (length s - e) (drop e s)) 0)
  body_same = ap (λ x. body_at S f.depth true u (tokens_of x)) (sym (part_start f.base s e))

  pub braced_refused : (n q : ℕ) → Stopped (body_at S f.depth true u (tokens_at (f.base + e) (take (length s - e) (drop e s)) 0)) (lexemes_at (f.base + e) (take (length s - e) (drop e s)) 0) (f.base + e + length (take (length s - e) (drop e s))) n q → Stopped (struct_at (body_at S f.depth true) u (here s f)) (lexemes_at f.base s f.at) (f.base + length s) n q
  braced_refused n q h =
      let b = step_within f.base s f.at opening a e w in
      let g : Stopped (body_at S f.depth true u (tokens_at f.base s e)) (lexemes_at f.base s e) (f.base + length s) n q = record { rest = h.rest; is = body_same ∙ h.is; along = rw (← part_start f.base s e) h.along; place = h.place ∙ ap (λ j. start_or j h.rest) (part_end f.base s e b.1) } in
      stopped_before (lexemes_at f.base s f.at) (lexemes_at f.base s e) (step_tail f.base s f.at opening a e w) (λ j z k. struct_is ∙ then_refused (body_at S f.depth true u (tokens_at f.base s e)) shut j z k) g

  module _ (v : Cursor) (m : ℕ) (h : Ended (body_at S f.depth true u (tokens_at (f.base + e) (take (length s - e) (drop e s)) 0)) (take (length s - e) (drop e s)) (inner_of f e u) before mid 0 v.at m) where
    inside_is : body_at S f.depth true u (tokens_at f.base s e) ≡ got h.read.tree (tokens_at f.base s (e + v.at))
    inside_is = body_same ∙ (h.read.is ∙ ap (λ x. got h.read.tree (tokens_of x)) (part_lexemes f.base s e v.at))

    inside_left : lexemes_at f.base s (e + v.at) ≡ drop (1 + width h.read.tree) (lexemes_at f.base s f.at)
    inside_left =
        sym (part_lexemes f.base s e v.at) ∙ (h.read.left ∙ (ap (drop (width h.read.tree)) (part_start f.base s e ∙ step_left f.base s f.at opening a e w) ∙ drop-drop (width h.read.tree) 1 (lexemes_at f.base s f.at)))

    shut_done : (at next : ℕ) → Shut s f a (e + v.at) m mid after at next → EndedValue (struct_at (body_at S f.depth true) u (here s f)) s f before after at next
    unfolding width row_count rows_of row_over
    shut_done at next k =
        let t = h.read.tree in
        let x = lexemes_at f.base s f.at in
        let b = step_within f.base s f.at opening a e w in
        let c = step_within f.base s (e + v.at) closing k.place at k.step in
        let first : (lexeme_at x 0).start ≡ f.base + a = place_first f.base x a e (step_lex f.base s f.at opening a e w) in
        let final : (lexeme_at x (0 + (width t + 2) - 1)).end ≡ f.base + at = place_last f.base x (1 + width t) (0 + (width t + 2) - 1) (omega arith) k.place at (sym inside_left ∙ step_lex f.base s (e + v.at) closing k.place at k.step) in
        let same_place : width t + 2 - 1 ≡ 0 + (width t + 2) - 1 = omega arith in
        let final' : (lexeme_at x (width t + 2 - 1)).end ≡ f.base + at = ap (λ (j : ℕ). (lexeme_at x j).end) same_place ∙ final in
        let same_width : 1 + width t + 1 ≡ width t + 2 = omega arith in
        let y : rows_of x t 1 (suc f.row) f.parameter f.row 0 ≡ rows_of (lexemes_at (f.base + e) (take (length s - e) (drop e s)) 0) t 0 (f.row + 1) u f.row 0 =
        rw (part_start f.base s e, step_left f.base s f.at opening a e w, add-one f.row) (body_any x t 1 (suc f.row) f.parameter u f.row 0 ∙ sym (rows_at 1 x t 0 1 (suc f.row) u f.row 0 (omega arith))) in
        record {
          ended = record {
            read = record {
              tree = braced t;
              is = struct_is ∙ (then_got (body_at S f.depth true u (tokens_at f.base s e)) shut t (tokens_at f.base s (e + v.at)) inside_is ∙ shut_is t at k.place k.step);
              left = step_left f.base s (e + v.at) closing k.place at k.step ∙ (ap (drop 1) inside_left ∙ (drop-drop 1 (1 + width t) x ∙ ap (λ (j : ℕ). drop j x) same_width));
              written = k.written ∙ rw (h.read.written, y, first, final) (row_first before f.row (record { parameter = f.parameter; parent = f.parent; start = f.base + a; end = f.base + at; index = f.index }) (rows_of (lexemes_at (f.base + e) (take (length s - e) (drop e s)) 0) t 0 (f.row + 1) u f.row 0));
              sized = omega (arith, k.same, h.read.sized);
            };
            moved = record { far = omega (arith, b.0, c.0); within = c.1; counted = omega (arith, b.0, c.0, k.same, h.moved.counted) };
          };
          wide = omega arith;
          last = final';
        }
      where
        shut_is : (t : Tree body) (at p : ℕ) → Step (cut_at f.base s (e + v.at)) f.base s (e + v.at) closing p at → shut t (tokens_at f.base s (e + v.at)) ≡ got (braced t) (tokens_at f.base s at)
        shut_is t at p k = closing_shut t (tokens_at f.base s (e + v.at)) (tokens_at f.base s at) (step_tokens f.base s (e + v.at) closing p at k)

    pub braced_ends : (r : Answer Done Refusal) → ShutAt s f a (e + v.at) m mid after r → EndsValue (struct_at (body_at S f.depth true) u (here s f)) s f before after r
    braced_ends (Ok d) k = shut_done d.past.at d.row k
    braced_ends (Err x) k =
        stopped_before (lexemes_at f.base s f.at) (lexemes_at f.base s (e + v.at)) (rw inside_left (drop_tail (1 + width h.read.tree) (lexemes_at f.base s f.at)))
        (λ j z g. struct_is ∙ (then_got (body_at S f.depth true u (tokens_at f.base s e)) shut h.read.tree (tokens_at f.base s (e + v.at)) inside_is ∙ g)) (k h.read.tree)

-- ---- values
value_is : (S : Schema) (B : ℕ → List Token → Result (Tree body)) (fuel q : ℕ) (x : List Token) (k : schema.Kind) → S.kind (S.core q) ≡ k → value_at S B (suc fuel) q x ≡ by_kind S B (value_at S B fuel) (S.core q) k x
unfolding value_at
value_is S B fuel q x k e = rw e refl

module _ (S : Schema) (s : List ℕ) (f : Frame) (before after : List ℕ) (g : Answer Done Refusal) where
  pub plain_none : (k : schema.Kind) → S.kind (S.core f.parameter) ≡ k → is_place k ≡ false → ((b a : List ℕ) → EndsValue (none_at (here s f)) s f b a g) → PlainAt S s f before after g
  unfolding by_kind
  plain_none k e p h fuel n = value_same s f before after g (value_is S (body_at S f.depth true) fuel f.parameter (here s f) k e ∙ none_is k p (λ z. n (e ∙ z))) (h before after)
    where
      none_is : (k : schema.Kind) → is_place k ≡ false → (k ≡ schema.union → ⊥) → by_kind S (body_at S f.depth true) (value_at S (body_at S f.depth true) fuel) (S.core f.parameter) k (here s f) ≡ none_at (here s f)
      none_is schema.void p n = refl
      none_is schema.simple p n = let z : ◌≡◌ {A = ℕ} 0 1 = cc in absurd (omega arith)
      none_is schema.struct p n = let z : ◌≡◌ {A = ℕ} 0 1 = cc in absurd (omega arith)
      none_is schema.union p n = absurd (n refl)
      none_is schema.reference p n = refl

  pub plain_simple : (u : ℕ) → u ≡ S.core f.parameter → S.kind u ≡ schema.simple → EndsValue (simple_at S u (here s f)) s f before after g → PlainAt S s f before after g
  unfolding by_kind
  plain_simple u c e h fuel n = value_same s f before after g (value_is S (body_at S f.depth true) fuel f.parameter (here s f) schema.simple (rw c at e)) (rw c at h)

  pub plain_struct : (u : ℕ) → u ≡ S.core f.parameter → S.kind u ≡ schema.struct → EndsValue (struct_at (body_at S f.depth true) u (here s f)) s f before after g → PlainAt S s f before after g
  unfolding by_kind
  plain_struct u c e h fuel n = value_same s f before after g (value_is S (body_at S f.depth true) fuel f.parameter (here s f) schema.struct (rw c at e)) (rw c at h)

-- a value of a list of ints that is plain digits, and with a comma behind
pub quick_ended : (S : Schema) (s : List ℕ) (f : Frame) (before after : List ℕ) (u : Cursor) (m : ℕ) → QuickValue S s f before after u.at m → EndedValue (values_of S f.depth f.parameter (here s f)) s f before after u.at m
unfolding by_kind
quick_ended S s f before after u m q = value_same s f before after (Ok (record { past = u; row = m })) (value_is S (body_at S f.depth true) (length (here s f)) f.parameter (here s f) schema.simple q.simple) q.value

pub quick_element : (S : Schema) (s : List ℕ) (f : Frame) (before after : List ℕ) (u : Cursor) (m : ℕ) → QuickOn S s f before after u.at m → ElementAt S s f before after (Ok (taken.On u m))
quick_element S s f before after u m q = element_more S s f before after (record { at = q.end }) m (quick_ended S s f before after (record { at = q.end }) m q.value) u.at q.more

pub quick_taken : (S : Schema) (s : List ℕ) (f : Frame) (before after : List ℕ) (r : Taken) → QuickAt S s f before after (Some r) → TakenAt S s f before after (Ok r)
quick_taken S s f before after (taken.On u m) q = quick_element S s f before after u m q
quick_taken S s f before after (taken.Last u m) q = quick_ended S s f before after u m q

-- the code's shapes
pub no_place : (z : Shape) → (z ≡ Simple → ⊥) → (z ≡ Struct → ⊥) → is_place (shape_of z) ≡ false
no_place Void a b = refl
no_place Simple a b = absurd (a refl)
no_place Struct a b = absurd (b refl)
no_place Union a b = refl
no_place Reference a b = refl

pub no_choice : (z : Shape) → (z ≡ Union → ⊥) → is_union (shape_of z) ≡ false
unfolding is_union
no_choice Void a = refl
no_choice Simple a = refl
no_choice Struct a = refl
no_choice Union a = absurd (a refl)
no_choice Reference a = refl

-- ---- choices
pub is_union_lem : (k : schema.Kind) → is_union k ≡ true → k ≡ schema.union
unfolding is_union
is_union_lem schema.void e = let z : ◌≡◌ {A = ℕ} 0 1 = cc in absurd (omega arith)
is_union_lem schema.simple e = let z : ◌≡◌ {A = ℕ} 0 1 = cc in absurd (omega arith)
is_union_lem schema.struct e = let z : ◌≡◌ {A = ℕ} 0 1 = cc in absurd (omega arith)
is_union_lem schema.union e = refl
is_union_lem schema.reference e = let z : ◌≡◌ {A = ℕ} 0 1 = cc in absurd (omega arith)

pub no_union : (k : schema.Kind) → is_union k ≡ false → k ≡ schema.union → ⊥
unfolding is_union
no_union k e q = let h : is_union schema.union ≡ false = rw q at e in let z : ◌≡◌ {A = ℕ} 0 1 = cc in omega arith

-- the rows of a chain of choices, with their end where one was read
abbrev pub closed_rows : Answer Done Refusal → ℕ → ℕ → ℕ → List ℕ → List ℕ
closed_rows (Ok d) base first row before = with_ends before first (row - first) (base + d.past.at)
closed_rows (Err x) base first row before = before

-- the frame of what is read next down a chain
abbrev pub chain_of : Frame → ℕ → ℕ → ℕ → ℕ → ℕ → Frame
chain_of f at row q up j = record { base = f.base; at = at; row = row; parameter = q; parent = up; index = j; depth = f.depth }

-- where the loop down a chain stands
pub record Down (S : Schema) (s : List ℕ) (f : Frame) (at row q up j n : ℕ) (before after : List ℕ) : Type 0 where
  pub fuel : ℕ
  pub enough : length (tokens_at f.base s at) < fuel
  pub chain : Chain (values_of S f.depth f.parameter (here s f)) (value_at S (body_at S f.depth true) fuel q (tokens_at f.base s at)) (lexemes_at f.base s f.at) (lexemes_at f.base s at) before after f.row f.parameter f.parent f.index row q up j
  pub room : Room (chain_of f at row q up j) (length s) n
  pub named : q < n
  pub far : f.at ≤ at
  pub counted : row + 2 * f.at ≤ f.row + 2 * at

pub down_start : (S : Schema) (s : List ℕ) (f : Frame) (n : ℕ) (before : List ℕ) → Room f (length s) n → f.parameter < n → Down S s f f.at f.row f.parameter f.parent f.index n before before
down_start S s f n before r q = record {
  fuel = suc (length (here s f));
  enough = omega arith;
  chain = chain_start (values_of S f.depth f.parameter (here s f)) (lexemes_at f.base s f.at) before f.row f.parameter f.parent f.index;
  room = r;
  named = q;
  far = omega arith;
  counted = omega arith;
}

union_is : (S : Schema) (B : ℕ → List Token → Result (Tree body)) (fuel q u : ℕ) (x : List Token) → u ≡ S.core q → is_union (S.kind u) ≡ true → value_at S B (suc fuel) q x ≡ union_at S (value_at S B fuel) u x
unfolding value_at by_kind
union_is S B fuel q u x c e = rw (← c, is_union_lem (S.kind u) e) refl

module _ (S : Schema) (s : List ℕ) (f : Frame) (at row q up j n : ℕ) (before after : List ℕ) (d : Down S s f at row q up j n before after) where
  -- one choice deeper
  pub down_on : (u c a e : ℕ) (mid : List ℕ) → u ≡ S.core q → is_union (S.kind u) ≡ true → Deeper S n s (chain_of f at row q up j) u c a e → mid ≡ open_row (chain_of f at row q up j) a after → Down S s f e (row + 1) c row 0 n before mid
  down_on u c a e mid i k w r = go d.fuel d.enough d.chain
    where
      b : (at < w.past) × (w.past ≤ length s)
      b = step_within f.base s at (word w.text) a w.past w.first

      b' : (w.past < e) × (e ≤ length s)
      b' = step_within f.base s w.past equals w.place e w.second

      l : lexemes_at f.base s e ≡ drop 2 (lexemes_at f.base s at)
      l = step_left f.base s w.past equals w.place e w.second ∙ (ap (drop 1) (step_left f.base s at (word w.text) a w.past w.first) ∙ drop-drop 1 1 (lexemes_at f.base s at))

      p : (lexeme_at (lexemes_at f.base s at) 0).start ≡ f.base + a
      p = place_first f.base (lexemes_at f.base s at) a w.past (step_lex f.base s at (word w.text) a w.past w.first)

      go : (fuel : ℕ) → length (tokens_at f.base s at) < fuel → Chain (values_of S f.depth f.parameter (here s f)) (value_at S (body_at S f.depth true) fuel q (tokens_at f.base s at)) (lexemes_at f.base s f.at) (lexemes_at f.base s at) before after f.row f.parameter f.parent f.index row q up j → Down S s f e (row + 1) c row 0 n before mid
      go zero h z = absurd (omega arith)
      go (suc fuel) h z = record {
        fuel = fuel;
        enough = omega (arith, h, ap length (step_tokens f.base s at (word w.text) a w.past w.first), ap length (step_tokens f.base s w.past equals w.place e w.second));
        chain = chain_on z c w.text (union_is S (body_at S f.depth true) fuel q u (tokens_at f.base s at) i k ∙ w.is (value_at S (body_at S f.depth true) fuel)) l (r ∙ rw p refl);
        room = room_under (chain_of f at row q up j) (length s) n e c d.room (omega (arith, b.0, b'.0)) b'.1;
        named = w.below;
        far = omega (arith, d.far, b.0, b'.0);
        counted = omega (arith, d.counted, b.0, b'.0);
      }

  -- what the chain holds is read
  down_read : (o : Result (Tree value)) → Chain (values_of S f.depth f.parameter (here s f)) o (lexemes_at f.base s f.at) (lexemes_at f.base s at) before after f.row f.parameter f.parent f.index row q up j
      → (mid final : List ℕ) (r : Answer Done Refusal) → EndsValue o s (chain_of f at row q up j) after mid r → final ≡ closed_rows r f.base f.row row mid
      → EndsValue (values_of S f.depth f.parameter (here s f)) s f before final r
  down_read o z mid final (Ok v) h e =
      let c = chain_read z h.ended.read h.wide h.last e in
      record {
        ended = record {
          read = c.0;
          moved = record { far = omega (arith, d.far, h.ended.moved.far); within = h.ended.moved.within; counted = omega (arith, d.counted, h.ended.moved.counted) };
        };
        wide = c.1;
        last = c.2;
      }
  down_read o z mid final (Err x) h e = chain_stopped z h

  pub down_value : (mid final : List ℕ) (g : Answer Done Refusal) → is_union (S.kind (S.core q)) ≡ false → PlainAt S s (chain_of f at row q up j) after mid g → final ≡ closed_rows g f.base f.row row mid → EndsValue (values_of S f.depth f.parameter (here s f)) s f before final g
  down_value mid final g u h e = go d.fuel d.enough d.chain
    where
      go : (fuel : ℕ) → length (tokens_at f.base s at) < fuel → Chain (values_of S f.depth f.parameter (here s f)) (value_at S (body_at S f.depth true) fuel q (tokens_at f.base s at)) (lexemes_at f.base s f.at) (lexemes_at f.base s at) before after f.row f.parameter f.parent f.index row q up j → EndsValue (values_of S f.depth f.parameter (here s f)) s f before final g
      go zero l z = absurd (omega arith)
      go (suc fuel) l z = down_read (value_at S (body_at S f.depth true) (suc fuel) q (tokens_at f.base s at)) z mid final g (h fuel (no_union (S.kind (S.core q)) u)) e

  whole_read : (u c a e : ℕ) (mid : List ℕ) (fuel : ℕ) → u ≡ S.core q → is_union (S.kind u) ≡ true → Whole S n s (chain_of f at row q up j) u c a e → (g : Done) → WholeAt (chain_of f at row q up j) c a e after mid g → EndsValue (value_at S (body_at S f.depth true) (suc fuel) q (tokens_at f.base s at)) s (chain_of f at row q up j) after mid (Ok g)
  unfolding row_over lexeme_at
  whole_read u c a e mid fuel i k w g t =
      let x = step_lex f.base s at (word w.text) a e w.step in
      let b = step_within f.base s at (word w.text) a e w.step in
      let y : rows_of (lexemes_at f.base s at) w.tree 0 row q up j ≡ record { parameter = q; parent = up; start = f.base + a; end = f.base + e; index = j } ∷ record { parameter = c; parent = row; start = f.base + a; end = f.base + e; index = 0 } ∷ [] = w.rows (lexemes_at f.base s at) row q up j ∙ rw x refl in
      record {
        ended = record {
          read = record {
            tree = w.tree;
            is = union_is S (body_at S f.depth true) fuel q u (tokens_at f.base s at) i k ∙ (w.is (value_at S (body_at S f.depth true) fuel) ∙ rw t.same refl);
            left = rw (w.wide, t.same) (step_left f.base s at (word w.text) a e w.step);
            written = t.written ∙ rw y refl;
            sized = omega (arith, t.sized, ap length y, rows_counted (lexemes_at f.base s at) w.tree 0 row q up j);
          };
          moved = record { far = omega (arith, b.0, t.same); within = omega (arith, b.1, t.same); counted = omega (arith, b.0, t.same, t.sized) };
        };
        wide = omega (arith, w.wide);
        last = rw (w.wide, x, t.same) refl;
      }

  pub down_whole : (u c a e : ℕ) (mid final : List ℕ) (g : Done) → u ≡ S.core q → is_union (S.kind u) ≡ true → Whole S n s (chain_of f at row q up j) u c a e → WholeAt (chain_of f at row q up j) c a e after mid g → final ≡ closed_rows (Ok g) f.base f.row row mid → EndsValue (values_of S f.depth f.parameter (here s f)) s f before final (Ok g)
  down_whole u c a e mid final g i k w t z = go d.fuel d.enough d.chain
    where
      go : (fuel : ℕ) → length (tokens_at f.base s at) < fuel → Chain (values_of S f.depth f.parameter (here s f)) (value_at S (body_at S f.depth true) fuel q (tokens_at f.base s at)) (lexemes_at f.base s f.at) (lexemes_at f.base s at) before after f.row f.parameter f.parent f.index row q up j → EndsValue (values_of S f.depth f.parameter (here s f)) s f before final (Ok g)
      go zero l x = absurd (omega arith)
      go (suc fuel) l x = down_read (value_at S (body_at S f.depth true) (suc fuel) q (tokens_at f.base s at)) x mid final (Ok g) (whole_read u c a e mid fuel i k w g t) z

  pub down_stopped : (u k p : ℕ) → u ≡ S.core q → is_union (S.kind u) ≡ true → ((Vs : Values) → Stopped (union_at S Vs u (tokens_at f.base s at)) (lexemes_at f.base s at) (f.base + length s) k p) → Stopped (values_of S f.depth f.parameter (here s f)) (lexemes_at f.base s f.at) (f.base + length s) k p
  down_stopped u k p i e h = go d.fuel d.enough d.chain
    where
      go : (fuel : ℕ) → length (tokens_at f.base s at) < fuel → Chain (values_of S f.depth f.parameter (here s f)) (value_at S (body_at S f.depth true) fuel q (tokens_at f.base s at)) (lexemes_at f.base s f.at) (lexemes_at f.base s at) before after f.row f.parameter f.parent f.index row q up j → Stopped (values_of S f.depth f.parameter (here s f)) (lexemes_at f.base s f.at) (f.base + length s) k p
      go zero l z = absurd (omega arith)
      go (suc fuel) l z = chain_stopped z (stopped_same (union_is S (body_at S f.depth true) fuel q u (tokens_at f.base s at) i e) (h (value_at S (body_at S f.depth true) fuel)))

-- ---- the loops' invariants
sets_length : (before after : List ℕ) (i : ℕ) (vs : List ℕ) → after ≡ sets before i vs → length after ≡ length before
sets_length before after i vs e = ap length e ∙ length-sets before i vs

-- a list, some of whose values are read: as many as the next one's index says
pub record Listing (S : Schema) (s : List ℕ) (f g : Frame) (before after : List ℕ) : Type 0 where
  pub same : g ≡ placed_of f g.at g.row g.index
  pub loop : Loop (whole_list S (values_of S f.depth) f.parameter (here s f)) (λ fuel. list_at S (values_of S f.depth) fuel f.parameter g.index (tokens_at f.base s g.at)) s f before after g.at g.row g.index
  pub few : g.index ≤ g.at
  pub size : length after ≡ length before

pub listing_start : (S : Schema) (s : List ℕ) (f : Frame) (before : List ℕ) → f.at ≤ length s → f.index ≡ 0 → Listing S s f f before before
listing_start S s f before h z = record {
  same = refl;
  loop = subst (λ c. Loop (list_at S (values_of S f.depth) (suc (length (here s f))) f.parameter c (here s f)) (λ fuel. list_at S (values_of S f.depth) fuel f.parameter f.index (here s f)) s f before before f.at f.row f.index) z
      (loop_start (λ fuel. list_at S (values_of S f.depth) fuel f.parameter f.index (here s f)) s f before h);
  few = omega (arith, z);
  size = refl;
}

module _ {S : Schema} {s : List ℕ} {f g : Frame} {before after : List ℕ} (i : Listing S s f g before after) where
  pub listing_named : g.parameter ≡ f.parameter
  listing_named = ap (λ (z : Frame). z.parameter) i.same

  module _ (mid : List ℕ) (u : Cursor) (m : ℕ) where
    pub listing_turn : ElementAt S s g after mid (Ok (taken.On u m)) → (g.at < u.at) × (u.at ≤ length s)
    listing_turn w = (omega (arith, (w 0).1.moved.far), (w 0).1.moved.within)

    pub listing_on : (g' : Frame) → ElementAt S s g after mid (Ok (taken.On u m)) → g' ≡ next_of g u.at m g.parent → Listing S s f g' before mid
    listing_on g' h q =
        let w : (fuel : ℕ) → Fewer s (placed_of f g.at g.row g.index) u.at × Turned (list_at S (values_of S f.depth) (suc fuel) f.parameter g.index (tokens_at f.base s g.at)) (list_at S (values_of S f.depth) fuel f.parameter (suc g.index) (tokens_at f.base s u.at)) s (placed_of f g.at g.row g.index) after mid u.at m (suc g.index)
        = subst (λ z. ElementAt S s z after mid (Ok (taken.On u m))) i.same h in
        let b = listing_turn h in
        let k : g' ≡ placed_of f u.at m (suc g.index) = q ∙ (ap (λ z. next_of z u.at m z.parent) i.same ∙ ap (λ j. placed_of f u.at m j) (add-one g.index)) in
        rw k record {
          same = refl;
          loop = loop_on i.loop (w 0).0 (λ fuel. (w fuel).1);
          few = omega (arith, i.few, b.0);
          size = sets_length after mid (row_width * g.row) (cells (w 0).1.going.acc) (w 0).1.going.written ∙ i.size;
        }

    pub listing_done : ElementAt S s g after mid (Ok (taken.Last u m)) → Ended (whole_list S (values_of S f.depth) f.parameter (here s f)) s f before mid 1 u.at m
    listing_done h = loop_out i.loop mid 1 (Ok (record { past = u; row = m })) (subst (λ z. ElementAt S s z after mid (Ok (taken.Last u m))) i.same h)

  pub listing_refused : (mid : List ℕ) (x : Refusal) → ElementAt S s g after mid (Err x) → Stopped (whole_list S (values_of S f.depth) f.parameter (here s f)) (lexemes_at f.base s f.at) (f.base + length s) (rule_number x.rule) x.place
  listing_refused mid x h = loop_stopped i.loop (rule_number x.rule) x.place (subst (λ z. ElementAt S s z after mid (Err x)) i.same h)

-- a body: lists of untagged fields, then items
left_start : (S : Schema) (Vs : Values) (inside : Bool) (p : ℕ) (qs : List ℕ) (x : List Lex) (rows : List ℕ) (row up j : ℕ) → Going (lists_at S Vs inside p qs (tokens_of x)) (left_at S Vs inside p qs [] (suc (length (tokens_of x))) (tokens_of x)) x x rows rows row p up j row j
unfolding lists_at width rows_of cells
left_start S Vs inside p [] x rows row up j = going_step (lists_at S Vs inside p [] (tokens_of x)) (items_at S Vs inside p (suc (length (tokens_of x))) [] (tokens_of x)) x x rows rows row p up j row j itemized 0 [] refl refl (λ t. omega arith) (λ t. refl) refl (omega arith)
left_start S Vs inside p (q ∷ qs) x rows row up j = going_start (lists_at S Vs inside p (q ∷ qs) (tokens_of x)) x rows row p up j

pub bodying_start : (t o : List ℕ) (n : ℕ) (s : List ℕ) (f : Frame) (inside : Bool) (before : List ℕ) (marks : List Bool) → marks ≡ no_marks → f.at ≤ length s → Bodying (schema_at t o n) s f f inside before before marks (untagged_from t o n f.parameter 0)
bodying_start t o n s f inside before marks m h = subst (Bodying (schema_at t o n) s f f inside before before marks) (untagged_all t o n f.parameter) record {
  same = refl;
  seen = [];
  marked = rw m marks_none;
  fresh = λ q rest e. refl;
  loop = record {
    fuel = suc (length (here s f));
    enough = omega arith;
    line = record {
      going = left_start (schema_at t o n) (values_of (schema_at t o n) f.depth) inside f.parameter ((schema_at t o n).untagged f.parameter) (lexemes_at f.base s f.at) before f.row f.parent f.index;
      moved = record { far = omega arith; within = h; counted = omega arith };
    };
  };
  size = refl;
}

module _ {S : Schema} {s : List ℕ} {f g : Frame} {inside : Bool} {before after : List ℕ} {marks : List Bool} {qs : List ℕ} (i : Bodying S s f g inside before after marks qs) where
  pub bodying_room : (n : ℕ) → Room f (length s) n → Room g (length s) n
  bodying_room n r = rw i.same (room_moved f (length s) n 0 g.at g.row r i.loop.line.moved)

  pub bodying_depth : g.depth ≡ f.depth
  bodying_depth = ap (λ (z : Frame). z.depth) i.same

  pub bodying_out : (mid : List ℕ) (r : Answer Done Refusal) → ((fuel : ℕ) → Ends (left_at S (values_of S g.depth) inside g.parameter qs i.seen (suc fuel) (here s g)) s g after mid 0 r) → Ends (body_of S s f inside) s f before mid 0 r
  bodying_out mid r h = loop_out i.loop mid 0 r (subst (λ z. (fuel : ℕ) → Ends (left_at S (values_of S z.depth) inside z.parameter qs i.seen (suc fuel) (here s z)) s z after mid 0 r) i.same h)

  pub bodying_stopped : (n q : ℕ) → ((fuel : ℕ) → Stopped (left_at S (values_of S g.depth) inside g.parameter qs i.seen (suc fuel) (here s g)) (lexemes_at g.base s g.at) (g.base + length s) n q) → Stopped (body_of S s f inside) (lexemes_at f.base s f.at) (f.base + length s) n q
  bodying_stopped n q h = loop_stopped i.loop n q (subst (λ z. (fuel : ℕ) → Stopped (left_at S (values_of S z.depth) inside z.parameter qs i.seen (suc fuel) (here s z)) (lexemes_at z.base s z.at) (z.base + length s) n q) i.same h)

-- after the untagged fields
module _ {S : Schema} {s : List ℕ} {f g : Frame} {inside : Bool} {before after : List ℕ} {marks : List Bool} (i : Bodying S s f g inside before after marks []) where
  pub bodying_item : (mid : List ℕ) (new : List Bool) (at m : ℕ) → Itemed S s g inside i.seen new after mid at m → (g.at < at) × Bodying S s f (moved_of g at m) inside before mid new []
  bodying_item mid new at m h =
      let w : Itemed S s (moved_of f g.at g.row) inside i.seen new after mid at m = subst (λ z. Itemed S s z inside i.seen new after mid at m) i.same h in (
        omega (arith, (h.turned 0).moved.far),
        record {
          same = ap (λ z. moved_of z at m) i.same;
          seen = w.seen;
          marked = w.marked;
          fresh = λ q rest e. let z : ◌≡◌ {A = ℕ} 0 1 = cc in absurd (omega arith);
          loop = loop_on i.loop w.fewer w.turned;
          size = sets_length after mid (row_width * g.row) (cells (w.turned 0).going.acc) (w.turned 0).going.written ∙ i.size;
        },
      )

  pub due_item : (n : ℕ) (new : List Bool) (q e : ℕ) (v : ListItem S n s g inside i.seen q e) → Marks new (q ∷ i.seen) → Due S n s f g inside before after new q e []
  due_item n new q e v k =
      let b = step_within g.base s g.at (word v.text) v.start v.past v.first in
      let c = step_within g.base s v.past equals v.place e v.second in
      record {
        below = v.below;
        far = omega (arith, b.0, c.0);
        within = c.1;
        read = λ mid at m h. (bodying_item mid new at m (item_list S n s g inside i.seen new after mid q e v at m k h)).1;
        refused = λ j p h. bodying_stopped i j p (item_refused S n s g inside i.seen new after after q e v j p h);
      }

-- before the list of the untagged field q
module _ {S : Schema} {s : List ℕ} {f g : Frame} {inside : Bool} {before after : List ℕ} {marks : List Bool} {q : ℕ} {qs : List ℕ} (i : Bodying S s f g inside before after marks (q ∷ qs)) where
  bodying_field : (mid : List ℕ) (at m : ℕ) → Turned (lists_at S (values_of S g.depth) inside g.parameter (q ∷ qs) (here s g)) (lists_at S (values_of S g.depth) inside g.parameter qs (tokens_at g.base s at)) s g after mid at m g.index → Bodying S s f (moved_of g at m) inside before mid marks qs
  bodying_field mid at m h =
      let w : Turned (lists_at S (values_of S f.depth) inside f.parameter (q ∷ qs) (tokens_at f.base s g.at)) (lists_at S (values_of S f.depth) inside f.parameter qs (tokens_at f.base s at)) s (moved_of f g.at g.row) after mid at m f.index
      = subst (λ z. Turned (lists_at S (values_of S z.depth) inside z.parameter (q ∷ qs) (here s z)) (lists_at S (values_of S z.depth) inside z.parameter qs (tokens_at z.base s at)) s z after mid at m z.index) i.same h in
      let l = line_on i.loop.line w in
      record {
        same = ap (λ z. moved_of z at m) i.same;
        seen = [];
        marked = subst (Marks marks) (i.fresh q qs refl) i.marked;
        fresh = λ p rest e. refl;
        loop = record {
          fuel = suc (length (tokens_at f.base s at));
          enough = omega arith;
          line = record { going = going_on l.going (left_start S (values_of S f.depth) inside f.parameter qs (lexemes_at f.base s at) mid m f.parent f.index); moved = l.moved };
        };
        size = sets_length after mid (row_width * g.row) (cells w.going.acc) w.going.written ∙ i.size;
      }

  pub due_field : (n : ℕ) → q < n → lists_at S (values_of S g.depth) inside g.parameter (q ∷ qs) (here s g) ≡ list_then S (values_of S g.depth) (lists_at S (values_of S g.depth) inside g.parameter qs) q (here s g) → Due S n s f g inside before after marks q g.at qs
  due_field n b e = record {
    below = b;
    far = omega arith;
    within = i.loop.line.moved.within;
    read = λ mid at m h. bodying_field mid at m (field_on S s g inside after q qs e mid at m h);
    refused = λ k p h. bodying_stopped i k p (λ fuel. field_refused S s g inside after q qs e k p h);
  }

-- none is left from the last record on
pub untagged_end : (t o : List ℕ) (n p : ℕ) → untagged_from t o n p n ≡ []
unfolding numbers_where
untagged_end t o n p = ap (numbers_where (is_untagged_of p) n) (drop_of_length-le (records_at t o n) {i = n} (omega (arith, length_records t o n 0)))

-- down a chain of choices
pub record Choosing (S : Schema) (s : List ℕ) (f g : Frame) (n : ℕ) (before after : List ℕ) : Type 0 where
  pub same : g ≡ chain_of f g.at g.row g.parameter g.parent g.index
  pub down : Down S s f g.at g.row g.parameter g.parent g.index n before after
  pub size : length after ≡ length before

pub choosing_start : (S : Schema) (s : List ℕ) (f : Frame) (n : ℕ) (before : List ℕ) → Room f (length s) n → f.parameter < n → Choosing S s f f n before before
choosing_start S s f n before r q = record { same = refl; down = down_start S s f n before r q; size = refl }

module _ {S : Schema} {s : List ℕ} {f g : Frame} {n : ℕ} {before after : List ℕ} (i : Choosing S s f g n before after) where
  pub choosing_room : Room g (length s) n
  choosing_room = rw i.same i.down.room

  pub choosing_value : (u : ℕ) (mid final : List ℕ) (x : Answer Done Refusal) → u ≡ S.core g.parameter → is_union (S.kind u) ≡ false → PlainAt S s g after mid x → final ≡ closed_rows x f.base f.row g.row mid → EndsValue (values_of S f.depth f.parameter (here s f)) s f before final x
  choosing_value u mid final x c k h w = down_value S s f g.at g.row g.parameter g.parent g.index n before after i.down mid final x (rw c at k) (subst (λ z. PlainAt S s z after mid x) i.same h) w

  pub choosing_whole : (u c a e : ℕ) (mid final : List ℕ) (x : Done) → u ≡ S.core g.parameter → is_union (S.kind u) ≡ true → Whole S n s g u c a e → WholeAt g c a e after mid x → final ≡ closed_rows (Ok x) f.base f.row g.row mid → EndedValue (values_of S f.depth f.parameter (here s f)) s f before final x.past.at x.row
  choosing_whole u c a e mid final x d k h t w = down_whole S s f g.at g.row g.parameter g.parent g.index n before after i.down u c a e mid final x d k (subst (λ z. Whole S n s z u c a e) i.same h) (subst (λ z. WholeAt z c a e after mid x) i.same t) w

  pub choosing_stopped : (u k p : ℕ) → u ≡ S.core g.parameter → is_union (S.kind u) ≡ true → ((Vs : Values) → Stopped (union_at S Vs u (here s g)) (lexemes_at g.base s g.at) (g.base + length s) k p) → Stopped (values_of S f.depth f.parameter (here s f)) (lexemes_at f.base s f.at) (f.base + length s) k p
  choosing_stopped u k p d e h = down_stopped S s f g.at g.row g.parameter g.parent g.index n before after i.down u k p d e (subst (λ z. (Vs : Values) → Stopped (union_at S Vs u (here s z)) (lexemes_at z.base s z.at) (z.base + length s) k p) i.same h)

  pub choosing_on : (u c a e : ℕ) (mid : List ℕ) (g' : Frame) → u ≡ S.core g.parameter → is_union (S.kind u) ≡ true → Deeper S n s g u c a e → mid ≡ open_row g a after → g' ≡ under_of g e c → Choosing S s f g' n before mid
  choosing_on u c a e mid g' d k h w q =
      let y : g' ≡ chain_of f e (g.row + 1) c g.row 0 = q ∙ ap (λ z. under_of z e c) i.same in
      let x : mid ≡ open_row (chain_of f g.at g.row g.parameter g.parent g.index) a after = w ∙ ap (λ z. open_row z a after) i.same in
      rw y record {
        same = refl;
        down = down_on S s f g.at g.row g.parameter g.parent g.index n before after i.down u c a e mid d k (subst (λ z. Deeper S n s z u c a e) i.same h) x;
        size = sets_length after mid (row_width * g.row) (cells (record { parameter = g.parameter; parent = g.parent; start = g.base + a; end = 0; index = g.index } ∷ [])) w ∙ i.size;
      }

pub plain_fits : (S : Schema) (s : List ℕ) (g : Frame) (after mid : List ℕ) (u : ℕ) (x : Done) → u ≡ S.core g.parameter → is_union (S.kind u) ≡ false → PlainAt S s g after mid (Ok x) → x.past.at ≤ length s
plain_fits S s g after mid u x c k h = (h 0 (no_union (S.kind (S.core g.parameter)) (rw c at k))).ended.moved.within

pub next_between : (t o : List ℕ) (n p i q : ℕ) → first (untagged_from t o n p i) ≡ found q → (i ≤ q) × (q < n)
next_between t o n p i q e = ((next_in (is_untagged_of p) i (drop i (records_at t o n)) q e).from, untagged_below t o n p i q e)
