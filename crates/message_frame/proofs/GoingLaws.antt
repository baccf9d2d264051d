-- Loops of the readers: start, one step, one more, the end.
use mathlib.Core.Path.{◌≡◌, refl, sym, ap, ◌∙◌}
use mathlib.Core.List.{List, [], ◌∷◌, ◌++◌, append_assoc}
use Prim.Native.Nat.{ℕ, suc, ◌+◌, ◌-◌, ◌*◌, ◌≤◌}
use native.Mathlib.Omega.{arith}
use lib.ListN.{length, drop, length-append}
use lib.Seq.{sets, drop-drop}
use Rattle.numbers.specs.Limits.{row_width}
use Rattle.reading_rules.specs.Token.{Token}
use Rattle.reading_rules.specs.Reading.{TreeSort, value, Tree, chosen, width}
use Rattle.message_rules.specs.Scan.{tokens_of, Lexeme as Lex}
use Rattle.reading_rules.specs.Parse.{Result, refused, got, then}
use Rattle.message_rules.specs.Rows.{Row, row_count, lexeme_at, row_over, rows_of, cells}
use Rattle.message_rules.proofs.RowLaws.{rows_counted}
use Rattle.message_unknown.specs.Along.{Tail, here, Stopped}
use Rattle.message_unknown.proofs.AlongLaws.{tail_trans, drop_tail}
use Rattle.message_rows.specs.Filled.{with_ends, ended}
use Rattle.message_rows.proofs.Stores.{rows_append, ended_append, ended_length, rows_ended}
use Rattle.message_rows.proofs.Trees.{rows_at, place_at}
use Rattle.message_frame.specs.Ends.{Read}
use Rattle.message_frame.specs.Going.{Going, Chain}

-- refused: with the same answer from further left
pub stopped_before : {A B : Type 0} {o : Result A} {o' : Result B} (x y : List Lex) {end n q : ℕ} → Tail y x → ((m : ℕ) (z : List Token) → o' ≡ refused m z → o ≡ refused m z) → Stopped o' y end n q → Stopped o x end n q
stopped_before x y {n = n} t f s = record { rest = s.rest; is = f n (tokens_of s.rest) s.is; along = tail_trans x y s.rest s.along t; place = s.place }

pub then_refused : {A B : Type 0} (o : Result A) (f : A → List Token → Result B) (n : ℕ) (z : List Token) → o ≡ refused n z → then o f ≡ refused n z
unfolding then
then_refused o f n z e = rw e refl

pub then_got : {A B : Type 0} (o : Result A) (f : A → List Token → Result B) (a : A) (z : List Token) → o ≡ got a z → then o f ≡ f a z
unfolding then
then_got o f a z e = rw e refl

-- a part of a reading that was refused
pub stopped_then : {A B : Type 0} {o : Result A} (f : A → List Token → Result B) {x : List Lex} {end n q : ℕ} → Stopped o x end n q → Stopped (then o f) x end n q
stopped_then {o = o} f {x} s = stopped_before x x here (then_refused o f) s

pub stopped_same : {A : Type 0} {o o' : Result A} {x : List Lex} {end n q : ℕ} → o ≡ o' → Stopped o' x end n q → Stopped o x end n q
stopped_same e s = record { rest = s.rest; is = e ∙ s.is; along = s.along; place = s.place }

pub read_same : {k : TreeSort} {o o' : Result (Tree k)} {x y : List Lex} {before after : List ℕ} {row p up j next : ℕ} → o ≡ o' → Read o' x y before after row p up j next → Read o x y before after row p up j next
read_same e r = record { tree = r.tree; is = e ∙ r.is; left = r.left; written = r.written; sized = r.sized }

pub going_start : {k : TreeSort} (o : Result (Tree k)) (x : List Lex) (before : List ℕ) (row p up j : ℕ) → Going o o x x before before row p up j row j
unfolding cells
going_start o x before row p up j = record {
  tokens = 0;
  left = refl;
  acc = [];
  refuses = λ n z h. h;
  gets = λ t z h. record { tree = t; is = h; wide = omega arith; rows = refl };
  written = refl;
  sized = omega arith;
}

module _ {k k' : TreeSort} {o : Result (Tree k)} {o' : Result (Tree k')} {x y : List Lex} {before after : List ℕ} {row p up j next j' : ℕ} (g : Going o o' x y before after row p up j next j') where
  pub going_tail : Tail y x
  going_tail = rw g.left (drop_tail g.tokens x)

  pub going_stopped : {end n q : ℕ} → Stopped o' y end n q → Stopped o x end n q
  going_stopped s = stopped_before x y going_tail g.refuses s

  pub going_on : {k'' : TreeSort} {o'' : Result (Tree k'')} {z : List Lex} {last : List ℕ} {m j'' : ℕ} → Going o' o'' y z after last next p up j' m j'' → Going o o'' x z before last row p up j m j''
  going_on {k''} {o''} {z} {last} {m} {j''} h = record {
    tokens = g.tokens + h.tokens;
    left = h.left ∙ (ap (drop h.tokens) g.left ∙ drop-drop h.tokens g.tokens x);
    acc = g.acc ++ h.acc;
    refuses = λ n r e. g.refuses n r (h.refuses n r e);
    gets = λ t r e.
        let a = h.gets t r e in
        let b = g.gets a.tree r a.is in
        record { tree = b.tree; is = b.is; wide = omega (arith, a.wide, b.wide); rows = b.rows ∙ (ap (λ l. g.acc ++ l) a.rows ∙ sym (append_assoc g.acc h.acc (rows_of z t 0 m p up j''))) };
    written = h.written ∙ (rw g.written (rows_append before row next g.acc h.acc g.sized));
    sized = omega (arith, g.sized, h.sized, length-append g.acc h.acc);
  }

  pub going_read : {z : List Lex} {last : List ℕ} {m : ℕ} → Read o' y z after last next p up j' m → Read o x z before last row p up j m
  going_read {z} {last} {m} r =
      let w = g.gets r.tree (tokens_of z) r.is in
      let c : length (rows_of x w.tree 0 row p up j) ≡ row_count w.tree = rows_counted x w.tree 0 row p up j in
      let d : length (rows_of y r.tree 0 next p up j') ≡ row_count r.tree = rows_counted y r.tree 0 next p up j' in
      record {
        tree = w.tree;
        is = w.is;
        left = r.left ∙ (ap (drop (width r.tree)) g.left ∙ (drop-drop (width r.tree) g.tokens x ∙ ap (λ n. drop n x) (sym w.wide)));
        written = r.written ∙ (rw (g.written, w.rows) (rows_append before row next g.acc (rows_of y r.tree 0 next p up j') g.sized));
        sized = omega (arith, g.sized, r.sized, c, d, ap length w.rows, length-append g.acc (rows_of y r.tree 0 next p up j'));
      }

-- one step: the answer is the answer after n tokens, put into a larger tree, with the rows acc in front
pub going_step : {k k' : TreeSort} (o : Result (Tree k)) (o' : Result (Tree k')) (x y : List Lex) (before after : List ℕ) (row p up j next j' : ℕ) (wrap : Tree k' → Tree k) (n : ℕ) (acc : List Row)
    → o ≡ then o' (λ t z. got (wrap t) z)
    → y ≡ drop n x
    → ((t : Tree k') → width (wrap t) ≡ n + width t)
    → ((t : Tree k') → rows_of x (wrap t) 0 row p up j ≡ acc ++ rows_of x t n next p up j')
    → after ≡ sets before (row_width * row) (cells acc)
    → next ≡ row + length acc
    → Going o o' x y before after row p up j next j'
going_step o o' x y before after row p up j next j' wrap n acc e l w r s m = record {
  tokens = n;
  left = l;
  acc = acc;
  refuses = λ k z h. e ∙ then_refused o' (λ t z. got (wrap t) z) k z h;
  gets = λ t z h. record {
    tree = wrap t;
    is = e ∙ then_got o' (λ t z. got (wrap t) z) t z h;
    wide = w t;
    rows = r t ∙ ap (λ l. acc ++ l) (sym (rw l (rows_at n x t 0 n next p up j' (omega arith))));
  };
  written = s;
  sized = m;
}

-- chains of choices
pub chain_start : (o : Result (Tree value)) (x : List Lex) (before : List ℕ) (row p up j : ℕ) → Chain o o x x before before row p up j row p up j
unfolding cells ended
chain_start o x before row p up j = record {
  tokens = 0;
  left = refl;
  acc = [];
  refuses = λ n z h. h;
  gets = λ t z h w. record { tree = t; is = h; wide = omega arith; rows = refl };
  written = refl;
  sized = omega arith;
}

module _ {o o' : Result (Tree value)} {x y : List Lex} {before after : List ℕ} {row p up j next q above j' : ℕ} (g : Chain o o' x y before after row p up j next q above j') where
  pub chain_tail : Tail y x
  chain_tail = rw g.left (drop_tail g.tokens x)

  pub chain_stopped : {end n r : ℕ} → Stopped o' y end n r → Stopped o x end n r
  chain_stopped s = stopped_before x y chain_tail g.refuses s

  -- one choice deeper: the row of the choice with its start, and the end left open
  pub chain_on : {o'' : Result (Tree value)} {z : List Lex} {last : List ℕ} (c : ℕ) (w : List ℕ)
      → o' ≡ then o'' (λ t r. got (chosen c w t) r) → z ≡ drop 2 y
      → last ≡ sets after (row_width * next) (cells (record { parameter = q; parent = above; start = (lexeme_at y 0).start; end = 0; index = j' } ∷ []))
      → Chain o o'' x z before last row p up j (next + 1) c next 0
  unfolding ended rows_of row_over width
  chain_on {o''} {z} {last} c w e l s =
      let r0 : Row = record { parameter = q; parent = above; start = (lexeme_at y 0).start; end = 0; index = j' } in
      record {
        tokens = g.tokens + 2;
        left = l ∙ (ap (drop 2) g.left ∙ drop-drop 2 g.tokens x);
        acc = g.acc ++ (record { parameter = q; parent = above; start = (lexeme_at y 0).start; end = 0; index = j' } ∷ []);
        refuses = λ n r h. g.refuses n r (e ∙ then_refused o'' (λ t r. got (chosen c w t) r) n r h);
        gets = λ t r h v.
            let a = g.gets (chosen c w t) r (e ∙ then_got o'' (λ t r. got (chosen c w t) r) t r h) (omega arith) in
            let b : lexeme_at y (2 + width t - 1) ≡ lexeme_at z (width t - 1) = rw l (sym (place_at 2 y (width t - 1) (2 + width t - 1) (omega (arith, v)))) in
            let d : 0 + (2 + width t) - 1 ≡ 2 + width t - 1 = omega arith in
            let m : suc next ≡ next + 1 = omega arith in
            let f : rows_of y t (2 + 0) (next + 1) c next 0 ≡ rows_of z t 0 (next + 1) c next 0 = rw l (sym (rows_at 2 y t 0 (2 + 0) (next + 1) c next 0 (omega arith))) in
            record {
              tree = a.tree;
              is = a.is;
              wide = omega (arith, a.wide);
              rows = a.rows ∙ rw (b, d, b, m, f, ended_append (lexeme_at z (width t - 1)).end g.acc (record { parameter = q; parent = above; start = (lexeme_at y 0).start; end = 0; index = j' } ∷ []))
                  (sym (append_assoc (ended (lexeme_at z (width t - 1)).end g.acc) (record { parameter = q; parent = above; start = (lexeme_at y 0).start; end = (lexeme_at z (width t - 1)).end; index = j' } ∷ []) (rows_of z t 0 (next + 1) c next 0)));
            };
        written = s ∙ (rw g.written (rows_append before row next g.acc (record { parameter = q; parent = above; start = (lexeme_at y 0).start; end = 0; index = j' } ∷ []) g.sized));
        sized = omega (arith, g.sized, length-append g.acc (r0 ∷ []));
      }

  -- what the chain holds is read, and its rows get their end
  pub chain_read : {z : List Lex} {last final : List ℕ} {m e : ℕ} (r : Read o' y z after last next q above j' m) → 1 ≤ width r.tree → (lexeme_at y (width r.tree - 1)).end ≡ e
      → final ≡ with_ends last row (next - row) e
      → (s : Read o x z before final row p up j m) × (1 ≤ width s.tree) × ((lexeme_at x (width s.tree - 1)).end ≡ e)
  chain_read {z} {last} {final} {m} {e} r v f w =
      let a = g.gets r.tree (tokens_of z) r.is v in
      let c : length (rows_of x a.tree 0 row p up j) ≡ row_count a.tree = rows_counted x a.tree 0 row p up j in
      let d : length (rows_of y r.tree 0 next q above j') ≡ row_count r.tree = rows_counted y r.tree 0 next q above j' in
      let l : next - row ≡ length g.acc = omega (arith, g.sized) in
      let h : last ≡ sets before (row_width * row) (cells (g.acc ++ rows_of y r.tree 0 next q above j')) = r.written ∙ (rw g.written (rows_append before row next g.acc (rows_of y r.tree 0 next q above j') g.sized)) in
      let k : rows_of x a.tree 0 row p up j ≡ ended e g.acc ++ rows_of y r.tree 0 next q above j' = rw (← f) a.rows in
      let pl : lexeme_at y (width r.tree - 1) ≡ lexeme_at x (width a.tree - 1) = rw g.left (place_at g.tokens x (width r.tree - 1) (width a.tree - 1) (omega (arith, a.wide, v))) in (
        record {
          tree = a.tree;
          is = a.is;
          left = r.left ∙ (ap (drop (width r.tree)) g.left ∙ (drop-drop (width r.tree) g.tokens x ∙ ap (λ n. drop n x) (sym a.wide)));
          written = w ∙ rw (l, h, k) (rows_ended before row e g.acc (rows_of y r.tree 0 next q above j'));
          sized = omega (arith, g.sized, r.sized, c, d, ap length k, length-append (ended e g.acc) (rows_of y r.tree 0 next q above j'), ended_length e g.acc);
        },
        omega (arith, a.wide, v),
        sym (ap (λ (b : Lex). b.end) pl) ∙ f,
      )
