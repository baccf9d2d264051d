-- Each decision in a body, said of plain lists.
use mathlib.Core.Path.{◌≡◌, refl, sym, ap, ◌∙◌}
use mathlib.Core.Bool.{Bool, true, false, not}
use mathlib.Core.List.{List, [], ◌∷◌}
use Prim.Native.Nat.{ℕ, zero, suc, ◌+◌, ◌-◌, ◌≤◌, ◌<◌}
use native.Mathlib.Omega.{arith}
use lib.Dec.{eqb}
use lib.ListN.{length, drop, get_or}
use lib.Seq.{drop-drop}
use borrow.Author.Tests.{ne_eqb, eq-eqb}
use Rattle.std.specs.Prelude.{Result as Answer, Ok, Err, Option, Some}
use Rattle.numbers.specs.Rules.{rule_number}
use Rattle.numbers.specs.declared.Rule.{Rule}
use Rattle.numbers.specs.declared.Rule.TheVariants.{MessageForms, FieldMissing}
use Rattle.numbers.specs.declared.Refusal.{Refusal}
use Rattle.table_records.specs.declared.Records.{Records}
use Rattle.message_tokens.specs.declared.TokenKind.{TokenKind}
use Rattle.message_tokens.specs.declared.TokenKind.TheVariants.{Nothing, Word, String, Equals, Comma, Opening, Closing}
use Rattle.reading_rules.specs.Token.{Token, word, string, equals, comma, opening, closing}
use Rattle.reading_rules.specs.Schema.{Schema, is_void, nowhere, found}
use Rattle.reading_rules.specs.Count.{all_in}
use Rattle.reading_rules.specs.Reading.{items, Tree, no_item, unknown_item, unknown_list_item, stopped}
use Rattle.message_rules.specs.Scan.{tokens_of}
use Rattle.message_rules.specs.Scan.{Lexeme as Lex}
use Rattle.reading_rules.specs.Parse.{Result, got, then, need, whether, on_equals, required_of, end_number, body_ends, unknowns_at, unknown_after, item_at, items_at, list_then, lists_at}
use Rattle.reading_rules.specs.Reading.{width}
use Rattle.message_rules.specs.Rows.{rows_of, cells}
use Rattle.reading_rules.proofs.Sound.{unknowns_sound}
use Rattle.reading_rules.proofs.Complete.{leaves_width}
use Rattle.message_tokens.specs.Cursor.{part, cut_at, lexemes_at, Step}
use Rattle.message_tokens.specs.Head.{token_kind, kind_number, HeadAt}
use Rattle.message_tokens.specs.declared.Head.{Head}
use Rattle.message_tokens.specs.declared.Cursor.{Cursor}
use Rattle.message_tokens.proofs.Heads.{head_kind, head_not, step_tokens, step_left, step_within}
use Rattle.message_unknown.specs.Along.{here, tokens_at, Stopped}
use Rattle.message_unknown.specs.Passing.{left_of, PassedUpTo, Halted, PassesTo}
use Rattle.message_unknown.proofs.AlongLaws.{tail_trans, tail_drop, tokens_length, step_tail}
use Rattle.message_unknown.proofs.Steps.{left_got, left_refused}
use Rattle.message_lookup.specs.Questions.{schema_of_records, broken_number}
use Rattle.message_lookup.specs.Seen.{Marks}
use Rattle.message_lookup.proofs.Laws.{find_below}
use Rattle.message_frame.specs.Ends.{Values, end_of}
use Rattle.message_bodies.specs.Bodies.{end_number_at, end_at, end_of_body, end_answer, end_or, VoidItem, ListItem, Passes, ItemFor, Skips, UnknownAt, KnownList, KnownAt}
use Rattle.message_frame.specs.declared.Frame.{Frame}
use Rattle.message_bodies.specs.declared.Item.{Item}
use Rattle.message_bodies.specs.declared.Item.TheVariants as item
use Rattle.message_frame.proofs.GoingLaws.{stopped_before, then_refused, then_got, going_step}
use Rattle.message_frame.proofs.AtToken.{stop_here, stop_at, step_of_equals, equals_none}

-- ---- the end of a body
end_number_lem : (i c : Bool) → broken_number (end_of_body i c) ≡ end_number_at i c
unfolding end_of_body end_number_at
end_number_lem true c = refl
end_number_lem false true = refl
end_number_lem false false = refl

pub end_answered : (k : TokenKind) (i c : Bool) (d : ℕ) {r : Option (Answer Unit Rule)} → r ≡ end_answer k i c → end_or d r ≡ end_at (kind_number k) i c d
unfolding end_answer end_at
end_answered k i c d e = rw e (go k)
  where
    go : (k : TokenKind) → end_or d (end_answer k i c) ≡ end_at (kind_number k) i c d
    go Nothing = end_number_lem i c
    go Closing = end_number_lem (not i) c
    go Word = refl
    go String = refl
    go Equals = refl
    go Comma = refl
    go Opening = refl

-- what is broken there has a number above those of an end and of another token
end_broken_lem : (i c : Bool) (x : Rule) → end_of_body i c ≡ Err x → 1 < rule_number x
unfolding end_of_body
end_broken_lem true c x e = let q : MessageForms ≡ x = cc in rw (← q) (omega arith)
end_broken_lem false true x e = let z : ◌≡◌ {A = ℕ} 0 1 = cc in absurd (omega arith)
end_broken_lem false false x e = let q : FieldMissing ≡ x = cc in rw (← q) (omega arith)

pub end_broken : (k : TokenKind) (i c : Bool) (x : Rule) {r : Option (Answer Unit Rule)} → r ≡ end_answer k i c → r ≡ Some (Err x) → 1 < rule_number x
unfolding end_answer
end_broken k i c x e f = go k (sym e ∙ f)
  where
    go : (k : TokenKind) → end_answer k i c ≡ Some (Err x) → 1 < rule_number x
    go Nothing q = end_broken_lem i c x (let h : end_of_body i c ≡ Err x = cc in h)
    go Closing q = end_broken_lem (not i) c x (let h : end_of_body (not i) c ≡ Err x = cc in h)
    go Word q = let z : ◌≡◌ {A = ℕ} 0 1 = cc in absurd (omega arith)
    go String q = let z : ◌≡◌ {A = ℕ} 0 1 = cc in absurd (omega arith)
    go Equals q = let z : ◌≡◌ {A = ℕ} 0 1 = cc in absurd (omega arith)
    go Comma q = let z : ◌≡◌ {A = ℕ} 0 1 = cc in absurd (omega arith)
    go Opening q = let z : ◌≡◌ {A = ℕ} 0 1 = cc in absurd (omega arith)

-- the parser's number, by the kind of what stands there
end_nothing : (i c : Bool) → end_number i c [] ≡ end_number_at i c
unfolding end_number end_number_at
end_nothing true true = refl
end_nothing true false = refl
end_nothing false true = refl
end_nothing false false = refl

end_token_lem : (i c : Bool) (t : Token) (r : List Token) → end_number i c (t ∷ r) ≡ end_number_at (not i) c
unfolding end_number end_number_at
end_token_lem true true t r = refl
end_token_lem true false t r = refl
end_token_lem false true t r = refl
end_token_lem false false t r = refl

not_one : (i c : Bool) → end_number_at i c ≡ 1 → ⊥
unfolding end_number_at
not_one true c e = omega arith
not_one false true e = omega arith
not_one false false e = omega arith

ends_by : {A : Type 0} (i c : Bool) (a : A) (x : List Token) (n : ℕ) → end_number i c x ≡ n → body_ends i c a x ≡ need (eqb n 0) n x (got a) x
unfolding body_ends
ends_by i c a x n e = rw e refl

module _ (S : Schema) (Vs : Values) (inside : Bool) where
  -- items: anything but a word
  items_end : (p fuel : ℕ) (ks : List ℕ) (x : List Token) → (token_kind x ≡ 1 → ⊥) → items_at S Vs inside p (suc fuel) ks x ≡ need (eqb (end_at (token_kind x) inside (all_in (required_of S (S.tagged p)) ks) 23) 0) (end_at (token_kind x) inside (all_in (required_of S (S.tagged p)) ks) 23) x (got no_item) x
  unfolding items_at token_kind end_at need
  items_end p fuel ks [] a = ends_by inside (all_in (required_of S (S.tagged p)) ks) no_item [] (end_number_at inside (all_in (required_of S (S.tagged p)) ks)) (end_nothing inside (all_in (required_of S (S.tagged p)) ks))
  items_end p fuel ks (word w ∷ r) a = absurd (a refl)
  items_end p fuel ks (string w ∷ r) a = refl
  items_end p fuel ks (opening ∷ r) a = refl
  items_end p fuel ks (equals ∷ r) a = refl
  items_end p fuel ks (comma ∷ r) a = refl
  items_end p fuel ks (closing ∷ r) a = ends_by inside (all_in (required_of S (S.tagged p)) ks) no_item (closing ∷ r) (end_number_at (not inside) (all_in (required_of S (S.tagged p)) ks)) (end_token_lem inside (all_in (required_of S (S.tagged p)) ks) closing r)

  -- an untagged field's list, or the body's end in its place
  lists_start : (p q : ℕ) (qs : List ℕ) (x : List Token) → end_at (token_kind x) inside (eqb (S.lo q) 0) 1 ≡ 1 → lists_at S Vs inside p (q ∷ qs) x ≡ list_then S Vs (lists_at S Vs inside p qs) q x
  unfolding lists_at token_kind end_at
  lists_start p q qs [] a = absurd (not_one inside (eqb (S.lo q) 0) a)
  lists_start p q qs (word w ∷ r) a = refl
  lists_start p q qs (string w ∷ r) a = refl
  lists_start p q qs (opening ∷ r) a = refl
  lists_start p q qs (equals ∷ r) a = refl
  lists_start p q qs (comma ∷ r) a = refl
  lists_start p q qs (closing ∷ r) a = absurd (not_one (not inside) (eqb (S.lo q) 0) a)

  lists_end : (p q : ℕ) (qs : List ℕ) (x : List Token) (n : ℕ) → end_at (token_kind x) inside (eqb (S.lo q) 0) 1 ≡ n → (n ≡ 1 → ⊥) → lists_at S Vs inside p (q ∷ qs) x ≡ need (eqb n 0) n x (got stopped) x
  unfolding lists_at token_kind end_at
  lists_end p q qs [] n a b = ends_by inside (eqb (S.lo q) 0) stopped [] n (end_nothing inside (eqb (S.lo q) 0) ∙ a)
  lists_end p q qs (word w ∷ r) n a b = absurd (b (sym a))
  lists_end p q qs (string w ∷ r) n a b = absurd (b (sym a))
  lists_end p q qs (opening ∷ r) n a b = absurd (b (sym a))
  lists_end p q qs (equals ∷ r) n a b = absurd (b (sym a))
  lists_end p q qs (comma ∷ r) n a b = absurd (b (sym a))
  lists_end p q qs (closing ∷ r) n a b = ends_by inside (eqb (S.lo q) 0) stopped (closing ∷ r) n (end_token_lem inside (eqb (S.lo q) 0) closing r ∙ a)

-- the head of an untagged field's place; number is the code's
module _ (S : Schema) (s : List ℕ) (f : Frame) (inside : Bool) (h : Head) (g : HeadAt f.base s f.at h) (complete : Bool) (number : ℕ) (c : complete ≡ eqb (S.lo f.parameter) 0) (m : number ≡ end_at (kind_number h.kind) inside complete 1) where
  same_number : end_at (token_kind (tokens_at f.base s f.at)) inside (eqb (S.lo f.parameter) 0) 1 ≡ number
  same_number = rw (head_kind f.base s f.at h g, ← c) (sym m)

  pub field_starts : number ≡ 1 → (Vs : Values) (p : ℕ) (qs : List ℕ) → lists_at S Vs inside p (f.parameter ∷ qs) (tokens_at f.base s f.at) ≡ list_then S Vs (lists_at S Vs inside p qs) f.parameter (tokens_at f.base s f.at)
  field_starts e Vs p qs = lists_start S Vs inside p f.parameter qs (tokens_at f.base s f.at) (same_number ∙ e)

  pub field_ends : number ≡ 0 → (Vs : Values) (p : ℕ) (qs : List ℕ) → lists_at S Vs inside p (f.parameter ∷ qs) (tokens_at f.base s f.at) ≡ got stopped (tokens_at f.base s f.at)
  unfolding need
  field_ends e Vs p qs = lists_end S Vs inside p f.parameter qs (tokens_at f.base s f.at) number same_number (λ z. omega (arith, e, z)) ∙ rw (eq-eqb number 0 e) refl

  pub field_stopped : (number ≡ 1 → ⊥) → (number ≡ 0 → ⊥) → (Vs : Values) (p : ℕ) (qs : List ℕ) → Stopped (lists_at S Vs inside p (f.parameter ∷ qs) (tokens_at f.base s f.at)) (lexemes_at f.base s f.at) (end_of s f) number (f.base + h.start)
  unfolding need
  field_stopped a b Vs p qs = stop_here (lists_at S Vs inside p (f.parameter ∷ qs) (tokens_at f.base s f.at)) f.base s f.at h number g (lists_end S Vs inside p f.parameter qs (tokens_at f.base s f.at) number same_number a ∙ rw (ne_eqb number 0 b) refl)

-- ---- items
module _ (S : Schema) (s : List ℕ) (f : Frame) (inside : Bool) (ks : List ℕ) (h : Head) (g : HeadAt f.base s f.at h) (complete : Bool) (number : ℕ) (c : complete ≡ all_in (required_of S (S.tagged f.parameter)) ks) (m : number ≡ end_at (kind_number h.kind) inside complete 23) (n : h.kind ≡ Word → ⊥) where
  items_number : (Vs : Values) (fuel : ℕ) → items_at S Vs inside f.parameter (suc fuel) ks (tokens_at f.base s f.at) ≡ need (eqb number 0) number (tokens_at f.base s f.at) (got no_item) (tokens_at f.base s f.at)
  items_number Vs fuel =
      let e : end_at (token_kind (tokens_at f.base s f.at)) inside (all_in (required_of S (S.tagged f.parameter)) ks) 23 ≡ number = rw (head_kind f.base s f.at h g, ← c) (sym m) in
      items_end S Vs inside f.parameter fuel ks (tokens_at f.base s f.at) (head_not f.base s f.at h g Word n) ∙ rw e refl

  pub items_done : number ≡ 0 → (Vs : Values) (fuel : ℕ) → items_at S Vs inside f.parameter (suc fuel) ks (tokens_at f.base s f.at) ≡ got no_item (tokens_at f.base s f.at)
  unfolding need
  items_done e Vs fuel = items_number Vs fuel ∙ rw (eq-eqb number 0 e) refl

  pub items_stopped : (number ≡ 0 → ⊥) → (Vs : Values) (fuel : ℕ) → Stopped (items_at S Vs inside f.parameter (suc fuel) ks (tokens_at f.base s f.at)) (lexemes_at f.base s f.at) (end_of s f) number (f.base + h.start)
  unfolding need
  items_stopped e Vs fuel = stop_here (items_at S Vs inside f.parameter (suc fuel) ks (tokens_at f.base s f.at)) f.base s f.at h number g (items_number Vs fuel ∙ rw (ne_eqb number 0 e) refl)

-- an unknown item
alone : (next : List Token → Result (Tree items)) (w : List ℕ) (x : List Token) → (token_kind x ≡ 3 → ⊥) → unknown_after next w x ≡ then (next x) (λ i z. got (unknown_item w i) z)
unfolding unknown_after token_kind
alone next w [] a = refl
alone next w (word v ∷ r) a = refl
alone next w (string v ∷ r) a = refl
alone next w (opening ∷ r) a = refl
alone next w (equals ∷ r) a = absurd (a refl)
alone next w (comma ∷ r) a = refl
alone next w (closing ∷ r) a = refl

module _ (base : ℕ) (s : List ℕ) (e : ℕ) (h : Head) (g : HeadAt base s e h) where
  pub skip_word : (h.kind ≡ Equals → ⊥) → Skips s base e e
  unfolding width rows_of
  skip_word n = record {
    tokens = 0;
    left = refl;
    wrap = λ w i. unknown_item w i;
    is = λ next w. alone next w (tokens_at base s e) (head_not base s e h g Equals n);
    wide = λ w t. omega arith;
    rows = λ w t x row p up j. refl;
    least = omega arith;
    within = λ k. k;
  }

  listed_after : (next : List Token → Result (Tree items)) (w : List ℕ) → h.kind ≡ Equals → unknown_after next w (tokens_at base s e) ≡ then (unknowns_at (suc (length (tokens_at base s h.past.at))) (tokens_at base s h.past.at)) (λ l r. then (next r) (λ i z. got (unknown_list_item w l i) z))
  unfolding unknown_after
  listed_after next w q = rw (step_tokens base s e equals h.start h.past.at (step_of_equals base s e h g q)) refl

  module _ (S : Schema) (q : h.kind ≡ Equals) where
    pub skip_list : (at : ℕ) → PassedUpTo (left_of (unknowns_at (suc (length (tokens_at base s h.past.at))) (tokens_at base s h.past.at))) base s h.past.at at → Skips s base e at
    unfolding width rows_of then
    skip_list at p =
        let k = step_of_equals base s e h g q in
        let l = left_got (unknowns_at (suc (length (tokens_at base s h.past.at))) (tokens_at base s h.past.at)) (tokens_at base s at) p.is in
        let c = (unknowns_sound S (suc (length (tokens_at base s h.past.at))) (tokens_at base s h.past.at) l.0 (tokens_at base s at) l.1).1 in
        let d : length (lexemes_at base s h.past.at) ≡ width l.0 + length (lexemes_at base s at) = omega (arith, leaves_width l.0 (tokens_at base s at), ap length c, tokens_length (lexemes_at base s h.past.at), tokens_length (lexemes_at base s at)) in
        let r : length (lexemes_at base s h.past.at) - length (lexemes_at base s at) ≡ width l.0 = omega (arith, d) in
        let b : lexemes_at base s at ≡ drop (1 + width l.0) (lexemes_at base s e) = sym (tail_drop (lexemes_at base s h.past.at) (lexemes_at base s at) p.moved.along) ∙ (ap (λ j. drop j (lexemes_at base s h.past.at)) r ∙ (ap (drop (width l.0)) (step_left base s e equals h.start h.past.at k) ∙ drop-drop (width l.0) 1 (lexemes_at base s e))) in
        record {
          tokens = 1 + width l.0;
          left = b;
          wrap = λ w i. unknown_list_item w l.0 i;
          is = λ next w. listed_after next w q ∙ then_got (unknowns_at (suc (length (tokens_at base s h.past.at))) (tokens_at base s h.past.at)) _ l.0 (tokens_at base s at) l.1;
          wide = λ w t. omega arith;
          rows = λ w t x row p up j. ap (λ i. rows_of x t i row p up j) (omega arith);
          least = omega (arith, p.moved.less, k.least, k.less);
          within = λ _. p.moved.within;
        }

    pub skip_stopped : (n p : ℕ) → Halted (left_of (unknowns_at (suc (length (tokens_at base s h.past.at))) (tokens_at base s h.past.at))) (lexemes_at base s h.past.at) (base + length s) n p → (next : List Token → Result (Tree items)) (w : List ℕ) → Stopped (unknown_after next w (tokens_at base s e)) (lexemes_at base s e) (base + length s) n p
    skip_stopped n p r next w =
        let k = step_of_equals base s e h g q in
        let u = left_refused (unknowns_at (suc (length (tokens_at base s h.past.at))) (tokens_at base s h.past.at)) n (tokens_of r.rest) r.is in
        record {
          rest = r.rest;
          is = listed_after next w q ∙ then_refused (unknowns_at (suc (length (tokens_at base s h.past.at))) (tokens_at base s h.past.at)) _ n (tokens_of r.rest) u;
          along = tail_trans (lexemes_at base s e) (lexemes_at base s h.past.at) r.rest r.along (step_tail base s e equals h.start h.past.at k);
          place = r.place;
        }

    pub skip_ends : (r : Answer Cursor Refusal) → PassesTo (left_of (unknowns_at (suc (length (tokens_at base s h.past.at))) (tokens_at base s h.past.at))) base s h.past.at r → UnknownAt s base e r
    skip_ends (Ok v) p = skip_list v.at p
    skip_ends (Err x) p = skip_stopped (rule_number x.rule) x.place p

-- an item from its tag on
module _ (R : Records) (s : List ℕ) (f : Frame) (inside : Bool) (seen : List Bool) (a e : ℕ) (h : Step (cut_at f.base s f.at) f.base s f.at (word (part s a e)) a e) where
  item_found : (Vs : Values) (fuel : ℕ) (ks : List ℕ) → items_at (schema_of_records R) Vs inside f.parameter (suc fuel) ks (tokens_at f.base s f.at) ≡ item_at (schema_of_records R) Vs (items_at (schema_of_records R) Vs inside f.parameter fuel) ks (part s a e) ((schema_of_records R).find f.parameter (part s a e)) (tokens_at f.base s e)
  unfolding items_at
  item_found Vs fuel ks = rw (step_tokens f.base s f.at (word (part s a e)) a e h) refl

  module _ (c : (schema_of_records R).find f.parameter (part s a e) ≡ nowhere) where
    item_unknown : (Vs : Values) (fuel : ℕ) (ks : List ℕ) → items_at (schema_of_records R) Vs inside f.parameter (suc fuel) ks (tokens_at f.base s f.at) ≡ unknown_after (items_at (schema_of_records R) Vs inside f.parameter fuel ks) (part s a e) (tokens_at f.base s e)
    unfolding item_at
    item_unknown Vs fuel ks = item_found Vs fuel ks ∙ rw c refl

    passes : (at : ℕ) (ks : List ℕ) → Skips s f.base e at → Passes (schema_of_records R) s f inside ks at
    unfolding cells
    passes at ks k =
        let b = step_within f.base s f.at (word (part s a e)) a e h in
        let x = step_left f.base s f.at (word (part s a e)) a e h in
        let one_more : 1 + k.tokens ≡ suc k.tokens = omega arith in
        let l : lexemes_at f.base s at ≡ drop (suc k.tokens) (lexemes_at f.base s f.at) = k.left ∙ (ap (drop k.tokens) x ∙ (drop-drop k.tokens 1 (lexemes_at f.base s f.at) ∙ ap (λ j. drop j (lexemes_at f.base s f.at)) one_more)) in
        record {
          going = λ Vs fuel row up j rows. going_step
              (items_at (schema_of_records R) Vs inside f.parameter (suc fuel) ks (tokens_at f.base s f.at))
              (items_at (schema_of_records R) Vs inside f.parameter fuel ks (tokens_at f.base s at))
              (lexemes_at f.base s f.at) (lexemes_at f.base s at) rows rows row f.parameter up j row j (k.wrap (part s a e)) (suc k.tokens) []
              (item_unknown Vs fuel ks ∙ k.is (items_at (schema_of_records R) Vs inside f.parameter fuel ks) (part s a e))
              l (k.wide (part s a e)) (λ i. k.rows (part s a e) i (lexemes_at f.base s f.at) row f.parameter up j) refl (omega arith);
          less = omega (arith, b.0, k.least);
          within = k.within b.1;
          short = omega (arith, tokens_length (lexemes_at f.base s at), tokens_length (lexemes_at f.base s e), ap length (step_tokens f.base s f.at (word (part s a e)) a e h), ap length k.left, shorter k.tokens (lexemes_at f.base s e));
        }
      where
        shorter : (j : ℕ) (x : List Lex) → length (drop j x) ≤ length x
        shorter zero x = omega arith
        shorter (suc j) [] = omega arith
        shorter (suc j) (l ∷ x) = omega (arith, shorter j x)

    pub unknown_ends : (ks : List ℕ) (at : ℕ) → Skips s f.base e at → Passes (schema_of_records R) s f inside ks at
    unknown_ends ks at k = passes at ks k

    pub unknown_stopped : (ks : List ℕ) (i q : ℕ) → ((next : List Token → Result (Tree items)) (w : List ℕ) → Stopped (unknown_after next w (tokens_at f.base s e)) (lexemes_at f.base s e) (end_of s f) i q) → (Vs : Values) (fuel : ℕ) → Stopped (items_at (schema_of_records R) Vs inside f.parameter (suc fuel) ks (tokens_at f.base s f.at)) (lexemes_at f.base s f.at) (end_of s f) i q
    unknown_stopped ks i q k Vs fuel = stopped_before (lexemes_at f.base s f.at) (lexemes_at f.base s e) (step_tail f.base s f.at (word (part s a e)) a e h) (λ j z w. item_unknown Vs fuel ks ∙ w) (k (items_at (schema_of_records R) Vs inside f.parameter fuel ks) (part s a e))

  module _ (q : ℕ) (c : (schema_of_records R).find f.parameter (part s a e) ≡ found q) where
    item_known : (Vs : Values) (fuel : ℕ) (ks : List ℕ) → items_at (schema_of_records R) Vs inside f.parameter (suc fuel) ks (tokens_at f.base s f.at) ≡ item_at (schema_of_records R) Vs (items_at (schema_of_records R) Vs inside f.parameter fuel) ks (part s a e) (found q) (tokens_at f.base s e)
    item_known Vs fuel ks = item_found Vs fuel ks ∙ ap (λ r. item_at (schema_of_records R) Vs (items_at (schema_of_records R) Vs inside f.parameter fuel) ks (part s a e) r (tokens_at f.base s e)) c

    void_item_lem : (ks : List ℕ) → Marks seen ks → get_or seen q false ≡ false → is_void ((schema_of_records R).kind q) ≡ true → VoidItem (schema_of_records R) R.count s f inside ks q a e
    unfolding item_at need whether
    void_item_lem ks m d v = record {
      text = part s a e;
      step = h;
      is = λ Vs fuel. item_known Vs fuel ks ∙ rw (sym (m.marked q) ∙ d, v) refl;
      below = find_below R.table.now R.unpacked.now R.count f.parameter (part s a e) q c;
    }

    list_item_lem : (ks : List ℕ) (at : ℕ) → Marks seen ks → KnownList (schema_of_records R) s f.base seen q e q at → ListItem (schema_of_records R) R.count s f inside ks q at
    unfolding item_at need whether on_equals
    list_item_lem ks at m k = record {
      text = part s a e;
      start = a;
      past = e;
      place = k.place;
      first = h;
      second = k.step;
      is = λ Vs fuel. item_known Vs fuel ks ∙ rw (sym (m.marked q) ∙ k.new, k.void, step_tokens f.base s e equals k.place at k.step) refl;
      below = find_below R.table.now R.unpacked.now R.count f.parameter (part s a e) q c;
    }

    pub known_ends : (r : Answer Item Refusal) → KnownAt (schema_of_records R) s f.base seen q a e r → (ks : List ℕ) → Marks seen ks → ItemFor (schema_of_records R) R.count s f inside ks r
    known_ends (Ok item.End) k ks m = absurd k
    known_ends (Ok (item.Void p b v)) k ks m = rw (k.same, k.start, k.past) (void_item_lem ks m k.new k.void)
    known_ends (Ok (item.List p v)) k ks m = rw k.same (list_item_lem ks v.at m (rw k.same at k))
    known_ends (Ok (item.Unknown v)) k ks m = absurd k
    known_ends (Err x) k ks m = λ Vs fuel. stopped_before (lexemes_at f.base s f.at) (lexemes_at f.base s f.at) here (λ j z w. item_known Vs fuel ks ∙ w) (k Vs (items_at (schema_of_records R) Vs inside f.parameter fuel) ks (part s a e) f.at m h)

-- the known field's own answers
module _ (S : Schema) (s : List ℕ) (base : ℕ) (seen : List Bool) (q a e : ℕ) (Vs : Values) (next : List ℕ → List Token → Result (Tree items)) (ks w : List ℕ) (i : ℕ) (m : Marks seen ks) (h : Step (cut_at base s i) base s i (word w) a e) where
  pub known_again : get_or seen q false ≡ true → Stopped (item_at S Vs next ks w (found q) (tokens_at base s e)) (lexemes_at base s i) (base + length s) 26 (base + a)
  unfolding item_at need
  known_again d = stop_at (item_at S Vs next ks w (found q) (tokens_at base s e)) base s i (word w) a e 26 h (rw (sym (m.marked q) ∙ d) refl)

  pub known_bare : (d : Head) → HeadAt base s e d → get_or seen q false ≡ false → is_void (S.kind q) ≡ false → (d.kind ≡ Equals → ⊥) → Stopped (item_at S Vs next ks w (found q) (tokens_at base s e)) (lexemes_at base s i) (base + length s) 23 (base + d.start)
  unfolding item_at need whether
  known_bare d g k v c =
      stopped_before (lexemes_at base s i) (lexemes_at base s e) (step_tail base s i (word w) a e h) (λ j z r. r)
      (stop_here (item_at S Vs next ks w (found q) (tokens_at base s e)) base s e d 23 g (rw (sym (m.marked q) ∙ k, v) (equals_none (tokens_at base s e) _ (head_not base s e d g Equals c))))
