-- Each decision at a union, said of plain lists.
use mathlib.Core.Path.{◌≡◌, refl, sym, ◌∙◌}
use mathlib.Core.Bool.{Bool, true, false}
use mathlib.Core.List.{List}
use Prim.Native.Nat.{ℕ, ◌+◌, ◌<◌}
use native.Mathlib.Omega.{arith}
use borrow.Author.Tests.{ne_eqb}
use Rattle.numbers.specs.Decimal.{is_int_like}
use Rattle.reading_rules.specs.Token.{word, equals}
use Rattle.reading_rules.specs.Schema.{is_void, nowhere, found, schema_of}
use Rattle.reading_rules.specs.Schema as schema
use Rattle.reading_rules.specs.Reading.{chosen_void, chosen_int}
use Rattle.message_rules.specs.Scan.{Lexeme as Lex}
use Rattle.reading_rules.specs.Parse.{need, whether, on_equals, judged, alternative, bare_for, choose, union_at}
use Rattle.reading_rules.specs.Reading.{width}
use Rattle.message_rules.specs.Rows.{rows_of}
use Rattle.message_tokens.specs.Cursor.{part, cut_at, lexemes_at, Step}
use Rattle.message_tokens.specs.Head.{HeadAt}
use Rattle.message_tokens.specs.declared.Head.{Head}
use Rattle.message_tokens.proofs.Heads.{head_not, step_tokens}
use Rattle.message_unknown.specs.Along.{here, tokens_at, Stopped}
use Rattle.message_unknown.proofs.AlongLaws.{step_tail}
use Rattle.message_lookup.specs.Questions.{schema_of_records}
use Rattle.table_records.specs.declared.Records.{Records}
use Rattle.numbers.specs.declared.Refusal.{Refusal}
use Rattle.std.specs.Prelude.{Result as Answer, Ok, Err, Option}
use Rattle.message_tokens.specs.declared.TokenKind.TheVariants.{Equals}
use Rattle.message_lookup.proofs.Laws.{find_below, untagged_below}
use Rattle.message_frame.specs.Ends.{Values, end_of}
use Rattle.message_choices.specs.Choices.{Deeper, Whole, ChoiceAt, KnownEquals, KnownWhole, ChosenAt}
use Rattle.message_frame.specs.declared.Frame.{Frame}
use Rattle.message_choices.specs.declared.Choice.{Choice}
use Rattle.message_choices.specs.declared.Choice.TheVariants as choice
use Rattle.message_frame.proofs.GoingLaws.{stopped_before}
use Rattle.message_frame.proofs.AtToken.{stop_here, stop_at, step_of_equals, equals_none}
use Rattle.table_tags.specs.Search.{found_of}

module _ (R : Records) where
  bare_below : (u q : ℕ) → (schema_of_records R).bare u ≡ found q → q < R.count
  unfolding schema_of
  bare_below u q e = untagged_below R.table.now R.unpacked.now R.count u 0 q e

  bare_found : (u q : ℕ) (b : Bool) → bare_for ((schema_of_records R).bare u) b ≡ found q → (schema_of_records R).bare u ≡ found q
  unfolding bare_for
  bare_found u q b e = go ((schema_of_records R).bare u) b e
    where
      go : (g : schema.Found) (b : Bool) → bare_for g b ≡ found q → g ≡ found q
      go nowhere b e = e
      go (found p) true e = e
      go (found p) false e = let z : ◌≡◌ {A = ℕ} 0 1 = cc in absurd (omega arith)

  module _ (s : List ℕ) (f : Frame) (u : ℕ) where
    union_word : (w : List ℕ) (a e : ℕ) → Step (cut_at f.base s f.at) f.base s f.at (word w) a e → (Vs : Values) → union_at (schema_of_records R) Vs u (tokens_at f.base s f.at) ≡ choose (schema_of_records R) Vs u w (bare_for ((schema_of_records R).bare u) (is_int_like w)) (tokens_at f.base s e)
    unfolding union_at
    union_word w a e h Vs = rw (step_tokens f.base s f.at (word w) a e h) refl

    module _ (w : List ℕ) (a e : ℕ) (h : Step (cut_at f.base s f.at) f.base s f.at (word w) a e) where
      -- the untagged int q
      pub int_whole : (q : ℕ) → bare_for ((schema_of_records R).bare u) (is_int_like w) ≡ found q → (number : ℕ) → number ≡ (schema_of_records R).judge q (word w) → number ≡ 0 → Whole (schema_of_records R) R.count s f u q a e
      unfolding choose judged need width rows_of
      int_whole q b number m z = record {
        text = w;
        tree = chosen_int q w;
        step = h;
        is = λ Vs. union_word w a e h Vs ∙ rw (b, sym m ∙ z) refl;
        wide = refl;
        rows = λ x row p up j. refl;
        below = bare_below u q (bare_found u q (is_int_like w) b);
      }

      pub int_stopped : (q : ℕ) → bare_for ((schema_of_records R).bare u) (is_int_like w) ≡ found q → (number : ℕ) → number ≡ (schema_of_records R).judge q (word w) → (number ≡ 0 → ⊥) → (Vs : Values) → Stopped (union_at (schema_of_records R) Vs u (tokens_at f.base s f.at)) (lexemes_at f.base s f.at) (end_of s f) number (f.base + a)
      unfolding choose judged need
      int_stopped q b number m z Vs =
          stop_at (union_at (schema_of_records R) Vs u (tokens_at f.base s f.at)) f.base s f.at (word w) a e number h
          (union_word w a e h Vs ∙ rw (b, ← m, ne_eqb number 0 z) refl)

    module _ (a e : ℕ) (h : Step (cut_at f.base s f.at) f.base s f.at (word (part s a e)) a e) (b : bare_for ((schema_of_records R).bare u) (is_int_like (part s a e)) ≡ nowhere) where
      union_tag : (Vs : Values) → union_at (schema_of_records R) Vs u (tokens_at f.base s f.at) ≡ alternative (schema_of_records R) Vs (part s a e) ((schema_of_records R).find u (part s a e)) (tokens_at f.base s e)
      unfolding choose
      union_tag Vs = union_word (part s a e) a e h Vs ∙ rw b refl

      deeper : (q at : ℕ) → KnownEquals (schema_of_records R) R.count s f u q a e at → Deeper (schema_of_records R) R.count s f u q a at
      unfolding alternative whether on_equals
      deeper q at k = record {
        text = part s a e;
        past = e;
        place = k.place;
        first = h;
        second = k.step;
        is = λ Vs. union_tag Vs ∙ rw (k.known.find, k.known.void, step_tokens f.base s e equals k.place at k.step) refl;
        below = k.known.below;
      }

      whole : (q at : ℕ) → KnownWhole (schema_of_records R) R.count s f u q a e at → Whole (schema_of_records R) R.count s f u q a at
      unfolding alternative whether width rows_of
      whole q at k = record {
        text = part s a e;
        tree = chosen_void q (part s a e);
        step = rw k.same h;
        is = λ Vs. union_tag Vs ∙ rw (k.known.find, k.known.void, k.same) refl;
        wide = refl;
        rows = λ x row p up j. refl;
        below = k.known.below;
      }

      pub chosen_ends : (c : Answer Choice Refusal) → ChosenAt R s f u a e c → ChoiceAt R s f u c
      chosen_ends (Ok (choice.Deeper q d v)) k = rw k.0 (deeper q v.at k.1)
      chosen_ends (Ok (choice.Last q d v)) k = rw k.0 (whole q v.at k.1)
      chosen_ends (Err x) k = λ Vs. stopped_before (lexemes_at f.base s f.at) (lexemes_at f.base s f.at) here (λ i z g. union_tag Vs ∙ g) (k Vs (lexemes_at f.base s f.at) refl h)

    -- the tag search
    module _ (a e : ℕ) where
      pub alternative_none : (q : ℕ) → (schema_of_records R).find u (part s a e) ≡ nowhere → (Vs : Values) (x : List Lex) → x ≡ lexemes_at f.base s f.at → Step (cut_at f.base s f.at) f.base s f.at (word (part s a e)) a e
          → Stopped (alternative (schema_of_records R) Vs (part s a e) ((schema_of_records R).find u (part s a e)) (tokens_at f.base s e)) x (end_of s f) 28 (f.base + a)
      unfolding alternative
      alternative_none q g Vs x l h = rw l (stop_at (alternative (schema_of_records R) Vs (part s a e) ((schema_of_records R).find u (part s a e)) (tokens_at f.base s e)) f.base s f.at (word (part s a e)) a e 28 h (rw g refl))

      pub alternative_open : (q : ℕ) (h : Head) → (schema_of_records R).find u (part s a e) ≡ found q → is_void ((schema_of_records R).kind q) ≡ false → HeadAt f.base s e h → (h.kind ≡ Equals → ⊥) → (Vs : Values) (x : List Lex) → x ≡ lexemes_at f.base s f.at → Step (cut_at f.base s f.at) f.base s f.at (word (part s a e)) a e
          → Stopped (alternative (schema_of_records R) Vs (part s a e) ((schema_of_records R).find u (part s a e)) (tokens_at f.base s e)) x (end_of s f) 23 (f.base + h.start)
      unfolding alternative whether
      alternative_open q h g v d c Vs x l w =
          let r = stop_here (alternative (schema_of_records R) Vs (part s a e) ((schema_of_records R).find u (part s a e)) (tokens_at f.base s e)) f.base s e h 23 d (rw (g, v) (equals_none (tokens_at f.base s e) _ (head_not f.base s e h d Equals c))) in
          rw l (stopped_before (lexemes_at f.base s f.at) (lexemes_at f.base s e) (step_tail f.base s f.at (word (part s a e)) a e w) (λ m z k. k) r)

      pub alternative_void : (q : ℕ) → (schema_of_records R).find u (part s a e) ≡ found q → is_void ((schema_of_records R).kind q) ≡ true → (a ≡ a) × KnownWhole (schema_of_records R) R.count s f u q a e e
      alternative_void q g v = (refl, record { known = record { find = g; void = v; below = find_below R.table.now R.unpacked.now R.count u (part s a e) q g }; same = refl })

      pub alternative_equals : (q : ℕ) (h : Head) → (schema_of_records R).find u (part s a e) ≡ found q → is_void ((schema_of_records R).kind q) ≡ false → HeadAt f.base s e h → h.kind ≡ Equals → (a ≡ a) × KnownEquals (schema_of_records R) R.count s f u q a e h.past.at
      alternative_equals q h g v d c = (refl, record { known = record { find = g; void = v; below = find_below R.table.now R.unpacked.now R.count u (part s a e) q g }; place = h.start; step = step_of_equals f.base s e h d c })

pub bare_like : (g : schema.Found) (b : Bool) (r : Option ℕ) → found_of r ≡ g → b ≡ true → found_of r ≡ bare_for g b
unfolding bare_for
bare_like nowhere b r e t = e
bare_like (found q) b r e t = rw t e

pub bare_other : (g : schema.Found) (b : Bool) → b ≡ false → nowhere ≡ bare_for g b
unfolding bare_for
bare_other nowhere b t = refl
bare_other (found q) b t = rw t refl
