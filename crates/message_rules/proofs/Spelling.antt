-- The cut is the one way to spell the message as blanks and tokens, each word the longest row.
use mathlib.Core.Path.{◌≡◌, refl, ap, sym, ◌∙◌}
use mathlib.Core.Bool.{Bool, true, false, not}
use mathlib.Core.List.{List, [], ◌∷◌, ◌++◌}
use Prim.Native.Nat.{ℕ, zero, suc, ◌+◌, ◌≤◌, ◌<◌}
use native.Mathlib.Omega.{arith}
use lib.Dec.{eqb, leb}
use lib.ListN.{length, take, drop, get_or, length-append, length-drop, take-append-drop, get_or-eq_default}
use lib.Seq.{drop-length, take-append_seam, drop-append_seam, get_or-append_seam, length-take-le, split_at}
use borrow.Author.Tests.{leb-true, leb-false, eqb-true, ne_eqb, not-true}
use Rattle.classes.proofs.Rows.{run_take, run_within}
use Rattle.classes.specs.Bytes.{between, is_blank, is_word_byte, is_string_byte, is_quote}
use Rattle.classes.specs.Lists.{every, run_of}
use Rattle.reading_rules.specs.Token.{Token, word, string, equals, comma, opening, closing, is_token}
use Rattle.reading_rules.specs.Schema.{nowhere, found}
use Rattle.reading_rules.proofs.CountLaws.{clash_bool, and_both}
use Rattle.message_rules.specs.Scan.{Lexeme, CutResult, clean, bad_at, put_first, lexeme, Begins, plain, quoted, nothing, mark, begins_of, cut_token, cut_rest, cut_from, cut, spelled_then, spelled_length, no_word_byte, ends_there, Spelled, none_begun, begins_none, Faulty}
use Rattle.table_rules.proofs.Words.{word_token}

-- runs
run_all : (f : ℕ → Bool) (l : List ℕ) → every f l ≡ true → run_of f l ≡ length l
unfolding every run_of
run_all f [] e = refl
run_all f (b ∷ l) e = and_both (f b) (every f l) e (λ a c. rw (a, run_of) (ap suc (run_all f l c)))

-- the run ends where a byte is not of the class
unfoldable stops_at : (ℕ → Bool) → List ℕ → Bool
stops_at f [] = true
stops_at f (b ∷ l) = not (f b)

run_to : (f : ℕ → Bool) (l r : List ℕ) → every f l ≡ true → stops_at f r ≡ true → run_of f (l ++ r) ≡ length l
unfolding every run_of stops_at
run_to f [] [] e s = refl
run_to f [] (b ∷ r) e s = rw (not-true (f b) s, run_of)
run_to f (b ∷ l) r e s = and_both (f b) (every f l) e (λ a c. rw (a, run_of) (ap suc (run_to f l r c s)))

blank_not : (b : ℕ) → 33 ≤ b → is_blank b ≡ false
unfolding is_blank
blank_not b m = rw (ne_eqb b 32 (λ e. omega arith), ne_eqb b 9 (λ e. omega arith), ne_eqb b 13 (λ e. omega arith)) (ne_eqb b 10 (λ e. omega arith))

pub word_not_blank : (b : ℕ) → is_word_byte b ≡ true → is_blank b ≡ false
unfolding is_word_byte
word_not_blank b e = and_both (between 33 126 b) _ e (λ a c. and_both (leb 33 b) (leb b 126) a (λ x y. blank_not b (leb-true 33 b x)))

starts_solid : (t : Token) (r : List ℕ) → is_token t ≡ true → stops_at is_blank (spelled_then t r) ≡ true
unfolding is_token spelled_then stops_at every is_blank
starts_solid (word []) r e = clash_bool e
starts_solid (word (b ∷ w)) r e = and_both (is_word_byte b) _ e (λ a c. ap not (word_not_blank b a))
starts_solid (string w) r e = refl
starts_solid equals r e = refl
starts_solid comma r e = refl
starts_solid opening r e = refl
starts_solid closing r e = refl

pub word_begins : (b : ℕ) → is_word_byte b ≡ true → begins_of b ≡ plain
unfolding begins_of
word_begins b e = rw (e, begins_of)

no_word_stops : (r : List ℕ) → no_word_byte r ≡ true → stops_at is_word_byte r ≡ true
unfolding no_word_byte stops_at
no_word_stops [] e = refl
no_word_stops (b ∷ r) e = e

word_cut : (next : ℕ → List ℕ → CutResult) (at b : ℕ) (w rest : List ℕ) → every is_word_byte (b ∷ w) ≡ true → no_word_byte rest ≡ true → cut_token next at b (w ++ rest) plain ≡ put_first (lexeme (word (b ∷ w)) at (at + suc (length w))) (next (at + suc (length w)) rest)
unfolding cut_token
word_cut next at b w rest e s = go (run_of is_word_byte (b ∷ (w ++ rest))) (run_to is_word_byte (b ∷ w) rest e (no_word_stops rest s))
  where
    go : (n : ℕ) → n ≡ suc (length w) → put_first (lexeme (word (take n (b ∷ (w ++ rest)))) at (at + n)) (next (at + n) (drop n (b ∷ (w ++ rest)))) ≡ put_first (lexeme (word (b ∷ w)) at (at + suc (length w))) (next (at + suc (length w)) rest)
    go n a = rw a (rw (take-append_seam w rest, drop-append_seam w rest))

drop_past : (w : List ℕ) (b : ℕ) (rest : List ℕ) → drop (suc (length w)) (w ++ b ∷ rest) ≡ rest
drop_past [] b rest = refl
drop_past (x ∷ w) b rest = drop_past w b rest

quote_stops : (rest : List ℕ) → stops_at is_string_byte (34 ∷ rest) ≡ true
unfolding stops_at is_string_byte
quote_stops rest = refl

string_cut : (next : ℕ → List ℕ → CutResult) (at b : ℕ) (w rest : List ℕ) → every is_string_byte w ≡ true → cut_token next at b (w ++ 34 ∷ rest) quoted ≡ put_first (lexeme (string w) at (at + (length w + 2))) (next (at + (length w + 2)) rest)
unfolding cut_token
string_cut next at b w rest e = go (run_of is_string_byte (w ++ 34 ∷ rest)) (run_to is_string_byte w (34 ∷ rest) e (quote_stops rest)) (is_quote (get_or (w ++ 34 ∷ rest) (run_of is_string_byte (w ++ 34 ∷ rest)) 0)) refl
  where
    go : (n : ℕ) → n ≡ length w → (q : Bool) → is_quote (get_or (w ++ 34 ∷ rest) n 0) ≡ q → ◌≡◌ {A = CutResult} (elim q [ true ↦ put_first (lexeme (string (take n (w ++ 34 ∷ rest))) at (at + n + 2)) (next (at + n + 2) (drop (suc n) (w ++ 34 ∷ rest))) | false ↦ bad_at at ]) (put_first (lexeme (string w) at (at + (length w + 2))) (next (at + (length w + 2)) rest))
    go n a true q = let m : at + length w + 2 ≡ at + (length w + 2) = omega arith in rw a (rw (take-append_seam w (34 ∷ rest), drop_past w 34 rest, m))
    go n a false q =
        let c : is_quote (get_or (w ++ 34 ∷ rest) (length w) 0) ≡ true = rw (get_or-append_seam w 34 rest 0) in
        let d : is_quote (get_or (w ++ 34 ∷ rest) n 0) ≡ true = rw a c in
        clash_bool (sym q ∙ d)

-- one token is cut as it is spelled
token_cut : (next : ℕ → List ℕ → CutResult) (at : ℕ) (t : Token) (rest : List ℕ) → is_token t ≡ true → ends_there t rest ≡ true → cut_rest next at (spelled_then t rest) ≡ put_first (lexeme t at (at + spelled_length t)) (next (at + spelled_length t) rest)
unfolding is_token ends_there spelled_then spelled_length cut_rest cut_token begins_of is_word_byte every
token_cut next at (word []) rest e s = clash_bool e
token_cut next at (word (b ∷ w)) rest e s = and_both (is_word_byte b) (every is_word_byte w) e (λ a c. ap (cut_token next at b (w ++ rest)) (word_begins b a) ∙ word_cut next at b w rest e s)
token_cut next at (string w) rest e s = string_cut next at 34 w rest e
token_cut next at equals rest e s = refl
token_cut next at comma rest e s = refl
token_cut next at opening rest e s = refl
token_cut next at closing rest e s = refl

spelled_long : (t : Token) (r : List ℕ) → is_token t ≡ true → length r < length (spelled_then t r)
unfolding is_token spelled_then
spelled_long (word []) r e = clash_bool e
spelled_long (word (b ∷ w)) r e = omega (arith, length-append w r)
spelled_long (string w) r e = omega (arith, length-append w (34 ∷ r))
spelled_long equals r e = omega arith
spelled_long comma r e = omega arith
spelled_long opening r e = omega arith
spelled_long closing r e = omega arith

-- what is spelled is cut so
pub spelled_cut : (fuel at : ℕ) (bytes : List ℕ) (ls : List Lexeme) → Spelled at bytes ls → length bytes ≤ fuel → cut_from fuel at bytes ≡ record { lexemes = ls; bad = nowhere }
unfolding Spelled cut_from cut_rest
spelled_cut zero at bytes [] h m = refl
spelled_cut (suc fuel) at bytes [] h m = go (run_of is_blank bytes) (run_all is_blank bytes h)
  where
    go : (n : ℕ) → n ≡ length bytes → cut_rest (cut_from fuel) (at + n) (drop n bytes) ≡ clean
    go n e = rw e (rw (drop-length bytes))
spelled_cut zero at bytes (l ∷ ls) h m =
    absurd (omega (arith, spelled_long l.token h.1 h.4, length-append h.0 (spelled_then l.token h.1), ap length h.2))
spelled_cut (suc fuel) at bytes (l ∷ ls) h m =
    let gap = h.0 in
    let rest = h.1 in
    let body = spelled_then l.token rest in
    let long = spelled_long l.token rest h.4 in
    let r = spelled_cut fuel l.end rest ls h.8 (omega (arith, length-append gap body, ap length h.2)) in
    go bytes h.2 (run_of is_blank bytes) refl r
  where
    go : (y : List ℕ) → y ≡ h.0 ++ spelled_then l.token h.1 → (n : ℕ) → run_of is_blank y ≡ n → cut_from fuel l.end h.1 ≡ record { lexemes = ls; bad = nowhere } → cut_rest (cut_from fuel) (at + n) (drop n y) ≡ record { lexemes = l ∷ ls; bad = nowhere }
    go y e n a r =
        let k : run_of is_blank (h.0 ++ spelled_then l.token h.1) ≡ length h.0 = run_to is_blank h.0 (spelled_then l.token h.1) h.3 (starts_solid l.token h.1 h.4) in
        let c : n ≡ length h.0 = sym a ∙ (ap (run_of is_blank) e ∙ k) in
        let b : l.start ≡ at + length h.0 = h.6 in
        let d : l.end ≡ l.start + spelled_length l.token = h.7 in
        rw (c, e, drop-append_seam h.0 (spelled_then l.token h.1), ← b)
        (token_cut (cut_from fuel) l.start l.token h.1 h.4 h.5 ∙ rw (← d, r))

-- and what is cut is spelled
run_stop : (f : ℕ → Bool) (l : List ℕ) → stops_at f (drop (run_of f l) l) ≡ true
unfolding run_of stops_at
run_stop f [] = refl
run_stop f (b ∷ l) = go (f b) refl (run_stop f l)
  where
    go : (t : Bool) → f b ≡ t → stops_at f (drop (run_of f l) l) ≡ true → stops_at f (drop (elim t [ true ↦ suc (run_of f l) | false ↦ 0 ]) (b ∷ l)) ≡ true
    go true e k = k
    go false e k = ap not e

run_first : (f : ℕ → Bool) (b : ℕ) (l : List ℕ) → f b ≡ true → 1 ≤ run_of f (b ∷ l)
unfolding run_of
run_first f b l e = rw (e, run_of) (omega arith)

every_nil : (f : ℕ → Bool) (l : List ℕ) → every f l ≡ true → every f (l ++ []) ≡ true
unfolding every
every_nil f [] e = refl
every_nil f (b ∷ l) e = and_both (f b) (every f l) e (λ a c. rw a (every_nil f l c))

-- what a byte begins
begins_what : {X : Type 0} (b : ℕ) (k : Begins) → begins_of b ≡ k → (is_word_byte b ≡ true → k ≡ plain → X) → (b ≡ 34 → k ≡ quoted → X) → ((t : Token) → k ≡ mark t → is_token t ≡ true → ((r : List ℕ) → (spelled_then t r ≡ b ∷ r) × (ends_there t r ≡ true)) → spelled_length t ≡ 1 → X) → (k ≡ nothing → X) → X
unfolding begins_of is_token spelled_then ends_there spelled_length
begins_what {X} b k e f g h i = go1 (is_word_byte b) refl e
  where
    go6 : (t : Bool) → eqb b 125 ≡ t → elim t [ true ↦ mark closing | false ↦ nothing ] ≡ k → X
    go6 true a c = h closing (sym c) refl (λ r. (ap (λ x. x ∷ r) (sym (eqb-true b 125 a)), refl)) refl
    go6 false a c = i (sym c)

    go5 : (t : Bool) → eqb b 123 ≡ t → elim t [ true ↦ mark opening | false ↦ elim (eqb b 125) [ true ↦ mark closing | false ↦ nothing ] ] ≡ k → X
    go5 true a c = h opening (sym c) refl (λ r. (ap (λ x. x ∷ r) (sym (eqb-true b 123 a)), refl)) refl
    go5 false a c = go6 (eqb b 125) refl c

    go4 : (t : Bool) → eqb b 44 ≡ t → elim t [ true ↦ mark comma | false ↦ elim (eqb b 123) [ true ↦ mark opening | false ↦ elim (eqb b 125) [ true ↦ mark closing | false ↦ nothing ] ] ] ≡ k → X
    go4 true a c = h comma (sym c) refl (λ r. (ap (λ x. x ∷ r) (sym (eqb-true b 44 a)), refl)) refl
    go4 false a c = go5 (eqb b 123) refl c

    go3 : (t : Bool) → eqb b 61 ≡ t → elim t [ true ↦ mark equals | false ↦ elim (eqb b 44) [ true ↦ mark comma | false ↦ elim (eqb b 123) [ true ↦ mark opening | false ↦ elim (eqb b 125) [ true ↦ mark closing | false ↦ nothing ] ] ] ] ≡ k → X
    go3 true a c = h equals (sym c) refl (λ r. (ap (λ x. x ∷ r) (sym (eqb-true b 61 a)), refl)) refl
    go3 false a c = go4 (eqb b 44) refl c

    go2 : (t : Bool) → is_quote b ≡ t → elim t [ true ↦ quoted | false ↦ elim (eqb b 61) [ true ↦ mark equals | false ↦ elim (eqb b 44) [ true ↦ mark comma | false ↦ elim (eqb b 123) [ true ↦ mark opening | false ↦ elim (eqb b 125) [ true ↦ mark closing | false ↦ nothing ] ] ] ] ] ≡ k → X
    go2 true a c = g (eqb-true b 34 a) (sym c)
    go2 false a c = go3 (eqb b 61) refl c

    go1 : (t : Bool) → is_word_byte b ≡ t → elim t [ true ↦ plain | false ↦ elim (is_quote b) [ true ↦ quoted | false ↦ elim (eqb b 61) [ true ↦ mark equals | false ↦ elim (eqb b 44) [ true ↦ mark comma | false ↦ elim (eqb b 123) [ true ↦ mark opening | false ↦ elim (eqb b 125) [ true ↦ mark closing | false ↦ nothing ] ] ] ] ] ] ≡ k → X
    go1 true a c = f a (sym c)
    go1 false a c = go2 (is_quote b) refl c

stops_no_word : (r : List ℕ) → stops_at is_word_byte r ≡ true → no_word_byte r ≡ true
unfolding no_word_byte stops_at
stops_no_word [] e = refl
stops_no_word (b ∷ r) e = e

quote_inside : (l : List ℕ) (n : ℕ) → is_quote (get_or l n 0) ≡ true → n < length l
quote_inside l n e = go (leb (length l) n) refl
  where
    go : (t : Bool) → leb (length l) n ≡ t → n < length l
    go true a = let z : is_quote 0 ≡ true = rw (get_or-eq_default l 0 (leb-true (length l) n a)) at e in clash_bool z
    go false a = leb-false (length l) n a

module _ (fuel : ℕ) (ih : (at : ℕ) (y : List ℕ) → length y ≤ fuel → (cut_from fuel at y).bad ≡ nowhere → Spelled at y (cut_from fuel at y).lexemes) (gap : List ℕ) (hg : every is_blank gap ≡ true) (at : ℕ) where
  word_spelled : (b : ℕ) (l : List ℕ) → length l ≤ fuel → is_word_byte b ≡ true → (cut_token (cut_from fuel) (at + length gap) b l plain).bad ≡ nowhere → Spelled at (gap ++ (b ∷ l)) (cut_token (cut_from fuel) (at + length gap) b l plain).lexemes
  unfolding cut_token Spelled spelled_then spelled_length ends_there
  word_spelled b l m e bad =
      let n = run_of is_word_byte (b ∷ l) in
      let pos = run_first is_word_byte b l e in
      let k : length (take n (b ∷ l)) ≡ n = length-take-le n (b ∷ l) (run_within is_word_byte (b ∷ l)) in (
        gap,
        drop n (b ∷ l),
        ap (λ z. gap ++ z) (sym (take-append-drop n (b ∷ l))),
        hg,
        word_token (take n (b ∷ l)) (omega arith) (run_take is_word_byte (b ∷ l)),
        stops_no_word (drop n (b ∷ l)) (run_stop is_word_byte (b ∷ l)),
        refl,
        ap (λ z. at + length gap + z) (sym k),
        ih (at + length gap + n) (drop n (b ∷ l)) (omega (arith, length-drop n (b ∷ l))) bad,
      )

  string_spelled : (l : List ℕ) → length l ≤ fuel → (cut_token (cut_from fuel) (at + length gap) 34 l quoted).bad ≡ nowhere → Spelled at (gap ++ (34 ∷ l)) (cut_token (cut_from fuel) (at + length gap) 34 l quoted).lexemes
  unfolding cut_token Spelled spelled_then spelled_length ends_there is_token
  string_spelled l m bad = go (is_quote (get_or l (run_of is_string_byte l) 0)) refl bad
    where
      go : (q : Bool) → is_quote (get_or l (run_of is_string_byte l) 0) ≡ q
          → (let c : CutResult = elim q [ true ↦ put_first (lexeme (string (take (run_of is_string_byte l) l)) (at + length gap) (at + length gap + run_of is_string_byte l + 2)) (cut_from fuel (at + length gap + run_of is_string_byte l + 2) (drop (suc (run_of is_string_byte l)) l)) | false ↦ bad_at (at + length gap) ] in c.bad ≡ nowhere)
          → (let c : CutResult = elim q [ true ↦ put_first (lexeme (string (take (run_of is_string_byte l) l)) (at + length gap) (at + length gap + run_of is_string_byte l + 2)) (cut_from fuel (at + length gap + run_of is_string_byte l + 2) (drop (suc (run_of is_string_byte l)) l)) | false ↦ bad_at (at + length gap) ] in Spelled at (gap ++ (34 ∷ l)) c.lexemes)
      go true q b =
          let n = run_of is_string_byte l in
          let inside = quote_inside l n q in
          let k : length (take n l) ≡ n = length-take-le n l (run_within is_string_byte l) in
          let s : l ≡ take n l ++ get_or l n 0 ∷ drop (suc n) l = split_at l n 0 inside in
          let d : get_or l n 0 ≡ 34 = eqb-true (get_or l n 0) 34 q in
          let c : l ≡ take n l ++ 34 ∷ drop (suc n) l = s ∙ ap (λ x. take n l ++ x ∷ drop (suc n) l) d in (
            gap,
            drop (suc n) l,
            ap (λ z. gap ++ (34 ∷ z)) c,
            hg,
            run_take is_string_byte l,
            refl,
            refl,
            omega arith,
            ih (at + length gap + n + 2) (drop (suc n) l) (omega (arith, length-drop (suc n) l)) b,
          )
      go false q b = let z : ◌≡◌ {A = ℕ} 0 1 = cc in absurd (omega arith)

  mark_spelled : (b : ℕ) (l : List ℕ) (t : Token) → length l ≤ fuel → is_token t ≡ true → ((r : List ℕ) → (spelled_then t r ≡ b ∷ r) × (ends_there t r ≡ true)) → spelled_length t ≡ 1 → (cut_token (cut_from fuel) (at + length gap) b l (mark t)).bad ≡ nowhere → Spelled at (gap ++ (b ∷ l)) (cut_token (cut_from fuel) (at + length gap) b l (mark t)).lexemes
  unfolding cut_token Spelled
  mark_spelled b l t m e h k bad =
      (gap, l, ap (λ z. gap ++ z) (sym (h l).0), hg, e, (h l).1, refl, omega arith, ih (at + length gap + 1) l m bad)

  bad_not : {X : Type 0} (b : ℕ) (l : List ℕ) → (cut_token (cut_from fuel) (at + length gap) b l nothing).bad ≡ nowhere → X
  unfolding cut_token
  bad_not b l e = let z : ◌≡◌ {A = ℕ} 0 1 = cc in absurd (omega arith)

  rest_spelled : (y : List ℕ) → length y ≤ suc fuel → (cut_rest (cut_from fuel) (at + length gap) y).bad ≡ nowhere → Spelled at (gap ++ y) (cut_rest (cut_from fuel) (at + length gap) y).lexemes
  unfolding cut_rest Spelled
  rest_spelled [] m bad = every_nil is_blank gap hg
  rest_spelled (b ∷ l) m bad = go (begins_of b) refl bad
    where
      go : (k : Begins) → begins_of b ≡ k → (cut_token (cut_from fuel) (at + length gap) b l k).bad ≡ nowhere → Spelled at (gap ++ (b ∷ l)) (cut_token (cut_from fuel) (at + length gap) b l k).lexemes
      go k e c = begins_what b k e
          (λ a q. rw q (word_spelled b l (omega arith) a (rw q at c)))
          (λ a q. rw (q, a) (string_spelled l (omega arith) (rw (q, a) at c)))
          (λ t q a h n. rw q (mark_spelled b l t (omega arith) a h n (rw q at c)))
          (λ q. bad_not b l (rw q at c))

pub cut_spelled : (fuel at : ℕ) (bytes : List ℕ) → length bytes ≤ fuel → (cut_from fuel at bytes).bad ≡ nowhere → Spelled at bytes (cut_from fuel at bytes).lexemes
unfolding cut_from Spelled every
cut_spelled zero at [] m e = refl
cut_spelled zero at (b ∷ l) m e = absurd (omega arith)
cut_spelled (suc fuel) at bytes m e =
    let n = run_of is_blank bytes in
    let k : length (take n bytes) ≡ n = length-take-le n bytes (run_within is_blank bytes) in
    go (take n bytes) (drop n bytes) (take-append-drop n bytes) n k (run_take is_blank bytes) (omega (arith, length-drop n bytes)) (λ a y j b. cut_spelled fuel a y j b) e
  where
    go : (gap y : List ℕ) → gap ++ y ≡ bytes → (n : ℕ) → length gap ≡ n → every is_blank gap ≡ true → length y ≤ suc fuel → ((a : ℕ) (z : List ℕ) → length z ≤ fuel → (cut_from fuel a z).bad ≡ nowhere → Spelled a z (cut_from fuel a z).lexemes) → (cut_rest (cut_from fuel) (at + n) y).bad ≡ nowhere → Spelled at bytes (cut_rest (cut_from fuel) (at + n) y).lexemes
    go gap y s n k h j ih b =
        let r = rest_spelled fuel ih gap h at y j (rw k b) in
        rw (← s, ← k) r

-- T10. A message without a bad byte is spelled as its cut, and in no other way; one with a bad byte is spelled in none
pub message_spelled : (message : List ℕ) → (cut message).bad ≡ nowhere → Spelled 0 message (cut message).lexemes
message_spelled message e = cut_spelled (length message) 0 message (omega arith) e

pub spelled_once : (message : List ℕ) (a b : List Lexeme) → Spelled 0 message a → Spelled 0 message b → a ≡ b
spelled_once message a b p q = ap (λ c. c.lexemes) (sym (spelled_cut (length message) 0 message a p (omega arith)) ∙ spelled_cut (length message) 0 message b q (omega arith))

pub bad_unspelled : (message : List ℕ) (place : ℕ) → (cut message).bad ≡ found place → (ls : List Lexeme) → Spelled 0 message ls → ⊥
bad_unspelled message place e ls p =
    let b : (cut message).bad ≡ nowhere = ap (λ c. c.bad) (spelled_cut (length message) 0 message ls p (omega arith)) in
    let z : ◌≡◌ {A = ℕ} 0 1 = cc in
    omega arith

-- where no token begins, the cut is bad
none_cut : (next : ℕ → List ℕ → CutResult) (at b : ℕ) (l : List ℕ) (k : Begins) → none_begun l k ≡ true → cut_token next at b l k ≡ bad_at at
unfolding cut_token none_begun
none_cut next at b l plain e = clash_bool e
none_cut next at b l quoted e = go (is_quote (get_or l (run_of is_string_byte l) 0)) e
  where
    go : (q : Bool) → not q ≡ true → ◌≡◌ {A = CutResult} (elim q [ true ↦ put_first (lexeme (string (take (run_of is_string_byte l) l)) at (at + run_of is_string_byte l + 2)) (next (at + run_of is_string_byte l + 2) (drop (suc (run_of is_string_byte l)) l)) | false ↦ bad_at at ]) (bad_at at)
    go true a = clash_bool a
    go false a = refl
none_cut next at b l nothing e = refl
none_cut next at b l (mark t) e = clash_bool e

none_rest : (next : ℕ → List ℕ → CutResult) (at : ℕ) (r : List ℕ) → begins_none r ≡ true → cut_rest next at r ≡ bad_at at
unfolding cut_rest begins_none
none_rest next at [] e = clash_bool e
none_rest next at (b ∷ l) e = and_both (not (is_blank b)) (none_begun l (begins_of b)) e (λ a c. none_cut next at b l (begins_of b) c)

none_long : (r : List ℕ) → begins_none r ≡ true → 1 ≤ length r
unfolding begins_none
none_long [] e = clash_bool e
none_long (b ∷ l) e = omega arith

none_stops : (r : List ℕ) → begins_none r ≡ true → stops_at is_blank r ≡ true
unfolding begins_none stops_at
none_stops [] e = clash_bool e
none_stops (b ∷ l) e = and_both (not (is_blank b)) (none_begun l (begins_of b)) e (λ a c. a)

-- a fault is found where it is
pub faulty_cut : (fuel at : ℕ) (bytes : List ℕ) (ls : List Lexeme) (bad : ℕ) → Faulty at bytes ls bad → length bytes ≤ fuel → cut_from fuel at bytes ≡ record { lexemes = ls; bad = found bad }
unfolding Faulty cut_from
faulty_cut zero at bytes [] bad h m = absurd (omega (arith, none_long h.1 h.5, length-append h.0 h.1, ap length h.2))
faulty_cut (suc fuel) at bytes [] bad h m = go bytes h.2 (run_of is_blank bytes) refl
  where
    go : (y : List ℕ) → y ≡ h.0 ++ h.1 → (n : ℕ) → run_of is_blank y ≡ n → cut_rest (cut_from fuel) (at + n) (drop n y) ≡ record { lexemes = []; bad = found bad }
    go y e n a =
        let k : run_of is_blank (h.0 ++ h.1) ≡ length h.0 = run_to is_blank h.0 h.1 h.3 (none_stops h.1 h.5) in
        let c : n ≡ length h.0 = sym a ∙ (ap (run_of is_blank) e ∙ k) in
        let b : bad ≡ at + length h.0 = h.4 in
        rw (c, e, drop-append_seam h.0 h.1, ← b) (none_rest (cut_from fuel) bad h.1 h.5)
faulty_cut zero at bytes (l ∷ ls) bad h m =
    absurd (omega (arith, spelled_long l.token h.1 h.4, length-append h.0 (spelled_then l.token h.1), ap length h.2))
faulty_cut (suc fuel) at bytes (l ∷ ls) bad h m =
    let long = spelled_long l.token h.1 h.4 in
    let r = faulty_cut fuel l.end h.1 ls bad h.8 (omega (arith, length-append h.0 (spelled_then l.token h.1), ap length h.2)) in
    go bytes h.2 (run_of is_blank bytes) refl r
  where
    go : (y : List ℕ) → y ≡ h.0 ++ spelled_then l.token h.1 → (n : ℕ) → run_of is_blank y ≡ n → cut_from fuel l.end h.1 ≡ record { lexemes = ls; bad = found bad } → cut_rest (cut_from fuel) (at + n) (drop n y) ≡ record { lexemes = l ∷ ls; bad = found bad }
    go y e n a r =
        let k : run_of is_blank (h.0 ++ spelled_then l.token h.1) ≡ length h.0 = run_to is_blank h.0 (spelled_then l.token h.1) h.3 (starts_solid l.token h.1 h.4) in
        let c : n ≡ length h.0 = sym a ∙ (ap (run_of is_blank) e ∙ k) in
        let b : l.start ≡ at + length h.0 = h.6 in
        let d : l.end ≡ l.start + spelled_length l.token = h.7 in
        rw (c, e, drop-append_seam h.0 (spelled_then l.token h.1), ← b)
        (token_cut (cut_from fuel) l.start l.token h.1 h.4 h.5 ∙ rw (← d, r))

-- a message that is spelled up to a place where no token begins is cut so: 22's bad byte is the only such place
pub message_faulty : (message : List ℕ) (ls : List Lexeme) (bad : ℕ) → Faulty 0 message ls bad → cut message ≡ record { lexemes = ls; bad = found bad }
message_faulty message ls bad h = faulty_cut (length message) 0 message ls bad h (omega arith)

-- and a cut that is bad is such a spelling
module _ (fuel bad : ℕ) (ih : (at : ℕ) (y : List ℕ) → length y ≤ fuel → (cut_from fuel at y).bad ≡ found bad → Faulty at y (cut_from fuel at y).lexemes bad) (gap : List ℕ) (hg : every is_blank gap ≡ true) (at : ℕ) where
  word_faulty : (b : ℕ) (l : List ℕ) → length l ≤ fuel → is_word_byte b ≡ true → (cut_token (cut_from fuel) (at + length gap) b l plain).bad ≡ found bad → Faulty at (gap ++ (b ∷ l)) (cut_token (cut_from fuel) (at + length gap) b l plain).lexemes bad
  unfolding cut_token Faulty spelled_then spelled_length ends_there
  word_faulty b l m e f =
      let n = run_of is_word_byte (b ∷ l) in
      let pos = run_first is_word_byte b l e in
      let k : length (take n (b ∷ l)) ≡ n = length-take-le n (b ∷ l) (run_within is_word_byte (b ∷ l)) in (
        gap,
        drop n (b ∷ l),
        ap (λ z. gap ++ z) (sym (take-append-drop n (b ∷ l))),
        hg,
        word_token (take n (b ∷ l)) (omega arith) (run_take is_word_byte (b ∷ l)),
        stops_no_word (drop n (b ∷ l)) (run_stop is_word_byte (b ∷ l)),
        refl,
        ap (λ z. at + length gap + z) (sym k),
        ih (at + length gap + n) (drop n (b ∷ l)) (omega (arith, length-drop n (b ∷ l))) f,
      )

  string_faulty : (l : List ℕ) → length l ≤ fuel → begins_of 34 ≡ quoted → (cut_token (cut_from fuel) (at + length gap) 34 l quoted).bad ≡ found bad → Faulty at (gap ++ (34 ∷ l)) (cut_token (cut_from fuel) (at + length gap) 34 l quoted).lexemes bad
  unfolding cut_token Faulty spelled_then spelled_length ends_there is_token begins_none none_begun is_blank
  string_faulty l m kind f = go (is_quote (get_or l (run_of is_string_byte l) 0)) refl f
    where
      go : (q : Bool) → is_quote (get_or l (run_of is_string_byte l) 0) ≡ q
          → (let c : CutResult = elim q [ true ↦ put_first (lexeme (string (take (run_of is_string_byte l) l)) (at + length gap) (at + length gap + run_of is_string_byte l + 2)) (cut_from fuel (at + length gap + run_of is_string_byte l + 2) (drop (suc (run_of is_string_byte l)) l)) | false ↦ bad_at (at + length gap) ] in c.bad ≡ found bad)
          → (let c : CutResult = elim q [ true ↦ put_first (lexeme (string (take (run_of is_string_byte l) l)) (at + length gap) (at + length gap + run_of is_string_byte l + 2)) (cut_from fuel (at + length gap + run_of is_string_byte l + 2) (drop (suc (run_of is_string_byte l)) l)) | false ↦ bad_at (at + length gap) ] in Faulty at (gap ++ (34 ∷ l)) c.lexemes bad)
      go true q b =
          let n = run_of is_string_byte l in
          let inside = quote_inside l n q in
          let k : length (take n l) ≡ n = length-take-le n l (run_within is_string_byte l) in
          let s : l ≡ take n l ++ get_or l n 0 ∷ drop (suc n) l = split_at l n 0 inside in
          let d : get_or l n 0 ≡ 34 = eqb-true (get_or l n 0) 34 q in
          let c : l ≡ take n l ++ 34 ∷ drop (suc n) l = s ∙ ap (λ x. take n l ++ x ∷ drop (suc n) l) d in (
            gap,
            drop (suc n) l,
            ap (λ z. gap ++ (34 ∷ z)) c,
            hg,
            run_take is_string_byte l,
            refl,
            refl,
            omega arith,
            ih (at + length gap + n + 2) (drop (suc n) l) (omega (arith, length-drop (suc n) l)) b,
          )
      go false q b =
          let z : at + length gap ≡ bad = cc in
          let u : none_begun l quoted ≡ true = ap not q in
          (gap, 34 ∷ l, refl, hg, sym z, rw kind u)

  mark_faulty : (b : ℕ) (l : List ℕ) (t : Token) → length l ≤ fuel → is_token t ≡ true → ((r : List ℕ) → (spelled_then t r ≡ b ∷ r) × (ends_there t r ≡ true)) → spelled_length t ≡ 1 → (cut_token (cut_from fuel) (at + length gap) b l (mark t)).bad ≡ found bad → Faulty at (gap ++ (b ∷ l)) (cut_token (cut_from fuel) (at + length gap) b l (mark t)).lexemes bad
  unfolding cut_token Faulty
  mark_faulty b l t m e h k f =
      (gap, l, ap (λ z. gap ++ z) (sym (h l).0), hg, e, (h l).1, refl, omega arith, ih (at + length gap + 1) l m f)

  nothing_faulty : (b : ℕ) (l : List ℕ) → is_blank b ≡ false → begins_of b ≡ nothing → (cut_token (cut_from fuel) (at + length gap) b l nothing).bad ≡ found bad → Faulty at (gap ++ (b ∷ l)) (cut_token (cut_from fuel) (at + length gap) b l nothing).lexemes bad
  unfolding cut_token Faulty begins_none none_begun
  nothing_faulty b l s k f =
      let z : at + length gap ≡ bad = cc in
      (gap, b ∷ l, refl, hg, sym z, rw (s, k))

  rest_faulty : (y : List ℕ) → length y ≤ suc fuel → stops_at is_blank y ≡ true → (cut_rest (cut_from fuel) (at + length gap) y).bad ≡ found bad → Faulty at (gap ++ y) (cut_rest (cut_from fuel) (at + length gap) y).lexemes bad
  unfolding cut_rest stops_at
  rest_faulty [] m s f = let z : ◌≡◌ {A = ℕ} 0 1 = cc in absurd (omega arith)
  rest_faulty (b ∷ l) m s f = go (begins_of b) refl f
    where
      go : (k : Begins) → begins_of b ≡ k → (cut_token (cut_from fuel) (at + length gap) b l k).bad ≡ found bad → Faulty at (gap ++ (b ∷ l)) (cut_token (cut_from fuel) (at + length gap) b l k).lexemes bad
      go k e c = begins_what b k e
          (λ a q. rw q (word_faulty b l (omega arith) a (rw q at c)))
          (λ a q. rw (q, a) (string_faulty l (omega arith) (rw (a, q) at e) (rw (q, a) at c)))
          (λ t q a h n. rw q (mark_faulty b l t (omega arith) a h n (rw q at c)))
          (λ q. rw q (nothing_faulty b l (not-true (is_blank b) s) (rw q at e) (rw q at c)))

pub cut_faulty : (fuel at : ℕ) (bytes : List ℕ) (bad : ℕ) → length bytes ≤ fuel → (cut_from fuel at bytes).bad ≡ found bad → Faulty at bytes (cut_from fuel at bytes).lexemes bad
unfolding cut_from
cut_faulty zero at bytes bad m e = let z : ◌≡◌ {A = ℕ} 0 1 = cc in absurd (omega arith)
cut_faulty (suc fuel) at bytes bad m e =
    let n = run_of is_blank bytes in
    let k : length (take n bytes) ≡ n = length-take-le n bytes (run_within is_blank bytes) in
    go (take n bytes) (drop n bytes) (take-append-drop n bytes) n k (run_take is_blank bytes) (run_stop is_blank bytes) (omega (arith, length-drop n bytes)) (λ a y j b. cut_faulty fuel a y bad j b) e
  where
    go : (gap y : List ℕ) → gap ++ y ≡ bytes → (n : ℕ) → length gap ≡ n → every is_blank gap ≡ true → stops_at is_blank y ≡ true → length y ≤ suc fuel → ((a : ℕ) (z : List ℕ) → length z ≤ fuel → (cut_from fuel a z).bad ≡ found bad → Faulty a z (cut_from fuel a z).lexemes bad) → (cut_rest (cut_from fuel) (at + n) y).bad ≡ found bad → Faulty at bytes (cut_rest (cut_from fuel) (at + n) y).lexemes bad
    go gap y s n k h u j ih b =
        let r = rest_faulty fuel bad ih gap h at y j u (rw k b) in
        rw (← s, ← k) r

-- a bad byte stands where the tokens before it are spelled and none begins
pub message_bad : (message : List ℕ) (bad : ℕ) → (cut message).bad ≡ found bad → Faulty 0 message (cut message).lexemes bad
message_bad message bad e = cut_faulty (length message) 0 message bad (omega arith) e
