-- What the answers of the reader mean, in the paper's terms: over lawful readings, their rows, and the limits. Nothing here mentions the parser.
use mathlib.Core.Path.{◌≡◌, refl, ap, sym, ◌∙◌}
use mathlib.Core.Bool.{Bool, true, false, not, ◌&&◌}
use mathlib.Core.List.{List, [], ◌∷◌, ◌++◌}
use Prim.Native.Nat.{ℕ, suc, ◌-◌, ◌*◌, ◌≤◌, ◌<◌}
use native.Mathlib.Omega.{arith}
use lib.Dec.{eqb, leb}
use lib.ListN.{length, drop}
use borrow.Author.Tests.{eqb-true, leb-true, leb-false, le-leb, lt-leb}
use Rattle.classes.proofs.Bools.{or_case}
use Rattle.classes.specs.Bytes.{between}
use Rattle.numbers.specs.Limits.{message_limit, open_limit, row_width}
use Rattle.reading_rules.specs.Token.{Token}
use Rattle.reading_rules.specs.Record.{Record}
use Rattle.reading_rules.specs.Schema.{schema_of, Found, nowhere, found}
use Rattle.reading_rules.proofs.CountLaws.{clash_bool, and_both}
use Rattle.reading_rules.proofs.Rules.{ReadingRules, well_formed}
use Rattle.reading_rules.specs.Reading.{body, Tree}
use Rattle.message_rules.specs.Scan.{Lexeme, Spelled, cut, tokens_of, open_after, is_opening, too_deep, shallow, either, scan_fault}
use Rattle.message_rules.specs.Rows.{Row, message_rows, cells}
use Rattle.reading_rules.specs.Parse.{Result, refused, got, parse}
use Rattle.message_rules.specs.Verdict.{LawfulReading, Within, RoomFree, fault, rows, place_of_left, outcome, is_unlawful, after_scan, room_free, accepted, refusal, with_room, written, read_with, rows_with}
use Rattle.reading_rules.proofs.Readings.{parse_sound, parse_complete, unique}
use Rattle.message_rules.proofs.Depth.{tree_shallow}
use Rattle.message_rules.proofs.Spelling.{spelled_cut, message_spelled, spelled_once}
use Rattle.message_rules.proofs.Fuel.{fine_number, fine_outside, body_fine}
use Rattle.message_rules.proofs.Places.{parse_left, left_first}

-- no brace too deep among the lexemes: so among their tokens
pub flat_tokens : (n : ℕ) (ls : List Lexeme) → too_deep n ls ≡ nowhere → shallow open_limit n (tokens_of ls) ≡ true
unfolding too_deep shallow tokens_of
flat_tokens n [] e = refl
flat_tokens n (l ∷ ls) e = go (is_opening l.token && leb open_limit n) e (flat_tokens (open_after n l.token) ls)
  where
    go : (b : Bool) → elim b [ true ↦ found l.start | false ↦ too_deep (open_after n l.token) ls ] ≡ nowhere → (too_deep (open_after n l.token) ls ≡ nowhere → shallow open_limit (open_after n l.token) (tokens_of ls) ≡ true) → not b && shallow open_limit (open_after n l.token) (tokens_of ls) ≡ true
    go true a k = let z : ◌≡◌ {A = ℕ} 0 1 = cc in absurd (omega arith)
    go false a k = k a

pub flat_lexemes : (n : ℕ) (ls : List Lexeme) → shallow open_limit n (tokens_of ls) ≡ true → too_deep n ls ≡ nowhere
unfolding too_deep shallow tokens_of
flat_lexemes n [] e = refl
flat_lexemes n (l ∷ ls) e = go (is_opening l.token && leb open_limit n) e (flat_lexemes (open_after n l.token) ls)
  where
    go : (b : Bool) → not b && shallow open_limit (open_after n l.token) (tokens_of ls) ≡ true → (shallow open_limit (open_after n l.token) (tokens_of ls) ≡ true → too_deep (open_after n l.token) ls ≡ nowhere) → elim b [ true ↦ found l.start | false ↦ too_deep (open_after n l.token) ls ] ≡ nowhere
    go true a k = clash_bool a
    go false a k = k a

either_none : (a b : Found) → either a b ≡ nowhere → (a ≡ nowhere) × (b ≡ nowhere)
unfolding either
either_none nowhere b e = (refl, e)
either_none (found n) b e = let z : ◌≡◌ {A = ℕ} 0 1 = cc in absurd (omega arith)

-- a reading of the message within the limits, and its rows
abbrev pub ReadingRows : List Record → List ℕ → List Row → Type 0
ReadingRows table message rs = (ls : List Lexeme) × (t : Tree body) × LawfulReading table message ls t × Within message ls × (rs ≡ message_rows message ls t)

-- tokens that the message spells are those of its cut
spelled_is : (message : List ℕ) (ls : List Lexeme) → Spelled 0 message ls → cut message ≡ record { lexemes = ls; bad = nowhere }
spelled_is message ls h = spelled_cut (length message) 0 message ls h (omega arith)

-- rows and the room that is lent
room_fits : (room : ℕ) (rs : List Row) → row_width * length rs ≤ room → with_room room (rows rs) ≡ accepted (length rs)
unfolding with_room
room_fits room rs m = rw (le-leb (row_width * length rs) room m, with_room)

room_lacks : (room : ℕ) (rs : List Row) → room < row_width * length rs → with_room room (rows rs) ≡ refusal 29 (length rs)
unfolding with_room
room_lacks room rs m = rw (lt-leb (row_width * length rs) room m, with_room)

room_accepts : {X : Type 0} (room k : ℕ) (f : RoomFree) → with_room room f ≡ accepted k → ((rs : List Row) → f ≡ rows rs → length rs ≡ k → row_width * length rs ≤ room → X) → X
unfolding with_room
room_accepts room k (fault n p) e h = let z : ◌≡◌ {A = ℕ} 0 1 = cc in absurd (omega arith)
room_accepts {X} room k (rows rs) e h = go (leb (row_width * length rs) room) refl e
  where
    go : (b : Bool) → leb (row_width * length rs) room ≡ b → elim b [ true ↦ accepted (length rs) | false ↦ refusal 29 (length rs) ] ≡ accepted k → X
    go true a o = let q : length rs ≡ k = cc in h rs refl q (leb-true (row_width * length rs) room a)
    go false a o = let z : ◌≡◌ {A = ℕ} 0 1 = cc in absurd (omega arith)

-- 23 to 28, or 30: between 23 and 30, and not 29
unlawful_number : (n : ℕ) → is_unlawful n ≡ true → (23 ≤ n) × (n ≤ 30) × (n ≡ 29 → ⊥)
unlawful_number n u = or_case (between 23 28 n) (eqb n 30) u
    (λ v. and_both (leb 23 n) (leb n 28) v (λ a b. let x = leb-true 23 n a in let y = leb-true n 28 b in (x, omega arith, λ z. omega arith)))
    (λ v. let x = eqb-true n 30 v in (omega arith, omega arith, λ z. omega arith))

-- and such a number is one of them
pub number_unlawful : (n : ℕ) → 23 ≤ n → n ≤ 30 → (n ≡ 29 → ⊥) → is_unlawful n ≡ true
number_unlawful n a b c = go (leb n 28) refl
  where
    go : (t : Bool) → leb n 28 ≡ t → is_unlawful n ≡ true
    go true e = rw (le-leb 23 n a, e)
    go false e = let x = leb-false n 28 e in let y : n ≡ 30 = omega (arith, c) in rw y

room_refuses : {X : Type 0} (room n k : ℕ) (f : RoomFree) → with_room room f ≡ refusal n k → (f ≡ fault n k → X) → ((rs : List Row) → f ≡ rows rs → length rs ≡ k → n ≡ 29 → room < row_width * length rs → X) → X
unfolding with_room
room_refuses room n k (fault m p) e h g =
    let a : m ≡ n = cc in
    let b : p ≡ k = cc in
    h (cc)
room_refuses {X} room n k (rows rs) e h g = go (leb (row_width * length rs) room) refl e
  where
    go : (b : Bool) → leb (row_width * length rs) room ≡ b → elim b [ true ↦ accepted (length rs) | false ↦ refusal 29 (length rs) ] ≡ refusal n k → X
    go true a o = let z : ◌≡◌ {A = ℕ} 0 1 = cc in absurd (omega arith)
    go false a o =
        let q : length rs ≡ k = cc in
        let c : 29 ≡ n = cc in
        g rs refl q (sym c) (leb-false (row_width * length rs) room a)

fault_shown : (room n place : ℕ) → with_room room (fault n place) ≡ refusal n place
unfolding with_room
fault_shown room n place = refl

room_written : (lent : List ℕ) (rs : List Row) → row_width * length rs ≤ length lent → written lent (rows rs) ≡ cells rs ++ drop (row_width * length rs) lent
unfolding written
room_written lent rs m = rw (le-leb (row_width * length rs) (length lent) m, written)

room_stays : (lent : List ℕ) (rs : List Row) → length lent < row_width * length rs → written lent (rows rs) ≡ lent
unfolding written
room_stays lent rs m = rw (lt-leb (row_width * length rs) (length lent) m, written)

fault_stays : (lent : List ℕ) (n place : ℕ) → written lent (fault n place) ≡ lent
unfolding written
fault_stays lent n place = refl

module _ (table : List Record) (R : ReadingRules table) where
  long_fault : (message : List ℕ) → message_limit < length message → room_free table message ≡ fault 21 message_limit
  unfolding room_free
  long_fault message m = rw (lt-leb (length message) message_limit m, room_free)

  scan_shown : (message : List ℕ) (place : ℕ) → after_scan (schema_of table) message (cut message).lexemes (found place) ≡ fault 22 place
  unfolding after_scan
  scan_shown message place = refl

  -- T13. Two lawful readings of a message are one, without limit of length or depth
  pub one_reading_lem : (message : List ℕ) (ls ms : List Lexeme) (a b : Tree body) → LawfulReading table message ls a → LawfulReading table message ms b → (ls ≡ ms) × (a ≡ b)
  one_reading_lem message ls ms a b la lb =
      let e = spelled_once message ls ms la.spelled lb.spelled in
      (e, unique (schema_of table) (well_formed table R) a b la.lawful lb.lawful (la.all ∙ (ap tokens_of e ∙ sym lb.all)))

  outcome_rows : (message : List ℕ) → length message ≤ message_limit → scan_fault (cut message) ≡ nowhere → (p : Result (Tree body)) → parse (schema_of table) open_limit (tokens_of (cut message).lexemes) ≡ p → (rs : List Row) → outcome message (cut message).lexemes p ≡ rows rs → ReadingRows table message rs
  unfolding outcome scan_fault
  outcome_rows message m f (refused n r) e rs o = let z : ◌≡◌ {A = ℕ} 0 1 = cc in absurd (omega arith)
  outcome_rows message m f (got t r) e rs o =
      let g = parse_sound (schema_of table) (well_formed table R) open_limit (tokens_of (cut message).lexemes) t r e in
      let s = either_none (too_deep 0 (cut message).lexemes) (cut message).bad f in
      let q : message_rows message (cut message).lexemes t ≡ rs = cc in
      ((cut message).lexemes, t, record { spelled = message_spelled message s.1; lawful = g.0; all = g.1 }, record { short = m; flat = flat_tokens 0 (cut message).lexemes s.0 }, sym q)

  scan_rows : (message : List ℕ) → length message ≤ message_limit → (f : Found) → scan_fault (cut message) ≡ f → (rs : List Row) → after_scan (schema_of table) message (cut message).lexemes f ≡ rows rs → ReadingRows table message rs
  unfolding after_scan
  scan_rows message m (found p) f rs o = let z : ◌≡◌ {A = ℕ} 0 1 = cc in absurd (omega arith)
  scan_rows message m nowhere f rs o = outcome_rows message m f (parse (schema_of table) open_limit (tokens_of (cut message).lexemes)) refl rs o

  -- rows come only from a lawful reading within the limits
  pub rows_lawful : (message : List ℕ) (rs : List Row) → room_free table message ≡ rows rs → ReadingRows table message rs
  unfolding room_free
  rows_lawful message rs e = go (leb (length message) message_limit) refl e
    where
      go : (b : Bool) → leb (length message) message_limit ≡ b → elim b [ true ↦ after_scan (schema_of table) message (cut message).lexemes (scan_fault (cut message)) | false ↦ fault 21 message_limit ] ≡ rows rs → ReadingRows table message rs
      go true a o = scan_rows message (leb-true (length message) message_limit a) (scan_fault (cut message)) refl rs o
      go false a o = let z : ◌≡◌ {A = ℕ} 0 1 = cc in absurd (omega arith)

  short_scans : (message : List ℕ) → length message ≤ message_limit → room_free table message ≡ after_scan (schema_of table) message (cut message).lexemes (scan_fault (cut message))
  unfolding room_free
  short_scans message m = rw (le-leb (length message) message_limit m, room_free)

  flat_scans : (ls : List Lexeme) → shallow open_limit 0 (tokens_of ls) ≡ true → scan_fault (record { lexemes = ls; bad = nowhere }) ≡ nowhere
  unfolding scan_fault either
  flat_scans ls f = rw (flat_lexemes 0 ls f)

  -- tokens that keep the limits leave the scan no fault
  pub spelled_clean : (message : List ℕ) (ls : List Lexeme) → Spelled 0 message ls → Within message ls → scan_fault (cut message) ≡ nowhere
  spelled_clean message ls h w = ap scan_fault (spelled_is message ls h) ∙ flat_scans ls w.flat

  scanned_parses : (message : List ℕ) (ls : List Lexeme) (t : Tree body) (r : List Token) → parse (schema_of table) open_limit (tokens_of ls) ≡ got t r → after_scan (schema_of table) message ls nowhere ≡ rows (message_rows message ls t)
  unfolding after_scan outcome
  scanned_parses message ls t r e = ap (outcome message ls) e

  -- every lawful reading within the limits gives its rows
  pub lawful_rows : (message : List ℕ) (ls : List Lexeme) (t : Tree body) → LawfulReading table message ls t → Within message ls → room_free table message ≡ rows (message_rows message ls t)
  lawful_rows message ls t l w =
      let W = well_formed table R in
      let d = tree_shallow (schema_of table) W open_limit 0 (0, (schema_of table).untagged 0) t [] l.lawful (rw l.all w.flat) in
      let p = parse_complete (schema_of table) W open_limit t l.lawful (omega (arith, d.0)) in
      short_scans message w.short
      ∙ (ap (λ c. after_scan (schema_of table) message c.lexemes (scan_fault c)) (spelled_is message ls l.spelled)
      ∙ (ap (after_scan (schema_of table) message ls) (flat_scans ls w.flat)
      ∙ scanned_parses message ls t [] (ap (parse (schema_of table) open_limit) (sym l.all) ∙ p)))

  -- a fault: no lawful reading of the message keeps the limits
  pub fault_unlawful : (message : List ℕ) (n place : ℕ) → room_free table message ≡ fault n place → (ls : List Lexeme) (t : Tree body) → LawfulReading table message ls t → Within message ls → ⊥
  fault_unlawful message n place e ls t l w =
      let p = lawful_rows message ls t l w in
      let z : ◌≡◌ {A = ℕ} 0 1 = cc in
      omega arith

  -- and its number is one of 21 to 30 but 29
  pub fault_number : (message : List ℕ) (n place : ℕ) → room_free table message ≡ fault n place → (21 ≤ n) × (n ≤ 30) × (n ≡ 29 → ⊥)
  unfolding room_free after_scan scan_fault outcome
  fault_number message n place e = go (leb (length message) message_limit) e
    where
      parsed : too_deep 0 (cut message).lexemes ≡ nowhere → (p : Result (Tree body)) → parse (schema_of table) open_limit (tokens_of (cut message).lexemes) ≡ p → outcome message (cut message).lexemes p ≡ fault n place → (21 ≤ n) × (n ≤ 30) × (n ≡ 29 → ⊥)
      parsed s (refused k r) a o =
          let f = fine_number (schema_of table) (body_fine (schema_of table) (well_formed table R) open_limit (suc open_limit) 0 false 0 (tokens_of (cut message).lexemes) (omega arith) (omega arith) (flat_tokens 0 (cut message).lexemes s)) k r a in
          let g = unlawful_number k f in
          let q : k ≡ n = cc in
          (omega arith, omega arith, λ z. g.2 (q ∙ z))
      parsed s (got t r) a o = let z : ◌≡◌ {A = ℕ} 0 1 = cc in absurd (omega arith)

      scanned : (f : Found) → scan_fault (cut message) ≡ f → after_scan (schema_of table) message (cut message).lexemes f ≡ fault n place → (21 ≤ n) × (n ≤ 30) × (n ≡ 29 → ⊥)
      scanned (found p) f o = let q : 22 ≡ n = cc in (omega arith, omega arith, λ z. omega arith)
      scanned nowhere f o = parsed (either_none (too_deep 0 (cut message).lexemes) (cut message).bad f).0 (parse (schema_of table) open_limit (tokens_of (cut message).lexemes)) refl o

      go : (b : Bool) → elim b [ true ↦ after_scan (schema_of table) message (cut message).lexemes (scan_fault (cut message)) | false ↦ fault 21 message_limit ] ≡ fault n place → (21 ≤ n) × (n ≤ 30) × (n ≡ 29 → ⊥)
      go true o = scanned (scan_fault (cut message)) refl o
      go false o = let q : 21 ≡ n = cc in (omega arith, omega arith, λ z. omega arith)

  -- T12. A lawful reading within the limits whose rows fit is accepted, with its row count
  pub lawful_accepted_lem : (message : List ℕ) (ls : List Lexeme) (t : Tree body) → LawfulReading table message ls t → Within message ls → (room : ℕ) → row_width * length (message_rows message ls t) ≤ room → read_with table message room ≡ accepted (length (message_rows message ls t))
  unfolding read_with
  lawful_accepted_lem message ls t l w room m = ap (with_room room) (lawful_rows message ls t l w) ∙ room_fits room (message_rows message ls t) m

  -- T14, one way. A lawful reading within the limits whose rows don't fit is 29 at their count
  pub lawful_29 : (message : List ℕ) (ls : List Lexeme) (t : Tree body) → LawfulReading table message ls t → Within message ls → (room : ℕ) → room < row_width * length (message_rows message ls t) → read_with table message room ≡ refusal 29 (length (message_rows message ls t))
  unfolding read_with
  lawful_29 message ls t l w room m = ap (with_room room) (lawful_rows message ls t l w) ∙ room_lacks room (message_rows message ls t) m

  -- T11. Accepted: there is a lawful reading within the limits, its rows are counted, and they fit
  pub accepted_lawful : (message : List ℕ) (room k : ℕ) → read_with table message room ≡ accepted k → (ls : List Lexeme) × (t : Tree body) × LawfulReading table message ls t × Within message ls × (k ≡ length (message_rows message ls t)) × (row_width * k ≤ room)
  unfolding read_with
  accepted_lawful message room k e = room_accepts room k (room_free table message) e (λ rs f q m.
      let g = rows_lawful message rs f in
      let n : k ≡ length (message_rows message g.0 g.1) = sym q ∙ ap length g.4 in
      (g.0, g.1, g.2, g.3, n, omega arith))

  -- T14, the other way. 29 at k: there is a lawful reading within the limits with k rows, and they don't fit
  pub refused_29 : (message : List ℕ) (room k : ℕ) → read_with table message room ≡ refusal 29 k → (ls : List Lexeme) × (t : Tree body) × LawfulReading table message ls t × Within message ls × (k ≡ length (message_rows message ls t)) × (room < row_width * k)
  unfolding read_with
  refused_29 message room k e = room_refuses room 29 k (room_free table message) e
      (λ f. absurd ((fault_number message 29 k f).2 refl))
      (λ rs f q c m.
      let g = rows_lawful message rs f in
      let n : k ≡ length (message_rows message g.0 g.1) = sym q ∙ ap length g.4 in
      (g.0, g.1, g.2, g.3, n, omega arith))

  -- any other refusal: no lawful reading of the message keeps the limits, whatever the room
  pub refused_unlawful : (message : List ℕ) (room n place : ℕ) → read_with table message room ≡ refusal n place → (n ≡ 29 → ⊥) → (ls : List Lexeme) (t : Tree body) → LawfulReading table message ls t → Within message ls → ⊥
  unfolding read_with
  refused_unlawful message room n place e m ls t l w = room_refuses room n place (room_free table message) e
      (λ f. fault_unlawful message n place f ls t l w)
      (λ rs f q c k. m c)

  -- T16. A refusal's number is one of 21 to 30
  pub refusal_number : (message : List ℕ) (room n place : ℕ) → read_with table message room ≡ refusal n place → (21 ≤ n) × (n ≤ 30)
  unfolding read_with
  refusal_number message room n place e = room_refuses room n place (room_free table message) e
      (λ f. let g = fault_number message n place f in (omega arith, omega arith))
      (λ rs f q c k. (omega arith, omega arith))

  -- 21 exactly when the message is over 16,384 bytes
  pub long_21 : (message : List ℕ) (room : ℕ) → message_limit < length message → read_with table message room ≡ refusal 21 message_limit
  unfolding read_with
  long_21 message room m = ap (with_room room) (long_fault message m) ∙ fault_shown room 21 message_limit

  -- 22 exactly where the scan of a message of lawful length finds a fault
  pub fault_22 : (message : List ℕ) (room place : ℕ) → length message ≤ message_limit → scan_fault (cut message) ≡ found place → read_with table message room ≡ refusal 22 place
  unfolding read_with
  fault_22 message room place m f = ap (with_room room) (short_scans message m ∙ (ap (after_scan (schema_of table) message (cut message).lexemes) f ∙ scan_shown message place)) ∙ fault_shown room 22 place

  -- T17. Accepted: the rows' numbers, then what lay beyond them; refused: what was lent
  pub accepted_written : (message : List ℕ) (ls : List Lexeme) (t : Tree body) → LawfulReading table message ls t → Within message ls → (lent : List ℕ) → row_width * length (message_rows message ls t) ≤ length lent → rows_with table message lent ≡ cells (message_rows message ls t) ++ drop (row_width * length (message_rows message ls t)) lent
  unfolding rows_with
  accepted_written message ls t l w lent m = ap (written lent) (lawful_rows message ls t l w) ∙ room_written lent (message_rows message ls t) m

  pub refused_unchanged : (message lent : List ℕ) (n place : ℕ) → read_with table message (length lent) ≡ refusal n place → rows_with table message lent ≡ lent
  unfolding read_with rows_with
  refused_unchanged message lent n place e = room_refuses (length lent) n place (room_free table message) e
      (λ f. ap (written lent) f ∙ fault_stays lent n place)
      (λ rs f q c k. ap (written lent) f ∙ room_stays lent rs k)

  -- a fault comes from exactly one of: the length, the scan, the parser
  fault_cases : {X : Type 0} (message : List ℕ) (n place : ℕ) → room_free table message ≡ fault n place
      → (message_limit < length message → n ≡ 21 → place ≡ message_limit → X)
      → (length message ≤ message_limit → scan_fault (cut message) ≡ found place → n ≡ 22 → X)
      → (length message ≤ message_limit → scan_fault (cut message) ≡ nowhere → (left : List Token) → parse (schema_of table) open_limit (tokens_of (cut message).lexemes) ≡ refused n left → place ≡ place_of_left message (cut message).lexemes left → X)
      → X
  unfolding room_free after_scan outcome
  fault_cases {X} message n place e long scan parser = go (leb (length message) message_limit) refl e
    where
      parsed : length message ≤ message_limit → scan_fault (cut message) ≡ nowhere → (r : Result (Tree body)) → parse (schema_of table) open_limit (tokens_of (cut message).lexemes) ≡ r → outcome message (cut message).lexemes r ≡ fault n place → X
      parsed m f (refused k left) a o =
          let q : k ≡ n = cc in
          let w : place_of_left message (cut message).lexemes left ≡ place = cc in
          parser m f left (a ∙ ap (λ j. refused j left) q) (sym w)
      parsed m f (got t left) a o = let z : ◌≡◌ {A = ℕ} 0 1 = cc in absurd (omega arith)

      scanned : length message ≤ message_limit → (f : Found) → scan_fault (cut message) ≡ f → after_scan (schema_of table) message (cut message).lexemes f ≡ fault n place → X
      scanned m (found k) f o =
          let q : 22 ≡ n = cc in
          let w : k ≡ place = cc in
          scan m (f ∙ ap found w) (sym q)
      scanned m nowhere f o = parsed m f (parse (schema_of table) open_limit (tokens_of (cut message).lexemes)) refl o

      go : (b : Bool) → leb (length message) message_limit ≡ b → elim b [ true ↦ after_scan (schema_of table) message (cut message).lexemes (scan_fault (cut message)) | false ↦ fault 21 message_limit ] ≡ fault n place → X
      go true a o = scanned (leb-true (length message) message_limit a) (scan_fault (cut message)) refl o
      go false a o =
          let q : 21 ≡ n = cc in
          let w : message_limit ≡ place = cc in
          long (leb-false (length message) message_limit a) (sym q) (sym w)

  parsed_number : (message : List ℕ) (n : ℕ) (left : List Token) → scan_fault (cut message) ≡ nowhere → parse (schema_of table) open_limit (tokens_of (cut message).lexemes) ≡ refused n left → is_unlawful n ≡ true
  unfolding scan_fault
  parsed_number message n left f e =
      let s = either_none (too_deep 0 (cut message).lexemes) (cut message).bad f in
      fine_number (schema_of table) (body_fine (schema_of table) (well_formed table R) open_limit (suc open_limit) 0 false 0 (tokens_of (cut message).lexemes) (omega arith) (omega arith) (flat_tokens 0 (cut message).lexemes s.0)) n left e

  pub refused_21 : (message : List ℕ) (room place : ℕ) → read_with table message room ≡ refusal 21 place → (message_limit < length message) × (place ≡ message_limit)
  unfolding read_with
  refused_21 message room place e = room_refuses room 21 place (room_free table message) e
      (λ f. fault_cases message 21 place f
      (λ m a b. (m, b))
      (λ m a b. absurd (omega arith))
      (λ m a left b c. clash_bool (parsed_number message 21 left a b)))
      (λ rs f q c k. absurd (omega arith))

  pub refused_22 : (message : List ℕ) (room place : ℕ) → read_with table message room ≡ refusal 22 place → (length message ≤ message_limit) × (scan_fault (cut message) ≡ found place)
  unfolding read_with
  refused_22 message room place e = room_refuses room 22 place (room_free table message) e
      (λ f. fault_cases message 22 place f
      (λ m a b. absurd (omega arith))
      (λ m a b. (m, a))
      (λ m a left b c. clash_bool (parsed_number message 22 left a b)))
      (λ rs f q c k. absurd (omega arith))

  -- 23 to 28 and 30 exactly where the parser refuses, at the first token that it leaves
  pub refused_parse : (message : List ℕ) (room n place : ℕ) → is_unlawful n ≡ true → read_with table message room ≡ refusal n place → (length message ≤ message_limit) × (scan_fault (cut message) ≡ nowhere) × ((left : List Token) × (parse (schema_of table) open_limit (tokens_of (cut message).lexemes) ≡ refused n left) × (place ≡ place_of_left message (cut message).lexemes left))
  unfolding read_with
  refused_parse message room n place u e = room_refuses room n place (room_free table message) e
      (λ f. fault_cases message n place f
      (λ m a b. clash_bool (rw a at u))
      (λ m a b. clash_bool (rw b at u))
      (λ m a left b c. (m, a, (left, b, c))))
      (λ rs f q c k. clash_bool (rw c at u))

  -- 30 stands at a token of the message that is judged so for some parameter
  pub refused_30 : (message : List ℕ) (room place : ℕ) → read_with table message room ≡ refusal 30 place → (before : List Lexeme) × (it : Lexeme) × (after : List Lexeme) × Spelled 0 message (before ++ it ∷ after) × (it.start ≡ place) × ((q : ℕ) × ((schema_of table).judge q it.token ≡ 30))
  unfolding scan_fault place_of_left
  refused_30 message room place e =
      let W = well_formed table R in
      let p = refused_parse message room 30 place refl e in
      let ls = (cut message).lexemes in
      let s = either_none (too_deep 0 ls) (cut message).bad p.1 in
      let left = p.2.0 in
      let o = fine_outside (schema_of table) (body_fine (schema_of table) W open_limit (suc open_limit) 0 false 0 (tokens_of ls) (omega arith) (omega arith) (flat_tokens 0 ls s.0)) left p.2.1 in
      let g = left_first (length message) (length ls - length left) ls o.1 o.2 (parse_left (schema_of table) W open_limit ls 30 left p.2.1 ∙ o.3) in
      let spelled : Spelled 0 message (g.0 ++ g.1 ∷ g.2) = rw g.3 at (message_spelled message s.1) in
      (g.0, g.1, g.2, spelled, sym (p.2.2 ∙ g.5), (o.0, ap ((schema_of table).judge o.0) g.4 ∙ o.4))

  pub parse_refused : (message : List ℕ) (room n place : ℕ) → length message ≤ message_limit → scan_fault (cut message) ≡ nowhere → (left : List Token) → parse (schema_of table) open_limit (tokens_of (cut message).lexemes) ≡ refused n left → place ≡ place_of_left message (cut message).lexemes left → read_with table message room ≡ refusal n place
  unfolding read_with
  parse_refused message room n place m f left e p =
      ap (with_room room) (short_scans message m ∙ (ap (after_scan (schema_of table) message (cut message).lexemes) f ∙ parse_fault message n left e)) ∙ (fault_shown room n (place_of_left message (cut message).lexemes left) ∙ ap (refusal n) (sym p))
    where
      parse_fault : (message : List ℕ) (n : ℕ) (left : List Token) → parse (schema_of table) open_limit (tokens_of (cut message).lexemes) ≡ refused n left → after_scan (schema_of table) message (cut message).lexemes nowhere ≡ fault n (place_of_left message (cut message).lexemes left)
      parse_fault message n left e = unfold after_scan outcome in (ap (outcome message (cut message).lexemes) e)
