-- The theorems on messages, by the sentence that each renders. T9, T11 to T14 and T17 are `read_promise` (Compiled), T18 of a row's fifth number is `indices_stand` (Indices).
use mathlib.Core.Path.{◌≡◌, refl, ap, sym, ◌∙◌}
use mathlib.Core.Bool.{true}
use mathlib.Core.List.{List, []}
use mathlib.Core.Logic.{◌↔◌}
use Prim.Native.Nat.{ℕ, ◌+◌, ◌-◌, ◌*◌, ◌≤◌, ◌<◌}
use native.Mathlib.Omega.{arith}
use lib.ListN.{length, take, drop, get_or}
use borrow.Author.Tests.{le-leb, lt-leb}
use Rattle.classes.specs.Bytes.{IsBytes}
use Rattle.numbers.specs.Limits.{message_limit, open_limit, row_width}
use Rattle.reading_rules.specs.Schema.{Found, nowhere, found, schema_of}
use Rattle.reading_rules.specs.Token.{Token}
use Rattle.reading_rules.specs.Reading.{Tree, body, leaves}
use Rattle.table_rules.specs.Compilable.{Compilable}
use Rattle.table_rules.proofs.Theorems.{rules_iff}
use Rattle.message_rules.specs.Scan.{Lexeme, Spelled, Cutting, whole, broken, CutResult, cut, tokens_of, scan_fault, TokenFault}
use Rattle.message_rules.specs.Rows.{message_rows, rows_of, RowsStand}
use Rattle.message_rules.specs.RowBytes.{row_bytes}
use Rattle.reading_rules.specs.Parse.{refused, parse}
use Rattle.message_rules.specs.Verdict.{place_of_left, is_unlawful, refusal, records_in, read_with, read_answer}
use Rattle.message_rules.proofs.Spelling.{message_spelled, spelled_once, message_bad, message_faulty, bad_unspelled}
use Rattle.message_rules.proofs.RowLaws.{parents_first}
use Rattle.message_rules.proofs.Spans.{message_inside}
use Rattle.message_rules.proofs.Rising.{message_rises}
use Rattle.message_rules.proofs.Nest.{message_nested}
use Rattle.message_rules.proofs.TokenFaults.{token_fault_iff}
use Rattle.message_rules.proofs.Promises.{long_21, fault_22, refused_21, refused_22, refused_parse, parse_refused}
use Rattle.message_rules.proofs.Compiled.{table_reading, good_answer}

-- ---- T10. "Tokens: a word .., a string .., and `= , { }`": a message is its tokens in one way, or has a first bad byte

pub cutting : (message : List ℕ) → Cutting message
cutting message = by (cut message).bad refl
  where
    same : (ls ms : List Lexeme) (a b : ℕ) → ◌≡◌ {A = CutResult} (record { lexemes = ls; bad = found a }) (record { lexemes = ms; bad = found b }) → (ls ≡ ms) × (a ≡ b)
    same ls ms a b e =
        let x : ls ≡ ms = ap (λ c. c.lexemes) e in
        let y : found a ≡ found b = ap (λ c. c.bad) e in
        let z : a ≡ b = cc in
        (x, z)

    by : (f : Found) → (cut message).bad ≡ f → Cutting message
    by nowhere e = whole (cut message).lexemes (message_spelled message e) (λ ms h. spelled_once message (cut message).lexemes ms (message_spelled message e) h)
    by (found bad) e =
        broken (cut message).lexemes bad (message_bad message bad e) (λ ms h. bad_unspelled message bad e ms h)
        (λ ms place h. same (cut message).lexemes ms bad place (sym (message_faulty message (cut message).lexemes bad (message_bad message bad e)) ∙ message_faulty message ms place h))

-- ---- T16. "First 20, 21, 22 in that order, 22 at its smallest place, then the leftmost of 23 to 28", and of 30 (02, request 4): each exactly when

module _ (table message : List ℕ) (room : ℕ) (bytes : IsBytes table) (some : Compilable table) where
  ok_answer : read_answer table message room ≡ read_with (records_in table) message room
  ok_answer = good_answer table message room ((rules_iff table bytes).1 some)

  pub is_21 : (place : ℕ) → (read_answer table message room ≡ refusal 21 place) ↔ ((message_limit < length message) × (place ≡ message_limit))
  is_21 place =
      let R = table_reading table ((rules_iff table bytes).1 some) in (
        (λ e. refused_21 (records_in table) R message room place (sym ok_answer ∙ e)),
        λ x. ok_answer ∙ (long_21 (records_in table) R message room x.0 ∙ ap (refusal 21) (sym x.1)),
      )

  pub is_22 : (place : ℕ) → (read_answer table message room ≡ refusal 22 place) ↔ ((length message ≤ message_limit) × TokenFault message place)
  is_22 place =
      let R = table_reading table ((rules_iff table bytes).1 some) in (
        (λ e. let x = refused_22 (records_in table) R message room place (sym ok_answer ∙ e) in (x.0, (token_fault_iff message place).0 x.1)),
        λ x. ok_answer ∙ fault_22 (records_in table) R message room place x.0 ((token_fault_iff message place).1 x.1),
      )

  -- 23 to 28 and 30: the one that the rows of the decision table give, at the first token that is left, or the length
  pub is_leftmost : (n place : ℕ) → is_unlawful n ≡ true → (read_answer table message room ≡ refusal n place) ↔ ((length message ≤ message_limit) × (scan_fault (cut message) ≡ nowhere) × ((left : List Token) × (parse (schema_of (records_in table)) open_limit (tokens_of (cut message).lexemes) ≡ refused n left) × (place ≡ place_of_left message (cut message).lexemes left)))
  is_leftmost n place u =
      let R = table_reading table ((rules_iff table bytes).1 some) in (
        (λ e. refused_parse (records_in table) R message room n place u (sym ok_answer ∙ e)),
        λ x. ok_answer ∙ parse_refused (records_in table) R message room n place x.0 x.1 x.2.0 x.2.1 x.2.2,
      )

-- ---- T18. Row 0 is the root's; parents come first; a row lies in its parent's span, all in the message; starts never fall

pub rows_stand : (message : List ℕ) (ls : List Lexeme) (t : Tree body) → Spelled 0 message ls → leaves t ≡ tokens_of ls → RowsStand message ls t
rows_stand message ls t h all =
    record {
      root = (rows_of ls t 0 1 0 0 0, (unfold message_rows in refl), parents_first ls t 0 1 0 0 0 (omega arith), message_nested message ls t h all);
      inside = message_inside message ls t h all;
      in_order = message_rises message ls t h all;
    }

-- ---- T19. "that part of the message itself", or the empty part

module _ (message lent : List ℕ) (row : ℕ) where
  abbrev from : ℕ
  from = get_or lent (row_width * row + 2) 0

  abbrev to : ℕ
  to = get_or lent (row_width * row + 3) 0

  pub row_there : row_width * row + row_width ≤ length lent → from ≤ to → to ≤ length message → row_bytes message lent row ≡ take (to - from) (drop from message)
  unfolding row_bytes
  row_there a b c = rw (le-leb (row_width * row + row_width) (length lent) a, le-leb from to b, le-leb to (length message) c, row_bytes)

  pub row_missing : length lent < row_width * row + row_width → row_bytes message lent row ≡ []
  unfolding row_bytes
  row_missing a = rw (lt-leb (row_width * row + row_width) (length lent) a, row_bytes)
