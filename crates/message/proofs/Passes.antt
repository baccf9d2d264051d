-- The two passes, the room, and a row's bytes, said of plain lists.
use mathlib.Core.Path.{◌≡◌, refl, sym, ap, ◌∙◌}
use mathlib.Core.Bool.{true, false}
use mathlib.Core.List.{List, [], ◌∷◌, ◌++◌}
use Prim.Native.Nat.{ℕ, ◌+◌, ◌-◌, ◌*◌, ◌/◌, ◌%◌, ◌≤◌, ◌<◌}
use native.Mathlib.Nat.{zero-add, div-add-mod', mod-lt}
use native.Mathlib.Omega.{arith}
use lib.ListN.{length, take, drop}
use lib.Seq.{sets, sets-eq}
use borrow.Author.Tests.{le-leb, lt-leb}
use Rattle.numbers.specs.Limits.{message_limit, row_width, no_row}
use Rattle.reading_rules.specs.Schema.{schema_of}
use Rattle.table_records.specs.Stored.{records_at}
use Rattle.message_rules.specs.RowBytes.{row_from, row_to, row_lies, row_bytes, row_start}
use Rattle.message_rules.specs.Scan.{cut, scan_fault, tokens_of}
use Rattle.reading_rules.specs.Parse.{body_at}
use Rattle.message_rules.specs.Rows.{Row, rows_of, message_rows, cells}
use Rattle.message_rules.specs.Verdict.{RoomFree, fault, rows, outcome, place_of_left, after_scan, room_free, accepted, refusal, with_room, written}
use Rattle.message_rules.proofs.RowLaws.{message_counted, cells_counted}
use Rattle.message_tokens.specs.Cursor.{lexemes_at}
use Rattle.message_tokens.specs.Scanned.{fault_of}
use Rattle.message_tokens.proofs.CutAt.{cut_start}
use Rattle.message_unknown.proofs.AlongLaws.{place_left}
use Rattle.message_rows.proofs.Stores.{rows_append}
use Rattle.message_lookup.specs.Questions.{schema_at}
use Rattle.std.specs.Prelude.{Result as Answer, Ok, Err, Option, Some, None}
use Rattle.numbers.specs.Rules.{rule_number}
use Rattle.numbers.specs.declared.Refusal.{Refusal}
use Rattle.message_unknown.specs.Along.{Stopped}
use Rattle.message_frame.specs.declared.Done.{Done}
use Rattle.message_frame.specs.Ends.{Ended, Ends}
use Rattle.message.specs.Reads.{root_frame, reading, Rows, Fills}

-- ---- a row's bytes
row_there : (len row : ℕ) → row < len / row_width → row_width * row + row_width ≤ len
row_there len row h = omega (arith, div-add-mod' len row_width)

row_lost : (len row : ℕ) → len / row_width ≤ row → len < row_width * row + row_width
row_lost len row h = let z : len % row_width < row_width = mod-lt len (omega arith) in omega (arith, div-add-mod' len row_width, z)

module _ (m lent : List ℕ) (row : ℕ) where
  -- the empty part, at the message's start; or the row's part, at its own
  not_lying : row_lies m lent row ≡ false → ([] ≡ row_bytes m lent row) × (0 ≡ row_start m lent row)
  unfolding row_bytes row_start
  not_lying e = rw (e, row_bytes, row_start) (refl, refl)

  lying : row_lies m lent row ≡ true → (take (row_to lent row - row_from lent row) (drop (row_from lent row) m) ≡ row_bytes m lent row) × (row_from lent row ≡ row_start m lent row)
  unfolding row_bytes row_start
  lying e = rw (e, row_bytes, row_start) (refl, refl)

  pub bytes_lost : length lent / row_width ≤ row → ([] ≡ row_bytes m lent row) × (0 ≡ row_start m lent row)
  bytes_lost h = not_lying (rw (lt-leb (row_width * row + row_width) (length lent) (row_lost (length lent) row h)) refl)

  pub bytes_back : row < length lent / row_width → row_to lent row < row_from lent row → ([] ≡ row_bytes m lent row) × (0 ≡ row_start m lent row)
  bytes_back h e = not_lying (rw (le-leb (row_width * row + row_width) (length lent) (row_there (length lent) row h), lt-leb (row_from lent row) (row_to lent row) e) refl)

  pub bytes_over : row < length lent / row_width → row_from lent row ≤ row_to lent row → length m < row_to lent row → ([] ≡ row_bytes m lent row) × (0 ≡ row_start m lent row)
  bytes_over h e f = not_lying (rw (le-leb (row_width * row + row_width) (length lent) (row_there (length lent) row h), le-leb (row_from lent row) (row_to lent row) e, lt-leb (row_to lent row) (length m) f) refl)

  pub bytes_there : row < length lent / row_width → row_from lent row ≤ row_to lent row → row_to lent row ≤ length m → (take (row_to lent row - row_from lent row) (drop (row_from lent row) m) ≡ row_bytes m lent row) × (row_from lent row ≡ row_start m lent row)
  bytes_there h e f = lying (rw (le-leb (row_width * row + row_width) (length lent) (row_there (length lent) row h), le-leb (row_from lent row) (row_to lent row) e, le-leb (row_to lent row) (length m) f) refl)

-- ---- the passes
module _ (t o : List ℕ) (n : ℕ) (m : List ℕ) (before after : List ℕ) where
  start : (cut m).lexemes ≡ lexemes_at 0 m 0
  start = ap (λ c. c.lexemes) (cut_start m)

  reading_is : reading t o n m ≡ outcome m (lexemes_at 0 m 0) (body_at (schema_at t o n) 17 false 0 (tokens_of (lexemes_at 0 m 0)))
  reading_is = ap (λ x. outcome m x (body_at (schema_at t o n) 17 false 0 (tokens_of x))) start

  pub counted : (d : Done) → Ended (body_at (schema_at t o n) 17 false 0 (tokens_of (lexemes_at 0 m 0))) m root_frame before after 0 d.past.at d.row → Rows (reading t o n m) d.row
  unfolding outcome
  counted d h =
      let e : reading t o n m ≡ rows (message_rows m (lexemes_at 0 m 0) h.read.tree) = reading_is ∙ ap (outcome m (lexemes_at 0 m 0)) h.read.is in
      record { all = message_rows m (lexemes_at 0 m 0) h.read.tree; is = e; counted = omega (arith, h.read.sized, message_counted m (lexemes_at 0 m 0) h.read.tree) }

  pub refused_at : (k q : ℕ) → Stopped (body_at (schema_at t o n) 17 false 0 (tokens_of (lexemes_at 0 m 0))) (lexemes_at 0 m 0) (0 + length m) k q → reading t o n m ≡ fault k q
  unfolding outcome
  refused_at k q h =
      let p : place_of_left m (lexemes_at 0 m 0) (tokens_of h.rest) ≡ q = place_left m (lexemes_at 0 m 0) h.rest h.along ∙ sym (rw (zero-add (length m)) at h.place) in
      reading_is ∙ (ap (outcome m (lexemes_at 0 m 0)) h.is ∙ ap (fault k) p)

  pub filled : (lent : List ℕ) (r : Answer Done Refusal) → before ≡ sets lent (row_width * 0) (cells (record { parameter = 0; parent = no_row; start = 0; end = length m; index = 0 } ∷ [])) → Ends (body_at (schema_at t o n) 17 false 0 (tokens_of (lexemes_at 0 m 0))) m root_frame before after 0 r → Fills (reading t o n m) lent after
  unfolding outcome message_rows
  filled lent (Ok d) b h rs e =
      let z : rows rs ≡ rows (message_rows m (lexemes_at 0 m 0) h.read.tree) = sym e ∙ (reading_is ∙ ap (outcome m (lexemes_at 0 m 0)) h.read.is) in
      let y : rs ≡ message_rows m (lexemes_at 0 m 0) h.read.tree = cc in
      rw y (h.read.written ∙ rw b (rows_append lent 0 1 (record { parameter = 0; parent = no_row; start = 0; end = length m; index = 0 } ∷ []) (rows_of (lexemes_at 0 m 0) h.read.tree 0 1 0 0 0) refl))
  filled lent (Err x) b h rs e =
      let z : rows rs ≡ fault (rule_number x.rule) (place_of_left m (lexemes_at 0 m 0) (tokens_of h.rest)) = sym e ∙ (reading_is ∙ ap (outcome m (lexemes_at 0 m 0)) h.is) in
      let y : ◌≡◌ {A = ℕ} 0 1 = cc in absurd (omega arith)

-- ---- the room
room_fits : (rs : List Row) (room m : ℕ) → m ≡ length rs → row_width * length rs ≤ room → accepted m ≡ with_room room (rows rs)
unfolding with_room
room_fits rs room m e h = rw (e, le-leb (row_width * length rs) room h, with_room) refl

room_lacks : (rs : List Row) (room m : ℕ) → m ≡ length rs → room < row_width * length rs → refusal 29 m ≡ with_room room (rows rs)
unfolding with_room
room_lacks rs room m e h = rw (e, lt-leb (row_width * length rs) room h, with_room) refl

rows_kept : (rs : List Row) (lent : List ℕ) → length lent < row_width * length rs → lent ≡ written lent (rows rs)
unfolding written
rows_kept rs lent h = rw (lt-leb (row_width * length rs) (length lent) h, written) refl

rows_filled : (rs : List Row) (lent : List ℕ) → row_width * length rs ≤ length lent → sets lent 0 (cells rs) ≡ written lent (rows rs)
unfolding written
rows_filled rs lent h =
    let c : length (cells rs) ≡ row_width * length rs = cells_counted rs in
    let d : 0 + length (cells rs) ≡ row_width * length rs = omega (arith, c) in
    sets-eq (cells rs) lent 0 (omega (arith, c, h)) ∙ rw (d, le-leb (row_width * length rs) (length lent) h, written) refl

module _ (o : RoomFree) (lent : List ℕ) where
  pub with_fault : (n place : ℕ) → o ≡ fault n place → (refusal n place ≡ with_room (length lent) o) × (lent ≡ written lent o)
  unfolding with_room written
  with_fault n place e = (rw e refl, rw e refl)

  module _ (m : ℕ) (h : Rows o m) where
    pub with_little : length lent / row_width < m → (refusal 29 m ≡ with_room (length lent) o) × (lent ≡ written lent o)
    with_little l =
        let z : length lent % row_width < row_width = mod-lt (length lent) (omega arith) in
        let r : length lent < row_width * length h.all = omega (arith, div-add-mod' (length lent) row_width, z, h.counted, l) in
        (room_lacks h.all (length lent) m h.counted r ∙ ap (with_room (length lent)) (sym h.is), rows_kept h.all lent r ∙ ap (written lent) (sym h.is))

    pub with_room_lem : (after : List ℕ) → m ≤ length lent / row_width → Fills o lent after → (accepted m ≡ with_room (length lent) o) × (after ≡ written lent o)
    with_room_lem after l f =
        let r : row_width * length h.all ≤ length lent = omega (arith, div-add-mod' (length lent) row_width, h.counted, l) in
        (room_fits h.all (length lent) m h.counted r ∙ ap (with_room (length lent)) (sym h.is), f h.all h.is ∙ (rows_filled h.all lent r ∙ ap (written lent) (sym h.is)))

-- ---- the order of refusals
module _ (table : List ℕ) (o : List ℕ) (n : ℕ) (m : List ℕ) where
  pub too_long : message_limit < length m → room_free (records_at table o n) m ≡ fault 21 message_limit
  unfolding room_free
  too_long h = rw (lt-leb (length m) message_limit h, room_free) refl

  scanned : length m ≤ message_limit → room_free (records_at table o n) m ≡ after_scan (schema_of (records_at table o n)) m (cut m).lexemes (scan_fault (cut m))
  unfolding room_free
  scanned h = rw (le-leb (length m) message_limit h, room_free) refl

  pub bad_byte_lem : (r : Option ℕ) (at : ℕ) → length m ≤ message_limit → fault_of r ≡ scan_fault (cut m) → r ≡ Some at → room_free (records_at table o n) m ≡ fault 22 at
  unfolding after_scan
  bad_byte_lem r at h e q = scanned h ∙ ap (after_scan (schema_of (records_at table o n)) m (cut m).lexemes) (sym e ∙ ap fault_of q)

  pub no_bad : (r : Option ℕ) → length m ≤ message_limit → fault_of r ≡ scan_fault (cut m) → r ≡ None → room_free (records_at table o n) m ≡ reading table o n m
  unfolding after_scan
  no_bad r h e q = scanned h ∙ ap (after_scan (schema_of (records_at table o n)) m (cut m).lexemes) (sym e ∙ ap fault_of q)

-- nothing was lent
pub none_more : (ys e : List ℕ) → length ys ≡ 0 → ys ++ e ≡ e
none_more [] e h = refl
none_more (y ∷ ys) e h = absurd (omega arith)
