-- Each answer of the cursor, and each turn of the scan, said of plain lists.
use Rattle.std.proofs.Common.{◌≡◌, ℕ, suc, ◌+◌, ◌-◌, ◌<◌, ◌≤◌, true, false, List, length, Result, Ok, Err, get_or, sym, refl, ap, ◌∙◌, subst, zero-add, arith, le-leb}
use borrow.Author.Tests.{lt-leb}
use Rattle.numbers.specs.Limits.{open_limit}
use Rattle.classes.specs.Bytes.{is_blank, is_word_byte, is_string_byte}
use Rattle.reading_rules.specs.Token.{Token, word, string, equals, comma, opening, closing}
use Rattle.reading_rules.specs.Schema.{nowhere, found}
use Rattle.message_rules.specs.Scan.{lexeme, CutResult, bad_at, put_first, begins_of, mark, either, too_deep, is_opening, open_after, scan_fault, cut}
use Rattle.message_tokens.specs.Cursor.{part, cut_at, rest_at, row_end, Step, Stands, Reads}
use Rattle.message_tokens.specs.Scanned.{fault_from}
use Rattle.message_tokens.specs.Turn.{ScanOn}
use Rattle.message_tokens.specs.declared.Head.{Head}
use Rattle.message_tokens.specs.declared.TokenKind.{TokenKind}
use Rattle.message_tokens.specs.declared.TokenKind.TheVariants.{Nothing, Word, String, Equals, Comma, Opening, Closing}
use Rattle.message_tokens.proofs.CutAt.{rest_mark, rest_word, rest_string, row_past, row_in, row_least, cut_rest_lem, cut_start, byte_in}

mark_step : (base : ℕ) (s : List ℕ) (p b : ℕ) (t : Token) → p < length s → get_or s p 0 ≡ b → begins_of b ≡ mark t → Step (rest_at base s p) base s p t p (p + 1)
mark_step base s p b t h e m = record { is = rest_mark base s p b t h e m; least = omega arith; less = omega arith; within = omega (arith, h) }

module _ (base : ℕ) (s : List ℕ) (p : ℕ) (h : p < length s) where
  pub step_equals : get_or s p 0 ≡ 61 → Step (rest_at base s p) base s p equals p (p + 1)
  unfolding begins_of is_word_byte
  step_equals e = mark_step base s p 61 equals h e refl

  pub step_comma : get_or s p 0 ≡ 44 → Step (rest_at base s p) base s p comma p (p + 1)
  unfolding begins_of is_word_byte
  step_comma e = mark_step base s p 44 comma h e refl

  pub step_opening : get_or s p 0 ≡ 123 → Step (rest_at base s p) base s p opening p (p + 1)
  unfolding begins_of is_word_byte
  step_opening e = mark_step base s p 123 opening h e refl

  pub step_closing : get_or s p 0 ≡ 125 → Step (rest_at base s p) base s p closing p (p + 1)
  unfolding begins_of is_word_byte
  step_closing e = mark_step base s p 125 closing h e refl

  pub step_word : (e : ℕ) → is_word_byte (get_or s p 0) ≡ true → e ≡ row_end is_word_byte s p → Step (rest_at base s p) base s p (word (part s p e)) p e
  step_word e t q =
      record { is = rest_word base s p e h t q; least = omega arith; less = row_past is_word_byte s p e q h t; within = (row_in is_word_byte s p e q (omega (arith, h))).1 }

  pub step_string : (to : ℕ) → get_or s p 0 ≡ 34 → to ≡ row_end is_string_byte s (p + 1) → get_or s to 0 ≡ 34 → Step (rest_at base s p) base s p (string (part s (p + 1) (to + 1 - 1))) p (to + 1)
  step_string to b q z =
      record { is = rest_string base s p to h b q z; least = omega arith; less = omega (arith, row_least is_string_byte s (p + 1) to q); within = omega (arith, byte_in s to 34 (omega arith) z) }

-- the same from before the blanks
pub reads_back : (base : ℕ) (s : List ℕ) (at p : ℕ) (r : Result Head ℕ) → p ≡ row_end is_blank s at → Reads (rest_at base s p) base s p r → Reads (cut_at base s at) base s at r
reads_back base s at p r q w = go r w
  where
    e : cut_at base s at ≡ rest_at base s p
    e = cut_rest_lem base s at ∙ ap (rest_at base s) (sym q)

    step : (t : Token) (a b : ℕ) → Step (rest_at base s p) base s p t a b → Step (cut_at base s at) base s at t a b
    step t a b r = record { is = e ∙ r.is; least = omega (arith, row_least is_blank s at p q, r.least); less = r.less; within = r.within }

    stands : (k : TokenKind) (a b : ℕ) → Stands (rest_at base s p) base s p k a b → Stands (cut_at base s at) base s at k a b
    stands Nothing a b r = (e ∙ r.0, r.1)
    stands Word a b r = step (word (part s a b)) a b r
    stands String a b r = step (string (part s (a + 1) (b - 1))) a b r
    stands Equals a b r = step equals a b r
    stands Comma a b r = step comma a b r
    stands Opening a b r = step opening a b r
    stands Closing a b r = step closing a b r

    go : (r : Result Head ℕ) → Reads (rest_at base s p) base s p r → Reads (cut_at base s at) base s at r
    go (Ok h) r = stands h.kind h.start h.past.at r
    go (Err a) r = e ∙ r

-- number 22
pub fault_word : (t : Token) (a e n : ℕ) (c : CutResult) → is_opening t ≡ false → fault_from n (put_first (lexeme t a e) c) ≡ fault_from (open_after n t) c
unfolding fault_from too_deep
fault_word t a e n c q = rw (q, too_deep) refl

fault_opening : (a e n : ℕ) (c : CutResult) → n < open_limit → fault_from n (put_first (lexeme opening a e) c) ≡ fault_from (suc n) c
unfolding fault_from too_deep is_opening open_after
fault_opening a e n c h = rw (lt-leb open_limit n h, too_deep) refl

fault_deep : (a e n : ℕ) (c : CutResult) → open_limit ≤ n → fault_from n (put_first (lexeme opening a e) c) ≡ found a
unfolding fault_from too_deep is_opening either
fault_deep a e n c h = rw (le-leb open_limit n h, too_deep) refl

module _ (s : List ℕ) (i n : ℕ) (h : n ≤ open_limit) where
  plain_step : (t : Token) (a e : ℕ) → Step (cut_at 0 s i) 0 s i t a e → cut_at 0 s i ≡ put_first (lexeme t a e) (cut_at 0 s e)
  plain_step t a e w = rw (zero-add a, zero-add e) at w.is

  scan_on : (t : Token) (a e m : ℕ) → Step (cut_at 0 s i) 0 s i t a e → m ≤ open_limit → fault_from n (put_first (lexeme t a e) (cut_at 0 s e)) ≡ fault_from m (cut_at 0 s e) → ScanOn s i n e m
  scan_on t a e m w b q = record { is = ap (fault_from n) (plain_step t a e w) ∙ q; less = omega (arith, w.least, w.less); within = w.within; few = b }

  -- a token that is no brace
  pub scan_plain : (k : TokenKind) (a e : ℕ) → (k ≡ Nothing → ⊥) → (k ≡ Opening → ⊥) → (k ≡ Closing → ⊥) → Stands (cut_at 0 s i) 0 s i k a e → ScanOn s i n e n
  unfolding is_opening open_after
  scan_plain Nothing a e x y z w = absurd (x refl)
  scan_plain Word a e x y z w = scan_on (word (part s a e)) a e n w h (fault_word (word (part s a e)) a e n (cut_at 0 s e) refl)
  scan_plain String a e x y z w = scan_on (string (part s (a + 1) (e - 1))) a e n w h (fault_word (string (part s (a + 1) (e - 1))) a e n (cut_at 0 s e) refl)
  scan_plain Equals a e x y z w = scan_on equals a e n w h (fault_word equals a e n (cut_at 0 s e) refl)
  scan_plain Comma a e x y z w = scan_on comma a e n w h (fault_word comma a e n (cut_at 0 s e) refl)
  scan_plain Opening a e x y z w = absurd (y refl)
  scan_plain Closing a e x y z w = absurd (z refl)

  module _ (k : TokenKind) (a e : ℕ) (w : Stands (cut_at 0 s i) 0 s i k a e) where
    as_kind : (j : TokenKind) → k ≡ j → Stands (cut_at 0 s i) 0 s i j a e
    as_kind j q = subst (λ j. Stands (cut_at 0 s i) 0 s i j a e) q w

    pub scan_opening : k ≡ Opening → n < open_limit → ScanOn s i n e (n + 1)
    scan_opening q z =
        scan_on opening a e (n + 1) (as_kind Opening q) (omega (arith, z))
        (fault_opening a e n (cut_at 0 s e) z ∙ ap (λ m. fault_from m (cut_at 0 s e)) (omega arith))

    pub scan_deep : k ≡ Opening → open_limit ≤ n → found a ≡ fault_from n (cut_at 0 s i)
    scan_deep q z = sym (ap (fault_from n) (plain_step opening a e (as_kind Opening q)) ∙ fault_deep a e n (cut_at 0 s e) z)

    pub scan_closing : (m : ℕ) → k ≡ Closing → m ≡ n - 1 → ScanOn s i n e m
    unfolding is_opening open_after
    scan_closing m q z = scan_on closing a e m (as_kind Closing q) (omega (arith, z, h)) (rw z (fault_word closing a e n (cut_at 0 s e) refl))

    pub scan_end : k ≡ Nothing → nowhere ≡ fault_from n (cut_at 0 s i)
    unfolding fault_from too_deep either
    scan_end q = let z = as_kind Nothing q in rw z.0 refl

  pub scan_bad : (a : ℕ) → cut_at 0 s i ≡ bad_at (0 + a) → found a ≡ fault_from n (cut_at 0 s i)
  unfolding fault_from too_deep either
  scan_bad a e = rw (e, zero-add a) refl

pub scan_start : (s : List ℕ) → scan_fault (cut s) ≡ fault_from 0 (cut_at 0 s 0)
unfolding scan_fault fault_from
scan_start s = ap scan_fault (cut_start s)
