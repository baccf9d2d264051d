-- Stores in a row, one record, all records. Assumes nothing.
use mathlib.Core.Path.{◌≡◌, refl, sym, ap, ◌∙◌}
use mathlib.Core.Bool.{Bool, true, false}
use mathlib.Core.List.{List, [], ◌∷◌, ◌++◌}
use Prim.Native.Nat.{ℕ, suc, ◌+◌, ◌-◌, ◌%◌, ◌<◌, ◌≤◌}
use native.Mathlib.Numerals.{add-one}
use native.Mathlib.Nat.{zero-add}
use native.Mathlib.Omega.{arith}
use lib.Dec.{eqb}
use lib.ListN.{length, take, drop, length-append, length-drop, length-take}
use lib.Seq.{sets, length-take-le, sets-eq}
use borrow.Author.Tests.{eqb-true}
use Rattle.classes.proofs.Stores.{sets_append}
use Rattle.classes.specs.Lists.{pick, part}
use Rattle.numbers.specs.LittleEndian.{put16, put32, signed, set16, set32}
use Rattle.numbers.specs.Range.{MaybeRange, low_of, high_of}
use Rattle.reading_rules.specs.Record.{Record}
use Rattle.definition_rules.specs.Forms.{own_name, tagless, explicit}
use Rattle.definition_rules.specs.Declarations.{Noted, noted, declarations_of}
use Rattle.definition_rules.specs.Records.{record_for, records_for, records_of, is_tagless, label_of}
use Rattle.definition_rules.specs.Table.{flags_number, encode_record, encode}
use Rattle.definition_cells.specs.Cells.{cell_at, run_at, tag_at, noted_at, noted_from}
use Rattle.definition_cells.proofs.CellLaws.{noted_more, noted_end, noted_all}
use Rattle.definition_headings.specs.Heads.{declared_kind, limits_at, counts_at, label_at, target_at, names_from}
use Rattle.definition_writer.specs.Written.{declaration_in, record_written, records_written, records_after, low16, cut_bytes, encode_cut}
use Rattle.definition_rules.proofs.TableLaws.{up_number_lem}

-- ---- stores in a row

-- a row that fits takes the place of what stood there
pub sets_front : (vs l : List ℕ) → length vs ≤ length l → sets l 0 vs ≡ vs ++ drop (length vs) l
sets_front vs l h = rw (zero-add (length vs)) at (sets-eq vs l 0 (omega arith))

pub set_two : (l : List ℕ) (at v : ℕ) → set16 l at v ≡ sets l at (put16 v [])
unfolding put16
set_two l at v = rw (add-one at)

pub set_four : (l : List ℕ) (at v : ℕ) → set32 l at v ≡ sets l at (put32 v [])
unfolding put16 put32
set_four l at v =
    let p : at + 2 ≡ suc (suc at) = omega arith in
    rw (p, add-one (suc (suc at)), add-one at)

-- where both are long enough
pub copied : (s d : List ℕ) (len : ℕ) → len ≤ length s → len ≤ length d → sets d 0 (take len s) ≡ take len s ++ drop len d
copied s d len h g = let q : length (take len s) ≡ len = length-take-le len s h in rw q at (sets_front (take len s) d (omega (arith, q)))

-- ---- one record

tagless_is : (t cs : List ℕ) (i : ℕ) → is_tagless (tag_at t cs i) ≡ eqb (cell_at cs i 12) 1
unfolding tag_at
tagless_is t cs i = by (eqb (cell_at cs i 12) 0) (eqb (cell_at cs i 12) 1) refl refl
  where
    by : (a b : Bool) → eqb (cell_at cs i 12) 0 ≡ a → eqb (cell_at cs i 12) 1 ≡ b → is_tagless (pick a own_name (pick b tagless (explicit (run_at t cs i 8)))) ≡ b
    by true true p q = absurd (omega (arith, eqb-true (cell_at cs i 12) 0 p, eqb-true (cell_at cs i 12) 1 q))
    by true false p q = unfold pick is_tagless in refl
    by false true p q = unfold pick is_tagless in refl
    by false false p q = unfold pick is_tagless in refl

-- the eleven stores
pub record_is : (t cs : List ℕ) (n i at k p f g lo hi a b : ℕ) (l : List ℕ) (c m : MaybeRange) (e e1 e2 e3 e4 e5 e6 e7 e8 e9 e10 e11 : List ℕ)
    → l ≡ label_at t cs i → k ≡ declared_kind t cs i → p ≡ cell_at cs i 15 → f ≡ flags_number (eqb (cell_at cs i 12) 1) (eqb (cell_at cs i 14) 1) (eqb (cell_at cs i 13) 1)
    → c ≡ counts_at t cs i → m ≡ limits_at t cs i → g ≡ target_at t cs n i → lo ≡ low_of c → hi ≡ high_of c → a ≡ low_of m → b ≡ high_of m
    → e1 ≡ sets e at (put16 (low16 (24 + length l % 65536)) []) → e2 ≡ sets e1 (at + 2) (put16 (low16 k) []) → e3 ≡ sets e2 (at + 4) (put16 (low16 p) []) → e4 ≡ sets e3 (at + 6) (put16 (low16 f) [])
    → e5 ≡ sets e4 (at + 8) (put16 (low16 lo) []) → e6 ≡ sets e5 (at + 10) (put16 (low16 hi) []) → e7 ≡ sets e6 (at + 12) (put32 (signed a) []) → e8 ≡ sets e7 (at + 16) (put32 (signed b) [])
    → e9 ≡ sets e8 (at + 20) (put16 (low16 g) []) → e10 ≡ sets e9 (at + 22) (put16 (low16 (length l % 65536)) []) → e11 ≡ sets e10 (at + 24) l
    → e11 ≡ sets e at (cut_bytes (record_written t cs n i))
unfolding record_written record_for noted_at declaration_in cut_bytes put16 put32
record_is t cs n i at k p f g lo hi a b l c m e e1 e2 e3 e4 e5 e6 e7 e8 e9 e10 e11 el ek ep ef ec em eg elo ehi ea eb q1 q2 q3 q4 q5 q6 q7 q8 q9 q10 q11 =
    let x2 : at + 2 ≡ suc (suc at) = omega arith in
    let x4 : at + 4 ≡ suc (suc (suc (suc at))) = omega arith in
    let x6 : at + 6 ≡ suc (suc (suc (suc (suc (suc at))))) = omega arith in
    let x8 : at + 8 ≡ suc (suc (suc (suc (suc (suc (suc (suc at))))))) = omega arith in
    let x10 : at + 10 ≡ suc (suc (suc (suc (suc (suc (suc (suc (suc (suc at))))))))) = omega arith in
    let x12 : at + 12 ≡ suc (suc (suc (suc (suc (suc (suc (suc (suc (suc (suc (suc at))))))))))) = omega arith in
    let x16 : at + 16 ≡ suc (suc (suc (suc (suc (suc (suc (suc (suc (suc (suc (suc (suc (suc (suc (suc at))))))))))))))) = omega arith in
    let x20 : at + 20 ≡ suc (suc (suc (suc (suc (suc (suc (suc (suc (suc (suc (suc (suc (suc (suc (suc (suc (suc (suc (suc at))))))))))))))))))) = omega arith in
    let x22 : at + 22 ≡ suc (suc (suc (suc (suc (suc (suc (suc (suc (suc (suc (suc (suc (suc (suc (suc (suc (suc (suc (suc (suc (suc at))))))))))))))))))))) = omega arith in
    let x24 : at + 24 ≡ suc (suc (suc (suc (suc (suc (suc (suc (suc (suc (suc (suc (suc (suc (suc (suc (suc (suc (suc (suc (suc (suc (suc (suc at))))))))))))))))))))))) = omega arith in
    let w1 : (24 + length l % 65536) % 65536 ≡ (24 + length l) % 65536 = omega arith in
    let w2 : length l % 65536 % 65536 ≡ length l % 65536 = omega arith in
    rw (tagless_is t cs i, up_number_lem (cell_at cs i 15), ← el, ← eg, ← em, ← ec, ← ek, ← ep, ← ef, ← elo, ← ehi, ← ea, ← eb, q11, q10, q9, q8, q7, q6, q5, q4, q3, q2, q1, x24, x22, x20, x16, x12, x10, x8, x6, x4, x2, w1, w2)

pub label_within : (t cs : List ℕ) (i : ℕ) → length (label_at t cs i) ≤ length t
unfolding tag_at run_at
label_within t cs i = by (eqb (cell_at cs i 12) 0) (eqb (cell_at cs i 12) 1)
  where
    one : (p e : ℕ) → length (part t p e) ≤ length t
    one p e = omega (arith, length-take (e - p) (drop p t), length-drop p t)

    by : (a b : Bool) → length (label_of (part t (cell_at cs i 4) (cell_at cs i (4 + 1))) (pick a own_name (pick b tagless (explicit (part t (cell_at cs i 8) (cell_at cs i (8 + 1))))))) ≤ length t
    by true b = unfold pick label_of in one (cell_at cs i 4) (cell_at cs i (4 + 1))
    by false true = unfold pick label_of in one (cell_at cs i 4) (cell_at cs i (4 + 1))
    by false false = unfold pick label_of in one (cell_at cs i 8) (cell_at cs i (8 + 1))

-- ---- all records

record_label : (t cs : List ℕ) (n i : ℕ) → (record_written t cs n i).label ≡ label_at t cs i
unfolding record_written record_for noted_at declaration_in
record_label t cs n i = refl

pub cut_length : (r : Record) → length (cut_bytes r) ≡ 24 + length r.label
unfolding cut_bytes put16 put32
cut_length r = omega arith

pub encode_length : (r : Record) (s : List ℕ) → length (encode_record r s) ≡ (24 + length r.label) + length s
unfolding encode_record put16 put32
encode_length r s = omega (arith, length-append r.label s)

module _ (t cs : List ℕ) (n : ℕ) where
  pub records_start : records_written t cs n ≡ records_after t cs n 0
  unfolding records_after records_of
  records_start = rw (noted_all t cs n)

  pub records_more : (i : ℕ) → i < n → records_after t cs n i ≡ record_written t cs n i ∷ records_after t cs n (i + 1)
  unfolding records_after record_written
  records_more i h = ap (λ l. records_for (names_from t cs n 0) (declarations_of l)) (noted_more t cs n i h) ∙ one (noted_at t cs i)
    where
      one : (x : Noted) → records_for (names_from t cs n 0) (declarations_of (x ∷ noted_from t cs (n - (i + 1)) (i + 1))) ≡ record_for (names_from t cs n 0) (declaration_in x) ∷ records_for (names_from t cs n 0) (declarations_of (noted_from t cs (n - (i + 1)) (i + 1)))
      one (noted s d) = unfold declarations_of records_for declaration_in in refl

  pub records_end : (i : ℕ) → n ≤ i → records_after t cs n i ≡ []
  unfolding records_after declarations_of records_for
  records_end i h = rw (noted_end t cs n i h)

  pub length_start : length (encode (records_written t cs n)) ≡ 0 + length (encode (records_after t cs n 0))
  length_start = ap (λ l. length (encode l)) records_start ∙ omega arith

-- what is left to write, and where it goes
module _ (t cs : List ℕ) (n i at k : ℕ) (ek : k ≡ 24 + length (label_at t cs i)) (h : i < n) where
  pub bytes_more : (all d e : List ℕ) → all ≡ sets d at (encode_cut (records_after t cs n i)) → e ≡ sets d at (cut_bytes (record_written t cs n i)) → all ≡ sets e (at + k) (encode_cut (records_after t cs n (i + 1)))
  unfolding encode_cut
  bytes_more all d e q p =
      q ∙ (rw (records_more t cs n i h, p, ek, ← record_label t cs n i, ← cut_length (record_written t cs n i))
      (sym (sets_append (cut_bytes (record_written t cs n i)) (encode_cut (records_after t cs n (i + 1))) d at)))

  pub length_more : (all : ℕ) → all ≡ at + length (encode (records_after t cs n i)) → all ≡ at + k + length (encode (records_after t cs n (i + 1)))
  unfolding encode
  length_more all q =
      q ∙ (rw (records_more t cs n i h, encode_length (record_written t cs n i) (encode (records_after t cs n (i + 1))), record_label t cs n i, ← ek) (omega arith))

module _ (t cs : List ℕ) (n i at : ℕ) (h : n ≤ i) where
  pub bytes_end : (all d : List ℕ) → all ≡ sets d at (encode_cut (records_after t cs n i)) → d ≡ all
  unfolding encode_cut
  bytes_end all d q = sym (q ∙ rw (records_end t cs n i h))

  pub length_end : (all : ℕ) → all ≡ at + length (encode (records_after t cs n i)) → at ≡ all
  unfolding encode
  length_end all q = sym (q ∙ rw (records_end t cs n i h) (omega arith))
