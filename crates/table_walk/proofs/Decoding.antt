-- What the decoder says at a place of a table: the whole record that begins there, or none.
use mathlib.Core.Path.{◌≡◌, refl, ap, ◌∙◌}
use mathlib.Core.List.{List, [], ◌∷◌}
use Prim.Native.Nat.{ℕ, zero, suc, ◌+◌, ◌*◌, ◌≤◌, ◌<◌}
use native.Mathlib.Omega.{arith}
use lib.Dec.{eqb, ltb}
use lib.ListN.{length, take, drop, length-drop}
use lib.Seq.{drop-cons, drop-drop}
use borrow.Author.Tests.{eq-eqb, ne_eqb, lt-ltb, le-ltb}
use Rattle.numbers.specs.LittleEndian.{le16, le32}
use Rattle.reading_rules.specs.Record.{Record}
use Rattle.definition_rules.specs.Table.{Maybe, none, get16, get32, get_bytes, want, record_of, decode_record}
use Rattle.table_records.specs.Stored.{stored_at}

-- ---- too short for the numbers of a record

short16 : {A : Type 0} (k : ℕ) (s : List ℕ) (f : ℕ → List ℕ → Maybe A) → length s < 2 + k → ((a : ℕ) (r : List ℕ) → length r < k → f a r ≡ none) → get16 s f ≡ none
unfolding get16
short16 k [] f h g = refl
short16 k (a ∷ []) f h g = refl
short16 k (a ∷ b ∷ r) f h g = g (a + 256 * b) r (omega arith)

short32 : {A : Type 0} (k : ℕ) (s : List ℕ) (f : ℕ → List ℕ → Maybe A) → length s < 4 + k → ((a : ℕ) (r : List ℕ) → length r < k → f a r ≡ none) → get32 s f ≡ none
unfolding get32
short32 k s f h g = short16 (2 + k) s _ (omega arith) (λ a r l. short16 k r _ l (λ b q m. g (a + 65536 * b) q m))

pub short_record : {A : Type 0} (s : List ℕ) (g : Record → List ℕ → Maybe A) → length s < 24 → decode_record s g ≡ none
unfolding decode_record
short_record s g h =
    short16 22 s _ h (λ a s h. short16 20 s _ h (λ a s h. short16 18 s _ h (λ a s h. short16 16 s _ h (λ a s h. short16 14 s _ h (λ a s h. short16 12 s _ h (λ a s h.
    short32 8 s _ h (λ a s h. short32 4 s _ h (λ a s h. short16 2 s _ h (λ a s h. short16 0 s _ h (λ a s h. absurd (omega arith)))))))))))

-- ---- long enough

module _ {A : Type 0} (t : List ℕ) where
  step16 : (k m : ℕ) (f : ℕ → List ℕ → Maybe A) → k + 2 ≡ m → m ≤ length t → get16 (drop k t) f ≡ f (le16 t k) (drop m t)
  unfolding get16
  step16 k m f e h =
      let p : m ≡ suc (suc k) = omega arith in
      let q : k + 1 ≡ suc k = omega arith in
      let x : k < length t = omega arith in
      let y : suc k < length t = omega arith in
      rw (p, q, drop-cons t k 0 x, drop-cons t (suc k) 0 y)

  step32 : (k m : ℕ) (f : ℕ → List ℕ → Maybe A) → k + 4 ≡ m → m ≤ length t → get32 (drop k t) f ≡ f (le32 t k) (drop m t)
  unfolding get32
  step32 k m f e h = step16 k (k + 2) _ refl (omega arith) ∙ step16 (k + 2) m _ (omega arith) h

bytes_all : {A : Type 0} (n : ℕ) (s : List ℕ) (f : List ℕ → List ℕ → Maybe A) → n ≤ length s → get_bytes n s f ≡ f (take n s) (drop n s)
unfolding get_bytes
bytes_all zero s f h = refl
bytes_all (suc n) [] f h = absurd (omega arith)
bytes_all (suc n) (b ∷ s) f h = bytes_all n s (λ l r. f (b ∷ l) r) (omega arith)

bytes_short : {A : Type 0} (n : ℕ) (s : List ℕ) (f : List ℕ → List ℕ → Maybe A) → length s < n → get_bytes n s f ≡ none
unfolding get_bytes
bytes_short zero s f h = absurd (omega arith)
bytes_short (suc n) [] f h = refl
bytes_short (suc n) (b ∷ s) f h = bytes_short n s (λ l r. f (b ∷ l) r) (omega arith)

module _ {A : Type 0} (t : List ℕ) (at : ℕ) (g : Record → List ℕ → Maybe A) where
  abbrev with_label : List ℕ → List ℕ → Maybe A
  with_label l s = g (record_of (le16 t (at + 2)) (le16 t (at + 4)) (le16 t (at + 6)) (le16 t (at + 8)) (le16 t (at + 10)) (le32 t (at + 12)) (le32 t (at + 16)) (le16 t (at + 20)) l) s

  numbers_read : at + 24 ≤ length t → decode_record (drop at t) g ≡ want (eqb (le16 t at) (24 + le16 t (at + 22))) (want (ltb (le16 t (at + 6)) 8) (get_bytes (le16 t (at + 22)) (drop (at + 24) t) with_label))
  unfolding decode_record
  numbers_read h =
      step16 t at (at + 2) _ refl (omega arith) ∙ (step16 t (at + 2) (at + 4) _ (omega arith) (omega arith) ∙ (step16 t (at + 4) (at + 6) _ (omega arith) (omega arith) ∙ (step16 t (at + 6) (at + 8) _ (omega arith) (omega arith) ∙ (step16 t (at + 8) (at + 10) _ (omega arith) (omega arith) ∙ (step16 t (at + 10) (at + 12) _ (omega arith) (omega arith) ∙ (step32 t (at + 12) (at + 16) _ (omega arith) (omega arith) ∙ (step32 t (at + 16) (at + 20) _ (omega arith) (omega arith) ∙ (step16 t (at + 20) (at + 22) _ (omega arith) (omega arith) ∙ step16 t (at + 22) (at + 24) _ (omega arith) (omega arith)))))))))

  -- the whole record
  pub whole_record : at + 24 ≤ length t → le16 t at ≡ 24 + le16 t (at + 22) → le16 t (at + 6) < 8 → at + le16 t at ≤ length t → decode_record (drop at t) g ≡ g (stored_at t at) (drop (at + le16 t at) t)
  unfolding stored_at want
  whole_record h e f l =
      numbers_read h ∙
      (rw (eq-eqb _ _ e, lt-ltb _ _ f)
      (bytes_all (le16 t (at + 22)) (drop (at + 24) t) with_label (rw length-drop (omega arith))
      ∙ ap (with_label (take (le16 t (at + 22)) (drop (at + 24) t))) (rest (le16 t (at + 22)) (at + le16 t at) (omega arith))))
    where
      rest : (n m : ℕ) → m ≡ at + 24 + n → drop n (drop (at + 24) t) ≡ drop m t
      rest n m q = rw q (drop-drop n (at + 24) t)

  -- no record
  pub wrong_length : at + 24 ≤ length t → (le16 t at ≡ 24 + le16 t (at + 22) → ⊥) → decode_record (drop at t) g ≡ none
  unfolding want
  wrong_length h e = numbers_read h ∙ rw (ne_eqb _ _ e)

  pub wrong_flags : at + 24 ≤ length t → le16 t at ≡ 24 + le16 t (at + 22) → 8 ≤ le16 t (at + 6) → decode_record (drop at t) g ≡ none
  unfolding want
  wrong_flags h e f = numbers_read h ∙ rw (eq-eqb _ _ e, le-ltb _ _ f)

  pub cut_label : at + 24 ≤ length t → le16 t at ≡ 24 + le16 t (at + 22) → le16 t (at + 6) < 8 → length t < at + le16 t at → decode_record (drop at t) g ≡ none
  unfolding want
  cut_label h e f l =
      numbers_read h ∙
      rw (eq-eqb _ _ e, lt-ltb _ _ f) (bytes_short (le16 t (at + 22)) (drop (at + 24) t) with_label (rw length-drop (omega arith)))
