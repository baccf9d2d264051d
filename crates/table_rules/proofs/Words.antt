-- Every simple type whose record keeps the rules has a value: a token that its judgement takes.
use mathlib.Core.Path.{◌≡◌, refl, ap, ◌∙◌}
use mathlib.Core.Bool.{Bool, true, false, ◌&&◌, ◌||◌}
use mathlib.Core.List.{List, [], ◌∷◌}
use Prim.Native.Nat.{ℕ, zero, suc, ◌+◌, ◌-◌, ◌≤◌}
use native.Mathlib.Omega.{arith}
use lib.Dec.{eqb, leb, ltb}
use lib.ListN.{length, replicate, length-replicate}
use borrow.Author.Tests.{eqb-true, eq-eqb, le-leb, leb-true, ne_eqb}
use Rattle.classes.proofs.Bools.{or_case}
use Rattle.numbers.specs.Limits.{bias, int_most}
use Rattle.classes.specs.Bytes.{between, is_word_byte, is_string_byte, is_digit, is_letter, is_name_byte, is_tag_byte}
use Rattle.classes.specs.Lists.{every, same_bytes, pick, not_empty}
use Rattle.numbers.specs.Decimal.{read_digits, is_natural, is_int, int_within}
use Rattle.calendar.specs.Calendar.{leap, days_of, date_form, date_within, time_form, time_within}
use Rattle.reading_rules.specs.Token.{Token, word, string, is_token}
use Rattle.reading_rules.specs.Record.{Record}
use Rattle.reading_rules.specs.Value.{is_bool, word_form, word_within, token_form, token_within, form_then_range, value_number}
use Rattle.reading_rules.proofs.CountLaws.{clash_bool, and_both}
use Rattle.table_rules.proofs.Numerals.{write_nat, write_int, nat_natural, natural_digits, digit_range, in_range, int_written}
use Rattle.definition_rules.specs.Words.{tag_form}
use Rattle.definition_rules.specs.Records.{kind_least, kind_most}

-- ---- bytes of tokens

every_map : (f g : ℕ → Bool) → ((b : ℕ) → f b ≡ true → g b ≡ true) → (l : List ℕ) → every f l ≡ true → every g l ≡ true
unfolding every
every_map f g m [] e = refl
every_map f g m (b ∷ l) e = and_both (f b) (every f l) e (λ x y. rw (m b x) (every_map f g m l y))

every_rep : (f : ℕ → Bool) (b n : ℕ) → f b ≡ true → every f (replicate n b) ≡ true
unfolding every
every_rep f b zero e = refl
every_rep f b (suc n) e = rw e (every_rep f b n e)

word_byte : (b : ℕ) → 33 ≤ b → b ≤ 126 → (b ≡ 61 → ⊥) → (b ≡ 44 → ⊥) → (b ≡ 34 → ⊥) → (b ≡ 39 → ⊥) → (b ≡ 123 → ⊥) → (b ≡ 125 → ⊥) → (b ≡ 40 → ⊥) → (b ≡ 41 → ⊥) → (b ≡ 63 → ⊥) → is_word_byte b ≡ true
unfolding is_word_byte
word_byte b l h n1 n2 n3 n4 n5 n6 n7 n8 n9 = rw (le-leb 33 b l, le-leb b 126 h, ne_eqb b 61 n1, ne_eqb b 44 n2, ne_eqb b 34 n3, ne_eqb b 39 n4, ne_eqb b 123 n5, ne_eqb b 125 n6, ne_eqb b 40 n7, ne_eqb b 41 n8, ne_eqb b 63 n9)

pub digit_word : (b : ℕ) → is_digit b ≡ true → is_word_byte b ≡ true
digit_word b e =
    let h = digit_range b e in
    word_byte b (omega arith) (omega arith) (λ z. omega arith) (λ z. omega arith) (λ z. omega arith) (λ z. omega arith) (λ z. omega arith) (λ z. omega arith) (λ z. omega arith) (λ z. omega arith) (λ z. omega arith)

within_is : (lo hi b : ℕ) → between lo hi b ≡ true → (lo ≤ b) × (b ≤ hi)
within_is lo hi b e = and_both (leb lo b) (leb b hi) e (λ x y. (leb-true lo b x, leb-true b hi y))

low_word : (b : ℕ) → (97 ≤ b) × (b ≤ 122) → is_word_byte b ≡ true
low_word b h = word_byte b (omega arith) (omega arith) (λ z. omega arith) (λ z. omega arith) (λ z. omega arith) (λ z. omega arith) (λ z. omega arith) (λ z. omega arith) (λ z. omega arith) (λ z. omega arith) (λ z. omega arith)

high_word : (b : ℕ) → (65 ≤ b) × (b ≤ 90) → is_word_byte b ≡ true
high_word b h = word_byte b (omega arith) (omega arith) (λ z. omega arith) (λ z. omega arith) (λ z. omega arith) (λ z. omega arith) (λ z. omega arith) (λ z. omega arith) (λ z. omega arith) (λ z. omega arith) (λ z. omega arith)

one_word : (b c : ℕ) → eqb b c ≡ true → is_word_byte c ≡ true → is_word_byte b ≡ true
one_word b c e h = ap is_word_byte (eqb-true b c e) ∙ h

tag_word : (b : ℕ) → is_tag_byte b ≡ true → is_word_byte b ≡ true
unfolding is_tag_byte is_name_byte is_letter
tag_word b e =
    or_case (is_name_byte b) (eqb b 46) e (λ n.
    or_case (is_letter b) (is_digit b || (eqb b 45 || eqb b 95)) n (λ m.
    or_case (between 97 122 b) (between 65 90 b) m (λ x. low_word b (within_is 97 122 b x)) (λ x. high_word b (within_is 65 90 b x)))
    (λ m. or_case (is_digit b) (eqb b 45 || eqb b 95) m (λ x. digit_word b x)
    (λ k. or_case (eqb b 45) (eqb b 95) k
    (λ x. one_word b 45 x (unfold is_word_byte in refl))
    (λ x. one_word b 95 x (unfold is_word_byte in refl)))))
    (λ x. one_word b 46 x (unfold is_word_byte in refl))

pub word_token : (l : List ℕ) → 1 ≤ length l → every is_word_byte l ≡ true → is_token (word l) ≡ true
unfolding is_token
word_token [] h e = absurd (omega arith)
word_token (b ∷ l) h e = e

-- a tag is a word
pub tag_token : (w : List ℕ) → tag_form w ≡ true → is_token (word w) ≡ true
unfolding tag_form not_empty
tag_token [] e = clash_bool e
tag_token (b ∷ w) e = and_both (true && every is_tag_byte (b ∷ w)) _ e (λ x y. word_token (b ∷ w) (omega arith) (every_map is_tag_byte is_word_byte tag_word (b ∷ w) x))

nat_long : (l : List ℕ) → is_natural l ≡ true → 1 ≤ length l
unfolding is_natural
nat_long [] e = clash_bool e
nat_long (b ∷ l) e = omega arith

dash : is_word_byte 45 ≡ true
unfolding is_word_byte
dash = refl

int_tok : (n : ℕ) → is_token (word (write_int n)) ≡ true
unfolding write_int every
int_tok n = go (ltb n bias)
  where
    word_of : (m : ℕ) → every is_word_byte (write_nat m) ≡ true
    word_of m = every_map is_digit is_word_byte digit_word (write_nat m) (natural_digits (write_nat m) (nat_natural m))

    go : (t : Bool) → is_token (word (pick t (45 ∷ write_nat (bias - n)) (write_nat (n - bias)))) ≡ true
    go true = unfold pick in word_token (45 ∷ write_nat (bias - n)) (omega arith) (rw dash (word_of (bias - n)))
    go false = unfold pick in word_token (write_nat (n - bias)) (nat_long (write_nat (n - bias)) (nat_natural (n - bias))) (word_of (n - bias))

-- ---- values

abbrev pub TakesToken : Record → Type 0
TakesToken r = (t : Token) × (value_number r t ≡ 0) × (is_token t ≡ true)

takes_word : (r : Record) (w : List ℕ) → word_form r.kind w ≡ true → word_within r.kind r.least r.most w ≡ true → value_number r (word w) ≡ 0
unfolding value_number token_form token_within form_then_range
takes_word r w a b = rw (a, b)

-- the same, by the kind's number
fixed_value : (r : Record) (n : ℕ) (w : List ℕ) → r.kind ≡ n → word_form n w ≡ true → word_within n r.least r.most w ≡ true → is_token (word w) ≡ true → TakesToken r
fixed_value r n w k f g t = (word w, takes_word r w (ap (λ j. word_form j w) k ∙ f) (ap (λ j. word_within j r.least r.most w) k ∙ g), t)

pub int_value : (r : Record) → r.kind ≡ 3 → r.least ≤ r.most → r.most ≤ kind_most r.kind → (w : List ℕ) × (value_number r (word w) ≡ 0) × (is_token (word w) ≡ true)
unfolding kind_most pick
int_value r k m h =
    let t : kind_most r.kind ≡ int_most = ap kind_most k in
    let g = int_written r.least r.most r.least (omega arith) m (omega arith) in
    (write_int r.least, takes_word r (write_int r.least) (form (write_int r.least) g.form) (inside (write_int r.least) g.within), int_tok r.least)
  where
    form : (w : List ℕ) → is_int w ≡ true → word_form r.kind w ≡ true
    form w e = ap (λ n. word_form n w) k ∙ (unfold word_form in e)

    inside : (w : List ℕ) → int_within r.least r.most w ≡ true → word_within r.kind r.least r.most w ≡ true
    inside w e = ap (λ n. word_within n r.least r.most w) k ∙ (unfold word_within in e)

ascii_value : (r : Record) → r.kind ≡ 4 → bias ≤ r.least → r.least ≤ r.most → TakesToken r
unfolding value_number token_form token_within form_then_range is_token
ascii_value r k l m =
    let n : length {A = ℕ} (replicate (r.least - bias) 32) ≡ r.least - bias = length-replicate {A = ℕ} (r.least - bias) 32 in
    (string (replicate (r.least - bias) 32), rw (eq-eqb r.kind 4 k, in_range r.least r.most (bias + length {A = ℕ} (replicate (r.least - bias) 32)) (omega arith) (omega arith)), every_rep is_string_byte 32 (r.least - bias) (unfold is_string_byte in refl))

unquoted_value : (r : Record) → r.kind ≡ 5 → bias + 1 ≤ r.least → r.least ≤ r.most → TakesToken r
unquoted_value r k l m =
    let n : length {A = ℕ} (replicate (r.least - bias) 97) ≡ r.least - bias = length-replicate {A = ℕ} (r.least - bias) 97 in
    let a : word_form r.kind (replicate (r.least - bias) 97) ≡ true = form (replicate (r.least - bias) 97) in
    (word (replicate (r.least - bias) 97), takes_word r (replicate (r.least - bias) 97) a (inside (replicate (r.least - bias) 97) (in_range r.least r.most (bias + length {A = ℕ} (replicate (r.least - bias) 97)) (omega arith) (omega arith))), word_token (replicate (r.least - bias) 97) (omega arith) (every_rep is_word_byte 97 (r.least - bias) (unfold is_word_byte in refl)))
  where
    form : (w : List ℕ) → word_form r.kind w ≡ true
    form w = ap (λ n. word_form n w) k ∙ (unfold word_form in refl)

    inside : (w : List ℕ) → between r.least r.most (bias + length w) ≡ true → word_within r.kind r.least r.most w ≡ true
    inside w e = ap (λ n. word_within n r.least r.most w) k ∙ (unfold word_within in e)

bool_value : (r : Record) → r.kind ≡ 2 → TakesToken r
unfolding word_form word_within is_bool same_bytes is_token every is_word_byte
bool_value r k = fixed_value r 2 (116 ∷ 114 ∷ 117 ∷ 101 ∷ []) k refl refl refl

date_value : (r : Record) → r.kind ≡ 6 → TakesToken r
unfolding word_form word_within date_form date_within is_digit read_digits days_of leap is_token every is_word_byte
date_value r k = fixed_value r 6 (48 ∷ 48 ∷ 48 ∷ 49 ∷ 48 ∷ 49 ∷ 48 ∷ 49 ∷ []) k refl refl refl

time_value : (r : Record) → r.kind ≡ 7 → TakesToken r
unfolding word_form word_within time_form time_within is_digit read_digits is_token every is_word_byte
time_value r k = fixed_value r 7 (48 ∷ 48 ∷ 48 ∷ 48 ∷ 48 ∷ 48 ∷ []) k refl refl refl

pub simple_value : (r : Record) → 2 ≤ r.kind → r.kind ≤ 7 → kind_least r.kind ≤ r.least → r.least ≤ r.most → r.most ≤ kind_most r.kind → TakesToken r
unfolding kind_least pick
simple_value r a b l m h = go r.kind refl a b
  where
    go : (k : ℕ) → r.kind ≡ k → 2 ≤ k → k ≤ 7 → TakesToken r
    go zero e x y = absurd (omega arith)
    go (suc zero) e x y = absurd (omega arith)
    go (suc (suc zero)) e x y = bool_value r e
    go (suc (suc (suc zero))) e x y = let g = int_value r e m h in (word g.0, g.1, g.2)
    go (suc (suc (suc (suc zero)))) e x y = let t : kind_least r.kind ≡ bias = ap kind_least e in ascii_value r e (omega arith) m
    go (suc (suc (suc (suc (suc zero))))) e x y = let t : kind_least r.kind ≡ bias + 1 = ap kind_least e in unquoted_value r e (omega arith) m
    go (suc (suc (suc (suc (suc (suc zero)))))) e x y = date_value r e
    go (suc (suc (suc (suc (suc (suc (suc zero))))))) e x y = time_value r e
    go (suc (suc (suc (suc (suc (suc (suc (suc k)))))))) e x y = absurd (omega arith)
