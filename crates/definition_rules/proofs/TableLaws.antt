-- Decoding after encoding, and back.
use mathlib.Core.Path.{◌≡◌, refl, ap, sym, ◌∙◌}
use mathlib.Core.Bool.{Bool, true, false}
use mathlib.Core.List.{List, [], ◌∷◌, ◌++◌}
use Prim.Native.Nat.{ℕ, zero, suc, ◌+◌, ◌*◌, ◌-◌, ◌/◌, ◌%◌, ◌≤◌, ◌<◌}
use native.Mathlib.Nat.{div-add-mod', mod-lt}
use native.Mathlib.Omega.{arith}
use lib.Dec.{eqb, ltb}
use lib.ListN.{length, length-append}
use borrow.Author.Tests.{eqb-true, eq-eqb, ltb-true, ltb-false, lt-ltb, le-ltb}
use Rattle.classes.specs.Bytes.{Byte}
use Rattle.numbers.specs.Limits.{none16, bias}
use Rattle.classes.specs.Lists.{pick, All}
use Rattle.reading_rules.specs.Record.{Record, Up, top, under}
use Rattle.definition_rules.specs.Table.{Maybe, none, just, up_number, number_up, bit, flags_number, flag1, flag2, flag4, encode_record, encode, get16, get32, get_bytes, want, record_of, decode_record, map_maybe, decode_up_to, decode, Storable}
use Rattle.numbers.specs.LittleEndian.{put16, put32, signed}

-- ---- numbers

get_put16 : {A : Type 0} (n : ℕ) (r : List ℕ) (f : ℕ → List ℕ → Maybe A) → get16 (put16 n r) f ≡ f n r
unfolding get16 put16
get_put16 n r f = ap (λ x. f x r) (omega (arith, div-add-mod' n 256))

get_put32 : {A : Type 0} (n : ℕ) (r : List ℕ) (f : ℕ → List ℕ → Maybe A) → get32 (put32 n r) f ≡ f n r
unfolding get32 put32
get_put32 n r f = get_put16 (n % 65536) _ _ ∙ (get_put16 (n / 65536) r _ ∙ ap (λ x. f x r) (omega (arith, div-add-mod' n 65536)))

get_put_bytes : {A : Type 0} (l r : List ℕ) (f : List ℕ → List ℕ → Maybe A) → get_bytes (length l) (l ++ r) f ≡ f l r
unfolding get_bytes
get_put_bytes [] r f = refl
get_put_bytes (b ∷ l) r f = get_put_bytes l r (λ m s. f (b ∷ m) s)

pub signed_back : (z : ℕ) → z < bias + bias → signed (signed z) ≡ z
unfolding signed
signed_back z h = by (ltb z bias) refl
  where
    by : (b : Bool) → ltb z bias ≡ b → pick (ltb (pick b (z + bias) (z - bias)) bias) (pick b (z + bias) (z - bias) + bias) (pick b (z + bias) (z - bias) - bias) ≡ z
    by true e = unfold pick in (rw (le-ltb (z + bias) bias (omega arith)) (omega arith))
    by false e = unfold pick in (let x = ltb-false z bias e in rw (lt-ltb (z - bias) bias (omega arith)) (omega arith))

flags_of : (n e p : Bool) → (flag1 (flags_number n e p) ≡ n) × (flag2 (flags_number n e p) ≡ e) × (flag4 (flags_number n e p) ≡ p) × (ltb (flags_number n e p) 8 ≡ true)
unfolding flag1 flag2 flag4 flags_number bit
flags_of true true true = (refl, refl, refl, refl)
flags_of true true false = (refl, refl, refl, refl)
flags_of true false true = (refl, refl, refl, refl)
flags_of true false false = (refl, refl, refl, refl)
flags_of false true true = (refl, refl, refl, refl)
flags_of false true false = (refl, refl, refl, refl)
flags_of false false true = (refl, refl, refl, refl)
flags_of false false false = (refl, refl, refl, refl)

of_flags : (f : ℕ) → f < 8 → flags_number (flag1 f) (flag2 f) (flag4 f) ≡ f
unfolding flag1 flag2 flag4 flags_number bit
of_flags zero h = refl
of_flags (suc zero) h = refl
of_flags (suc (suc zero)) h = refl
of_flags (suc (suc (suc zero))) h = refl
of_flags (suc (suc (suc (suc zero)))) h = refl
of_flags (suc (suc (suc (suc (suc zero))))) h = refl
of_flags (suc (suc (suc (suc (suc (suc zero)))))) h = refl
of_flags (suc (suc (suc (suc (suc (suc (suc zero))))))) h = refl
of_flags (suc (suc (suc (suc (suc (suc (suc (suc k)))))))) h = absurd (omega arith)

up_of : (u : Up) → (up_number u ≡ none16 → u ≡ top) → number_up (up_number u) ≡ u
unfolding number_up up_number pick
up_of top h = refl
up_of (under p) h = by (eqb p none16) refl
  where
    by : (b : Bool) → eqb p none16 ≡ b → pick b top (under p) ≡ under p
    by true e = sym (h (eqb-true p none16 e))
    by false e = refl

pub up_number_lem : (x : ℕ) → up_number (number_up x) ≡ x
unfolding number_up
up_number_lem x = by (eqb x none16) refl
  where
    by : (b : Bool) → eqb x none16 ≡ b → up_number (pick b top (under x)) ≡ x
    by true e = unfold pick up_number in (sym (eqb-true x none16 e))
    by false e = unfold pick up_number in refl

same_record : (r : Record) → Storable r → record_of r.kind (up_number r.parent) (flags_number r.untagged r.extension r.plugin) r.lo_count r.hi_count (signed r.least) (signed r.most) r.target r.label ≡ r
same_record r h =
    let x = flags_of r.untagged r.extension r.plugin in
    rw (x.0, x.1, x.2, up_of r.parent h.0, signed_back r.least h.1, signed_back r.most h.2)

-- ---- decode after encode

decode_record_lem : {A : Type 0} (r : Record) (s : List ℕ) (g : Record → List ℕ → Maybe A) → Storable r → decode_record (encode_record r s) g ≡ g r s
unfolding decode_record encode_record
decode_record_lem r s g h =
    get_put16 (24 + length r.label) _ _ ∙ (get_put16 r.kind _ _ ∙ (get_put16 (up_number r.parent) _ _ ∙ (get_put16 (flags_number r.untagged r.extension r.plugin) _ _ ∙ (get_put16 r.lo_count _ _ ∙ (get_put16 r.hi_count _ _ ∙ (get_put32 (signed r.least) _ _ ∙ (get_put32 (signed r.most) _ _ ∙ (get_put16 r.target _ _ ∙ (get_put16 (length r.label) _ _ ∙ (rw (eq-eqb (24 + length r.label) (24 + length r.label) refl, (flags_of r.untagged r.extension r.plugin).3) (unfold want in (get_put_bytes r.label s _ ∙ ap (λ x. g x s) (same_record r h)))))))))))))

decode_upto : (rs : List Record) (n : ℕ) → All Storable rs → length rs ≤ n → decode_up_to n (encode rs) ≡ just rs
unfolding decode_up_to encode map_maybe All
decode_upto [] zero a h = refl
decode_upto [] (suc n) a h = refl
decode_upto (r ∷ rs) zero a h = absurd (omega arith)
decode_upto (r ∷ rs) (suc n) a h = cons r (encode rs) ∙ (decode_record_lem r (encode rs) (λ d s. map_maybe (λ ds. d ∷ ds) (decode_up_to n s)) a.0 ∙ rw (decode_upto rs n a.1 (omega arith)))
  where
    cons : (r : Record) (s : List ℕ) → decode_up_to (suc n) (encode_record r s) ≡ decode_record (encode_record r s) (λ d s. map_maybe (λ ds. d ∷ ds) (decode_up_to n s))
    cons r s = unfold encode_record put16 in refl

encode_length : (rs : List Record) → length rs ≤ length (encode rs)
unfolding encode encode_record put16 put32
encode_length [] = omega arith
encode_length (r ∷ rs) = simp length-append (omega (arith, encode_length rs))

pub decode_encode : (rs : List Record) → All Storable rs → decode (encode rs) ≡ just rs
unfolding decode
decode_encode rs a = decode_upto rs (length (encode rs)) a (encode_length rs)

-- ---- encode after decode, for bytes

split16 : (a b : ℕ) (r : List ℕ) → a < 256 → put16 (a + 256 * b) r ≡ a ∷ b ∷ r
unfolding put16
split16 a b r h =
    let x = div-add-mod' (a + 256 * b) 256 in
    let y = mod-lt (a + 256 * b) {m = 256} (omega arith) in
    let p : (a + 256 * b) % 256 ≡ a = omega arith in
    let q : (a + 256 * b) / 256 ≡ b = omega arith in
    rw (p, q)

pub none_just : {A X : Type 0} {x : A} → ◌≡◌ {A = Maybe A} none (just x) → X
none_just e = let z : ◌≡◌ {A = ℕ} 0 1 = cc in absurd (omega arith)

got16 : {A X : Type 0} (s : List ℕ) (f : ℕ → List ℕ → Maybe A) {x : A} → All Byte s → get16 s f ≡ just x → ((n : ℕ) (r : List ℕ) → put16 n r ≡ s → n < 65536 → All Byte r → f n r ≡ just x → X) → X
unfolding get16 All
got16 [] f h e k = none_just e
got16 (a ∷ []) f h e k = none_just e
got16 (a ∷ b ∷ r) f h e k = k (a + 256 * b) r (split16 a b r h.0) (omega (arith, h.0, h.1.0)) h.1.1 e

got32 : {A X : Type 0} (s : List ℕ) (f : ℕ → List ℕ → Maybe A) {x : A} → All Byte s → get32 s f ≡ just x → ((n : ℕ) (r : List ℕ) → put32 n r ≡ s → n < 4294967296 → All Byte r → f n r ≡ just x → X) → X
unfolding get32 put32
got32 s f h e k = got16 s _ h e (λ a u p l h1 e1. got16 u _ h1 e1 (λ b r q m h2 e2.
    let x = div-add-mod' (a + 65536 * b) 65536 in
    let y = mod-lt (a + 65536 * b) {m = 65536} (omega arith) in
    let v : (a + 65536 * b) % 65536 ≡ a = omega arith in
    let w : (a + 65536 * b) / 65536 ≡ b = omega arith in
    k (a + 65536 * b) r (rw (v, w, q, p)) (omega arith) h2 e2))

got_bytes : {A X : Type 0} (n : ℕ) (s : List ℕ) (f : List ℕ → List ℕ → Maybe A) {x : A} → All Byte s → get_bytes n s f ≡ just x → ((l r : List ℕ) → l ++ r ≡ s → length l ≡ n → All Byte r → f l r ≡ just x → X) → X
unfolding get_bytes All
got_bytes zero s f h e k = k [] s refl refl h e
got_bytes (suc n) [] f h e k = none_just e
got_bytes (suc n) (b ∷ s) f h e k = got_bytes n s (λ l r. f (b ∷ l) r) h.1 e (λ l r p q h1 e1. k (b ∷ l) r (ap (λ t. b ∷ t) p) (ap suc q) h1 e1)

want_just : {A X : Type 0} (b : Bool) (m : Maybe A) {x : A} → want b m ≡ just x → (b ≡ true → m ≡ just x → X) → X
unfolding want
want_just true m e k = k refl e
want_just false m e k = none_just e

map_just : {A B X : Type 0} (f : A → B) (m : Maybe A) {y : B} → map_maybe f m ≡ just y → ((a : A) → m ≡ just a → f a ≡ y → X) → X
unfolding map_maybe
map_just f none e k = none_just e
map_just f (just a) e k = k a refl (cc)

got_record : {A X : Type 0} (s : List ℕ) (g : Record → List ℕ → Maybe A) {x : A} → All Byte s → decode_record s g ≡ just x → ((r : Record) (u : List ℕ) → encode_record r u ≡ s → All Byte u → g r u ≡ just x → X) → X
unfolding decode_record encode_record
got_record s g h e z =
    got16 s _ h e (λ m s1 p0 l0 h e. got16 s1 _ h e (λ k s2 p1 l1 h e. got16 s2 _ h e (λ p s3 p2 l2 h e. got16 s3 _ h e (λ f s4 p3 l3 h e. got16 s4 _ h e (λ c s5 p4 l4 h e. got16 s5 _ h e (λ d s6 p5 l5 h e.
    got32 s6 _ h e (λ a s7 p6 l6 h e. got32 s7 _ h e (λ b s8 p7 l7 h e. got16 s8 _ h e (λ t s9 p8 l8 h e. got16 s9 _ h e (λ n s10 p9 l9 h e.
    want_just (eqb m (24 + n)) _ e (λ w e. want_just (ltb f 8) _ e (λ v e. got_bytes n s10 _ h e (λ l u p10 q h e.
    z (record_of k p f c d a b t l) u (rw (q, p10, up_number_lem p, of_flags f (ltb-true f 8 v), signed_back a (omega arith), signed_back b (omega arith), p9, p8, p7, p6, p5, p4, p3, p2, p1, ← (eqb-true m (24 + n) w)) p0) h e)))))))))))))

encode_upto : (n : ℕ) (s : List ℕ) (rs : List Record) → All Byte s → decode_up_to n s ≡ just rs → encode rs ≡ s
unfolding decode_up_to encode All
encode_upto zero [] rs h e = let q : [] ≡ rs = cc in rw (← q)
encode_upto zero (a ∷ s) rs h e = none_just e
encode_upto (suc n) [] rs h e = let q : [] ≡ rs = cc in rw (← q)
encode_upto (suc n) (a ∷ s) rs h e = got_record (a ∷ s) _ h e (λ r u p h1 e1. map_just (λ t. r ∷ t) (decode_up_to n u) e1 (λ t e2 q. rw (← q) (rw (encode_upto n u t h1 e2) p)))

pub encode_decode : (s : List ℕ) (rs : List Record) → All Byte s → decode s ≡ just rs → encode rs ≡ s
unfolding decode
encode_decode s rs h e = encode_upto (length s) s rs h e
