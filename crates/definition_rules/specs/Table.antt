-- The compiled table: records to bytes and back.
use Rattle.std.specs.Prelude.{◌≡◌, Bool, true, false, List, [], ◌∷◌, ◌++◌, ℕ, zero, suc, ◌+◌, ◌*◌, ◌%◌, ◌<◌, leb, ltb, eqb, length}
use Rattle.numbers.specs.Limits.{none16, bias}
use Rattle.numbers.specs.LittleEndian.{put16, put32, signed}
use Rattle.classes.specs.Lists.{pick}
use Rattle.reading_rules.specs.Record.{Record, Up, top, under}

pub data Maybe (A : Type 0) : Type 0 where
  none : Maybe A
  just : A → Maybe A

-- ---- numbers of a record

-- "65,535 is "none""
unfoldable pub up_number : Up → ℕ
up_number top = none16
up_number (under p) = p

unfoldable pub number_up : ℕ → Up
number_up x = pick (eqb x none16) top (under x)

unfoldable pub bit : Bool → ℕ
bit true = 1
bit false = 0

-- "Flags: 1 untagged, 2 directly in an extension, 4 plugin."
unfoldable pub flags_number : Bool → Bool → Bool → ℕ
flags_number n e p = bit n + 2 * bit e + 4 * bit p

unfoldable pub flag1 : ℕ → Bool
flag1 f = eqb (f % 2) 1

unfoldable pub flag2 : ℕ → Bool
flag2 f = leb 2 (f % 4)

unfoldable pub flag4 : ℕ → Bool
flag4 f = leb 4 f

-- ---- to bytes

-- "length u16 (whole record), kind u16, parent u16, flags u16, lo count u16, hi count u16 (65,535 is `*`), lo i32, hi i32, target u16, n u16, n bytes"
unfoldable pub encode_record : Record → List ℕ → List ℕ
encode_record r rest =
    put16 (24 + length r.label)
    (put16 r.kind
    (put16 (up_number r.parent)
    (put16 (flags_number r.untagged r.extension r.plugin)
    (put16 r.lo_count
    (put16 r.hi_count
    (put32 (signed r.least)
    (put32 (signed r.most)
    (put16 r.target
    (put16 (length r.label) (r.label ++ rest))))))))))

unfoldable pub encode : List Record → List ℕ
encode [] = []
encode (r ∷ rs) = encode_record r (encode rs)

-- ---- and back

unfoldable pub get16 : {A : Type 0} → List ℕ → (ℕ → List ℕ → Maybe A) → Maybe A
get16 [] f = none
get16 (a ∷ []) f = none
get16 (a ∷ b ∷ r) f = f (a + 256 * b) r

unfoldable pub get32 : {A : Type 0} → List ℕ → (ℕ → List ℕ → Maybe A) → Maybe A
get32 s f = get16 s (λ a s. get16 s (λ b s. f (a + 65536 * b) s))

unfoldable pub get_bytes : {A : Type 0} → ℕ → List ℕ → (List ℕ → List ℕ → Maybe A) → Maybe A
get_bytes zero s f = f [] s
get_bytes (suc n) [] f = none
get_bytes (suc n) (b ∷ s) f = get_bytes n s (λ l r. f (b ∷ l) r)

unfoldable pub want : {A : Type 0} → Bool → Maybe A → Maybe A
want true m = m
want false m = none

abbrev pub record_of : ℕ → ℕ → ℕ → ℕ → ℕ → ℕ → ℕ → ℕ → List ℕ → Record
record_of k p f c d a b t l =
    record { kind = k; parent = number_up p; untagged = flag1 f; extension = flag2 f; plugin = flag4 f; lo_count = c; hi_count = d; least = signed a; most = signed b; target = t; label = l }

-- what the bytes can hold: no parent numbered 65,535, ranges of ints
abbrev pub Storable : Record → Type 0
Storable r = (up_number r.parent ≡ none16 → r.parent ≡ top) × (r.least < bias + bias) × (r.most < bias + bias)

unfoldable pub decode_record : {A : Type 0} → List ℕ → (Record → List ℕ → Maybe A) → Maybe A
decode_record s g =
    get16 s (λ m s. get16 s (λ k s. get16 s (λ p s. get16 s (λ f s. get16 s (λ c s. get16 s (λ d s.
    get32 s (λ a s. get32 s (λ b s. get16 s (λ t s. get16 s (λ n s.
    want (eqb m (24 + n)) (want (ltb f 8) (get_bytes n s (λ l s. g (record_of k p f c d a b t l) s)))))))))))))

unfoldable pub map_maybe : {A B : Type 0} → (A → B) → Maybe A → Maybe B
map_maybe f none = none
map_maybe f (just a) = just (f a)

-- at most n records
unfoldable pub decode_up_to : ℕ → List ℕ → Maybe (List Record)
decode_up_to zero [] = just []
decode_up_to zero (a ∷ s) = none
decode_up_to (suc n) [] = just []
decode_up_to (suc n) (a ∷ s) = decode_record (a ∷ s) (λ r s. map_maybe (λ rs. r ∷ rs) (decode_up_to n s))

-- "whole records and nothing after"
unfoldable pub decode : List ℕ → Maybe (List Record)
decode s = decode_up_to (length s) s
