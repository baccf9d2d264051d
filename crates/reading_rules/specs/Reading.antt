-- "A lawful reading is a finite tree that these rules allow": the trees, their leaves, the rules.
use Rattle.std.specs.Prelude.{◌≡◌, Bool, true, false, List, [], ◌∷◌, ◌++◌, ℕ, zero, suc, ◌+◌, ◌≤◌, eqb, length}
use Rattle.reading_rules.specs.Token.{Token, word, string, equals, comma, opening, closing}
use Rattle.reading_rules.specs.Schema.{simple, struct, union, is_void, nowhere, found, Schema, at_most}
use Rattle.reading_rules.specs.Count.{In, Once}

-- "the root's body on top, under a body its lists and items, under a list its values, under a struct its body, under a union's value its alternative, unknown parts included"
pub data TreeSort : Type 0 where
  unknown_value unknown_list value list body items : TreeSort

pub data Tree : TreeSort → Type 0 where
  -- "An unknown value is a word, a string, braces round any balanced tokens, or a word, `=`, an unknown value."
  unknown_word : List ℕ → Tree unknown_value
  unknown_string : List ℕ → Tree unknown_value
  unknown_braces : List Token → Tree unknown_value
  unknown_pair : List ℕ → Tree unknown_value → Tree unknown_value
  -- "a list of unknown values"
  unknown_last : Tree unknown_value → Tree unknown_list
  unknown_more : Tree unknown_value → Tree unknown_list → Tree unknown_list
  -- a value of a simple type: one token
  leaf : Token → Tree value
  -- "struct, `{` body `}`"
  braced : Tree body → Tree value
  -- "Union: one alternative, as a void tag, or tag `=` one value, or the untagged int."
  chosen_void : ℕ → List ℕ → Tree value
  chosen : ℕ → List ℕ → Tree value → Tree value
  chosen_int : ℕ → List ℕ → Tree value
  -- "A list is one or more values with commas between."
  last : Tree value → Tree list
  more : Tree value → Tree list → Tree list
  -- "A body is its untagged fields' lists in order, then items in any order.": a field's list and the rest of the body
  listed : ℕ → Tree list → Tree body → Tree body
  -- "An untagged field is absent ..; if its lo is 0, the body is then complete"
  stopped : Tree body
  itemized : Tree items → Tree body
  -- "An item is a void field's tag alone, or a tag, `=`, a list."
  no_item : Tree items
  void_item : ℕ → List ℕ → Tree items → Tree items
  list_item : ℕ → List ℕ → Tree list → Tree items → Tree items
  -- "An item whose tag isn't in the body is unknown ..: a word alone, or a word, `=`, a list of unknown values."
  unknown_item : List ℕ → Tree items → Tree items
  unknown_list_item : List ℕ → Tree unknown_list → Tree items → Tree items

-- "From left to right its leaves are all the message's tokens": a tree's leaves, in front of what follows them
unfoldable pub leaves_then : {s : TreeSort} → Tree s → List Token → List Token
leaves_then (unknown_word w) r = word w ∷ r
leaves_then (unknown_string w) r = string w ∷ r
leaves_then (unknown_braces ts) r = opening ∷ (ts ++ closing ∷ r)
leaves_then (unknown_pair w v) r = word w ∷ equals ∷ leaves_then v r
leaves_then (unknown_last v) r = leaves_then v r
leaves_then (unknown_more v l) r = leaves_then v (comma ∷ leaves_then l r)
leaves_then (leaf t) r = t ∷ r
leaves_then (braced b) r = opening ∷ leaves_then b (closing ∷ r)
leaves_then (chosen_void q w) r = word w ∷ r
leaves_then (chosen q w v) r = word w ∷ equals ∷ leaves_then v r
leaves_then (chosen_int q w) r = word w ∷ r
leaves_then (last v) r = leaves_then v r
leaves_then (more v l) r = leaves_then v (comma ∷ leaves_then l r)
leaves_then (listed q l b) r = leaves_then l (leaves_then b r)
leaves_then stopped r = r
leaves_then (itemized i) r = leaves_then i r
leaves_then no_item r = r
leaves_then (void_item q w i) r = word w ∷ leaves_then i r
leaves_then (list_item q w l i) r = word w ∷ equals ∷ leaves_then l (leaves_then i r)
leaves_then (unknown_item w i) r = word w ∷ leaves_then i r
leaves_then (unknown_list_item w l i) r = word w ∷ equals ∷ leaves_then l (leaves_then i r)

abbrev pub leaves : {s : TreeSort} → Tree s → List Token
leaves t = leaves_then t []

-- how many leaves a tree has
unfoldable pub width : {s : TreeSort} → Tree s → ℕ
width (unknown_word w) = 1
width (unknown_string w) = 1
width (unknown_braces ts) = length ts + 2
width (unknown_pair w v) = 2 + width v
width (unknown_last v) = width v
width (unknown_more v l) = width v + suc (width l)
width (leaf t) = 1
width (braced b) = width b + 2
width (chosen_void q w) = 1
width (chosen q w v) = 2 + width v
width (chosen_int q w) = 1
width (last v) = width v
width (more v l) = width v + suc (width l)
width (listed q l b) = width l + width b
width stopped = 0
width (itemized i) = width i
width no_item = 0
width (void_item q w i) = suc (width i)
width (list_item q w l i) = 2 + (width l + width i)
width (unknown_item w i) = suc (width i)
width (unknown_list_item w l i) = 2 + (width l + width i)

-- "balanced": as many `{` as `}`, and no beginning closes more than it opened; here with k open before
unfoldable pub balanced_from : List Token → ℕ → Bool
balanced_from [] k = eqb k 0
balanced_from (word w ∷ r) k = balanced_from r k
balanced_from (string w ∷ r) k = balanced_from r k
balanced_from (equals ∷ r) k = balanced_from r k
balanced_from (comma ∷ r) k = balanced_from r k
balanced_from (opening ∷ r) k = balanced_from r (suc k)
balanced_from (closing ∷ r) zero = false
balanced_from (closing ∷ r) (suc k) = balanced_from r k

abbrev pub Balanced : List Token → Type 0
Balanced ts = balanced_from ts 0 ≡ true

-- how many `{`, and how many `}`, a row of tokens has
unfoldable pub opened : List Token → ℕ
opened [] = 0
opened (word w ∷ r) = opened r
opened (string w ∷ r) = opened r
opened (equals ∷ r) = opened r
opened (comma ∷ r) = opened r
opened (opening ∷ r) = suc (opened r)
opened (closing ∷ r) = opened r

unfoldable pub closed : List Token → ℕ
closed [] = 0
closed (word w ∷ r) = closed r
closed (string w ∷ r) = closed r
closed (equals ∷ r) = closed r
closed (comma ∷ r) = closed r
closed (opening ∷ r) = closed r
closed (closing ∷ r) = suc (closed r)

-- how many values a list has
unfoldable pub count : Tree list → ℕ
count (last v) = 1
count (more v l) = suc (count l)

-- the known fields that appear, in order
unfoldable pub fields_of : Tree items → List ℕ
fields_of no_item = []
fields_of (void_item q w i) = q ∷ fields_of i
fields_of (list_item q w l i) = q ∷ fields_of i
fields_of (unknown_item w i) = fields_of i
fields_of (unknown_list_item w l i) = fields_of i

-- "its list has lo to hi values"
abbrev pub InRange : Schema → ℕ → ℕ → Type 0
InRange S q n = (S.lo q ≤ n) × (at_most (S.hi q) n ≡ true)

-- "A field .. that isn't directly in an extension, isn't plugin and has lo over 0 must appear"
abbrev pub Full : Schema → ℕ → List ℕ → Type 0
Full S p ks = (k : ℕ) → In k (S.tagged p) → S.optional k ≡ false → 1 ≤ S.lo k → In k ks

-- what a tree is read for: a value and a list for a parameter; a body for a struct and its untagged fields still to come; items for a struct
abbrev pub For : TreeSort → Type 0
For unknown_value = Unit {0}
For unknown_list = Unit {0}
For value = ℕ
For list = ℕ
For body = ℕ × List ℕ
For items = ℕ

-- the rules
unfoldable pub Law : {s : TreeSort} → Schema → For s → Tree s → Type 0
Law S p (unknown_word w) = Unit {0}
Law S p (unknown_string w) = Unit {0}
Law S p (unknown_braces ts) = Balanced ts
Law S p (unknown_pair w v) = Law S p v
Law S p (unknown_last v) = Law S p v
Law S p (unknown_more v l) = Law S p v × Law S p l
Law S p (leaf t) = (S.kind (S.core p) ≡ simple) × (S.judge (S.core p) t ≡ 0)
Law S p (braced b) = (S.kind (S.core p) ≡ struct) × Law S (S.core p, S.untagged (S.core p)) b
Law S p (chosen_void q w) = (S.kind (S.core p) ≡ union) × (S.find (S.core p) w ≡ found q) × (is_void (S.kind q) ≡ true)
Law S p (chosen q w v) = (S.kind (S.core p) ≡ union) × (S.find (S.core p) w ≡ found q) × (is_void (S.kind q) ≡ false) × Law S q v
Law S p (chosen_int q w) = (S.kind (S.core p) ≡ union) × (S.bare (S.core p) ≡ found q) × (S.judge q (word w) ≡ 0)
Law S p (last v) = Law S p v
Law S p (more v l) = Law S p v × Law S p l
-- "in order": the list is the next untagged field's
Law S c (listed q l b) = (qs : List ℕ) × (c.1 ≡ q ∷ qs) × Law S q l × InRange S q (count l) × Law S (c.0, qs) b
-- "if its lo is 0, the body is then complete and nothing later is required"
Law S c stopped = (q : ℕ) × (qs : List ℕ) × (c.1 ≡ q ∷ qs) × (S.lo q ≡ 0)
-- "A field appears at most once"; the required ones appear
Law S c (itemized i) = (c.1 ≡ []) × Law S c.0 i × Once (fields_of i) × Full S c.0 (fields_of i)
Law S p no_item = Unit {0}
Law S p (void_item q w i) = (S.find p w ≡ found q) × (is_void (S.kind q) ≡ true) × Law S p i
Law S p (list_item q w l i) = (S.find p w ≡ found q) × (is_void (S.kind q) ≡ false) × Law S q l × InRange S q (count l) × Law S p i
Law S p (unknown_item w i) = (S.find p w ≡ nowhere) × Law S p i
Law S p (unknown_list_item w l i) = (S.find p w ≡ nowhere) × Law S tt l × Law S p i

-- "the root's body": a message is the body of parameter 0 without braces
abbrev pub Lawful : Schema → Tree body → Type 0
Lawful S t = Law S (0, S.untagged 0) t
