-- The parser of a body: what it reads and what is left, or the number of a refusal and what is left there.
-- Bodies by the depth that is left; every loop by fuel, one more than the tokens left. Number 0 is the fuel's and never shows.
-- Each function has the columns of the decision table (word, string, `{`, `=`, `,`, `}`, end) as its clauses.
use Rattle.std.specs.Prelude.{Bool, true, false, not, ◌||◌, List, [], ◌∷◌, ℕ, zero, suc, eqb, leb, ltb, length}
use Rattle.numbers.specs.Limits.{no_limit}
use Rattle.numbers.specs.Decimal.{is_int_like}
use Rattle.reading_rules.specs.Token.{Token, word, string, equals, comma, opening, closing}
use Rattle.reading_rules.specs.Schema.{Kind, void, simple, struct, union, reference, is_void, Found, nowhere, found, Schema}
use Rattle.reading_rules.specs.Count.{has, all_in}
use Rattle.reading_rules.specs.Reading.{unknown_value, unknown_list, value, list, body, items, Tree, unknown_word, unknown_string, unknown_braces, unknown_pair, unknown_last, unknown_more, leaf, braced, chosen_void, chosen, chosen_int, last, more, listed, stopped, itemized, no_item, void_item, list_item, unknown_item, unknown_list_item}

pub data Result (A : Type 0) : Type 0 where
  refused : ℕ → List Token → Result A
  got : A → List Token → Result A

-- go on with what was read
unfoldable pub then : {A B : Type 0} → Result A → (A → List Token → Result B) → Result B
then (refused n x) f = refused n x
then (got a r) f = f a r

-- go on if the test holds, else refuse at x
unfoldable pub need : {A : Type 0} → Bool → ℕ → List Token → (List Token → Result A) → List Token → Result A
need true n x f r = f r
need false n x f r = refused n x

-- take one thing if the test holds, else another
unfoldable pub whether : {A : Type 0} → Bool → (List Token → Result A) → (List Token → Result A) → List Token → Result A
whether true f g r = f r
whether false f g r = g r

-- the row "`=` after a known or chosen tag"
unfoldable pub on_equals : {A : Type 0} → List Token → (List Token → Result A) → Result A
on_equals [] f = refused 23 []
on_equals (word w ∷ r) f = refused 23 (word w ∷ r)
on_equals (string w ∷ r) f = refused 23 (string w ∷ r)
on_equals (opening ∷ r) f = refused 23 (opening ∷ r)
on_equals (equals ∷ r) f = f r
on_equals (comma ∷ r) f = refused 23 (comma ∷ r)
on_equals (closing ∷ r) f = refused 23 (closing ∷ r)

-- the row "inside unknown braces": k more are open; the answer is what stands before their closing
unfoldable pub after_token : Token → Result (List Token) → Result (List Token)
after_token t (refused n x) = refused n x
after_token t (got ts r) = got (t ∷ ts) r

unfoldable pub braces_at : List Token → ℕ → Result (List Token)
braces_at [] k = refused 23 []
braces_at (word w ∷ r) k = after_token (word w) (braces_at r k)
braces_at (string w ∷ r) k = after_token (string w) (braces_at r k)
braces_at (opening ∷ r) k = after_token opening (braces_at r (suc k))
braces_at (equals ∷ r) k = after_token equals (braces_at r k)
braces_at (comma ∷ r) k = after_token comma (braces_at r k)
braces_at (closing ∷ r) zero = got [] r
braces_at (closing ∷ r) (suc k) = after_token closing (braces_at r k)

-- the row "unknown value", and after its word
unfoldable pub pair_with : List ℕ → Result (Tree unknown_value) → Result (Tree unknown_value)
pair_with w (refused n x) = refused n x
pair_with w (got v r) = got (unknown_pair w v) r

unfoldable pub unknown_at : List Token → Result (Tree unknown_value)
unknown_at [] = refused 23 []
unknown_at (word w ∷ []) = got (unknown_word w) []
unknown_at (word w ∷ word v ∷ r) = got (unknown_word w) (word v ∷ r)
unknown_at (word w ∷ string v ∷ r) = got (unknown_word w) (string v ∷ r)
unknown_at (word w ∷ opening ∷ r) = got (unknown_word w) (opening ∷ r)
unknown_at (word w ∷ equals ∷ r) = pair_with w (unknown_at r)
unknown_at (word w ∷ comma ∷ r) = got (unknown_word w) (comma ∷ r)
unknown_at (word w ∷ closing ∷ r) = got (unknown_word w) (closing ∷ r)
unknown_at (string w ∷ r) = got (unknown_string w) r
unknown_at (opening ∷ r) = then (braces_at r 0) (λ ts s. got (unknown_braces ts) s)
unknown_at (equals ∷ r) = refused 23 (equals ∷ r)
unknown_at (comma ∷ r) = refused 23 (comma ∷ r)
unknown_at (closing ∷ r) = refused 23 (closing ∷ r)

-- the row "after an unknown value"
unfoldable pub after_unknown : (List Token → Result (Tree unknown_list)) → Tree unknown_value → List Token → Result (Tree unknown_list)
after_unknown next v [] = got (unknown_last v) []
after_unknown next v (word w ∷ r) = got (unknown_last v) (word w ∷ r)
after_unknown next v (string w ∷ r) = got (unknown_last v) (string w ∷ r)
after_unknown next v (opening ∷ r) = got (unknown_last v) (opening ∷ r)
after_unknown next v (equals ∷ r) = got (unknown_last v) (equals ∷ r)
after_unknown next v (comma ∷ r) = then (next r) (λ l s. got (unknown_more v l) s)
after_unknown next v (closing ∷ r) = got (unknown_last v) (closing ∷ r)

unfoldable pub unknowns_at : ℕ → List Token → Result (Tree unknown_list)
unknowns_at zero x = refused 0 x
unknowns_at (suc fuel) x = then (unknown_at x) (after_unknown (unknowns_at fuel))

-- "judge", a simple type: the schema's number, at the token
unfoldable pub judged : {A : Type 0} → ℕ → A → Token → List Token → Result A
judged number t token r = need (eqb number 0) number (token ∷ r) (got t) r

unfoldable pub simple_at : Schema → ℕ → List Token → Result (Tree value)
simple_at S u [] = refused 23 []
simple_at S u (word w ∷ r) = judged (S.judge u (word w)) (leaf (word w)) (word w) r
simple_at S u (string w ∷ r) = judged (S.judge u (string w)) (leaf (string w)) (string w) r
simple_at S u (opening ∷ r) = refused 24 (opening ∷ r)
simple_at S u (equals ∷ r) = refused 23 (equals ∷ r)
simple_at S u (comma ∷ r) = refused 23 (comma ∷ r)
simple_at S u (closing ∷ r) = refused 23 (closing ∷ r)

-- "judge", a struct; after its body stands the `}` at which the body ended
unfoldable pub shut : Tree body → List Token → Result (Tree value)
shut b [] = refused 23 []
shut b (word w ∷ r) = refused 23 (word w ∷ r)
shut b (string w ∷ r) = refused 23 (string w ∷ r)
shut b (opening ∷ r) = refused 23 (opening ∷ r)
shut b (equals ∷ r) = refused 23 (equals ∷ r)
shut b (comma ∷ r) = refused 23 (comma ∷ r)
shut b (closing ∷ r) = got (braced b) r

unfoldable pub struct_at : (ℕ → List Token → Result (Tree body)) → ℕ → List Token → Result (Tree value)
struct_at body_of u [] = refused 23 []
struct_at body_of u (word w ∷ r) = refused 24 (word w ∷ r)
struct_at body_of u (string w ∷ r) = refused 24 (string w ∷ r)
struct_at body_of u (opening ∷ r) = then (body_of u r) shut
struct_at body_of u (equals ∷ r) = refused 23 (equals ∷ r)
struct_at body_of u (comma ∷ r) = refused 23 (comma ∷ r)
struct_at body_of u (closing ∷ r) = refused 23 (closing ∷ r)

-- "judge", a union: the alternative q with the tag w, and its value where it is no void
unfoldable pub alternative : Schema → (ℕ → List Token → Result (Tree value)) → List ℕ → Found → List Token → Result (Tree value)
alternative S value_of w nowhere r = refused 28 (word w ∷ r)
alternative S value_of w (found q) r =
    whether (is_void (S.kind q))
    (got (chosen_void q w))
    (λ r. on_equals r (λ r. then (value_of q r) (λ v s. got (chosen q w v) s)))
    r

-- "Where an untagged int is an alternative, a word of an optional `-` and one or more digits is instead judged as that int"
unfoldable pub bare_for : Found → Bool → Found
bare_for nowhere int_like = nowhere
bare_for (found q) true = found q
bare_for (found q) false = nowhere

unfoldable pub choose : Schema → (ℕ → List Token → Result (Tree value)) → ℕ → List ℕ → Found → List Token → Result (Tree value)
choose S value_of u w (found q) r = judged (S.judge q (word w)) (chosen_int q w) (word w) r
choose S value_of u w nowhere r = alternative S value_of w (S.find u w) r

unfoldable pub union_at : Schema → (ℕ → List Token → Result (Tree value)) → ℕ → List Token → Result (Tree value)
union_at S value_of u [] = refused 23 []
union_at S value_of u (word w ∷ r) = choose S value_of u w (bare_for (S.bare u) (is_int_like w)) r
union_at S value_of u (string w ∷ r) = refused 24 (string w ∷ r)
union_at S value_of u (opening ∷ r) = refused 24 (opening ∷ r)
union_at S value_of u (equals ∷ r) = refused 23 (equals ∷ r)
union_at S value_of u (comma ∷ r) = refused 23 (comma ∷ r)
union_at S value_of u (closing ∷ r) = refused 23 (closing ∷ r)

-- where no value can be, which a table never has
unfoldable pub none_at : List Token → Result (Tree value)
none_at [] = refused 23 []
none_at (word w ∷ r) = refused 24 (word w ∷ r)
none_at (string w ∷ r) = refused 24 (string w ∷ r)
none_at (opening ∷ r) = refused 24 (opening ∷ r)
none_at (equals ∷ r) = refused 23 (equals ∷ r)
none_at (comma ∷ r) = refused 23 (comma ∷ r)
none_at (closing ∷ r) = refused 23 (closing ∷ r)

unfoldable pub by_kind : Schema → (ℕ → List Token → Result (Tree body)) → (ℕ → List Token → Result (Tree value)) → ℕ → Kind → List Token → Result (Tree value)
by_kind S body_of value_of u void x = none_at x
by_kind S body_of value_of u simple x = simple_at S u x
by_kind S body_of value_of u struct x = struct_at body_of u x
by_kind S body_of value_of u union x = union_at S value_of u x
by_kind S body_of value_of u reference x = none_at x

-- one value of the parameter q: a loop down a chain of choices, then a value that is no choice
unfoldable pub value_at : Schema → (ℕ → List Token → Result (Tree body)) → ℕ → ℕ → List Token → Result (Tree value)
value_at S body_of zero q x = refused 0 x
value_at S body_of (suc fuel) q x = by_kind S body_of (value_at S body_of fuel) (S.core q) (S.kind (S.core q)) x

-- c is under the hi count
unfoldable pub may_grow : ℕ → ℕ → Bool
may_grow hi c = eqb hi no_limit || ltb c hi

-- the row "after a value, c values so far"
unfoldable pub list_ends : Schema → ℕ → ℕ → Tree value → List Token → Result (Tree list)
list_ends S q c v x = need (leb (S.lo q) c) 25 x (got (last v)) x

unfoldable pub after_value : Schema → ℕ → ℕ → (List Token → Result (Tree list)) → Tree value → List Token → Result (Tree list)
after_value S q c next v [] = list_ends S q c v []
after_value S q c next v (word w ∷ r) = list_ends S q c v (word w ∷ r)
after_value S q c next v (string w ∷ r) = list_ends S q c v (string w ∷ r)
after_value S q c next v (opening ∷ r) = list_ends S q c v (opening ∷ r)
after_value S q c next v (equals ∷ r) = list_ends S q c v (equals ∷ r)
after_value S q c next v (comma ∷ r) = need (may_grow (S.hi q) c) 25 (comma ∷ r) (λ r. then (next r) (λ l s. got (more v l) s)) r
after_value S q c next v (closing ∷ r) = list_ends S q c v (closing ∷ r)

-- the rest of the list of the field q, of which c values are read
unfoldable pub list_at : Schema → (ℕ → List Token → Result (Tree value)) → ℕ → ℕ → ℕ → List Token → Result (Tree list)
list_at S value_of zero q c x = refused 0 x
list_at S value_of (suc fuel) q c x = then (value_of q x) (after_value S q (suc c) (list_at S value_of fuel q (suc c)))

abbrev pub whole_list : Schema → (ℕ → List Token → Result (Tree value)) → ℕ → List Token → Result (Tree list)
whole_list S value_of q x = list_at S value_of (suc (length x)) q 0 x

-- the tagged fields that must appear
unfoldable pub required_of : Schema → List ℕ → List ℕ
required_of S [] = []
required_of S (q ∷ qs) = elim (S.optional q || eqb (S.lo q) 0) [ true ↦ required_of S qs | false ↦ q ∷ required_of S qs ]

-- the columns `}` and end of the rows "item" and "first value of untagged field": 23 before 27
unfoldable pub end_number : Bool → Bool → List Token → ℕ
end_number inside complete [] = elim inside [ true ↦ 23 | false ↦ elim complete [ true ↦ 0 | false ↦ 27 ] ]
end_number inside complete (t ∷ r) = elim inside [ true ↦ elim complete [ true ↦ 0 | false ↦ 27 ] | false ↦ 23 ]

unfoldable pub body_ends : {A : Type 0} → Bool → Bool → A → List Token → Result A
body_ends inside complete t x = need (eqb (end_number inside complete x) 0) (end_number inside complete x) x (got t) x

-- the rows "item" and "after an unknown word alone": a word w, of which the tag search found this
unfoldable pub unknown_after : (List Token → Result (Tree items)) → List ℕ → List Token → Result (Tree items)
unknown_after next w [] = then (next []) (λ i s. got (unknown_item w i) s)
unknown_after next w (word v ∷ r) = then (next (word v ∷ r)) (λ i s. got (unknown_item w i) s)
unknown_after next w (string v ∷ r) = then (next (string v ∷ r)) (λ i s. got (unknown_item w i) s)
unknown_after next w (opening ∷ r) = then (next (opening ∷ r)) (λ i s. got (unknown_item w i) s)
unknown_after next w (equals ∷ r) = then (unknowns_at (suc (length r)) r) (λ l s. then (next s) (λ i s. got (unknown_list_item w l i) s))
unknown_after next w (comma ∷ r) = then (next (comma ∷ r)) (λ i s. got (unknown_item w i) s)
unknown_after next w (closing ∷ r) = then (next (closing ∷ r)) (λ i s. got (unknown_item w i) s)

unfoldable pub item_at : Schema → (ℕ → List Token → Result (Tree value)) → (List ℕ → List Token → Result (Tree items)) → List ℕ → List ℕ → Found → List Token → Result (Tree items)
item_at S value_of next seen w nowhere r = unknown_after (next seen) w r
item_at S value_of next seen w (found q) r =
    need (not (has seen q)) 26 (word w ∷ r)
    (whether (is_void (S.kind q))
    (λ r. then (next (q ∷ seen) r) (λ i s. got (void_item q w i) s))
    (λ r. on_equals r (λ r. then (whole_list S value_of q r) (λ l s. then (next (q ∷ seen) s) (λ i s. got (list_item q w l i) s)))))
    r

unfoldable pub items_at : Schema → (ℕ → List Token → Result (Tree value)) → Bool → ℕ → ℕ → List ℕ → List Token → Result (Tree items)
items_at S value_of inside p zero seen x = refused 0 x
items_at S value_of inside p (suc fuel) seen [] = body_ends inside (all_in (required_of S (S.tagged p)) seen) no_item []
items_at S value_of inside p (suc fuel) seen (word w ∷ r) = item_at S value_of (items_at S value_of inside p fuel) seen w (S.find p w) r
items_at S value_of inside p (suc fuel) seen (string w ∷ r) = refused 23 (string w ∷ r)
items_at S value_of inside p (suc fuel) seen (opening ∷ r) = refused 23 (opening ∷ r)
items_at S value_of inside p (suc fuel) seen (equals ∷ r) = refused 23 (equals ∷ r)
items_at S value_of inside p (suc fuel) seen (comma ∷ r) = refused 23 (comma ∷ r)
items_at S value_of inside p (suc fuel) seen (closing ∷ r) = body_ends inside (all_in (required_of S (S.tagged p)) seen) no_item (closing ∷ r)

-- the untagged fields that are still to come, then the items
unfoldable pub list_then : Schema → (ℕ → List Token → Result (Tree value)) → (List Token → Result (Tree body)) → ℕ → List Token → Result (Tree body)
list_then S value_of next q x = then (whole_list S value_of q x) (λ l r. then (next r) (λ b s. got (listed q l b) s))

unfoldable pub lists_at : Schema → (ℕ → List Token → Result (Tree value)) → Bool → ℕ → List ℕ → List Token → Result (Tree body)
lists_at S value_of inside p [] x = then (items_at S value_of inside p (suc (length x)) [] x) (λ i r. got (itemized i) r)
lists_at S value_of inside p (q ∷ qs) [] = body_ends inside (eqb (S.lo q) 0) stopped []
lists_at S value_of inside p (q ∷ qs) (word w ∷ r) = list_then S value_of (lists_at S value_of inside p qs) q (word w ∷ r)
lists_at S value_of inside p (q ∷ qs) (string w ∷ r) = list_then S value_of (lists_at S value_of inside p qs) q (string w ∷ r)
lists_at S value_of inside p (q ∷ qs) (opening ∷ r) = list_then S value_of (lists_at S value_of inside p qs) q (opening ∷ r)
lists_at S value_of inside p (q ∷ qs) (equals ∷ r) = list_then S value_of (lists_at S value_of inside p qs) q (equals ∷ r)
lists_at S value_of inside p (q ∷ qs) (comma ∷ r) = list_then S value_of (lists_at S value_of inside p qs) q (comma ∷ r)
lists_at S value_of inside p (q ∷ qs) (closing ∷ r) = body_ends inside (eqb (S.lo q) 0) stopped (closing ∷ r)

abbrev pub whole_value : Schema → (ℕ → List Token → Result (Tree body)) → ℕ → List Token → Result (Tree value)
whole_value S body_of q x = value_at S body_of (suc (length x)) q x

-- the body of p, inside braces or the root's; depth less one is how many braces may open in it
unfoldable pub body_at : Schema → ℕ → Bool → ℕ → List Token → Result (Tree body)
body_at S zero inside p x = refused 0 x
body_at S (suc depth) inside p x = lists_at S (whole_value S (body_at S depth true)) inside p (S.untagged p) x

-- the root's body: it ends only where the tokens do
abbrev pub parse : Schema → ℕ → List Token → Result (Tree body)
parse S depth x = body_at S (suc depth) false 0 x
