-- Braces at most so many deep: of a tree's leaves, and of the tree.
use mathlib.Core.Path.{◌≡◌}
use mathlib.Core.Bool.{true, not}
use mathlib.Core.List.{List, [], ◌∷◌, ◌++◌}
use Prim.Native.Nat.{ℕ, zero, suc, ◌+◌, ◌-◌, ◌≤◌, ◌<◌}
use native.Mathlib.Omega.{arith}
use lib.Dec.{leb}
use borrow.Author.Tests.{leb-false, not-true, eqb-true}
use Rattle.reading_rules.specs.Token.{Token, word, string, equals, comma, opening, closing, is_text}
use Rattle.reading_rules.specs.Schema.{Schema, WellFormed}
use Rattle.reading_rules.proofs.CountLaws.{clash_bool, and_both}
use Rattle.reading_rules.specs.Reading.{TreeSort, Tree, unknown_word, unknown_string, unknown_braces, unknown_pair, unknown_last, unknown_more, leaf, braced, chosen_void, chosen, chosen_int, last, more, listed, stopped, itemized, no_item, void_item, list_item, unknown_item, unknown_list_item, leaves_then, balanced_from, For, Law}
use Rattle.message_rules.specs.Scan.{open_after, is_opening, shallow}
use Rattle.reading_rules.proofs.Complete.{deep}

abbrev pub IsShallow : ℕ → ℕ → List Token → Type 0
IsShallow limit n x = shallow limit n x ≡ true

pub shallow_word : (limit n : ℕ) (w : List ℕ) (x : List Token) → IsShallow limit n (word w ∷ x) → IsShallow limit n x
unfolding shallow is_opening open_after
shallow_word limit n w x h = h

pub shallow_string : (limit n : ℕ) (w : List ℕ) (x : List Token) → IsShallow limit n (string w ∷ x) → IsShallow limit n x
unfolding shallow is_opening open_after
shallow_string limit n w x h = h

pub shallow_equals : (limit n : ℕ) (x : List Token) → IsShallow limit n (equals ∷ x) → IsShallow limit n x
unfolding shallow is_opening open_after
shallow_equals limit n x h = h

pub shallow_comma : (limit n : ℕ) (x : List Token) → IsShallow limit n (comma ∷ x) → IsShallow limit n x
unfolding shallow is_opening open_after
shallow_comma limit n x h = h

pub shallow_opening : (limit n : ℕ) (x : List Token) → IsShallow limit n (opening ∷ x) → (n < limit) × IsShallow limit (suc n) x
unfolding shallow is_opening open_after
shallow_opening limit n x h = and_both (not (leb limit n)) (shallow limit (suc n) x) h (λ a b. (leb-false limit n (not-true (leb limit n) a), b))

pub shallow_closing : (limit n : ℕ) (x : List Token) → IsShallow limit (suc n) (closing ∷ x) → IsShallow limit n x
unfolding shallow is_opening open_after
shallow_closing limit n x h = let e : suc n - 1 ≡ n = omega arith in rw e at h

-- after balanced tokens and the brace that closes them as many are open as before it
pub braces_shallow : (limit n : ℕ) (ts : List Token) (k : ℕ) (r : List Token) → balanced_from ts k ≡ true → IsShallow limit (suc (k + n)) (ts ++ closing ∷ r) → IsShallow limit n r
unfolding balanced_from
braces_shallow limit n [] k r e h =
    let z = eqb-true k 0 e in
    let y : k + n ≡ n = omega arith in
    shallow_closing limit n r (rw y at h)
braces_shallow limit n (word w ∷ ts) k r e h = braces_shallow limit n ts k r e (shallow_word limit (suc (k + n)) w (ts ++ closing ∷ r) h)
braces_shallow limit n (string w ∷ ts) k r e h = braces_shallow limit n ts k r e (shallow_string limit (suc (k + n)) w (ts ++ closing ∷ r) h)
braces_shallow limit n (equals ∷ ts) k r e h = braces_shallow limit n ts k r e (shallow_equals limit (suc (k + n)) (ts ++ closing ∷ r) h)
braces_shallow limit n (comma ∷ ts) k r e h = braces_shallow limit n ts k r e (shallow_comma limit (suc (k + n)) (ts ++ closing ∷ r) h)
braces_shallow limit n (opening ∷ ts) k r e h =
    let y : suc (k + n) ≡ suc k + n = omega arith in
    braces_shallow limit n ts (suc k) r e (rw y at (shallow_opening limit (suc (k + n)) (ts ++ closing ∷ r) h).1)
braces_shallow limit n (closing ∷ ts) zero r e h = clash_bool e
braces_shallow limit n (closing ∷ ts) (suc k) r e h =
    let y : suc k + n ≡ suc (k + n) = omega arith in
    braces_shallow limit n ts k r e (shallow_closing limit (suc (k + n)) (ts ++ closing ∷ r) (rw y at h))

text_shallow : (limit n : ℕ) (t : Token) (r : List Token) → is_text t ≡ true → IsShallow limit n (t ∷ r) → IsShallow limit n r
unfolding is_text
text_shallow limit n (word w) r e h = shallow_word limit n w r h
text_shallow limit n (string w) r e h = shallow_string limit n w r h
text_shallow limit n equals r e h = clash_bool e
text_shallow limit n comma r e h = clash_bool e
text_shallow limit n opening r e h = clash_bool e
text_shallow limit n closing r e h = clash_bool e

-- a lawful tree is no deeper than its leaves' braces, and after it as many are open as before
pub tree_shallow : {s : TreeSort} (S : Schema) → WellFormed S → (limit n : ℕ) (c : For s) (t : Tree s) (r : List Token) → Law S c t → IsShallow limit n (leaves_then t r) → (deep t ≤ limit - n) × IsShallow limit n r
unfolding leaves_then Law deep
tree_shallow S W m n c (unknown_word w) r l h = (omega arith, shallow_word m n w r h)
tree_shallow S W m n c (unknown_string w) r l h = (omega arith, shallow_string m n w r h)
tree_shallow S W m n c (unknown_braces ts) r l h =
    let y : suc n ≡ suc (0 + n) = omega arith in
    (omega arith, braces_shallow m n ts 0 r l (rw y at (shallow_opening m n (ts ++ closing ∷ r) h).1))
tree_shallow S W m n c (unknown_pair w v) r l h =
    let a = shallow_equals m n (leaves_then v r) (shallow_word m n w (equals ∷ leaves_then v r) h) in
    (omega arith, (tree_shallow S W m n c v r l a).1)
tree_shallow S W m n c (unknown_last v) r l h = (omega arith, (tree_shallow S W m n c v r l h).1)
tree_shallow S W m n c (unknown_more v u) r l h =
    let a = tree_shallow S W m n c v (comma ∷ leaves_then u r) l.0 h in
    (omega arith, (tree_shallow S W m n c u r l.1 (shallow_comma m n (leaves_then u r) a.1)).1)
tree_shallow S W m n c (leaf t) r l h = (omega arith, text_shallow m n t r (W.spoken (S.core c) t l.1) h)
tree_shallow S W m n c (braced b) r l h =
    let a = shallow_opening m n (leaves_then b (closing ∷ r)) h in
    let k = tree_shallow S W m (suc n) (S.core c, S.untagged (S.core c)) b (closing ∷ r) l.1 a.1 in
    (omega arith, shallow_closing m n r k.1)
tree_shallow S W m n c (chosen_void q w) r l h = (omega arith, shallow_word m n w r h)
tree_shallow S W m n c (chosen q w v) r l h =
    tree_shallow S W m n q v r l.3 (shallow_equals m n (leaves_then v r) (shallow_word m n w (equals ∷ leaves_then v r) h))
tree_shallow S W m n c (chosen_int q w) r l h = (omega arith, shallow_word m n w r h)
tree_shallow S W m n c (last v) r l h = tree_shallow S W m n c v r l h
tree_shallow S W m n c (more v u) r l h =
    let a = tree_shallow S W m n c v (comma ∷ leaves_then u r) l.0 h in
    let k = tree_shallow S W m n c u r l.1 (shallow_comma m n (leaves_then u r) a.1) in
    (omega arith, k.1)
tree_shallow S W m n c (listed q u b) r l h =
    let a = tree_shallow S W m n q u (leaves_then b r) l.2 h in
    let k = tree_shallow S W m n (c.0, l.0) b r l.4 a.1 in
    (omega arith, k.1)
tree_shallow S W m n c stopped r l h = (omega arith, h)
tree_shallow S W m n c (itemized i) r l h = tree_shallow S W m n c.0 i r l.1 h
tree_shallow S W m n c no_item r l h = (omega arith, h)
tree_shallow S W m n c (void_item q w i) r l h = tree_shallow S W m n c i r l.2 (shallow_word m n w (leaves_then i r) h)
tree_shallow S W m n c (list_item q w u i) r l h =
    let a = tree_shallow S W m n q u (leaves_then i r) l.2 (shallow_equals m n (leaves_then u (leaves_then i r)) (shallow_word m n w (equals ∷ leaves_then u (leaves_then i r)) h)) in
    let k = tree_shallow S W m n c i r l.4 a.1 in
    (omega arith, k.1)
tree_shallow S W m n c (unknown_item w i) r l h = tree_shallow S W m n c i r l.1 (shallow_word m n w (leaves_then i r) h)
tree_shallow S W m n c (unknown_list_item w u i) r l h =
    let a = tree_shallow S W m n tt u (leaves_then i r) l.1 (shallow_equals m n (leaves_then u (leaves_then i r)) (shallow_word m n w (equals ∷ leaves_then u (leaves_then i r)) h)) in
    tree_shallow S W m n c i r l.2 a.1
