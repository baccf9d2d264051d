-- What an answer of a step says about its parts.
use mathlib.Core.Path.{◌≡◌, refl, ap, subst₂}
use mathlib.Core.Bool.{Bool, true, false, ◌||◌}
use mathlib.Core.List.{List, [], ◌∷◌}
use Prim.Native.Nat.{ℕ, suc, ◌≤◌}
use native.Mathlib.Omega.{arith}
use lib.Dec.{eqb}
use borrow.Author.Tests.{eqb-true, eqb-false}
use Rattle.classes.proofs.Bools.{or_off}
use Rattle.reading_rules.specs.Token.{Token, word, string, equals, comma, opening, closing}
use Rattle.reading_rules.specs.Schema.{Schema}
use Rattle.reading_rules.specs.Count.{In}
use Rattle.reading_rules.proofs.CountLaws.{in_head, in_tail, in_cons, in_nil}
use Rattle.reading_rules.specs.Reading.{unknown_value, Tree, unknown_pair}
use Rattle.reading_rules.specs.Parse.{Result, refused, got, then, need, whether, on_equals, after_token, pair_with, judged, required_of, end_number, body_ends}

pub clash : {A X : Type 0} {n : ℕ} {x : List Token} {a : A} {r : List Token} → ◌≡◌ {A = Result A} (refused n x) (got a r) → X
clash e = let z : ◌≡◌ {A = ℕ} 0 1 = cc in absurd (omega arith)

pub got_to : {A : Type 0} (C : A → List Token → Type 0) {a b : A} {r s : List Token} → ◌≡◌ {A = Result A} (got a r) (got b s) → C a r → C b s
got_to {A} C {a} {b} {r} {s} e x =
    let p : a ≡ b = cc in
    let q : r ≡ s = cc in
    subst₂ C p q x

pub then_got : {A B X : Type 0} (m : Result A) (f : A → List Token → Result B) {b : B} {r : List Token} → then m f ≡ got b r → ((a : A) (s : List Token) → m ≡ got a s → f a s ≡ got b r → X) → X
unfolding then
then_got (refused n x) f e k = clash e
then_got (got a s) f e k = k a s refl e

pub need_got : {A X : Type 0} (t : Bool) (n : ℕ) (x : List Token) (f : List Token → Result A) (q : List Token) {b : A} {r : List Token} → need t n x f q ≡ got b r → (t ≡ true → f q ≡ got b r → X) → X
unfolding need
need_got true n x f q e k = k refl e
need_got false n x f q e k = clash e

pub whether_got : {A X : Type 0} (t : Bool) (f g : List Token → Result A) (q : List Token) {b : A} {r : List Token} → whether t f g q ≡ got b r → (t ≡ true → f q ≡ got b r → X) → (t ≡ false → g q ≡ got b r → X) → X
unfolding whether
whether_got true f g q e k l = k refl e
whether_got false f g q e k l = l refl e

pub equals_got : {A X : Type 0} (x : List Token) (f : List Token → Result A) {b : A} {r : List Token} → on_equals x f ≡ got b r → ((q : List Token) → x ≡ equals ∷ q → f q ≡ got b r → X) → X
unfolding on_equals
equals_got [] f e k = clash e
equals_got (word w ∷ x) f e k = clash e
equals_got (string w ∷ x) f e k = clash e
equals_got (opening ∷ x) f e k = clash e
equals_got (equals ∷ x) f e k = k x refl e
equals_got (comma ∷ x) f e k = clash e
equals_got (closing ∷ x) f e k = clash e

pub after_got : {X : Type 0} (t : Token) (m : Result (List Token)) {ts r : List Token} → after_token t m ≡ got ts r → ((us : List Token) → m ≡ got us r → t ∷ us ≡ ts → X) → X
unfolding after_token
after_got t (refused n x) e k = clash e
after_got t (got us s) {ts} {r} e k =
    let p : t ∷ us ≡ ts = cc in
    let q : s ≡ r = cc in
    k us (ap (got us) q) p

pub pair_got : {X : Type 0} (w : List ℕ) (m : Result (Tree unknown_value)) {t : Tree unknown_value} {r : List Token} → pair_with w m ≡ got t r → ((v : Tree unknown_value) → m ≡ got v r → unknown_pair w v ≡ t → X) → X
unfolding pair_with
pair_got w (refused n x) e k = clash e
pair_got w (got v s) {t} {r} e k =
    let p : unknown_pair w v ≡ t = cc in
    let q : s ≡ r = cc in
    k v (ap (got v) q) p

pub judged_got : {A X : Type 0} (n : ℕ) (t : A) (k : Token) (r : List Token) {u : A} {s : List Token} → judged n t k r ≡ got u s → (n ≡ 0 → got t r ≡ got u s → X) → X
unfolding judged
judged_got n t k r e f = need_got (eqb n 0) n (k ∷ r) (got t) r e (λ a e1. f (eqb-true n 0 a) e1)

-- where a body may end: at the end of the tokens, or inside braces at a `}`
unfoldable pub BodyMayEnd : Bool → List Token → Type 0
BodyMayEnd false r = r ≡ []
BodyMayEnd true r = (q : List Token) × (r ≡ closing ∷ q)

nought : {X : Type 0} {n : ℕ} → suc n ≡ 0 → X
nought e = absurd (omega arith)

pub end_nil : (inside complete : Bool) → end_number inside complete [] ≡ 0 → (complete ≡ true) × BodyMayEnd inside []
unfolding end_number BodyMayEnd
end_nil true true e = nought e
end_nil true false e = nought e
end_nil false true e = (refl, refl)
end_nil false false e = nought e

pub end_closing : (inside complete : Bool) (r : List Token) → end_number inside complete (closing ∷ r) ≡ 0 → (complete ≡ true) × BodyMayEnd inside (closing ∷ r)
unfolding end_number BodyMayEnd
end_closing true true r e = (refl, (r, refl))
end_closing true false r e = nought e
end_closing false true r e = nought e
end_closing false false r e = nought e

pub ends_got : {A X : Type 0} (inside complete : Bool) (t : A) (x : List Token) {u : A} {s : List Token} → body_ends inside complete t x ≡ got u s → (end_number inside complete x ≡ 0 → got t x ≡ got u s → X) → X
unfolding body_ends
ends_got inside complete t x e f = need_got (eqb (end_number inside complete x) 0) _ x (got t) x e (λ a e1. f (eqb-true _ 0 a) e1)

-- a field that must appear is a field of the body, not optional, with lo over 0
pub required_is : (S : Schema) (k : ℕ) (l : List ℕ) → In k (required_of S l) → In k l × (S.optional k ≡ false) × (1 ≤ S.lo k)
unfolding required_of
required_is S k [] h = in_nil k h
required_is S k (q ∷ l) h = go (S.optional q || eqb (S.lo q) 0) refl h (required_is S k l)
  where
    go : (b : Bool) → S.optional q || eqb (S.lo q) 0 ≡ b → In k (elim b [ true ↦ required_of S l | false ↦ q ∷ required_of S l ]) → (In k (required_of S l) → In k l × (S.optional k ≡ false) × (1 ≤ S.lo k)) → In k (q ∷ l) × (S.optional k ≡ false) × (1 ≤ S.lo k)
    go true e i f = let g = f i in (in_tail k q l g.0, g.1, g.2)
    go false e i f = in_cons k q (required_of S l) i
        (λ d. or_off (S.optional q) (eqb (S.lo q) 0) e (λ a c. let z = eqb-false (S.lo q) 0 c in rw (← d) (in_head q l, a, omega arith)))
        (λ j. let g = f j in (in_tail k q l g.0, g.1, g.2))
