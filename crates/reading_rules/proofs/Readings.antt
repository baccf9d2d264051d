-- The central theorems on tokens: what is read is lawful, what is lawful is read, and there is one reading. No limit of length or depth.
use mathlib.Core.Path.{◌≡◌, refl, ap, sym, ◌∙◌}
use mathlib.Core.Bool.{false}
use mathlib.Core.List.{List, []}
use Prim.Native.Nat.{ℕ, suc, ◌≤◌, max}
use native.Mathlib.Omega.{arith}
use Rattle.reading_rules.specs.Token.{Token}
use Rattle.reading_rules.specs.Schema.{Schema, WellFormed}
use Rattle.reading_rules.specs.Reading.{body, Tree, leaves_then, leaves, Lawful}
use Rattle.reading_rules.specs.Parse.{got, parse}
use Rattle.reading_rules.proofs.Inverse.{BodyMayEnd}
use Rattle.reading_rules.proofs.Sound.{body_sound}
use Rattle.reading_rules.proofs.Complete.{deep, body_complete}

-- what is read is lawful, and all the tokens are its leaves
pub parse_sound : (S : Schema) → WellFormed S → (depth : ℕ) (x : List Token) (t : Tree body) (r : List Token) → parse S depth x ≡ got t r → Lawful S t × (leaves t ≡ x) × (r ≡ [])
unfolding BodyMayEnd
parse_sound S W depth x t r e =
    let g = body_sound S W (suc depth) false 0 x t r e in
    (g.0, ap (leaves_then t) (sym g.2) ∙ g.1, g.2)

-- a lawful reading is read, at every depth that it has
pub parse_complete : (S : Schema) → WellFormed S → (depth : ℕ) (t : Tree body) → Lawful S t → deep t ≤ depth → parse S depth (leaves t) ≡ got t []
unfolding BodyMayEnd
parse_complete S W depth t l m = body_complete S W (suc depth) false 0 t [] l refl (omega arith)

-- two lawful readings of the same tokens are one
pub unique : (S : Schema) → WellFormed S → (a b : Tree body) → Lawful S a → Lawful S b → leaves a ≡ leaves b → a ≡ b
unique S W a b la lb e =
    let depth = max (deep a) (deep b) in
    let p = parse_complete S W depth a la (omega arith) in
    let q = parse_complete S W depth b lb (omega arith) in
    let r = ap (parse S depth) e in
    cc
