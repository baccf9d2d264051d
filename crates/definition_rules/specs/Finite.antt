-- Number 10: "the least outcome of these steps".
use Rattle.std.specs.Prelude.{◌≡◌, Bool, true, false, not, ◌&&◌, ◌||◌, List, [], ◌∷◌, ℕ, zero, suc, eqb, length, get_or, replicate}
use Rattle.classes.specs.Lists.{pick}
use Rattle.definition_rules.specs.Words.{kind_is_compound}
use Rattle.reading_rules.specs.Record.{Record}
use Rattle.reading_rules.specs.Schema.{is_under}

-- "It can do without a field whose lo is 0, a field directly in an extension or a plugin field"
unfoldable pub can_do_without : Record → Bool
can_do_without r = eqb r.lo_count 0 || r.extension || r.plugin

-- ".. and any field after an untagged one whose lo is 0"
unfoldable pub ends_needs : Record → Bool
ends_needs r = r.untagged && eqb r.lo_count 0

-- have: which parameters have a finite value so far; p: a struct's number; i: the number of the first of rs
unfoldable pub struct_step : List Bool → ℕ → ℕ → List Record → Bool
struct_step have p i [] = true
struct_step have p i (r ∷ rs) =
    pick (is_under p r.parent)
    (pick (ends_needs r) true ((can_do_without r || get_or have i false) && struct_step have p (suc i) rs))
    (struct_step have p (suc i) rs)

-- "A union has one if some alternative has."
unfoldable pub union_step : List Bool → ℕ → ℕ → List Record → Bool
union_step have p i [] = false
union_step have p i (r ∷ rs) = (is_under p r.parent && get_or have i false) || union_step have p (suc i) rs

-- "Simple types have one. A reference has one if its target has."
unfoldable pub finite_step : List Record → List Bool → ℕ → Record → Bool
finite_step rs have i r =
    pick (eqb r.kind 8) (struct_step have i 0 rs)
    (pick (eqb r.kind 9) (union_step have i 0 rs)
    (pick (eqb r.kind 10) (get_or have r.target false) true))

unfoldable pub round : List Record → List Bool → ℕ → List Record → List Bool
round all have i [] = []
round all have i (r ∷ rs) = finite_step all have i r ∷ round all have (suc i) rs

unfoldable pub rounds : ℕ → List Record → List Bool → List Bool
rounds zero rs have = have
rounds (suc n) rs have = rounds n rs (round rs have 0 rs)

-- as many rounds as there are parameters: then nothing can be added
unfoldable pub finites : List Record → List Bool
finites rs = rounds (length rs) rs (replicate (length rs) false)

-- ---- what the rounds come to (T6): the least set that is closed under the steps

-- sets of parameters, as lists of one length: one lies in the other
unfoldable pub Sub : List Bool → List Bool → Type 0
Sub [] [] = Unit {0}
Sub [] (b ∷ t) = ⊥
Sub (a ∷ s) [] = ⊥
Sub (a ∷ s) (b ∷ t) = (a ≡ true → b ≡ true) × Sub s t

-- no step adds anything
abbrev pub Closed : List Record → List Bool → Type 0
Closed rs s = Sub (round rs s 0 rs) s

-- "a struct or union with no finite value"
unfoldable pub is_endless : List Bool → ℕ → Record → Bool
is_endless have i r = kind_is_compound r.kind && not (get_or have i false)
