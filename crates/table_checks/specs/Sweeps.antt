-- Number 10's finite values, found in place: a sweep goes over the records from the last to the first, and joins each to the
-- one it stands in.
use Rattle.std.specs.Prelude.{◌≡◌, Bool, true, false, ◌&&◌, ◌||◌, List, ℕ, zero, suc, ◌-◌, ◌<◌, eqb, length, get_or, set}
use Rattle.classes.specs.Lists.{pick}
use Rattle.reading_rules.specs.Record.{Record, Up, top, under, record_at}
use Rattle.definition_rules.specs.Finite.{can_do_without, ends_needs, struct_step, union_step, finite_step, finites}
use Rattle.table_records.specs.Stored.{record_in, records_from}

-- ---- one record

-- a step of the record r, whose body comes to that
unfoldable pub step_by : List Bool → Bool → Record → Bool
step_by have body r =
    pick (eqb r.kind 8) body
    (pick (eqb r.kind 9) body
    (pick (eqb r.kind 10) (get_or have r.target false) true))

-- the i-th record, r, had no value, and a step gives it one
unfoldable pub is_newly_finite : List Bool → Bool → ℕ → Record → Bool
is_newly_finite have body i r = pick (get_or have i false) false (step_by have body r)

unfoldable pub add_if : Bool → List Bool → ℕ → List Bool
add_if new have i = pick new (set have i true) have

-- ---- bodies

-- what the body of the k-th record, r, comes to over those of rs alone, the first of which is the i-th
unfoldable pub body_over : List Bool → ℕ → Record → ℕ → List Record → Bool
body_over have k r i rs =
    pick (eqb r.kind 8) (struct_step have k i rs)
    (pick (eqb r.kind 9) (union_step have k i rs) true)

-- the same by the i-th, q, which is in it, where those after q give it rest
unfoldable pub step_with : List Bool → ℕ → ℕ → Record → Bool → Bool
step_with have kind i q rest =
    pick (eqb kind 8) (ends_needs q || ((can_do_without q || get_or have i false) && rest))
    (pick (eqb kind 9) (get_or have i false || rest) rest)

-- the i-th record, which stands in that one, is joined to it
unfoldable pub gathered : List ℕ → List ℕ → List Bool → ℕ → Up → List Bool → List Bool
gathered t unpacked have i top rest = rest
gathered t unpacked have i (under p) rest = set rest p (step_with have (record_in t unpacked p).kind i (record_in t unpacked i) (get_or rest p false))

-- rest has what each body comes to over the records from the i-th on
abbrev pub Over : List ℕ → List ℕ → ℕ → List Bool → ℕ → List Bool → Type 0
Over t unpacked n have i rest = (k : ℕ) → k < n → get_or rest k false ≡ body_over have k (record_in t unpacked k) i (records_from t unpacked (n - i) i)

-- ---- sweeps

-- number 10's step gives the i-th record a value that it had not
unfoldable pub is_added : List Record → List Bool → ℕ → Bool
is_added rs have i = pick (get_or have i false) false (finite_step rs have i (record_at rs i))

unfoldable pub added : List Record → List Bool → ℕ → List Bool
added rs have i = add_if (is_added rs have i) have i

-- the records below the i-th, the last first, each by the marks that stand then
unfoldable pub swept : List Record → ℕ → List Bool → List Bool
swept rs zero have = have
swept rs (suc i) have = swept rs i (added rs have i)

unfoldable pub sweep_adds : List Record → ℕ → List Bool → Bool
sweep_adds rs zero have = false
sweep_adds rs (suc i) have = is_added rs have i || sweep_adds rs i (added rs have i)

-- a sweep over all of them, and whether it added any
pub record Swept (rs : List Record) (before after : List Bool) (more : Bool) : Type 0 where
  pub marks : after ≡ swept rs (length rs) before
  pub adds : more ≡ sweep_adds rs (length rs) before

abbrev pub NoneMarked : List Bool → Type 0
NoneMarked have = (i : ℕ) → get_or have i false ≡ false

-- what is kept is number 10's outcome
abbrev pub HasFinites : List Record → List Bool → Type 0
HasFinites rs have = (i : ℕ) → get_or have i false ≡ get_or (finites rs) i false

-- every record has a finite value
abbrev pub AllFinite : List Record → Type 0
AllFinite rs = (i : ℕ) → i < length rs → get_or (finites rs) i false ≡ true
