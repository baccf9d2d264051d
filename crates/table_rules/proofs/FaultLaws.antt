-- When a list of faults is empty.
use mathlib.Core.Path.{◌≡◌, refl, ap, sym, ◌∙◌}
use mathlib.Core.Bool.{Bool, true, false, not}
use mathlib.Core.List.{List, [], ◌∷◌}
use Prim.Native.Nat.{ℕ, suc}
use native.Mathlib.Omega.{arith}
use lib.ListN.{length}
use borrow.Author.Tests.{eq-eqb, eqb-true, not-true, not-false}
use Rattle.classes.specs.Lists.{same_bytes, All}
use Rattle.classes.proofs.Rows.{same_true, bytes_self}
use Rattle.classes.proofs.Bools.{clash_bool, both_true}
use Rattle.definition_rules.specs.Scan.{place_if, Item}
use Rattle.reading_rules.specs.Record.{Up, top, under, Record, same_up}
use Rattle.definition_rules.specs.Declarations.{declarations_of, Declaration, Noted, noted, Spots}
use Rattle.definition_rules.specs.Faults.{spots_where, record_spots, same_key, is_new_key, name_key, repeated_names, Key, key}
use Rattle.definition_rules.specs.Compile.{token_places}
use Rattle.table_rules.specs.RecordRules.{none_broken, all_new}
use Rattle.table_rules.proofs.ShownNames.{Off, Uniq, declared_names}
use Rattle.definition_rules.proofs.ScanLaws.{place_none}

pub up_true : (u v : Up) → same_up u v ≡ true → u ≡ v
unfolding same_up
up_true top top e = refl
up_true top (under q) e = clash_bool e
up_true (under p) top e = clash_bool e
up_true (under p) (under q) e = ap under (eqb-true p q e)

pub up_self : (u : Up) → same_up u u ≡ true
unfolding same_up
up_self top = refl
up_self (under p) = eq-eqb p p refl

key_true : (j k : Key) → same_key j k ≡ true → j ≡ k
unfolding same_key
key_true (key u l) (key v m) e = let x = both_true (same_up u v) (same_bytes l m) e in let y = up_true u v x.0 in let z = same_true l m x.1 in cc

key_self : (k : Key) → same_key k k ≡ true
unfolding same_key
key_self (key u l) = rw (up_self u) (bytes_self l)

not_eq : (j k : Key) → not (same_key j k) ≡ true → j ≡ k → ⊥
not_eq j k e q = by (same_key j k) refl e
  where
    by : (b : Bool) → same_key j k ≡ b → not b ≡ true → ⊥
    by true x y = clash_bool y
    by false x y = clash_bool (sym x ∙ rw q (key_self k))

eq_not : (j k : Key) → (j ≡ k → ⊥) → not (same_key j k) ≡ true
eq_not j k h = by (same_key j k) refl
  where
    by : (b : Bool) → same_key j k ≡ b → not b ≡ true
    by true x = absurd (h (key_true j k x))
    by false x = refl

pub new_off : (k : Key) (z : List Key) → is_new_key k z ≡ true → Off k z
unfolding is_new_key Off
new_off k [] e = tt
new_off k (j ∷ z) e = let x = both_true (not (same_key k j)) (is_new_key k z) e in (not_eq k j x.0, new_off k z x.1)

pub off_new : (k : Key) (z : List Key) → Off k z → is_new_key k z ≡ true
unfolding is_new_key Off
off_new k [] h = refl
off_new k (j ∷ z) h = rw (eq_not k j h.0) (off_new k z h.1)

pub new_uniq : (ks : List Key) → all_new ks ≡ true → Uniq ks
unfolding all_new Uniq
new_uniq [] e = tt
new_uniq (k ∷ ks) e = let x = both_true (is_new_key k ks) (all_new ks) e in (new_off k ks x.0, new_uniq ks x.1)

pub uniq_new : (ks : List Key) → Uniq ks → all_new ks ≡ true
unfolding all_new Uniq
uniq_new [] h = refl
uniq_new (k ∷ ks) h = rw (off_new k ks h.0) (uniq_new ks h.1)

-- ---- number 8, the names

unfoldable pub Offs : List Key → List Key → Type 0
Offs [] z = Unit {0}
Offs (k ∷ l) z = Off k z × Offs l z

pub unpacked_nil : (l : List Key) → Offs l []
unfolding Offs Off
unpacked_nil [] = tt
unpacked_nil (k ∷ l) = (tt, unpacked_nil l)

unpacked_cons : (l z : List Key) (k : Key) → Offs l z → Off k l → Offs l (k ∷ z)
unfolding Offs Off
unpacked_cons [] z k h o = tt
unpacked_cons (j ∷ l) z k h o = (((λ e. o.0 (sym e)), h.0), unpacked_cons l z k h.1 o.1)

unpacked_head : (l z : List Key) (k : Key) → Offs l (k ∷ z) → Off k l × Offs l z
unfolding Offs Off
unpacked_head [] z k h = (tt, tt)
unpacked_head (j ∷ l) z k h = let x = unpacked_head l z k h.1 in (((λ e. h.0.0 (sym e)), x.0), (h.0.1, x.1))

pub twice_uniq : (ns : List Noted) (z : List Key) → repeated_names z ns ≡ [] → Offs (declared_names (declarations_of ns)) z × Uniq (declared_names (declarations_of ns))
unfolding repeated_names declarations_of declared_names Offs Uniq
twice_uniq [] z e = (tt, tt)
twice_uniq (noted s d ∷ r) z e =
    let x = place_none (not (is_new_key (name_key d) z)) s.name_at (repeated_names (name_key d ∷ z) r) e in
    let y = twice_uniq r (name_key d ∷ z) x.1 in
    let w = unpacked_head (declared_names (declarations_of r)) z (name_key d) y.0 in
    ((new_off (name_key d) z (not-false (is_new_key (name_key d) z) x.0), w.1), (w.0, y.1))

pub uniq_twice : (ns : List Noted) (z : List Key) → Offs (declared_names (declarations_of ns)) z → Uniq (declared_names (declarations_of ns)) → repeated_names z ns ≡ []
unfolding repeated_names declarations_of declared_names Offs Uniq place_if
uniq_twice [] z h o = refl
uniq_twice (noted s d ∷ r) z h o = rw (off_new (name_key d) z h.0) (uniq_twice r (name_key d ∷ z) (unpacked_cons (declared_names (declarations_of r)) z (name_key d) h.1 o.0) o.1)

-- ---- a test over declarations, and over records

abbrev pub Unbroken : (Declaration → Bool) → Declaration → Type 0
Unbroken f d = f d ≡ false

pub spots_all : (f : Declaration → Bool) (at : Spots → ℕ) (ns : List Noted) → spots_where f at ns ≡ [] → All (Unbroken f) (declarations_of ns)
unfolding spots_where declarations_of All
spots_all f at [] e = tt
spots_all f at (noted s d ∷ r) e = let x = place_none (f d) (at s) (spots_where f at r) e in (x.0, spots_all f at r x.1)

pub all_spots : (f : Declaration → Bool) (at : Spots → ℕ) (ns : List Noted) → All (Unbroken f) (declarations_of ns) → spots_where f at ns ≡ []
unfolding spots_where declarations_of All place_if
all_spots f at [] h = refl
all_spots f at (noted s d ∷ r) h = rw h.0 (all_spots f at r h.1)

pub none_spots : (f : ℕ → Record → Bool) (at : Spots → ℕ) (i : ℕ) (rs : List Record) (ns : List Noted) → none_broken f i rs ≡ true → record_spots f at i rs ns ≡ []
unfolding none_broken record_spots place_if
none_spots f at i [] ns e = refl
none_spots f at i (r ∷ rs) [] e = refl
none_spots f at i (r ∷ rs) (noted s d ∷ ns) e = let x = both_true (not (f i r)) (none_broken f (suc i) rs) e in rw (not-true (f i r) x.0) (none_spots f at (suc i) rs ns x.1)

pub spots_none : (f : ℕ → Record → Bool) (at : Spots → ℕ) (i : ℕ) (rs : List Record) (ns : List Noted) → length rs ≡ length ns → record_spots f at i rs ns ≡ [] → none_broken f i rs ≡ true
unfolding none_broken record_spots
spots_none f at i [] ns l e = refl
spots_none f at i (r ∷ rs) [] l e = absurd (omega arith)
spots_none f at i (r ∷ rs) (noted s d ∷ ns) l e = let x = place_none (f i r) (at s) (record_spots f at (suc i) rs ns) e in rw x.0 (spots_none f at (suc i) rs ns (omega arith) x.1)

pub places_nil : (text : List ℕ) (items : List Item) (l : List ℕ) → token_places text items l ≡ [] → l ≡ []
unfolding token_places
places_nil text items [] e = refl
places_nil text items (i ∷ r) e = let z : ◌≡◌ {A = ℕ} 0 1 = cc in absurd (omega arith)

pub nil_places : (text : List ℕ) (items : List Item) (l : List ℕ) → l ≡ [] → token_places text items l ≡ []
unfolding token_places
nil_places text items l e = rw e
