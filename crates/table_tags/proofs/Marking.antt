-- Marks of the tags that were met: a tag whose key is not marked has not been met.
use mathlib.Core.Path.{◌≡◌, refl, ap, sym, ◌∙◌}
use mathlib.Core.Bool.{Bool, true, false, ◌&&◌, and-false}
use mathlib.Core.List.{List, [], ◌∷◌}
use Prim.Native.Nat.{ℕ, zero, suc, ◌+◌, ◌*◌, ◌%◌, ◌≤◌, ◌<◌}
use native.Mathlib.Nat.{mod-lt}
use native.Mathlib.Numerals.{add-one}
use native.Mathlib.Omega.{arith}
use lib.Dec.{eqb}
use lib.ListN.{length, get_or, drop, set, length-set, drop_of_length-le}
use lib.Seq.{drop-cons, get_or-set_same, get_or-set_other}
use borrow.Author.Tests.{eqb-true, eqb-false}
use Rattle.classes.specs.Lists.{same_bytes}
use Rattle.classes.proofs.Rows.{same_true}
use Rattle.reading_rules.specs.Record.{Record, Up, top, under, same_up}
use Rattle.reading_rules.proofs.CountLaws.{clash_bool, and_both}
use Rattle.definition_rules.specs.Faults.{any_before, beside, has_wire_tag, tag_repeated}
use Rattle.definition_rules.specs.Table.{up_number}
use Rattle.table_records.specs.Stored.{record_in, records_from, records_at}
use Rattle.table_tags.specs.Keys.{tag_marks, key_spread, key_from, key_in, MarkedBefore}

-- ---- keys

-- one byte more
pub key_more : (k i : ℕ) (w : List ℕ) → i < length w → key_from k (drop i w) ≡ key_from ((key_spread * k + get_or w i 0) % tag_marks) (drop (i + 1) w)
unfolding key_from
key_more k i w h = rw (add-one, drop-cons w i 0 h)

pub key_end : (k i : ℕ) (w : List ℕ) → length w ≤ i → key_from k (drop i w) ≡ k
unfolding key_from
key_end k i w h = rw (drop_of_length-le w h)

key_small : (k : ℕ) (w : List ℕ) → k < tag_marks → key_from k w < tag_marks
unfolding key_from
key_small k [] h = h
key_small k (b ∷ w) h = key_small ((key_spread * k + b) % tag_marks) w (mod-lt (key_spread * k + b) (omega arith))

-- ---- marks

pub marked_none : (t cs : List ℕ) (marks : List Bool) → length marks ≡ tag_marks → MarkedBefore t cs 0 marks
marked_none t cs marks e = record { size = e; marked = λ j h. absurd (omega arith) }

-- the i-th record's key is marked too
pub marked_more : (t cs : List ℕ) (i : ℕ) (marks : List Bool) (k : ℕ) → MarkedBefore t cs i marks → k ≡ key_in (record_in t cs i) → MarkedBefore t cs (i + 1) (set marks k true)
marked_more t cs i marks k m e = record { size = length-set marks k true ∙ m.size; marked = marked }
  where
    there : k < length marks
    there = rw m.size (rw e (key_small (up_number (record_in t cs i).parent % tag_marks) (record_in t cs i).label (mod-lt _ (omega arith))))

    marked : (j : ℕ) → j < i + 1 → get_or (set marks k true) (key_in (record_in t cs j)) false ≡ true
    marked j h = by (eqb (key_in (record_in t cs j)) k) refl
      where
        by : (b : Bool) → eqb (key_in (record_in t cs j)) k ≡ b → get_or (set marks k true) (key_in (record_in t cs j)) false ≡ true
        by true x = rw (eqb-true (key_in (record_in t cs j)) k x) (get_or-set_same marks k true false there)
        by false x =
            let d = eqb-false (key_in (record_in t cs j)) k x in
            get_or-set_other marks k (key_in (record_in t cs j)) true false d ∙ m.marked j (below (λ z. d (ap (λ q. key_in (record_in t cs q)) z ∙ sym e)))
          where
            below : (j ≡ i → ⊥) → j < i
            below z = omega arith

-- none of the first m is so
any_none : (t cs : List ℕ) (f : Record → Bool) (m n k : ℕ) → ((j : ℕ) → k ≤ j → j < k + m → f (record_in t cs j) ≡ false) → any_before m f (records_from t cs n k) ≡ false
unfolding any_before records_from
any_none t cs f zero n k g = refl
any_none t cs f (suc m) zero k g = refl
any_none t cs f (suc m) (suc n) k g = rw (g k (omega arith) (omega arith)) (any_none t cs f m n (suc k) (λ j a b. g j (omega arith) (omega arith)))

same_up_lem : (u v : Up) → same_up u v ≡ true → u ≡ v
unfolding same_up
same_up_lem top top e = refl
same_up_lem top (under q) e = clash_bool e
same_up_lem (under p) top e = clash_bool e
same_up_lem (under p) (under q) e = ap under (eqb-true p q e)

-- a record beside another with its label has its key
same_key_lem : (r q : Record) → beside r q && same_bytes q.label r.label ≡ true → key_in q ≡ key_in r
same_key_lem r q e = and_both (beside r q) (same_bytes q.label r.label) e (λ a b. rw (same_up_lem q.parent r.parent a, same_true q.label r.label b))

-- a key without a mark
pub never_met : (t cs : List ℕ) (n i : ℕ) (marks : List Bool) (k : ℕ) → MarkedBefore t cs i marks → k ≡ key_in (record_in t cs i) → get_or marks k false ≡ false → false ≡ tag_repeated (records_at t cs n) i (record_in t cs i)
unfolding tag_repeated
never_met t cs n i marks k m e z = sym (rw (any_none t cs f i n 0 (λ j a b. none j (omega arith))) (and-false (has_wire_tag r)))
  where
    r : Record
    r = record_in t cs i

    f : Record → Bool
    f q = has_wire_tag q && (beside r q && same_bytes q.label r.label)

    none : (j : ℕ) → j < i → f (record_in t cs j) ≡ false
    none j h = by (f (record_in t cs j)) refl
      where
        by : (b : Bool) → f (record_in t cs j) ≡ b → b ≡ false
        by false x = refl
        by true x = and_both (has_wire_tag (record_in t cs j)) (beside r (record_in t cs j) && same_bytes (record_in t cs j).label r.label) x (λ a b. clash_bool (sym z ∙ (ap (λ x. get_or marks x false) (e ∙ sym (same_key_lem r (record_in t cs j) b)) ∙ m.marked j h)))
