-- What a reader needs of the answers: walking the untagged fields, and where a found parameter lies.
use mathlib.Core.Path.{◌≡◌, refl, ap, sym, ◌∙◌, subst}
use mathlib.Core.Bool.{Bool, true, false}
use mathlib.Core.List.{List, [], ◌∷◌}
use Prim.Native.Nat.{ℕ, suc, ◌+◌, ◌-◌, ◌≤◌, ◌<◌}
use native.Mathlib.Omega.{arith}
use native.Mathlib.Numerals.{add-one}
use lib.ListN.{length, drop, length-drop}
use lib.Seq.{drop-drop}
use Rattle.reading_rules.specs.Record.{Record}
use Rattle.reading_rules.specs.Schema.{nowhere, found, schema_of, first, numbers_where, is_untagged_of}
use Rattle.table_records.specs.Stored.{records_at}
use Rattle.table_records.proofs.Laws.{length_records}
use Rattle.table_tags.proofs.Searching.{searched_below}
use Rattle.message_lookup.specs.Questions.{schema_at, untagged_from}
use Rattle.message_lookup.proofs.Steps.{where_true, where_false}

-- ---- numbers of records for which a test holds

-- the first is q: where it stands, and what comes behind it
pub record NextNumber (f : Record → Bool) (i : ℕ) (rs : List Record) (q : ℕ) : Type 0 where
  pub from : i ≤ q
  pub below : q < i + length rs
  pub rest : numbers_where f i rs ≡ q ∷ numbers_where f (q + 1) (drop (q + 1 - i) rs)

found_same : (p q : ℕ) → found p ≡ found q → p ≡ q
found_same p q e = cc

not_found : {X : Type 0} (q : ℕ) → nowhere ≡ found q → X
not_found q e = let z : ◌≡◌ {A = ℕ} 0 1 = cc in absurd (omega arith)

next_here : (f : Record → Bool) (i : ℕ) (r : Record) (rs : List Record) → f r ≡ true → NextNumber f i (r ∷ rs) i
next_here f i r rs e = record {
  from = omega arith;
  below = omega arith;
  rest = where_true f i r rs e ∙ ap (λ (l : List Record). i ∷ numbers_where f (suc i) l) (sym (ap (λ (m : ℕ). drop m (r ∷ rs)) g)) ∙ ap (λ (m : ℕ). i ∷ numbers_where f m (drop (i + 1 - i) (r ∷ rs))) (sym (add-one i));
}
  where
    g : i + 1 - i ≡ 1
    g = omega arith

next_later : (f : Record → Bool) (i : ℕ) (r : Record) (rs : List Record) (q : ℕ) → f r ≡ false → NextNumber f (suc i) rs q → NextNumber f i (r ∷ rs) q
next_later f i r rs q e n = record {
  from = omega (arith, n.from);
  below = omega (arith, n.below);
  rest = where_false f i r rs e ∙ n.rest ∙ ap (λ (l : List Record). q ∷ numbers_where f (q + 1) l) (sym (ap (λ (m : ℕ). drop m (r ∷ rs)) g));
}
  where
    g : q + 1 - i ≡ suc (q + 1 - suc i)
    g = omega (arith, n.from)

pub next_in : (f : Record → Bool) (i : ℕ) (rs : List Record) (q : ℕ) → first (numbers_where f i rs) ≡ found q → NextNumber f i rs q
unfolding first numbers_where
next_in f i [] q e = not_found q e
next_in f i (r ∷ rs) q e = go (λ h. next_in f (suc i) rs q h) (f r) refl
  where
    go : (first (numbers_where f (suc i) rs) ≡ found q → NextNumber f (suc i) rs q) → (b : Bool) → f r ≡ b → NextNumber f i (r ∷ rs) q
    go later true h = subst (λ (k : ℕ). NextNumber f i (r ∷ rs) k) (found_same i q (sym (ap first (where_true f i r rs h)) ∙ e)) (next_here f i r rs h)
    go later false h = next_later f i r rs q h (later (sym (ap first (where_false f i r rs h)) ∙ e))

pub none_in : (f : Record → Bool) (i : ℕ) (rs : List Record) → first (numbers_where f i rs) ≡ nowhere → numbers_where f i rs ≡ []
unfolding first
none_in f i rs = go (numbers_where f i rs)
  where
    go : (l : List ℕ) → first l ≡ nowhere → l ≡ []
    go [] e = refl
    go (q ∷ l) e = not_found q (sym e)

-- ---- the untagged fields, one after the other

pub untagged_all : (t unpacked : List ℕ) (n p : ℕ) → (schema_at t unpacked n).untagged p ≡ untagged_from t unpacked n p 0
unfolding schema_of
untagged_all t unpacked n p = refl

module _ (t unpacked : List ℕ) (n p i q : ℕ) (e : first (untagged_from t unpacked n p i) ≡ found q) where
  next : NextNumber (is_untagged_of p) i (drop i (records_at t unpacked n)) q
  next = next_in (is_untagged_of p) i (drop i (records_at t unpacked n)) q e

  pub untagged_next : untagged_from t unpacked n p i ≡ q ∷ untagged_from t unpacked n p (q + 1)
  untagged_next =
      next.rest ∙
      ap (λ (l : List Record). q ∷ numbers_where (is_untagged_of p) (q + 1) l)
      (drop-drop (q + 1 - i) i (records_at t unpacked n) ∙ ap (λ (m : ℕ). drop m (records_at t unpacked n)) g)
    where
      g : i + (q + 1 - i) ≡ q + 1
      g = omega (arith, next.from)

  pub untagged_below : q < n
  untagged_below = omega (arith, next.from, simp (length-drop, length_records) at next.below)

pub untagged_none : (t unpacked : List ℕ) (n p i : ℕ) → first (untagged_from t unpacked n p i) ≡ nowhere → untagged_from t unpacked n p i ≡ []
untagged_none t unpacked n p i e = none_in (is_untagged_of p) i (drop i (records_at t unpacked n)) e

-- ---- a tag that was found

pub find_below : (t unpacked : List ℕ) (n p : ℕ) (w : List ℕ) (q : ℕ) → (schema_at t unpacked n).find p w ≡ found q → q < n
unfolding schema_of
find_below t unpacked n p w q e = searched_below t unpacked n p w q e
