-- Names made for a table are all different.
use mathlib.Core.Path.{◌≡◌, refl, ap, sym, ◌∙◌}
use mathlib.Core.Bool.{Bool, true, false}
use mathlib.Core.List.{List, [], ◌∷◌}
use Prim.Native.Nat.{ℕ, suc, ◌+◌, ◌≤◌, ◌<◌}
use native.Mathlib.Omega.{arith}
use lib.Dec.{eqb}
use lib.ListN.{length}
use borrow.Author.Tests.{eq-eqb}
use Rattle.classes.specs.Lists.{pick}
use Rattle.definition_rules.specs.Forms.{MaybeRun}
use Rattle.reading_rules.specs.Record.{Up, Record}
use Rattle.definition_rules.specs.Declarations.{Declaration}
use Rattle.definition_rules.specs.Table.{bit}
use Rattle.definition_rules.specs.Faults.{name_key, Key, key}
use Rattle.table_rules.specs.RecordRules.{shows_name, key_if, shown_names}
use Rattle.table_rules.proofs.FreshNames.{occ, free, code, fresh, code_fresh, fresh_inj, codes}
use Rattle.table_rules.proofs.Witness.{shows, declaration_for, declarations_for}

unfoldable pub Off : Key → List Key → Type 0
Off k [] = Unit {0}
Off k (j ∷ js) = (k ≡ j → ⊥) × Off k js

unfoldable pub Uniq : List Key → Type 0
Uniq [] = Unit {0}
Uniq (k ∷ ks) = Off k ks × Uniq ks

unfoldable pub declared_names : List Declaration → List Key
declared_names [] = []
declared_names (d ∷ ds) = name_key d ∷ declared_names ds

unfoldable pub key_word : Key → List ℕ
key_word (key u l) = l

unfoldable pub words : List Key → List (List ℕ)
words [] = []
words (k ∷ ks) = key_word k ∷ words ks

key_word_lem : (u v : Up) (l m : List ℕ) → key u l ≡ key v m → l ≡ m
key_word_lem u v l m e = cc

-- q is the prefix of no shown name
abbrev Clear : ℕ → List Record → Type 0
Clear q rs = occ q (codes (words (shown_names rs))) ≡ 0

module _ (T : List MaybeRun) (A : ℕ → Bool) (q : ℕ) where
  bits : (b : Bool) (n : ℕ) → bit b + n ≡ 0 → (b ≡ false) × (n ≡ 0)
  unfolding bit
  bits true n e = absurd (omega arith)
  bits false n e = (refl, omega arith)

  clear_tail : (b : Bool) (k : Key) (ks : List Key) → occ q (codes (words (key_if b k ks))) ≡ 0 → occ q (codes (words ks)) ≡ 0
  unfolding key_if words codes occ
  clear_tail true k ks e = (bits (eqb (code (key_word k)) q) (occ q (codes (words ks))) e).1
  clear_tail false k ks e = e

  clear_head : (u : Up) (l : List ℕ) (ks : List Key) → occ q (codes (words (key_if true (key u l) ks))) ≡ 0 → code l ≡ q → ⊥
  unfolding key_if words codes occ key_word
  clear_head u l ks e x = let y = (bits (eqb (code l) q) (occ q (codes (words ks))) e).0 in let z : ◌≡◌ {A = ℕ} 0 1 = cc (eq-eqb (code l) q x) in omega arith

  -- a made name is off all the names that follow
  off_made : (u : Up) (j i : ℕ) (rs : List Record) → j < i → Clear q rs → Off (key u (fresh q j)) (declared_names (declarations_for T A q i rs))
  unfolding Off declared_names declarations_for shown_names declaration_for name_key shows_name shows
  off_made u j i [] h c = tt
  off_made u j i (r ∷ rs) h c = (by (shows_name r) c, off_made u j (suc i) rs (omega arith) (clear_tail (shows_name r) (key r.parent r.label) (shown_names rs) c))
    where
      by : (b : Bool) → occ q (codes (words (key_if b (key r.parent r.label) (shown_names rs)))) ≡ 0 → key u (fresh q j) ≡ key r.parent (pick b r.label (fresh q i)) → ⊥
      by true c z = unfold pick in (clear_head r.parent r.label (shown_names rs) c (ap code (sym (key_word_lem u r.parent (fresh q j) r.label z)) ∙ code_fresh q j))
      by false c z = unfold pick in (let w = fresh_inj q j i (key_word_lem u r.parent (fresh q j) (fresh q i) z) in omega arith)

  -- a shown name too
  off_shown : (u : Up) (m : List ℕ) (i : ℕ) (rs : List Record) → (code m ≡ q → ⊥) → Off (key u m) (shown_names rs) → Off (key u m) (declared_names (declarations_for T A q i rs))
  unfolding Off declared_names declarations_for shown_names declaration_for name_key shows_name shows
  off_shown u m i [] h o = tt
  off_shown u m i (r ∷ rs) h o = (by (shows_name r) o, off_shown u m (suc i) rs h (tail (shows_name r) o))
    where
      tail : (b : Bool) → Off (key u m) (key_if b (key r.parent r.label) (shown_names rs)) → Off (key u m) (shown_names rs)
      tail true o = unfold key_if in o.1
      tail false o = unfold key_if in o

      by : (b : Bool) → Off (key u m) (key_if b (key r.parent r.label) (shown_names rs)) → key u m ≡ key r.parent (pick b r.label (fresh q i)) → ⊥
      by true o z = unfold key_if pick in (o.0 z)
      by false o z = unfold pick in (h (ap code (key_word_lem u r.parent m (fresh q i) z) ∙ code_fresh q i))

  pub uniq_made : (i : ℕ) (rs : List Record) → Clear q rs → Uniq (shown_names rs) → Uniq (declared_names (declarations_for T A q i rs))
  unfolding Uniq declared_names declarations_for shown_names declaration_for name_key shows_name shows
  uniq_made i [] c o = tt
  uniq_made i (r ∷ rs) c o = (by (shows_name r) c o, uniq_made (suc i) rs (clear_tail (shows_name r) (key r.parent r.label) (shown_names rs) c) (tail (shows_name r) o))
    where
      tail : (b : Bool) → Uniq (key_if b (key r.parent r.label) (shown_names rs)) → Uniq (shown_names rs)
      tail true o = unfold key_if in o.1
      tail false o = unfold key_if in o

      by : (b : Bool) → occ q (codes (words (key_if b (key r.parent r.label) (shown_names rs)))) ≡ 0 → Uniq (key_if b (key r.parent r.label) (shown_names rs)) → Off (key r.parent (pick b r.label (fresh q i))) (declared_names (declarations_for T A q (suc i) rs))
      by true c o = unfold key_if pick in (off_shown r.parent r.label (suc i) rs (clear_head r.parent r.label (shown_names rs) c) o.0)
      by false c o = unfold pick in (off_made r.parent i (suc i) rs (omega arith) (clear_tail false (key r.parent r.label) (shown_names rs) c))

shown_len : (rs : List Record) → length (codes (words (shown_names rs))) ≤ length rs
unfolding shown_names words codes
shown_len [] = omega arith
shown_len (r ∷ rs) = by (shows_name r) (shown_len rs)
  where
    by : (x : Bool) → length (codes (words (shown_names rs))) ≤ length rs → length (codes (words (key_if x (key r.parent r.label) (shown_names rs)))) ≤ suc (length rs)
    by true h = unfold key_if words codes in omega arith
    by false h = unfold key_if in omega arith

-- a clear prefix
pub prefix : (rs : List Record) → (q : ℕ) × (q ≤ length rs) × (occ q (codes (words (shown_names rs))) ≡ 0)
prefix rs = let f = free (codes (words (shown_names rs))) in (f.0, omega (arith, f.1, shown_len rs), f.2)
