-- The declarations in the row: one more is noted, the first 256 are kept, the 257th name's place is.
use mathlib.Core.Path.{◌≡◌, refl, ap, subst, ◌∙◌}
use mathlib.Core.List.{List, [], ◌∷◌, ◌++◌}
use Prim.Native.Nat.{ℕ, zero, suc, ◌+◌, ◌*◌, ◌≤◌, ◌<◌}
use native.Mathlib.Nat.{add-zero, zero-add}
use native.Mathlib.Omega.{arith}
use lib.Dec.{eqb}
use lib.ListN.{length, get_or, set, drop, length-append, length-set}
use lib.Seq.{sets, get_or-set_same, get_or-set_other, drop-append-le, drop-append_seam}
use Rattle.classes.specs.Lists.{All}
use Rattle.definition_rules.specs.Declarations.{Declaration, declaration, Spots, Noted, noted}
use Rattle.definition_rules.specs.Table.{number_up}
use Rattle.definition_rules.specs.Faults.{name_spots}
use Rattle.definition_cells.specs.Cells.{run_at, maybe_run_at, tag_at, noted_at, noted_from}
use Rattle.definition_scanner.proofs.LiveLaws.{AtLeast}
use Rattle.definition_automaton.specs.Noting.{Hand, cells_of}
use Rattle.definition_automaton.proofs.Views.{spots_in, heading_in}
use Rattle.definition_rules.proofs.Spots.{names_length}

-- ---- stores

sets_below : (vs l : List ℕ) (i j : ℕ) → j < i → get_or (sets l i vs) j 0 ≡ get_or l j 0
sets_below [] l i j h = refl
sets_below (v ∷ vs) l i j h = sets_below vs (set l i v) (suc i) j (omega arith) ∙ get_or-set_other l i j v 0 (λ q. omega arith)

sets_at : (vs l : List ℕ) (i k : ℕ) → k < length vs → i + length vs ≤ length l → get_or (sets l i vs) (i + k) 0 ≡ get_or vs k 0
sets_at [] l i k h r = absurd (omega arith)
sets_at (v ∷ vs) l i zero h r =
    rw (add-zero i) (sets_below vs (set l i v) (suc i) i (omega arith) ∙ get_or-set_same l i v 0 (omega arith))
sets_at (v ∷ vs) l i (suc k) h r =
    let p : i + suc k ≡ suc i + k = omega arith in
    let z : length (set l i v) ≡ length l = length-set l i v in
    rw p (sets_at vs (set l i v) (suc i) k (omega arith) (omega arith))

-- ---- one declaration more

noted_snoc : (text cs : List ℕ) (n i : ℕ) → noted_from text cs (suc n) i ≡ noted_from text cs n i ++ noted_at text cs (i + n) ∷ []
unfolding noted_from
noted_snoc text cs zero i = rw (add-zero i)
noted_snoc text cs (suc n) i =
    let p : i + suc n ≡ suc i + n = omega arith in
    rw p (ap (λ l. noted_at text cs i ∷ l) (noted_snoc text cs n (suc i)))

module _ (text cs vs : List ℕ) (n : ℕ) where
  other : (i : ℕ) → i < n → noted_at text (sets cs (16 * n) vs) i ≡ noted_at text cs i
  unfolding noted_at run_at maybe_run_at tag_at
  other i h =
      let b : (k : ℕ) → k < 16 → get_or (sets cs (16 * n) vs) (16 * i + k) 0 ≡ get_or cs (16 * i + k) 0 = λ k q. sets_below vs cs (16 * n) (16 * i + k) (omega arith) in
      rw (b 0 (omega arith), b 1 (omega arith), b 2 (omega arith), b 3 (omega arith), b 4 (omega arith), b 5 (omega arith), b 6 (omega arith), b 7 (omega arith), b 8 (omega arith), b 9 (omega arith), b 10 (omega arith), b 11 (omega arith), b 12 (omega arith), b 13 (omega arith), b 14 (omega arith), b 15 (omega arith))

  others : (m i : ℕ) → i + m ≤ n → noted_from text (sets cs (16 * n) vs) m i ≡ noted_from text cs m i
  unfolding noted_from
  others zero i h = refl
  others (suc m) i h = rw (other i (omega arith), others m (suc i) (omega arith))

module _ (text cs : List ℕ) (n : ℕ) (p : Hand) (x q : ℕ) (room : 16 * n + 16 ≤ length cs) where
  this : noted_at text (sets cs (16 * n) (cells_of p x q)) n ≡ noted (spots_in p) (declaration (number_up q) (eqb x 1) (heading_in text p))
  unfolding noted_at run_at maybe_run_at tag_at
  this =
      let b : (k : ℕ) → k < 16 → get_or (sets cs (16 * n) (cells_of p x q)) (16 * n + k) 0 ≡ get_or (cells_of p x q) k 0 = λ k h. sets_at (cells_of p x q) cs (16 * n) k h room in
      rw (b 0 (omega arith), b 1 (omega arith), b 2 (omega arith), b 3 (omega arith), b 4 (omega arith), b 5 (omega arith), b 6 (omega arith), b 7 (omega arith), b 8 (omega arith), b 9 (omega arith), b 10 (omega arith), b 11 (omega arith), b 12 (omega arith), b 13 (omega arith), b 14 (omega arith), b 15 (omega arith))

  pub noted_more : noted_from text (sets cs (16 * n) (cells_of p x q)) (suc n) 0 ≡ noted_from text cs n 0 ++ noted (spots_in p) (declaration (number_up q) (eqb x 1) (heading_in text p)) ∷ []
  noted_more =
      noted_snoc text (sets cs (16 * n) (cells_of p x q)) n 0
      ∙ rw (zero-add n) (rw (others text cs (cells_of p x q) n n 0 (omega arith), this))

-- ---- what is kept of the declarations so far

pub record Past (before : List Noted) (over : ℕ) : Type 0 where
  pub rest : List ℕ
  pub places : drop 256 (name_spots before) ≡ over ∷ rest
  pub later : AtLeast over rest

pub record Kept (text cells : List ℕ) (before : List Noted) (count over : ℕ) : Type 0 where
  pub counted : length before ≡ count
  pub first : count ≤ 256 → noted_from text cells count 0 ≡ before
  pub past : 256 < count → Past before over

names_append : (xs ys : List Noted) → name_spots (xs ++ ys) ≡ name_spots xs ++ name_spots ys
unfolding name_spots
names_append [] ys = refl
names_append (noted s d ∷ r) ys = ap (λ l. s.name_at ∷ l) (names_append r ys)

drop_seam : (n : ℕ) (xs ys : List ℕ) → length xs ≡ n → drop n (xs ++ ys) ≡ ys
drop_seam n xs ys h = subst (λ k. drop k (xs ++ ys) ≡ ys) h (drop-append_seam xs ys)

least_snoc : (k : ℕ) (r : List ℕ) (p : ℕ) → AtLeast k r → k ≤ p → AtLeast k (r ++ p ∷ [])
unfolding All
least_snoc k [] p a h = (h, tt)
least_snoc k (q ∷ r) p a h = (a.0, least_snoc k r p a.1 h)

module _ (text cells : List ℕ) (before : List Noted) (count over : ℕ) (i : Kept text cells before count over) (s : Spots) (d : Declaration) where
  grown : length (before ++ noted s d ∷ []) ≡ suc count
  grown = length-append before (noted s d ∷ []) ∙ (let c = i.counted in omega arith)

  -- one of the first 256
  pub kept_first : (cs : List ℕ) → count < 256 → noted_from text cs (suc count) 0 ≡ noted_from text cells count 0 ++ noted s d ∷ [] → Kept text cs (before ++ noted s d ∷ []) (suc count) over
  kept_first cs h e = record { counted = grown; first = λ _. e ∙ ap (λ l. l ++ noted s d ∷ []) (i.first (omega arith)); past = λ q. absurd (omega arith) }

  -- the 257th
  pub kept_over : count ≡ 256 → Kept text cells (before ++ noted s d ∷ []) (suc count) s.name_at
  unfolding name_spots All
  kept_over h = record { counted = grown; first = λ q. absurd (omega arith); past = λ q. record { rest = []; places = rw (names_append before (noted s d ∷ [])) (drop_seam 256 (name_spots before) (s.name_at ∷ []) (names_length before ∙ (i.counted ∙ h))); later = tt } }

  -- a later one
  pub kept_past : 256 < count → over ≤ s.name_at → Kept text cells (before ++ noted s d ∷ []) (suc count) over
  unfolding name_spots
  kept_past h l = record { counted = grown; first = λ q. absurd (omega arith); past = λ q. later (i.past h) }
    where
      later : Past before over → Past (before ++ noted s d ∷ []) over
      later b = record { rest = b.rest ++ s.name_at ∷ []; places = rw (names_append before (noted s d ∷ [])) (drop-append-le 256 (name_spots before) (s.name_at ∷ []) (let n = names_length before in let c = i.counted in omega arith) ∙ ap (λ l. l ++ s.name_at ∷ []) b.places); later = least_snoc over b.rest s.name_at b.later l }
