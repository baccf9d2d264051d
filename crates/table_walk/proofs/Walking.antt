-- The walk: the records found so far, and what the decoder says of the bytes after them.
use mathlib.Core.Path.{◌≡◌, refl, ap, sym, ◌∙◌}
use mathlib.Core.Bool.{Bool, true, false}
use mathlib.Core.List.{List, [], ◌∷◌, ◌++◌, append_assoc, append-nil}
use Prim.Native.Nat.{ℕ, zero, suc, ◌+◌, ◌-◌, ◌*◌, ◌≤◌, ◌<◌}
use native.Mathlib.Omega.{arith}
use lib.Dec.{eqb, ltb, leb}
use lib.ListN.{length, drop, length-drop, length-append, drop_of_length-le}
use borrow.Author.Tests.{eqb-true, eqb-false, leb-true, leb-false, ltb-true, ltb-false, ne_eqb, eq-eqb, lt-leb, le-leb, lt-ltb, le-ltb}
use Rattle.classes.specs.Lists.{pick}
use Rattle.numbers.specs.Limits.{parameter_limit}
use Rattle.numbers.specs.LittleEndian.{le16}
use Rattle.reading_rules.specs.Record.{Record}
use Rattle.definition_rules.specs.Table.{Maybe, none, just, decode_record, decode_up_to, decode, map_maybe}
use Rattle.definition_rules.proofs.TableLaws.{none_just}
use Rattle.table_records.specs.Stored.{record_cells, cell_in, stored_at, records_from, records_at, Unpacked, length_in, Laid}
use Rattle.table_records.proofs.Laws.{length_records, records_one_more, records_unpacked}
use Rattle.table_walk.specs.Walked.{is_whole, length_at, Enough, RecordsCounted, Uncounted}
use Rattle.table_walk.proofs.Decoding.{short_record, whole_record, wrong_length, wrong_flags, cut_label}

-- ---- the length that the code finds

module _ (t : List ℕ) (at : ℕ) where
  pub length_short : length t - at < 24 → length_at t at ≡ 0
  unfolding length_at is_whole pick
  length_short h = rw (lt-leb 24 (length t - at) h)

  module _ (h : 24 ≤ length t - at) where
    pub length_wrong : (le16 t at ≡ 24 + le16 t (at + 22) → ⊥) → length_at t at ≡ 0
    unfolding length_at is_whole pick
    length_wrong e = rw (le-leb 24 (length t - at) h, ne_eqb _ _ e)

    module _ (e : le16 t at ≡ 24 + le16 t (at + 22)) where
      pub length_flags : 8 ≤ le16 t (at + 6) → length_at t at ≡ 0
      unfolding length_at is_whole pick
      length_flags f = rw (le-leb 24 (length t - at) h, eq-eqb _ _ e, le-ltb _ _ f)

      module _ (f : le16 t (at + 6) < 8) where
        pub length_cut : length t - at < le16 t at → length_at t at ≡ 0
        unfolding length_at is_whole pick
        length_cut l = rw (le-leb 24 (length t - at) h, eq-eqb _ _ e, lt-ltb _ _ f, lt-leb _ _ l)

        pub length_whole : le16 t at ≤ length t - at → length_at t at ≡ le16 t at
        unfolding length_at is_whole pick
        length_whole l = rw (le-leb 24 (length t - at) h, eq-eqb _ _ e, lt-ltb _ _ f, le-leb _ _ l)

-- ---- what stands at a place

-- a whole record, or nothing that the decoder takes
data Look (t : List ℕ) (at : ℕ) : ℕ → Type 0 where
  whole : at + le16 t at ≤ length t → le16 t at ≡ 24 + le16 t (at + 22) → ((g : Record → List ℕ → Maybe (List Record)) → decode_record (drop at t) g ≡ g (stored_at t at) (drop (at + le16 t at) t)) → Look t at (le16 t at)
  nothing : ((g : Record → List ℕ → Maybe (List Record)) → decode_record (drop at t) g ≡ none) → Look t at 0

look : (t : List ℕ) (at : ℕ) → at < length t → Look t at (length_at t at)
look t at i = go (leb 24 (length t - at)) (eqb (le16 t at) (24 + le16 t (at + 22))) (ltb (le16 t (at + 6)) 8) (leb (le16 t at) (length t - at)) refl refl refl refl
  where
    go : (a b c d : Bool) → leb 24 (length t - at) ≡ a → eqb (le16 t at) (24 + le16 t (at + 22)) ≡ b → ltb (le16 t (at + 6)) 8 ≡ c → leb (le16 t at) (length t - at) ≡ d → Look t at (length_at t at)
    go false b c d p q r s =
        let h = leb-false 24 (length t - at) p in
        rw (length_short t at h) (nothing (λ g. short_record (drop at t) g (rw length-drop h)))
    go true false c d p q r s =
        let h = leb-true 24 (length t - at) p in
        let e = eqb-false _ _ q in
        rw (length_wrong t at h e) (nothing (λ g. wrong_length t at g (omega arith) e))
    go true true false d p q r s =
        let h = leb-true 24 (length t - at) p in
        let e = eqb-true _ _ q in
        let f = ltb-false _ _ r in
        rw (length_flags t at h e f) (nothing (λ g. wrong_flags t at g (omega arith) e f))
    go true true true false p q r s =
        let h = leb-true 24 (length t - at) p in
        let e = eqb-true _ _ q in
        let f = ltb-true _ _ r in
        let l = leb-false _ _ s in
        rw (length_cut t at h e f l) (nothing (λ g. cut_label t at g (omega arith) e f (omega arith)))
    go true true true true p q r s =
        let h = leb-true 24 (length t - at) p in
        let e = eqb-true _ _ q in
        let f = ltb-true _ _ r in
        let l = leb-true _ _ s in
        rw (length_whole t at h e f l) (whole (omega arith) e (λ g. whole_record t at g (omega arith) e f (omega arith)))

-- the numbers of a whole record are in the table
pub head_there : (t : List ℕ) (at s : ℕ) → at < length t → s ≡ length_at t at → (s ≡ 0 → ⊥) → at + 24 ≤ length t
head_there t at s h e z = go s (rw e (look t at h)) z
  where
    go : (s : ℕ) → Look t at s → (s ≡ 0 → ⊥) → at + 24 ≤ length t
    go s (whole i k f) z = omega arith
    go s (nothing f) z = absurd (z refl)

-- ---- records found, then what is left

abbrev after : List Record → Maybe (List Record) → Maybe (List Record)
after rs m = map_maybe (λ qs. rs ++ qs) m

after_none : (m : Maybe (List Record)) → m ≡ after [] m
unfolding map_maybe
after_none none = refl
after_none (just qs) = refl

after_one : (rs : List Record) (r : Record) (m : Maybe (List Record)) → after rs (map_maybe (λ qs. r ∷ qs) m) ≡ after (rs ++ (r ∷ [])) m
unfolding map_maybe
after_one rs r none = refl
after_one rs r (just qs) = ap just (sym (append_assoc rs (r ∷ []) qs))

upto_more : (m : ℕ) (s : List ℕ) → 0 < length s → decode_up_to (suc m) s ≡ decode_record s (λ r q. map_maybe (λ rs. r ∷ rs) (decode_up_to m q))
unfolding decode_up_to
upto_more m [] h = absurd (omega arith)
upto_more m (a ∷ s) h = refl

upto_end : (m : ℕ) → decode_up_to m [] ≡ just []
unfolding decode_up_to
upto_end zero = refl
upto_end (suc m) = refl

-- the records lie in the table, the last one up to a place
pub record LaidTo (t cs : List ℕ) (n at : ℕ) : Type 0 where
  pub laid : Laid t cs n
  pub ends : (k : ℕ) → k + 1 ≡ n → at ≡ cell_in cs k 0 + length_in cs k

laid_none : (t cs : List ℕ) → LaidTo t cs 0 0
laid_none t cs = record {
  laid = record { headed = λ k h. absurd (omega arith); within = λ k h. absurd (omega arith); next = λ k h. absurd (omega arith) };
  ends = λ k e. absurd (omega arith);
}

-- one more behind them, with the length s at its head
module _ (t cs after : List ℕ) (n at : ℕ) (l : LaidTo t cs n at) (u : Unpacked t at cs n after) (i : at + le16 t at ≤ length t) (e : le16 t at ≡ 24 + le16 t (at + 22)) where
  place_kept : (k : ℕ) → k < n → cell_in after k 0 ≡ cell_in cs k 0
  place_kept k h = u.others k 0 h (omega arith)

  length_kept : (k : ℕ) → k < n → length_in after k ≡ length_in cs k
  length_kept k h = ap (λ m. 24 + m) (u.others k 9 h (omega arith))

  new_length : length_in after n ≡ le16 t at
  new_length = ap (λ m. 24 + m) u.sized ∙ sym e

  laid_more : LaidTo t after (n + 1) (at + le16 t at)
  laid_more = record { laid = record { headed = headed; within = within; next = next }; ends = ends }
    where
      split : {P : ℕ → Type 0} → ((k : ℕ) → k < n → P k) → P n → (k : ℕ) → k < n + 1 → P k
      split {P} f g k h = by (eqb k n) refl
        where
          by : (b : Bool) → eqb k n ≡ b → P k
          by true q = let z = eqb-true k n q in rw z g
          by false q = let z = eqb-false k n q in f k (below z)
            where
              below : (k ≡ n → ⊥) → k < n
              below z = omega arith

      headed : (k : ℕ) → k < n + 1 → le16 t (cell_in after k 0) ≡ length_in after k
      headed = split (λ k h. rw (place_kept k h, length_kept k h) (l.laid.headed k h)) (rw (u.place, new_length) refl)

      within : (k : ℕ) → k < n + 1 → cell_in after k 0 + length_in after k ≤ length t
      within = split (λ k h. rw (place_kept k h, length_kept k h) (l.laid.within k h)) (rw (u.place, new_length) i)

      next : (k : ℕ) → k + 1 < n + 1 → cell_in after (k + 1) 0 ≡ cell_in after k 0 + length_in after k
      next k h = rw (place_kept k (omega arith), length_kept k (omega arith)) (by (eqb (k + 1) n) refl)
        where
          by : (b : Bool) → eqb (k + 1) n ≡ b → cell_in after (k + 1) 0 ≡ cell_in cs k 0 + length_in cs k
          by true q = let z = eqb-true (k + 1) n q in rw z u.place ∙ l.ends k z
          by false q = let z = eqb-false (k + 1) n q in let b : k + 1 < n = below z in place_kept (k + 1) b ∙ l.laid.next k b
            where
              below : (k + 1 ≡ n → ⊥) → k + 1 < n
              below z = omega arith

      ends : (k : ℕ) → k + 1 ≡ n + 1 → at + le16 t at ≡ cell_in after k 0 + length_in after k
      ends k z = let q : k ≡ n = omega arith in rw (q, u.place, new_length) refl

-- n records that end at a place: the decoder gives them and what it gives of the rest
pub record WalkedTo (t unpacked : List ℕ) (n at : ℕ) : Type 0 where
  pub inside : at ≤ length t
  pub least : 24 * n ≤ at
  pub most : at ≤ 65536 * n
  pub few : n ≤ 256
  pub found : Enough (length t) (length unpacked) → decode t ≡ after (records_at t unpacked n) (decode_up_to (length t - n) (drop at t))
  pub laid : Enough (length t) (length unpacked) → LaidTo t unpacked n at

pub along_start : (t unpacked : List ℕ) → WalkedTo t unpacked 0 0
along_start t unpacked = record {
  inside = omega arith;
  least = omega arith;
  most = omega arith;
  few = omega arith;
  found = λ r. unfold decode records_from in (rw e (after_none (decode_up_to (length t) t)));
  laid = λ r. laid_none t unpacked;
}
  where
    e : length t - 0 ≡ length t
    e = omega arith

module _ (t unpacked : List ℕ) (n at : ℕ) (a : WalkedTo t unpacked n at) where
  pub along_end : length t ≤ at → Enough (length t) (length unpacked) → RecordsCounted t unpacked n
  along_end h r = record {
    few = a.few;
    long = omega (arith, a.least, a.inside);
    these = a.found r ∙ (rw (drop_of_length-le t h, upto_end (length t - n)) (unfold map_maybe in (ap just (append-nil (records_at t unpacked n)))));
    laid = (a.laid r).laid;
  }

  module _ (h : at < length t) where
    -- the decoder's next record
    next_record : decode_up_to (length t - n) (drop at t) ≡ decode_record (drop at t) (λ r q. map_maybe (λ rs. r ∷ rs) (decode_up_to (length t - (n + 1)) q))
    next_record =
        let e : length t - n ≡ suc (length t - (n + 1)) = omega (arith, a.least) in
        rw e (upto_more (length t - (n + 1)) (drop at t) (rw length-drop (omega arith)))

    -- one record more is unpacked
    pub along_more : (s : ℕ) (cs : List ℕ) → s ≡ length_at t at → s < 65536 → (s ≡ 0 → ⊥) → (n ≡ 256 → ⊥) → length cs ≡ length unpacked → (n < parameter_limit → record_cells * (n + 1) ≤ length unpacked → Unpacked t at unpacked n cs) → WalkedTo t cs (n + 1) (at + s)
    along_more s cs e b z m l u = go s (rw e (look t at h)) b z
      where
        noted : Unpacked t at unpacked n cs → records_at t cs (n + 1) ≡ records_at t unpacked n ++ (stored_at t at ∷ [])
        noted v = records_one_more t cs n ∙ rw (records_unpacked t unpacked cs n v.others, v.here)

        go : (s : ℕ) → Look t at s → s < 65536 → (s ≡ 0 → ⊥) → WalkedTo t cs (n + 1) (at + s)
        go s (nothing f) b z = absurd (z refl)
        go s (whole i k f) b z = record {
          inside = i;
          least = omega (arith, a.least);
          most = omega (arith, a.most);
          few = omega (arith, a.few);
          found = λ r.
              (let q : Enough (length t) (length unpacked) = (rw l at r) in
              a.found q ∙ (rw (next_record, f _, noted (here q)) (after_one (records_at t unpacked n) (stored_at t at) _)));
          laid = λ r. (let q : Enough (length t) (length unpacked) = (rw l at r) in laid_more t unpacked cs n at (a.laid q) (here q) i k);
        }
          where
            here : Enough (length t) (length unpacked) → Unpacked t at unpacked n cs
            here q = u (omega (arith, a.few)) (q (n + 1) (omega (arith, a.few)) (omega (arith, a.least, i, k)))

    pub along_stuck : (s : ℕ) → s ≡ length_at t at → s ≡ 0 → Enough (length t) (length unpacked) → Uncounted t
    along_stuck s e z r rs d = go s (rw e (look t at h)) z
      where
        go : (s : ℕ) → Look t at s → s ≡ 0 → parameter_limit < length rs
        go s (nothing f) z = none_just (sym (a.found r ∙ rw (next_record, f _) (unfold map_maybe in refl)) ∙ d)
        go s (whole i k f) z = absurd (omega arith)

    pub along_full : n ≡ 256 → Enough (length t) (length unpacked) → Uncounted t
    along_full m r rs d = go (look t at h)
      where
        more : (q : Maybe (List Record)) → after (records_at t unpacked n) (map_maybe (λ qs. stored_at t at ∷ qs) q) ≡ just rs → parameter_limit < length rs
        more none e = unfold map_maybe in (none_just e)
        more (just qs) e = unfold map_maybe in (
            let x : records_at t unpacked n ++ (stored_at t at ∷ qs) ≡ rs = cc in
            omega (arith, simp (length-append, length_records) at (ap length x)))

        go : {s : ℕ} → Look t at s → parameter_limit < length rs
        go (nothing f) = none_just (sym (a.found r ∙ rw (next_record, f _) (unfold map_maybe in refl)) ∙ d)
        go (whole i k f) = more (decode_up_to (length t - (n + 1)) (drop (at + le16 t at) t)) (sym (a.found r ∙ rw (next_record, f _)) ∙ d)
