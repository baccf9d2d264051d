-- T6 over texts: number 10 is given exactly when some struct or union has no lawful value, at the first one's name.
use mathlib.Core.Path.{◌≡◌, refl, ap, sym, ◌∙◌}
use mathlib.Core.Bool.{Bool, true, false}
use mathlib.Core.List.{List, [], ◌∷◌}
use mathlib.Core.Logic.{◌↔◌, inl, inr}
use Prim.Native.Nat.{ℕ, zero, suc, ◌+◌, ◌≤◌, ◌<◌}
use native.Mathlib.Omega.{arith}
use lib.Dec.{ltb}
use lib.ListN.{length, get_or}
use Rattle.classes.specs.Lists.{pick}
use Rattle.numbers.specs.Limits.{parameter_limit}
use Rattle.reading_rules.specs.Record.{Record, record_at}
use Rattle.definition_rules.specs.Scan.{Item, items_of, place_if}
use Rattle.definition_rules.specs.Declarations.{Noted, noted, Outcome, declarations_of}
use Rattle.definition_rules.specs.Records.{top_names, records_of}
use Rattle.definition_rules.specs.Faults.{record_spots, name_spots, faults10}
use Rattle.definition_rules.specs.Finite.{finites, is_endless}
use Rattle.definition_rules.specs.Compile.{check, Finding, clean, fault, least_of, finding_of, first_fault, token_place, token_places, noted_of, outcome_of, records_of_text, checks, checks_from, checks_after, checks_of, verdict_of, Verdict, refused, table, verdict, compiled, refusal, answer_with_room, compile_answer, IsPlace, Least}
use Rattle.definition_rules.proofs.FirstFault.{least_of_lem, pass}
use Rattle.table_rules.specs.Endless.{LawfulValue, Compound, name_place, FirstEndless, EndlessPromise}
use Rattle.table_rules.proofs.TextRules.{length_records, noted_length, text_ten, text_rules_records}
use Rattle.table_rules.proofs.Facts.{Formed}
use Rattle.table_rules.proofs.Values.{endless_iff, rules_values}

-- ---- the places of records with a fault, by their names

module _ (text : List ℕ) (items : List Item) (f : ℕ → Record → Bool) where
  abbrev named : List Noted → ℕ → ℕ
  named ns k = token_place text items (get_or (name_spots ns) k 0)

  spots_in_lem : (i : ℕ) (rs : List Record) (ns : List Noted) (q : ℕ) → IsPlace q (token_places text items (record_spots f (λ s. s.name_at) i rs ns)) → (k : ℕ) × (k < length rs) × (f (i + k) (record_at rs k) ≡ true) × (q ≡ named ns k)
  unfolding record_spots place_if token_places IsPlace name_spots record_at
  spots_in_lem i [] ns q h = absurd h
  spots_in_lem i (r ∷ rs) [] q h = absurd h
  spots_in_lem i (r ∷ rs) (noted s d ∷ ns) q h = go (f i r) refl (λ h. later (spots_in_lem (suc i) rs ns q h)) h
    where
      later : ((k : ℕ) × (k < length rs) × (f (suc i + k) (record_at rs k) ≡ true) × (q ≡ named ns k)) → (k : ℕ) × (k < suc (length rs)) × (f (i + k) (record_at (r ∷ rs) k) ≡ true) × (q ≡ named (noted s d ∷ ns) k)
      later g = let y : i + suc g.0 ≡ suc i + g.0 = omega arith in (suc g.0, omega (arith, g.1), ap (λ j. f j (record_at rs g.0)) y ∙ g.2, g.3)

      go : (b : Bool) → f i r ≡ b → (IsPlace q (token_places text items (record_spots f (λ s. s.name_at) (suc i) rs ns)) → (k : ℕ) × (k < suc (length rs)) × (f (i + k) (record_at (r ∷ rs) k) ≡ true) × (q ≡ named (noted s d ∷ ns) k)) → IsPlace q (token_places text items (place_if b s.name_at (record_spots f (λ s. s.name_at) (suc i) rs ns))) → (k : ℕ) × (k < suc (length rs)) × (f (i + k) (record_at (r ∷ rs) k) ≡ true) × (q ≡ named (noted s d ∷ ns) k)
      go true e k (inl p) = let y : i + 0 ≡ i = omega arith in (0, omega arith, ap (λ j. f j r) y ∙ e, p)
      go true e k (inr h) = k h
      go false e k h = k h

  in_spots : (i : ℕ) (rs : List Record) (ns : List Noted) → length rs ≡ length ns → (k : ℕ) → k < length rs → f (i + k) (record_at rs k) ≡ true → IsPlace (named ns k) (token_places text items (record_spots f (λ s. s.name_at) i rs ns))
  unfolding record_spots place_if token_places IsPlace name_spots record_at
  in_spots i [] ns l k h e = absurd (omega arith)
  in_spots i (r ∷ rs) [] l k h e = absurd (omega (arith, l))
  in_spots i (r ∷ rs) (noted s d ∷ ns) l zero h e = rw ((let y : i ≡ i + 0 = omega arith in ap (λ j. f j r) y) ∙ e) (inl refl)
  in_spots i (r ∷ rs) (noted s d ∷ ns) l (suc k) h e = go (f i r) (in_spots (suc i) rs ns (omega (arith, l)) k (omega arith) ((let y : suc i + k ≡ i + suc k = omega arith in ap (λ j. f j (record_at rs k)) y) ∙ e))
    where
      go : (b : Bool) → IsPlace (named ns k) (token_places text items (record_spots f (λ s. s.name_at) (suc i) rs ns)) → IsPlace (named ns k) (token_places text items (place_if b s.name_at (record_spots f (λ s. s.name_at) (suc i) rs ns)))
      go true h = inr h
      go false h = h

-- ---- a text refused with 10 or more: its number is 10, and its place the least of that check

tenth : (n p : ℕ) (ps : List ℕ) → first_fault (check 10 ps ∷ []) ≡ fault n p → (n ≡ 10) × Least p ps
unfolding first_fault finding_of
tenth n p [] e = let z : ◌≡◌ {A = ℕ} 0 1 = cc in absurd (omega arith)
tenth n p (q ∷ r) e =
    let a : 10 ≡ n = cc in
    let b : least_of q r ≡ p = cc in
    (sym a, rw (← b) (least_of_lem q r))

reaches : (text : List ℕ) (items : List Item) (o : Outcome (List Noted)) (ns : List Noted) (rs : List Record) (n p : ℕ) → first_fault (checks_of text items o ns rs) ≡ fault n p → 10 ≤ n → (n ≡ 10) × Least p (token_places text items (faults10 rs ns))
unfolding checks_of
reaches text items o ns rs n p e h =
    let a = pass 1 n p _ _ e (λ z. omega arith) in
    let b = pass 2 n p _ _ a.1 (λ z. omega arith) in
    let c = pass 3 n p _ _ b.1 (λ z. omega arith) in
    let d = pass 4 n p _ _ c.1 (λ z. omega arith) in
    let f = pass 5 n p _ _ d.1 (λ z. omega arith) in
    let g = pass 6 n p _ _ f.1 (λ z. omega arith) in
    let i = pass 7 n p _ _ g.1 (λ z. omega arith) in
    let j = pass 8 n p _ _ i.1 (λ z. omega arith) in
    let k = pass 9 n p _ _ j.1 (λ z. omega arith) in
    tenth n p _ k.1

refused_fault : (text : List ℕ) (n p : ℕ) → verdict text ≡ refused n p → first_fault (checks text) ≡ fault n p
unfolding verdict
refused_fault text n p v = go (first_fault (checks text)) v
  where
    go : (f : Finding) → verdict_of f (records_of_text text) ≡ refused n p → f ≡ fault n p
    go clean e = unfold verdict_of in (let z : ◌≡◌ {A = ℕ} 0 1 = cc in absurd (omega arith))
    go (fault m r) e = unfold verdict_of in (let x : m ≡ n = cc in let y : r ≡ p = cc in rw (x, y))

last_check : (text : List ℕ) (n p : ℕ) → verdict text ≡ refused n p → 10 ≤ n → (n ≡ 10) × Least p (token_places text (items_of text) (faults10 (records_of_text text) (noted_of (outcome_of text))))
last_check text n p v h = reaches text (items_of text) (outcome_of text) (noted_of (outcome_of text)) (records_of_text text) n p (unfold checks checks_from checks_after in (refused_fault text n p v)) h

-- ---- T6

records_length : (text : List ℕ) → length (records_of_text text) ≡ length (noted_of (outcome_of text))
unfolding records_of
records_length text = length_records (top_names (declarations_of (noted_of (outcome_of text)))) (declarations_of (noted_of (outcome_of text))) ∙ sym (noted_length (noted_of (outcome_of text)))

-- the endless parameters are those at the check's places
module _ (text : List ℕ) (p : ℕ) (v : verdict text ≡ refused 10 p) where
  abbrev rs : List Record
  rs = records_of_text text

  formed : Formed rs
  formed = let x = text_ten text p v in record { fine = x.0; seven = x.1; eight = x.2 }

  least : Least p (token_places text (items_of text) (faults10 rs (noted_of (outcome_of text))))
  least = (last_check text 10 p v (omega arith)).1

  endless_at : (q : ℕ) → Compound text q → (LawfulValue rs q → ⊥) → p ≤ name_place text q
  unfolding name_place
  endless_at q c f =
      let e = (endless_iff rs formed q c.0).1 (c.1, f) in
      let z : q ≡ 0 + q = omega arith in
      least.1 (token_place text (items_of text) (get_or (name_spots (noted_of (outcome_of text))) q 0)) (in_spots text (items_of text) (is_endless (finites rs)) 0 rs (noted_of (outcome_of text)) (records_length text) q c.0 (ap (λ j. is_endless (finites rs) j (record_at rs q)) (sym z) ∙ e))

  first_endless : FirstEndless text p
  unfolding name_place
  first_endless =
      let g = spots_in_lem text (items_of text) (is_endless (finites rs)) 0 rs (noted_of (outcome_of text)) p least.0 in
      let z : g.0 ≡ 0 + g.0 = omega arith in
      let x = (endless_iff rs formed g.0 g.1).0 (ap (λ j. is_endless (finites rs) j (record_at rs g.0)) z ∙ g.2) in
      record { parameter = g.0; compound = (g.1, x.0); no_value = x.1; named = g.3; first = endless_at }

  only_first : (place : ℕ) → FirstEndless text place → p ≡ place
  only_first place f =
      let g = first_endless in
      let a = endless_at f.parameter f.compound f.no_value in
      let b = f.first g.parameter g.compound g.no_value in
      omega (arith, a, b, f.named, g.named)

-- a text that compiles has no endless parameter
no_endless : (text bytes : List ℕ) (place : ℕ) → verdict text ≡ table bytes → FirstEndless text place → ⊥
no_endless text bytes place v f =
    f.no_value (rules_values parameter_limit (records_of_text text) (text_rules_records text bytes v) f.parameter f.compound.0 f.compound.1)

pub endless_promise : (text : List ℕ) (room : ℕ) → EndlessPromise text (compile_answer text room)
unfolding compile_answer
endless_promise text room free place = by (verdict text) refl free
  where
    not_10 : (bytes : List ℕ) (b : Bool) → pick b (refusal 11 (length bytes)) (compiled (length bytes)) ≡ refusal 10 place → ⊥
    not_10 bytes true e = unfold pick in (let z : ◌≡◌ {A = ℕ} 11 10 = cc in omega arith)
    not_10 bytes false e = unfold pick in (let z : ◌≡◌ {A = ℕ} 0 1 = cc in omega arith)

    by : (w : Verdict) → verdict text ≡ w → ((n p : ℕ) → answer_with_room room w ≡ refusal n p → 10 ≤ n) → (answer_with_room room w ≡ refusal 10 place) ↔ FirstEndless text place
    by (table bytes) v h = unfold answer_with_room in ((λ e. absurd (not_10 bytes (ltb room (length bytes)) e)), λ f. absurd (no_endless text bytes place v f))
    by (refused n p) v h = unfold answer_with_room in (given (last_check text n p v (h n p (unfold answer_with_room in refl))).0)
      where
        given : n ≡ 10 → (refusal n p ≡ refusal 10 place) ↔ FirstEndless text place
        given q =
            let w : verdict text ≡ refused 10 p = v ∙ ap (λ m. refused m p) q in (
              (λ e. let z : p ≡ place = cc in rw (← z) (first_endless text p w)),
              λ f. rw (q, only_first text p w place f) refl,
            )
