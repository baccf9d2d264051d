-- T3 over texts: number 3 is given exactly when the tokens don't fit the forms, at the first one that can't go on.
use mathlib.Core.Path.{◌≡◌, refl, ap, sym, ◌∙◌}
use mathlib.Core.Bool.{Bool, true, false}
use mathlib.Core.List.{List, [], ◌∷◌}
use Prim.Native.Nat.{ℕ, ◌≤◌}
use native.Mathlib.Omega.{arith}
use lib.Dec.{ltb}
use lib.ListN.{length, get_or}
use Rattle.classes.specs.Lists.{pick}
use Rattle.reading_rules.specs.Record.{Record}
use Rattle.definition_rules.specs.Scan.{Item, items_of, text_tokens_of}
use Rattle.definition_rules.specs.Forms.{StuckBy}
use Rattle.definition_rules.specs.Declarations.{Noted, Outcome, stuck_at, complete}
use Rattle.definition_rules.specs.Table.{encode}
use Rattle.definition_rules.specs.Compile.{Check, check, Finding, clean, fault, least_of, finding_of, first_fault, token_place, token_places, faults1, faults2, faults3, outcome_of, records_of_text, checks_of, checks_after, checks_from, checks, verdict_of, verdict, compiled, refusal, answer_with_room, compile_answer}
use Rattle.definition_rules.specs.Stuck.{FirstStuck, StuckPromise}
use Rattle.definition_rules.proofs.FirstFault.{pass}
use Rattle.definition_rules.proofs.Theorems.{stuck_iff}
use Rattle.definition_scanner.specs.Live.{live}
use Rattle.definition_scanner.proofs.LiveLaws.{tokens_live, places_live}
use Rattle.definition_cutting.proofs.UniqueCut.{one_cut, only_cut}

-- ---- the third check

third : (text : List ℕ) (items : List Item) (i : ℕ) (ns : List Noted) (rs : List Record) → faults1 text ≡ [] → faults2 items ≡ [] → first_fault (checks_of text items (stuck_at i) ns rs) ≡ fault 3 (token_place text items i)
unfolding checks_of first_fault finding_of faults3 token_places least_of
third text items i ns rs e f = rw (e, f) refl

no_place : (n : ℕ) (f : Finding) (cs : List Check) → first_fault (check n [] ∷ cs) ≡ f → first_fault cs ≡ f
unfolding first_fault finding_of
no_place n f cs e = e

-- tokens that fit are refused with no 3
not_third : (text : List ℕ) (items : List Item) (ms ns : List Noted) (rs : List Record) (p : ℕ) → first_fault (checks_of text items (complete ms) ns rs) ≡ fault 3 p → ⊥
unfolding checks_of faults3 token_places
not_third text items ms ns rs p e =
    let a = pass 1 3 p _ _ e (λ z. omega arith) in
    let b = pass 2 3 p _ _ a.1 (λ z. omega arith) in
    let d = pass 4 3 p _ _ (no_place 3 (fault 3 p) _ b.1) (λ z. omega arith) in
    let f = pass 5 3 p _ _ d.1 (λ z. omega arith) in
    let g = pass 6 3 p _ _ f.1 (λ z. omega arith) in
    let i = pass 7 3 p _ _ g.1 (λ z. omega arith) in
    let j = pass 8 3 p _ _ i.1 (λ z. omega arith) in
    let k = pass 9 3 p _ _ j.1 (λ z. omega arith) in
    let l = pass 10 3 p _ _ k.1 (λ z. omega arith) in
    none l.1
  where
    none : first_fault [] ≡ fault 3 p → ⊥
    none e = unfold first_fault in let z : ◌≡◌ {A = ℕ} 0 1 = cc in omega arith

-- ---- the answer

fault_answer : (text : List ℕ) (room n p : ℕ) → first_fault (checks text) ≡ fault n p → compile_answer text room ≡ refusal n p
unfolding compile_answer verdict verdict_of answer_with_room
fault_answer text room n p e = rw e refl

answer_fault : (text : List ℕ) (room p : ℕ) → compile_answer text room ≡ refusal 3 p → first_fault (checks text) ≡ fault 3 p
unfolding compile_answer verdict
answer_fault text room p e = by (first_fault (checks text)) e
  where
    roomy : (bytes : List ℕ) (b : Bool) → pick b (refusal 11 (length bytes)) (compiled (length bytes)) ≡ refusal 3 p → ⊥
    roomy bytes true e = unfold pick in (let z : ◌≡◌ {A = ℕ} 11 3 = cc in omega arith)
    roomy bytes false e = unfold pick in (let z : ◌≡◌ {A = ℕ} 0 1 = cc in omega arith)

    by : (f : Finding) → answer_with_room room (verdict_of f (records_of_text text)) ≡ refusal 3 p → f ≡ fault 3 p
    by clean e = unfold verdict_of answer_with_room in absurd (roomy (encode (records_of_text text)) (ltb room (length (encode (records_of_text text)))) e)
    by (fault n q) e = unfold verdict_of answer_with_room in (let x : n ≡ 3 = cc in let y : q ≡ p = cc in rw (x, y))

module _ (text : List ℕ) (room : ℕ) (free : (n p : ℕ) → compile_answer text room ≡ refusal n p → 3 ≤ n) where
  no_one : (ps : List ℕ) → faults1 text ≡ ps → faults1 text ≡ []
  no_one [] e = e
  no_one (q ∷ r) e = absurd (let z = free 1 (least_of q r) (fault_answer text room 1 (least_of q r) (unfold checks checks_from checks_after checks_of first_fault finding_of in (rw e refl))) in omega arith)

  no_two : (ps : List ℕ) → faults2 (items_of text) ≡ ps → faults2 (items_of text) ≡ []
  no_two [] e = e
  no_two (q ∷ r) e = absurd (let z = free 2 (least_of q r) (fault_answer text room 2 (least_of q r) (unfold checks checks_from checks_after checks_of first_fault finding_of in (rw (no_one (faults1 text) refl, e) refl))) in omega arith)

  stuck_fault : (i : ℕ) → outcome_of text ≡ stuck_at i → first_fault (checks text) ≡ fault 3 (token_place text (items_of text) i)
  unfolding checks checks_from checks_after
  stuck_fault i e = rw e (third text (items_of text) i _ _ (no_one (faults1 text) refl) (no_two (faults2 (items_of text)) refl))

  -- the tokens and places of the cut are those of the scan
  place_live : (i : ℕ) → token_place text (live (items_of text)) i ≡ token_place text (items_of text) i
  unfolding token_place
  place_live i = ap (λ ps. get_or ps i (length text)) (places_live (items_of text))

  found : (i place : ℕ) → outcome_of text ≡ stuck_at i → first_fault (checks text) ≡ fault 3 place → FirstStuck text place
  found i place o e =
      let w = sym (stuck_fault i o) ∙ e in
      let z : token_place text (items_of text) i ≡ place = cc in
      record {
        items = live (items_of text);
        cut = one_cut text;
        token = i;
        stuck = rw (tokens_live (items_of text)) ((stuck_iff (text_tokens_of (items_of text)) i).0 o);
        stands = sym z ∙ sym (place_live i);
      }

  given : (place : ℕ) → FirstStuck text place → compile_answer text room ≡ refusal 3 place
  given place f =
      let c = only_cut text f.items f.cut in
      let s : StuckBy (text_tokens_of (items_of text)) f.token = rw (c, tokens_live (items_of text)) at f.stuck in
      let o = (stuck_iff (text_tokens_of (items_of text)) f.token).1 s in
      let p : place ≡ token_place text (items_of text) f.token = f.stands ∙ (ap (λ is. token_place text is f.token) c ∙ place_live f.token) in
      fault_answer text room 3 (token_place text (items_of text) f.token) (stuck_fault f.token o) ∙ ap (refusal 3) (sym p)

  fits_none : (place : ℕ) (ns : List Noted) → outcome_of text ≡ complete ns → first_fault (checks text) ≡ fault 3 place → ⊥
  unfolding checks checks_from checks_after
  fits_none place ns q e = not_third text (items_of text) ns _ _ place (rw q at e)

  refused_3 : (place : ℕ) (o : Outcome (List Noted)) → outcome_of text ≡ o → first_fault (checks text) ≡ fault 3 place → FirstStuck text place
  refused_3 place (stuck_at i) q e = found i place q e
  refused_3 place (complete ns) q e = absurd (fits_none place ns q e)

pub stuck_promise : (text : List ℕ) (room : ℕ) → StuckPromise text (compile_answer text room)
stuck_promise text room free place = ((λ e. refused_3 text room free place (outcome_of text) refl (answer_fault text room place e)), given text room free place)
