-- The checks of a text in their order, and what its answer promises.
use Rattle.std.specs.Prelude.{Option, Some, None, Result as Answer, Ok, Err}
use mathlib.Core.Path.{◌≡◌, refl, ap, sym, ◌∙◌, subst}
use mathlib.Core.List.{List, [], ◌∷◌, ◌++◌}
use Prim.Native.Nat.{ℕ, ◌≤◌, ◌<◌}
use native.Mathlib.Omega.{arith}
use lib.ListN.{length, drop_of_length-le}
use borrow.Author.Tests.{lt-ltb, le-ltb}
use Rattle.numbers.specs.Limits.{text_limit, parameter_limit}
use Rattle.numbers.specs.Rules.{rule_number}
use Rattle.numbers.specs.declared.Refusal.{Refusal}
use Rattle.numbers.specs.declared.Rule.TheVariants.{DefinitionTokens}
use Rattle.reading_rules.specs.Record.{Record, Before}
use Rattle.definition_rules.specs.Table.{number_up}
use Rattle.definition_rules.specs.Scan.{Item, items_of, text_tokens_of, place_if}
use Rattle.definition_rules.specs.Declarations.{Noted, Outcome, stuck_at, complete, declarations_of}
use Rattle.definition_rules.specs.Records.{records_of, top_names}
use Rattle.definition_rules.specs.Finite.{finites, is_endless}
use Rattle.definition_rules.specs.Faults.{spots_where, name_spots, name_broken, reference_broken, tag_broken, range_broken, count_broken, void_many, count_on_alternative, kinds_of, rule7_broken, tag_repeated, root_no_struct, dangling, faults4, faults5, faults6, faults7, faults8, faults9, faults10}
use Rattle.definition_rules.specs.Compile.{Check, check, Finding, fault, least_of, first_fault, token_place, token_places, faults1, faults2, faults3, noted_of, outcome_of, records_of_text, checks_of, checks_after, checks_from, checks, Verdict, refused, verdict_of, verdict, CompileAnswer, refusal, answer_with_room, compile_answer, lent_after, table_after}
use Rattle.definition_rules.specs.Stuck.{StuckPromise}
use Rattle.definition_cutting.proofs.Stuck.{stuck_promise}
use Rattle.table_rules.specs.Endless.{EndlessPromise}
use Rattle.table_rules.proofs.Ten.{endless_promise}
use Rattle.definition_cells.specs.Cells.{cell_at, noted_from}
use Rattle.definition_cells.specs.Places.{least_place}
use Rattle.definition_writer.proofs.Parents.{parents_before}
use Rattle.definition_forms.specs.Placed.{placed_by}
use Rattle.definition_forms.specs.Formed.{StuckIn, OverIn, CompleteIn, RefusedAs, stuck_in, over_in}
use Rattle.definition_forms.proofs.PlacedLaws.{natural_type, natural_range, natural_name, natural_card, natural_tag, places_append, where_placed, records_placed, repeated_placed, declared_placed}
use Rattle.definition.specs.Answers.{answer_of_compile, refused_at, checks7to10, checks5to10, records_of_cells, verdict_from}
use Rattle.definition.proofs.Order.{hit, pass, refused_there, passed_there, refuses}
use Rattle.definition_rules.proofs.Spots.{names_length}

module _ (text : List ℕ) where
  abbrev items : List Item
  items = items_of text

  -- the checks, with what the forms came to
  checks_are : (o : Outcome (List Noted)) → outcome_of text ≡ o → checks text ≡ checks_of text items o (noted_of o) (records_of (declarations_of (noted_of o)))
  unfolding checks checks_from checks_after
  checks_are o e = ap (λ x. checks_of text (items_of text) x (noted_of x) (records_of (declarations_of (noted_of x)))) e

  short : length text ≤ text_limit → least_place (faults1 text) ≡ None
  unfolding faults1 place_if least_place
  short h = rw (le-ltb text_limit (length text) h)

  long : text_limit < length text → least_place (faults1 text) ≡ Some text_limit
  unfolding faults1 place_if least_place least_of
  long h = rw (lt-ltb text_limit (length text) h)

  found : (f : Finding) → first_fault (checks text) ≡ f → verdict text ≡ verdict_of f (records_of_text text)
  unfolding verdict
  found f e = ap (λ g. verdict_of g (records_of_text text)) e

  faulted : (k p : ℕ) → first_fault (checks text) ≡ fault k p → verdict text ≡ refused k p
  unfolding verdict_of
  faulted k p e = found (fault k p) e

  pub one : text_limit < length text → verdict text ≡ refused 1 text_limit
  unfolding checks_of
  one h = faulted 1 text_limit (ap first_fault (checks_are (outcome_of text) refl) ∙ hit 1 (faults1 text) _ text_limit (long h))

  module _ (h : length text ≤ text_limit) (place : Option ℕ) (is : place ≡ least_place (faults2 items)) where
    pub two : (x : Refusal) → refused_at DefinitionTokens place ≡ Err x → verdict text ≡ refused (rule_number x.rule) x.place
    unfolding checks_of
    two x e =
        faulted (rule_number x.rule) x.place
        (ap first_fault (checks_are (outcome_of text) refl) ∙ (pass 1 (faults1 text) _ (short h) ∙ sym (refused_there DefinitionTokens place (faults2 items) _ is x e)))

    pub past_two : (u : Unit {0}) → refused_at DefinitionTokens place ≡ Ok u → least_place (faults2 items) ≡ None
    past_two = passed_there DefinitionTokens place (faults2 items) [] is

  module _ (h : length text ≤ text_limit) (b : least_place (faults2 items) ≡ None) where
    -- past 1 and 2
    past : (o : Outcome (List Noted)) (cs : List Check) → outcome_of text ≡ o → checks_of text items o (noted_of o) (records_of (declarations_of (noted_of o))) ≡ check 1 (faults1 text) ∷ check 2 (faults2 items) ∷ cs → first_fault (checks text) ≡ first_fault cs
    past o cs e q = ap first_fault (checks_are o e ∙ q) ∙ (pass 1 (faults1 text) _ (short h) ∙ pass 2 (faults2 items) cs b)

    one_place : (p : ℕ) → least_place (p ∷ []) ≡ Some p
    unfolding least_place least_of
    one_place p = refl

    three : (p : ℕ) → StuckIn text p → verdict text ≡ refused 3 p
    unfolding checks_of faults3 token_places
    three p s = faulted 3 p (past (stuck_at s.spot) _ s.is refl ∙ hit 3 (token_place text items s.spot ∷ []) _ p (one_place (token_place text items s.spot) ∙ ap Some s.place))

    no_place : least_place [] ≡ None
    unfolding least_place
    no_place = refl

    -- past 3
    past_three : (ns : List Noted) → outcome_of text ≡ complete ns → first_fault (checks text) ≡ first_fault (check 4 (token_places text items (faults4 parameter_limit ns)) ∷ check 5 (token_places text items (faults5 ns)) ∷ check 6 (token_places text items (faults6 (records_of (declarations_of ns)) ns)) ∷ check 7 (token_places text items (faults7 (records_of (declarations_of ns)) ns)) ∷ check 8 (token_places text items (faults8 (records_of (declarations_of ns)) ns)) ∷ check 9 (token_places text items (faults9 (records_of (declarations_of ns)) ns)) ∷ check 10 (token_places text items (faults10 (records_of (declarations_of ns)) ns)) ∷ [])
    unfolding checks_of faults3 token_places noted_of
    past_three ns e = past (complete ns) _ e refl ∙ pass 3 [] _ no_place

    first_least : (p : ℕ) (r ps : List ℕ) → ps ≡ p ∷ r → least_of p r ≡ p → least_place ps ≡ Some p
    unfolding least_place
    first_least p r ps e q = rw (e, q)

    four : (p : ℕ) → OverIn text p → verdict text ≡ refused 4 p
    four p s = faulted 4 p (past_three s.list s.is ∙ hit 4 (token_places text items (faults4 parameter_limit s.list)) _ p (first_least p s.rest _ s.places s.least))

    -- what the forms refuse
    pub formed : (x : Refusal) → RefusedAs text x → verdict text ≡ refused (rule_number x.rule) x.place
    formed x (stuck_in r s) = rw r (three x.place s)
    formed x (over_in r s) = rw r (four x.place s)

    -- 5 to 10 over declarations with places
    abbrev by : List Noted → List Noted
    by ns = placed_by (token_place text items) ns

    join : (xs ys us vs : List ℕ) → token_places text items xs ≡ us → token_places text items ys ≡ vs → token_places text items (xs ++ ys) ≡ us ++ vs
    join xs ys us vs a c = places_append text items xs ys ∙ (ap (λ l. l ++ token_places text items ys) a ∙ ap (λ l. us ++ l) c)

    five : (ns : List Noted) → token_places text items (faults5 ns) ≡ faults5 (by ns)
    five ns =
        join _ _ _ _ (where_placed text items name_broken (λ s. s.name_at) natural_name ns)
        (join _ _ _ _ (where_placed text items reference_broken (λ s. s.type_at) natural_type ns) (where_placed text items tag_broken (λ s. s.tag_at) natural_tag ns))

    module _ (ns : List Noted) (rs : List Record) where
      six : token_places text items (faults6 rs ns) ≡ faults6 rs (by ns)
      six =
          join _ _ _ _ (where_placed text items range_broken (λ s. s.range_at) natural_range ns)
          (join _ _ _ _ (where_placed text items count_broken (λ s. s.card_at) natural_card ns)
          (join _ _ _ _ (records_placed text items void_many (λ s. s.card_at) natural_card 0 rs ns)
          (where_placed text items (count_on_alternative (kinds_of (declarations_of ns))) (λ s. s.card_at) natural_card ns
          ∙ ap (λ d. spots_where (count_on_alternative (kinds_of d)) (λ s. s.card_at) (by ns)) (sym (declared_placed (token_place text items) ns)))))

      seven : token_places text items (faults7 rs ns) ≡ faults7 rs (by ns)
      seven = records_placed text items (rule7_broken rs) (λ s. s.name_at) natural_name 0 rs ns

      eight : token_places text items (faults8 rs ns) ≡ faults8 rs (by ns)
      eight = join _ _ _ _ (repeated_placed text items [] ns) (records_placed text items (tag_repeated rs) (λ s. s.tag_at) natural_tag 0 rs ns)

      nine : token_places text items (faults9 rs ns) ≡ faults9 rs (by ns)
      nine =
          join _ _ _ _ (records_placed text items root_no_struct (λ s. s.name_at) natural_name 0 rs ns)
          (where_placed text items (dangling (top_names (declarations_of ns))) (λ s. s.type_at) natural_type ns
          ∙ ap (λ d. spots_where (dangling (top_names d)) (λ s. s.type_at) (by ns)) (sym (declared_placed (token_place text items) ns)))

      ten : token_places text items (faults10 rs ns) ≡ faults10 rs (by ns)
      ten = records_placed text items (is_endless (finites rs)) (λ s. s.name_at) natural_name 0 rs ns

    few_names : (ns : List Noted) → length ns ≤ parameter_limit → least_place (token_places text items (faults4 parameter_limit ns)) ≡ None
    unfolding token_places least_place
    few_names ns l = ap (λ x. least_place (token_places text items x)) (drop_of_length-le (name_spots ns) {i = parameter_limit} (omega (arith, names_length ns)))

    from_text : (ns : List Noted) → outcome_of text ≡ complete ns → length ns ≤ parameter_limit → first_fault (checks text) ≡ first_fault (checks5to10 (records_of (declarations_of ns)) (by ns))
    unfolding checks5to10 checks7to10
    from_text ns e l =
        past_three ns e ∙ (pass 4 (token_places text items (faults4 parameter_limit ns)) _ (few_names ns l)
        ∙ rw (five ns, six ns (records_of (declarations_of ns)), seven ns (records_of (declarations_of ns)), eight ns (records_of (declarations_of ns)), nine ns (records_of (declarations_of ns)), ten ns (records_of (declarations_of ns))))

    pub further : (cells : List ℕ) (n : ℕ) → CompleteIn text cells n → verdict text ≡ verdict_from text cells n
    unfolding verdict_from
    further cells n s =
        let q : by s.list ≡ noted_from text cells n 0 = sym s.kept in
        let d : declarations_of s.list ≡ declarations_of (noted_from text cells n 0) = sym (declared_placed (token_place text items) s.list) ∙ ap declarations_of q in
        let r : records_of (declarations_of s.list) ≡ records_of_cells text cells n = ap records_of d in
        let t : records_of_text text ≡ records_of_cells text cells n = records_are s.list s.is ∙ r in
        found _ (from_text s.list s.is (omega (arith, s.counted, s.few)))
        ∙ (ap (λ x. verdict_of (first_fault (checks5to10 (records_of (declarations_of s.list)) x)) (records_of_text text)) q
        ∙ (ap (λ x. verdict_of (first_fault (checks5to10 x (noted_from text cells n 0))) (records_of_text text)) r
        ∙ ap (verdict_of (first_fault (checks5to10 (records_of_cells text cells n) (noted_from text cells n 0)))) t))
      where
        records_are : (ns : List Noted) → outcome_of text ≡ complete ns → records_of_text text ≡ records_of (declarations_of ns)
        records_are ns e = unfold noted_of in (ap (λ o. records_of (declarations_of (noted_of o))) e)

    -- the declarations stand after those whose bodies they are in
    pub parents : (cells : List ℕ) (n : ℕ) → CompleteIn text cells n → (i : ℕ) → i < n → Before i (number_up (cell_at cells i 15))
    parents cells n s = parents_before text cells n (text_tokens_of items) s.list s.is (ap declarations_of s.kept ∙ declared_placed (token_place text items) s.list)

-- ---- the promise

abbrev pub Promised : List ℕ → List ℕ → List ℕ → CompileAnswer → Type 0
Promised text lent after a = (a ≡ compile_answer text (length lent)) × ((after ≡ table_after text lent) × (StuckPromise text a × EndlessPromise text a))

pub keeps : (text lent after : List ℕ) (a : CompileAnswer) (v : Verdict) → verdict text ≡ v → (a ≡ answer_with_room (length lent) v) × (after ≡ lent_after v lent) → Promised text lent after a
unfolding compile_answer table_after
keeps text lent after a v e x =
    let q : a ≡ compile_answer text (length lent) = x.0 ∙ ap (answer_with_room (length lent)) (sym e) in
    (q, (x.1 ∙ ap (λ w. lent_after w lent) (sym e), (subst (StuckPromise text) (sym q) (stuck_promise text (length lent)), subst (EndlessPromise text) (sym q) (endless_promise text (length lent)))))

-- a refusal leaves the lent table as it was
pub keeps_refused : (text lent : List ℕ) (a : Answer ℕ Refusal) (x : Refusal) → a ≡ Err x → verdict text ≡ refused (rule_number x.rule) x.place → Promised text lent lent (answer_of_compile a)
keeps_refused text lent a x q e = rw q (keeps text lent lent (refusal (rule_number x.rule) x.place) (refused (rule_number x.rule) x.place) e (refuses (refused (rule_number x.rule) x.place) lent (rule_number x.rule) x.place refl))
