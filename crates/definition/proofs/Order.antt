-- The checks in their order: a law for each way that the compiler goes.
use Rattle.std.specs.Prelude.{Option, Some, None, Result as Answer, Ok, Err}
use mathlib.Core.Path.{◌≡◌, refl, ap, sym, subst, ◌∙◌}
use mathlib.Core.Bool.{Bool}
use mathlib.Core.List.{List, [], ◌∷◌, ◌++◌}
use Prim.Native.Nat.{ℕ, ◌-◌, ◌≤◌, ◌<◌}
use native.Mathlib.Omega.{arith}
use lib.ListN.{length, take, drop, length-append}
use lib.Seq.{sets, take_at}
use borrow.Author.Tests.{lt-ltb, le-ltb}
use Rattle.classes.specs.Lists.{pick, part}
use Rattle.numbers.specs.Limits.{parameter_limit}
use Rattle.numbers.specs.Rules.{rule_number}
use Rattle.numbers.specs.declared.Refusal.{Refusal}
use Rattle.numbers.specs.declared.Rule.{Rule}
use Rattle.numbers.specs.declared.Rule.TheVariants.{LabelForm, RangeForm, Placement, LabelTwice, Target, Endless}
use Rattle.reading_rules.specs.Record.{Record, Before, AfterParents}
use Rattle.definition_rules.specs.Declarations.{Noted, declarations_of}
use Rattle.definition_rules.specs.Records.{top_names}
use Rattle.definition_rules.specs.Table.{encode, number_up, just, decode}
use Rattle.definition_rules.specs.Finite.{finites, is_endless}
use Rattle.definition_rules.specs.Faults.{spots_where, record_spots, rule7_broken, tag_repeated, root_no_struct, dangling, repeated_names, faults5, faults6, faults7, faults8, faults9, faults10}
use Rattle.definition_rules.specs.Compile.{Check, check, Finding, clean, fault, least_of, finding_of, first_fault, Verdict, refused, table, verdict_of, compiled, refusal, answer_with_room, lent_after}
use Rattle.definition_cells.specs.Cells.{cell_at, noted_from}
use Rattle.definition_cells.specs.Places.{at_if, lesser, least_place, least_from}
use Rattle.definition_cells.proofs.PlaceLaws.{least_append, from_same}
use Rattle.table_records.specs.Stored.{records_at}
use Rattle.table_records.specs.Shown.{held_record, held_records}
use Rattle.table_records.specs.declared.Records.{Records}
use Rattle.table_records.proofs.Laws.{length_records}
use Rattle.table_walk.specs.Walked.{RecordsCounted, Uncounted}
use Rattle.table_checks.specs.Sweeps.{HasFinites}
use Rattle.definition_faults.specs.RecordFaults.{name_fault, tag_fault}
use Rattle.definition_faults.proofs.FaultLaws.{spots_from}
use Rattle.definition_writer.specs.Written.{WroteRecords, records_written}
use Rattle.definition_writer.proofs.Widths.{labels_short}
use Rattle.definition_writer.proofs.Parents.{parents_fit}
use Rattle.definition_writer.proofs.ReadBack.{Held, held}
use Rattle.definition_writer.proofs.WriteLaws.{copied}
use Rattle.definition.specs.Answers.{answer_of_compile, refused_at, stop_finding, checks7to10, checks5to10, records_of_cells, verdict_from}

-- ---- one check

pub hit : (n : ℕ) (ps : List ℕ) (cs : List Check) (p : ℕ) → least_place ps ≡ Some p → first_fault (check n ps ∷ cs) ≡ fault n p
unfolding least_place first_fault finding_of
hit n [] cs p e = let z : ◌≡◌ {A = ℕ} 0 1 = cc in absurd (omega arith)
hit n (q ∷ r) cs p e = let z : least_of q r ≡ p = cc in ap (fault n) z

pub pass : (n : ℕ) (ps : List ℕ) (cs : List Check) → least_place ps ≡ None → first_fault (check n ps ∷ cs) ≡ first_fault cs
unfolding least_place first_fault finding_of
pass n [] cs e = refl
pass n (q ∷ r) cs e = let z : ◌≡◌ {A = ℕ} 0 1 = cc in absurd (omega arith)

no_checks : first_fault [] ≡ clean
unfolding first_fault
no_checks = refl

-- what a place in the code says of a check: it is the one that is refused, or it is passed
module _ (rule : Rule) (place : Option ℕ) (ps : List ℕ) (cs : List Check) (is : place ≡ least_place ps) where
  pub refused_there : (x : Refusal) → refused_at rule place ≡ Err x → fault (rule_number x.rule) x.place ≡ first_fault (check (rule_number rule) ps ∷ cs)
  refused_there x e = by place refl e
    where
      by : (o : Option ℕ) → place ≡ o → refused_at rule o ≡ Err x → fault (rule_number x.rule) x.place ≡ first_fault (check (rule_number rule) ps ∷ cs)
      by None q h = absurd (let z : ◌≡◌ {A = ℕ} 0 1 = cc in omega arith)
      by (Some p) q h =
          let y : record { rule = rule; place = p } ≡ x = cc in
          rw (← y) (sym (hit (rule_number rule) ps cs p (sym is ∙ q)))

  pub passed_there : (u : Unit {0}) → refused_at rule place ≡ Ok u → least_place ps ≡ None
  passed_there u e = by place refl e
    where
      by : (o : Option ℕ) → place ≡ o → refused_at rule o ≡ Ok u → least_place ps ≡ None
      by None q h = sym is ∙ q
      by (Some p) q h = absurd (let z : ◌≡◌ {A = ℕ} 0 1 = cc in omega arith)

-- the last check
last_there : (rule : Rule) (place : Option ℕ) (ps : List ℕ) → place ≡ least_place ps → stop_finding (refused_at rule place) ≡ first_fault (check (rule_number rule) ps ∷ [])
last_there rule None ps e = sym (pass (rule_number rule) ps [] (sym e) ∙ no_checks)
last_there rule (Some p) ps e = sym (hit (rule_number rule) ps [] p (sym e))

-- ---- the records' checks, as they are judged on a table's bytes

module _ (text cs : List ℕ) (n : ℕ) (r : Records) (as_many : n ≡ r.count) where
  abbrev rs : List Record
  rs = held_records r

  abbrev ns : List Noted
  ns = noted_from text cs n 0

  spots : (f : ℕ → Record → Bool) → least_from (name_fault f cs r) r.count 0 ≡ least_place (record_spots f (λ s. s.name_at) 0 rs ns)
  spots f = rw as_many (sym (spots_from f (λ s. s.name_at) text cs r.table.now r.unpacked.now r.count 0))

  tags : least_from (tag_fault cs r) r.count 0 ≡ least_place (record_spots (tag_repeated rs) (λ s. s.tag_at) 0 rs ns)
  tags = rw as_many (sym (spots_from (tag_repeated rs) (λ s. s.tag_at) text cs r.table.now r.unpacked.now r.count 0))

  eight : (a b : Option ℕ) → a ≡ least_place (repeated_names [] ns) → b ≡ least_from (tag_fault cs r) r.count 0 → lesser a b ≡ least_place (faults8 rs ns)
  eight a b x y = rw (x, y, tags) (sym (least_append (repeated_names [] ns) (record_spots (tag_repeated rs) (λ s. s.tag_at) 0 rs ns)))

  nine : (a b : Option ℕ) → a ≡ least_from (name_fault root_no_struct cs r) r.count 0 → b ≡ least_place (spots_where (dangling (top_names (declarations_of ns))) (λ s. s.type_at) ns) → lesser a b ≡ least_place (faults9 rs ns)
  nine a b x y = rw (x, y, spots root_no_struct) (sym (least_append (record_spots root_no_struct (λ s. s.name_at) 0 rs ns) (spots_where (dangling (top_names (declarations_of ns))) (λ s. s.type_at) ns)))

  ten : (have : List Bool) → HasFinites rs have → least_from (name_fault (is_endless have) cs r) r.count 0 ≡ least_place (faults10 rs ns)
  ten have h = from_same (name_fault (is_endless have) cs r) (name_fault (is_endless (finites rs)) cs r) (λ j. ap (λ b. at_if b (cell_at cs j 4)) (same j)) r.count 0 ∙ spots (is_endless (finites rs))
    where
      same : (j : ℕ) → is_endless have j (held_record r j) ≡ is_endless (finites rs) j (held_record r j)
      same j = unfold is_endless in (rw (h j))

  -- where one of them refuses, and what follows where it passes
  module _ (p7 : Option ℕ) (is7 : p7 ≡ least_from (name_fault (rule7_broken rs) cs r) r.count 0) where
    pub at_seven : (x : Refusal) → refused_at Placement p7 ≡ Err x → fault (rule_number x.rule) x.place ≡ first_fault (checks7to10 rs ns)
    unfolding checks7to10
    at_seven x e = refused_there Placement p7 (faults7 rs ns) _ (is7 ∙ spots (rule7_broken rs)) x e

    module _ (u7 : Unit {0}) (ok7 : refused_at Placement p7 ≡ Ok u7) (names tagged : Option ℕ) (isn : names ≡ least_place (repeated_names [] ns)) (ist : tagged ≡ least_from (tag_fault cs r) r.count 0) where
      past7 : least_place (faults7 rs ns) ≡ None
      past7 = passed_there Placement p7 (faults7 rs ns) [] (is7 ∙ spots (rule7_broken rs)) u7 ok7

      pub at_eight : (x : Refusal) → refused_at LabelTwice (lesser names tagged) ≡ Err x → fault (rule_number x.rule) x.place ≡ first_fault (checks7to10 rs ns)
      unfolding checks7to10
      at_eight x e = refused_there LabelTwice (lesser names tagged) (faults8 rs ns) _ (eight names tagged isn ist) x e ∙ sym (pass 7 (faults7 rs ns) _ past7)

      module _ (u8 : Unit {0}) (ok8 : refused_at LabelTwice (lesser names tagged) ≡ Ok u8) (root lost : Option ℕ)
          (isr : root ≡ least_from (name_fault root_no_struct cs r) r.count 0) (isl : lost ≡ least_place (spots_where (dangling (top_names (declarations_of ns))) (λ s. s.type_at) ns)) where
        past8 : least_place (faults8 rs ns) ≡ None
        past8 = passed_there LabelTwice (lesser names tagged) (faults8 rs ns) [] (eight names tagged isn ist) u8 ok8

        pub at_nine : (x : Refusal) → refused_at Target (lesser root lost) ≡ Err x → fault (rule_number x.rule) x.place ≡ first_fault (checks7to10 rs ns)
        unfolding checks7to10
        at_nine x e = refused_there Target (lesser root lost) (faults9 rs ns) _ (nine root lost isr isl) x e ∙ sym (pass 7 (faults7 rs ns) _ past7 ∙ pass 8 (faults8 rs ns) _ past8)

        pub at_ten : (u9 : Unit {0}) → refused_at Target (lesser root lost) ≡ Ok u9 → (have : List Bool) → HasFinites rs have → (p10 : Option ℕ) → p10 ≡ least_from (name_fault (is_endless have) cs r) r.count 0
            → stop_finding (refused_at Endless p10) ≡ first_fault (checks7to10 rs ns)
        unfolding checks7to10
        at_ten u9 ok9 have h p10 is10 =
            let past9 : least_place (faults9 rs ns) ≡ None = passed_there Target (lesser root lost) (faults9 rs ns) [] (nine root lost isr isl) u9 ok9 in
            last_there Endless p10 (faults10 rs ns) (is10 ∙ ten have h)
            ∙ sym (pass 7 (faults7 rs ns) _ past7 ∙ (pass 8 (faults8 rs ns) _ past8 ∙ pass 9 (faults9 rs ns) _ past9))

-- ---- from the declarations on

module _ (text cs : List ℕ) (n : ℕ) where
  abbrev kept : List Noted
  kept = noted_from text cs n 0

  abbrev records : List Record
  records = records_of_cells text cs n

  module _ (place : Option ℕ) (is : place ≡ least_place (faults5 kept)) where
    pub refused_five : (x : Refusal) → refused_at LabelForm place ≡ Err x → verdict_from text cs n ≡ refused (rule_number x.rule) x.place
    unfolding verdict_from checks5to10 verdict_of
    refused_five x e = ap (λ f. verdict_of f records) (sym (refused_there LabelForm place (faults5 kept) _ is x e))

    pub passed_five : (u : Unit {0}) → refused_at LabelForm place ≡ Ok u → least_place (faults5 kept) ≡ None
    passed_five = passed_there LabelForm place (faults5 kept) [] is

  module _ (a : least_place (faults5 kept) ≡ None) where
    module _ (place : Option ℕ) (is : place ≡ least_place (faults6 records kept)) where
      pub refused_six : (x : Refusal) → refused_at RangeForm place ≡ Err x → verdict_from text cs n ≡ refused (rule_number x.rule) x.place
      unfolding verdict_from checks5to10 verdict_of
      refused_six x e = ap (λ f. verdict_of f records) (pass 5 (faults5 kept) _ a ∙ sym (refused_there RangeForm place (faults6 records kept) _ is x e))

      pub passed_six : (u : Unit {0}) → refused_at RangeForm place ≡ Ok u → least_place (faults6 records kept) ≡ None
      passed_six = passed_there RangeForm place (faults6 records kept) [] is

    module _ (b : least_place (faults6 records kept) ≡ None) where
      later : (f : Finding) → f ≡ first_fault (checks7to10 records kept) → verdict_from text cs n ≡ verdict_of f records
      unfolding verdict_from checks5to10
      later f e = ap (λ g. verdict_of g records) (pass 5 (faults5 kept) _ a ∙ (pass 6 (faults6 records kept) _ b ∙ sym e))

      pub later_fault : (k p : ℕ) → fault k p ≡ first_fault (checks7to10 records kept) → verdict_from text cs n ≡ refused k p
      unfolding verdict_of
      later_fault k p e = later (fault k p) e

      pub later_clean : clean ≡ first_fault (checks7to10 records kept) → verdict_from text cs n ≡ table (encode records)
      unfolding verdict_of
      later_clean e = later clean e

  -- what the writer made of declarations without a fault 5
  pub wrote : (len : ℕ) (scratch after : List ℕ) → n ≤ parameter_limit → ((i : ℕ) → i < n → Before i (number_up (cell_at cs i 15))) → least_place (faults5 kept) ≡ None → length scratch ≡ 22528 → WroteRecords (records_written text cs n) len scratch after → Held (records_written text cs n) n len scratch after
  wrote len scratch after few parents e long w =
      held text cs n len scratch after (record { few = few; parents = parents_fit cs n parents few; labels = labels_short text cs n e }) (omega arith) w

-- the front of what was written
pub front : (p s : List ℕ) (len : ℕ) → p ≡ part s 0 len → p ≡ take len s
front p s len e = let q : len - 0 ≡ len = omega arith in e ∙ rw q

-- ---- the records of a table, unpacked

module _ (t unpacked : List ℕ) (n : ℕ) (rs : List Record) (d : decode t ≡ just rs) (l : length rs ≡ n) where
  module _ (m : ℕ) (c : RecordsCounted t unpacked m) where
    these : records_at t unpacked m ≡ rs
    these = let q : just (records_at t unpacked m) ≡ just rs = sym c.these ∙ d in cc

    pub as_many : n ≡ m
    as_many = sym (sym (length_records t unpacked m 0) ∙ (ap length these ∙ l))

    pub unpacked_after : AfterParents rs → AfterParents (records_at t unpacked m)
    unpacked_after w = subst AfterParents (sym these) w

    -- what the checks say of the records unpacked, they say of those of the table
    pub unpacked_fault : (ns : List Noted) (o : Finding) → o ≡ first_fault (checks7to10 (records_at t unpacked m) ns) → o ≡ first_fault (checks7to10 rs ns)
    unpacked_fault ns o e = e ∙ rw these

  pub unpacked_none : {X : Type 0} → n ≤ parameter_limit → Uncounted t → X
  unpacked_none f u = absurd (omega (arith, u rs d, l, f))

-- ---- the answer and the lent table after

pub refuses : (v : Verdict) (lent : List ℕ) (k p : ℕ) → v ≡ refused k p → (refusal k p ≡ answer_with_room (length lent) v) × (lent ≡ lent_after v lent)
unfolding answer_with_room lent_after
refuses v lent k p e = rw e (refl, refl)

pub refuses_as : (v : Verdict) (lent : List ℕ) (a : Answer ℕ Refusal) (x : Refusal) → a ≡ Err x → v ≡ refused (rule_number x.rule) x.place → (answer_of_compile a ≡ answer_with_room (length lent) v) × (lent ≡ lent_after v lent)
refuses_as v lent a x q e = rw q (refuses v lent (rule_number x.rule) x.place e)

pub lacks_room : (v : Verdict) (lent : List ℕ) (rs : List Record) (len : ℕ) → v ≡ table (encode rs) → len ≡ length (encode rs) → length lent < len → (refusal 11 len ≡ answer_with_room (length lent) v) × (lent ≡ lent_after v lent)
unfolding answer_with_room lent_after pick
lacks_room v lent rs len e q h = rw (e, q, lt-ltb (length lent) (length (encode rs)) (omega arith)) (refl, refl)

pub fills : (v : Verdict) (lent after scratch made : List ℕ) (rs : List Record) (len : ℕ) → v ≡ table (encode rs) → len ≡ length (encode rs) → len ≤ length lent → made ≡ encode rs ++ drop len scratch → after ≡ sets lent 0 (take len made) → (compiled len ≡ answer_with_room (length lent) v) × (after ≡ lent_after v lent)
unfolding answer_with_room lent_after pick
fills v lent after scratch made rs len e q h m a =
    let g : len ≤ length made = omega (arith, ap length m, length-append (encode rs) (drop len scratch)) in
    let t : take len made ≡ encode rs = ap (take len) m ∙ take_at (encode rs) (drop len scratch) len (sym q) in
    let c : after ≡ encode rs ++ drop len lent = a ∙ (copied made lent len g h ∙ ap (λ l. l ++ drop len lent) t) in
    rw (e, ← q, le-ltb (length lent) len h) (refl, c)
