-- The declaration at hand after an act, and its numbers in a row.
use Rattle.std.specs.Prelude.{Bool, ◌&&◌, ◌||◌, List, [], ◌∷◌, ◌++◌, ℕ, ◌*◌, eqb, ltb}
use Rattle.std.proofs.lemmas.List.Edits.{sets}
use Rattle.classes.specs.Lists.{pick}
use Rattle.definition_cells.specs.Cells.{cell_width}
use Rattle.numbers.specs.Limits.{parameter_limit}
use Rattle.definition_automaton.specs.Names.{reference_run, take_type, take_range, take_name, take_card, take_tag, take_no_tag, take_plugin, end_heading, open_body, take_name_after_range}
use Rattle.definition_automaton.specs.States.{context_of, parent_number, extension_flag, Stand}
use Rattle.definition_automaton.specs.declared.Span.{Span}

-- what was read of a declaration, its numbers as in its cells: its runs; whether a range, a cardinality, plugin is given;
-- which tag; the kind of its type's run
pub record Hand : Type 0 where
  pub typed : Span
  pub range : Span
  pub name : Span
  pub card : Span
  pub tag : Span
  pub ranged : ℕ
  pub carded : ℕ
  pub tagged : ℕ
  pub plugin : ℕ
  pub kind : ℕ

abbrev pub span : ℕ → ℕ → Span
span s e = record { start = s; end = e }

abbrev pub none : Hand
none = record { typed = span 0 0; range = span 0 0; name = span 0 0; card = span 0 0; tag = span 0 0; ranged = 0; carded = 0; tagged = 0; plugin = 0; kind = reference_run }

abbrev pub typed_of : Hand → ℕ → Span → Hand
typed_of p kind x = record { typed = x; range = p.range; name = p.name; card = p.card; tag = p.tag; ranged = p.ranged; carded = p.carded; tagged = p.tagged; plugin = p.plugin; kind = kind }

abbrev pub ranged_of : Hand → Span → Hand
ranged_of p x = record { typed = p.typed; range = x; name = p.name; card = p.card; tag = p.tag; ranged = p.ranged; carded = p.carded; tagged = p.tagged; plugin = p.plugin; kind = p.kind }

-- without a range it stands at the type
abbrev pub rangeless_of : Hand → Hand
rangeless_of p = ranged_of p p.typed

-- until they are read, cardinality and tag stand at the name
abbrev pub named_of : Hand → ℕ → Span → Hand
named_of p given x = record { typed = p.typed; range = p.range; name = x; card = x; tag = x; ranged = given; carded = 0; tagged = 0; plugin = 0; kind = p.kind }

abbrev pub carded_of : Hand → Span → Hand
carded_of p x = record { typed = p.typed; range = p.range; name = p.name; card = x; tag = p.tag; ranged = p.ranged; carded = 1; tagged = p.tagged; plugin = p.plugin; kind = p.kind }

abbrev pub tagged_of : Hand → Span → Hand
tagged_of p x = record { typed = p.typed; range = p.range; name = p.name; card = p.card; tag = x; ranged = p.ranged; carded = p.carded; tagged = 2; plugin = p.plugin; kind = p.kind }

abbrev pub untagged_of : Hand → Hand
untagged_of p = record { typed = p.typed; range = p.range; name = p.name; card = p.card; tag = p.tag; ranged = p.ranged; carded = p.carded; tagged = 1; plugin = p.plugin; kind = p.kind }

abbrev pub plugged_of : Hand → Hand
plugged_of p = record { typed = p.typed; range = p.range; name = p.name; card = p.card; tag = p.tag; ranged = p.ranged; carded = p.carded; tagged = p.tagged; plugin = 1; kind = p.kind }

unfoldable pub pending_by : Hand → ℕ → ℕ → Span → Hand
pending_by p a kind x =
    pick (eqb a take_type) (typed_of p kind x)
    (pick (eqb a take_range) (ranged_of p x)
    (pick (eqb a take_name) (named_of (rangeless_of p) 0 x)
    (pick (eqb a take_card) (carded_of p x)
    (pick (eqb a take_tag) (tagged_of p x)
    (pick (eqb a take_no_tag) (untagged_of p)
    (pick (eqb a take_plugin) (plugged_of p)
    (pick (eqb a take_name_after_range) (named_of p 1 x) p)))))))

-- in the order of Cells
abbrev pub run_cells : Hand → List ℕ
run_cells p = p.typed.start ∷ p.typed.end ∷ p.range.start ∷ p.range.end ∷ p.name.start ∷ p.name.end ∷ p.card.start ∷ p.card.end ∷ []

abbrev pub rest_cells : Hand → ℕ → ℕ → List ℕ
rest_cells p extension parent = p.tag.start ∷ p.tag.end ∷ p.ranged ∷ p.carded ∷ p.tagged ∷ p.plugin ∷ extension ∷ parent ∷ []

abbrev pub cells_of : Hand → ℕ → ℕ → List ℕ
cells_of p extension parent = run_cells p ++ rest_cells p extension parent

unfoldable pub notes : ℕ → Bool
notes a = eqb a end_heading || eqb a open_body

unfoldable pub note_cells : Stand → Hand → ℕ → List ℕ → List ℕ
note_cells s p a cs = pick (notes a && ltb s.count parameter_limit) (sets cs (cell_width * s.count) (cells_of p (extension_flag (context_of s)) (parent_number s))) cs
