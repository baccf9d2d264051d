-- The forms of a definition: what is written, as trees, and the row of tokens that each prints to.
use Rattle.std.specs.Prelude.{◌≡◌, Bool, true, false, List, [], ◌∷◌, ◌++◌, ℕ, length}
use Rattle.definition_rules.specs.Words.{kw_as, kw_plugin, takes_range, is_compound, is_reference}
use Rattle.definition_rules.specs.Scan.{TextToken, run, mark}

-- ---- a parameter's heading: type, range, name, cardinality, tag, plugin

pub data MaybeRun : Type 0 where
  absent : MaybeRun
  given : List ℕ → MaybeRun

-- "optional `as` followed by a tag run or `?`"
pub data Tag : Type 0 where
  own_name tagless : Tag
  explicit : List ℕ → Tag

-- "field: type, name, optional `[` range `]`, optional `as` .., optional `plugin`";
-- "int, ascii and unquoted-ascii may have `<` range `>` after the type"
pub data Heading : Type 0 where
  heading : List ℕ → MaybeRun → List ℕ → MaybeRun → Tag → Bool → Heading

unfoldable pub type_run : Heading → List ℕ
type_run (heading w g n c t p) = w

unfoldable pub tag_of : Heading → Tag
tag_of (heading w g n c t p) = t

-- its tokens, in front of what follows
unfoldable pub put_range : MaybeRun → List TextToken → List TextToken
put_range absent r = r
put_range (given v) r = mark 60 ∷ run v ∷ mark 62 ∷ r

unfoldable pub put_card : MaybeRun → List TextToken → List TextToken
put_card absent r = r
put_card (given v) r = mark 91 ∷ run v ∷ mark 93 ∷ r

unfoldable pub put_tag : Tag → List TextToken → List TextToken
put_tag own_name r = r
put_tag tagless r = run kw_as ∷ mark 63 ∷ r
put_tag (explicit v) r = run kw_as ∷ run v ∷ r

unfoldable pub put_plugin : Bool → List TextToken → List TextToken
put_plugin false r = r
put_plugin true r = run kw_plugin ∷ r

unfoldable pub put_head : Heading → List TextToken → List TextToken
put_head (heading w g n c t p) r = run w ∷ put_range g (run n ∷ put_card c (put_tag t (put_plugin p r)))

-- ---- the trees

pub data FormSort : Type 0 where
  parameter fields groups tops : FormSort

pub data Form : FormSort → Type 0 where
  plain : Heading → Form parameter
  compound : Heading → Form fields → Form groups → Form parameter
  no_field : Form fields
  field : Form parameter → Form fields → Form fields
  no_group : Form groups
  group : Form parameter → Form fields → Form groups → Form groups
  last_top : Form parameter → Form tops
  more_tops : Form parameter → Form tops → Form tops

-- "for struct and union then `{` body `}`, then `;`"
-- "body: any number of fields, none included, then extension groups, each `[` one or more fields `]`"
unfoldable pub print_form : {s : FormSort} → Form s → List TextToken → List TextToken
print_form (plain h) r = put_head h (mark 59 ∷ r)
print_form (compound h f g) r = put_head h (mark 123 ∷ print_form f (print_form g (mark 125 ∷ mark 59 ∷ r)))
print_form no_field r = r
print_form (field x f) r = print_form x (print_form f r)
print_form no_group r = r
print_form (group x f g) r = mark 91 ∷ print_form x (print_form f (mark 93 ∷ print_form g r))
print_form (last_top x) r = print_form x r
print_form (more_tops x t) r = print_form x (print_form t r)

pub data Level : Type 0 where
  top_level field_level : Level

unfoldable pub RangeAllowed : List ℕ → MaybeRun → Type 0
RangeAllowed w absent = Unit {0}
RangeAllowed w (given v) = takes_range w ≡ true

-- "top: a simple type, a name, `;` or `struct`/`union`, a name, `{` body `}` `;`"
unfoldable pub HeadAllowed : Level → Heading → Type 0
HeadAllowed top_level (heading w g n c t p) = (is_reference w ≡ false) × RangeAllowed w g × (c ≡ absent) × (t ≡ own_name) × (p ≡ false)
HeadAllowed field_level (heading w g n c t p) = RangeAllowed w g

unfoldable pub Allowed : {s : FormSort} → Level → Form s → Type 0
Allowed l (plain h) = HeadAllowed l h × (is_compound (type_run h) ≡ false)
Allowed l (compound h f g) = HeadAllowed l h × (is_compound (type_run h) ≡ true) × Allowed field_level f × Allowed field_level g
Allowed l no_field = Unit {0}
Allowed l (field x f) = Allowed l x × Allowed l f
Allowed l no_group = Unit {0}
Allowed l (group x f g) = Allowed l x × Allowed l f × Allowed l g
Allowed l (last_top x) = Allowed l x
Allowed l (more_tops x t) = Allowed l x × Allowed l t

-- "A definition is one or more top parameters": a row of tokens fits when some tree prints to it
abbrev pub Fits : List TextToken → Type 0
Fits ts = (d : Form tops) × Allowed top_level d × (print_form d [] ≡ ts)

-- the beginning of some row that fits
abbrev pub Viable : List TextToken → Type 0
Viable ts = (more : List TextToken) × Fits (ts ++ more)

-- "first token that can't go on, or the text's length": where number 3 stands, as the number of a token. The tokens before it
-- begin some row that fits, and those with it don't; or they all do, and more is due at the end.
pub data StuckBy (ts : List TextToken) (i : ℕ) : Type 0 where
  token : (ps : List TextToken) (t : TextToken) (more : List TextToken) → ts ≡ ps ++ (t ∷ more) → i ≡ length ps → Viable ps → (Viable (ps ++ (t ∷ [])) → ⊥) → StuckBy ts i
  ending_due : i ≡ length ts → Viable ts → (Fits ts → ⊥) → StuckBy ts i
