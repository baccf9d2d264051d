-- The refusals 4 to 10: for each number the spots (numbers of tokens) of all its faults.
-- What reads only records is a predicate on records, which the rules for a table share.
use Rattle.std.specs.Prelude.{Bool, true, false, not, ◌&&◌, ◌||◌, List, [], ◌∷◌, ◌++◌, ℕ, zero, suc, leb, ltb, eqb, drop}
use Rattle.numbers.specs.Limits.{none16, count_limit}
use Rattle.numbers.specs.Decimal.{is_int_like}
use Rattle.numbers.specs.Range.{MaybeRange, no_range, range}
use Rattle.classes.specs.Lists.{pick, same_bytes}
use Rattle.reading_rules.specs.Record.{Record, Up, top, under, record_at, is_top, same_up}
use Rattle.definition_rules.specs.Words.{kind_of_run, is_reference, name_form, tag_form, has_dot}
use Rattle.definition_rules.specs.Scan.{place_if}
use Rattle.definition_rules.specs.Forms.{MaybeRun, absent, given, Tag, own_name, tagless, explicit, heading}
use Rattle.definition_rules.specs.Declarations.{Declaration, declaration, Spots, Noted, noted, declarations_of}
use Rattle.definition_rules.specs.Records.{kind_least, kind_most, limits_of, count_range_of, top_names, find_top, or_none}
use Rattle.definition_rules.specs.Finite.{finites, is_endless}

-- ---- all spots of one test

unfoldable pub spots_where : (Declaration → Bool) → (Spots → ℕ) → List Noted → List ℕ
spots_where f at [] = []
spots_where f at (noted s d ∷ r) = place_if (f d) (at s) (spots_where f at r)

-- a test on records with their numbers, i the first one's
unfoldable pub record_spots : (ℕ → Record → Bool) → (Spots → ℕ) → ℕ → List Record → List Noted → List ℕ
record_spots f at i [] ns = []
record_spots f at i (r ∷ rs) [] = []
record_spots f at i (r ∷ rs) (noted s d ∷ ns) = place_if (f i r) (at s) (record_spots f at (suc i) rs ns)

-- ---- 4: "more than 256 parameters", "the 257th name"

unfoldable pub name_spots : List Noted → List ℕ
name_spots [] = []
name_spots (noted s d ∷ r) = s.name_at ∷ name_spots r

abbrev pub faults4 : ℕ → List Noted → List ℕ
faults4 limit ns = drop limit (name_spots ns)

-- ---- 5: "name, reference or tag form broken", "the run"

unfoldable pub name_broken : Declaration → Bool
name_broken (declaration u e (heading w g n c t p)) = not (name_form n)

-- "A reference has the form of a name."
unfoldable pub reference_broken : Declaration → Bool
reference_broken (declaration u e (heading w g n c t p)) = is_reference w && not (name_form w)

unfoldable pub tag_broken_in : Tag → Bool
tag_broken_in own_name = false
tag_broken_in tagless = false
tag_broken_in (explicit v) = not (tag_form v)

unfoldable pub tag_broken : Declaration → Bool
tag_broken (declaration u e (heading w g n c t p)) = tag_broken_in t

abbrev pub faults5 : List Noted → List ℕ
faults5 ns = spots_where name_broken (λ s. s.name_at) ns ++ (spots_where reference_broken (λ s. s.type_at) ns ++ spots_where tag_broken (λ s. s.tag_at) ns)

-- ---- 6: "range broken; void with hi over 1; any cardinality on an alternative", "the range run"

unfoldable pub within_kind : ℕ → MaybeRange → Bool
within_kind k no_range = false
within_kind k (range a b) = leb (kind_least k) a && leb a b && leb b (kind_most k)

-- "Cardinality: lo 0 to 65,534; hi 1 to 65,534, or `*`", "lo ≤ hi"
unfoldable pub count_fine : MaybeRange → Bool
count_fine no_range = false
count_fine (range a b) = leb a count_limit && leb 1 b && leb a b

unfoldable pub range_broken : Declaration → Bool
range_broken (declaration u e (heading w g n c t p)) = not (within_kind (kind_of_run w) (limits_of (kind_of_run w) g))

unfoldable pub count_broken : Declaration → Bool
count_broken (declaration u e (heading w g n c t p)) = not (count_fine (count_range_of c))

unfoldable pub kind_of_declaration : Declaration → ℕ
kind_of_declaration (declaration u e (heading w g n c t p)) = kind_of_run w

unfoldable pub kinds_of : List Declaration → List ℕ
kinds_of [] = []
kinds_of (d ∷ ds) = kind_of_declaration d ∷ kinds_of ds

-- p is the number of a union, by the kinds of all parameters
unfoldable pub is_union_at : List ℕ → ℕ → Bool
is_union_at [] p = false
is_union_at (k ∷ ks) zero = eqb k 9
is_union_at (k ∷ ks) (suc p) = is_union_at ks p

unfoldable pub is_alternative : (ℕ → Bool) → Up → Bool
is_alternative is_union top = false
is_alternative is_union (under p) = is_union p

unfoldable pub is_given : MaybeRun → Bool
is_given absent = false
is_given (given v) = true

unfoldable pub count_on_alternative : List ℕ → Declaration → Bool
count_on_alternative ks (declaration u e (heading w g n c t p)) = is_alternative (is_union_at ks) u && is_given c

-- "void with hi over 1"; no limit is over 1
unfoldable pub void_many : ℕ → Record → Bool
void_many i r = eqb r.kind 1 && ltb 1 r.hi_count

abbrev pub faults6 : List Record → List Noted → List ℕ
faults6 rs ns =
    spots_where range_broken (λ s. s.range_at) ns
    ++ (spots_where count_broken (λ s. s.card_at) ns
    ++ (record_spots void_many (λ s. s.card_at) 0 rs ns
    ++ spots_where (count_on_alternative (kinds_of (declarations_of ns))) (λ s. s.card_at) ns))

-- ---- 7: "untagged, plugin or void rule broken", "the parameter's name"

unfoldable pub any_of : (Record → Bool) → List Record → Bool
any_of f [] = false
any_of f (r ∷ rs) = f r || any_of f rs

-- among the first i
unfoldable pub any_before : ℕ → (Record → Bool) → List Record → Bool
any_before zero f rs = false
any_before (suc i) f [] = false
any_before (suc i) f (r ∷ rs) = f r || any_before i f rs

unfoldable pub parent_kind : List Record → Up → ℕ
parent_kind rs top = 0
parent_kind rs (under p) = (record_at rs p).kind

abbrev pub beside : Record → Record → Bool
beside r q = same_up q.parent r.parent

-- "In a struct, untagged fields come before tagged ones; none stands in an extension; none is void."
unfoldable pub misplaced_field : List Record → ℕ → Record → Bool
misplaced_field rs i r = r.extension || eqb r.kind 1 || any_before i (λ q. beside r q && not q.untagged) rs

-- "In a union, at most one field is untagged, it is the first, an int by its own type and in no extension"
unfoldable pub misplaced_alternative : List Record → ℕ → Record → Bool
misplaced_alternative rs i r = r.extension || not (eqb r.kind 3) || any_before i (λ q. beside r q) rs

unfoldable pub misplaced_untagged : List Record → ℕ → Record → Bool
misplaced_untagged rs i r =
    r.untagged && pick (eqb (parent_kind rs r.parent) 9) (misplaced_alternative rs i r) (misplaced_field rs i r)

-- "beside an untagged one, rightly placed or not, no tag is an optional `-` with one or more digits only"
unfoldable pub number_tag : List Record → ℕ → Record → Bool
number_tag rs i r = eqb (parent_kind rs r.parent) 9 && (not r.untagged && (is_int_like r.label && any_of (λ q. beside r q && q.untagged) rs))

-- "A top parameter isn't void."
unfoldable pub void_top : Record → Bool
void_top r = is_top r.parent && eqb r.kind 1

-- "A plugin field has an explicit tag with a dot in it." A name has no dot, so a label with one is an explicit tag.
unfoldable pub plugin_undotted : Record → Bool
plugin_undotted r = r.plugin && (r.untagged || not (has_dot r.label))

unfoldable pub rule7_broken : List Record → ℕ → Record → Bool
rule7_broken rs i r = misplaced_untagged rs i r || (number_tag rs i r || (void_top r || plugin_undotted r))

abbrev pub faults7 : List Record → List Noted → List ℕ
faults7 rs ns = record_spots (rule7_broken rs) (λ s. s.name_at) 0 rs ns

-- ---- 8: "one name twice among top parameters; one name or one wire tag twice in a body with its extensions",
-- "the later name or tag"

-- a name in its body, or among the tops
pub data Key : Type 0 where
  key : Up → List ℕ → Key

unfoldable pub same_key : Key → Key → Bool
same_key (key u l) (key v m) = same_up u v && same_bytes l m

unfoldable pub is_new_key : Key → List Key → Bool
is_new_key k [] = true
is_new_key k (j ∷ js) = not (same_key k j) && is_new_key k js

unfoldable pub name_key : Declaration → Key
name_key (declaration u e (heading w g n c t p)) = key u n

-- before: the names before
unfoldable pub repeated_names : List Key → List Noted → List ℕ
repeated_names before [] = []
repeated_names before (noted s d ∷ r) = place_if (not (is_new_key (name_key d) before)) s.name_at (repeated_names (name_key d ∷ before) r)

-- an untagged field and a top have no wire tag
unfoldable pub has_wire_tag : Record → Bool
has_wire_tag r = not (is_top r.parent) && not r.untagged

unfoldable pub tag_repeated : List Record → ℕ → Record → Bool
tag_repeated rs i r = has_wire_tag r && any_before i (λ q. has_wire_tag q && (beside r q && same_bytes q.label r.label)) rs

abbrev pub faults8 : List Record → List Noted → List ℕ
faults8 rs ns = repeated_names [] ns ++ record_spots (tag_repeated rs) (λ s. s.tag_at) 0 rs ns

-- ---- 9: "root no struct; reference to no top parameter", "name; reference"

-- "the first being the root"
unfoldable pub root_no_struct : ℕ → Record → Bool
root_no_struct i r = eqb i 0 && not (eqb r.kind 8)

unfoldable pub dangling : List MaybeRun → Declaration → Bool
dangling T (declaration u e (heading w g n c t p)) = is_reference w && eqb (or_none (find_top T 0 w)) none16

abbrev pub faults9 : List Record → List Noted → List ℕ
faults9 rs ns = record_spots root_no_struct (λ s. s.name_at) 0 rs ns ++ spots_where (dangling (top_names (declarations_of ns))) (λ s. s.type_at) ns

-- ---- 10: "a struct or union with no finite value", "its name"

abbrev pub faults10 : List Record → List Noted → List ℕ
faults10 rs ns = record_spots (is_endless (finites rs)) (λ s. s.name_at) 0 rs ns
