-- The rules that a table's records obey exactly when some definition compiles to them (docs/FORMAT.md, 3.2).
use Rattle.std.specs.Prelude.{Bool, true, false, not, ◌&&◌, ◌||◌, List, [], ◌∷◌, ℕ, zero, suc, leb, ltb, eqb, length}
use Rattle.numbers.specs.Limits.{none16, depth_limit, count_limit, no_limit}
use Rattle.classes.specs.Lists.{pick}
use Rattle.definition_rules.specs.Words.{name_form, tag_form, kind_is_compound}
use Rattle.reading_rules.specs.Record.{Record, Up, top, under, is_top, same_up}
use Rattle.definition_rules.specs.Declarations.{in_fields, group_opened, in_group, groups_closed, Frame, frame, parent_of}
use Rattle.definition_rules.specs.Records.{kind_least, kind_most}
use Rattle.definition_rules.specs.Faults.{is_union_at, void_many, rule7_broken, tag_repeated, root_no_struct, Key, key, is_new_key}
use Rattle.definition_rules.specs.Finite.{finites, is_endless}
use Rattle.definition_rules.specs.Table.{Maybe, none, just, decode}

-- ---- order: preorder, depth, extensions last

unfoldable pub is_open : Up → ℕ → Bool
is_open top q = false
is_open (under p) q = eqb q p

-- the open bodies once all inside u's are closed
unfoldable pub closed_to : Up → List Frame → List Frame
closed_to u [] = []
closed_to u (frame q m ∷ σ) = pick (is_open u q) (frame q m ∷ σ) (closed_to u σ)

-- a field in an extension: from here on the body has only such fields
unfoldable pub in_extension : Bool → List Frame → List Frame
in_extension e [] = []
in_extension true (frame q m ∷ σ) = frame q in_group ∷ σ
in_extension false (f ∷ σ) = f ∷ σ

unfoldable pub push_if : Bool → ℕ → List Frame → List Frame
push_if true k σ = frame k in_fields ∷ σ
push_if false k σ = σ

-- "in a body no field outside an extension after one inside"
unfoldable pub may_stand : List Frame → Bool → Bool
may_stand [] e = not e
may_stand (frame q in_fields ∷ σ) e = true
may_stand (frame q group_opened ∷ σ) e = false
may_stand (frame q in_group ∷ σ) e = e
may_stand (frame q groups_closed ∷ σ) e = false

-- "a non-top's parent is a struct or union on the chain "previous record, its parent, …" (records stand in preorder)";
-- "at most 8 structs and unions nested, counting itself"
unfoldable pub stands_in : List Frame → Record → Bool
stands_in σ r = same_up (parent_of σ) r.parent && (may_stand σ r.extension && (not (kind_is_compound r.kind) || ltb (length σ) depth_limit))

unfoldable pub ordered : List Frame → ℕ → List Record → Bool
ordered σ i [] = true
ordered σ i (r ∷ rs) =
    stands_in (closed_to r.parent σ) r
    && ordered (push_if (kind_is_compound r.kind) i (in_extension r.extension (closed_to r.parent σ))) (suc i) rs

-- ---- one record

unfoldable pub kinds_of_records : List Record → List ℕ
kinds_of_records [] = []
kinds_of_records (r ∷ rs) = r.kind ∷ kinds_of_records rs

-- "tops and alternatives have counts 1 and 1"
unfoldable pub is_single_value : (ℕ → Bool) → Up → Bool
is_single_value is_union top = true
is_single_value is_union (under p) = is_union p

unfoldable pub counts_fine : (ℕ → Bool) → Record → Bool
counts_fine is_union r =
    leb r.lo_count count_limit && (leb 1 r.hi_count && (leb r.lo_count r.hi_count && (leb r.hi_count no_limit
    && (not (is_single_value is_union r.parent) || (eqb r.lo_count 1 && eqb r.hi_count 1)))))

-- "lo and hi within the kind's limits and ordered for int, ascii, unquoted-ascii, else 0 and 0"
unfoldable pub range_fine : Record → Bool
range_fine r = leb (kind_least r.kind) r.least && (leb r.least r.most && leb r.most (kind_most r.kind))

unfoldable pub is_top_at : List Record → ℕ → Bool
is_top_at [] i = false
is_top_at (r ∷ rs) zero = is_top r.parent
is_top_at (r ∷ rs) (suc i) = is_top_at rs i

-- "target is a top's number exactly for kind 10, else 65,535"
unfoldable pub target_fine : List Record → Record → Bool
target_fine rs r = pick (eqb r.kind 10) (is_top_at rs r.target) (eqb r.target none16)

-- the names that a table shows: tops and untagged fields
unfoldable pub shows_name : Record → Bool
shows_name r = is_top r.parent || r.untagged

-- "name form (no keyword) for tops and untagged fields, tag form for the others"
unfoldable pub label_fine : Record → Bool
label_fine r = pick (shows_name r) (name_form r.label) (tag_form r.label)

-- "tops: flags 0, neither void nor reference" (void is rule 7's)
unfoldable pub top_fine : Record → Bool
top_fine r = not (is_top r.parent) || (not r.untagged && (not r.plugin && not (eqb r.kind 10)))

-- "kind 1 to 10"
unfoldable pub record_fine : List Record → (ℕ → Bool) → Record → Bool
record_fine rs is_union r =
    leb 1 r.kind && (leb r.kind 10
    && (counts_fine is_union r && (range_fine r && (target_fine rs r && (label_fine r && top_fine r)))))

unfoldable pub every_record : (Record → Bool) → List Record → Bool
every_record f [] = true
every_record f (r ∷ rs) = f r && every_record f rs

-- ---- records among others

-- no record, numbered from i, has this fault
unfoldable pub none_broken : (ℕ → Record → Bool) → ℕ → List Record → Bool
none_broken f i [] = true
none_broken f i (r ∷ rs) = not (f i r) && none_broken f (suc i) rs

unfoldable pub key_if : Bool → Key → List Key → List Key
key_if true k ks = k ∷ ks
key_if false k ks = ks

unfoldable pub shown_names : List Record → List Key
shown_names [] = []
shown_names (r ∷ rs) = key_if (shows_name r) (key r.parent r.label) (shown_names rs)

-- "no name twice among tops, no name twice among the untagged fields of a body"
unfoldable pub all_new : List Key → Bool
all_new [] = true
all_new (k ∷ ks) = is_new_key k ks && all_new ks

-- what the compiler's checks say of records alone: void counts, rule 7, wire tags, the root, finite values
unfoldable pub record_checks : List Record → Bool
record_checks rs =
    none_broken void_many 0 rs
    && (none_broken (rule7_broken rs) 0 rs
    && (none_broken (tag_repeated rs) 0 rs
    && (none_broken root_no_struct 0 rs
    && none_broken (is_endless (finites rs)) 0 rs)))

-- limit: how many parameters there may be
unfoldable pub record_rules : ℕ → List Record → Bool
record_rules limit rs =
    leb 1 (length rs) && (leb (length rs) limit
    && (ordered [] 0 rs
    && (every_record (record_fine rs (is_union_at (kinds_of_records rs))) rs
    && (all_new (shown_names rs)
    && record_checks rs))))

unfoldable pub rules_of : ℕ → Maybe (List Record) → Bool
rules_of limit none = false
rules_of limit (just rs) = record_rules limit rs

-- over the bytes
unfoldable pub table_rules : ℕ → List ℕ → Bool
table_rules limit bytes = rules_of limit (decode bytes)
