-- "One record for each parameter, in order of names in the text and numbered from 0": a declaration's record.
use Rattle.std.specs.Prelude.{Bool, true, false, List, [], ◌∷◌, ℕ, suc, ◌+◌, eqb}
use Rattle.numbers.specs.Limits.{none16, bias, int_most, length_limit}
use Rattle.numbers.specs.Range.{MaybeNumber, unread, number, MaybeRange, range, low_of, high_of, read_int_range, read_count_range}
use Rattle.classes.specs.Lists.{pick, same_bytes}
use Rattle.reading_rules.specs.Record.{Record, top, under}
use Rattle.definition_rules.specs.Words.{kind_of_run, kind_takes_range}
use Rattle.definition_rules.specs.Forms.{MaybeRun, absent, given, Tag, own_name, tagless, explicit, heading}
use Rattle.definition_rules.specs.Declarations.{Declaration, declaration}

-- "Ints: .. also the default. Lengths: .. also the defaults." "lo and hi are 0 for kinds without a range"
unfoldable pub kind_least : ℕ → ℕ
kind_least k = pick (eqb k 3) 0 (pick (eqb k 5) (bias + 1) bias)

unfoldable pub kind_most : ℕ → ℕ
kind_most k = pick (eqb k 3) int_most (pick (kind_takes_range k) (bias + length_limit) bias)

unfoldable pub limits_of : ℕ → MaybeRun → MaybeRange
limits_of k absent = range (kind_least k) (kind_most k)
limits_of k (given w) = read_int_range w

-- "default 1..1"
unfoldable pub count_range_of : MaybeRun → MaybeRange
count_range_of absent = range 1 1
count_range_of (given w) = read_count_range w

-- the names of tops, each at its number; absent at a parameter that is no top
unfoldable pub top_name : Declaration → MaybeRun
top_name (declaration top e (heading w g n c t p)) = given n
top_name (declaration (under x) e h) = absent

unfoldable pub top_names : List Declaration → List MaybeRun
top_names [] = []
top_names (d ∷ ds) = top_name d ∷ top_names ds

unfoldable pub is_named : MaybeRun → List ℕ → Bool
is_named absent w = false
is_named (given v) w = same_bytes v w

unfoldable pub find_top : List MaybeRun → ℕ → List ℕ → MaybeNumber
find_top [] i w = unread
find_top (o ∷ os) i w = pick (is_named o w) (number i) (find_top os (suc i) w)

unfoldable pub or_none : MaybeNumber → ℕ
or_none unread = none16
or_none (number n) = n

-- "target the referenced top's"
unfoldable pub target_of : List MaybeRun → ℕ → List ℕ → ℕ
target_of T k w = pick (eqb k 10) (or_none (find_top T 0 w)) none16

unfoldable pub is_tagless : Tag → Bool
is_tagless own_name = false
is_tagless tagless = true
is_tagless (explicit v) = false

-- "The bytes are the wire tag, or the name where untagged or top." "The wire tag is the explicit tag, else the name"
unfoldable pub label_of : List ℕ → Tag → List ℕ
label_of n own_name = n
label_of n tagless = n
label_of n (explicit v) = v

unfoldable pub record_for : List MaybeRun → Declaration → Record
record_for T (declaration u e (heading w g n c t p)) = record {
  kind = kind_of_run w;
  parent = u;
  untagged = is_tagless t;
  extension = e;
  plugin = p;
  lo_count = low_of (count_range_of c);
  hi_count = high_of (count_range_of c);
  least = low_of (limits_of (kind_of_run w) g);
  most = high_of (limits_of (kind_of_run w) g);
  target = target_of T (kind_of_run w) w;
  label = label_of n t;
}

unfoldable pub records_for : List MaybeRun → List Declaration → List Record
records_for T [] = []
records_for T (d ∷ ds) = record_for T d ∷ records_for T ds

-- "One record for each parameter, in order of names in the text and numbered from 0"
unfoldable pub records_of : List Declaration → List Record
records_of ds = records_for (top_names ds) ds
