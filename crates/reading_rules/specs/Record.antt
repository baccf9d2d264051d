-- One record of a compiled table.
use Rattle.std.specs.Prelude.{Bool, true, false, List, [], ℕ, ◌<◌, eqb, length, get_or}
use Rattle.numbers.specs.Limits.{none16, bias}

-- "Parent is the enclosing struct's or union's number .. 65,535 is "none""
pub data Up : Type 0 where
  top : Up
  under : ℕ → Up

unfoldable pub is_top : Up → Bool
is_top top = true
is_top (under p) = false

unfoldable pub same_up : Up → Up → Bool
same_up top top = true
same_up top (under q) = false
same_up (under p) top = false
same_up (under p) (under q) = eqb p q

-- "kind u16, parent u16, flags u16, lo count u16, hi count u16 (65,535 is `*`), lo i32, hi i32, target u16, n u16, n bytes"
-- least and most are lo and hi plus 2,147,483,648
pub record Record : Type 0 where
  pub kind : ℕ
  pub parent : Up
  pub untagged : Bool
  pub extension : Bool
  pub plugin : Bool
  pub lo_count : ℕ
  pub hi_count : ℕ
  pub least : ℕ
  pub most : ℕ
  pub target : ℕ
  pub label : List ℕ

-- what stands where no record is: it never counts
unfoldable pub blank : Record
blank = record { kind = 1; parent = top; untagged = false; extension = false; plugin = false; lo_count = 1; hi_count = 1; least = bias; most = bias; target = none16; label = [] }

unfoldable pub record_at : List Record → ℕ → Record
unfolding blank
record_at table p = get_or table p blank

-- the i-th record stands after the one whose body it is in
unfoldable pub Before : ℕ → Up → Type 0
Before i top = Unit {0}
Before i (under p) = p < i

-- as in every table
unfoldable pub AfterParents : List Record → Type 0
AfterParents rs = (i : ℕ) → i < length rs → Before i (record_at rs i).parent
