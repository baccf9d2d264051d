-- Rows as code writes them.
use Rattle.std.specs.Prelude.{List, [], ◌∷◌, ℕ, zero, suc, ◌+◌, ◌*◌, ◌<◌, set}
use Rattle.numbers.specs.Limits.{row_width}
use Rattle.message_rules.specs.Rows as model
use Rattle.message_rows.specs.declared.Row.{Row}

pub record Small (r : Row) : Type 0 where
  pub parameter : r.parameter < 4294967296
  pub parent : r.parent < 4294967296
  pub start : r.start < 4294967296
  pub end : r.end < 4294967296
  pub index : r.index < 4294967296

abbrev pub row_of : Row → model.Row
row_of r = record { parameter = r.parameter; parent = r.parent; start = r.start; end = r.end; index = r.index }

-- the numbers with the end e in each of n rows from the k-th on
unfoldable pub with_ends : List ℕ → ℕ → ℕ → ℕ → List ℕ
with_ends l k zero e = l
with_ends l k (suc n) e = with_ends (set l (row_width * k + 3) e) (suc k) n e

-- the rows with the end e
unfoldable pub ended : ℕ → List model.Row → List model.Row
ended e [] = []
ended e (r ∷ rs) = record { parameter = r.parameter; parent = r.parent; start = r.start; end = e; index = r.index } ∷ ended e rs
