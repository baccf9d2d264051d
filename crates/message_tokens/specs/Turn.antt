-- One token of the scan, and bytes that it passes over.
use Rattle.std.specs.Prelude.{◌≡◌, ℕ, ◌+◌, ◌<◌, ◌≤◌, true, List, length, slice_index}
use Rattle.classes.specs.Bytes.{is_plain}
use Rattle.numbers.specs.Limits.{open_limit}
use Rattle.message_tokens.specs.Cursor.{cut_at}
use Rattle.message_tokens.specs.Scanned.{fault_from}

pub record ScanOn (s : List ℕ) (i n j m : ℕ) : Type 0 where
  pub is : fault_from n (cut_at 0 s i) ≡ fault_from m (cut_at 0 s j)
  pub less : i < j
  pub within : j ≤ length s
  pub few : m ≤ open_limit

-- n bytes from i on are there, and plain
pub record Plains (s : List ℕ) (i n : ℕ) : Type 0 where
  pub there : i + n ≤ length s
  pub plain : (k : ℕ) → i ≤ k → k < i + n → is_plain (slice_index s k) ≡ true

-- the bytes from i to j change nothing for number 22
pub record PlainEnd (s : List ℕ) (i j : ℕ) : Type 0 where
  pub is : (n : ℕ) → fault_from n (cut_at 0 s i) ≡ fault_from n (cut_at 0 s j)
  pub least : i ≤ j
