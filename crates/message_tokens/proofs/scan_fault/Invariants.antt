use Rattle.std.proofs.Common.{◌≡◌, ◌-◌, ◌≤◌, length}
use Rattle.numbers.specs.Limits.{open_limit}
use Rattle.message_rules.specs.Scan.{cut, scan_fault}
use Rattle.message_tokens.specs.Cursor.{cut_at}
use Rattle.message_tokens.specs.Scanned.{fault_from}
use Rattle.message_tokens.proofs.scan_fault.Given as goal

abbrev pub invariant-loop-h : goal.invariant-loop-h
invariant-loop-h l = (scan_fault (cut l.message) ≡ fault_from l.deep (cut_at 0 l.message l.u.at)) × (l.deep ≤ open_limit)

abbrev pub decreases-loop-h : goal.decreases-loop-h
decreases-loop-h l = length l.message - l.u.at
