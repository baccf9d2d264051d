use native.Mathlib.Omega.{arith}
use Rattle.table_walk.specs.Walked.{RecordsCounted, Uncounted, Walked}
use Rattle.definition.proofs.Order.{as_many, unpacked_after, unpacked_fault, unpacked_none}
use Rattle.definition.proofs.written_fault.Goals as goal

pub record_fault-requires : goal.record_fault-requires
unfolding Walked
record_fault-requires c = let w : RecordsCounted c.args.table.now c.unpack.new.unpacked c.in-Some.count = rw c.in-Some.is at (c.unpack.ensures (λ k a b. omega arith)) in (w.few, w.laid)

pub returns-in-Some : goal.returns-in-Some
unfolding Walked
returns-in-Some c = λ rs d l w.
    let u : RecordsCounted c.args.table.now c.unpack.new.unpacked c.in-Some.count = rw c.in-Some.is at (c.unpack.ensures (λ k a b. omega arith)) in
    unpacked_fault c.args.table.now c.unpack.new.unpacked c.args.noted.now.count rs d l _ u _ _ (c.record_fault.ensures (as_many c.args.table.now c.unpack.new.unpacked c.args.noted.now.count rs d l _ u) (unpacked_after c.args.table.now c.unpack.new.unpacked c.args.noted.now.count rs d l _ u w))

pub returns-in-None : goal.returns-in-None
unfolding Walked
returns-in-None c = λ rs d l w.
    let u : Uncounted c.args.table.now = rw c.in-None.is at (c.unpack.ensures (λ k a b. omega arith)) in
    unpacked_none c.args.table.now c.unpack.new.unpacked c.args.noted.now.count rs d l c.requires u
