use Rattle.test_frames.proofs.Heads.{front_short, front_long, front_part, front_whole}
use Rattle.test_frames.proofs.next.Goals as goal

pub returns-then-s-lt-HEAD_BYTES : goal.returns-then-s-lt-HEAD_BYTES
returns-then-s-lt-HEAD_BYTES c = rw (← c.head_of-h.ensures) (front_short _ _ c.if-s-lt-HEAD_BYTES.true)

pub returns-then-largest-gt-LIMIT : goal.returns-then-largest-gt-LIMIT
returns-then-largest-gt-LIMIT c = rw (← c.head_of-h.ensures) (front_long _ _ _ _ c.length_of-length.ensures c.largest.ensures c.if-s-lt-HEAD_BYTES.false c.if-largest-gt-LIMIT.true)

pub returns-then-s-length : goal.returns-then-s-length
returns-then-s-length c = rw (← c.head_of-h.ensures) (front_part _ _ _ _ c.length_of-length.ensures c.largest.ensures c.if-s-lt-HEAD_BYTES.false c.if-largest-gt-LIMIT.false c.if-s-length.true)

pub returns : goal.returns
returns c = rw (← c.head_of-h.ensures) (front_whole _ _ _ _ c.length_of-length.ensures c.largest.ensures c.if-s-lt-HEAD_BYTES.false c.if-largest-gt-LIMIT.false c.if-s-length.false)
