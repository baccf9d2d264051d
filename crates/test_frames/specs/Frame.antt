-- Frames of the test program's input.
use Rattle.std.specs.Prelude.{cond, List, ℕ, ◌+◌, max, ltb, length, get_or}
use Rattle.numbers.specs.LittleEndian.{le32}
use Rattle.test_frames.specs.declared.Head.{Head}
use Rattle.test_frames.specs.declared.Front.{Front}
use Rattle.test_frames.specs.declared.Front.TheVariants.{Part, Long, Whole}

-- kind u8, room u32, a u32, b u32
unfoldable pub frame_head : List ℕ → Head
frame_head s = record { kind = get_or s 0 0; room = le32 s 1; a = le32 s 5; b = le32 s 9 }

-- the head, the a bytes and the b bytes
abbrev pub length_of : Head → ℕ
length_of h = 13 + h.a + h.b

-- the largest of room, a and b
abbrev pub largest : Head → ℕ
largest h = max h.room (max h.a h.b)

-- what stands at the front of the input, by the head that stands there
unfoldable pub front_by : List ℕ → Head → Front
front_by s h =
    cond (ltb (length s) 13) Part
    (cond (ltb 100000 (largest h)) (Long (length_of h)) (cond (ltb (length s) (length_of h)) Part (Whole h)))
