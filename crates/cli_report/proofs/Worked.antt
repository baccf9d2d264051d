-- Refusals as they are read, typed by hand.
use mathlib.Core.Path.{◌≡◌, refl}
use Rattle.classes.specs.Bytes.{is_blank}
use Rattle.classes.specs.Lists.{run_of}
use Rattle.text.specs.Text.{each, decimal, places_from}
use Rattle.cli_places.specs.Lines.{breaks_before, line_start, line_end, blanks_off}
use Rattle.cli_wording.specs.Sayings.{bytes, saying_of, meaning, meaning_line}
use Rattle.cli_report.specs.Shown.{shown_byte, blank_for, view_start, view_end, mark_text, view_text, where_text, in_text, in_table, needed_text, refusal_text, unknown_line, int_text, bounds_text}

-- 01: D, `17 d=812`: 27 at 8
at_the_end : refusal_text (bytes "tile.msg") (bytes "17 d=812") 27 8
    ≡ bytes "tile.msg:1:9: refused 27: a required field is missing\n17 d=812\n        ^ the end\n"
unfolding refusal_text in_text where_text view_text view_start view_end mark_text shown_byte blank_for meaning_line meaning saying_of bytes breaks_before line_start line_end run_of each decimal places_from blanks_off is_blank
at_the_end = refl

-- the same message with blanks and line breaks behind it
behind_the_text : refusal_text (bytes "tile.msg") (bytes "17 d=812 \n\n") 27 11
    ≡ bytes "tile.msg:1:9: refused 27: a required field is missing\n17 d=812 \n        ^ the end\n"
unfolding refusal_text in_text where_text view_text view_start view_end mark_text shown_byte blank_for meaning_line meaning saying_of bytes breaks_before line_start line_end run_of each decimal places_from blanks_off is_blank
behind_the_text = refl

-- 01: `struct s { int<5..3> x; };`: 6 at 15, here on its second line and behind a tab
on_a_line : refusal_text (bytes "s") (bytes "// s\n\tstruct s { int<5..3> x; };\n") 6 21
    ≡ bytes "s:2:17: refused 6: not a proper range, or none may stand here\n\tstruct s { int<5..3> x; };\n\t               ^\n"
unfolding refusal_text in_text where_text view_text view_start view_end mark_text shown_byte blank_for meaning_line meaning saying_of bytes breaks_before line_start line_end run_of each decimal places_from
on_a_line = refl

-- a table, and a count
in_a_table : refusal_text (bytes "t") (bytes "") 20 0 ≡ bytes "t: byte 0: refused 20: no definition compiles to this table\n"
unfolding refusal_text in_table meaning_line meaning saying_of bytes decimal places_from
in_a_table = refl

too_long : refusal_text (bytes "t") (bytes "") 11 139 ≡ bytes "t: 139 needed: refused 11: the table does not fit the room for it\n"
unfolding refusal_text needed_text meaning_line meaning saying_of bytes decimal places_from
too_long = refl

-- 01: an unknown item of D
passed_over : unknown_line (bytes "tile.msg") (bytes "17 z surveyed=20240310 d=1") 3 (bytes "z")
    ≡ bytes "tile.msg:1:4: unknown, passed over: z\n"
unfolding unknown_line where_text bytes breaks_before line_start decimal places_from
passed_over = refl

-- 01: the range -180 to 180, counted from the least i32
a_range : bounds_text 2147483468 2147483828 ≡ bytes "-180..180"
unfolding bounds_text int_text bytes decimal places_from
a_range = refl
