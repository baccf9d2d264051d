-- The starred cases of 01 ("Checked by hand") and the cases that 02 names: each as it stands there, and what it says of the definitions.
use Rattle.std.specs.Prelude.{Bool, true, false, ◌&&◌, List, [], ◌∷◌, ◌++◌, ℕ, zero, suc, ◌*◌, eqb, length, take, drop, replicate}
use Prim.Native.Char.{code}
use Prim.Native.String.{String, [] as no_more, ◌∷◌ as ◌then◌}
use Rattle.classes.specs.Lists.{pick, every, some, not_empty, run_of, same_bytes}
use Rattle.classes.specs.Bytes.{is_blank, is_digit, is_letter, is_run_byte, is_mark, is_name_byte, is_tag_byte, is_word_byte, is_string_byte}
use Rattle.numbers.specs.Limits.{row_width}
use Rattle.numbers.specs.Decimal.{read_digits, is_digits, is_natural, is_int_like, is_int, int_within, biased_int}
use Rattle.numbers.specs.Range.{number_when, read_int, read_count, read_upper, before_sides, second_dot, cut_range, on_sides, low_of, high_of, both_read, read_int_range, read_count_range}
use Rattle.numbers.specs.LittleEndian.{le16, put16, put32, signed}
use Rattle.calendar.specs.Calendar.{leap, days_of, date_form, date_within, time_form, time_within}
use Rattle.reading_rules.specs.Record.{is_top, same_up, blank, record_at}
use Rattle.reading_rules.specs.Value.{is_bool, word_form, word_within, token_form, token_within, form_then_range, value_number}
use Rattle.reading_rules.specs.Schema.{is_void, kind_of as kind_for, core_of, is_under, numbers_where, first, first_where, schema_of}
use Rattle.reading_rules.specs.Count.{same, times, has, all_in}
use Rattle.definition_rules.specs.Words.{class_of, number_if, number_in, kind_of_run, kind_takes_range, kind_is_compound, takes_range, is_compound, is_reference, is_keyword, starts_with_letter, name_form, tag_form, has_dot}
use Rattle.definition_rules.specs.Scan.{join_run, starts_with, scan, text_tokens_of, places_of, bad_places, braces_after, is_deep_brace, place_if, deep_places}
use Rattle.definition_rules.specs.Forms.{type_run}
use Rattle.definition_rules.specs.Declarations.{allow, with_card, with_tag, with_plugin, takes_field, takes_close, takes_group_end, is_extension, after_field, field_done, parent_of, is_under_extension, is_in_body, start_run, start_mark, heading_end, heading_run, heading_mark, step, map_outcome, end_if, at_end, parse_forms, declarations_of}
use Rattle.definition_rules.specs.Records.{kind_least, kind_most, limits_of, count_range_of, top_name, top_names, is_named, find_top, or_none, target_of, is_tagless, label_of, record_for, records_for, records_of}
use Rattle.definition_rules.specs.Table.{up_number, number_up, bit, flags_number, flag1, flag2, flag4, encode_record, encode, get16, get32, get_bytes, want, decode_record, map_maybe, decode_up_to, decode}
use Rattle.definition_rules.specs.Finite.{can_do_without, ends_needs, struct_step, union_step, finite_step, round, rounds, finites, is_endless}
use Rattle.definition_rules.specs.Faults.{spots_where, record_spots, name_spots, name_broken, reference_broken, tag_broken_in, tag_broken, within_kind, count_fine, range_broken, count_broken, kind_of_declaration, kinds_of, is_union_at, is_alternative, is_given, count_on_alternative, void_many, any_of, any_before, parent_kind, misplaced_field, misplaced_alternative, misplaced_untagged, number_tag, void_top, plugin_undotted, rule7_broken, same_key, is_new_key, name_key, repeated_names, has_wire_tag, tag_repeated, root_no_struct, dangling}
use Rattle.definition_rules.specs.Compile.{CompileAnswer, compiled, refusal, least_of, finding_of, first_fault, token_place, token_places, faults1, faults2, faults3, noted_of, checks_of, checks_after, checks_from, checks, verdict_of, verdict, answer_with_room, compile_answer, lent_after, table_after}
use Rattle.table_rules.specs.RecordRules.{is_open, closed_to, in_extension, push_if, may_stand, stands_in, ordered, kinds_of_records, is_single_value, counts_fine, range_fine, is_top_at, target_fine, shows_name, label_fine, top_fine, record_fine, every_record, none_broken, key_if, shown_names, all_new, record_checks, record_rules, rules_of, table_rules}
use Rattle.message_rules.specs.Scan.{begins_of, cut_token, cut_rest, cut_from, tokens_of as lexeme_tokens, open_after as open_after_token, is_opening, too_deep as brace_too_deep, either, scan_fault}
use Rattle.reading_rules.specs.Reading.{width}
use Rattle.message_rules.specs.Rows.{row_count, lexeme_at, row_over, rows_of, message_rows, cells}
use Rattle.reading_rules.specs.Parse.{then, need, whether, on_equals, after_token, braces_at, pair_with, unknown_at, after_unknown, unknowns_at, judged, simple_at, shut, struct_at, alternative, bare_for, choose, union_at, none_at, by_kind, value_at, may_grow, list_ends, after_value, list_at, required_of, end_number, body_ends, unknown_after, item_at, items_at, list_then, lists_at, body_at}
use Rattle.message_rules.specs.Verdict.{MessageAnswer, accepted, refusal as refused_at, start_or, place_of_left, outcome, after_scan, room_free, with_room, written, read_with, rows_with, or_empty as no_records, records_in, read_answer, rows_after}

-- the bytes of an ASCII text
unfoldable pub bytes_of : String → List ℕ
bytes_of no_more = []
bytes_of (c then s) = code c ∷ bytes_of s

-- "parameter, parent row, start, end", and "the place of the value in its list"
pub data CaseRow : Type 0 where
  row : ℕ → ℕ → ℕ → ℕ → ℕ → CaseRow

-- a definition's text and what is said of it: its refusal; how many records and bytes its table has, and the bytes of one record;
-- or a message, and its rows or its refusal
pub data Case : Type 0 where
  refused_text : String → ℕ → ℕ → Case
  tabled : String → ℕ → ℕ → ℕ → List ℕ → Case
  read : String → String → List CaseRow → Case
  refused_message : String → String → ℕ → ℕ → Case

-- ---- what the definitions say of a text

-- a table's room, more than any case needs; the numbers lent for rows
abbrev pub lent_bytes : List ℕ
lent_bytes = replicate 200 7

abbrev pub lent_numbers : List ℕ
lent_numbers = replicate 30 7

-- the text is refused so, and the lent bytes stay
unfoldable pub text_refused_as : CompileAnswer → List ℕ → ℕ → ℕ → Bool
text_refused_as (compiled k) after n p = false
text_refused_as (refusal m q) after n p = eqb m n && eqb q p && same_bytes after lent_bytes

-- the table that the text compiles to; none where it is refused
unfoldable pub table_from : CompileAnswer → List ℕ → List ℕ
table_from (compiled k) after = take k after
table_from (refusal m q) after = []

-- the bytes of the n-th record of a table, from its own length on
unfoldable pub nth_record : ℕ → List ℕ → List ℕ
nth_record zero t = take (le16 t 0) t
nth_record (suc n) t = nth_record n (drop (le16 t 0) t)

-- ---- what the definitions say of a message

-- the numbers of the rows, one after the other
unfoldable pub numbers_of : List CaseRow → List ℕ
numbers_of [] = []
numbers_of (row p u s e j ∷ rs) = p ∷ u ∷ s ∷ e ∷ j ∷ numbers_of rs

-- the message is accepted with these rows, and the lent numbers beyond them stay
unfoldable pub accepted_as : MessageAnswer → List ℕ → List CaseRow → Bool
accepted_as (accepted k) after rs = eqb k (length rs) && same_bytes after (numbers_of rs ++ drop (row_width * length rs) lent_numbers)
accepted_as (refused_at m q) after rs = false

-- the message is refused so, and the lent numbers stay
unfoldable pub message_refused_as : MessageAnswer → List ℕ → ℕ → ℕ → Bool
message_refused_as (accepted k) after n p = false
message_refused_as (refused_at m q) after n p = eqb m n && eqb q p && same_bytes after lent_numbers

-- ---- text, table, rows

unfoldable pub table_of_text : String → List ℕ
unfolding bytes_of table_from pick every some not_empty same_bytes is_blank is_digit is_letter is_run_byte is_mark is_name_byte is_tag_byte read_digits is_digits is_natural is_int_like is_int int_within biased_int number_when read_int read_count read_upper before_sides second_dot cut_range on_sides low_of high_of both_read read_int_range read_count_range put16 put32 signed is_top same_up blank record_at is_under class_of number_if number_in kind_of_run kind_takes_range kind_is_compound takes_range is_compound is_reference is_keyword starts_with_letter name_form tag_form has_dot join_run starts_with scan text_tokens_of places_of bad_places braces_after is_deep_brace place_if deep_places type_run allow with_card with_tag with_plugin takes_field takes_close takes_group_end is_extension after_field field_done parent_of is_under_extension is_in_body start_run start_mark heading_end heading_run heading_mark step map_outcome end_if at_end parse_forms declarations_of kind_least kind_most limits_of count_range_of top_name top_names is_named find_top or_none target_of is_tagless label_of record_for records_for records_of up_number bit flags_number encode_record encode can_do_without ends_needs struct_step union_step finite_step round rounds finites is_endless spots_where record_spots name_spots name_broken reference_broken tag_broken_in tag_broken within_kind count_fine range_broken count_broken kind_of_declaration kinds_of is_union_at is_alternative is_given count_on_alternative void_many any_of any_before parent_kind misplaced_field misplaced_alternative misplaced_untagged number_tag void_top plugin_undotted rule7_broken same_key is_new_key name_key repeated_names has_wire_tag tag_repeated root_no_struct dangling least_of finding_of first_fault token_place token_places faults1 faults2 faults3 noted_of checks_of checks_after checks_from checks verdict_of verdict answer_with_room compile_answer lent_after table_after
table_of_text text = table_from (compile_answer (bytes_of text) 200) (table_after (bytes_of text) lent_bytes)

unfoldable pub case_agrees : Case → Bool
unfolding table_of_text text_refused_as nth_record numbers_of accepted_as message_refused_as run_of is_word_byte is_string_byte leap days_of date_form date_within time_form time_within is_bool word_form word_within token_form token_within form_then_range value_number is_void kind_for core_of numbers_where first first_where schema_of same times has all_in number_up flag1 flag2 flag4 get16 get32 get_bytes want decode_record map_maybe decode_up_to decode is_open closed_to in_extension push_if may_stand stands_in ordered kinds_of_records is_single_value counts_fine range_fine is_top_at target_fine shows_name label_fine top_fine record_fine every_record none_broken key_if shown_names all_new record_checks record_rules rules_of table_rules begins_of cut_token cut_rest cut_from lexeme_tokens open_after_token is_opening brace_too_deep either scan_fault width row_count lexeme_at row_over rows_of message_rows cells then need whether on_equals after_token braces_at pair_with unknown_at after_unknown unknowns_at judged simple_at shut struct_at alternative bare_for choose union_at none_at by_kind value_at may_grow list_ends after_value list_at required_of end_number body_ends unknown_after item_at items_at list_then lists_at body_at start_or place_of_left outcome after_scan room_free with_room written read_with rows_with no_records records_in read_answer rows_after
case_agrees (refused_text text n p) = text_refused_as (compile_answer (bytes_of text) 200) (table_after (bytes_of text) lent_bytes) n p
case_agrees (tabled text k n i bytes) = eqb (length (records_in (table_of_text text))) k && eqb (length (table_of_text text)) n && same_bytes (nth_record i (table_of_text text)) bytes
case_agrees (read text message rs) = accepted_as (read_answer (table_of_text text) (bytes_of message) 30) (rows_after (table_of_text text) (bytes_of message) lent_numbers) rs
case_agrees (refused_message text message n p) = message_refused_as (read_answer (table_of_text text) (bytes_of message) 30) (rows_after (table_of_text text) (bytes_of message) lent_numbers) n p

unfoldable pub all_agree : List Case → Bool
all_agree [] = true
all_agree (c ∷ cs) = case_agrees c && all_agree cs

-- ---- the cases

-- D: `struct tile { int<1..99999> id as ?; date surveyed; int<0..30000> depth[1..*] as d; [ unquoted-ascii<1..8> boat; ] };`
abbrev pub text·D : String
text·D = "struct tile { int<1..99999> id as ?; date surveyed; int<0..30000> depth[1..*] as d; [ unquoted-ascii<1..8> boat; ] };"

-- E: `struct t { unquoted-ascii<1..8> remark[0..1] as ?; date surveyed; };`
abbrev pub text·E : String
text·E = "struct t { unquoted-ascii<1..8> remark[0..1] as ?; date surveyed; };"

unfoldable pub starred_cases : List Case
starred_cases =
    -- D gives five records, 139 bytes. Record 3 is 19 00 03 00 00 00 00 00 01 00 FF FF 00 00 00 00 30 75 00 00 FF FF 01 00 64. (Not starred.)
    tabled text·D 5 139 3 (0x19 ∷ 0x00 ∷ 0x03 ∷ 0x00 ∷ 0x00 ∷ 0x00 ∷ 0x00 ∷ 0x00 ∷ 0x01 ∷ 0x00 ∷ 0xFF ∷ 0xFF ∷ 0x00 ∷ 0x00 ∷ 0x00 ∷ 0x00 ∷ 0x30 ∷ 0x75 ∷ 0x00 ∷ 0x00 ∷ 0xFF ∷ 0xFF ∷ 0x01 ∷ 0x00 ∷ 0x64 ∷ [])
    ∷
    -- * D, `17 surveyed=20240310 d=812,790`: rows (0, 4294967295, 0, 30), (1, 0, 0, 2), (2, 0, 12, 20), (3, 0, 23, 26), (3, 0, 27, 30);
    -- by 02 (request 11) with a fifth number: "D's first case ends in 0, 0, 0, 0, 1."
    read text·D "17 surveyed=20240310 d=812,790" (row 0 4294967295 0 30 0 ∷ row 1 0 0 2 0 ∷ row 2 0 12 20 0 ∷ row 3 0 23 26 0 ∷ row 3 0 27 30 1 ∷ [])
    ∷
    -- * D, empty: 27 at 0.
    refused_message text·D "" 27 0
    ∷
    -- * D, `17 d=812`: 27 at 8.
    refused_message text·D "17 d=812" 27 8
    ∷
    -- * D, `17 surveyed=20240230 d=1`: 24 at 12; by 02 (request 4) 30.
    refused_message text·D "17 surveyed=20240230 d=1" 30 12
    ∷
    -- * D, `17, 18`: 25 at 2.
    refused_message text·D "17, 18" 25 2
    ∷
    -- * D, `17 surveyed=20240310 d=`: 23 at 23.
    refused_message text·D "17 surveyed=20240310 d=" 23 23
    ∷
    -- * E, empty: accepted, 1 row. (The root's: 0, 4,294,967,295, 0, length.)
    read text·E "" (row 0 4294967295 0 0 0 ∷ [])
    ∷
    -- * E, `surveyed=20240310`: 23 at 8.
    refused_message text·E "surveyed=20240310" 23 8
    ∷
    -- * E, `x`: 27 at 1.
    refused_message text·E "x" 27 1
    ∷
    -- * `struct a { a b; };`: 10 at 7.
    refused_text "struct a { a b; };" 10 7
    ∷
    -- With `b[0..1]` it compiles.
    tabled "struct a { a b[0..1]; };" 2 50 1 (0x19 ∷ 0x00 ∷ 0x0A ∷ 0x00 ∷ 0x00 ∷ 0x00 ∷ 0x00 ∷ 0x00 ∷ 0x00 ∷ 0x00 ∷ 0x01 ∷ 0x00 ∷ 0x00 ∷ 0x00 ∷ 0x00 ∷ 0x00 ∷ 0x00 ∷ 0x00 ∷ 0x00 ∷ 0x00 ∷ 0x00 ∷ 0x00 ∷ 0x01 ∷ 0x00 ∷ 0x62 ∷ [])
    ∷
    -- * `struct s { int x; bool y as x; };`: 8 at 28.
    refused_text "struct s { int x; bool y as x; };" 8 28
    ∷
    []

-- ---- the cases that 02 names, request by request

unfoldable pub requested_cases : List Case
requested_cases =
    -- 2: "`19000229` becomes 24"; by request 4 it is 30.
    refused_message text·D "17 surveyed=19000229 d=1" 30 12
    ∷
    -- 2: "`20000229` stays accepted."
    read text·D "17 surveyed=20000229 d=1" (row 0 4294967295 0 24 0 ∷ row 1 0 0 2 0 ∷ row 2 0 12 20 0 ∷ row 3 0 23 24 0 ∷ [])
    ∷
    -- 4: "`017` stays 24."
    refused_message text·D "017" 24 0
    ∷
    -- 4: "`20240230` becomes 30" (above), "as does `0` for D's id."
    refused_message text·D "0" 30 0
    ∷
    -- 4: "An int of any number of digits in right form but beyond its range is 30."
    refused_message text·D "99999999999999999999999" 30 0
    ∷
    []
