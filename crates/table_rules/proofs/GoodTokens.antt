-- What is printed for records scans as its tokens.
use mathlib.Core.Path.{◌≡◌, refl}
use mathlib.Core.Bool.{◌||◌, Bool, true, false, not, ◌&&◌, or-true}
use mathlib.Core.List.{List, [], ◌∷◌, ◌++◌}
use Prim.Native.Nat.{ℕ, zero, suc, ◌-◌, ◌≤◌}
use native.Mathlib.Omega.{arith}
use lib.Dec.{leb, eqb, ltb}
use lib.ListN.{length}
use Rattle.classes.proofs.Bools.{clash_bool, both_true}
use Rattle.numbers.specs.Limits.{bias}
use Rattle.classes.specs.Lists.{every, pick, not_empty, All}
use Rattle.classes.specs.Bytes.{is_letter, is_digit, is_run_byte, is_blank, is_mark, is_name_byte, is_tag_byte}
use Rattle.definition_rules.specs.Words.{class_of, kw_as, kw_plugin, is_compound, is_keyword, starts_with_letter, name_form, tag_form, in_run, single}
use Rattle.definition_rules.specs.Scan.{TextToken, run, mark}
use Rattle.definition_rules.specs.Forms.{type_run, put_range, put_card, put_tag, put_plugin, put_head, MaybeRun, absent, given, Tag, own_name, tagless, explicit, Heading, heading}
use Rattle.reading_rules.specs.Record.{Up, top}
use Rattle.definition_rules.specs.Declarations.{Declaration, declaration, BodyMode, in_fields, group_opened, in_group, groups_closed, Frame, frame}
use Rattle.table_rules.specs.RecordRules.{is_open, closed_to, in_extension}
use Rattle.table_rules.proofs.Numerals.{write_nat, Digit, write_int, written_digits, in_range}
use Rattle.table_rules.proofs.Spelling.{RunBytes, GoodToken}
use Rattle.table_rules.proofs.FlatPrint.{put_end_of, put_heading, pushed, put_close, put_closes, put_open, print_flat}
use Rattle.table_rules.proofs.Witness.{write_upper, write_count, write_range, keyword_of}
use Rattle.definition_rules.proofs.ScanLaws.{class_run}

-- a tag's bytes are a run's
tag_in_run : (l d m u p s : Bool) → (l || (d || (m || u))) || p ≡ true → l || (d || (m || (u || (p || s)))) ≡ true
tag_in_run true d m u p s e = refl
tag_in_run false true m u p s e = refl
tag_in_run false false true u p s e = refl
tag_in_run false false false true p s e = refl
tag_in_run false false false false true s e = refl
tag_in_run false false false false false s e = clash_bool e

tag_class : (b : ℕ) → is_tag_byte b ≡ true → class_of b ≡ in_run
unfolding is_run_byte is_tag_byte is_name_byte
tag_class b e = class_run b (tag_in_run (is_letter b) (is_digit b) (eqb b 45) (eqb b 95) (eqb b 46) (eqb b 42) e)

name_class : (b : ℕ) → is_name_byte b ≡ true → class_of b ≡ in_run
unfolding is_tag_byte
name_class b e = tag_class b (rw e)

digit_class : (b : ℕ) → Digit b → class_of b ≡ in_run
unfolding is_run_byte is_digit
digit_class b d = class_run b (rw (in_range 48 57 b d.0 d.1) (rw or-true))

abbrev RunByte : ℕ → Type 0
RunByte b = class_of b ≡ in_run

all_class : (f : ℕ → Bool) (h : (b : ℕ) → f b ≡ true → class_of b ≡ in_run) (w : List ℕ) → every f w ≡ true → All RunByte w
unfolding every All
all_class f h [] e = tt
all_class f h (b ∷ w) e = let x = both_true (f b) (every f w) e in (h b x.0, all_class f h w x.1)

runs : (w : List ℕ) → not_empty w ≡ true → All RunByte w → RunBytes w
unfolding not_empty RunBytes
runs [] e a = clash_bool e
runs (b ∷ w) e a = a

pub letter_some : (w : List ℕ) → starts_with_letter w ≡ true → not_empty w ≡ true
unfolding starts_with_letter not_empty
letter_some [] e = e
letter_some (b ∷ w) e = refl

pub name_runs : (w : List ℕ) → name_form w ≡ true → RunBytes w
unfolding name_form
name_runs w e =
    let x = (both_true (starts_with_letter w && every is_name_byte w) (leb (length w) 63) (both_true (starts_with_letter w && every is_name_byte w && leb (length w) 63) (not (is_keyword w)) e).0).0 in
    let y = both_true (starts_with_letter w) (every is_name_byte w) x in
    runs w (letter_some w y.0) (all_class is_name_byte name_class w y.1)

pub tag_runs : (w : List ℕ) → tag_form w ≡ true → RunBytes w
unfolding tag_form
tag_runs w e =
    let y = both_true (not_empty w) (every is_tag_byte w) (both_true (not_empty w && every is_tag_byte w) (leb (length w) 63) e).0 in
    runs w y.0 (all_class is_tag_byte tag_class w y.1)

-- numbers
digits_class : (l : List ℕ) → All Digit l → All RunByte l
unfolding All
digits_class [] a = tt
digits_class (b ∷ l) a = (digit_class b a.0, digits_class l a.1)

append_class : (u v : List ℕ) → All RunByte u → All RunByte v → All RunByte (u ++ v)
unfolding All
append_class [] v a b = b
append_class (c ∷ u) v a b = (a.0, append_class u v a.1 b)

dots_runs : (u v : List ℕ) → All RunByte u → All RunByte v → RunBytes (u ++ (46 ∷ 46 ∷ v))
unfolding RunBytes All class_of is_run_byte
dots_runs [] v a b = (refl, (refl, b))
dots_runs (c ∷ u) v a b = append_class (c ∷ u) (46 ∷ 46 ∷ v) a (refl, (refl, b))

int_class : (z : ℕ) → All RunByte (write_int z)
unfolding write_int
int_class z = by (ltb z bias)
  where
    by : (b : Bool) → All RunByte (pick b (45 ∷ write_nat (bias - z)) (write_nat (z - bias)))
    by true = unfold pick All class_of is_run_byte in (refl, digits_class (write_nat (bias - z)) (written_digits (bias - z)))
    by false = unfold pick in (digits_class (write_nat (z - bias)) (written_digits (z - bias)))

pub range_runs : (a b : ℕ) → RunBytes (write_range a b)
unfolding write_range
range_runs a b = dots_runs (write_int a) (write_int b) (int_class a) (int_class b)

pub count_runs : (c d : ℕ) → RunBytes (write_count c d)
unfolding write_count write_upper
count_runs c d = dots_runs (write_nat c) (write_upper d) (digits_class (write_nat c) (written_digits c)) (hi (eqb d 65535))
  where
    hi : (b : Bool) → All RunByte (pick b (42 ∷ []) (write_nat d))
    hi true = unfold pick All class_of is_run_byte in (refl, tt)
    hi false = unfold pick in (digits_class (write_nat d) (written_digits d))

-- the tokens of a declaration are good
unfoldable pub OptRuns : MaybeRun → Type 0
OptRuns absent = Unit {0}
OptRuns (given v) = RunBytes v

unfoldable pub TagRuns : Tag → Type 0
TagRuns own_name = Unit {0}
TagRuns tagless = Unit {0}
TagRuns (explicit v) = RunBytes v

unfoldable pub GoodDeclaration : Declaration → Type 0
GoodDeclaration (declaration u e (heading w g n c t p)) = RunBytes w × OptRuns g × RunBytes n × OptRuns c × TagRuns t

abbrev GoodRow : List TextToken → Type 0
GoodRow r = All GoodToken r

good_mark : (n : ℕ) (r : List TextToken) → class_of n ≡ single → GoodRow r → GoodRow (mark n ∷ r)
unfolding All GoodToken
good_mark n r e g = (e, g)

good_run : (w : List ℕ) (r : List TextToken) → RunBytes w → GoodRow r → GoodRow (run w ∷ r)
unfolding All GoodToken
good_run w r e g = (e, g)

marks_single : (class_of 60 ≡ single) × (class_of 62 ≡ single) × (class_of 91 ≡ single) × (class_of 93 ≡ single) × (class_of 123 ≡ single) × (class_of 125 ≡ single) × (class_of 59 ≡ single) × (class_of 63 ≡ single)
unfolding class_of is_run_byte is_blank is_mark
marks_single = (refl, refl, refl, refl, refl, refl, refl, refl)

as_plugin_runs : RunBytes kw_as × RunBytes kw_plugin
unfolding RunBytes All class_of is_run_byte
as_plugin_runs = ((refl, (refl, tt)), (refl, (refl, (refl, (refl, (refl, (refl, tt)))))))

good_end : (w : List ℕ) (r : List TextToken) → GoodRow r → GoodRow (mark (put_end_of (is_compound w)) ∷ r)
good_end w r g = by (is_compound w)
  where
    by : (b : Bool) → GoodRow (mark (put_end_of b) ∷ r)
    by true = unfold put_end_of in (good_mark 123 r marks_single.4 g)
    by false = unfold put_end_of in (good_mark 59 r marks_single.6 g)

good_plugin : (p : Bool) (r : List TextToken) → GoodRow r → GoodRow (put_plugin p r)
unfolding put_plugin
good_plugin true r g = good_run kw_plugin r as_plugin_runs.1 g
good_plugin false r g = g

good_tag : (t : Tag) (r : List TextToken) → TagRuns t → GoodRow r → GoodRow (put_tag t r)
unfolding put_tag TagRuns
good_tag own_name r h g = g
good_tag tagless r h g = good_run kw_as _ as_plugin_runs.0 (good_mark 63 r marks_single.7 g)
good_tag (explicit v) r h g = good_run kw_as _ as_plugin_runs.0 (good_run v r h g)

good_card : (c : MaybeRun) (r : List TextToken) → OptRuns c → GoodRow r → GoodRow (put_card c r)
unfolding put_card OptRuns
good_card absent r h g = g
good_card (given v) r h g = good_mark 91 _ marks_single.2 (good_run v _ h (good_mark 93 r marks_single.3 g))

good_range : (c : MaybeRun) (r : List TextToken) → OptRuns c → GoodRow r → GoodRow (put_range c r)
unfolding put_range OptRuns
good_range absent r h g = g
good_range (given v) r h g = good_mark 60 _ marks_single.0 (good_run v _ h (good_mark 62 r marks_single.1 g))

good_close : (m : BodyMode) (r : List TextToken) → GoodRow r → GoodRow (put_close m r)
unfolding put_close
good_close in_fields r g = good_mark 125 _ marks_single.5 (good_mark 59 r marks_single.6 g)
good_close group_opened r g = g
good_close in_group r g = good_mark 93 _ marks_single.3 (good_mark 125 _ marks_single.5 (good_mark 59 r marks_single.6 g))
good_close groups_closed r g = good_mark 125 _ marks_single.5 (good_mark 59 r marks_single.6 g)

good_closes : (u : Up) (σ : List Frame) (r : List TextToken) → GoodRow r → GoodRow (put_closes u σ r)
unfolding put_closes
good_closes u [] r g = g
good_closes u (frame q m ∷ σ) r g = by (is_open u q) (good_close m (put_closes u σ r) (good_closes u σ r g))
  where
    by : (b : Bool) → GoodRow (put_close m (put_closes u σ r)) → GoodRow (pick b r (put_close m (put_closes u σ r)))
    by true x = unfold pick in g
    by false x = unfold pick in x

good_open : (e : Bool) (σ : List Frame) (r : List TextToken) → GoodRow r → GoodRow (put_open e σ r)
unfolding put_open
good_open e [] r g = g
good_open true (frame q in_fields ∷ σ) r g = good_mark 91 r marks_single.2 g
good_open true (frame q group_opened ∷ σ) r g = g
good_open true (frame q in_group ∷ σ) r g = g
good_open true (frame q groups_closed ∷ σ) r g = g
good_open false (f ∷ σ) r g = g

good_heading : (u : Up) (e : Bool) (h : Heading) (r : List TextToken) → GoodDeclaration (declaration u e h) → GoodRow r → GoodRow (put_heading h r)
unfolding GoodDeclaration put_heading put_head type_run
good_heading u e (heading w g n c t p) r x y = good_run w _ x.0 (good_range g _ x.1 (good_run n _ x.2 (good_card c _ x.3 (good_tag t _ x.4 (good_plugin p _ (good_end w r y))))))

all_uncons : {A : Type 0} (P : A → Type 0) (a : A) (l : List A) → All P (a ∷ l) → P a × All P l
unfolding All
all_uncons P a l h = h

pub good_print : (ds : List Declaration) (σ : List Frame) (k : ℕ) → All GoodDeclaration ds → All GoodToken (print_flat σ k ds)
unfolding print_flat
good_print [] σ k h = good_closes top σ [] (unfold All in tt)
good_print (declaration u e h ∷ ds) σ k a =
    let x = all_uncons GoodDeclaration (declaration u e h) ds a in
    good_closes u σ _ (good_open e (closed_to u σ) _ (good_heading u e h _ x.0 (good_print ds (pushed (type_run h) k (in_extension e (closed_to u σ))) (suc k) x.1)))

pub keyword_runs : (k : ℕ) → 1 ≤ k → RunBytes (keyword_of k)
unfolding keyword_of RunBytes All class_of is_run_byte
keyword_runs zero h = absurd (omega arith)
keyword_runs (suc zero) h = (refl, (refl, (refl, (refl, tt))))
keyword_runs (suc (suc zero)) h = (refl, (refl, (refl, (refl, tt))))
keyword_runs (suc (suc (suc zero))) h = (refl, (refl, (refl, tt)))
keyword_runs (suc (suc (suc (suc zero)))) h = (refl, (refl, (refl, (refl, (refl, tt)))))
keyword_runs (suc (suc (suc (suc (suc zero))))) h = (refl, (refl, (refl, (refl, (refl, (refl, (refl, (refl, (refl, (refl, (refl, (refl, (refl, (refl, tt))))))))))))))
keyword_runs (suc (suc (suc (suc (suc (suc zero)))))) h = (refl, (refl, (refl, (refl, tt))))
keyword_runs (suc (suc (suc (suc (suc (suc (suc zero))))))) h = (refl, (refl, (refl, (refl, tt))))
keyword_runs (suc (suc (suc (suc (suc (suc (suc (suc zero)))))))) h = (refl, (refl, (refl, (refl, (refl, (refl, tt))))))
keyword_runs (suc (suc (suc (suc (suc (suc (suc (suc (suc k))))))))) h = (refl, (refl, (refl, (refl, (refl, tt)))))
