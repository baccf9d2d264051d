-- 256 records fit into 65,535 bytes.
use mathlib.Core.Path.{◌≡◌, refl}
use mathlib.Core.Bool.{Bool, true, false}
use mathlib.Core.List.{List, [], ◌∷◌}
use Prim.Native.Nat.{ℕ, zero, suc, ◌+◌, ◌*◌, ◌-◌, ◌/◌, ◌%◌, ◌^◌, ◌≤◌, ◌<◌}
use native.Mathlib.Nat.{div-add-mod'}
use native.Mathlib.Omega.{arith}
use lib.Dec.{eqb, ltb}
use lib.ListN.{length, length-append}
use borrow.Author.Tests.{ltb-false}
use Rattle.numbers.specs.Limits.{bias}
use Rattle.classes.specs.Lists.{pick, All}
use Rattle.definition_rules.specs.Words.{kw_as, kw_plugin, is_compound}
use Rattle.definition_rules.specs.Scan.{TextToken, run, mark}
use Rattle.definition_rules.specs.Forms.{type_run, put_range, put_card, put_tag, put_plugin, put_head, MaybeRun, absent, given, Tag, own_name, tagless, explicit, Heading, heading}
use Rattle.reading_rules.specs.Record.{Up, top}
use Rattle.definition_rules.specs.Declarations.{Declaration, declaration, BodyMode, in_fields, group_opened, in_group, groups_closed, Frame, frame}
use Rattle.table_rules.specs.RecordRules.{is_open, closed_to, in_extension, push_if}
use Rattle.table_rules.proofs.Numerals.{write_digits, write_nat, write_int}
use Rattle.table_rules.proofs.Spelling.{print_token, print_tokens}
use Rattle.table_rules.proofs.FlatPrint.{put_end_of, put_heading, pushed, put_close, put_closes, put_open, print_flat}
use Rattle.table_rules.proofs.Witness.{write_upper, write_count, write_range, keyword_of}

-- digits
dig_len : (d f n : ℕ) (r : List ℕ) → n < 10 ^ suc d → length (write_digits f n r) ≤ suc d + length r
unfolding write_digits
dig_len d zero n r h = omega arith
dig_len zero (suc f) n r h = by (ltb n 10) refl
  where
    by : (b : Bool) → ltb n 10 ≡ b → length (pick b ((48 + n) ∷ r) (write_digits f (n / 10) ((48 + n % 10) ∷ r))) ≤ 1 + length r
    by true e = unfold pick in omega arith
    by false e = absurd (omega (arith, ltb-false n 10 e))
dig_len (suc d) (suc f) n r h = by (ltb n 10) (dig_len d f (n / 10) ((48 + n % 10) ∷ r) (omega (arith, div-add-mod' n 10)))
  where
    by : (b : Bool) → length (write_digits f (n / 10) ((48 + n % 10) ∷ r)) ≤ suc d + suc (length r) → length (pick b ((48 + n) ∷ r) (write_digits f (n / 10) ((48 + n % 10) ∷ r))) ≤ suc (suc d) + length r
    by true e = unfold pick in omega arith
    by false e = unfold pick in omega arith

nat_len : (n : ℕ) → n < 100000 → length (write_nat n) ≤ 5
unfolding write_nat
nat_len n h = omega (arith, dig_len 4 n n [] (omega arith))

nat_len10 : (n : ℕ) → n < 10000000000 → length (write_nat n) ≤ 10
unfolding write_nat
nat_len10 n h = omega (arith, dig_len 9 n n [] (omega arith))

-- bytes of a token row
abbrev size : List TextToken → ℕ
size r = length (print_tokens r)

size_run : (w : List ℕ) (r : List TextToken) → size (run w ∷ r) ≡ length w + suc (size r)
unfolding print_tokens print_token
size_run w r = simp length-append

size_mark : (n : ℕ) (r : List TextToken) → size (mark n ∷ r) ≡ suc (suc (size r))
unfolding print_tokens print_token
size_mark n r = refl

unfoldable pub run_length : MaybeRun → ℕ
run_length absent = 0
run_length (given v) = length v

unfoldable pub SmallRun : ℕ → MaybeRun → Type 0
SmallRun m absent = Unit {0}
SmallRun m (given v) = length v ≤ m

unfoldable pub SmallTag : Tag → Type 0
SmallTag own_name = Unit {0}
SmallTag tagless = Unit {0}
SmallTag (explicit v) = length v ≤ 63

unfoldable pub SmallHeading : Heading → Type 0
SmallHeading (heading w g n c t p) = (length w + run_length g ≤ 63) × (length n ≤ 63) × SmallRun 12 c × SmallTag t

size_range : (g : MaybeRun) (r : List TextToken) → size (put_range g r) ≤ 5 + run_length g + size r
unfolding put_range run_length
size_range absent r = omega arith
size_range (given v) r = omega (arith, size_mark 60 (run v ∷ mark 62 ∷ r), size_run v (mark 62 ∷ r), size_mark 62 r)

size_card : (g : MaybeRun) (r : List TextToken) → SmallRun 12 g → size (put_card g r) ≤ 17 + size r
unfolding put_card SmallRun
size_card absent r h = omega arith
size_card (given v) r h = omega (arith, size_mark 91 (run v ∷ mark 93 ∷ r), size_run v (mark 93 ∷ r), size_mark 93 r)

size_tag : (t : Tag) (r : List TextToken) → SmallTag t → size (put_tag t r) ≤ 67 + size r
unfolding put_tag SmallTag
size_tag own_name r h = omega arith
size_tag tagless r h = omega (arith, size_run kw_as (mark 63 ∷ r), size_mark 63 r)
size_tag (explicit v) r h = omega (arith, size_run kw_as (run v ∷ r), size_run v r)

size_plugin : (p : Bool) (r : List TextToken) → size (put_plugin p r) ≤ 7 + size r
unfolding put_plugin
size_plugin true r = omega (arith, size_run kw_plugin r)
size_plugin false r = omega arith

size_heading : (h : Heading) (r : List TextToken) → SmallHeading h → size (put_heading h r) ≤ 226 + size r
unfolding put_heading put_head type_run SmallHeading
size_heading (heading w g n c t p) r h =
    let x5 = mark (put_end_of (is_compound w)) ∷ r in
    let x4 = put_plugin p x5 in
    let x3 = put_tag t x4 in
    let x2 = put_card c x3 in
    let a = h.0 in let b = h.1 in
    omega (arith, size_run w (put_range g (run n ∷ x2)), size_range g (run n ∷ x2), size_run n x2, size_card c x3 h.2, size_tag t x4 h.3, size_plugin p x5, size_mark (put_end_of (is_compound w)) r)

size_close : (m : BodyMode) (r : List TextToken) → size (put_close m r) ≤ 6 + size r
unfolding put_close
size_close in_fields r = omega (arith, size_mark 125 (mark 59 ∷ r), size_mark 59 r)
size_close group_opened r = omega arith
size_close in_group r = omega (arith, size_mark 93 (mark 125 ∷ mark 59 ∷ r), size_mark 125 (mark 59 ∷ r), size_mark 59 r)
size_close groups_closed r = omega (arith, size_mark 125 (mark 59 ∷ r), size_mark 59 r)

size_closes : (u : Up) (σ : List Frame) (r : List TextToken) → size (put_closes u σ r) + 6 * length (closed_to u σ) ≤ size r + 6 * length σ
unfolding put_closes closed_to
size_closes u [] r = omega arith
size_closes u (frame q m ∷ σ) r = by (is_open u q) (size_closes u σ r) (size_close m (put_closes u σ r))
  where
    by : (b : Bool) → size (put_closes u σ r) + 6 * length (closed_to u σ) ≤ size r + 6 * length σ → size (put_close m (put_closes u σ r)) ≤ 6 + size (put_closes u σ r) → size (pick b r (put_close m (put_closes u σ r))) + 6 * length (pick b (frame q m ∷ σ) (closed_to u σ)) ≤ size r + 6 * suc (length σ)
    by true x y = unfold pick in omega arith
    by false x y = unfold pick in omega arith

size_open : (e : Bool) (σ : List Frame) (r : List TextToken) → size (put_open e σ r) ≤ 2 + size r
unfolding put_open
size_open e [] r = omega arith
size_open true (frame q in_fields ∷ σ) r = omega (arith, size_mark 91 r)
size_open true (frame q group_opened ∷ σ) r = omega arith
size_open true (frame q in_group ∷ σ) r = omega arith
size_open true (frame q groups_closed ∷ σ) r = omega arith
size_open false (f ∷ σ) r = omega arith

push_len : (w : List ℕ) (k : ℕ) (e : Bool) (σ : List Frame) → length (pushed w k (in_extension e σ)) ≤ 1 + length σ
unfolding pushed
push_len w k e σ = by (is_compound w) (op e σ)
  where
    op : (e : Bool) (σ : List Frame) → length (in_extension e σ) ≤ length σ
    op e [] = unfold in_extension in omega arith
    op true (frame q m ∷ σ) = unfold in_extension in omega arith
    op false (f ∷ σ) = unfold in_extension in omega arith

    by : (b : Bool) → length (in_extension e σ) ≤ length σ → length (push_if b k (in_extension e σ)) ≤ 1 + length σ
    by true h = unfold push_if in omega arith
    by false h = unfold push_if in omega arith

unfoldable pub SmallDeclaration : Declaration → Type 0
SmallDeclaration (declaration u e h) = SmallHeading h

pub size_print : (ds : List Declaration) (σ : List Frame) (k : ℕ) → All SmallDeclaration ds → size (print_flat σ k ds) ≤ 234 * length ds + 6 * length σ
unfolding print_flat All SmallDeclaration
size_print [] σ k h = omega (arith, size_closes top σ [], nil)
  where
    nil : size [] ≡ 0
    nil = unfold print_tokens in refl
size_print (declaration u e h ∷ ds) σ k a =
    let τ = pushed (type_run h) k (in_extension e (closed_to u σ)) in
    let r = print_flat τ (suc k) ds in
    omega (arith, size_closes u σ (put_open e (closed_to u σ) (put_heading h r)), size_open e (closed_to u σ) (put_heading h r), size_heading h r a.0, size_print ds τ (suc k) a.1, push_len (type_run h) k e (closed_to u σ))

pub fits_limit : (ds : List Declaration) → All SmallDeclaration ds → length ds ≤ 256 → length (print_tokens (print_flat [] 0 ds)) ≤ 65535
fits_limit ds a h = omega (arith, size_print ds [] 0 a)

int_len : (z : ℕ) → z < bias + bias → length (write_int z) ≤ 11
unfolding write_int
int_len z h = by (ltb z bias)
  where
    by : (b : Bool) → length (pick b (45 ∷ write_nat (bias - z)) (write_nat (z - bias))) ≤ 11
    by true = unfold pick in (omega (arith, nat_len10 (bias - z) (omega arith)))
    by false = unfold pick in (omega (arith, nat_len10 (z - bias) (omega arith)))

pub range_length : (a b : ℕ) → a < bias + bias → b < bias + bias → length (write_range a b) ≤ 24
unfolding write_range
range_length a b h l = simp length-append (omega (arith, int_len a h, int_len b l))

pub count_length : (c d : ℕ) → c ≤ 65534 → d ≤ 65535 → length (write_count c d) ≤ 12
unfolding write_count write_upper
count_length c d h l = simp length-append (by (eqb d 65535) (nat_len c (omega arith)) (nat_len d (omega arith)))
  where
    by : (b : Bool) → length (write_nat c) ≤ 5 → length (write_nat d) ≤ 5 → length (write_nat c) + suc (suc (length (pick b (42 ∷ []) (write_nat d)))) ≤ 12
    by true x y = unfold pick in omega arith
    by false x y = unfold pick in omega arith

pub keyword_length : (k : ℕ) → length (keyword_of k) ≤ 14
unfolding keyword_of
keyword_length zero = omega arith
keyword_length (suc zero) = omega arith
keyword_length (suc (suc zero)) = omega arith
keyword_length (suc (suc (suc zero))) = omega arith
keyword_length (suc (suc (suc (suc zero)))) = omega arith
keyword_length (suc (suc (suc (suc (suc zero))))) = omega arith
keyword_length (suc (suc (suc (suc (suc (suc zero)))))) = omega arith
keyword_length (suc (suc (suc (suc (suc (suc (suc zero))))))) = omega arith
keyword_length (suc (suc (suc (suc (suc (suc (suc (suc zero)))))))) = omega arith
keyword_length (suc (suc (suc (suc (suc (suc (suc (suc (suc k))))))))) = omega arith
