-- T8, one way: records that the rules allow have a text.
use mathlib.Core.Path.{◌≡◌, refl, ap, sym, ◌∙◌}
use mathlib.Core.Bool.{Bool, true, false, ◌&&◌}
use mathlib.Core.List.{List, [], ◌∷◌}
use Prim.Native.Nat.{ℕ, suc, ◌≤◌, ◌<◌}
use native.Mathlib.Omega.{arith}
use lib.Dec.{leb, eqb}
use lib.ListN.{length, drop_of_length-le}
use borrow.Author.Tests.{leb-true, le-ltb}
use Rattle.classes.proofs.Bools.{both_true}
use Rattle.classes.specs.Bytes.{IsBytes}
use Rattle.table_rules.proofs.TextBytes.{all_bytes, printed_bytes}
use Rattle.numbers.specs.Limits.{text_limit}
use Rattle.classes.specs.Lists.{pick, All}
use Rattle.definition_rules.specs.Scan.{items_of, text_tokens_of, place_if, TextToken, Item}
use Rattle.definition_rules.specs.Forms.{MaybeRun}
use Rattle.reading_rules.specs.Record.{Up, top, under, Record}
use Rattle.definition_rules.specs.Declarations.{parse_tokens, declarations_of, Declaration, Noted, noted, complete}
use Rattle.definition_rules.specs.Finite.{finites, is_endless}
use Rattle.definition_rules.specs.Table.{encode}
use Rattle.definition_rules.specs.Records.{top_names, records_of}
use Rattle.definition_rules.specs.Faults.{name_spots, name_broken, reference_broken, tag_broken, range_broken, count_broken, kinds_of, is_union_at, is_alternative, is_given, count_on_alternative, void_many, rule7_broken, tag_repeated, root_no_struct, dangling}
use Rattle.definition_rules.specs.Compile.{faults1, faults2, faults3, noted_of, checks_of, outcome_of, records_of_text, checks_after, checks_from, checks, verdict, table, Empty, AllEmpty}
use Rattle.table_rules.specs.RecordRules.{ordered, kinds_of_records, is_single_value, target_fine, label_fine, top_fine, record_fine, every_record, none_broken, shown_names, all_new, record_checks, record_rules}
use Rattle.definition_rules.proofs.FirstFault.{clean_table}
use Rattle.definition_rules.proofs.FormComplete.{told, told_complete}
use Rattle.table_rules.proofs.Spelling.{print_tokens, GoodToken, spelled, scan_printed, spelled_tokens, spelled_bad, nest, nest_deep}
use Rattle.table_rules.proofs.FlatPrint.{print_flat, Settled, InOrder, read_flat}
use Rattle.table_rules.proofs.Witness.{card_for, DistinctTops, declaration_for, RecordOk, record_tops, declarations_for, tops_made, records_made}
use Rattle.table_rules.proofs.ShownNames.{Uniq, declared_names, uniq_made, prefix}
use Rattle.table_rules.proofs.GoodTokens.{GoodDeclaration, good_print}
use Rattle.table_rules.proofs.TextSize.{SmallDeclaration, fits_limit}
use Rattle.table_rules.proofs.Depth.{LowEnough, nest_print}
use Rattle.table_rules.proofs.FaultLaws.{new_uniq, unpacked_nil, uniq_twice, Unbroken, all_spots, none_spots, nil_places}
use Rattle.table_rules.proofs.RuleFacts.{fine_of, every_all, all_map, top_lt, tops_of, ok_of, FineRecord}
use Rattle.table_rules.proofs.Made.{kinds_made, length_made, name_passes, tag_passes, reference_passes, range_passes, count_passes, dangling_passes, good_made, small_made, all_made}
use Rattle.table_rules.proofs.MadeOrder.{order_made}

pub spots_length : (ns : List Noted) → length (name_spots ns) ≡ length (declarations_of ns)
unfolding name_spots declarations_of
spots_length [] = refl
spots_length (noted s d ∷ ns) = ap suc (spots_length ns)

-- ---- every check is empty

pub record DeclarationsPass (ds : List Declaration) (rs : List Record) : Type 0 where
  pub few : length ds ≤ 256
  pub names : All (Unbroken name_broken) ds
  pub references : All (Unbroken reference_broken) ds
  pub tags : All (Unbroken tag_broken) ds
  pub ranges : All (Unbroken range_broken) ds
  pub counts : All (Unbroken count_broken) ds
  pub alternatives : All (Unbroken (count_on_alternative (kinds_of ds))) ds
  pub once : Uniq (declared_names ds)
  pub aims : All (Unbroken (dangling (top_names ds))) ds
  pub records : record_checks rs ≡ true

and5 : (a b c d e : Bool) → a && (b && (c && (d && e))) ≡ true → (a ≡ true) × (b ≡ true) × (c ≡ true) × (d ≡ true) × (e ≡ true)
and5 a b c d e h =
    let x = both_true a _ h in let y = both_true b _ x.1 in let z = both_true c _ y.1 in let w = both_true d e z.1 in
    (x.0, y.0, z.0, w.0, w.1)

pub all_empty : (text : List ℕ) (items : List Item) (ns : List Noted) (rs : List Record) → length text ≤ text_limit → faults2 items ≡ [] → DeclarationsPass (declarations_of ns) rs → AllEmpty (checks_of text items (complete ns) ns rs)
unfolding AllEmpty Empty checks_of faults3 record_checks
all_empty text items ns rs h e p =
    let c = and5 (none_broken void_many 0 rs) (none_broken (rule7_broken rs) 0 rs) (none_broken (tag_repeated rs) 0 rs) (none_broken root_no_struct 0 rs) (none_broken (is_endless (finites rs)) 0 rs) p.records in
    let nil = nil_places text items in (
      unfold faults1 place_if in (rw (le-ltb text_limit (length text) h)),
      (
        e,
        (
          nil [] refl,
          (
            nil _ (drop_of_length-le (name_spots ns) {i = 256} (omega (arith, spots_length ns, p.few))),
            (
              nil _ (rw (all_spots name_broken (λ s. s.name_at) ns p.names, all_spots reference_broken (λ s. s.type_at) ns p.references, all_spots tag_broken (λ s. s.tag_at) ns p.tags)),
              (
                nil _ (rw (all_spots range_broken (λ s. s.range_at) ns p.ranges, all_spots count_broken (λ s. s.card_at) ns p.counts, none_spots void_many (λ s. s.card_at) 0 rs ns c.0, all_spots (count_on_alternative (kinds_of (declarations_of ns))) (λ s. s.card_at) ns p.alternatives)),
                (
                  nil _ (none_spots (rule7_broken rs) (λ s. s.name_at) 0 rs ns c.1),
                  (
                    nil _ (rw (uniq_twice ns [] (unpacked_nil (declared_names (declarations_of ns))) p.once, none_spots (tag_repeated rs) (λ s. s.tag_at) 0 rs ns c.2)),
                    (
                      nil _ (rw (none_spots root_no_struct (λ s. s.name_at) 0 rs ns c.3, all_spots (dangling (top_names (declarations_of ns))) (λ s. s.type_at) ns p.aims)),
                      (
                        nil _ (none_spots (is_endless (finites rs)) (λ s. s.name_at) 0 rs ns c.4),
                        tt,
                      ),
                    ),
                  ),
                ),
              ),
            ),
          ),
        ),
      ),
    )

-- ---- the rules as facts

pub record Ruled (rs : List Record) : Type 0 where
  pub nonempty : 1 ≤ length rs
  pub few : length rs ≤ 256
  pub in_order : ordered [] 0 rs ≡ true
  pub fine : All (FineRecord rs (is_union_at (kinds_of_records rs))) rs
  pub once : Uniq (shown_names rs)
  pub checked : record_checks rs ≡ true

pub ruled_of : (limit : ℕ) (rs : List Record) → limit ≤ 256 → record_rules limit rs ≡ true → Ruled rs
unfolding record_rules
ruled_of limit rs h e =
    let x = both_true (leb 1 (length rs)) _ e in
    let y = both_true (leb (length rs) limit) _ x.1 in
    let z = both_true (ordered [] 0 rs) _ y.1 in
    let w = both_true (every_record (record_fine rs (is_union_at (kinds_of_records rs))) rs) _ z.1 in
    let v = both_true (all_new (shown_names rs)) (record_checks rs) w.1 in
    record {
      nonempty = leb-true 1 (length rs) x.0;
      few = omega (arith, leb-true (length rs) limit y.0);
      in_order = z.0;
      fine = all_map (λ r. record_fine rs (is_union_at (kinds_of_records rs)) r ≡ true) (FineRecord rs (is_union_at (kinds_of_records rs))) rs (λ r. fine_of rs (is_union_at (kinds_of_records rs)) r) (every_all (record_fine rs (is_union_at (kinds_of_records rs))) rs w.0);
      once = new_uniq (shown_names rs) v.0;
      checked = v.1;
    }

-- ---- the text

alternative_passes : (A : ℕ → Bool) (ks : List ℕ) (T : List MaybeRun) (q i : ℕ) (r : Record) → A ≡ is_union_at ks → Unbroken (count_on_alternative ks) (declaration_for T A q i r)
unfolding count_on_alternative declaration_for
alternative_passes A ks T q i r e = rw (← e) (by r.parent)
  where
    by : (u : Up) → is_alternative A u && is_given (card_for (is_single_value A u) r.lo_count r.hi_count) ≡ false
    by top = unfold is_alternative in refl
    by (under p) = unfold is_alternative is_single_value in (go (A p))
      where
        go : (b : Bool) → b && is_given (card_for b r.lo_count r.hi_count) ≡ false
        go true = unfold card_for is_given in refl
        go false = refl

module _ (rs : List Record) (z : Ruled rs) where
  abbrev T : List MaybeRun
  T = record_tops rs

  abbrev A : ℕ → Bool
  A = is_union_at (kinds_of_records rs)

  abbrev q : ℕ
  q = (prefix rs).0

  abbrev ds : List Declaration
  ds = declarations_for T A q 0 rs

  labels : All (λ r. label_fine r ≡ true) rs
  labels = all_map (FineRecord rs A) (λ r. label_fine r ≡ true) rs (λ r f. f.named) z.fine

  tops : DistinctTops T
  tops = tops_of rs z.once

  small : q ≤ 256
  small = omega (arith, (prefix rs).1, z.few)

  oks : All (RecordOk T A) rs
  oks = all_map (FineRecord rs A) (RecordOk T A) rs (λ r f. ok_of rs A r labels f) z.fine

  placed : InOrder [] 0 ds × LowEnough [] 0 ds
  placed = order_made T A q tops rs [] 0 z.in_order oks (all_map (FineRecord rs A) (λ r. top_fine r ≡ true) rs (λ r f. f.topped) z.fine)

  each : (P : Declaration → Type 0) → ((i : ℕ) (r : Record) → i < 256 → FineRecord rs A r → P (declaration_for T A q i r)) → All P ds
  each P f = all_made T A q tops small P (FineRecord rs A) f 0 rs (omega (arith, z.few)) z.fine

  long : length ds ≡ length rs
  long = length_made T A q tops small 0 rs

  made_records : records_of ds ≡ rs
  unfolding records_of
  made_records = rw (tops_made T A q 0 rs) (records_made T A q 0 rs tops oks)

  aimed : (r : Record) → FineRecord rs A r → eqb r.kind 10 ≡ true → r.target < 65535
  aimed r f e = by f.aim
    where
      by : target_fine rs r ≡ true → r.target < 65535
      by x = unfold target_fine pick in (omega (arith, top_lt rs r.target (rw e at x), z.few))

  passed : DeclarationsPass ds rs
  passed = record {
    few = omega (arith, long, z.few);
    names = each (Unbroken name_broken) (λ i r g f. name_passes T A q tops small i r g (ok_of rs A r labels f) f.named);
    references = each (Unbroken reference_broken) (λ i r g f. reference_passes T A q tops small i r g (ok_of rs A r labels f) f.named);
    tags = each (Unbroken tag_broken) (λ i r g f. tag_passes T A q tops small i r g (ok_of rs A r labels f) f.named);
    ranges = each (Unbroken range_broken) (λ i r g f. range_passes T A q tops small i r g (ok_of rs A r labels f) f.named);
    counts = each (Unbroken count_broken) (λ i r g f. count_passes T A q tops small i r g (ok_of rs A r labels f) f.named);
    alternatives = each (Unbroken (count_on_alternative (kinds_of ds))) (λ i r g f. alternative_passes A (kinds_of ds) T q i r (ap is_union_at (sym (kinds_made T A q tops small 0 rs oks))));
    once = uniq_made T A q 0 rs (prefix rs).2 z.once;
    aims = each (Unbroken (dangling (top_names ds))) (λ i r g f. rw (tops_made T A q 0 rs) (dangling_passes T A q tops small i r g (ok_of rs A r labels f) f.named 0 (aimed r f)));
    records = z.checked;
  }

  abbrev ts : List TextToken
  ts = print_flat [] 0 ds

  good : All GoodToken ts
  good = good_print ds [] 0 (each GoodDeclaration (λ i r g f. good_made T A q tops small i r g (ok_of rs A r labels f) f.named))

  short : length (print_tokens ts) ≤ text_limit
  short = fits_limit ds (each SmallDeclaration (λ i r g f. small_made T A q tops small i r g (ok_of rs A r labels f) f.named)) (omega (arith, long, z.few))

  shallow : nest 0 ts ≡ true
  shallow = nest_print ds [] 0 (unfold Settled in tt) placed.0 placed.1

  read : told (parse_tokens ts) ≡ complete ds
  read = read_flat ds [] 0 0 (unfold Settled in tt) placed.0 (omega (arith, long, z.nonempty))

  items : items_of (print_tokens ts) ≡ spelled 0 ts
  items = scan_printed ts 0 good

  outcome : (ns : List Noted) → parse_tokens ts ≡ complete ns → outcome_of (print_tokens ts) ≡ complete ns
  outcome ns e = ap (λ x. parse_tokens (text_tokens_of x)) items ∙ (ap parse_tokens (spelled_tokens ts 0) ∙ e)

  text_verdict : (ns : List Noted) → parse_tokens ts ≡ complete ns → declarations_of ns ≡ ds → verdict (print_tokens ts) ≡ table (encode rs)
  text_verdict ns e d =
      clean_table (print_tokens ts) (rw checks_are (all_empty (print_tokens ts) (spelled 0 ts) ns rs short two (rw d passed)))
      ∙ ap (λ x. table (encode x)) recs
    where
      recs : records_of_text (print_tokens ts) ≡ rs
      recs = rw (outcome ns e) (unfold noted_of in (rw d made_records))

      two : faults2 (spelled 0 ts) ≡ []
      two = unfold faults2 in (rw (spelled_bad ts 0, nest_deep ts 0 0 shallow))

      checks_are : checks (print_tokens ts) ≡ checks_of (print_tokens ts) (spelled 0 ts) (complete ns) ns rs
      checks_are = unfold checks checks_from checks_after in (rw (items, spelled_tokens ts 0, e) (unfold noted_of in (rw (d, made_records))))

  pub text_of : (text : List ℕ) × IsBytes text × (verdict text ≡ table (encode rs))
  text_of = (print_tokens ts, all_bytes (print_tokens ts) (printed_bytes ts good), told_complete (parse_tokens ts) ds read (λ ns e d. text_verdict ns e d))

-- T8, one way: records that the rules allow have a text
pub rules_text : (limit : ℕ) (rs : List Record) → limit ≤ 256 → record_rules limit rs ≡ true → (text : List ℕ) × IsBytes text × (verdict text ≡ table (encode rs))
rules_text limit rs h e = text_of rs (ruled_of limit rs h e)
