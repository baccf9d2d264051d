-- A value of a list of ints that is plain digits.
use mathlib.Core.Path.{◌≡◌, refl, sym}
use mathlib.Core.Bool.{Bool, true, ◌&&◌}
use mathlib.Core.List.{List}
use Prim.Native.Nat.{ℕ, ◌+◌, ◌<◌}
use lib.Dec.{leb, ltb}
use borrow.Author.Tests.{leb-true, ltb-true}
use Rattle.numbers.specs.Packed.{packed_limit}
use Rattle.reading_rules.specs.Token.{word}
use Rattle.reading_rules.specs.Schema.{Schema}
use Rattle.reading_rules.proofs.CountLaws.{and_both}
use Rattle.message_tokens.specs.Cursor.{part}
use Rattle.message_tokens.specs.Digits.{DigitsCounted, CountedBefore}
use Rattle.message_lookup.specs.IntList.{IntsOf}
use Rattle.message_lookup.specs.declared.Ints.{Ints}
use Rattle.message_lists.specs.Quickly.{Takes, int_row, QuickValue, QuickOn}
use Rattle.message_frame.specs.declared.Frame.{Frame}
use Rattle.std.specs.Prelude.{Ok}
use Rattle.message_values.proofs.Parts.{leaf_ends, word_judged}

pub takes_all : (e : Ints) (d : ℕ) → d < packed_limit → leb e.least d && leb d e.most ≡ true → Takes e d
takes_all e d f b = and_both (leb e.least d) (leb d e.most) b (λ l m. record { least = leb-true e.least d l; most = leb-true d e.most m; few = f })

module _ (S : Schema) (s : List ℕ) (f : Frame) (e : Ints) (i : IntsOf S f.parameter e) where
  pub quick_value : (end d : ℕ) (before after : List ℕ) → DigitsCounted s f.at end d → Takes e d → after ≡ int_row f end before → QuickValue S s f before after end (f.row + 1)
  quick_value end d before after n t w = record {
    simple = i.plain;
    value = leaf_ends S s f (S.core f.parameter) (word (part s f.at end)) f.at end 0 before after (n.first f.base) (λ r. word_judged _ _ _ r) (sym (i.judged (part s f.at end) d n.natural n.packed t.few t.least t.most)) (Ok (record { past = record { at = end }; row = f.row + 1 })) (record { fits = refl; same = refl; written = w; sized = refl });
  }

  pub quick_on : (end d : ℕ) (before after : List ℕ) (x : Bool) → CountedBefore s f.at end d → (x ≡ true → Takes e d) → x && ltb (f.index + 1) e.hi ≡ true → after ≡ int_row f end before → QuickOn S s f before after (end + 1) (f.row + 1)
  quick_on end d before after x n t b w = and_both x (ltb (f.index + 1) e.hi) b (λ p q. record {
    end = end;
    value = quick_value end d before after n.counted (t p) w;
    more = record { place = end; step = n.second f.base; may = i.grows (f.index + 1) (ltb-true (f.index + 1) e.hi q) };
  })
