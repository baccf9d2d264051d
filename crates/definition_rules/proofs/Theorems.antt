-- What the definitions mean, in the papers' words. Each statement names its proof.
use mathlib.Core.Path.{◌≡◌, refl, ap, sym, ◌∙◌}
use mathlib.Core.Bool.{Bool, false}
use mathlib.Core.List.{List, [], ◌++◌}
use mathlib.Core.Logic.{◌↔◌}
use Prim.Native.Nat.{ℕ, ◌≤◌, ◌<◌}
use lib.Dec.{ltb}
use lib.ListN.{length, drop}
use borrow.Author.Tests.{lt-ltb, le-ltb}
use Rattle.classes.specs.Bytes.{Byte}
use Rattle.classes.specs.Lists.{pick, All}
use Rattle.definition_rules.specs.Scan.{TextToken}
use Rattle.definition_rules.specs.Forms.{tops, Form, print_form, Fits, StuckBy}
use Rattle.reading_rules.specs.Record.{Record}
use Rattle.definition_rules.specs.Declarations.{Noted, complete, stuck_at, parse_tokens, declarations_of, tree_declarations}
use Rattle.definition_rules.specs.Table.{just, encode, decode, Storable}
use Rattle.definition_rules.specs.Compile.{checks, refused, table, verdict, compiled, refusal, answer_with_room, compile_answer, lent_after, table_after, FirstFaultIs}
use Rattle.definition_rules.proofs.TableLaws.{decode_encode, encode_decode}
use Rattle.definition_rules.proofs.FirstFault.{refused_found, found_refused}
use Rattle.definition_rules.proofs.FormComplete.{fits_complete}
use Rattle.definition_rules.proofs.FormSound.{complete_fits}
use Rattle.definition_rules.proofs.FormUnique.{form_unique}
use Rattle.definition_rules.proofs.Stuck.{stuck_by, by_stuck}
use Rattle.definition_rules.specs.Finite.{finites, Sub, Closed}
use Rattle.definition_rules.proofs.FiniteLaws.{finites_closed, finites_least}

-- T2. "the tokens .. fit the forms" exactly when they are read
pub fits_read : (ts : List TextToken) → Fits ts ↔ ((ns : List Noted) × (parse_tokens ts ≡ complete ns))
fits_read ts = ((λ f. let x = fits_complete ts f in (x.0, x.1)), λ x. (complete_fits ts x.0 x.1).0)

-- .. and what is declared is what every tree that prints to them declares
pub declared : (ts : List TextToken) (ns : List Noted) → parse_tokens ts ≡ complete ns → (f : Fits ts) → declarations_of ns ≡ tree_declarations f.0
declared ts ns e f = let x = fits_complete ts f in let q : ns ≡ x.0 = same (sym e ∙ x.1) in ap declarations_of q ∙ x.2
  where
    same : {a b : List Noted} → complete a ≡ complete b → a ≡ b
    same p = cc

-- .. and there is only one tree
pub one_tree : (d e : Form tops) → print_form d [] ≡ print_form e [] → d ≡ e
one_tree = form_unique

-- T3. "first token that can't go on, or the text's length"
pub stuck_iff : (ts : List TextToken) (i : ℕ) → (parse_tokens ts ≡ stuck_at i) ↔ StuckBy ts i
stuck_iff ts i = (stuck_by ts i, by_stuck ts i)

-- T4. "The lowest number that applies is given, at its smallest place."
pub refused_iff : (text : List ℕ) (n p : ℕ) → (verdict text ≡ refused n p) ↔ FirstFaultIs n p (checks text)
refused_iff text n p = (refused_found text n p, found_refused text n p)

-- T5. "Success gives the table's length; bytes beyond it stay." "the table buffer is untouched"
fits_room : (room : ℕ) (bytes : List ℕ) → length bytes ≤ room → ltb room (length bytes) ≡ false
fits_room room bytes h = le-ltb room (length bytes) h

pub compiled_lent : (text bytes lent : List ℕ) → verdict text ≡ table bytes → length bytes ≤ length lent → (compile_answer text (length lent) ≡ compiled (length bytes)) × (table_after text lent ≡ bytes ++ drop (length bytes) lent)
unfolding compile_answer answer_with_room table_after lent_after pick
compiled_lent text bytes lent e h = rw (e, fits_room (length lent) bytes h) (refl, refl)

-- 11: "table longer than the lent buffer", "bytes needed"
pub short_lent : (text bytes lent : List ℕ) → verdict text ≡ table bytes → length lent < length bytes → (compile_answer text (length lent) ≡ refusal 11 (length bytes)) × (table_after text lent ≡ lent)
unfolding compile_answer answer_with_room table_after lent_after pick
short_lent text bytes lent e h = rw (e, lt-ltb (length lent) (length bytes) h) (refl, refl)

pub refused_lent : (text lent : List ℕ) (n p : ℕ) → verdict text ≡ refused n p → (compile_answer text (length lent) ≡ refusal n p) × (table_after text lent ≡ lent)
unfolding compile_answer answer_with_room table_after lent_after
refused_lent text lent n p e = rw e (refl, refl)

-- T7. Decoding after encoding, and back
pub there_and_back : (rs : List Record) → All Storable rs → decode (encode rs) ≡ just rs
there_and_back = decode_encode

pub back_and_there : (s : List ℕ) (rs : List Record) → All Byte s → decode s ≡ just rs → encode rs ≡ s
back_and_there = encode_decode

-- T6, the steps' part: number 10's set is closed under the steps, and lies in every closed set
pub steps_closed : (rs : List Record) → Closed rs (finites rs)
steps_closed = finites_closed

pub steps_least : (rs : List Record) (s : List Bool) → length s ≡ length rs → Closed rs s → Sub (finites rs) s
steps_least = finites_least
