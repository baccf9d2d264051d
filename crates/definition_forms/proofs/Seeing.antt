-- What the cursor's answer says of the token that stands next.
use mathlib.Core.Path.{◌≡◌, refl, ap, ◌∙◌}
use mathlib.Core.Bool.{true}
use mathlib.Core.List.{List}
use Prim.Native.Nat.{ℕ, ◌+◌, ◌<◌}
use native.Mathlib.Omega.{arith}
use lib.ListN.{length}
use Rattle.classes.specs.Lists.{part}
use Rattle.classes.specs.Bytes.{is_mark}
use Rattle.definition_scanner.specs.Lexed.{Lexed, RunAt, MarkAt, BadAt}
use Rattle.definition_scanner.specs.declared.Cursor.{Cursor}
use Rattle.definition_scanner.specs.declared.Lexeme.{Lexeme}
use Rattle.definition_scanner.specs.declared.Lexeme.TheVariants.{Run, Mark, Bad, End}
use Rattle.definition_automaton.specs.Acts.{run_kind}
use Rattle.definition_forms.specs.Sees.{ended, broken, marked, ran, Sees, Sight}

abbrev seen : ℕ → ℕ → ℕ → Sight
seen n s e = record { kind = n; start = s; end = e }

pub sees_run : (text : List ℕ) (at : ℕ) (l : Lexeme) (a : ℕ) (c : Cursor) (w : List ℕ) (n : ℕ) → Lexed text at l → l ≡ Run a c → w ≡ part text a c.at → n ≡ run_kind w → Sees text at (seen n a c.at)
sees_run text at l a c w n h e q k =
    let r : RunAt text at a c.at = rw e at h in
    record { told = ran (k ∙ ap run_kind q) r.cut; after = λ _. r.after; some = λ _. r.some; order = omega (arith, r.some); within = r.within }

pub sees_mark : (text : List ℕ) (at : ℕ) (l : Lexeme) (b a : ℕ) (c : Cursor) (n : ℕ) → Lexed text at l → l ≡ Mark b a c → n ≡ b → Sees text at (seen n a c.at)
sees_mark text at l b a c n h e q =
    let r : MarkAt text at b a c.at = rw e at h in
    record { told = rw q (marked r.byte r.cut); after = λ _. r.after; some = λ _. omega (arith, r.next); order = omega (arith, r.next); within = r.within }

pub sees_bad : (text : List ℕ) (at : ℕ) (l : Lexeme) (p : ℕ) → Lexed text at l → l ≡ Bad p → Sees text at (seen 1 p (p + 1))
sees_bad text at l p h e =
    let r : BadAt text at p = rw e at h in
    record { told = broken r.rest r.cut; after = λ _. r.after; some = λ _. omega arith; order = omega arith; within = omega (arith, r.within) }

pub sees_end : (text : List ℕ) (at : ℕ) (l : Lexeme) → Lexed text at l → l ≡ End → Sees text at (seen 0 (length text) (length text))
sees_end text at l h e = record { told = ended refl (rw e at h); after = λ q. q; some = λ z. absurd (z refl); order = omega arith; within = omega arith }

pub bad_within : (text : List ℕ) (at : ℕ) (l : Lexeme) (p : ℕ) → Lexed text at l → l ≡ Bad p → p < length text
bad_within text at l p h e = let r : BadAt text at p = rw e at h in r.within

pub mark_at : (text : List ℕ) (at : ℕ) (l : Lexeme) (b a : ℕ) (c : Cursor) → Lexed text at l → l ≡ Mark b a c → is_mark b ≡ true
mark_at text at l b a c h e = let r : MarkAt text at b a c.at = rw e at h in r.byte
