-- What the token that stands next says of the items from a place on, and how a reading ends.
use Rattle.std.specs.Prelude.{◌≡◌, List, [], ◌∷◌, ℕ, ◌≤◌, ◌<◌, eqb, ltb, length, true, Result, Ok, Err}
use Rattle.classes.specs.Lists.{pick, part}
use Rattle.classes.specs.Bytes.{is_mark}
use Rattle.numbers.specs.Limits.{parameter_limit}
use Rattle.definition_automaton.specs.Names.{end_token, at_start_mode}
use Rattle.definition_rules.specs.Scan.{Item, item, bad, run, mark}
use Rattle.definition_scanner.specs.Live.{live_from}
use Rattle.definition_automaton.specs.Acts.{run_kind}
use Rattle.definition_automaton.specs.States.{Stand}
use Rattle.definition_automaton.specs.Codes.{token_number}
use Rattle.definition_forms.specs.declared.Seen.{Seen}
use Rattle.definition_forms.specs.Formed.{stuck_refusal, over}
use Rattle.numbers.specs.declared.Refusal.{Refusal}

-- the token that stands next, by its number
pub record Sight : Type 0 where
  pub kind : ℕ
  pub start : ℕ
  pub end : ℕ

abbrev pub sight_of : Seen → Sight
sight_of x = record { kind = token_number x.kind; start = x.start; end = x.end }

-- the end, a bad byte, a mark or a run
pub data Told (text : List ℕ) (at : ℕ) : ℕ → ℕ → ℕ → Type 0 where
  ended : {n s e : ℕ} → n ≡ end_token → live_from text at ≡ [] → Told text at n s e
  broken : {n s e : ℕ} (rest : List Item) → live_from text at ≡ bad s ∷ rest → Told text at n s e
  marked : {b s e : ℕ} → is_mark b ≡ true → live_from text at ≡ item s (mark b) ∷ live_from text e → Told text at b s e
  ran : {n s e : ℕ} → n ≡ run_kind (part text s e) → live_from text at ≡ item s (run (part text s e)) ∷ live_from text e → Told text at n s e

pub record Sees (text : List ℕ) (at : ℕ) (x : Sight) : Type 0 where
  pub told : Told text at x.kind x.start x.end
  pub after : at ≤ length text → at ≤ x.start
  pub some : (x.kind ≡ end_token → ⊥) → x.start < x.end
  pub order : x.start ≤ x.end
  pub within : x.end ≤ length text

unfoldable pub finish_of : Stand → ℕ → Result ℕ Refusal
finish_of s len =
    pick (eqb s.mode at_start_mode) (pick (eqb s.depth 0) (pick (eqb s.count 0) (Err (stuck_refusal len)) (pick (ltb parameter_limit s.count) (Err (over s.over)) (Ok s.count))) (Err (stuck_refusal len))) (Err (stuck_refusal len))
