-- T16: the place of number 22 is what a scan finds.
use mathlib.Core.Path.{◌≡◌, refl, ap, sym, subst, ◌∙◌}
use mathlib.Core.Bool.{Bool, true, false, not, ◌&&◌}
use mathlib.Core.List.{List, [], ◌∷◌, ◌++◌}
use mathlib.Core.Logic.{◌↔◌, inl, inr}
use Prim.Native.Nat.{ℕ}
use native.Mathlib.Omega.{arith}
use lib.Dec.{leb}
use Rattle.numbers.specs.Limits.{open_limit}
use Rattle.reading_rules.specs.Schema.{Found, nowhere, found}
use Rattle.reading_rules.proofs.CountLaws.{clash_bool}
use Rattle.message_rules.specs.Scan.{Lexeme, cut, tokens_of, open_after, is_opening, too_deep, shallow, TokensAre, TokenFault, bad_byte, deep_brace, either, scan_fault}
use Rattle.message_rules.proofs.Promises.{flat_tokens, flat_lexemes}
use Rattle.message_rules.proofs.Spelling.{message_spelled, spelled_once, message_bad, message_faulty, bad_unspelled}

-- ---- the first brace too deep

-- the tokens before it, it, and those after it
pub record DeepAt (n : ℕ) (ls : List Lexeme) (place : ℕ) : Type 0 where
  pub before : List Lexeme
  pub brace : Lexeme
  pub after : List Lexeme
  pub split : ls ≡ before ++ (brace ∷ after)
  pub flat : shallow open_limit n (tokens_of before) ≡ true
  pub deep : shallow open_limit n (tokens_of (before ++ (brace ∷ []))) ≡ false
  pub starts : place ≡ brace.start

nowhere_found : {X : Type 0} {p : ℕ} → nowhere ≡ found p → X
nowhere_found e = let z : ◌≡◌ {A = ℕ} 0 1 = cc in absurd (omega arith)

found_is : {p q : ℕ} → found p ≡ found q → p ≡ q
found_is e = cc

deep_at : (n : ℕ) (ls : List Lexeme) (p : ℕ) → too_deep n ls ≡ found p → DeepAt n ls p
unfolding too_deep
deep_at n [] p e = nowhere_found e
deep_at n (l ∷ ls) p e = by (is_opening l.token && leb open_limit n) refl (deep_at (open_after n l.token) ls p) e
  where
    by : (b : Bool) → (is_opening l.token && leb open_limit n) ≡ b → (too_deep (open_after n l.token) ls ≡ found p → DeepAt (open_after n l.token) ls p) → elim b [ true ↦ found l.start | false ↦ too_deep (open_after n l.token) ls ] ≡ found p → DeepAt n (l ∷ ls) p
    by true q k e = record { before = []; brace = l; after = ls; split = refl; flat = unfold shallow tokens_of in refl; deep = unfold shallow tokens_of in (rw q refl); starts = sym (found_is e) }
    by false q k e =
        let d = k e in
        record { before = l ∷ d.before; brace = d.brace; after = d.after; split = ap (λ x. l ∷ x) d.split; flat = unfold shallow tokens_of in (rw (q, d.flat) refl); deep = unfold shallow tokens_of in (rw (q, d.deep) refl); starts = d.starts }

at_deep : (n : ℕ) (ms : List Lexeme) (l : Lexeme) (rest : List Lexeme) → shallow open_limit n (tokens_of ms) ≡ true → shallow open_limit n (tokens_of (ms ++ (l ∷ []))) ≡ false → too_deep n (ms ++ (l ∷ rest)) ≡ found l.start
unfolding too_deep shallow tokens_of
at_deep n [] l rest f d = by (is_opening l.token && leb open_limit n) refl d
  where
    by : (b : Bool) → (is_opening l.token && leb open_limit n) ≡ b → (not b && true) ≡ false → elim (is_opening l.token && leb open_limit n) [ true ↦ found l.start | false ↦ too_deep (open_after n l.token) rest ] ≡ found l.start
    by true q d = rw q refl
    by false q d = clash_bool (sym d)
at_deep n (m ∷ ms) l rest f d = by (is_opening m.token && leb open_limit n) refl (at_deep (open_after n m.token) ms l rest) f d
  where
    by : (b : Bool) → (is_opening m.token && leb open_limit n) ≡ b → (shallow open_limit (open_after n m.token) (tokens_of ms) ≡ true → shallow open_limit (open_after n m.token) (tokens_of (ms ++ (l ∷ []))) ≡ false → too_deep (open_after n m.token) (ms ++ (l ∷ rest)) ≡ found l.start) → (not b && shallow open_limit (open_after n m.token) (tokens_of ms)) ≡ true → (not b && shallow open_limit (open_after n m.token) (tokens_of (ms ++ (l ∷ [])))) ≡ false → elim (is_opening m.token && leb open_limit n) [ true ↦ found m.start | false ↦ too_deep (open_after n m.token) (ms ++ (l ∷ rest)) ] ≡ found l.start
    by true q k f d = clash_bool f
    by false q k f d = rw q (k f d)

-- ---- the message's tokens are those of the cut

tokens_are : (message : List ℕ) → TokensAre message (cut message).lexemes
tokens_are message = by (cut message).bad refl
  where
    by : (f : Found) → (cut message).bad ≡ f → TokensAre message (cut message).lexemes
    by nowhere e = inl (message_spelled message e)
    by (found bad) e = inr (bad, message_bad message bad e)

cut_tokens : (message : List ℕ) (ls : List Lexeme) → TokensAre message ls → (cut message).lexemes ≡ ls
cut_tokens message ls (inl h) = by (cut message).bad refl
  where
    by : (f : Found) → (cut message).bad ≡ f → (cut message).lexemes ≡ ls
    by nowhere e = spelled_once message (cut message).lexemes ls (message_spelled message e) h
    by (found bad) e = absurd (bad_unspelled message bad e ls h)
cut_tokens message ls (inr h) = ap (λ c. c.lexemes) (message_faulty message ls h.0 h.1)

-- ---- number 22

fault_shown : (message : List ℕ) (place : ℕ) → scan_fault (cut message) ≡ found place → TokenFault message place
unfolding scan_fault
fault_shown message place e = by (too_deep 0 (cut message).lexemes) refl e
  where
    by : (f : Found) → too_deep 0 (cut message).lexemes ≡ f → either f (cut message).bad ≡ found place → TokenFault message place
    by nowhere q e = unfold either in (bad_byte (cut message).lexemes (message_bad message place e) (flat_tokens 0 (cut message).lexemes q))
    by (found p) q e = unfold either in (
        let d = deep_at 0 (cut message).lexemes place (q ∙ e) in
        deep_brace d.before d.brace d.after (subst (TokensAre message) d.split (tokens_are message)) d.flat d.deep d.starts
        )

shown_fault : (message : List ℕ) (place : ℕ) → TokenFault message place → scan_fault (cut message) ≡ found place
unfolding scan_fault either
shown_fault message place (bad_byte ls h f) =
    let c = message_faulty message ls place h in
    ap (λ k. either (too_deep 0 k.lexemes) k.bad) c ∙ ap (λ k. either k (found place)) (flat_lexemes 0 ls f)
shown_fault message place (deep_brace ms l rest h f d s) =
    let c = cut_tokens message (ms ++ (l ∷ rest)) h in
    ap (λ k. either (too_deep 0 k) (cut message).bad) c ∙ (ap (λ k. either k (cut message).bad) (at_deep 0 ms l rest f d) ∙ ap found (sym s))

pub token_fault_iff : (message : List ℕ) (place : ℕ) → (scan_fault (cut message) ≡ found place) ↔ TokenFault message place
token_fault_iff message place = (fault_shown message place, shown_fault message place)
