-- Each turn over unknown parts, said of plain lists.
use mathlib.Core.Path.{◌≡◌, refl, ap, sym, ◌∙◌}
use mathlib.Core.List.{List, [], ◌∷◌}
use Prim.Native.Nat.{ℕ, zero, suc, ◌+◌, ◌-◌, ◌≤◌, ◌<◌}
use native.Mathlib.Omega.{arith}
use lib.ListN.{length, take, drop}
use Rattle.reading_rules.specs.Token.{Token, word, string, equals, comma, opening, closing}
use Rattle.reading_rules.specs.Reading.{Tree, unknown_value, unknown_list, unknown_braces, unknown_more}
use Rattle.message_rules.specs.Scan.{tokens_of}
use Rattle.reading_rules.specs.Parse.{Result, refused, got, then, after_token, braces_at, pair_with, unknown_at, after_unknown, unknowns_at}
use Rattle.message_rules.specs.Verdict.{start_or}
use Rattle.std.specs.Prelude.{Result as Answer, Ok, Err}
use Rattle.message_tokens.specs.Cursor.{part, cut_at, lexemes_at, Step}
use Rattle.message_tokens.specs.Head.{kind_number, token_of, token_kind, HeadAt}
use Rattle.message_tokens.specs.declared.TokenKind.{TokenKind}
use Rattle.message_tokens.specs.declared.TokenKind.TheVariants.{Nothing, Word, String, Equals, Comma, Opening, Closing}
use Rattle.numbers.specs.declared.Refusal.{Refusal}
use Rattle.message_tokens.specs.declared.Cursor.{Cursor}
use Rattle.message_tokens.specs.declared.Head.{Head}
use Rattle.message_tokens.proofs.Heads.{head_step, head_not, step_tokens, step_within}
use Rattle.message_unknown.specs.Along.{Tail, here, tokens_at}
use Rattle.message_unknown.specs.Passing.{Left, stuck, left, left_of, braces_from, unknown_from, unknowns_from, MovedPast, PassedUpTo, Halted, PassesTo, BraceOn, ValueOn, ListOn}
use Rattle.message_unknown.proofs.AlongLaws.{tail_trans, tail_length, tokens_length, step_tail, part_lexemes, part_start, part_end, part_length}

-- going on
pub moved_on : (base : ℕ) (s : List ℕ) (lo i j : ℕ) → MovedPast base s lo i → MovedPast base s i j → MovedPast base s lo j
moved_on base s lo i j a b =
    record { along = tail_trans (lexemes_at base s lo) (lexemes_at base s i) (lexemes_at base s j) b.along a.along; less = omega (arith, a.less, b.less); within = b.within }

pub step_moved : (base : ℕ) (s : List ℕ) (i : ℕ) (t : Token) (a e : ℕ) → Step (cut_at base s i) base s i t a e → MovedPast base s i e
step_moved base s i t a e h =
    let w = step_within base s i t a e h in
    record { along = step_tail base s i t a e h; less = w.0; within = w.1 }

-- where a loop stands: at its start, or further on with the same answer
pub record Went (o o' : Left) (base : ℕ) (s : List ℕ) (lo at : ℕ) : Type 0 where
  pub is : o ≡ o'
  pub along : Tail (lexemes_at base s at) (lexemes_at base s lo)
  pub least : lo ≤ at

pub went_start : (o : Left) (base : ℕ) (s : List ℕ) (at : ℕ) → Went o o base s at at
went_start o base s at = record { is = refl; along = here; least = omega arith }

pub went_on : {o o' o'' : Left} {base : ℕ} {s : List ℕ} {lo i j : ℕ} → Went o o' base s lo i → o' ≡ o'' → MovedPast base s i j → Went o o'' base s lo j
went_on {o} {o'} {o''} {base} {s} {lo} {i} {j} a e b =
    record { is = a.is ∙ e; along = tail_trans (lexemes_at base s lo) (lexemes_at base s i) (lexemes_at base s j) b.along a.along; least = omega (arith, a.least, b.less) }

-- the one law of every loop's return
pub ends_after : {o o' : Left} {base : ℕ} {s : List ℕ} {lo i : ℕ} (g : Answer Cursor Refusal) → Went o o' base s lo i → PassesTo o' base s i g → PassesTo o base s lo g
ends_after {o} {o'} {base} {s} {lo} {i} (Ok u) a b =
    record {
      is = a.is ∙ b.is;
      moved = record {
        along = tail_trans (lexemes_at base s lo) (lexemes_at base s i) (lexemes_at base s u.at) b.moved.along a.along;
        less = omega (arith, a.least, b.moved.less);
        within = b.moved.within;
      };
    }
ends_after {o} {o'} {base} {s} {lo} {i} (Err r) a b =
    record { rest = b.rest; is = a.is ∙ b.is; along = tail_trans (lexemes_at base s lo) (lexemes_at base s i) b.rest b.along a.along; place = b.place }

pub passes_after : {o o' : Left} {base : ℕ} {s : List ℕ} {lo i e : ℕ} → Went o o' base s lo i → PassedUpTo o' base s i e → PassedUpTo o base s lo e
passes_after {e = e} a b = ends_after (Ok (record { at = e })) a b

pub halts_after : {o o' : Left} {base : ℕ} {s : List ℕ} {lo i n q : ℕ} → Went o o' base s lo i → Halted o' (lexemes_at base s i) (base + length s) n q → Halted o (lexemes_at base s lo) (base + length s) n q
halts_after {base = base} {s} {lo} {i} a b = record { rest = b.rest; is = a.is ∙ b.is; along = tail_trans (lexemes_at base s lo) (lexemes_at base s i) b.rest b.along a.along; place = b.place }

-- refused where it stands
pub halt_here : (o : Left) (base : ℕ) (s : List ℕ) (i : ℕ) (h : Head) (n : ℕ) → HeadAt base s i h → o ≡ stuck n (tokens_at base s i) → Halted o (lexemes_at base s i) (base + length s) n (base + h.start)
halt_here o base s i h n g e = record { rest = lexemes_at base s i; is = e; along = here; place = g.place }

no_number : (k : TokenKind) → kind_number k ≡ 0 → k ≡ Nothing
no_number Nothing e = refl
no_number Word e = absurd (omega (arith, e))
no_number String e = absurd (omega (arith, e))
no_number Equals e = absurd (omega (arith, e))
no_number Comma e = absurd (omega (arith, e))
no_number Opening e = absurd (omega (arith, e))
no_number Closing e = absurd (omega (arith, e))

-- braces
left_after : (t : Token) (o : Result (List Token)) → left_of (after_token t o) ≡ left_of o
unfolding left_of after_token
left_after t (refused n x) = refl
left_after t (got a x) = refl

brace_opens_lem : (r : List Token) (k : ℕ) → left_of (braces_at (opening ∷ r) k) ≡ left_of (braces_at r (k + 1))
unfolding braces_at
brace_opens_lem r k = left_after opening (braces_at r (suc k)) ∙ ap (λ n. left_of (braces_at r n)) (omega arith)

brace_closes_lem : (r : List Token) (k : ℕ) → (k ≡ 0 → ⊥) → left_of (braces_at (closing ∷ r) k) ≡ left_of (braces_at r (k - 1))
unfolding braces_at
brace_closes_lem r zero h = absurd (h refl)
brace_closes_lem r (suc k) h = left_after closing (braces_at r k) ∙ ap (λ n. left_of (braces_at r n)) (omega arith)

brace_passes : (t : Token) (r : List Token) (k : ℕ) → (token_kind (t ∷ r) ≡ 5 → ⊥) → (token_kind (t ∷ r) ≡ 6 → ⊥) → left_of (braces_at (t ∷ r) k) ≡ left_of (braces_at r k)
unfolding braces_at token_kind
brace_passes (word w) r k a b = left_after (word w) (braces_at r k)
brace_passes (string w) r k a b = left_after (string w) (braces_at r k)
brace_passes equals r k a b = left_after equals (braces_at r k)
brace_passes comma r k a b = left_after comma (braces_at r k)
brace_passes opening r k a b = absurd (a refl)
brace_passes closing r k a b = absurd (b refl)

module _ (base : ℕ) (s : List ℕ) (i k : ℕ) (h : Head) (g : HeadAt base s i h) where
  brace_on : (t : Token) (n : ℕ) → Step (cut_at base s i) base s i t h.start h.past.at → k ≤ i → n ≤ k + 1 → left_of (braces_at (t ∷ tokens_at base s h.past.at) k) ≡ braces_from base s h.past.at n → BraceOn base s i k h.past.at n
  brace_on t n w f b e =
      let m = step_moved base s i t h.start h.past.at w in
      record { is = ap (λ x. left_of (braces_at x k)) (step_tokens base s i t h.start h.past.at w) ∙ e; moved = m; few = omega (arith, m.less, f, b) }

  pub brace_none : h.kind ≡ Nothing → Halted (braces_from base s i k) (lexemes_at base s i) (base + length s) 23 (base + h.start)
  unfolding braces_at left_of tokens_of
  brace_none e = halt_here (braces_from base s i k) base s i h 23 g (rw (g.none (ap kind_number e)) refl)

  pub brace_opening : h.kind ≡ Opening → k ≤ i → BraceOn base s i k h.past.at (k + 1)
  unfolding token_of
  brace_opening e f = brace_on opening (k + 1) (head_step base s i h g Opening e (λ z. omega arith)) f (omega arith) (brace_opens_lem (tokens_at base s h.past.at) k)

  pub brace_closing : h.kind ≡ Closing → k ≤ i → (k ≡ 0 → ⊥) → BraceOn base s i k h.past.at (k - 1)
  unfolding token_of
  brace_closing e f z = brace_on closing (k - 1) (head_step base s i h g Closing e (λ z. omega arith)) f (omega arith) (brace_closes_lem (tokens_at base s h.past.at) k z)

  pub brace_last : h.kind ≡ Closing → k ≡ 0 → PassedUpTo (braces_from base s i k) base s i h.past.at
  unfolding token_of braces_at left_of
  brace_last e z =
      let w : Step (cut_at base s i) base s i closing h.start h.past.at = head_step base s i h g Closing e (λ z. omega arith) in
      record { is = rw (z, step_tokens base s i closing h.start h.past.at w) refl; moved = step_moved base s i closing h.start h.past.at w }

  pub brace_other : (h.kind ≡ Nothing → ⊥) → (h.kind ≡ Opening → ⊥) → (h.kind ≡ Closing → ⊥) → k ≤ i → BraceOn base s i k h.past.at k
  brace_other z a b f =
      let w = head_step base s i h g h.kind refl (λ e. z (no_number h.kind e)) in
      let t = step_tokens base s i _ _ _ w in
      brace_on (token_of (kind_number h.kind) s h.start h.past.at) k w f (omega arith)
      (brace_passes (token_of (kind_number h.kind) s h.start h.past.at) (tokens_at base s h.past.at) k (λ e. head_not base s i h g Opening a (ap token_kind t ∙ e)) (λ e. head_not base s i h g Closing b (ap token_kind t ∙ e)))

-- the part after the brace
module _ (base : ℕ) (s : List ℕ) (e : ℕ) (h : e ≤ length s) where
  abbrev after : List ℕ
  after = take (length s - e) (drop e s)

  same : braces_from base s e 0 ≡ braces_from (base + e) after 0 0
  same = ap (λ x. left_of (braces_at (tokens_of x) 0)) (sym (part_start base s e))

  pub part_past : (u : Cursor) → PassedUpTo (braces_from (base + e) after 0 0) (base + e) after 0 u.at → PassedUpTo (braces_from base s e 0) base s e (e + u.at)
  part_past u g = record {
    is = same ∙ (g.is ∙ ap (λ x. left (tokens_of x)) (part_lexemes base s e u.at));
    moved = record {
      along = rw (← part_start base s e, ← part_lexemes base s e u.at) g.moved.along;
      less = omega (arith, g.moved.less);
      within = omega (arith, g.moved.within, part_length s e, h);
    };
  }

  pub part_refused : (n q : ℕ) → Halted (braces_from (base + e) after 0 0) (lexemes_at (base + e) after 0) (base + e + length after) n q → Halted (braces_from base s e 0) (lexemes_at base s e) (base + length s) n q
  part_refused n q g = record { rest = g.rest; is = same ∙ g.is; along = rw (← part_start base s e) g.along; place = g.place ∙ ap (λ n. start_or n g.rest) (part_end base s e h) }

-- values
left_pair : (w : List ℕ) (o : Result (Tree unknown_value)) → left_of (pair_with w o) ≡ left_of o
unfolding left_of pair_with
left_pair w (refused n x) = refl
left_pair w (got v x) = refl

pair_left : (w : List ℕ) (x : List Token) → left_of (unknown_at (word w ∷ equals ∷ x)) ≡ left_of (unknown_at x)
unfolding unknown_at
pair_left w x = left_pair w (unknown_at x)

word_left : (w : List ℕ) (x : List Token) → (token_kind x ≡ 3 → ⊥) → left_of (unknown_at (word w ∷ x)) ≡ left x
unfolding unknown_at left_of token_kind
word_left w [] q = refl
word_left w (word v ∷ r) q = refl
word_left w (string v ∷ r) q = refl
word_left w (opening ∷ r) q = refl
word_left w (equals ∷ r) q = absurd (q refl)
word_left w (comma ∷ r) q = refl
word_left w (closing ∷ r) q = refl

left_braces : (o : Result (List Token)) → left_of (then o (λ ts x. got (unknown_braces ts) x)) ≡ left_of o
unfolding left_of then
left_braces (refused n x) = refl
left_braces (got v x) = refl

braces_left : (x : List Token) → left_of (unknown_at (opening ∷ x)) ≡ left_of (braces_at x 0)
unfolding unknown_at
braces_left x = left_braces (braces_at x 0)

value_stuck : (x : List Token) → (token_kind x ≡ 1 → ⊥) → (token_kind x ≡ 2 → ⊥) → (token_kind x ≡ 5 → ⊥) → left_of (unknown_at x) ≡ stuck 23 x
unfolding unknown_at left_of token_kind
value_stuck [] a b c = refl
value_stuck (word w ∷ r) a b c = absurd (a refl)
value_stuck (string w ∷ r) a b c = absurd (b refl)
value_stuck (opening ∷ r) a b c = absurd (c refl)
value_stuck (equals ∷ r) a b c = refl
value_stuck (comma ∷ r) a b c = refl
value_stuck (closing ∷ r) a b c = refl

module _ (base : ℕ) (s : List ℕ) (i : ℕ) (h : Head) (g : HeadAt base s i h) where
  -- a word, and what follows it
  module _ (e : h.kind ≡ Word) where
    word_stands : Step (cut_at base s i) base s i (word (part s h.start h.past.at)) h.start h.past.at
    unfolding token_of
    word_stands = head_step base s i h g Word e (λ z. omega arith)

    after_word : unknown_from base s i ≡ left_of (unknown_at (word (part s h.start h.past.at) ∷ tokens_at base s h.past.at))
    after_word = ap (λ x. left_of (unknown_at x)) (step_tokens base s i _ h.start h.past.at word_stands)

    word_moved : MovedPast base s i h.past.at
    word_moved = step_moved base s i _ h.start h.past.at word_stands

    pub value_on : (d : Head) → HeadAt base s h.past.at d → d.kind ≡ Equals → ValueOn base s i d.past.at
    unfolding token_of
    value_on d f q =
        let w : Step (cut_at base s h.past.at) base s h.past.at equals d.start d.past.at = head_step base s h.past.at d f Equals q (λ z. omega arith) in
        record {
          is = after_word ∙ (ap (λ x. left_of (unknown_at (word (part s h.start h.past.at) ∷ x))) (step_tokens base s h.past.at equals d.start d.past.at w) ∙ pair_left (part s h.start h.past.at) (tokens_at base s d.past.at));
          moved = moved_on base s i h.past.at d.past.at word_moved (step_moved base s h.past.at equals d.start d.past.at w);
        }

    pub value_word : (d : Head) → HeadAt base s h.past.at d → (d.kind ≡ Equals → ⊥) → PassedUpTo (unknown_from base s i) base s i h.past.at
    value_word d f n = record { is = after_word ∙ word_left (part s h.start h.past.at) (tokens_at base s h.past.at) (head_not base s h.past.at d f Equals n); moved = word_moved }

  pub value_string : h.kind ≡ String → PassedUpTo (unknown_from base s i) base s i h.past.at
  unfolding token_of unknown_at left_of
  value_string e =
      let w = head_step base s i h g String e (λ z. omega arith) in
      record { is = rw (step_tokens base s i _ _ _ w) refl; moved = step_moved base s i _ _ _ w }

  pub value_braces : (d : Answer Cursor Refusal) → h.kind ≡ Opening → PassesTo (braces_from base s h.past.at 0) base s h.past.at d → PassesTo (unknown_from base s i) base s i d
  unfolding token_of
  value_braces d e r =
      let w : Step (cut_at base s i) base s i opening h.start h.past.at = head_step base s i h g Opening e (λ z. omega arith) in
      let m = step_moved base s i opening h.start h.past.at w in
      let b : Went (unknown_from base s i) (braces_from base s h.past.at 0) base s i h.past.at = record { is = ap (λ x. left_of (unknown_at x)) (step_tokens base s i opening h.start h.past.at w) ∙ braces_left (tokens_at base s h.past.at); along = m.along; least = omega (arith, m.less) } in
      ends_after d b r

  pub value_none : (h.kind ≡ Word → ⊥) → (h.kind ≡ String → ⊥) → (h.kind ≡ Opening → ⊥) → Halted (unknown_from base s i) (lexemes_at base s i) (base + length s) 23 (base + h.start)
  value_none a b c = halt_here (unknown_from base s i) base s i h 23 g (value_stuck (tokens_at base s i) (head_not base s i h g Word a) (head_not base s i h g String b) (head_not base s i h g Opening c))

  pub opening_within : h.kind ≡ Opening → h.past.at ≤ length s
  opening_within e = (head_step base s i h g Opening e (λ z. omega arith)).within

-- lists
more_left : (fuel : ℕ) (v : Tree unknown_value) (r : List Token) → left_of (after_unknown (unknowns_at fuel) v (comma ∷ r)) ≡ left_of (unknowns_at fuel r)
unfolding after_unknown left_of then
more_left fuel v r = go (unknowns_at fuel r)
  where
    go : (o : Result (Tree unknown_list)) → left_of (then o (λ l x. got (unknown_more v l) x)) ≡ left_of o
    go (refused n x) = refl
    go (got l x) = refl

last_left : (next : List Token → Result (Tree unknown_list)) (v : Tree unknown_value) (x : List Token) → (token_kind x ≡ 4 → ⊥) → left_of (after_unknown next v x) ≡ left x
unfolding after_unknown left_of token_kind
last_left next v [] n = refl
last_left next v (word w ∷ r) n = refl
last_left next v (string w ∷ r) n = refl
last_left next v (opening ∷ r) n = refl
last_left next v (equals ∷ r) n = refl
last_left next v (comma ∷ r) n = absurd (n refl)
last_left next v (closing ∷ r) n = refl

-- what was read may be forgotten
pub left_got : {A : Type 0} (o : Result A) (x : List Token) → left_of o ≡ left x → (a : A) × (o ≡ got a x)
unfolding left_of
left_got (refused n y) x e = let z : ◌≡◌ {A = ℕ} 0 1 = cc in absurd (omega arith)
left_got (got a y) x e = let q : y ≡ x = cc in (a, ap (got a) q)

pub left_refused : {A : Type 0} (o : Result A) (n : ℕ) (x : List Token) → left_of o ≡ stuck n x → o ≡ refused n x
unfolding left_of
left_refused (refused m y) n x e = cc
left_refused (got a y) n x e = let z : ◌≡◌ {A = ℕ} 0 1 = cc in absurd (omega arith)

list_past : (fuel : ℕ) (x y : List Token) (o : Left) → left_of (unknown_at x) ≡ left y → ((v : Tree unknown_value) → left_of (after_unknown (unknowns_at fuel) v y) ≡ o) → left_of (unknowns_at (suc fuel) x) ≡ o
unfolding unknowns_at then
list_past fuel x y o e f = let g = left_got (unknown_at x) y e in rw g.1 (f g.0)

list_stuck : (fuel : ℕ) (x y : List Token) (n : ℕ) → left_of (unknown_at x) ≡ stuck n y → left_of (unknowns_at (suc fuel) x) ≡ stuck n y
unfolding unknowns_at then left_of
list_stuck fuel x y n e = rw (left_refused (unknown_at x) n y e) refl

module _ (base : ℕ) (s : List ℕ) (i : ℕ) (u : Cursor) (p : PassedUpTo (unknown_from base s i) base s i u.at) (h : Head) (g : HeadAt base s u.at h) where
  pub list_more : h.kind ≡ Comma → ListOn base s i h.past.at
  unfolding token_of
  list_more e =
      let w : Step (cut_at base s u.at) base s u.at comma h.start h.past.at = head_step base s u.at h g Comma e (λ z. omega arith) in
      let t = step_tokens base s u.at comma h.start h.past.at w in
      record {
        is = λ fuel. list_past fuel (tokens_at base s i) (tokens_at base s u.at) (left_of (unknowns_at fuel (tokens_at base s h.past.at))) p.is (λ v. rw t (more_left fuel v (tokens_at base s h.past.at)));
        moved = moved_on base s i u.at h.past.at p.moved (step_moved base s u.at comma h.start h.past.at w);
        short = omega (arith, ap length t, tokens_length (lexemes_at base s u.at), tokens_length (lexemes_at base s i), tail_length (lexemes_at base s i) (lexemes_at base s u.at) p.moved.along);
      }

  pub list_last : (h.kind ≡ Comma → ⊥) → (fuel : ℕ) → PassedUpTo (left_of (unknowns_at (suc fuel) (tokens_at base s i))) base s i u.at
  list_last n fuel = record { is = list_past fuel (tokens_at base s i) (tokens_at base s u.at) (left (tokens_at base s u.at)) p.is (λ v. last_left (unknowns_at fuel) v (tokens_at base s u.at) (head_not base s u.at h g Comma n)); moved = p.moved }

pub list_refused : (base : ℕ) (s : List ℕ) (i n q : ℕ) → Halted (unknown_from base s i) (lexemes_at base s i) (base + length s) n q → (fuel : ℕ) → Halted (left_of (unknowns_at (suc fuel) (tokens_at base s i))) (lexemes_at base s i) (base + length s) n q
list_refused base s i n q p fuel = record { rest = p.rest; is = list_stuck fuel (tokens_at base s i) (tokens_of p.rest) n p.is; along = p.along; place = p.place }

-- where the loop over a list stands
pub record UnknownListed (base : ℕ) (s : List ℕ) (lo i : ℕ) : Type 0 where
  pub fuel : ℕ
  pub enough : length (tokens_at base s i) < fuel
  pub went : Went (unknowns_from base s lo) (left_of (unknowns_at fuel (tokens_at base s i))) base s lo i

pub listed_start : (base : ℕ) (s : List ℕ) (lo : ℕ) → UnknownListed base s lo lo
listed_start base s lo = record { fuel = suc (length (tokens_at base s lo)); enough = omega arith; went = went_start (unknowns_from base s lo) base s lo }

pub listed_on : (base : ℕ) (s : List ℕ) (lo i j : ℕ) → UnknownListed base s lo i → ListOn base s i j → UnknownListed base s lo j
listed_on base s lo i j a b = go a.fuel a.enough a.went
  where
    go : (fuel : ℕ) → length (tokens_at base s i) < fuel → Went (unknowns_from base s lo) (left_of (unknowns_at fuel (tokens_at base s i))) base s lo i → UnknownListed base s lo j
    go zero e w = absurd (omega arith)
    go (suc fuel) e w = record { fuel = fuel; enough = omega (arith, b.short); went = went_on w (b.is fuel) b.moved }

pub listed_out : (base : ℕ) (s : List ℕ) (lo i : ℕ) (g : Answer Cursor Refusal) → UnknownListed base s lo i → ((fuel : ℕ) → PassesTo (left_of (unknowns_at (suc fuel) (tokens_at base s i))) base s i g) → PassesTo (unknowns_from base s lo) base s lo g
listed_out base s lo i g a r = go a.fuel a.enough a.went
  where
    go : (fuel : ℕ) → length (tokens_at base s i) < fuel → Went (unknowns_from base s lo) (left_of (unknowns_at fuel (tokens_at base s i))) base s lo i → PassesTo (unknowns_from base s lo) base s lo g
    go zero e w = absurd (omega arith)
    go (suc fuel) e w = ends_after g w (r fuel)
