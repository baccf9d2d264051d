-- Number 10's steps: `finites` is closed under them, and lies in every set that is.
use mathlib.Core.Path.{◌≡◌, refl, ap, subst, sym, ◌∙◌}
use mathlib.Core.Bool.{Bool, true, false, ◌&&◌, ◌||◌}
use mathlib.Core.List.{List, [], ◌∷◌}
use Prim.Native.Nat.{ℕ, zero, suc, ◌+◌, ◌≤◌, ◌<◌}
use native.Mathlib.Omega.{arith}
use lib.Dec.{eqb}
use lib.ListN.{length, get_or, replicate}
use Rattle.classes.proofs.Bools.{clash_bool}
use Rattle.classes.specs.Lists.{pick}
use Rattle.reading_rules.specs.Record.{Record}
use Rattle.reading_rules.specs.Schema.{is_under}
use Rattle.definition_rules.specs.Table.{bit}
use Rattle.definition_rules.specs.Finite.{Sub, Closed, can_do_without, ends_needs, struct_step, union_step, finite_step, round, rounds, finites}
use mathlib.Core.Logic.{◌⊎◌, inl, inr}

-- ---- sets of parameters

pub sub_at : (s t : List Bool) → Sub s t → (i : ℕ) → get_or s i false ≡ true → get_or t i false ≡ true
unfolding Sub
sub_at [] [] h i e = e
sub_at [] (b ∷ t) h i e = absurd h
sub_at (a ∷ s) [] h i e = absurd h
sub_at (a ∷ s) (b ∷ t) h zero e = h.0 e
sub_at (a ∷ s) (b ∷ t) h (suc i) e = sub_at s t h.1 i e

pub sub_trans : (s t u : List Bool) → Sub s t → Sub t u → Sub s u
unfolding Sub
sub_trans [] [] [] h k = tt
sub_trans [] [] (c ∷ u) h k = absurd k
sub_trans [] (b ∷ t) u h k = absurd h
sub_trans (a ∷ s) [] u h k = absurd h
sub_trans (a ∷ s) (b ∷ t) [] h k = absurd k
sub_trans (a ∷ s) (b ∷ t) (c ∷ u) h k = ((λ e. k.0 (h.0 e)), sub_trans s t u h.1 k.1)

none_sub : (t : List Bool) → Sub (replicate (length t) false) t
unfolding Sub
none_sub [] = tt
none_sub (b ∷ t) = ((λ e. clash_bool e), none_sub t)

-- ---- the step grows with the set

and_grows : (a b c d : Bool) → (a ≡ true → c ≡ true) → (b ≡ true → d ≡ true) → a && b ≡ true → c && d ≡ true
and_grows true b c d f g e = rw (f refl) (g e)
and_grows false b c d f g e = clash_bool e

or_grows : (a b c d : Bool) → (a ≡ true → c ≡ true) → (b ≡ true → d ≡ true) → a || b ≡ true → c || d ≡ true
or_grows true b c d f g e = rw (f refl)
or_grows false b true d f g e = refl
or_grows false b false d f g e = g e

pick_grows : (x : Bool) (a b c d : Bool) → (a ≡ true → c ≡ true) → (b ≡ true → d ≡ true) → pick x a b ≡ true → pick x c d ≡ true
unfolding pick
pick_grows true a b c d f g e = f e
pick_grows false a b c d f g e = g e

module _ (s t : List Bool) (h : (i : ℕ) → get_or s i false ≡ true → get_or t i false ≡ true) where
  struct_grows : (p i : ℕ) (rs : List Record) → struct_step s p i rs ≡ true → struct_step t p i rs ≡ true
  unfolding struct_step
  struct_grows p i [] e = e
  struct_grows p i (r ∷ rs) e =
      pick_grows (is_under p r.parent) _ _ _ _
      (pick_grows (ends_needs r) _ _ _ _ (λ z. z) (and_grows (can_do_without r || get_or s i false) _ (can_do_without r || get_or t i false) _ (or_grows (can_do_without r) _ (can_do_without r) _ (λ z. z) (h i)) (struct_grows p (suc i) rs)))
      (struct_grows p (suc i) rs) e

  union_grows : (p i : ℕ) (rs : List Record) → union_step s p i rs ≡ true → union_step t p i rs ≡ true
  unfolding union_step
  union_grows p i [] e = e
  union_grows p i (r ∷ rs) e =
      or_grows (is_under p r.parent && get_or s i false) _ (is_under p r.parent && get_or t i false) _
      (and_grows (is_under p r.parent) _ (is_under p r.parent) _ (λ z. z) (h i))
      (union_grows p (suc i) rs) e

  pub step_grows : (rs : List Record) (i : ℕ) (r : Record) → finite_step rs s i r ≡ true → finite_step rs t i r ≡ true
  unfolding finite_step
  step_grows rs i r e =
      pick_grows (eqb r.kind 8) _ _ _ _ (struct_grows i 0 rs)
      (pick_grows (eqb r.kind 9) _ _ _ _ (union_grows i 0 rs)
      (pick_grows (eqb r.kind 10) _ _ _ _ (h r.target) (λ z. z))) e

round_grows : (s t : List Bool) → Sub s t → (all : List Record) (i : ℕ) (rs : List Record) → Sub (round all s i rs) (round all t i rs)
unfolding round Sub
round_grows s t h all i [] = tt
round_grows s t h all i (r ∷ rs) = (step_grows s t (sub_at s t h) all i r, round_grows s t h all (suc i) rs)

round_length : (all : List Record) (have : List Bool) (i : ℕ) (rs : List Record) → length (round all have i rs) ≡ length rs
unfolding round
round_length all have i [] = refl
round_length all have i (r ∷ rs) = ap suc (round_length all have (suc i) rs)

module _ (rs : List Record) where
  abbrev pub next : List Bool → List Bool
  next have = round rs have 0 rs

  -- "Simple types have one. A reference has one if .. A union .. A struct .."
  rounds_in : (n : ℕ) (have s : List Bool) → Sub have s → Closed rs s → Sub (rounds n rs have) s
  unfolding rounds
  rounds_in zero have s h c = h
  rounds_in (suc n) have s h c = rounds_in n (next have) s (sub_trans (next have) (next s) s (round_grows have s h rs 0 rs) c) c

  -- least: what is found lies in every closed set
  pub finites_least : (s : List Bool) → length s ≡ length rs → Closed rs s → Sub (finites rs) s
  unfolding finites
  finites_least s l c = rounds_in (length rs) (replicate (length rs) false) s (subst (λ n. Sub (replicate n false) s) l (none_sub s)) c

-- ---- closed: each round adds one, or nothing more is added

unfoldable marks_count : List Bool → ℕ
marks_count [] = 0
marks_count (b ∷ s) = bit b + marks_count s

sub_count : (s t : List Bool) → Sub s t → ◌⊎◌ (s ≡ t) (marks_count s < marks_count t)
unfolding Sub marks_count bit
sub_count [] [] h = inl refl
sub_count [] (b ∷ t) h = absurd h
sub_count (a ∷ s) [] h = absurd h
sub_count (true ∷ s) (true ∷ t) h = by (sub_count s t h.1)
  where
    by : ◌⊎◌ (s ≡ t) (marks_count s < marks_count t) → ◌⊎◌ (true ∷ s ≡ true ∷ t) (1 + marks_count s < 1 + marks_count t)
    by (inl e) = inl (ap (λ q. true ∷ q) e)
    by (inr l) = inr (omega arith)
sub_count (true ∷ s) (false ∷ t) h = clash_bool (h.0 refl)
sub_count (false ∷ s) (true ∷ t) h = inr (by (sub_count s t h.1))
  where
    by : ◌⊎◌ (s ≡ t) (marks_count s < marks_count t) → 0 + marks_count s < 1 + marks_count t
    by (inl e) = rw e (omega arith)
    by (inr l) = omega arith
sub_count (false ∷ s) (false ∷ t) h = by (sub_count s t h.1)
  where
    by : ◌⊎◌ (s ≡ t) (marks_count s < marks_count t) → ◌⊎◌ (false ∷ s ≡ false ∷ t) (0 + marks_count s < 0 + marks_count t)
    by (inl e) = inl (ap (λ q. false ∷ q) e)
    by (inr l) = inr (omega arith)

count_le : (s : List Bool) → marks_count s ≤ length s
unfolding marks_count bit
count_le [] = omega arith
count_le (true ∷ s) = omega (arith, count_le s)
count_le (false ∷ s) = omega (arith, count_le s)

full_sub : (s t : List Bool) → length s ≡ length t → length t ≤ marks_count t → Sub s t
unfolding Sub marks_count bit
full_sub [] [] l h = tt
full_sub [] (b ∷ t) l h = absurd (omega arith)
full_sub (a ∷ s) [] l h = absurd (omega arith)
full_sub (a ∷ s) (true ∷ t) l h = ((λ e. refl), full_sub s t (omega arith) (omega arith))
full_sub (a ∷ s) (false ∷ t) l h = absurd (omega (arith, count_le t))

sub_self : (s : List Bool) → Sub s s
unfolding Sub
sub_self [] = tt
sub_self (b ∷ s) = ((λ e. e), sub_self s)

module _ (rs : List Record) where
  rounds_length : (n : ℕ) (have : List Bool) → length have ≡ length rs → length (rounds n rs have) ≡ length rs
  unfolding rounds
  rounds_length zero have l = l
  rounds_length (suc n) have l = rounds_length n (next rs have) (round_length rs have 0 rs)

  rounds_fixed : (n : ℕ) (have : List Bool) → have ≡ next rs have → rounds n rs have ≡ have
  unfolding rounds
  rounds_fixed zero have e = refl
  rounds_fixed (suc n) have e = ap (rounds n rs) (sym e) ∙ rounds_fixed n have e

  settles : (n : ℕ) (have : List Bool) → Sub have (next rs have) → ◌⊎◌ (Closed rs (rounds n rs have)) (n + marks_count have ≤ marks_count (rounds n rs have))
  unfolding rounds
  settles zero have h = inr (omega arith)
  settles (suc n) have h = by (sub_count have (next rs have) h) (settles n (next rs have) (round_grows have (next rs have) h rs 0 rs))
    where
      by : ◌⊎◌ (have ≡ next rs have) (marks_count have < marks_count (next rs have)) → ◌⊎◌ (Closed rs (rounds n rs (next rs have))) (n + marks_count (next rs have) ≤ marks_count (rounds n rs (next rs have))) → ◌⊎◌ (Closed rs (rounds n rs (next rs have))) (suc n + marks_count have ≤ marks_count (rounds n rs (next rs have)))
      by x (inl c) = inl c
      by (inl e) (inr l) =
          let q : rounds n rs (next rs have) ≡ have = ap (rounds n rs) (sym e) ∙ rounds_fixed n have e in
          inl (subst (λ s. Closed rs s) (sym q) (subst (λ s. Sub s have) e (sub_self have)))
      by (inr g) (inr l) = inr (omega arith)

  -- closed: nothing can be added
  pub finites_closed : Closed rs (finites rs)
  unfolding finites
  finites_closed = by (settles (length rs) (replicate (length rs) false) start)
    where
      start : Sub (replicate (length rs) false) (next rs (replicate (length rs) false))
      start = subst (λ n. Sub (replicate n false) (next rs (replicate (length rs) false))) (round_length rs (replicate (length rs) false) 0 rs) (none_sub (next rs (replicate (length rs) false)))

      none_length : (n : ℕ) → length (replicate n false) ≡ n
      none_length zero = refl
      none_length (suc n) = ap suc (none_length n)

      by : ◌⊎◌ (Closed rs (rounds (length rs) rs (replicate (length rs) false))) (length rs + marks_count (replicate (length rs) false) ≤ marks_count (rounds (length rs) rs (replicate (length rs) false))) → Closed rs (rounds (length rs) rs (replicate (length rs) false))
      by (inl c) = c
      by (inr l) =
          let f = rounds (length rs) rs (replicate (length rs) false) in
          let q = rounds_length (length rs) (replicate (length rs) false) (none_length (length rs)) in
          full_sub (next rs f) f (round_length rs f 0 rs ∙ sym q) (omega arith)
