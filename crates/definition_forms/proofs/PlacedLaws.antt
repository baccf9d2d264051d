-- Checks over numbers of tokens are checks over places.
use mathlib.Core.Path.{◌≡◌, refl, ap, sym, ◌∙◌}
use mathlib.Core.Bool.{Bool, true, false, not}
use mathlib.Core.List.{List, [], ◌∷◌, ◌++◌}
use Prim.Native.Nat.{ℕ, zero, suc}
use lib.ListN.{length, drop}
use Rattle.reading_rules.specs.Record.{Record}
use Rattle.definition_rules.specs.Scan.{Item, place_if}
use Rattle.definition_rules.specs.Declarations.{Declaration, Spots, Noted, noted, declarations_of}
use Rattle.definition_rules.specs.Faults.{spots_where, record_spots, name_spots, Key, is_new_key, name_key, repeated_names}
use Rattle.definition_rules.specs.Compile.{token_place, token_places}
use Rattle.definition_forms.specs.Placed.{placed_spots, placed_noted, placed_by}

-- a projection of the spots, which a renaming passes
abbrev pub Natural : (Spots → ℕ) → Type 0
Natural at = (f : ℕ → ℕ) (s : Spots) → at (placed_spots f s) ≡ f (at s)

pub natural_type : Natural (λ s. s.type_at)
unfolding placed_spots
natural_type f s = refl

pub natural_range : Natural (λ s. s.range_at)
unfolding placed_spots
natural_range f s = refl

pub natural_name : Natural (λ s. s.name_at)
unfolding placed_spots
natural_name f s = refl

pub natural_card : Natural (λ s. s.card_at)
unfolding placed_spots
natural_card f s = refl

pub natural_tag : Natural (λ s. s.tag_at)
unfolding placed_spots
natural_tag f s = refl

module _ (text : List ℕ) (items : List Item) where
  pub places_append : (xs ys : List ℕ) → token_places text items (xs ++ ys) ≡ token_places text items xs ++ token_places text items ys
  unfolding token_places
  places_append [] ys = refl
  places_append (x ∷ xs) ys = ap (λ l. token_place text items x ∷ l) (places_append xs ys)

  pub places_if : (t : Bool) (p : ℕ) (r : List ℕ) → token_places text items (place_if t p r) ≡ place_if t (token_place text items p) (token_places text items r)
  unfolding token_places place_if
  places_if true p r = refl
  places_if false p r = refl

  pub places_drop : (n : ℕ) (xs : List ℕ) → token_places text items (drop n xs) ≡ drop n (token_places text items xs)
  unfolding token_places
  places_drop zero xs = refl
  places_drop (suc n) [] = refl
  places_drop (suc n) (x ∷ xs) = places_drop n xs

  if_same : (t : Bool) (p q : ℕ) (r s : List ℕ) → p ≡ q → r ≡ s → place_if t p r ≡ place_if t q s
  if_same t p q r s e g = rw (e, g)

  pub where_placed : (f : Declaration → Bool) (at : Spots → ℕ) → Natural at → (ns : List Noted) → token_places text items (spots_where f at ns) ≡ spots_where f at (placed_by (token_place text items) ns)
  unfolding spots_where placed_by placed_noted
  where_placed f at n [] = unfold token_places in refl
  where_placed f at n (noted s d ∷ r) = places_if (f d) (at s) (spots_where f at r) ∙ if_same (f d) _ _ _ _ (sym (n (token_place text items) s)) (where_placed f at n r)

  pub records_placed : (f : ℕ → Record → Bool) (at : Spots → ℕ) → Natural at → (i : ℕ) (rs : List Record) (ns : List Noted) → token_places text items (record_spots f at i rs ns) ≡ record_spots f at i rs (placed_by (token_place text items) ns)
  unfolding record_spots placed_by placed_noted
  records_placed f at n i [] ns = unfold token_places in refl
  records_placed f at n i (r ∷ rs) [] = unfold token_places in refl
  records_placed f at n i (r ∷ rs) (noted s d ∷ ns) = places_if (f i r) (at s) (record_spots f at (suc i) rs ns) ∙ if_same (f i r) _ _ _ _ (sym (n (token_place text items) s)) (records_placed f at n (suc i) rs ns)

  pub names_placed : (ns : List Noted) → token_places text items (name_spots ns) ≡ name_spots (placed_by (token_place text items) ns)
  unfolding name_spots placed_by placed_noted token_places placed_spots
  names_placed [] = refl
  names_placed (noted s d ∷ r) = ap (λ l. token_place text items s.name_at ∷ l) (names_placed r)

  pub repeated_placed : (before : List Key) (ns : List Noted) → token_places text items (repeated_names before ns) ≡ repeated_names before (placed_by (token_place text items) ns)
  unfolding repeated_names placed_by placed_noted
  repeated_placed before [] = unfold token_places in refl
  repeated_placed before (noted s d ∷ r) = places_if (not (is_new_key (name_key d) before)) s.name_at (repeated_names (name_key d ∷ before) r) ∙ if_same (not (is_new_key (name_key d) before)) _ _ _ _ (sym (natural_name (token_place text items) s)) (repeated_placed (name_key d ∷ before) r)

-- what is declared stays
pub declared_placed : (f : ℕ → ℕ) (ns : List Noted) → declarations_of (placed_by f ns) ≡ declarations_of ns
unfolding declarations_of placed_by placed_noted
declared_placed f [] = refl
declared_placed f (noted s d ∷ r) = ap (λ l. d ∷ l) (declared_placed f r)

pub length_placed : (f : ℕ → ℕ) (ns : List Noted) → length (placed_by f ns) ≡ length ns
unfolding placed_by
length_placed f [] = refl
length_placed f (n ∷ ns) = ap suc (length_placed f ns)
