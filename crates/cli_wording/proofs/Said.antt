-- What is said of a number is one line.
use Prim.Native.Nat.{ℕ, zero, suc}
use mathlib.Core.Bool.{Bool, true, ◌&&◌}
use mathlib.Core.List.{List}
use mathlib.Core.Path.{◌≡◌, refl}
use Rattle.classes.specs.Lists.{every}
use Rattle.cli_places.specs.Lines.{not_break}
use Rattle.cli_wording.specs.Sayings.{bytes, saying_of, meaning, place_meaning, kind_name}

-- no text has a line feed in it
unfoldable pub clear : (ℕ → List ℕ) → ℕ → ℕ → Bool
clear f zero k = true
clear f (suc m) k = every not_break (f k) && clear f m (suc k)

pub clear_meaning : clear meaning 31 0 ≡ true
unfolding clear every meaning saying_of bytes
clear_meaning = refl

pub clear_place : clear place_meaning 31 0 ≡ true
unfolding clear every place_meaning saying_of bytes
clear_place = refl

pub clear_kind : clear kind_name 11 0 ≡ true
unfolding clear every kind_name saying_of bytes
clear_kind = refl
