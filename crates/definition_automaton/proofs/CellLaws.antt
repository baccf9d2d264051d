-- Stores among the open bodies are stores among their numbers.
use mathlib.Core.Path.{◌≡◌}
use mathlib.Core.List.{List, map}
use Prim.Native.Nat.{ℕ}
use lib.ListN.{get_or, set}
use Rattle.std.proofs.lemmas.List.{map-set}
use Rattle.std.proofs.Math.Seq.{map-set_same}
use Rattle.definition_automaton.specs.Codes.{no_body, body_parameter, body_part}
use Rattle.definition_automaton.specs.declared.Body.{Body}

-- a body is stored
pub parts_set : (bs : List Body) (i : ℕ) (b : Body) → map body_part (set bs i b) ≡ set (map body_part bs) i (body_part b)
parts_set bs i b = map-set body_part bs i b

pub parameters_set : (bs : List Body) (i : ℕ) (b : Body) → map body_parameter (set bs i b) ≡ set (map body_parameter bs) i (body_parameter b)
parameters_set bs i b = map-set body_parameter bs i b

-- only how far it is
pub parameters_kept : (bs : List Body) (i : ℕ) (b : Body) → b.parameter ≡ (get_or bs i no_body).parameter → map body_parameter (set bs i b) ≡ map body_parameter bs
parameters_kept bs i b e = map-set_same body_parameter bs i b no_body e
