-- The cut from any place on, as code that goes on byte by byte meets it.
use mathlib.Core.Path.{◌≡◌, refl, sym, ◌∙◌}
use mathlib.Core.List.{List}
use Prim.Native.Nat.{ℕ, ◌≤◌}
use lib.ListN.{length}
use Rattle.reading_rules.specs.Schema.{Found, nowhere, found}
use Rattle.message_rules.specs.Scan.{cut_from}
use Rattle.message_rules.proofs.Spelling.{spelled_cut, cut_spelled, faulty_cut, cut_faulty}

-- any fuel that is not less than the bytes gives the same cut
pub cut_enough : (f g at : ℕ) (bytes : List ℕ) → length bytes ≤ f → length bytes ≤ g → cut_from f at bytes ≡ cut_from g at bytes
cut_enough f g at bytes m n = go (cut_from f at bytes).bad refl
  where
    go : (b : Found) → (cut_from f at bytes).bad ≡ b → cut_from f at bytes ≡ cut_from g at bytes
    go nowhere e =
        let h = cut_spelled f at bytes m e in
        spelled_cut f at bytes (cut_from f at bytes).lexemes h m ∙ sym (spelled_cut g at bytes (cut_from f at bytes).lexemes h n)
    go (found p) e =
        let h = cut_faulty f at bytes p m e in
        faulty_cut f at bytes (cut_from f at bytes).lexemes p h m ∙ sym (faulty_cut g at bytes (cut_from f at bytes).lexemes p h n)
