-- The number of a refusal at a token that no value starts with.
use Rattle.std.specs.Prelude.{true, false, ◌||◌, ℕ, eqb}

-- 24 for a word, a string or a `{`, else 23
unfoldable pub unfit_of : ℕ → ℕ
unfit_of k = elim (eqb k 1 || (eqb k 2 || eqb k 5)) [ true ↦ 24 | false ↦ 23 ]
