-- Where a refusal points, the run that it speaks of stands: the spots of a declaration are those of its runs.
use Rattle.std.specs.Prelude.{◌≡◌, List, ℕ, get_or}
use Rattle.definition_rules.specs.Scan.{TextToken, run, mark}
use Rattle.definition_rules.specs.Forms.{MaybeRun, absent, given, Tag, own_name, tagless, explicit, Heading, heading}
use Rattle.definition_rules.specs.Declarations.{declaration, Spots, Noted, noted}

-- the i-th token
abbrev pub token_at : List TextToken → ℕ → TextToken
token_at ts i = get_or ts i (mark 0)

unfoldable pub RunThere : List TextToken → MaybeRun → ℕ → Type 0
RunThere ts absent i = Unit {0}
RunThere ts (given v) i = token_at ts i ≡ run v

-- "the later name or tag": without a tag run the spot is the name's
unfoldable pub TagThere : List TextToken → List ℕ → Tag → ℕ → Type 0
TagThere ts n own_name i = token_at ts i ≡ run n
TagThere ts n tagless i = token_at ts i ≡ run n
TagThere ts n (explicit v) i = token_at ts i ≡ run v

unfoldable pub HeadingThere : List TextToken → Spots → Heading → Type 0
HeadingThere ts s (heading w g n c t p) = (token_at ts s.type_at ≡ run w) × RunThere ts g s.range_at × (token_at ts s.name_at ≡ run n) × RunThere ts c s.card_at × TagThere ts n t s.tag_at

unfoldable pub NotedThere : List TextToken → Noted → Type 0
NotedThere ts (noted s (declaration u e h)) = HeadingThere ts s h
