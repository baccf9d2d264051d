-- The spots of a declaration are those of its runs: where a refusal points, the run that it speaks of stands.
use mathlib.Core.Path.{◌≡◌, refl, ap, sym, ◌∙◌}
use mathlib.Core.Bool.{Bool, true, false}
use mathlib.Core.List.{List, [], ◌∷◌}
use Prim.Native.Nat.{ℕ, suc, ◌+◌, ◌<◌}
use native.Mathlib.Omega.{arith}
use lib.Dec.{eqb}
use lib.ListN.{length}
use Rattle.classes.specs.Lists.{pick, All}
use Rattle.definition_rules.specs.Scan.{TextToken, run, mark}
use Rattle.definition_rules.specs.Forms.{MaybeRun, absent, given, Tag, own_name, tagless, explicit, Heading, heading, tag_of}
use Rattle.definition_rules.specs.Declarations.{declaration, Spots, spots_of, card_spot, tag_spot, Noted, noted, in_fields, group_opened, groups_closed, Frame, frame, Stage, after_name, after_card, after_tag, after_plugin, Phase, at_start, due_semicolon, after_type, due_range, due_range_end, due_name, in_heading, due_card, due_tag, due_card_end, Action, stop, move, note, allow, with_card, with_tag, with_plugin, field_done, parent_of, is_under_extension, start_run, start_mark, heading_end, heading_run, heading_mark, step, Outcome, stuck_at, complete, map_outcome, end_if, at_end, parse_forms, parse_tokens}
use Rattle.definition_rules.specs.Spots.{token_at, RunThere, TagThere, HeadingThere, NotedThere}
use Rattle.definition_rules.specs.Faults.{name_spots}

-- before a tag is read the heading has its own name as tag
abbrev OwnThere : List TextToken → Spots → Heading → Type 0
OwnThere ts s h = HeadingThere ts s h × (tag_of h ≡ own_name)

unfoldable StageThere : List TextToken → Stage → Spots → Heading → Type 0
StageThere ts after_name s h = OwnThere ts s h
StageThere ts after_card s h = OwnThere ts s h
StageThere ts after_tag s h = HeadingThere ts s h
StageThere ts after_plugin s h = HeadingThere ts s h

unfoldable PhaseThere : List TextToken → Phase → Type 0
PhaseThere ts at_start = Unit {0}
PhaseThere ts due_semicolon = Unit {0}
PhaseThere ts (after_type y w) = token_at ts y ≡ run w
PhaseThere ts (due_range y w) = token_at ts y ≡ run w
PhaseThere ts (due_range_end y g w v) = (token_at ts y ≡ run w) × (token_at ts g ≡ run v)
PhaseThere ts (due_name y g w x) = (token_at ts y ≡ run w) × RunThere ts x g
PhaseThere ts (in_heading l s h) = StageThere ts l s h
PhaseThere ts (due_card s h) = OwnThere ts s h
PhaseThere ts (due_tag s h) = OwnThere ts s h
PhaseThere ts (due_card_end s h) = OwnThere ts s h

unfoldable ActionThere : List TextToken → Action → Type 0
ActionThere ts stop = Unit {0}
ActionThere ts (move τ q) = PhaseThere ts q
ActionThere ts (note d τ q) = NotedThere ts d × PhaseThere ts q

allow_there : (ts : List TextToken) (b : Bool) (a : Action) → ActionThere ts a → ActionThere ts (allow b a)
unfolding allow ActionThere
allow_there ts true a h = h
allow_there ts false a h = tt

pick_there : (ts : List TextToken) (b : Bool) (x y : Action) → ActionThere ts x → ActionThere ts y → ActionThere ts (pick b x y)
unfolding pick
pick_there ts true x y h k = h
pick_there ts false x y h k = k

start_run_lem : (ts : List TextToken) (σ : List Frame) (i : ℕ) (w : List ℕ) → token_at ts i ≡ run w → ActionThere ts (start_run σ i w)
unfolding start_run ActionThere PhaseThere
start_run_lem ts [] i w e = allow_there ts _ (move [] (after_type i w)) e
start_run_lem ts (frame p m ∷ σ) i w e = allow_there ts _ (move (frame p m ∷ σ) (after_type i w)) e

start_mark_lem : (ts : List TextToken) (σ : List Frame) (n : ℕ) → ActionThere ts (start_mark σ n)
unfolding start_mark ActionThere PhaseThere
start_mark_lem ts [] n = tt
start_mark_lem ts (frame p m ∷ σ) n =
    pick_there ts _ _ _ (allow_there ts _ (move σ due_semicolon) tt)
    (pick_there ts _ _ _ (allow_there ts _ (move (frame p group_opened ∷ σ) at_start) tt) (allow_there ts _ (move (frame p groups_closed ∷ σ) at_start) tt))

heading_end_lem : (ts : List TextToken) (σ : List Frame) (k : ℕ) (s : Spots) (h : Heading) (n : ℕ) → HeadingThere ts s h → ActionThere ts (heading_end σ k s h n)
unfolding heading_end ActionThere NotedThere PhaseThere
heading_end_lem ts σ k s h n g =
    pick_there ts _ _ _
    (allow_there ts _ (note (noted s (declaration (parent_of σ) (is_under_extension σ) h)) (field_done σ) at_start) (g, tt))
    (allow_there ts _ (note (noted s (declaration (parent_of σ) (is_under_extension σ) h)) (frame k in_fields ∷ field_done σ) at_start) (g, tt))

plugin_there : (ts : List TextToken) (s : Spots) (h : Heading) → HeadingThere ts s h → HeadingThere ts s (with_plugin h)
unfolding HeadingThere with_plugin
plugin_there ts s (heading w g n c t p) x = x

tag_there : (ts : List TextToken) (i : ℕ) (s : Spots) (h : Heading) (w : List ℕ) → token_at ts i ≡ run w → HeadingThere ts s h → HeadingThere ts (tag_spot i s) (with_tag (explicit w) h)
unfolding HeadingThere with_tag TagThere
tag_there ts i s (heading w g n c t p) v e x = (x.0, x.1, x.2, x.3, e)

-- `?`: the spot stays the name's
tagless_there : (ts : List TextToken) (s : Spots) (h : Heading) → OwnThere ts s h → HeadingThere ts s (with_tag tagless h)
unfolding HeadingThere with_tag TagThere tag_of
tagless_there ts s (heading w g n c t p) x = (x.0.0, x.0.1, x.0.2, x.0.3, own t x.1 x.0.4)
  where
    own : (t : Tag) → t ≡ own_name → TagThere ts n t s.tag_at → token_at ts s.tag_at ≡ run n
    own t e h = rw e at h

card_there : (ts : List TextToken) (i : ℕ) (s : Spots) (h : Heading) (w : List ℕ) → token_at ts i ≡ run w → OwnThere ts s h → OwnThere ts (card_spot i s) (with_card w h)
unfolding HeadingThere with_card RunThere tag_of
card_there ts i s (heading w g n c t p) v e x = ((x.0.0, x.0.1, x.0.2, e, x.0.4), x.1)

-- a name ends what must be there of a heading
name_there : (ts : List TextToken) (y g i : ℕ) (w v : List ℕ) (x : MaybeRun) → token_at ts y ≡ run w → RunThere ts x g → token_at ts i ≡ run v → OwnThere ts (spots_of y g i) (heading w x v absent own_name false)
unfolding HeadingThere RunThere TagThere tag_of
name_there ts y g i w v x a b e = ((a, b, e, tt, e), refl)

heading_run_lem : (ts : List TextToken) (σ : List Frame) (l : Stage) (s : Spots) (h : Heading) (w : List ℕ) → StageThere ts l s h → ActionThere ts (heading_run σ l s h w)
unfolding heading_run ActionThere PhaseThere StageThere
heading_run_lem ts σ after_name s h w g = pick_there ts _ _ _ (allow_there ts _ (move σ (due_tag s h)) g) (allow_there ts _ (move σ (in_heading after_plugin s (with_plugin h))) (plugin_there ts s h g.0))
heading_run_lem ts σ after_card s h w g = pick_there ts _ _ _ (allow_there ts _ (move σ (due_tag s h)) g) (allow_there ts _ (move σ (in_heading after_plugin s (with_plugin h))) (plugin_there ts s h g.0))
heading_run_lem ts σ after_tag s h w g = allow_there ts _ (move σ (in_heading after_plugin s (with_plugin h))) (plugin_there ts s h g)
heading_run_lem ts σ after_plugin s h w g = tt

heading_mark_lem : (ts : List TextToken) (σ : List Frame) (l : Stage) (k : ℕ) (s : Spots) (h : Heading) (n : ℕ) → StageThere ts l s h → ActionThere ts (heading_mark σ l k s h n)
unfolding heading_mark ActionThere PhaseThere StageThere
heading_mark_lem ts σ after_name k s h n g = pick_there ts _ _ _ (allow_there ts _ (move σ (due_card s h)) g) (heading_end_lem ts σ k s h n g.0)
heading_mark_lem ts σ after_card k s h n g = heading_end_lem ts σ k s h n g.0
heading_mark_lem ts σ after_tag k s h n g = heading_end_lem ts σ k s h n g
heading_mark_lem ts σ after_plugin k s h n g = heading_end_lem ts σ k s h n g

step_there : (ts : List TextToken) (σ : List Frame) (k i : ℕ) (p : Phase) (x : TextToken) → token_at ts i ≡ x → PhaseThere ts p → ActionThere ts (step σ k i p x)
unfolding step ActionThere PhaseThere StageThere RunThere
step_there ts σ k i at_start (run w) e h = start_run_lem ts σ i w e
step_there ts σ k i at_start (mark n) e h = start_mark_lem ts σ n
step_there ts σ k i due_semicolon (run w) e h = tt
step_there ts σ k i due_semicolon (mark n) e h = allow_there ts _ (move σ at_start) tt
step_there ts σ k i (after_type y w) (run v) e h = name_there ts y y i w v absent h tt e
step_there ts σ k i (after_type y w) (mark n) e h = allow_there ts _ (move σ (due_range y w)) h
step_there ts σ k i (due_range y w) (run v) e h = (h, e)
step_there ts σ k i (due_range y w) (mark n) e h = tt
step_there ts σ k i (due_range_end y g w v) (run u) e h = tt
step_there ts σ k i (due_range_end y g w v) (mark n) e h = allow_there ts _ (move σ (due_name y g w (given v))) h
step_there ts σ k i (due_name y g w x) (run v) e h = name_there ts y g i w v x h.0 h.1 e
step_there ts σ k i (due_name y g w x) (mark n) e h = tt
step_there ts σ k i (in_heading l s h) (run w) e g = heading_run_lem ts σ l s h w g
step_there ts σ k i (in_heading l s h) (mark n) e g = heading_mark_lem ts σ l k s h n g
step_there ts σ k i (due_card s h) (run w) e g = card_there ts i s h w e g
step_there ts σ k i (due_card s h) (mark n) e g = tt
step_there ts σ k i (due_tag s h) (run w) e g = tag_there ts i s h w e g.0
step_there ts σ k i (due_tag s h) (mark n) e g = allow_there ts _ (move σ (in_heading after_tag s (with_tag tagless h))) (tagless_there ts s h g)
step_there ts σ k i (due_card_end s h) (run w) e g = tt
step_there ts σ k i (due_card_end s h) (mark n) e g = allow_there ts _ (move σ (in_heading after_card s h)) g

-- the tokens from the i-th on are these
abbrev From : List TextToken → ℕ → List TextToken → Type 0
From ts i xs = (j : ℕ) → j < length xs → token_at ts (i + j) ≡ token_at xs j

end_none : (σ : List Frame) (k i : ℕ) (p : Phase) (ns : List Noted) → at_end σ k i p ≡ complete ns → ns ≡ []
unfolding at_end end_if
end_none [] k i at_start ns e = go (eqb k 0) e
  where
    go : (b : Bool) → end_if b i ≡ complete ns → ns ≡ []
    go true e = let z : ◌≡◌ {A = ℕ} 0 1 = cc in absurd (omega arith)
    go false e = let z : [] ≡ ns = cc in sym z
end_none [] k i due_semicolon ns e = let z : ◌≡◌ {A = ℕ} 0 1 = cc in absurd (omega arith)
end_none [] k i (after_type y w) ns e = let z : ◌≡◌ {A = ℕ} 0 1 = cc in absurd (omega arith)
end_none [] k i (due_range y w) ns e = let z : ◌≡◌ {A = ℕ} 0 1 = cc in absurd (omega arith)
end_none [] k i (due_range_end y g w v) ns e = let z : ◌≡◌ {A = ℕ} 0 1 = cc in absurd (omega arith)
end_none [] k i (due_name y g w x) ns e = let z : ◌≡◌ {A = ℕ} 0 1 = cc in absurd (omega arith)
end_none [] k i (in_heading l s h) ns e = let z : ◌≡◌ {A = ℕ} 0 1 = cc in absurd (omega arith)
end_none [] k i (due_card s h) ns e = let z : ◌≡◌ {A = ℕ} 0 1 = cc in absurd (omega arith)
end_none [] k i (due_tag s h) ns e = let z : ◌≡◌ {A = ℕ} 0 1 = cc in absurd (omega arith)
end_none [] k i (due_card_end s h) ns e = let z : ◌≡◌ {A = ℕ} 0 1 = cc in absurd (omega arith)
end_none (f ∷ σ) k i p ns e = let z : ◌≡◌ {A = ℕ} 0 1 = cc in absurd (omega arith)

parse_there : (ts : List TextToken) (σ : List Frame) (k i : ℕ) (p : Phase) (xs : List TextToken) → From ts i xs → PhaseThere ts p → (ns : List Noted) → parse_forms σ k i p xs ≡ complete ns → All (NotedThere ts) ns
unfolding parse_forms
parse_there ts σ k i p [] f h ns e = rw (end_none σ k i p ns e) (unfold All in tt)
parse_there ts σ k i p (x ∷ xs) f h ns e = go (step σ k i p x) (step_there ts σ k i p x first h) (λ τ q g m s. parse_there ts τ k (suc i) q xs next g m s) (λ τ q g m s. parse_there ts τ (suc k) (suc i) q xs next g m s) e
  where
    first : token_at ts i ≡ x
    first = let y : i ≡ i + 0 = omega arith in ap (token_at ts) y ∙ f 0 (omega arith)

    next : From ts (suc i) xs
    next j l = let y : suc i + j ≡ i + suc j = omega arith in ap (token_at ts) y ∙ f (suc j) (omega arith)

    noting : (d : Noted) (o : Outcome (List Noted)) → NotedThere ts d → ((m : List Noted) → o ≡ complete m → All (NotedThere ts) m) → map_outcome (λ r. d ∷ r) o ≡ complete ns → All (NotedThere ts) ns
    noting d (stuck_at j) a b e = unfold map_outcome in (let z : ◌≡◌ {A = ℕ} 0 1 = cc in absurd (omega arith))
    noting d (complete m) a b e = unfold map_outcome in (let z : d ∷ m ≡ ns = cc in rw (← z) (unfold All in (a, b m refl)))

    go : (a : Action) → ActionThere ts a
        → ((τ : List Frame) (q : Phase) → PhaseThere ts q → (m : List Noted) → parse_forms τ k (suc i) q xs ≡ complete m → All (NotedThere ts) m)
        → ((τ : List Frame) (q : Phase) → PhaseThere ts q → (m : List Noted) → parse_forms τ (suc k) (suc i) q xs ≡ complete m → All (NotedThere ts) m)
        → elim a [ stop ↦ stuck_at i | move τ q ↦ parse_forms τ k (suc i) q xs | note d τ q ↦ map_outcome (λ r. d ∷ r) (parse_forms τ (suc k) (suc i) q xs) ] ≡ complete ns
        → All (NotedThere ts) ns
    go stop a b c e = let z : ◌≡◌ {A = ℕ} 0 1 = cc in absurd (omega arith)
    go (move τ q) a b c e = b τ q (unfold ActionThere in a) ns e
    go (note d τ q) a b c e = unfold ActionThere in (noting d (parse_forms τ (suc k) (suc i) q xs) a.0 (λ m s. c τ q a.1 m s) e)

-- the runs of every declaration stand at its spots
pub spots_there : (ts : List TextToken) (ns : List Noted) → parse_tokens ts ≡ complete ns → All (NotedThere ts) ns
unfolding PhaseThere
spots_there ts ns e = parse_there ts [] 0 0 at_start ts (λ j l. let y : 0 + j ≡ j = omega arith in ap (token_at ts) y) tt ns e

-- each declaration has one
pub names_length : (ns : List Noted) → length (name_spots ns) ≡ length ns
unfolding name_spots
names_length [] = refl
names_length (noted s d ∷ r) = ap suc (names_length r)
