-- The reading of the forms, token by token: what holds before each token, and what follows at the end.
use mathlib.Core.Path.{◌≡◌, refl, sym, ap, subst, ◌∙◌}
use mathlib.Core.Bool.{Bool, true, false, ◌&&◌}
use mathlib.Core.List.{List, [], ◌∷◌, ◌++◌, append_assoc, append-nil}
use Prim.Native.Nat.{ℕ, zero, suc, ◌*◌, ◌≤◌, ◌<◌}
use native.Mathlib.Numerals.{add-one}
use native.Mathlib.Omega.{arith}
use lib.Dec.{eqb, leb, ltb}
use lib.ListN.{length, drop}
use lib.Seq.{sets, length-sets}
use borrow.Author.Tests.{eqb-true, eqb-false, ne_eqb, lt-ltb, leb-false, ltb-true, ltb-false}
use Rattle.classes.proofs.Segment.{mark_small}
use Rattle.classes.proofs.Rows.{both_nil}
use Rattle.classes.specs.Lists.{pick, part}
use Rattle.classes.specs.Bytes.{is_mark}
use Rattle.definition_rules.specs.Scan.{TextToken, run, mark, Item, item, bad, items_of, bad_places, deep_places, place_if, is_deep_brace, braces_after}
use Rattle.definition_rules.specs.Declarations.{Noted, Frame, Phase, stop, move, note, step, Outcome, stuck_at, complete, map_outcome, end_if, at_end}
use Rattle.definition_rules.specs.Faults.{name_spots}
use Rattle.definition_rules.specs.Compile.{token_place, faults2, outcome_of}
use Rattle.definition_cells.specs.Cells.{noted_from}
use Rattle.definition_scanner.specs.Live.{live_from}
use Rattle.definition_scanner.specs.First.{faults_from}
use Rattle.definition_scanner.proofs.FaultLaws.{all_faults, least_same}
use Rattle.definition_automaton.specs.Acts.{run_kind, act_of, next_mode}
use Rattle.definition_automaton.specs.States.{Stand, started, context_of, parent_number, extension_flag, over_of, more_of, after_of}
use Rattle.definition_automaton.specs.Noting.{Hand, span, none, pending_by, cells_of, notes, note_cells}
use Rattle.definition_automaton.specs.declared.Span.{Span}
use Rattle.definition_automaton.proofs.Views.{frames_from, open_frames, run_in, spots_in, phase_in, context_in, frames_after, noted_in, action_in}
use Rattle.definition_automaton.proofs.StepLaws.{KindFacts, mark_step, run_step}
use Rattle.definition_forms.specs.Formed.{StuckIn, OverIn, CompleteIn, stuck_refusal, RefusedAs, stuck_in, over_in, FormedAs}
use Rattle.definition_forms.specs.Sees.{Told, ended, broken, marked, ran, Sees, Sight, finish_of}
use Rattle.numbers.specs.declared.Refusal.{Refusal}
use Rattle.std.specs.Prelude.{Result}
use Rattle.definition_forms.proofs.PlacedLaws.{places_drop, names_placed, length_placed}
use Rattle.definition_forms.proofs.Placing.{parse_placed, placed_outcome, outcome_is, stuck_back, complete_back}
use Rattle.definition_forms.proofs.Keeping.{noted_more, Kept, kept_first, kept_over, kept_past}
use Rattle.definition_forms.proofs.Moving.{Sized, context_is, extension_is, Below, parent_is, below_stay, below_after, StateAfter, after_is, Braced, act_braced, opens, types, closes, after_deep, depth_is}
use Rattle.definition_forms.proofs.KindLaws.{kind_facts, mark_some, none_kind}
use Rattle.definition_rules.proofs.ScanLaws.{place_none}

pick_on : {A : Type 0} (P : A → Type 0) (t : Bool) (a b : A) → (t ≡ true → P a) → P b → P (pick t a b)
unfolding pick
pick_on P true a b f g = f refl
pick_on P false a b f g = g

pick_true : (t : Bool) (a b : ℕ) → t ≡ true → pick t a b ≡ a
unfolding pick
pick_true t a b e = rw e

pick_false : (t : Bool) (a b : ℕ) → t ≡ false → pick t a b ≡ b
unfolding pick
pick_false t a b e = rw e

-- ---- an act in the reading

module _ (text : List ℕ) (σ : List Frame) (k : ℕ) (p : Hand) (a n : ℕ) (x : Span) where
  action_stop : a ≡ 0 → action_in text σ k p a n x ≡ stop
  unfolding action_in pick
  action_stop e = rw e

  action_move : (a ≡ 0 → ⊥) → notes a ≡ false → action_in text σ k p a n x ≡ move (frames_after σ k a) (phase_in text (next_mode a) (pending_by p a n x))
  unfolding action_in pick
  action_move z q = rw (ne_eqb a 0 z, q)

  action_note : (a ≡ 0 → ⊥) → notes a ≡ true → action_in text σ k p a n x ≡ note (noted_in text σ p) (frames_after σ k a) (phase_in text (next_mode a) (pending_by p a n x))
  unfolding action_in pick
  action_note z q = rw (ne_eqb a 0 z, q)

module _ (end : ℕ) (σ : List Frame) (k : ℕ) (ph : Phase) (s : ℕ) (tok : TextToken) (r : List Item) where
  stops : step σ k s ph tok ≡ stop → parse_placed end σ k ph (item s tok ∷ r) ≡ stuck_at s
  unfolding parse_placed
  stops e = rw (e, parse_placed)

  moves : (τ : List Frame) (q : Phase) → step σ k s ph tok ≡ move τ q → parse_placed end σ k ph (item s tok ∷ r) ≡ parse_placed end τ k q r
  unfolding parse_placed
  moves τ q e = rw (e, parse_placed)

  notes_one : (d : Noted) (τ : List Frame) (q : Phase) → step σ k s ph tok ≡ note d τ q → parse_placed end σ k ph (item s tok ∷ r) ≡ map_outcome (λ l. d ∷ l) (parse_placed end τ (suc k) q r)
  unfolding parse_placed
  notes_one d τ q e = rw (e, parse_placed)

-- the faults of the items after a token
bad_item : (is r : List Item) (p : ℕ) (t : TextToken) → is ≡ item p t ∷ r → bad_places is ≡ bad_places r
unfolding bad_places
bad_item is r p t e = rw e

bad_first : (is r : List Item) (p : ℕ) → is ≡ bad p ∷ r → bad_places is ≡ p ∷ bad_places r
unfolding bad_places
bad_first is r p e = rw e

deep_mark : (d : ℕ) (is r : List Item) (p n : ℕ) → is ≡ item p (mark n) ∷ r → deep_places d is ≡ place_if (is_deep_brace d n) p (deep_places (braces_after d n) r)
unfolding deep_places
deep_mark d is r p n e = rw e

deep_run : (d : ℕ) (is r : List Item) (p : ℕ) (w : List ℕ) → is ≡ item p (run w) ∷ r → deep_places d is ≡ deep_places d r
unfolding deep_places
deep_run d is r p w e = rw e

no_bad : {A : Type 0} (is r : List Item) (p : ℕ) → is ≡ bad p ∷ r → bad_places is ≡ [] → A
no_bad is r p e c = let y : p ∷ bad_places r ≡ [] = sym (bad_first is r p e) ∙ c in cc

map_stuck : (xs : List Noted) (o : Outcome (List Noted)) (p : ℕ) → o ≡ stuck_at p → map_outcome (λ r. xs ++ r) o ≡ stuck_at p
unfolding map_outcome
map_stuck xs o p e = rw e

map_done : (xs : List Noted) (o : Outcome (List Noted)) → o ≡ complete [] → map_outcome (λ r. xs ++ r) o ≡ complete xs
unfolding map_outcome
map_done xs o e = rw e (ap complete (append-nil xs))

-- ---- what holds before a token

pub record Inv (text cells : List ℕ) (x : Sight) (s : Stand) (p : Hand) : Type 0 where
  pub at : ℕ
  pub sees : Sees text at x
  pub before : List Noted
  pub deep : ℕ
  pub goes : placed_outcome text ≡ map_outcome (λ r. before ++ r) (parse_placed (length text) (open_frames s) s.count (phase_in text s.mode p) (live_from text at))
  pub kept : Kept text cells before s.count s.over
  pub below : Below s.count (open_frames s)
  pub calm : bad_places (live_from text at) ≡ []
  pub nested : deep_places deep (live_from text at) ≡ []
  pub shallow : s.depth ≤ deep
  pub sized : Sized s
  pub kind_is : p.kind ≡ run_kind (run_in text p.typed)
  pub named : p.name.start ≤ x.start
  pub late : 256 < s.count → s.over ≤ p.name.start
  pub counted : s.count ≤ x.start

map_same : (o : Outcome (List Noted)) → o ≡ map_outcome (λ r. [] ++ r) o
unfolding map_outcome
map_same (stuck_at i) = refl
map_same (complete ns) = refl

pub inv_start : (text cells : List ℕ) (x : Sight) (s : Stand) (p : Hand) → faults2 (items_of text) ≡ [] → Sees text 0 x → s ≡ started → p ≡ none → Inv text cells x s p
inv_start text cells x s p clean l es ep =
    let c = both_nil (bad_places (live_from text 0)) (deep_places 0 (live_from text 0)) (unfold faults_from in (sym (all_faults text) ∙ clean)) in
    rw (es, ep) (record {
      at = 0;
      sees = l;
      before = [];
      deep = 0;
      goes = outcome_is text ∙ (unfold frames_from phase_in pick in (map_same _));
      kept = record { counted = refl; first = λ _. (unfold noted_from in refl); past = λ q. absurd (omega arith) };
      below = unfold frames_from Below in tt;
      calm = c.0;
      nested = c.1;
      shallow = omega arith;
      sized = record { numbers8 = refl; bodies8 = refl; low = omega arith };
      kind_is = sym none_kind;
      named = omega arith;
      late = λ q. absurd (omega arith);
      counted = omega arith;
    })

-- the row keeps its length
pub note_length : (s : Stand) (p : Hand) (a : ℕ) (cs : List ℕ) → length (note_cells s p a cs) ≡ length cs
unfolding note_cells pick
note_length s p a cs = by (notes a && ltb s.count 256)
  where
    by : (t : Bool) → length (pick t (sets cs (16 * s.count) (cells_of p (extension_flag (context_of s)) (parent_number s))) cs) ≡ length cs
    by true = length-sets cs (16 * s.count) (cells_of p (extension_flag (context_of s)) (parent_number s))
    by false = refl

-- ---- the token that stands next, and its act

pub record TokenTaken (text : List ℕ) (at : ℕ) (x : Sight) (s : Stand) (p : Hand) (a deep : ℕ) : Type 0 where
  pub tok : TextToken
  pub cut : live_from text at ≡ item x.start tok ∷ live_from text x.end
  pub goes : step (open_frames s) s.count x.start (phase_in text s.mode p) tok ≡ action_in text (open_frames s) s.count p a x.kind (span x.start x.end)
  pub deep_after : ℕ
  pub nested : deep_places deep_after (live_from text x.end) ≡ []
  pub calm : bad_places (live_from text x.end) ≡ []
  pub room : a ≡ 14 → s.depth < 8
  pub shallow : (a ≡ 0 → ⊥) → length (frames_after (open_frames s) s.count a) ≤ deep_after
  pub kind_after : (pending_by p a x.kind (span x.start x.end)).kind ≡ run_kind (run_in text (pending_by p a x.kind (span x.start x.end)).typed)

abbrev KindKnown : List ℕ → Hand → Type 0
KindKnown text q = q.kind ≡ run_kind (run_in text q.typed)

kind_stays : (text : List ℕ) (p : Hand) (a n : ℕ) (x : Span) → KindKnown text p → (a ≡ 1 → n ≡ run_kind (run_in text x)) → KindKnown text (pending_by p a n x)
unfolding pending_by
kind_stays text p a n x h f =
    pick_on (KindKnown text) (eqb a 1) _ _ (λ e. f (eqb-true a 1 e))
    (pick_on (KindKnown text) (eqb a 3) _ _ (λ _. h)
    (pick_on (KindKnown text) (eqb a 5) _ _ (λ _. h)
    (pick_on (KindKnown text) (eqb a 7) _ _ (λ _. h)
    (pick_on (KindKnown text) (eqb a 10) _ _ (λ _. h)
    (pick_on (KindKnown text) (eqb a 11) _ _ (λ _. h)
    (pick_on (KindKnown text) (eqb a 12) _ _ (λ _. h)
    (pick_on (KindKnown text) (eqb a 19) _ _ (λ _. h) h)))))))

abbrev Between : Hand → ℕ → Hand → Type 0
Between p e q = (p.name.start ≤ q.name.start) × (q.name.start ≤ e)

name_between : (p : Hand) (a n : ℕ) (x : Span) → p.name.start ≤ x.start → Between p x.start (pending_by p a n x)
unfolding pending_by
name_between p a n x h =
    let stay : (p.name.start ≤ p.name.start) × (p.name.start ≤ x.start) = (omega arith, h) in
    let new : (p.name.start ≤ x.start) × (x.start ≤ x.start) = (h, omega arith) in
    pick_on (Between p x.start) (eqb a 1) _ _ (λ _. stay)
    (pick_on (Between p x.start) (eqb a 3) _ _ (λ _. stay)
    (pick_on (Between p x.start) (eqb a 5) _ _ (λ _. new)
    (pick_on (Between p x.start) (eqb a 7) _ _ (λ _. stay)
    (pick_on (Between p x.start) (eqb a 10) _ _ (λ _. stay)
    (pick_on (Between p x.start) (eqb a 11) _ _ (λ _. stay)
    (pick_on (Between p x.start) (eqb a 12) _ _ (λ _. stay)
    (pick_on (Between p x.start) (eqb a 19) _ _ (λ _. new) stay)))))))

module _ {text cells : List ℕ} {x : Sight} {s : Stand} {p : Hand} (i : Inv text cells x s p) (a : ℕ) (act : a ≡ act_of s.mode (context_of s) p.kind x.kind) where
  here : a ≡ act_of s.mode (context_in (open_frames s)) p.kind x.kind
  here = act ∙ ap (λ c. act_of s.mode c p.kind x.kind) (context_is s.mode s.numbers s.bodies s.count s.over s.depth i.sized.low)

  facts : KindFacts (run_in text p.typed) p.kind
  facts = subst (KindFacts (run_in text p.typed)) (sym i.kind_is) (kind_facts (run_in text p.typed))

  braced : Braced x.kind a ≡ true
  braced = subst (λ b. Braced x.kind b ≡ true) (sym act) (act_braced (context_of s) p.kind x.kind s.mode)

  after_mark : is_mark x.kind ≡ true → live_from text i.at ≡ item x.start (mark x.kind) ∷ live_from text x.end → TokenTaken text i.at x s p a i.deep
  unfolding is_deep_brace braces_after pick
  after_mark b e =
      let n = place_none (is_deep_brace i.deep x.kind) x.start (deep_places (braces_after i.deep x.kind) (live_from text x.end)) (sym (deep_mark i.deep (live_from text i.at) (live_from text x.end) x.start x.kind e) ∙ i.nested) in
      record {
        tok = mark x.kind;
        cut = e;
        goes = mark_step text (open_frames s) s.count p (span x.start x.end) facts x.kind (mark_small x.kind b) s.mode ∙ ap (λ c. action_in text (open_frames s) s.count p c x.kind (span x.start x.end)) (sym here);
        deep_after = braces_after i.deep x.kind;
        nested = n.1;
        calm = sym (bad_item (live_from text i.at) (live_from text x.end) x.start (mark x.kind) e) ∙ i.calm;
        room = λ q. shallower (opens x.kind a braced q) n.0;
        shallow = λ z. deeper z (eqb x.kind 123) (eqb x.kind 125) refl refl;
        kind_after = kind_stays text p a x.kind (span x.start x.end) i.kind_is (λ q. absurd (omega (arith, types x.kind a braced q, mark_small x.kind b)));
      }
    where
      shallower : x.kind ≡ 123 → is_deep_brace i.deep x.kind ≡ false → s.depth < 8
      shallower e t = let f : leb 8 i.deep ≡ false = rw e at t in omega (arith, leb-false 8 i.deep f, i.shallow)

      deeper : (a ≡ 0 → ⊥) → (u v : Bool) → eqb x.kind 123 ≡ u → eqb x.kind 125 ≡ v → length (frames_after (open_frames s) s.count a) ≤ braces_after i.deep x.kind
      deeper z true v f g = let d = after_deep (open_frames s) s.count a in rw f (omega (arith, d.0, depth_is s, i.shallow))
      deeper z false true f g = let d = after_deep (open_frames s) s.count a in let h = d.2 (closes x.kind a braced (eqb-true x.kind 125 g) z) in rw (f, g) (omega (arith, h, depth_is s, i.shallow))
      deeper z false false f g = let d = after_deep (open_frames s) s.count a in let h = d.1 (λ q. eqb-false x.kind 123 f (opens x.kind a braced q)) in rw (f, g) (omega (arith, h, depth_is s, i.shallow))

  after_run : x.kind ≡ run_kind (part text x.start x.end) → live_from text i.at ≡ item x.start (run (part text x.start x.end)) ∷ live_from text x.end → TokenTaken text i.at x s p a i.deep
  after_run b e =
      let k : KindFacts (part text x.start x.end) x.kind = subst (KindFacts (part text x.start x.end)) (sym b) (kind_facts (part text x.start x.end)) in
      let no : a ≡ 14 → ⊥ = (λ q. omega (arith, opens x.kind a braced q, k.least)) in
      record {
        tok = run (part text x.start x.end);
        cut = e;
        goes = run_step text (open_frames s) s.count p (span x.start x.end) facts x.kind k s.mode ∙ ap (λ c. action_in text (open_frames s) s.count p c x.kind (span x.start x.end)) (sym here);
        deep_after = i.deep;
        nested = sym (deep_run i.deep (live_from text i.at) (live_from text x.end) x.start (part text x.start x.end) e) ∙ i.nested;
        calm = sym (bad_item (live_from text i.at) (live_from text x.end) x.start (run (part text x.start x.end)) e) ∙ i.calm;
        room = λ q. absurd (no q);
        shallow = λ z. (let d = after_deep (open_frames s) s.count a in let h = d.1 no in omega (arith, h, depth_is s, i.shallow));
        kind_after = kind_stays text p a x.kind (span x.start x.end) i.kind_is (λ _. b);
      }

  taken : (x.kind ≡ 0 → ⊥) → TokenTaken text i.at x s p a i.deep
  taken z = by i.sees.told refl refl refl
    where
      by : {n u v : ℕ} → Told text i.at n u v → n ≡ x.kind → u ≡ x.start → v ≡ x.end → TokenTaken text i.at x s p a i.deep
      by (ended q e) f g h = absurd (z (sym f ∙ q))
      by {n} {u} {v} (broken rest e) f g h = no_bad (live_from text i.at) rest u e i.calm
      by (marked b e) f g h = after_mark (rw f at b) (rw (f, g, h) at e)
      by (ran b e) f g h = after_run (rw (f, g, h) at b) (rw (g, h) at e)

  -- a token that can't go on
  pub inv_stuck : (x.kind ≡ 0 → ⊥) → a ≡ 0 → (r : Refusal) → r ≡ stuck_refusal x.start → RefusedAs text r
  inv_stuck z q r h =
      let t = taken z in
      let f : step (open_frames s) s.count x.start (phase_in text s.mode p) t.tok ≡ stop = t.goes ∙ action_stop text (open_frames s) s.count p a x.kind (span x.start x.end) q in
      let g : parse_placed (length text) (open_frames s) s.count (phase_in text s.mode p) (live_from text i.at) ≡ stuck_at x.start = ap (parse_placed (length text) (open_frames s) s.count (phase_in text s.mode p)) t.cut ∙ stops (length text) (open_frames s) s.count (phase_in text s.mode p) x.start t.tok (live_from text x.end) f in
      let e : placed_outcome text ≡ stuck_at x.start = i.goes ∙ map_stuck i.before _ x.start g in
      let b = stuck_back (token_place text (items_of text)) (outcome_of text) x.start e in
      rw h (stuck_in refl (record { spot = b.0; is = b.1; place = b.2 }))

  -- a token that goes on
  module _ (short : length text ≤ 65535) (wide : 4096 ≤ length cells) (nz : x.kind ≡ 0 → ⊥) (az : a ≡ 0 → ⊥) (y : Sight) (next : Sees text x.end y) where
    far : (x.end ≤ y.start) × (x.start < x.end) × (x.end ≤ length text)
    far = (next.after i.sees.within, i.sees.some nz, i.sees.within)

    abbrev after_p : Hand
    after_p = pending_by p a x.kind (span x.start x.end)

    name_in : Between p x.start after_p
    name_in = name_between p a x.kind (span x.start x.end) i.named

    no_note : notes a ≡ false → note_cells s p a cells ≡ cells
    unfolding note_cells pick
    no_note e = rw e

    -- nothing is noted
    inv_quiet : (t : Stand) → StateAfter s a p.name.start t → notes a ≡ false → Inv text (note_cells s p a cells) y t after_p
    unfolding notes
    inv_quiet t f e =
        let k = taken nz in
        let g = far in
        let ct : t.count ≡ s.count = f.count_is ∙ pick_false _ _ _ e in
        let ot : t.over ≡ s.over = f.over_is ∙ pick_false _ _ _ e in
        let cs : note_cells s p a cells ≡ cells = no_note e in
        let no : a ≡ 14 → ⊥ = (λ q. not_note q e) in
        let one : parse_placed (length text) (open_frames s) s.count (phase_in text s.mode p) (live_from text i.at) ≡ parse_placed (length text) (frames_after (open_frames s) s.count a) s.count (phase_in text (next_mode a) after_p) (live_from text x.end) = ap (parse_placed (length text) (open_frames s) s.count (phase_in text s.mode p)) k.cut ∙ moves (length text) (open_frames s) s.count (phase_in text s.mode p) x.start k.tok (live_from text x.end) _ _ (k.goes ∙ action_move text (open_frames s) s.count p a x.kind (span x.start x.end) az e) in
        rw cs (record {
          at = x.end;
          sees = next;
          before = i.before;
          deep = k.deep_after;
          goes = i.goes ∙ ap (map_outcome (λ r. i.before ++ r)) (one ∙ sym (rw (f.frames, ct, f.mode_is)));
          kept = rw (ct, ot) i.kept;
          below = rw (ct, f.frames) (below_stay a s.count (open_frames s) no i.below);
          calm = k.calm;
          nested = k.nested;
          shallow = omega (arith, depth_is t, ap length f.frames, k.shallow az);
          sized = f.sized;
          kind_is = k.kind_after;
          named = omega (arith, name_in.1, g.0, g.1);
          late = λ q. (let h = i.late (omega arith) in omega (arith, name_in.0));
          counted = omega (arith, i.counted, g.0, g.1);
        })
      where
        not_note : a ≡ 14 → notes a ≡ false → ⊥
        not_note q e = let h : true ≡ false = rw q at e in cc

    few : s.count < 65535
    few = omega (arith, i.counted, far.1, far.2)

    more : more_of s.count ≡ suc s.count
    unfolding more_of pick
    more = rw (lt-ltb s.count 65536 (omega (arith, few))) (add-one s.count)

    abbrev noted_here : Noted
    noted_here = noted_in text (open_frames s) p

    -- in the row it is as it is declared
    in_row : s.count < 256 → noted_from text (sets cells (16 * s.count) (cells_of p (extension_flag (context_of s)) (parent_number s))) (suc s.count) 0 ≡ noted_from text cells s.count 0 ++ noted_here ∷ []
    in_row h =
        noted_more text cells s.count p (extension_flag (context_of s)) (parent_number s) (omega arith)
        ∙ rw (parent_is s.mode s.numbers s.bodies s.count s.over s.depth i.sized.low (omega arith) i.below, extension_is s.mode s.numbers s.bodies s.count s.over s.depth i.sized.low)

    kept_after : notes a ≡ true → Kept text (note_cells s p a cells) (i.before ++ noted_here ∷ []) (suc s.count) (over_of s.count s.over p.name.start)
    unfolding note_cells over_of pick
    kept_after e = by (ltb s.count 256) (eqb s.count 256) refl refl
      where
        by : (u v : Bool) → ltb s.count 256 ≡ u → eqb s.count 256 ≡ v → Kept text (note_cells s p a cells) (i.before ++ noted_here ∷ []) (suc s.count) (over_of s.count s.over p.name.start)
        by true v f g =
            let h = ltb-true s.count 256 f in
            rw (e, f, ne_eqb s.count 256 (λ q. omega arith)) (kept_first text cells i.before s.count s.over i.kept (spots_in p) _ _ h (in_row h))
        by false true f g = rw (e, f, g) (kept_over text cells i.before s.count s.over i.kept (spots_in p) _ (eqb-true s.count 256 g))
        by false false f g =
            let h : 256 < s.count = omega (arith, ltb-false s.count 256 f, eqb-false s.count 256 g) in
            rw (e, f, g) (kept_past text cells i.before s.count s.over i.kept (spots_in p) _ h (i.late h))

    late_after : 256 < suc s.count → over_of s.count s.over p.name.start ≤ p.name.start
    unfolding over_of pick
    late_after h = by (eqb s.count 256) refl
      where
        by : (u : Bool) → eqb s.count 256 ≡ u → over_of s.count s.over p.name.start ≤ p.name.start
        by true e = rw e (omega arith)
        by false e = rw e (i.late (omega (arith, eqb-false s.count 256 e)))

    twice : (xs : List Noted) (d : Noted) (o : Outcome (List Noted)) → map_outcome (λ r. xs ++ r) (map_outcome (λ l. d ∷ l) o) ≡ map_outcome (λ r. (xs ++ d ∷ []) ++ r) o
    unfolding map_outcome
    twice xs d (stuck_at j) = refl
    twice xs d (complete ns) = ap complete (sym (append_assoc xs (d ∷ []) ns))

    inv_note : (t : Stand) → StateAfter s a p.name.start t → notes a ≡ true → Inv text (note_cells s p a cells) y t after_p
    inv_note t f e =
        let k = taken nz in
        let g = far in
        let ct : t.count ≡ suc s.count = f.count_is ∙ (pick_true _ _ _ e ∙ more) in
        let ot : t.over ≡ over_of s.count s.over p.name.start = f.over_is ∙ pick_true _ _ _ e in
        let one : parse_placed (length text) (open_frames s) s.count (phase_in text s.mode p) (live_from text i.at) ≡ map_outcome (λ l. noted_here ∷ l) (parse_placed (length text) (frames_after (open_frames s) s.count a) (suc s.count) (phase_in text (next_mode a) after_p) (live_from text x.end)) = ap (parse_placed (length text) (open_frames s) s.count (phase_in text s.mode p)) k.cut ∙ notes_one (length text) (open_frames s) s.count (phase_in text s.mode p) x.start k.tok (live_from text x.end) _ _ _ (k.goes ∙ action_note text (open_frames s) s.count p a x.kind (span x.start x.end) az e) in
        record {
          at = x.end;
          sees = next;
          before = i.before ++ noted_here ∷ [];
          deep = k.deep_after;
          goes = i.goes ∙ (ap (map_outcome (λ r. i.before ++ r)) one ∙ (twice i.before noted_here _ ∙ sym (rw (f.frames, ct, f.mode_is))));
          kept = rw (ct, ot) (kept_after e);
          below = rw (ct, f.frames) (below_after a s.count (open_frames s) i.below);
          calm = k.calm;
          nested = k.nested;
          shallow = omega (arith, depth_is t, ap length f.frames, k.shallow az);
          sized = f.sized;
          kind_is = k.kind_after;
          named = omega (arith, name_in.1, g.0, g.1);
          late = λ q. (let h = late_after (rw ct at q) in omega (arith, name_in.0));
          counted = omega (arith, i.counted, g.0, g.1);
        }

    pub inv_step : (t : Stand) (q : Hand) (cs : List ℕ) → t ≡ after_of s a p.name.start → q ≡ after_p → cs ≡ note_cells s p a cells → Inv text cs y t q
    inv_step t q cs et eq ec = rw (et, eq, ec) (by (notes a) refl (after_is s a p.name.start i.sized (taken nz).room (omega (arith, few))))
      where
        by : (u : Bool) → notes a ≡ u → StateAfter s a p.name.start (after_of s a p.name.start) → Inv text (note_cells s p a cells) y (after_of s a p.name.start) after_p
        by true e f = inv_note (after_of s a p.name.start) f e
        by false e f = inv_quiet (after_of s a p.name.start) f e

-- ---- the end

no_more : {text : List ℕ} {at n u v : ℕ} → Told text at n u v → n ≡ 0 → bad_places (live_from text at) ≡ [] → live_from text at ≡ []
no_more (ended q e) z c = e
no_more {text} {at} {n} {u} {v} (broken rest e) z c = no_bad (live_from text at) rest u e c
no_more (marked b e) z c = absurd (mark_some _ b z)
no_more {text} {at} {n} {u} {v} (ran b e) z c = absurd (omega (arith, (kind_facts (part text u v)).least, b))

end_true : (w : Bool) (end : ℕ) → w ≡ true → end_if w end ≡ stuck_at end
unfolding end_if
end_true w end e = rw e

end_false : (w : Bool) (end : ℕ) → w ≡ false → end_if w end ≡ complete []
unfolding end_if
end_false w end e = rw e

parse_none : (end : ℕ) (σ : List Frame) (k : ℕ) (φ : Phase) → parse_placed end σ k φ [] ≡ at_end σ k end φ
unfolding parse_placed
parse_none end σ k φ = refl

phase_end : (text : List ℕ) (m : ℕ) (p : Hand) (k end : ℕ) → (m ≡ 0 → ⊥) → at_end [] k end (phase_in text m p) ≡ stuck_at end
unfolding phase_in at_end
phase_end text m p k end h =
    let P : Phase → Type 0 = (λ φ. at_end [] k end φ ≡ stuck_at end) in
    pick_on P (eqb m 0) _ _ (λ e. absurd (h (eqb-true m 0 e)))
    (pick_on P (eqb m 1) _ _ (λ _. refl)
    (pick_on P (eqb m 2) _ _ (λ _. refl)
    (pick_on P (eqb m 3) _ _ (λ _. refl)
    (pick_on P (eqb m 4) _ _ (λ _. refl)
    (pick_on P (eqb m 5) _ _ (λ _. refl)
    (pick_on P (eqb m 6) _ _ (λ _. refl)
    (pick_on P (eqb m 7) _ _ (λ _. refl)
    (pick_on P (eqb m 8) _ _ (λ _. refl)
    (pick_on P (eqb m 9) _ _ (λ _. refl)
    (pick_on P (eqb m 10) _ _ (λ _. refl)
    (pick_on P (eqb m 11) _ _ (λ _. refl) refl)))))))))))

module _ {text cells : List ℕ} {x : Sight} {s : Stand} {p : Hand} (i : Inv text cells x s p) (z : x.kind ≡ 0) where
  at_last : placed_outcome text ≡ map_outcome (λ r. i.before ++ r) (at_end (open_frames s) s.count (length text) (phase_in text s.mode p))
  at_last = i.goes ∙ ap (map_outcome (λ r. i.before ++ r)) (ap (parse_placed (length text) (open_frames s) s.count (phase_in text s.mode p)) (no_more i.sees.told z i.calm) ∙ parse_none (length text) (open_frames s) s.count (phase_in text s.mode p))

  stuck_last : at_end (open_frames s) s.count (length text) (phase_in text s.mode p) ≡ stuck_at (length text) → StuckIn text (length text)
  stuck_last e =
      let b = stuck_back (token_place text (items_of text)) (outcome_of text) (length text) (at_last ∙ map_stuck i.before _ (length text) e) in
      record { spot = b.0; is = b.1; place = b.2 }

  done_last : at_end (open_frames s) s.count (length text) (phase_in text s.mode p) ≡ complete [] → placed_outcome text ≡ complete i.before
  done_last e = at_last ∙ map_done i.before _ e

  whole_last : placed_outcome text ≡ complete i.before → s.count ≤ 256 → CompleteIn text cells s.count
  whole_last e h =
      let b = complete_back (token_place text (items_of text)) (outcome_of text) i.before e in
      record { list = b.0; is = b.1; few = h; counted = sym (length_placed (token_place text (items_of text)) b.0) ∙ (ap length b.2 ∙ i.kept.counted); kept = i.kept.first h ∙ sym b.2 }

  over_last : placed_outcome text ≡ complete i.before → 256 < s.count → OverIn text s.over
  over_last e h =
      let b = complete_back (token_place text (items_of text)) (outcome_of text) i.before e in
      let q = i.kept.past h in
      record { list = b.0; is = b.1; rest = q.rest; places = places_drop text (items_of text) 256 (name_spots b.0) ∙ (ap (drop 256) (names_placed text (items_of text) b.0 ∙ ap name_spots b.2) ∙ q.places); least = least_same s.over q.rest q.later }

  top_end : (d : ℕ) (ns bs : List ℕ) (k end : ℕ) (φ : Phase) → (d ≡ 0 → ⊥) → at_end (frames_from d ns bs) k end φ ≡ stuck_at end
  unfolding frames_from at_end
  top_end zero ns bs k end φ h = absurd (h refl)
  top_end (suc d) ns bs k end φ h = refl

  mode_end : (d : ℕ) (ns bs : List ℕ) (m k end : ℕ) → (m ≡ 0 → ⊥) → at_end (frames_from d ns bs) k end (phase_in text m p) ≡ stuck_at end
  mode_end zero ns bs m k end h = unfold frames_from in (phase_end text m p k end h)
  mode_end (suc d) ns bs m k end h = top_end (suc d) ns bs k end (phase_in text m p) (λ q. absurd (omega arith))

  start_end : (d : ℕ) (ns bs : List ℕ) (m k end : ℕ) → m ≡ 0 → d ≡ 0 → at_end (frames_from d ns bs) k end (phase_in text m p) ≡ end_if (eqb k 0) end
  unfolding frames_from at_end phase_in pick
  start_end d ns bs m k end h g = rw (h, g)

  pub inv_end : (r : Result ℕ Refusal) → r ≡ finish_of s (length text) → FormedAs text cells r
  unfolding finish_of pick
  inv_end r e = rw e (by (eqb s.mode 0) (eqb s.depth 0) (eqb s.count 0) (ltb 256 s.count) refl refl refl refl)
    where
      by : (u v w o : Bool) → eqb s.mode 0 ≡ u → eqb s.depth 0 ≡ v → eqb s.count 0 ≡ w → ltb 256 s.count ≡ o → FormedAs text cells (finish_of s (length text))
      by false v w o e1 e2 e3 e4 = rw e1 (stuck_in refl (stuck_last (mode_end s.depth s.numbers s.bodies s.mode s.count (length text) (eqb-false s.mode 0 e1))))
      by true false w o e1 e2 e3 e4 = rw (e1, e2) (stuck_in refl (stuck_last (top_end s.depth s.numbers s.bodies s.count (length text) (phase_in text s.mode p) (eqb-false s.depth 0 e2))))
      by true true true o e1 e2 e3 e4 = rw (e1, e2, e3) (stuck_in refl (stuck_last (start_end s.depth s.numbers s.bodies s.mode s.count (length text) (eqb-true s.mode 0 e1) (eqb-true s.depth 0 e2) ∙ end_true _ (length text) e3)))
      by true true false true e1 e2 e3 e4 = rw (e1, e2, e3, e4) (over_in refl (over_last (done_last (start_end s.depth s.numbers s.bodies s.mode s.count (length text) (eqb-true s.mode 0 e1) (eqb-true s.depth 0 e2) ∙ end_false _ (length text) e3)) (ltb-true 256 s.count e4)))
      by true true false false e1 e2 e3 e4 = rw (e1, e2, e3, e4) (whole_last (done_last (start_end s.depth s.numbers s.bodies s.mode s.count (length text) (eqb-true s.mode 0 e1) (eqb-true s.depth 0 e2) ∙ end_false _ (length text) e3)) (ltb-false 256 s.count e4))
