-- T4. A refusal is the least place of its number, and every check before it has no place.
use mathlib.Core.Path.{◌≡◌, refl, ap, sym, ◌∙◌}
use mathlib.Core.Bool.{Bool, true, false}
use mathlib.Core.List.{List, [], ◌∷◌, ◌++◌}
use Prim.Native.Nat.{ℕ, min, ◌≤◌}
use native.Mathlib.Omega.{arith}
use lib.Dec.{leb}
use borrow.Author.Tests.{leb-true, leb-false}
use Rattle.definition_rules.specs.Table.{encode}
use mathlib.Core.Logic.{inl, inr}
use Rattle.definition_rules.specs.Compile.{Check, check, IsPlace, Least, Empty, AllEmpty, FirstFaultIs, Finding, clean, fault, least_of, finding_of, first_fault, checks, refused, table, verdict_of, verdict, records_of_text}

min_case : {X : Type 0} (p q : ℕ) → (min p q ≡ p → X) → (min p q ≡ q → X) → X
min_case {X} p q f g = by (leb p q) refl
  where
    by : (b : Bool) → leb p q ≡ b → X
    by true e = let x = leb-true p q e in f (omega arith)
    by false e = let x = leb-false p q e in g (omega arith)

least_in : (p : ℕ) (r : List ℕ) → IsPlace (least_of p r) (p ∷ r)
unfolding IsPlace least_of
least_in p [] = inl refl
least_in p (q ∷ r) = by (least_in (min p q) r)
  where
    by : IsPlace (least_of (min p q) r) (min p q ∷ r) → IsPlace (least_of (min p q) r) (p ∷ q ∷ r)
    by (inl e) = min_case p q (λ x. inl (e ∙ x)) (λ x. inr (inl (e ∙ x)))
    by (inr i) = inr (inr i)

least_head : (p : ℕ) (r : List ℕ) → least_of p r ≤ p
unfolding least_of
least_head p [] = omega arith
least_head p (q ∷ r) = omega (arith, least_head (min p q) r)

least_le : (p : ℕ) (r : List ℕ) (q : ℕ) → IsPlace q (p ∷ r) → least_of p r ≤ q
unfolding IsPlace least_of
least_le p r q (inl e) = omega (arith, least_head p r)
least_le p [] q (inr i) = absurd i
least_le p (s ∷ r) q (inr (inl e)) = omega (arith, least_head (min p s) r)
least_le p (s ∷ r) q (inr (inr i)) = least_le (min p s) r q (inr i)

pub least_of_lem : (p : ℕ) (r : List ℕ) → Least (least_of p r) (p ∷ r)
least_of_lem p r = (least_in p r, least_le p r)

least_one : (p q : ℕ) (ps : List ℕ) → Least p ps → Least q ps → p ≡ q
least_one p q ps a b = omega (arith, a.1 q b.0, b.1 p a.0)

found_more : (n p m : ℕ) (cs : List Check) → FirstFaultIs n p cs → FirstFaultIs n p (check m [] ∷ cs)
unfolding AllEmpty Empty
found_more n p m cs f = record { before = check m [] ∷ f.before; places = f.places; after = f.after; split = ap (λ x. check m [] ∷ x) f.split; earlier = (refl, f.earlier); least = f.least }

fault_is : (n m p q : ℕ) → fault n p ≡ fault m q → (n ≡ m) × (p ≡ q)
fault_is n m p q e = let x : n ≡ m = cc in let y : p ≡ q = cc in (x, y)

clean_fault : {X : Type 0} {n p : ℕ} → clean ≡ fault n p → X
clean_fault e = let z : ◌≡◌ {A = ℕ} 0 1 = cc in absurd (omega arith)

pub fault_found : (cs : List Check) (n p : ℕ) → first_fault cs ≡ fault n p → FirstFaultIs n p cs
unfolding first_fault finding_of AllEmpty
fault_found [] n p e = clean_fault e
fault_found (check m [] ∷ cs) n p e = found_more n p m cs (fault_found cs n p e)
fault_found (check m (q ∷ r) ∷ cs) n p e =
    let x = fault_is m n (least_of q r) p e in
    record { before = []; places = q ∷ r; after = cs; split = ap (λ k. check k (q ∷ r) ∷ cs) x.0; earlier = tt; least = rw (← x.1) (least_of_lem q r) }

skip : (bs cs : List Check) → AllEmpty bs → first_fault (bs ++ cs) ≡ first_fault cs
unfolding AllEmpty Empty first_fault finding_of
skip [] cs e = refl
skip (check n ps ∷ bs) cs e = rw e.0 (skip bs cs e.1)

hit : (n p : ℕ) (ps : List ℕ) (cs : List Check) → Least p ps → first_fault (check n ps ∷ cs) ≡ fault n p
unfolding first_fault finding_of IsPlace
hit n p [] cs l = absurd l.0
hit n p (q ∷ r) cs l = ap (fault n) (least_one (least_of q r) p (q ∷ r) (least_of_lem q r) l)

pub found_fault : (cs : List Check) (n p : ℕ) → FirstFaultIs n p cs → first_fault cs ≡ fault n p
found_fault cs n p f = ap first_fault f.split ∙ (skip f.before (check n f.places ∷ f.after) f.earlier ∙ hit n p f.places f.after f.least)

pub clean_empty : (cs : List Check) → first_fault cs ≡ clean → AllEmpty cs
unfolding first_fault finding_of AllEmpty Empty
clean_empty [] e = tt
clean_empty (check n [] ∷ cs) e = (refl, clean_empty cs e)
clean_empty (check n (p ∷ r) ∷ cs) e = clean_fault (sym e)

pub empty_clean : (cs : List Check) → AllEmpty cs → first_fault cs ≡ clean
unfolding first_fault finding_of AllEmpty Empty
empty_clean [] a = refl
empty_clean (check n ps ∷ cs) a = rw a.0 (empty_clean cs a.1)

-- a number other than that of the first check is a later one's
pub pass : (n m p : ℕ) (ps : List ℕ) (cs : List Check) → first_fault (check n ps ∷ cs) ≡ fault m p → (n ≡ m → ⊥) → (ps ≡ []) × (first_fault cs ≡ fault m p)
unfolding first_fault finding_of
pass n m p [] cs e f = (refl, e)
pass n m p (q ∷ r) cs e f = let x : n ≡ m = cc in absurd (f x)

-- ---- the verdict

refused_is : (n m p q : ℕ) → refused n p ≡ refused m q → (n ≡ m) × (p ≡ q)
refused_is n m p q e = let x : n ≡ m = cc in let y : p ≡ q = cc in (x, y)

pub table_refused : {X : Type 0} {b : List ℕ} {n p : ℕ} → table b ≡ refused n p → X
table_refused e = let z : ◌≡◌ {A = ℕ} 0 1 = cc in absurd (omega arith)

-- refused n p exactly when p is the least place of n and every earlier check has none
pub refused_found : (text : List ℕ) (n p : ℕ) → verdict text ≡ refused n p → FirstFaultIs n p (checks text)
unfolding verdict
refused_found text n p e = by (first_fault (checks text)) refl e
  where
    by : (f : Finding) → first_fault (checks text) ≡ f → verdict_of f (records_of_text text) ≡ refused n p → FirstFaultIs n p (checks text)
    by clean q e = unfold verdict_of in table_refused e
    by (fault m r) q e = unfold verdict_of in (let x = refused_is m n r p e in fault_found (checks text) n p (q ∙ (rw (x.0, x.1))))

pub found_refused : (text : List ℕ) (n p : ℕ) → FirstFaultIs n p (checks text) → verdict text ≡ refused n p
unfolding verdict verdict_of
found_refused text n p f = rw (found_fault (checks text) n p f)

-- a table exactly when no check has a place, and then the records' bytes
pub table_clean : (text bytes : List ℕ) → verdict text ≡ table bytes → AllEmpty (checks text) × (encode (records_of_text text) ≡ bytes)
unfolding verdict
table_clean text bytes e = by (first_fault (checks text)) refl e
  where
    by : (f : Finding) → first_fault (checks text) ≡ f → verdict_of f (records_of_text text) ≡ table bytes → AllEmpty (checks text) × (encode (records_of_text text) ≡ bytes)
    by clean q e = unfold verdict_of in (let x : encode (records_of_text text) ≡ bytes = cc in (clean_empty (checks text) q, x))
    by (fault m r) q e = unfold verdict_of in table_refused (sym e)

pub clean_table : (text : List ℕ) → AllEmpty (checks text) → verdict text ≡ table (encode (records_of_text text))
unfolding verdict verdict_of
clean_table text a = rw (empty_clean (checks text) a)
