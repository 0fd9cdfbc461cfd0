-- The judge's assignment, literal by literal. Assumes nothing.
use Rattle.std.proofs.Common.{◌≡◌, ℕ, suc, Bool, true, not, ◌&&◌, ◌||◌, eqb, leb, List, [], ◌∷◌, length, ℤ, pos, negsuc, Ok, sym, refl, ap, ◌∙◌, subst}
use Rattle.std.proofs.lemmas.Bool.{and_parts, leb-true}
use Rattle.sinks.specs.Clauses.{Assignment, literal, literals, holds, meets, last_variable}
use Rattle.sinks.specs.Calls.{Add, Ends}
use Rattle.sinks.specs.Judges.{given, Given, GivenIf, judged, no_cost}
use Rattle.sinks.specs.Ledgers.{charged, may_charge, price}
use Rattle.sinks.specs.declared.ledger.Ledger.{Ledger}
use Rattle.sinks.proofs.Alike.{same}
use Rattle.sinks.proofs.Ledgers.{charges, ends_add}
use Rattle.sinks.specs.Meanings.{Same}

-- a literal names a variable, so its judge and a known assignment agree on it
holds_same : (bs : List ℕ) (a : Assignment) (z : ℤ) → Given bs a → literal z ≡ true → holds a z ≡ holds (given bs) z
holds_same bs a (pos v) g l =
    let p = and_parts (leb 1 v) (leb v last_variable) l in
    g v (leb-true 1 v p.0) (leb-true v last_variable p.1)
holds_same bs a (negsuc v) g l =
    let p = and_parts (leb 1 (suc v)) (leb (suc v) last_variable) l in
    ap not (g (suc v) (leb-true 1 (suc v) p.0) (leb-true (suc v) last_variable p.1))

pub meets_same : (bs : List ℕ) (a : Assignment) (c : List ℤ) → Given bs a → literals c ≡ true → meets a c ≡ meets (given bs) c
meets_same bs a [] g l = refl
meets_same bs a (z ∷ zs) g l =
    let p = and_parts (literal z) (literals zs) l in
    ap (λ b. b || meets a zs) (holds_same bs a z g p.0) ∙ ap (λ b. holds (given bs) z || b) (meets_same bs a zs g p.1)

-- one clause more to meet
pub adds : (bs : List ℕ) (c : List ℤ) (met : Bool) → literals c ≡ true → Same (λ a. GivenIf met bs a × (meets a c ≡ true)) (GivenIf (met && meets (given bs) c) bs)
adds bs c met l a = (
  λ h. (h.0.0, ap (λ b. b && meets (given bs) c) h.0.1 ∙ sym (meets_same bs a c h.0.0 l) ∙ h.1),
  λ h. let p = and_parts met (meets (given bs) c) h.1 in ((h.0, p.0), meets_same bs a c h.0 l ∙ p.1),
)

-- a clause that was paid is held against the given assignment
pub judges : (bs : List ℕ) (c : List ℤ) (met met_before met_c : Bool) (l l' : Ledger) → Ends (Ok (tt {0})) (may_charge (price c 0) l) (l' ≡ charged (price c 0) l) (l' ≡ l) → met_c ≡ meets (given bs) c → Add c (Ok (tt {0})) (judged bs met met_before l) (judged bs (met && met_c) met_before l')
judges bs c met met_before met_c l l' e is =
    let good = (and_parts (not (eqb (length c) 0)) (literals c) (charges c 0 l e.answers).clause).1 in
    subst (λ b. Add c (Ok (tt {0})) (judged bs met met_before l) (judged bs (met && b) met_before l')) (sym is) (ends_add (Given bs) no_cost (GivenIf met bs) (GivenIf (met && meets (given bs) c) bs) (GivenIf met_before bs) (GivenIf met_before bs) c (Ok (tt {0})) l l' e (adds bs c met good, same (GivenIf met_before bs)))
