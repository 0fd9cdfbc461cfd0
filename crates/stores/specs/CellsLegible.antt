-- Clauses in cells are read as they were spelled. Assumes nothing.
use Rattle.std.proofs.Common.{not, eqb, ◌≡◌, ℕ, zero, suc, true, false, List, [], ◌∷◌, ◌++◌, length, replicate, ℤ, pos, negsuc, refl, ap, ◌∙◌, append_assoc, arith}
use Rattle.std.proofs.lemmas.Bool.{and_parts}
use Rattle.sinks.specs.Clauses.{clausal, literal, literals}
use Rattle.stores.specs.Scripts.{Legible}
use Rattle.stores.specs.Cells.{cell_script, is_zero, nonempty}
use Rattle.stores.specs.Parts.{Inside, parts_one}

nonzero : (l : ℤ) → literal l ≡ true → is_zero l ≡ false
nonzero (pos zero) h = let z : ◌≡◌ {A = ℕ} 0 1 = cc in absurd (omega arith)
nonzero (pos (suc n)) h = refl
nonzero (negsuc n) h = refl

inside : (ls : List ℤ) → literals ls ≡ true → Inside is_zero ls
inside [] h = tt
inside (l ∷ ls) h = let both = and_parts (literal l) (literals ls) h in (nonzero l both.0, inside ls both.1)

reads_clause : (c rest : List ℤ) → clausal c ≡ true → cell_script.spelled (cell_script.spell c ++ rest) ≡ c ∷ cell_script.spelled rest
reads_clause [] rest h = let z : ◌≡◌ {A = ℕ} 0 1 = cc in absurd (omega arith)
reads_clause (l ∷ ls) rest h =
    let ls_h = (and_parts (not (eqb (length (l ∷ ls)) 0)) (literals (l ∷ ls)) h).1 in
    ap cell_script.spelled (append_assoc (l ∷ ls) (pos 0 ∷ []) rest) ∙ ap nonempty (parts_one is_zero (l ∷ ls) (pos 0) rest (inside (l ∷ ls) ls_h) refl)

reads_blanks : (n : ℕ) → cell_script.spelled (replicate n (pos 0)) ≡ []
reads_blanks zero = refl
reads_blanks (suc n) = reads_blanks n

pub cells_legible : Legible cell_script
cells_legible = record { clause = reads_clause; blanks = reads_blanks }
