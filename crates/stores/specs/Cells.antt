-- Clauses in cells. Assumes nothing.
use Rattle.std.specs.Prelude.{zero, suc, Bool, true, false, List, [], ◌∷◌, ◌++◌, ℤ, pos, negsuc}
use Rattle.stores.specs.Scripts.{Script, parts}

abbrev pub is_zero : ℤ → Bool
is_zero (pos zero) = true
is_zero (pos (suc n)) = false
is_zero (negsuc n) = false

-- a 0 that closes nothing spells nothing
abbrev pub nonempty : List (List ℤ) → List (List ℤ)
nonempty [] = []
nonempty ([] ∷ cs) = nonempty cs
nonempty ((l ∷ ls) ∷ cs) = (l ∷ ls) ∷ nonempty cs

-- a clause is its literals, then 0
abbrev pub cell_script : Script ℤ
cell_script = record {
  blank = pos 0;
  spell = λ c. c ++ pos 0 ∷ [];
  spelled = λ memory. nonempty (parts is_zero [] memory);
}
