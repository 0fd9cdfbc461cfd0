-- Clauses in text. Assumes nothing.
use Rattle.std.specs.Prelude.{ℕ, List, [], ◌∷◌, ◌++◌, map, drop, ℤ, nat_eq}
use Rattle.std.specs.List.{flat_map}
use Rattle.std.specs.Str.Parse.{signed_digits_value}
use Rattle.std.specs.Fmt.{signed_decimal}
use Rattle.stores.specs.Scripts.{Script, parts}

abbrev pub lf : ℕ
lf = 10

abbrev pub space : ℕ
space = 32

-- the letter of a hard clause, h
abbrev pub hard : ℕ
hard = 104

-- the digit that stands for the end of a clause, 0
abbrev pub zero_digit : ℕ
zero_digit = 48

-- a literal after a space: in base ten, a minus before a negative one
abbrev pub spaced : ℤ → List ℕ
spaced l = space ∷ signed_decimal l

-- h, each literal after a space, then a space, 0 and LF
abbrev pub line : List ℤ → List ℕ
line c = hard ∷ (flat_map spaced c ++ space ∷ zero_digit ∷ lf ∷ [])

-- The words of a line are h, the literals and 0, and a space ends each of them but the 0. What letter and what last word there are is not looked
-- at: a sink's memory has no others.
abbrev pub clause_in : List ℕ → List ℤ
clause_in text = map (signed_digits_value 10) (drop 1 (parts (nat_eq space) [] text))

abbrev pub text_script : Script ℕ
text_script = record {
  blank = 0;
  spell = line;
  spelled = λ memory. map clause_in (parts (nat_eq lf) [] memory);
}
