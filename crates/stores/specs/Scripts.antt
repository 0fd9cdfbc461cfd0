-- How clauses are spelled in memory, and what memory spells. Assumes nothing.
use Rattle.std.specs.Prelude.{◌≡◌, ℕ, Bool, true, cond, List, [], ◌∷◌, ◌++◌, replicate, ℤ}
use Rattle.std.specs.List.{flat_map}
use Rattle.sinks.specs.Clauses.{clausal}

-- A script spells each clause in elements of memory, and reads the clauses from memory.
pub record Script (A : Type 0) : Type 0 where
  pub blank : A
  pub spell : List ℤ → List A
  pub spelled : List A → List (List ℤ)

-- what was spelled is read back, clause by clause, and blank memory spells nothing
pub record Legible {A : Type 0} (s : Script A) : Type 0 where
  pub clause : (c : List ℤ) (rest : List A) → clausal c ≡ true → s.spelled (s.spell c ++ rest) ≡ c ∷ s.spelled rest
  pub blanks : (n : ℕ) → s.spelled (replicate n s.blank) ≡ []

-- clauses one after the other, then blank elements
abbrev pub page : {A : Type 0} → Script A → (blanks : ℕ) → List (List ℤ) → List A
page s n cs = flat_map s.spell cs ++ replicate n s.blank

-- the parts of a list that an end closes, where `part` stands before it; what no end closes is no part
abbrev pub parts : {A : Type 0} → (is_end : A → Bool) → (part : List A) → List A → List (List A)
parts is_end part [] = []
parts is_end part (x ∷ xs) = cond (is_end x) (part ∷ parts is_end [] xs) (parts is_end (part ++ x ∷ []) xs)
