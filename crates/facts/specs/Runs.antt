-- What a sink has done, from its making to the end. Assumes nothing.
use Rattle.std.specs.Prelude.{◌≡◌, ℕ, ◌-◌, Bool, true, ◌↔◌, List, length, replicate, ℤ, Ok, Err, Result}
use Rattle.project.specs.declared.refusal.Refusal.{Refusal}
use Rattle.sinks.specs.Batches.{costs}
use Rattle.sinks.specs.Clauses.{meets_all}
use Rattle.sinks.specs.Judges.{given}
use Rattle.stores.specs.Scripts.{Script, page}

-- a clause costs the elements that spell it
abbrev pub spelled_cost : {A : Type 0} → Script A → List ℤ → ℕ
spelled_cost s c = length (s.spell c)

-- memory of this size holds the clauses and then blanks, or was refused and is blank
abbrev pub Held : {A : Type 0} → Script A → (size : ℕ) → List (List ℤ) → Result (Unit {0}) Refusal → List A → Type 0
Held s size cs (Ok _) memory = memory ≡ page s (size - costs (spelled_cost s) cs) cs
Held s size cs (Err _) memory = memory ≡ replicate size s.blank

-- whether the assignment that bytes give meets all of the clauses
abbrev pub Met : List ℕ → List (List ℤ) → Result Bool Refusal → Type 0
Met values cs (Ok met) = (met ≡ true) ↔ (meets_all (given values) cs ≡ true)
Met values cs (Err _) = Unit {0}
