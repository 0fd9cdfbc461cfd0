-- What a judge means. Assumes nothing.
use Rattle.std.specs.Prelude.{◌≡◌, ℕ, ◌-◌, ◌≤◌, Bool, true, List, ℤ, ◌==◌, slice_index}
use Rattle.sinks.specs.Clauses.{Assignment, last_variable}
use Rattle.sinks.specs.Ledgers.{meaning}
use Rattle.sinks.specs.Meanings.{Meaning}
use Rattle.sinks.specs.declared.ledger.Ledger.{Ledger}

-- the assignment that bytes give: the byte v-1 is 1 where v is true; any other byte, and a missing one, is false
abbrev pub given : List ℕ → Assignment
given bytes v = slice_index bytes (v - 1) == 1

-- it is the given assignment, as far as there are variables
abbrev pub Given : List ℕ → Assignment → Type 0
Given bytes a = (v : ℕ) → 1 ≤ v → v ≤ last_variable → a v ≡ given bytes v

-- the given assignment, if it met all that it was held to
abbrev pub GivenIf : Bool → List ℕ → Assignment → Type 0
GivenIf met bytes a = Given bytes a × (met ≡ true)

abbrev pub no_cost : List ℤ → ℕ
no_cost _ = 0

-- `met` says whether the given assignment meets all clauses, and `met_before` whether it did when the batch was opened
abbrev pub judged : List ℕ → (met met_before : Bool) → Ledger → Meaning
judged bytes met met_before = meaning (Given bytes) (GivenIf met bytes) (GivenIf met_before bytes) no_cost
