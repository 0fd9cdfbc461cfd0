-- The memory of a sink, and what the sink means by it. Assumes nothing.
use Rattle.std.specs.Prelude.{◌≡◌, ◌-◌, ◌≤◌, true, List, ◌++◌, length, take, ℤ}
use Rattle.std.specs.List.{flat_map}
use Rattle.sinks.specs.Clauses.{Assignment, clauses, meets_all}
use Rattle.sinks.specs.Meanings.{Meaning}
use Rattle.sinks.specs.Ledgers.{first_tally, meaning}
use Rattle.sinks.specs.declared.ledger.Ledger.{Ledger}
use Rattle.stores.specs.Scripts.{Script, page}

-- the memory that was in use when the batch was opened, and where none is open all that is in use
abbrev pub opening_part : {A : Type 0} → List A → Ledger → List A
opening_part memory l = take (length memory - (first_tally l).free) memory

-- What the memory of a sink and its ledger keep to.

-- the clauses that it spells stand at its front, and what is free is blank
abbrev pub Spells : {A : Type 0} → Script A → List A → Ledger → Type 0
Spells s memory l = memory ≡ page s l.tally.free (s.spelled memory)

abbrev pub Clausal : {A : Type 0} → Script A → List A → Type 0
Clausal s memory = clauses (s.spelled memory) ≡ true

abbrev pub Counts : {A : Type 0} → Script A → List A → Ledger → Type 0
Counts s memory l = length (s.spelled memory) ≡ l.tally.count

-- what was in use at the opening are the first of the clauses
abbrev pub Begins : {A : Type 0} → Script A → List A → Ledger → Type 0
Begins s memory l = opening_part memory l ≡ flat_map s.spell (take (first_tally l).count (s.spelled memory))

abbrev pub Grew : {A : Type 0} → List A → Ledger → Type 0
Grew memory l = ((first_tally l).count ≤ l.tally.count) × (l.tally.free ≤ (first_tally l).free) × ((first_tally l).free ≤ length memory)

-- all of that
pub record Agrees {A : Type 0} (s : Script A) (memory : List A) (l : Ledger) : Type 0 where
  pub spells : Spells s memory l
  pub clausal : Clausal s memory
  pub counts : Counts s memory l
  pub begins : Begins s memory l
  pub grew : Grew memory l

-- What the sink means.

-- the assignments that meet each clause that the memory spells
abbrev pub admits : {A : Type 0} → Script A → List A → Assignment → Type 0
admits s memory a = meets_all a (s.spelled memory) ≡ true

-- it knows every assignment, and a clause costs the elements that spell it
abbrev pub stored : {A : Type 0} → Script A → List A → Ledger → Meaning
stored s memory l = meaning (λ _. Unit {0}) (admits s memory) (admits s (opening_part memory l)) (λ c. length (s.spell c)) l

-- these clauses were added before the batch was opened, and these since
abbrev pub Recorded : {A : Type 0} → Script A → List A → Ledger → (before since : List (List ℤ)) → Type 0
Recorded s memory l before since = (take (first_tally l).count (s.spelled memory) ≡ before) × (s.spelled memory ≡ before ++ since)
