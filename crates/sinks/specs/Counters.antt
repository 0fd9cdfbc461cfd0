-- What a counter means. Assumes nothing.
use Rattle.std.specs.Prelude.{ℕ, ◌+◌, List, length, ℤ}
use Rattle.sinks.specs.Clauses.{Assignment}
use Rattle.sinks.specs.Ledgers.{meaning}
use Rattle.sinks.specs.Meanings.{Meaning}
use Rattle.sinks.specs.declared.ledger.Ledger.{Ledger}

-- the room of a new counter
abbrev pub counter_room : ℕ
counter_room = 2000000000

-- it knows no assignment, and so admits none
abbrev pub none_known : Assignment → Type 0
none_known _ = ⊥

-- the literals and one more
abbrev pub counter_cost : List ℤ → ℕ
counter_cost c = length c + 1

abbrev pub counted : Ledger → Meaning
counted = meaning none_known none_known none_known counter_cost
