-- The ledger of a sink: what it counts, has free, and remembers of the opening of a batch. Assumes nothing.
use Rattle.std.specs.Prelude.{ℕ, ◌+◌, ◌-◌, cond, ◌&&◌, List, ℤ, is_some, Some, None, Option, nat_le, nat_lt}
use Rattle.std.proofs.Math.Option.{Option as Maybe, some, none}
use Rattle.sinks.specs.declared.ledger.Ledger.{Ledger}
use Rattle.sinks.specs.declared.ledger.Tally.{Tally}
use Rattle.sinks.specs.Clauses.{Assignment, clausal}
use Rattle.sinks.specs.Meanings.{Meaning, Standing}
use Rattle.sinks.specs.Calls.{Verdict, accepted, no, most_clauses}

abbrev pub fresh : ℕ → Ledger
fresh room = record { tally = record { count = 0; free = room }; opening = None }

-- what stood when the batch was opened, and where none is open what stands now
abbrev pub first_tally : Ledger → Tally
first_tally l = elim l.opening [ None ↦ l.tally | Some t ↦ t ]

-- What the ledger answers.

abbrev pub may_open : Ledger → Verdict
may_open l = cond (is_some l.opening) (no 15) accepted

-- for a clause of this cost; what is no clause has none
abbrev pub may_take : Option ℕ → Tally → Verdict
may_take None t = no 24
may_take (Some cost) t = cond (nat_le cost t.free && nat_lt t.count most_clauses) accepted (no 16)

abbrev pub may_charge : Option ℕ → Ledger → Verdict
may_charge cost l = cond (is_some l.opening) (may_take cost l.tally) (no 23)

abbrev pub may_close : Ledger → Verdict
may_close l = cond (is_some l.opening) accepted (no 23)

-- what a list of numbers costs, if it is a clause
abbrev pub price : List ℤ → ℕ → Option ℕ
price c cost = cond (clausal c) (Some cost) None

-- The ledger after each call that it accepts.

abbrev pub with_opening : Ledger → Ledger
with_opening l = record { tally = l.tally; opening = Some l.tally }

abbrev pub charged : Option ℕ → Ledger → Ledger
charged None l = l
charged (Some cost) l = record { tally = record { count = l.tally.count + 1; free = l.tally.free - cost }; opening = l.opening }

abbrev pub kept : Ledger → Ledger
kept l = record { tally = l.tally; opening = None }

abbrev pub restored : Ledger → Ledger
restored l = record { tally = first_tally l; opening = None }

-- The meaning of a sink with this ledger, which admitted `before` when the batch was opened.

abbrev pub remembered : (before : Assignment → Type 0) → Option Tally → Maybe Standing
remembered before None = none
remembered before (Some t) = some (record { admitted = before; count = t.count; room = t.free })

abbrev pub meaning : (known admitted before : Assignment → Type 0) (cost : List ℤ → ℕ) → Ledger → Meaning
meaning known admitted before cost l = record {
  known = known;
  admitted = admitted;
  count = l.tally.count;
  room = l.tally.free;
  cost = cost;
  batch = remembered before l.opening;
}
