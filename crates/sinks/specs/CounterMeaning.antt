-- The meaning of a counter. Assumes nothing.
use Rattle.sinks.specs.Counters.{counted}
use Rattle.sinks.specs.Meanings.{Meaning}
use Rattle.sinks.specs.declared.counter.Counter.{Counter}

abbrev pub meaning_of : Counter → Meaning
meaning_of c = counted c.ledger
