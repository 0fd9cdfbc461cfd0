-- The meaning of a judge. Assumes nothing.
use Rattle.sinks.specs.Judges.{judged}
use Rattle.sinks.specs.Meanings.{Meaning}
use Rattle.sinks.specs.declared.judge.Judge.{Judge}

abbrev pub meaning_of : Judge → Meaning
meaning_of j = judged j.values.now j.met j.met_before j.ledger
