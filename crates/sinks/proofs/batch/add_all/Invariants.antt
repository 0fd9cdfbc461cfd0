use Rattle.std.proofs.Common.{take}
use Rattle.sinks.specs.Batches.{Adds, held}
use Rattle.sinks.proofs.batch.add_all.Given as goal

abbrev pub invariant-loop-clause : goal.invariant-loop-clause
invariant-loop-clause g l = Adds g.S.Sink (held (take l.clause-index l.clauses)) l.initial.sink l.sink
