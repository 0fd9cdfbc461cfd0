use Rattle.std.proofs.Common.{◌∙◌}
use Rattle.sinks.specs.Batches.{held}
use Rattle.sinks.specs.Judges.{judged}
use Rattle.facts.proofs.Chained.{answers, judges}
use Rattle.facts.proofs.runs.run_judge.Goals as goal

pub returns : goal.returns
returns c =
    let new = c.new-sink.result in
    let full = c.add_all.new.sink in
    let cs = held c.args.clauses.now in
    record {
      answer = c.in_ok-add_all.ensures.meaning.answers ∙ answers (judged new.values.now new.met new.met_before new.ledger) 0 cs c.new-sink.ensures.fresh;
      met = judges c.args.values.now new.values.now full.values.now new.met full.met new.met_before full.met_before c.admits.result new.ledger full.ledger cs c.new-sink.ensures.knows c.new-sink.ensures.fresh c.in_ok-add_all.ensures.meaning.does c.admits.ensures;
    }
