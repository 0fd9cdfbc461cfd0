use Rattle.book.proofs.Taking.{line_capacities, line_job, line_pair}
use Rattle.book.proofs.reader.Reader.take.Goals as goal

pub returns-in-None-Capacities-clause-took : goal.returns-in-None-Capacities-clause-took
returns-in-None-Capacities-clause-took c =
    let self = c.args.self.now in
    line_capacities self.sofar c.args.line.now c.args.place self.activities.now self.pairs.now _ c.as_slice-numbers.ensures.value c.in-None-Capacities.is-0 c.in-None-Capacities.is-1 c.requires _ c.open_head.ensures _ c.ok_or.ensures.value

pub returns-in-Some-Job-clause-took : goal.returns-in-Some-Job-clause-took
returns-in-Some-Job-clause-took c =
    let self = c.args.self.now in
    line_job self.sofar c.args.line.now c.args.place self.activities.now self.pairs.now _ c.as_slice-numbers.ensures.value c.in-Some-Job.head c.in-Some-Job.is-0 self.kept c.in-Some-Job.is-1 _ _ c.add_activity.ensures

pub returns-in-Some-Pairing-clause-took : goal.returns-in-Some-Pairing-clause-took
returns-in-Some-Pairing-clause-took c =
    let self = c.args.self.now in
    line_pair self.sofar c.args.line.now c.args.place self.activities.now self.pairs.now _ c.as_slice-numbers.ensures.value c.in-Some-Pairing.head c.in-Some-Pairing.is-0 self.kept c.in-Some-Pairing.kind c.in-Some-Pairing.is-1 _ _ c.add_pair.ensures
