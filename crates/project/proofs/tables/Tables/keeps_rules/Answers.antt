use Rattle.std.proofs.Common.{take, rules}
use Rattle.std.proofs.lemmas.Bool.Decides.{Decides-at}
use Rattle.project.proofs.Decided.{decides_sound}
use Rattle.project.proofs.Places.{fit_by_place}
use Rattle.project.proofs.tables.Tables.keeps_rules.Goals as goal

pub returns-then-activities_fit-clause-value : goal.returns-then-activities_fit-clause-value
returns-then-activities_fit-clause-value c =
    rw (fit_by_place c.args.self.head.activities (take c.args.self.head.pairs c.args.self.pairs.now)) (search rules)

pub returns-then-activities_fit-clause-decides : goal.returns-then-activities_fit-clause-decides
returns-then-activities_fit-clause-decides c =
    Decides-at _ _ (rw (fit_by_place c.args.self.head.activities (take c.args.self.head.pairs c.args.self.pairs.now)) (search rules)) (decides_sound c.args.self.head c.args.self.activities.now c.args.self.pairs.now)

pub returns-else-activities_fit-clause-decides : goal.returns-else-activities_fit-clause-decides
returns-else-activities_fit-clause-decides c =
    Decides-at _ _ (search rules) (decides_sound c.args.self.head c.args.self.activities.now c.args.self.pairs.now)
