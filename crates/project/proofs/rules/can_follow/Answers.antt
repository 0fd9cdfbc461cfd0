use Rattle.std.proofs.Common.{rules}
use Rattle.std.proofs.lemmas.Bool.Decides.{Decides-at}
use Rattle.project.proofs.Pairs.{decides_follows}
use Rattle.project.proofs.rules.can_follow.Goals as goal

pub returns-then-ne-clause-decides : goal.returns-then-ne-clause-decides
returns-then-ne-clause-decides c = λ once few. Decides-at _ _ (search rules) (decides_follows c.args.before.now c.args.pair.now once few)

pub returns-else-ne-clause-decides : goal.returns-else-ne-clause-decides
returns-else-ne-clause-decides c = λ once few. Decides-at _ _ (search rules) (decides_follows c.args.before.now c.args.pair.now once few)

pub returns-else-not-is_among-clause-decides : goal.returns-else-not-is_among-clause-decides
returns-else-not-is_among-clause-decides c = λ once few. Decides-at _ _ (search rules) (decides_follows c.args.before.now c.args.pair.now once few)
