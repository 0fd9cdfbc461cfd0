use Rattle.std.proofs.Common.{rules, tests}
use Rattle.std.proofs.lemmas.Iterator.{YieldsList-from_slice}
use Rattle.std.proofs.lemmas.Iterator.Search.{any_from_yields_List}
use Rattle.project.specs.Project.{same_pair}
use Rattle.project.proofs.Same.{first_again}
use Rattle.project.proofs.rules.is_among.Goals as goal

pub returns : goal.returns
returns c =
    any_from_yields_List (λ q. same_pair q c.args.pair.now) _ _ _ c.any.ensures.ran (YieldsList-from_slice c.args.pairs.now cc) (λ x b q k. search (first_again, rules, tests))
