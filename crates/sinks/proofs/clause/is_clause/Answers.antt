use Rattle.std.proofs.Common.{not, ◌&&◌, ap, ◌∙◌, rules, tests}
use Rattle.std.proofs.lemmas.Iterator.{YieldsList-from_slice}
use Rattle.std.proofs.lemmas.Iterator.Search.{all_from_yields_List}
use Rattle.sinks.specs.Clauses.{literal, literals}
use Rattle.sinks.proofs.clause.is_clause.Goals as goal

pub returns-then-not-is_empty : goal.returns-then-not-is_empty
returns-then-not-is_empty c =
    let xs = c.args.numbers.now in
    all_from_yields_List literal _ _ c.all.result c.all.ensures.ran (YieldsList-from_slice xs cc) (λ x b q k. search (rules, tests))
    ∙ ap (λ b. not b && literals xs) (c.if-not-is_empty.ensures)
