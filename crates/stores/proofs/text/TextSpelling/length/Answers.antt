use Rattle.std.proofs.Common.{map, ◌≡◌, ◌∙◌, rules}
use Rattle.std.specs.List.{fold}
use Rattle.stores.proofs.Lines.{add, spaced_length, sum_is}
use Rattle.stores.proofs.text.TextSpelling.length.Goals as goal

pub returns : goal.returns
returns c =
    let sum : c.fold.result ≡ fold add 4 (map spaced_length c.args.clause.now) = search rules in
    sum ∙ sum_is c.args.clause.now
