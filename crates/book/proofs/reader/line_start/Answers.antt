use Rattle.std.proofs.Common.{rules}
use Rattle.book.specs.Reading.{not_lf}
use Rattle.book.proofs.Cutting.{after_last, none_fails}
use Rattle.book.proofs.reader.line_start.Goals as goal

pub returns-in-Some-clause-value : goal.returns-in-Some-clause-value
returns-in-Some-clause-value c =
    after_last not_lf c.args.lines.now c.in-Some.at (search rules) (search rules) (λ k a b. search rules)

pub returns-in-None-clause-value : goal.returns-in-None-clause-value
returns-in-None-clause-value c = none_fails not_lf c.args.lines.now (λ k a. search rules)
