use Rattle.std.proofs.Common.{length, ap, sym, ◌∙◌, arith, rules}
use borrow.Author.Tests.{tests}
use Rattle.std.proofs.lemmas.Iterator.{YieldsList-from_map}
use Rattle.std.proofs.lemmas.Iterator.Adapters.{fits_from_length, at_most_from_yields_List}
use Rattle.std.proofs.lemmas.Iterator.Consumers.{YieldsList-from_first, sum_by_from_yields_List}
use Rattle.std.proofs.lemmas.List.Concat.{length-flat_map}
use Rattle.book.specs.Texts.{lines_left}
use Rattle.book.specs.Saying.{line_text}
use Rattle.book.proofs.writer.Text.length.Goals as goal

pub sum-requires-clause-fits : goal.sum-requires-clause-fits
sum-requires-clause-fits c =
    fits_from_length _ _ 320 _ (at_most_from_yields_List (YieldsList-from_first (λ l. l) lines_left (lines_left c.lines.result) cc) c.lines.ensures.bound) c.map.ensures.closure (omega arith) (λ x r q k. search (rules, tests))

pub returns : goal.returns
returns c =
    let ls = lines_left c.lines.result in
    sum_by_from_yields_List (λ l. length (line_text l)) ls _ _ c.sum.ensures.ran (YieldsList-from_map _ (λ l. length (line_text l)) (YieldsList-from_first (λ l. l) lines_left ls cc) c.map.ensures.closure (λ x r q k. search (rules, tests)))
    ∙ sym (length-flat_map line_text ls)
    ∙ ap length c.lines.ensures.text
