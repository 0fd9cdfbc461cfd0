use Rattle.std.proofs.Common.{◌∙◌, rules, arith}
use Rattle.book.proofs.Ending.{trailer_none, trailer_some}
use Rattle.book.proofs.reader.find_trailer.Goals as goal

pub returns-in_err-line : goal.returns-in_err-line
returns-in_err-line c =
    rw c.from_residual.ensures (trailer_none c.args.book.now (search rules) (omega arith) _ c.line_start-place.ensures.value _ _ c.first.ensures _ c.read_line.ensures.said c.in_err-line.ensures.value)

pub returns : goal.returns
returns c =
    c.point.ensures ∙ trailer_some c.args.book.now (search rules) (omega arith) _ c.line_start-place.ensures.value _ _ c.first.ensures _ c.read_line.ensures.said c.in_ok-line.line c.in_ok-line.ensures.value
