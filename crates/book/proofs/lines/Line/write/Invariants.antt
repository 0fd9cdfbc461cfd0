use Rattle.std.proofs.Common.{◌≡◌}
use Rattle.book.specs.Saying.{line_text}
use Rattle.numerals.proofs.Writing.{Underway}
use Rattle.book.proofs.LineBytes.{line_from}
use Rattle.book.proofs.lines.Line.write.Given as goal

abbrev pub invariant-loop-number : goal.invariant-loop-number
invariant-loop-number l = record {
  same_reference : l.page.bytes.ghost_name ≡ l.fn.page.bytes.ghost_name;
  underway : Underway l.fn.page.bytes.now l.page.bytes.now l.fn.page.at l.page.at (line_from l.number-items l.number-index) (line_text l.self);
}
