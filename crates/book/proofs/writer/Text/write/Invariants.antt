use Rattle.std.proofs.Common.{◌≡◌}
use Rattle.std.specs.List.{flat_map}
use Rattle.book.specs.Texts.{lines_left, text_of}
use Rattle.book.specs.Saying.{line_text}
use Rattle.numerals.proofs.Writing.{Underway}
use Rattle.book.proofs.writer.Text.write.Given as goal

abbrev pub invariant-loop-line : goal.invariant-loop-line
invariant-loop-line l = record {
  same_reference : l.page.bytes.ghost_name ≡ l.initial.page.bytes.ghost_name;
  underway : Underway l.initial.page.bytes.now l.page.bytes.now 0 l.page.at (flat_map line_text (lines_left l.line-iterator)) (text_of l.self);
}
