use Rattle.std.proofs.Common.{◌≡◌, length}
use Rattle.numerals.proofs.Writing.{Underway}
use Rattle.stores.specs.Texts.{line}
use Rattle.stores.proofs.Lines.{line_from}
use Rattle.stores.proofs.text.TextSpelling.write.Given as goal

abbrev pub invariant-loop-literal : goal.invariant-loop-literal
invariant-loop-literal l = record {
  same_reference : l.page.bytes.ghost_name ≡ l.initial.page.bytes.ghost_name;
  underway : length l.fn.bytes ≡ length (line l.clause) → Underway l.fn.bytes l.page.bytes.now 0 l.page.at (line_from l.clause l.literal-index) (line l.clause);
}
