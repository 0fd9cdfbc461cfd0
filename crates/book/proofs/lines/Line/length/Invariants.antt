use Rattle.std.proofs.Common.{◌≡◌, ◌+◌, ◌*◌, ◌≤◌, length, take}
use Rattle.std.specs.List.{flat_map}
use Rattle.book.specs.Lines.{spaced}
use Rattle.book.proofs.lines.Line.length.Given as goal

abbrev pub invariant-loop-number : goal.invariant-loop-number
invariant-loop-number l = record {
  counts : l.length ≡ 2 + length (flat_map spaced (take l.number-index l.number-items));
  bound : l.length ≤ 2 + 11 * l.number-index;
}
