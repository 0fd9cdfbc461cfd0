use Rattle.std.proofs.Common.{◌-◌, ◌≤◌, length}
use Rattle.book.proofs.Numbering.{Sofar}
use Rattle.book.proofs.lines.read_numbers.Given as goal

abbrev pub invariant-loop-words : goal.invariant-loop-words
invariant-loop-words l = Sofar l.initial.words l.words l.numbers.items × (length l.numbers.items ≤ l.most)

abbrev pub decreases-loop-words : goal.decreases-loop-words
decreases-loop-words l = l.most - length l.numbers.items
