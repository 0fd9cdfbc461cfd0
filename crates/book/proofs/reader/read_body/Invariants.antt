use Rattle.book.proofs.Looping.{Midway, told_by}
use Rattle.book.proofs.reader.read_body.Given as goal

abbrev pub invariant-loop-line : goal.invariant-loop-line
invariant-loop-line l = Midway l.book (told_by l.last) l.initial.reader l.reader l.line-iterator.left l.count
