use Rattle.std.proofs.Common.{◌≡◌, ◌++◌, take}
use Rattle.book.proofs.writer.push_first.Given as goal

abbrev pub invariant-loop-byte : goal.invariant-loop-byte
invariant-loop-byte l = l.numbers.items ≡ l.initial.numbers.items ++ take l.byte-index l.bytes
