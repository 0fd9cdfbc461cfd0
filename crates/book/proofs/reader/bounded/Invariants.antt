use Rattle.std.proofs.Common.{◌≡◌, true, take}
use Rattle.project.specs.Project.{within}
use Rattle.book.specs.Reading.{padded}
use Rattle.book.proofs.reader.bounded.Given as goal

abbrev pub invariant-loop-k : goal.invariant-loop-k
invariant-loop-k l = (l.bytes ≡ padded (take l.k l.numbers)) × (within (take l.k l.numbers) l.limits ≡ true)
