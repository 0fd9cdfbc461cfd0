use Rattle.book.proofs.Taking.{took_kept}
use Rattle.book.proofs.reader.Reader.read.Goals as goal

pub invariant_of-self : goal.invariant_of-self
invariant_of-self c = record { kept = took_kept _ _ _ _ c.in_ok-head.head _ _ c.in_ok-head.ensures.took }
