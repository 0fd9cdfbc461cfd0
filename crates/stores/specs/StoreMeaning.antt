-- The meaning of a store, and the order in which it was given its clauses. Assumes nothing.
use Rattle.std.specs.Prelude.{List, ℤ}
use Rattle.sinks.specs.Meanings.{Meaning}
use Rattle.stores.specs.Memories.{Recorded, stored}
use Rattle.stores.specs.declared.spelling.Spelling.{Ghosts as Members}
use Rattle.stores.specs.declared.store.Store.{Store}

module _ {S E : Type 0} {g : Members S E} where
  abbrev pub meaning_of : Store S E g → Meaning
  meaning_of s = stored g.script s.memory.items s.ledger

  -- these clauses were added before the batch was opened, and these since
  abbrev pub RecordedIn : Store S E g → (before since : List (List ℤ)) → Type 0
  RecordedIn s = Recorded g.script s.memory.items s.ledger
