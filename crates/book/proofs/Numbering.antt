-- The numbers of a line, word by word. Assumes nothing.
use Rattle.std.proofs.Common.{◌≡◌, ℕ, List, ◌++◌, Some, None, Option}
use Rattle.book.specs.Lines.{numerals}
use Rattle.book.specs.Cuts.{left}
use Rattle.book.specs.declared.words.Words.{Words}

-- numbers in front of those that may follow
abbrev after_these : List ℕ → Option (List ℕ) → Option (List ℕ)
after_these ns None = None
after_these ns (Some ms) = Some (ns ++ ms)

-- the numbers ns were read of the words ws, and us are left
pub record Sofar (ws us : Words) (ns : List ℕ) : Type 0 where
  pub all : numerals (left ws) ≡ after_these ns (numerals (left us))
