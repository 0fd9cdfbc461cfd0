-- A page, and what writing to it does. Assumes nothing.
use Rattle.std.specs.Prelude.{◌≡◌, ℕ, List}
use Rattle.numerals.specs.Puts.{PutIfRoom}
use Rattle.numerals.specs.declared.Page.{Page}

-- a piece was written to the page, into the same lent bytes, if it has room there
pub record Writes (piece : List ℕ) (old new : Page) : Type 0 where
  pub same_reference : new.bytes.ghost_name ≡ old.bytes.ghost_name
  pub put : PutIfRoom old.bytes.now new.bytes.now old.at new.at piece
