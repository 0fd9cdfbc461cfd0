-- What is proved of the reader's definition, over every text and all lengths of the tables. The contracts of the calls say
-- the same of their answers. Assumes nothing.
use Rattle.std.proofs.Common.{◌≡◌, ℕ, ◌≤◌, ◌↔◌, List, [], length, Ok, Err}
use Rattle.project.specs.Project.{Project, Shaped, Rules}
use Rattle.project.specs.Refusals.{refused}
use Rattle.book.specs.Accepted.{Sizes, IsBook, Framed, Unread}
use Rattle.book.specs.Reading.{reading}
use Rattle.book.specs.Written.{written}

-- reading accepts a text with the project p exactly when it is the book of p
abbrev pub Accepts : Type 0
Accepts = (z : Sizes) (bs : List ℕ) (p : Project) → (reading z bs ≡ Ok p) ↔ IsBook z bs p

-- reading refuses with the number n at a place exactly when that is the first fault, and the lowest there
abbrev pub Refuses : Type 0
Refuses = (z : Sizes) (bs : List ℕ) (n at : ℕ) → (reading z bs ≡ Err (refused n at)) ↔ Unread z bs n at

-- what is written is a book
abbrev pub WrittenBook : Type 0
WrittenBook =
    (z : Sizes) (p : Project) → Shaped p → Rules p → length p.activities ≤ z.activities → length p.pairs ≤ z.pairs → IsBook z (written 0 p) p

-- a book without a cover is written as it was read
abbrev pub WritesBack : Type 0
WritesBack =
    (z : Sizes) (bs : List ℕ) (p : Project) (ls : List (List ℕ)) (count : ℕ) → reading z bs ≡ Ok p → Framed bs [] ls count → written 0 p ≡ bs
