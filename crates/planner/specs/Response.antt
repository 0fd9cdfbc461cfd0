-- What the program answers to a book. Assumes nothing.
use Rattle.std.specs.Prelude.{◌≡◌, ℕ, ◌⊎◌, List, length, Ok, Err, vec_items, Result, Vec}
use Rattle.std.specs.declared.alloc.Global.{Global}
use Rattle.project.specs.Project.{Project, filled}
use Rattle.project.specs.Refusals.{Refused, told, answer, number, place}
use Rattle.project.specs.declared.refusal.Refusal.{Refusal}
use Rattle.project.specs.declared.refusal.Refusal.TheVariants.{NoMemory}
use Rattle.book.specs.Accepted.{full, IsBook, Unread}
use Rattle.book.specs.Reading.{reading}
use Rattle.book.specs.Written.{written}

abbrev pub rewritten : Result Project Refused → Result (List ℕ) Refused
rewritten (Ok p) = Ok (written 0 p)
rewritten (Err e) = Err e

-- the book written anew without its cover, or why it is refused
abbrev pub response : List ℕ → Result (List ℕ) Refused
response bs = rewritten (reading full bs)

-- r is that, unless there was no memory
abbrev pub Responds : List ℕ → Result (Vec ℕ Global) Refusal → Type 0
Responds bs (Ok v) = response bs ≡ Ok (vec_items v)
Responds bs (Err e) = (e ≡ NoMemory) ⊎ (response bs ≡ Err (told e))

-- the text is in the front of the lent bytes, and r is its length; or r says why there is none
abbrev pub Rewrites : Result (List ℕ) Refused → List ℕ → Result ℕ Refusal → List ℕ → Type 0
Rewrites (Ok text) out r out' = (r ≡ Ok (length text)) × (out' ≡ filled text out)
Rewrites (Err e) out r out' = answer r ≡ Err e

-- the same in the format's words: the text is that of the project whose book it is, or the book has the fault
abbrev pub Means : List ℕ → Result (Vec ℕ Global) Refusal → Type 0
Means bs (Ok v) = (p : Project) × IsBook full bs p × (vec_items v ≡ written 0 p)
Means bs (Err e) = (e ≡ NoMemory) ⊎ Unread full bs (number e) (place e)
