-- What the line reader hands on. Assumes nothing.
use Rattle.arrayvec.specs.ArrayVec.{ArrayVec}
use Rattle.std.specs.Prelude.{◌≡◌, ℕ, suc, cond, ◌&&◌, List, length, Some, None, Ok, Err, Option, Result, nat_le}
use Rattle.project.specs.Project.{most_resources}
use Rattle.project.specs.declared.refusal.Refusal.{Refusal}
use Rattle.project.specs.declared.refusal.Refusal.TheVariants.{BadForm}
use Rattle.book.specs.Lines.{Content}
use Rattle.book.specs.Steps.{content_in}
use Rattle.book.specs.declared.lines.Line.{Line}

-- the most numbers of a line: a duration and a demand for each resource
abbrev pub most_numbers : ℕ
most_numbers = suc most_resources

-- the numbers, where there are `fewest` to `most` of them
abbrev pub in_range : ℕ → ℕ → Option (List ℕ) → Option (List ℕ)
in_range fewest most None = None
in_range fewest most (Some ns) = cond (nat_le fewest (length ns) && nat_le (length ns) most) (Some ns) None

abbrev pub NumbersRead : Option (List ℕ) → ℕ → Result (ArrayVec ℕ) Refusal → Type 0
NumbersRead o place (Ok v) = o ≡ Some v.items
NumbersRead o place (Err e) = (o ≡ None) × (e ≡ BadForm place)

abbrev pub LineRead : Option Content → ℕ → Result Line Refusal → Type 0
LineRead o place (Ok l) = o ≡ Some (content_in l)
LineRead o place (Err e) = (o ≡ None) × (e ≡ BadForm place)
