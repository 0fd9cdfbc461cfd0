-- The worked examples. Assumes nothing.
use Rattle.std.specs.Prelude.{◌≡◌, ℕ, List, [], ◌∷◌, length, ℤ, pos, negsuc, Ok, Err, codes}
use Rattle.std.specs.List.{flat_map}
use Rattle.project.specs.Project.{Project}
use Rattle.project.specs.Refusals.{refused}
use Rattle.project.specs.declared.tables.Activity.{Activity}
use Rattle.project.specs.declared.tables.Kind.TheVariants.{And, Bi}
use Rattle.book.specs.Lines.{with_lf}
use Rattle.book.specs.Accepted.{full}
use Rattle.book.specs.Reading.{reading}
use Rattle.sinks.specs.Counters.{counter_cost}
use Rattle.stores.specs.Cells.{cell_script}
use Rattle.stores.specs.Scripts.{page}
use Rattle.stores.specs.Texts.{line, text_script}

-- a small project with a cover, and its trailer's text
abbrev pub reel_ending : List ℕ → List ℕ
reel_ending trailer =
    flat_map with_lf (codes "reel 3" ∷ codes "C 2" ∷ codes "J 2 1" ∷ codes "J 1 2" ∷ codes "J 2 1" ∷ codes "A 1 2" ∷ codes "B 1 3" ∷ trailer ∷ [])

abbrev pub job : ℕ → ℕ → Activity
job duration demand = record { duration = duration; demands = demand ∷ 0 ∷ 0 ∷ 0 ∷ [] }

abbrev pub reel : Project
reel = record {
  resources = 1;
  capacities = 2 ∷ 0 ∷ 0 ∷ 0 ∷ [];
  activities = job 2 1 ∷ job 1 2 ∷ job 2 1 ∷ [];
  pairs = record { kind = And; first = 1; second = 2 } ∷ record { kind = Bi; first = 1; second = 3 } ∷ [];
}

abbrev pub two_clauses : List (List ℤ)
two_clauses = (pos 5 ∷ negsuc 16 ∷ []) ∷ (pos 3 ∷ []) ∷ []

pub record Worked : Type 0 where
  -- the reel reads
  pub reads : reading full (reel_ending (codes "Z 7 6")) ≡ Ok reel
  -- at byte 6 no line starts
  pub unread : reading full (reel_ending (codes "Z 6 6")) ≡ Err (refused 1 0)
  -- at byte 0 one does, but it is no C line
  pub overrun : reading full (reel_ending (codes "Z 0 7")) ≡ Err (refused 2 0)
  -- a book that points past its body has none
  pub empty : reading full (reel_ending (codes "Z 41 0")) ≡ Err (refused 7 41)
  -- the line of a clause of two literals
  pub line : line (pos 5 ∷ negsuc 16 ∷ []) ≡ with_lf (codes "h 5 -17 0")
  -- two lines, and two bytes left
  pub lines : text_script.spelled (page text_script 2 two_clauses) ≡ two_clauses
  -- the cells of two clauses, and three left
  pub cells : page cell_script 3 two_clauses ≡ pos 5 ∷ negsuc 16 ∷ pos 0 ∷ pos 3 ∷ pos 0 ∷ pos 0 ∷ pos 0 ∷ pos 0 ∷ []
  pub cells_read : cell_script.spelled (page cell_script 3 two_clauses) ≡ two_clauses
  -- what a counter takes for a clause are its cells
  pub counted : (c : List ℤ) → counter_cost c ≡ length (cell_script.spell c)
