-- A line taken by the reader. Assumes nothing.
use Rattle.std.specs.Prelude.{◌≡◌, ℕ, length, Some, Ok, Err, Result}
use Rattle.project.specs.Project.{Project, head_of, filled}
use Rattle.project.specs.Refusals.{refused, answer}
use Rattle.project.specs.declared.refusal.Refusal.{Refusal}
use Rattle.book.specs.Reading.{Sofar}
use Rattle.book.specs.Steps.{sofar_of}
use Rattle.book.specs.declared.reader.Reader.{Reader}

-- the project so far
abbrev pub sofar_in : Reader → Sofar
sofar_in r = sofar_of r.sofar r.activities.now r.pairs.now

-- the reader holds the project p; or the line was refused
abbrev pub TookLine : Result Project ℕ → ℕ → Reader → Result (Unit {0}) Refusal → Reader → Type 0
TookLine (Ok p) place old r new = (r ≡ Ok tt) × (new.sofar ≡ Some (head_of p)) × (new.activities.now ≡ filled p.activities old.activities.now) × (new.pairs.now ≡ filled p.pairs old.pairs.now)
TookLine (Err n) place old r new = answer r ≡ Err (refused n place)

-- the reader writes the same tables
pub record SameTables (old new : Reader) : Type 0 where
  pub activities : new.activities.ghost_name ≡ old.activities.ghost_name
  pub activities_long : length new.activities.now ≡ length old.activities.now
  pub pairs : new.pairs.ghost_name ≡ old.pairs.ghost_name
  pub pairs_long : length new.pairs.now ≡ length old.pairs.now
