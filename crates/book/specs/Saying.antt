-- The lines of a text as the writer holds them. Assumes nothing.
use Rattle.std.specs.Prelude.{ℕ, ◌≤◌, List, length}
use Rattle.project.specs.Project.{most_activities, most_pairs}
use Rattle.project.specs.declared.tables.Tables.{Tables}
use Rattle.book.specs.Lines.{Content, line}
use Rattle.book.specs.declared.lines.Line.{Line}

-- the line that says x
abbrev pub saying : Content → Line
saying x = record { kind = x.kind; numbers = record { items = x.numbers } }

abbrev pub line_text : Line → List ℕ
line_text l = line (record { kind = l.kind; numbers = l.numbers.items })

-- the tables have the head's records, and no more of them than a project has
pub record Writable (t : Tables) : Type 0 where
  pub activities : t.head.activities ≤ length t.activities.now
  pub pairs : t.head.pairs ≤ length t.pairs.now
  pub few : t.head.activities ≤ most_activities
  pub few_pairs : t.head.pairs ≤ most_pairs
