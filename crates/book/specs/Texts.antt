-- The text that the writer has in its hands, and the lines of it that are still to come. Assumes nothing.
use Rattle.std.specs.Prelude.{ℕ, List, ◌++◌, map}
use Rattle.std.specs.Option.{option_to_list}
use Rattle.project.specs.Held.{project_in}
use Rattle.book.specs.Saying.{saying}
use Rattle.book.specs.Written.{activity_line, pair_line, written}
use Rattle.book.specs.declared.lines.Line.{Line}
use Rattle.book.specs.declared.writer.TextLines.{TextLines}
use Rattle.book.specs.declared.writer.Text.{Text}

abbrev pub text_of : Text → List ℕ
text_of t = written 0 (project_in t.tables)

abbrev pub lines_left : TextLines → List Line
lines_left s =
    option_to_list s.capacities ++ (map (λ a. saying (activity_line s.resources a)) s.activities.now ++ (map (λ q. saying (pair_line q)) s.pairs.now ++ option_to_list s.trailer))
