use Rattle.std.proofs.Common.{refl}
use Rattle.book.proofs.TextLines.{lines_text}
use Rattle.book.proofs.writer.Text.lines.Goals as goal

pub returns-clause-text : goal.returns-clause-text
returns-clause-text c =
    lines_text c.args.self.tables.head c.args.self.tables.activities.now c.args.self.tables.pairs.now _ refl c.capacities_line.ensures c.trailer_line.ensures
