use Rattle.std.proofs.Common.{rules, ap}
use Rattle.std.proofs.lemmas.Result.{err_from_is_err_and}
use Rattle.book.specs.declared.lines.Lines.{Lines}
use Rattle.book.proofs.Looping.{at_start, refuse, go_on, finish}
use Rattle.book.proofs.reader.read_body.Goals as goal

pub loop-line-init : goal.loop-line-init
loop-line-init c =
    let is = c.into_iter-line-iterator.ensures.into_iter_gives in
    at_start c.args.book.now _ c.new-reader.result _ c.new-reader.ensures.none c.requires (ap (λ (ls : Lines). ls.left.text.now) is) (ap (λ (ls : Lines). ls.left.place) is)

pub returns-in_err-read : goal.returns-in_err-read
returns-in_err-read c =
    let p = err_from_is_err_and c.from_residual.result c.from_residual.ensures.1 in
    let new = c.new-reader.ensures in
    rw (p.1, p.2, ← new.activities.1, ← new.pairs.1)
    (refuse c.loop-line.invariant c.in-Some.line c.next.new.self.left c.in-Some.ensures.steps _ c.read.new.self _ _ c.in_err-read.ensures.took)

pub loop-line-preserved : goal.loop-line-preserved
loop-line-preserved c =
    go_on c.loop-line.invariant c.in-Some.line c.next.new.self.left c.in-Some.ensures.steps c.read.new.self c.in_ok-read.ensures.same c.in_ok-read.ensures.took

pub returns : goal.returns
returns c =
    let new = c.new-reader.ensures in
    rw (← new.activities.1, ← new.pairs.1)
    (finish c.args.book.now c.args.last.now _ c.loop-line.reader _ _ _ (search rules) (search rules) _ _ c.loop-line.invariant c.in-None.ensures.steps c.close.ensures)
