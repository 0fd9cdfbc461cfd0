use Rattle.std.proofs.lemmas.Result.{err_from_is_err_and}
use Rattle.planner.proofs.Rewriting.{refused_text, rewritten_text}
use Rattle.planner.proofs.rewrite.Goals as goal

pub returns-in_err-head : goal.returns-in_err-head
returns-in_err-head c =
    let p = err_from_is_err_and c.from_residual.result c.from_residual.ensures.1 in
    rw (p.1, p.2) (refused_text c.args.text.now c.args.activities.now c.args.pairs.now c.args.out.now c.requires.activities c.requires.pairs _ _ c.in_err-head.ensures.value)

pub returns : goal.returns
returns c =
    let read = c.in_ok-head.ensures in
    rewritten_text c.args.text.now c.args.activities.now c.args.pairs.now c.args.out.now c.requires.activities c.requires.pairs c.in_ok-head.head _ _ _ _ read.value read.activities read.pairs c.requires.room c.write.ensures.value c.write.ensures.after
