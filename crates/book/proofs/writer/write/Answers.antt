use Rattle.std.proofs.Common.{◌≡◌, Ok, refl, ap, ◌∙◌, arith, rules}
use Rattle.project.specs.Project.{project_of}
use Rattle.book.specs.Written.{written, writing, bytes_after}
use Rattle.book.proofs.Publishing.{put_all, book_written, reads_back}
use Rattle.book.proofs.writer.write.Goals as goal

pub returns-clause-after : goal.returns-clause-after
returns-clause-after c =
    let t = c.args.tables in
    let says : Ok c.write.result ≡ writing t.head t.activities.now t.pairs.now c.args.out.now = search rules in
    (put_all c.write.ensures).1 ∙ ap (λ r. bytes_after r (written 0 (project_of t.head t.activities.now t.pairs.now)) c.args.out.now) says

pub returns-clause-book : goal.returns-clause-book
returns-clause-book c =
    let kept = c.if-not-keeps_rules.ensures in
    book_written _ (kept.shaped tt) (kept.decides.0 refl).rules c.write.ensures (omega arith)

pub returns-clause-read : goal.returns-clause-read
returns-clause-read c =
    let kept = c.if-not-keeps_rules.ensures in
    reads_back _ _ _ (book_written _ (kept.shaped tt) (kept.decides.0 refl).rules c.write.ensures (omega arith))
