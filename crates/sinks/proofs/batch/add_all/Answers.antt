use Rattle.std.proofs.Common.{Err, ap, ◌∙◌, rules}
use Rattle.std.proofs.lemmas.Result.{err_from_is_err_and}
use Rattle.sinks.specs.Batches.{held}
use Rattle.sinks.proofs.Batches.{opens, keeps, strikes}
use Rattle.sinks.proofs.Wholes.{turn, whole, not_opened, struck, kept}
use Rattle.sinks.proofs.batch.add_all.Goals as goal

pub returns-in_err-token : goal.returns-in_err-token
returns-in_err-token g c =
    let p = err_from_is_err_and c.from_residual.result c.from_residual.ensures.1 in
    let o = c.in_err-token.ensures in
    whole g.S.Sink _ _ _ _ (not_opened g.S.Sink (held c.args.clauses.now) _ c.args.sink.now c.open.new.self o.meaning o.order _ (p.1 ∙ ap Err p.2))

pub loop-clause-preserved : goal.loop-clause-preserved
loop-clause-preserved g c =
    let a = c.in_default.ensures in
    turn g.S.Sink c.args.clauses.now c.loop-clause.clause-index _ c.open.new.self c.loop-clause.sink c.add.new.self c.loop-clause-test.true c.loop-clause.invariant a.meaning a.order

pub returns-in-Err : goal.returns-in-Err
returns-in-Err g c =
    let o = c.in_ok-token.ensures in
    let a = c.in-Err.ensures in
    whole g.S.Sink _ _ _ _
    (struck g.S.Sink c.args.clauses.now c.loop-clause.clause-index _ c.in-Err.refusal c.args.sink.now c.open.new.self c.loop-clause.sink c.add.new.self _
    c.loop-clause-test.true (opens g.S.Sink _ _ o.meaning o.order) c.loop-clause.invariant a.meaning a.order (λ is_open. search (strikes g.S.Sink)))

pub returns : goal.returns
returns g c =
    let o = c.in_ok-token.ensures in
    whole g.S.Sink _ _ _ _
    (kept g.S.Sink c.args.clauses.now c.loop-clause.clause-index _ c.args.sink.now c.open.new.self c.loop-clause.sink _
    c.loop-clause-test.false (opens g.S.Sink _ _ o.meaning o.order) c.loop-clause.invariant (λ is_open. keeps g.S.Sink _ _ _ is_open (search rules) (search rules)))
