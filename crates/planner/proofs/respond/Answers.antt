use Rattle.std.proofs.Common.{take, Ok, Err, sym, ap, ◌∙◌, inl, inr}
use Rattle.std.proofs.lemmas.List.{with_items_is}
use Rattle.std.proofs.lemmas.Result.{err_from_is_err_and}
use Rattle.planner.specs.Response.{response, Responds}
use Rattle.planner.proofs.Rewriting.{no_text, all_text, meaning}
use Rattle.planner.proofs.respond.Goals as goal

pub returns-in_err-pairs : goal.returns-in_err-pairs
returns-in_err-pairs c =
    let p = err_from_is_err_and c.from_residual-in_err-pairs.result c.from_residual-in_err-pairs.ensures.1 in
    rw p.1 (record { value = inl p.2; means = inl p.2 })

pub returns-in_err-out : goal.returns-in_err-out
returns-in_err-out c =
    let p = err_from_is_err_and c.from_residual-in_err-out.result c.from_residual-in_err-out.ensures.1 in
    rw p.1 (record { value = inl p.2; means = inl p.2 })

pub returns-in_err-length : goal.returns-in_err-length
returns-in_err-length c =
    let p = err_from_is_err_and c.from_residual-in_err-length.result c.from_residual-in_err-length.ensures.1 in
    let text = c.args.text.now in
    let value : Responds text (Err c.in_err-length.field-0.0) = inr (no_text (response text) _ _ _ c.in_err-length.ensures) in
    rw (p.1, p.2) (record { value = value; means = meaning text (Err c.in_err-length.field-0.0) value })

pub returns : goal.returns
returns c =
    let same = with_items_is c.in_ok-out.out c.rewrite.new.out (c.rewrite.auto.out ∙ c.deref_mut-3.ensures.len) in
    let value = all_text _ _ _ _ c.in_ok-length.ensures ∙ ap Ok (sym (c.truncate.ensures.items ∙ ap (take c.in_ok-length.length) same)) in
    record { value = value; means = meaning c.args.text.now (Ok c.truncate.new.self) value }
