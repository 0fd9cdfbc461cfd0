use Rattle.std.proofs.Common.{◌≡◌}
use Rattle.book.specs.Accepted.{sizes}
use Rattle.book.specs.Reading.{reading, activities_after, pairs_after}
use Rattle.book.proofs.Answering.{accepts_call, refuses_call, blank_call, written_call}
use Rattle.book.proofs.Looping.{refusal, acceptance}
use Rattle.book.proofs.reader.read.Goals as goal

pub returns-then-is_err : goal.returns-then-is_err
returns-then-is_err c =
    let bs = c.args.book.now in
    let acts = c.args.activities.now in
    let ps = c.args.pairs.now in
    let h = refusal (reading (sizes acts ps) bs) acts ps c.read_project-answer.result c.read_project-answer.new.activities c.read_project-answer.new.pairs c.read_project-answer.ensures c.if-is_err.ensures.value c.read_project-answer.auto.activities c.read_project-answer.auto.pairs in
    let a : c.fill.new.self ≡ activities_after (reading (sizes acts ps) bs) acts = cc (c.fill.ensures.after (λ y same. same), c.blank.ensures, h.1) in
    let b : c.fill-then-is_err.new.self ≡ pairs_after (reading (sizes acts ps) bs) ps = cc (c.fill-then-is_err.ensures.after (λ y same. same), c.blank-then-is_err.ensures, h.2) in
    record {
      value = h.0;
      activities = a;
      pairs = b;
      accepts = accepts_call bs acts ps _ _ _ h.0 a b;
      refuses = refuses_call bs acts ps _ _ _ h.0 a b;
      blank = blank_call bs acts ps _ _ _ h.0 a b;
      written = written_call bs acts ps _ _ _ h.0 a b;
    }

pub returns-else-is_err : goal.returns-else-is_err
returns-else-is_err c =
    let bs = c.args.book.now in
    let acts = c.args.activities.now in
    let ps = c.args.pairs.now in
    let h = acceptance (reading (sizes acts ps) bs) acts ps c.read_project-answer.result c.read_project-answer.new.activities c.read_project-answer.new.pairs c.read_project-answer.ensures c.if-is_err.ensures.value in
    record {
      value = h.0;
      activities = h.1;
      pairs = h.2;
      accepts = accepts_call bs acts ps _ _ _ h.0 h.1 h.2;
      refuses = refuses_call bs acts ps _ _ _ h.0 h.1 h.2;
      blank = blank_call bs acts ps _ _ _ h.0 h.1 h.2;
      written = written_call bs acts ps _ _ _ h.0 h.1 h.2;
    }
