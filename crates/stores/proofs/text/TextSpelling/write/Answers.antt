use Rattle.std.proofs.Common.{get_or, pos, ◌∙◌, refl, arith, w32, SFits, rules}
use Rattle.std.specs.Fmt.{signed_decimal}
use Rattle.std.proofs.lemmas.Int.{to_z-of_z}
use Rattle.numerals.specs.Puts.{PutIfRoom}
use Rattle.numerals.proofs.Writing.{more, all_put}
use Rattle.stores.proofs.Lines.{next_literal, no_literal}
use Rattle.stores.proofs.text.TextSpelling.write.Goals as goal

pub loop-literal-preserved : goal.loop-literal-preserved
loop-literal-preserved c =
    let ls = c.args.clause.now in
    let i = c.loop-literal.literal-index in
    let f : SFits w32 (get_or ls i (pos 0)) = search rules in
    let same = to_z-of_z w32 (get_or ls i (pos 0)) f in
    let space = c.write_byte-in-loop-literal.new.self in
    let number = c.write_number.new.self in
    let follows : PutIfRoom space.bytes.now number.bytes.now space.at number.at (signed_decimal (get_or ls i (pos 0))) = search (rules, same, c.write_number.ensures.put) in
    record {
      same_reference = c.write_number.ensures.same_reference ∙ c.write_byte-in-loop-literal.ensures.same_reference ∙ c.loop-literal.invariant.same_reference;
      underway = λ full. more (omega (arith, full)) (more (omega (arith, full)) (c.loop-literal.invariant.underway full) (next_literal ls i c.loop-literal-test.true) c.write_byte-in-loop-literal.ensures.put) refl follows;
    }

pub returns : goal.returns
returns c full =
    (search rules) ∙ all_put full (more (omega (arith, full)) (c.loop-literal.invariant.underway full) (no_literal c.args.clause.now c.loop-literal.literal-index c.loop-literal-test.false) c.write_bytes.ensures.put)
