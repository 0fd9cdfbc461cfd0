use Rattle.std.proofs.Common.{◌∙◌, arith, refl}
use Rattle.numerals.proofs.Writing.{more, whole_put}
use Rattle.book.proofs.LineBytes.{next_number, no_number}
use Rattle.book.proofs.lines.Line.write.Goals as goal

pub loop-number-preserved : goal.loop-number-preserved
loop-number-preserved c =
    let ns = c.as_slice-number-items.result.now in
    let i = c.loop-number.number-index in
    record {
      same_reference = c.write_number.ensures.same_reference ∙ c.write_byte-in-loop-number.ensures.same_reference ∙ c.loop-number.invariant.same_reference;
      underway = more c.requires (more c.requires c.loop-number.invariant.underway (next_number ns i c.loop-number-test.true) c.write_byte-in-loop-number.ensures.put) refl c.write_number.ensures.put;
    }

pub returns : goal.returns
returns c =
    let last = more c.requires c.loop-number.invariant.underway (no_number c.as_slice-number-items.result.now c.loop-number.number-index c.loop-number-test.false) c.write_byte-2.ensures.put in
    record {
      same_reference = c.write_byte-2.ensures.same_reference ∙ c.loop-number.invariant.same_reference;
      put = record { room = λ _. whole_put last; short = λ no. absurd (omega (arith, no, c.requires)) };
    }
