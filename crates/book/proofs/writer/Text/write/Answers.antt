use Rattle.std.proofs.Common.{◌≤◌, length, refl, ap, ◌∙◌, arith}
use Rattle.std.specs.List.{flat_map}
use Rattle.book.specs.Saying.{line_text}
use Rattle.book.specs.Texts.{lines_left, text_of}
use Rattle.numerals.proofs.Writing.{begun, fits, more}
use Rattle.book.proofs.writer.Text.write.Goals as goal

pub loop-line-init : goal.loop-line-init
loop-line-init c = record {
  same_reference = refl;
  underway = begun refl c.new-page.ensures.place (ap (λ s. flat_map line_text (lines_left s)) c.into_iter-line-iterator.ensures.into_iter_gives ∙ c.lines-line-items.ensures.text);
}

pub write-requires : goal.write-requires
write-requires c =
    let room : length (text_of c.args.self) ≤ length c.new-page.result.bytes.now = rw c.new-page.ensures.bytes c.requires in
    fits (line_text c.in-Some.line) (flat_map line_text (lines_left c.next.new.self)) (omega (arith, room)) c.loop-line.invariant.underway (ap (flat_map line_text) c.in-Some.ensures.steps)

pub loop-line-preserved : goal.loop-line-preserved
loop-line-preserved c = record {
  same_reference = c.write.ensures.same_reference ∙ c.loop-line.invariant.same_reference;
  underway = more (rw c.new-page.ensures.bytes (omega (arith, c.requires))) c.loop-line.invariant.underway (ap (flat_map line_text) c.in-Some.ensures.steps) c.write.ensures.put;
}
