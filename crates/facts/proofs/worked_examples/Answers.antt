use Rattle.std.proofs.Common.{[], ◌∷◌, pos, sym, refl, length-append}
use Rattle.std.specs.Fmt.{digits}
use Rattle.facts.proofs.worked_examples.Goals as goal

pub returns : goal.returns
unfolding digits
returns c = record {
  reads = refl;
  unread = refl;
  overrun = refl;
  empty = refl;
  line = refl;
  lines = refl;
  cells = refl;
  cells_read = refl;
  counted = λ clause. sym (length-append clause (pos 0 ∷ []));
}
