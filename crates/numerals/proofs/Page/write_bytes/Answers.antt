use Rattle.std.proofs.Common.{refl, arith}
use Rattle.std.proofs.lemmas.Slice.{put_mid-paste}
use Rattle.numerals.specs.Puts.{put}
use Rattle.numerals.proofs.Page.write_bytes.Goals as goal

pub returns : goal.returns
unfolding put
returns c = record {
  same_reference = refl;
  put = record {
    room = λ _. record { ends = refl; bytes = put_mid-paste _ _ _ _ _ _ c.copy_from_slice.ensures.after (omega arith) refl };
    short = λ lt. absurd (omega arith);
  };
}
