use Rattle.std.proofs.Common.{◌+◌, refl, rules, sym, ap}
use Rattle.book.proofs.Cutting.{split_parts}
use Rattle.book.proofs.words.Part.split_once.Goals as goal

pub returns : goal.returns
returns c =
    let parts = split_parts c.args.byte c.args.self.text.now _ _ c.in_ok-end.end (search rules) (search rules) (λ k a e. search rules) c.split_at.ensures.front c.split_at.ensures.back in
    record { whole = parts.0; first = parts.1; here = refl; after = ap (λ n. c.args.self.place + n + 1) (sym c.split_at.ensures.front_len) }
