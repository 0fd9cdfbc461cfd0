use Rattle.std.proofs.Common.{◌≡◌, ◌^◌, ◌<◌, true, take}
use Rattle.std.specs.Str.Parse.{digits_value}
use Rattle.std.specs.Str.{all_ascii_digits}
use Rattle.book.proofs.words.numeral.Given as goal

abbrev pub invariant-loop-digit : goal.invariant-loop-digit
invariant-loop-digit l =
    (all_ascii_digits (take l.digit-index l.word) ≡ true) × (l.value ≡ digits_value 10 (take l.digit-index l.word)) × (l.value < 10 ^ l.digit-index)
