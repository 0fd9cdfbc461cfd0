use Rattle.std.proofs.Common.{◌≡◌, ◌+◌, ◌*◌, ◌≤◌, true, length, take, get_or, sym, ap, ◌∙◌, subst, rules, arith}
use Rattle.std.specs.Str.Parse.{digits_value}
use Rattle.std.specs.Str.{all_ascii_digits}
use Rattle.std.proofs.lemmas.List.{take_all}
use Rattle.book.proofs.Digits.{digits_more, no_numeral, some_numeral, value_step, value_bound}
use Rattle.book.proofs.words.numeral.Goals as goal
use Rattle.book.proofs.words.numeral.Goals.{in_default, in_default-2}

pub returns-then-not-is_ascii_digit : goal.returns-then-not-is_ascii_digit
returns-then-not-is_ascii_digit c = no_numeral c.args.word.now c.loop-digit.digit-index c.loop-digit-test.true (sym c.if-not-is_ascii_digit.ensures.value)

pub loop-digit-preserved : goal.loop-digit-preserved
loop-digit-preserved c =
    let d = c.if-not-is_ascii_digit.ensures.cases in
    let lt = c.loop-digit-test.true in (
      digits_more c.args.word.now _ lt c.loop-digit.invariant.0 (sym c.if-not-is_ascii_digit.ensures.value),
      ap (λ n. c.loop-digit.value * 10 + n) c.from.ensures ∙ value_step c.args.word.now _ _ lt d c.loop-digit.invariant.1,
      value_bound _ _ _ c.loop-digit.invariant.2 (omega arith),
    )

pub returns : goal.returns
returns c =
    let ds = c.args.word.now in
    let whole : take c.loop-digit.digit-index ds ≡ ds = take_all _ ds c.loop-digit-test.false in
    let some : 1 ≤ length ds = elim c.if-word-lt2.branch [ in_default w ↦ search rules | in_default-2 w ↦ search rules ] in
    let bare : get_or ds 0 0 ≡ 48 → length ds ≡ 1 = λ zero. elim c.if-word-lt2.branch [ in_default w ↦ search rules | in_default-2 w ↦ search rules ] in
    some_numeral ds c.loop-digit.value some (omega arith) bare (subst (λ l. all_ascii_digits l ≡ true) whole c.loop-digit.invariant.0) (c.loop-digit.invariant.1 ∙ ap (digits_value 10) whole)
