-- The digits of a number, one by one. Assumes nothing.
use Rattle.std.proofs.Common.{◌≡◌, ℕ, zero, suc, ◌+◌, ◌-◌, ◌*◌, ◌^◌, ◌<◌, ◌≤◌, true, false, not, ◌&&◌, ◌||◌, eqb, leb, List, [], ◌∷◌, length, get_or, take, Some, None, sym, refl, ap, ◌∙◌, ⊎_elim, pow-suc, add-one, arith}
use Rattle.std.specs.Str.Parse.{digits_value}
use Rattle.std.specs.Int.{IsInRange}
use Rattle.std.specs.Char.{is_ascii_digit, digit_value}
use Rattle.std.specs.Str.{all_ascii_digits}
use Rattle.std.proofs.lemmas.Int.Digits.{digits_value_more}
use Rattle.std.proofs.lemmas.Bool.{and_right, and_from, and_parts, or_left, or_right, cond-true, cond-false, le-leb, eq-eqb, ne_eqb, cases_eq}
use Rattle.std.proofs.lemmas.Str.{digit_value_digit}
use Rattle.book.specs.Lines.{most_digits, is_numeral, numeral}

pub digits_more : (ds : List ℕ) (i : ℕ) → i < length ds → all_ascii_digits (take i ds) ≡ true → is_ascii_digit (get_or ds i 0) ≡ true → all_ascii_digits (take (i + 1) ds) ≡ true
digits_more [] i lt a d = absurd (omega arith)
digits_more (c ∷ cs) zero lt a d = and_from _ _ d refl
digits_more (c ∷ cs) (suc i) lt a d =
    let p = and_parts (is_ascii_digit c) (all_ascii_digits (take i cs)) a in
    let n : suc i + 1 ≡ suc (i + 1) = omega arith in
    ap (λ k. all_ascii_digits (take k (c ∷ cs))) n ∙ and_from _ _ p.0 (digits_more cs i (omega arith) p.1 d)

not_digits : (ds : List ℕ) (i : ℕ) → i < length ds → is_ascii_digit (get_or ds i 0) ≡ false → all_ascii_digits ds ≡ false
not_digits [] i lt d = absurd (omega arith)
not_digits (c ∷ cs) zero lt d = ap (λ b. b && all_ascii_digits cs) d
not_digits (c ∷ cs) (suc i) lt d = and_right _ _ (not_digits cs i (omega arith) d)

-- a word with another byte among its digits is no number
pub no_numeral : (ds : List ℕ) (i : ℕ) → i < length ds → is_ascii_digit (get_or ds i 0) ≡ false → None ≡ numeral ds
no_numeral ds i lt d =
    sym (cond-false (is_numeral ds) _ _ (and_right (leb 1 (length ds)) _ (and_right (leb (length ds) most_digits) _ (ap (λ b. b && (not (eqb (get_or ds 0 0) 48) || eqb (length ds) 1)) (not_digits ds i lt d)))))

pub some_numeral : (ds : List ℕ) (v : ℕ) → 1 ≤ length ds → length ds ≤ most_digits → (get_or ds 0 0 ≡ 48 → length ds ≡ 1) → all_ascii_digits ds ≡ true → v ≡ digits_value 10 ds → Some v ≡ numeral ds
some_numeral ds v some few bare all is =
    ap Some is ∙ sym (cond-true (is_numeral ds) _ _ (and_from _ _ (le-leb _ _ some) (and_from _ _ (le-leb _ _ few) (and_from _ _ all (⊎_elim (λ e. or_right _ _ (eq-eqb _ _ (bare e))) (λ ne. or_left _ _ (ap not (ne_eqb _ _ ne))) (cases_eq (get_or ds 0 0) 48))))))

-- one digit more
pub value_step : (ds : List ℕ) (i v : ℕ) → i < length ds → IsInRange 48 57 (get_or ds i 0) → v ≡ digits_value 10 (take i ds) → v * 10 + (get_or ds i 0 - 48) ≡ digits_value 10 (take (i + 1) ds)
value_step ds i v lt d is =
    let e = digit_value_digit (get_or ds i 0) d in
    let f : get_or ds i 0 - 48 ≡ digit_value (get_or ds i 0) = omega arith in
    ap (λ n. n * 10 + (get_or ds i 0 - 48)) is ∙ ap (λ n. digits_value 10 (take i ds) * 10 + n) f ∙ sym (digits_value_more 10 ds i lt)

pub value_bound : (v i d : ℕ) → v < 10 ^ i → d < 10 → v * 10 + d < 10 ^ (i + 1)
value_bound v i d lt small =
    let e : 10 ^ (i + 1) ≡ 10 ^ i * 10 = ap (λ n. 10 ^ n) (add-one i) ∙ pow-suc 10 i in
    omega arith
