-- Clauses in text are read as they were spelled. Assumes nothing.
use Rattle.std.proofs.Common.{◌≡◌, ℕ, zero, suc, ◌<◌, ◌≤◌, true, false, eqb, leb, List, [], ◌∷◌, ◌++◌, map, get_or, drop, replicate, ℤ, pos, negsuc, neg_ℤ, decimal, sym, refl, ap, ◌∙◌, append_assoc, arith}
use Rattle.std.specs.List.{flat_map, AllByRecursion}
use Rattle.std.specs.Str.Parse.{AllDigits, digits_value, starts_with_minus, signed_digits_value}
use Rattle.std.specs.Fmt.{signed_decimal}
use Rattle.std.proofs.lemmas.Fmt.{decimal_is_IsNumeral}
use Rattle.std.proofs.ByRecursion.{All-append, All-weaker}
use Rattle.std.proofs.lemmas.Str.Parse.{without_leading_plus_none, digit_at, digit_from_value}
use Rattle.std.proofs.lemmas.Bool.{and_parts, leb-true, ne_eqb, cond-false}
use Rattle.sinks.specs.Clauses.{variable, last_variable, literal, literals}
use Rattle.stores.specs.Scripts.{Legible, parts}
use Rattle.stores.specs.Texts.{lf, space, hard, zero_digit, spaced, line, clause_in, text_script}
use Rattle.stores.specs.Parts.{Inside, parts_front, parts_one, parts_none}

-- One literal.

pub literal_small : (l : ℤ) → literal l ≡ true → variable l ≤ last_variable
literal_small l h = leb-true _ _ (and_parts (leb 1 (variable l)) _ h).1

-- a minus and the digits stand after the space and LF
abbrev High : List ℕ → Type 0
High = AllByRecursion (λ b. 45 ≤ b)

digits_high : (ds : List ℕ) → AllDigits 10 ds → High ds
digits_high [] d = tt
digits_high (c ∷ cs) d = (let k = digit_from_value c d.0 in omega arith, digits_high cs d.1)

decimal_high : (n : ℕ) → n ≤ last_variable → High (decimal n)
decimal_high n le = digits_high (decimal n) (decimal_is_IsNumeral n (omega arith)).0.1

signed_high : (l : ℤ) → variable l ≤ last_variable → High (signed_decimal l)
signed_high (pos n) le = decimal_high n le
signed_high (negsuc n) le = (omega arith, decimal_high (suc n) le)

signed_reads : (l : ℤ) → variable l ≤ last_variable → signed_digits_value 10 (signed_decimal l) ≡ l
signed_reads (pos n) le =
    let read = decimal_is_IsNumeral n (omega arith) in
    let first = digit_at (decimal n) 0 read.0.1 read.0.0 in
    let unsigned : starts_with_minus (decimal n) ≡ false = ne_eqb (get_or (decimal n) 0 0) 45 (λ e. omega arith) in
    cond-false (starts_with_minus (decimal n)) _ _ unsigned ∙ ap (λ ds. pos (digits_value 10 ds)) (cond-false (starts_with_minus (decimal n)) _ _ unsigned ∙ without_leading_plus_none (decimal n) (λ e. omega arith)) ∙ ap pos read.1
signed_reads (negsuc n) le = ap (λ m. neg_ℤ (pos m)) (decimal_is_IsNumeral (suc n) (omega arith)).1

-- a byte below the minus is in no literal
clear : (e : ℕ) → e < 45 → (l : ℤ) → literal l ≡ true → Inside (eqb e) (signed_decimal l)
clear e low l h = All-weaker (λ b. 45 ≤ b) (λ b. eqb e b ≡ false) (λ b le. ne_eqb e b (λ z. omega arith)) (signed_decimal l) (signed_high l (literal_small l h))

-- All of a line's literals.

words : (w : List ℕ) (c : List ℤ) → literals c ≡ true → parts (eqb space) w (flat_map spaced c ++ space ∷ zero_digit ∷ []) ≡ w ∷ map signed_decimal c
words w [] h = refl
words w (l ∷ ls) h =
    let both = and_parts (literal l) (literals ls) h in
    let rest = flat_map spaced ls ++ space ∷ zero_digit ∷ [] in
    ap (λ t. w ∷ parts (eqb space) [] t) (append_assoc (signed_decimal l) (flat_map spaced ls) (space ∷ zero_digit ∷ []))
    ∙ ap (λ ws. w ∷ ws) (parts_front (eqb space) [] (signed_decimal l) rest (clear space (omega arith) l both.0) ∙ words (signed_decimal l) ls both.1)

all_read : (c : List ℤ) → literals c ≡ true → map (signed_digits_value 10) (map signed_decimal c) ≡ c
all_read [] h = refl
all_read (l ∷ ls) h =
    let both = and_parts (literal l) (literals ls) h in
    λ i. signed_reads l (literal_small l both.0) i ∷ all_read ls both.1 i

one_line : (c : List ℤ) → literals c ≡ true → Inside (eqb lf) (flat_map spaced c)
one_line [] h = tt
one_line (l ∷ ls) h =
    let both = and_parts (literal l) (literals ls) h in
    All-append (λ b. eqb lf b ≡ false) (spaced l) (flat_map spaced ls) (refl, clear lf (omega arith) l both.0) (one_line ls both.1)

-- a line without its LF
abbrev body : List ℤ → List ℕ
body c = hard ∷ (flat_map spaced c ++ space ∷ zero_digit ∷ [])

body_read : (c : List ℤ) → literals c ≡ true → clause_in (body c) ≡ c
body_read c h = ap (λ ws. map (signed_digits_value 10) (drop 1 ws)) (words (hard ∷ []) c h) ∙ all_read c h

-- no LF is among blanks
blank : (n : ℕ) → Inside (eqb lf) (replicate n 0)
blank zero = tt
blank (suc n) = (refl, blank n)

pub text_legible : Legible text_script
text_legible = record {
  clause = λ c rest h.
      let ls = (and_parts _ (literals c) h).1 in
      let ends = All-append (λ b. eqb lf b ≡ false) (flat_map spaced c) (space ∷ zero_digit ∷ []) (one_line c ls) (refl, (refl, tt)) in
      let split : line c ++ rest ≡ body c ++ lf ∷ rest = ap (λ t. hard ∷ t) (append_assoc (flat_map spaced c) (space ∷ zero_digit ∷ lf ∷ []) rest ∙ sym (append_assoc (flat_map spaced c) (space ∷ zero_digit ∷ []) (lf ∷ rest))) in
      ap (λ t. map clause_in (parts (eqb lf) [] t)) split
      ∙ ap (map clause_in) (parts_one (eqb lf) (body c) lf rest (refl, ends) refl)
      ∙ ap (λ d. d ∷ map clause_in (parts (eqb lf) [] rest)) (body_read c ls);
  blanks = λ n. ap (map clause_in) (parts_none (eqb lf) (replicate n 0) (blank n));
}
