-- The line of a clause, summed up and written. Assumes nothing.
use Rattle.std.proofs.Common.{◌≡◌, ℕ, ◌+◌, ◌-◌, ◌^◌, ◌<◌, ◌≤◌, min, true, false, cond, not, ◌&&◌, eqb, List, [], ◌∷◌, ◌++◌, length, get_or, drop, map, ℤ, pos, Some, None, Option, Bor, sym, ap, ◌∙◌, append_assoc, add-one, arith, length-append, drop-cons}
use Rattle.std.proofs.Math.Bool.{and-false}
use Rattle.std.specs.Iterator.Runs.{Run, AllItems, AnyItem, ItemsMapTo}
use Rattle.std.specs.List.{flat_map, fold}
use Rattle.std.specs.Option.{IfSome, IsSomeAnd, option_map}
use Rattle.std.proofs.lemmas.Bool.{and_from}
use Rattle.std.proofs.lemmas.List.{drop_all}
use Rattle.std.proofs.lemmas.List.Folds.{fold-map, list_all_at}
use Rattle.std.proofs.lemmas.List.Sums.{list_all-from_AllPass}
use Rattle.std.specs.Fmt.{signed_decimal}
use Rattle.sinks.specs.Clauses.{literal, literals, clausal}
use Rattle.sinks.specs.Ledgers.{price}
use Rattle.stores.specs.Texts.{lf, space, zero_digit, spaced, line}

pub line_length : (c : List ℤ) → length (line c) ≡ 4 + length (flat_map spaced c)
line_length c = omega (arith, length-append (flat_map spaced c) (space ∷ zero_digit ∷ lf ∷ []))

-- a sum, if it fits
abbrev pub add : ℕ → ℕ → ℕ
add n k = min (n + k) (2 ^ 64 - 1)

abbrev pub spaced_length : ℤ → ℕ
spaced_length l = length (spaced l)

summed : (n : ℕ) (c : List ℤ) → n ≤ 2 ^ 64 - 1 → fold add n (map spaced_length c) ≡ min (n + length (flat_map spaced c)) (2 ^ 64 - 1)
summed n [] le = omega arith
summed n (l ∷ ls) le =
    let rest = summed (add n (spaced_length l)) ls (omega arith) in
    let long = length-append (spaced l) (flat_map spaced ls) in
    omega arith

pub sum_is : (c : List ℤ) → fold add 4 (map spaced_length c) ≡ min (length (line c)) (2 ^ 64 - 1)
sum_is c = summed 4 c (omega arith) ∙ ap (λ n. min n (2 ^ 64 - 1)) (sym (line_length c))

-- Its price, where the pass ends at the first number that is no literal.

found : {P : Bor ℤ → Type 0} (o : Option (Bor ℤ)) (l : ℤ) → option_map (λ y. y.now) o ≡ Some l → IfSome o P → ((y : Bor ℤ) → P y → literal y.now ≡ true) → literal l ≡ true
found None l e h is = cc
found (Some y) l e h is = let same : y.now ≡ l = cc in ap literal (sym same) ∙ is y h

missed : {P : Bor ℤ → Type 0} (o : Option (Bor ℤ)) (l : ℤ) → option_map (λ y. y.now) o ≡ Some l → IsSomeAnd o P → ((y : Bor ℤ) → P y → literal y.now ≡ false) → literal l ≡ false
missed None l e h is = absurd h
missed (Some y) l e h is = let same : y.now ≡ l = cc in ap literal (sym same) ∙ is y h

module _ {S : Type 0} {steps : S → Option (Bor ℤ) → S → Type 0} (p : Run steps) (c : List ℤ) (run : ItemsMapTo p (λ y. y.now) c) (P : Bor ℤ → Type 0) (n : ℕ) where
  pub summed_price : false ≡ eqb (length c) 0 → p.whole ≡ true → AllItems p P → ((y : Bor ℤ) → P y → literal y.now ≡ true) → n ≡ fold (λ m y. add m (spaced_length y.now)) 4 p.items → Some n ≡ price c (min (length (line c)) (2 ^ 64 - 1))
  summed_price some whole all is sum =
      let long = run.1 whole in
      let each : literals c ≡ true = list_all-from_AllPass literal c (λ k d lt. found (p.at k) (get_or c k d) (run.2 k d (omega arith)) (all k) is) in
      let clause : clausal c ≡ true = and_from (not (eqb (length c) 0)) (literals c) (ap not (sym some)) each in
      ap Some (sum ∙ run.5 (λ m l. add m (spaced_length l)) 4 whole ∙ sym (fold-map add spaced_length 4 c) ∙ sum_is c) ∙ ap (λ b. cond b (Some (min (length (line c)) (2 ^ 64 - 1))) None) (sym clause)

  pub no_price : AnyItem p P → ((y : Bor ℤ) → P y → literal y.now ≡ false) → None ≡ price c n
  no_price (k, lt, h) is =
      let long = run.0 in
      let each : literals c ≡ false = list_all_at literal c k (pos 0) (omega arith) (missed (p.at k) (get_or c k (pos 0)) (run.2 k (pos 0) lt) h is) in
      ap (λ b. cond b (Some n) None) (sym (ap (λ b. not (eqb (length c) 0) && b) each ∙ and-false (not (eqb (length c) 0))))

-- Its bytes, one piece after another.

-- what follows the literals before the one at i
abbrev pub line_from : List ℤ → ℕ → List ℕ
line_from c i = flat_map spaced (drop i c) ++ space ∷ zero_digit ∷ lf ∷ []

pub next_literal : (c : List ℤ) (i : ℕ) → i < length c → line_from c i ≡ (space ∷ []) ++ (signed_decimal (get_or c i (pos 0)) ++ line_from c (i + 1))
next_literal c i lt =
    ap (λ l. flat_map spaced l ++ space ∷ zero_digit ∷ lf ∷ []) (drop-cons c i (pos 0) lt ∙ ap (λ n. get_or c i (pos 0) ∷ drop n c) (sym (add-one i)))
    ∙ ap (λ l. space ∷ l) (append_assoc (signed_decimal (get_or c i (pos 0))) (flat_map spaced (drop (i + 1) c)) (space ∷ zero_digit ∷ lf ∷ []))

pub no_literal : (c : List ℤ) (i : ℕ) → length c ≤ i → line_from c i ≡ (space ∷ zero_digit ∷ lf ∷ []) ++ []
no_literal c i le = ap (λ l. flat_map spaced l ++ space ∷ zero_digit ∷ lf ∷ []) (drop_all i c le)
