-- A line that has its form spells what it says, and a spelling has the form of what it spells. Assumes nothing.
use Rattle.std.proofs.Common.{◌≡◌, ℕ, ◌^◌, ◌<◌, ◌≤◌, Bool, true, false, cond, not, ◌||◌, eqb, leb, List, [], ◌∷◌, ◌++◌, map, length, get_or, Some, None, decimal, Option, sym, refl, ap, ◌∙◌, subst, ⊎_elim, arith}
use Rattle.std.specs.List.{flat_map, AllByRecursion}
use Rattle.std.specs.Str.Parse.{digits_value}
use Rattle.std.specs.Int.{IsInRange}
use Rattle.std.specs.Str.{all_ascii_digits}
use Rattle.std.proofs.lemmas.Fmt.{decimal_nonempty, decimal_digit, length-decimal-le, first_decimal, digits_decimal, digits_value-decimal, decimal-digits_value}
use Rattle.std.proofs.ByRecursion.{All-append, All-weaker, All-map}
use Rattle.std.proofs.lemmas.Str.Parse.{IsNumeralModel, numerals_by_value, tells_all_ascii_digits, digits_value_short}
use Rattle.std.proofs.lemmas.Bool.{cases_eq, and_parts, and_from, or_cases, or_left, or_right, not-true, not_from_false, leb-true, le-leb, eqb-true, eqb-false, ne_eqb, cond-true, cond-false}
use Rattle.project.specs.declared.tables.Kind.TheVariants.{Blank, And, Or, Bi}
use Rattle.book.specs.declared.lines.LineKind.{LineKind}
use Rattle.book.specs.declared.lines.LineKind.TheVariants.{Capacities, Job, Pairing, Trailer}
use Rattle.book.specs.Lines.{lf, space, Content, letter, spaced, spelled, onto, words, most_digits, is_numeral, numeral, before, numerals, kind_of, content, content_of, fewest, most, counted, if_counted, formed}
use Rattle.book.specs.Accepted.{Sayable}

pub none_some : {A : Type 0} {x : A} → ◌≡◌ {A = Option A} None (Some x) → ⊥
none_some e = let z : ◌≡◌ {A = ℕ} 0 1 = cc in omega arith

-- One number.

pub own : IsNumeralModel (λ ds. all_ascii_digits ds ≡ true) (digits_value 10)
own = numerals_by_value _ tells_all_ascii_digits

digits_all : (ds : List ℕ) → all_ascii_digits ds ≡ true → AllByRecursion (IsInRange 48 57) ds
digits_all [] h = tt
digits_all (d ∷ ds) h = let p = tells_all_ascii_digits.parts d ds h in (p.0, digits_all ds p.1)

decimal_all : (n : ℕ) → n < 10 ^ most_digits → AllByRecursion (IsInRange 48 57) (decimal n)
decimal_all n h = digits_all (decimal n) (digits_decimal own n (omega arith))

no_needless : (n : ℕ) → n < 10 ^ most_digits → (not (eqb (get_or (decimal n) 0 0) 48) || eqb (length (decimal n)) 1) ≡ true
no_needless n h =
    ⊎_elim
    (λ z. or_right (not (eqb (get_or (decimal n) 0 0) 48)) _ (ap (λ m. eqb (length (decimal m)) 1) z ∙ ap (λ ds. eqb (length ds) 1) (decimal_digit 0 (omega arith))))
    (λ p. let first = first_decimal n (omega arith) (omega arith) in or_left _ _ (not_from_false _ (ne_eqb (get_or (decimal n) 0 0) 48 (λ e. omega arith))))
    (cases_eq n 0)

pub numeral_decimal : (n : ℕ) → n < 10 ^ most_digits → numeral (decimal n) ≡ Some n
numeral_decimal n h =
    let some = le-leb 1 (length (decimal n)) (omega (arith, decimal_nonempty n (omega arith))) in
    let few = le-leb _ most_digits (length-decimal-le most_digits n (omega arith) h (omega arith)) in
    let is : is_numeral (decimal n) ≡ true = and_from _ _ some (and_from _ _ few (and_from _ _ (digits_decimal own n (omega arith)) (no_needless n h))) in
    cond-true (is_numeral (decimal n)) (Some (digits_value 10 (decimal n))) None is ∙ ap Some (digits_value-decimal own n (omega arith))

pub decimal_numeral : (ds : List ℕ) (n : ℕ) → numeral ds ≡ Some n → (ds ≡ decimal n) × (n < 10 ^ most_digits)
decimal_numeral ds n e = go (is_numeral ds) refl e
  where
    go : (b : Bool) → is_numeral ds ≡ b → cond b (Some (digits_value 10 ds)) None ≡ Some n → (ds ≡ decimal n) × (n < 10 ^ most_digits)
    go true is e' =
        let same : digits_value 10 ds ≡ n = cc in
        let p = and_parts (leb 1 (length ds)) _ is in
        let q = and_parts (leb (length ds) most_digits) _ p.1 in
        let r = and_parts (all_ascii_digits ds) _ q.1 in
        let small = digits_value_short own ds most_digits r.0 (leb-true _ _ q.0) in
        let single : get_or ds 0 0 ≡ 48 → length ds ≡ 1 = λ z. ⊎_elim (λ k. absurd (eqb-false _ 48 (not-true _ k) z)) (λ k. eqb-true (length ds) 1 k) (or_cases _ _ r.1) in
        let back = decimal-digits_value own ds r.0 (omega (arith, leb-true 1 (length ds) p.0)) single (omega arith) in
        (sym back ∙ ap decimal same, omega arith)
    go false is e' = absurd (none_some e')

pub numerals_decimals : (ns : List ℕ) → AllByRecursion (λ n. n < 10 ^ most_digits) ns → numerals (map decimal ns) ≡ Some ns
numerals_decimals [] h = refl
numerals_decimals (n ∷ ns) h = rw (numeral_decimal n h.0, numerals_decimals ns h.1)

pub decimals_numerals : (ws : List (List ℕ)) (ns : List ℕ) → numerals ws ≡ Some ns → (ws ≡ map decimal ns) × AllByRecursion (λ n. n < 10 ^ most_digits) ns
decimals_numerals [] [] e = (refl, tt)
decimals_numerals [] (n ∷ ns) e = absurd (let z : ◌≡◌ {A = ℕ} 0 1 = cc in omega arith)
decimals_numerals (w ∷ ws) ns e = go (numeral w) refl (numerals ws) refl e (decimals_numerals ws)
  where
    go : (o : Option ℕ) → numeral w ≡ o → (p : Option (List ℕ)) → numerals ws ≡ p → before o p ≡ Some ns → ((ms : List ℕ) → numerals ws ≡ Some ms → (ws ≡ map decimal ms) × AllByRecursion (λ n. n < 10 ^ most_digits) ms) → ((w ∷ ws) ≡ map decimal ns) × AllByRecursion (λ n. n < 10 ^ most_digits) ns
    go None a p b e' rest = absurd (none_some e')
    go (Some m) a None b e' rest = absurd (none_some e')
    go (Some m) a (Some ms) b e' rest =
        let same : (m ∷ ms) ≡ ns = cc in
        let one = decimal_numeral w m a in
        let more = rest ms b in
        subst (λ l. ((w ∷ ws) ≡ map decimal l) × AllByRecursion (λ n. n < 10 ^ most_digits) l) same ((λ i. one.0 i ∷ more.0 i), (one.1, more.1))

-- The words of a line.

abbrev Clear : List ℕ → Type 0
Clear w = AllByRecursion (λ b. b ≡ space → ⊥) w

abbrev spaced_word : List ℕ → List ℕ
spaced_word w = space ∷ w

-- a line of these words
abbrev unwords : List (List ℕ) → List ℕ
unwords [] = []
unwords (w ∷ ws) = w ++ flat_map spaced_word ws

pub words_front : (w r : List ℕ) (ws : List (List ℕ)) → Clear w → words r ≡ [] ∷ ws → words (w ++ r) ≡ w ∷ ws
words_front [] r ws c e = e
words_front (b ∷ w) r ws c e =
    cond-false (eqb b space) _ _ (ne_eqb b space c.0) ∙ ap (onto b) (words_front w r ws c.1 e)

pub words_unwords : (w : List ℕ) (ws : List (List ℕ)) → Clear w → AllByRecursion Clear ws → words (unwords (w ∷ ws)) ≡ w ∷ ws
words_unwords w [] c h = words_front w [] [] c refl
words_unwords w (v ∷ ws) c h =
    words_front w (spaced_word v ++ flat_map spaced_word ws) (v ∷ ws) c (ap (λ l. [] ∷ l) (words_unwords v ws h.0 h.1))

words_some : (l : List ℕ) → words l ≡ [] → ⊥
words_some [] e = let z : ◌≡◌ {A = ℕ} 0 1 = cc in omega arith
words_some (b ∷ l) e = go (eqb b space) (words l) e
  where
    go : (t : Bool) (ws : List (List ℕ)) → cond t ([] ∷ ws) (onto b ws) ≡ [] → ⊥
    go true ws e' = let z : ◌≡◌ {A = ℕ} 0 1 = cc in omega arith
    go false [] e' = let z : ◌≡◌ {A = ℕ} 0 1 = cc in omega arith
    go false (w ∷ ws) e' = let z : ◌≡◌ {A = ℕ} 0 1 = cc in omega arith

pub unwords_words : (l : List ℕ) → unwords (words l) ≡ l
unwords_words [] = refl
unwords_words (b ∷ l) = go (eqb b space) refl (words l) refl (unwords_words l)
  where
    go : (t : Bool) → eqb b space ≡ t → (ws : List (List ℕ)) → words l ≡ ws → unwords ws ≡ l → unwords (cond t ([] ∷ ws) (onto b ws)) ≡ b ∷ l
    go true is [] some e = absurd (words_some l some)
    go true is (w ∷ ws) some e = λ i. sym (eqb-true b space is) i ∷ e i
    go false is [] some e = ap (λ m. b ∷ m) e
    go false is (w ∷ ws) some e = ap (λ m. b ∷ m) e

-- The letter.

abbrev Told : ℕ → LineKind → Type 0
Told b k = (b ≡ letter k) × (k ≡ Pairing Blank → ⊥)

pub kind_letter : (k : LineKind) → (k ≡ Pairing Blank → ⊥) → kind_of (letter k) ≡ Some k
kind_letter Capacities n = refl
kind_letter Job n = refl
kind_letter (Pairing Blank) n = absurd (n refl)
kind_letter (Pairing And) n = refl
kind_letter (Pairing Or) n = refl
kind_letter (Pairing Bi) n = refl
kind_letter Trailer n = refl

pick : (b : ℕ) (j k : LineKind) (o : Option LineKind) → (j ≡ Pairing Blank → ⊥) → cond (eqb b (letter j)) (Some j) o ≡ Some k → (o ≡ Some k → Told b k) → Told b k
pick b j k o n e other = go (eqb b (letter j)) refl e
  where
    go : (t : Bool) → eqb b (letter j) ≡ t → cond t (Some j) o ≡ Some k → Told b k
    go true is e' = let same : j ≡ k = cc in subst (Told b) same (eqb-true b (letter j) is, n)
    go false is e' = other e'

pub letter_kind : (b : ℕ) (k : LineKind) → kind_of b ≡ Some k → Told b k
letter_kind b k e =
    pick b Capacities k _ (λ h. differs (cc)) e λ e.
    pick b Job k _ (λ h. differs (cc)) e λ e.
    pick b (Pairing And) k _ (λ h. differs (cc)) e λ e.
    pick b (Pairing Or) k _ (λ h. differs (cc)) e λ e.
    pick b (Pairing Bi) k _ (λ h. differs (cc)) e λ e.
    pick b Trailer k _ (λ h. differs (cc)) e λ e. absurd (none_some e)
  where
    differs : ◌≡◌ {A = ℕ} 0 1 → ⊥
    differs z = omega arith

-- The whole line.

joined_decimals : (ns : List ℕ) → flat_map spaced_word (map decimal ns) ≡ flat_map spaced ns
joined_decimals [] = refl
joined_decimals (n ∷ ns) = ap (λ l. spaced n ++ l) (joined_decimals ns)

not_space : (n : ℕ) → n < 10 ^ most_digits → Clear (decimal n)
not_space n h = All-weaker (IsInRange 48 57) (λ b. b ≡ space → ⊥) (λ b d e. omega arith) (decimal n) (decimal_all n h)

-- no letter is a lower byte than A, but for the 0 of a blank pair
letter_high : (n : ℕ) → 0 < n → n < 65 → (k : LineKind) → letter k ≡ n → ⊥
letter_high n some low Capacities e = omega arith
letter_high n some low Job e = omega arith
letter_high n some low (Pairing Blank) e = omega arith
letter_high n some low (Pairing And) e = omega arith
letter_high n some low (Pairing Or) e = omega arith
letter_high n some low (Pairing Bi) e = omega arith
letter_high n some low Trailer e = omega arith

pub words_spelled : (x : Content) → Sayable x → words (spelled x) ≡ (letter x.kind ∷ []) ∷ map decimal x.numbers
words_spelled x s =
    ap (λ l. words (letter x.kind ∷ l)) (sym (joined_decimals x.numbers))
    ∙ words_unwords (letter x.kind ∷ []) (map decimal x.numbers) (letter_high space (omega arith) (omega arith) x.kind, tt)
    (All-map Clear decimal x.numbers (All-weaker (λ n. n < 10 ^ most_digits) (λ n. Clear (decimal n)) not_space x.numbers s.small))

content_says : (ws : List (List ℕ)) (x : Content) → content_of ws ≡ Some x → Sayable x × (unwords ws ≡ spelled x)
content_says [] x e = absurd (none_some e)
content_says ([] ∷ ws) x e = absurd (none_some e)
content_says ((b ∷ c ∷ w) ∷ ws) x e = absurd (none_some e)
content_says ((b ∷ []) ∷ ws) x e = go (kind_of b) refl (numerals ws) refl e
  where
    go : (o : Option LineKind) → kind_of b ≡ o → (p : Option (List ℕ)) → numerals ws ≡ p → content o p ≡ Some x → Sayable x × (unwords ((b ∷ []) ∷ ws) ≡ spelled x)
    go None a p f e' = absurd (none_some e')
    go (Some k) a None f e' = absurd (none_some e')
    go (Some k) a (Some ns) f e' =
        let y : Content = record { kind = k; numbers = ns } in
        let same : y ≡ x = cc in
        let told = letter_kind b k a in
        let said = decimals_numerals ws ns f in
        subst (λ z. Sayable z × (unwords ((b ∷ []) ∷ ws) ≡ spelled z)) same (record { lettered = told.1; small = said.1 }, (λ i. told.0 i ∷ flat_map spaced_word (said.0 i)) ∙ ap (λ l. letter k ∷ l) (joined_decimals ns))

-- a line that has its form spells what it says
pub formed_says : (k : ℕ) (l : List ℕ) (x : Content) → formed k l ≡ Some x → Sayable x × (l ≡ spelled x) × (fewest k x.kind ≤ length x.numbers) × (length x.numbers ≤ most k x.kind)
formed_says k l x e = go (content_of (words l)) refl e
  where
    Said : Content → Type 0
    Said y = Sayable y × (l ≡ spelled y) × (fewest k y.kind ≤ length y.numbers) × (length y.numbers ≤ most k y.kind)

    counts : (y : Content) → content_of (words l) ≡ Some y → (t : Bool) → counted k y ≡ t → cond t (Some y) None ≡ Some x → Said x
    counts y is true c e' =
        let same : y ≡ x = cc in
        let said = content_says (words l) y is in
        let two = and_parts (leb (fewest k y.kind) (length y.numbers)) _ c in
        subst Said same (said.0, sym (unwords_words l) ∙ said.1, leb-true _ _ two.0, leb-true _ _ two.1)
    counts y is false c e' = absurd (none_some e')

    go : (o : Option Content) → content_of (words l) ≡ o → if_counted k o ≡ Some x → Said x
    go None is e' = absurd (none_some e')
    go (Some y) is e' = counts y is (counted k y) refl e'

pub content_spelled : (x : Content) → Sayable x → content_of (words (spelled x)) ≡ Some x
content_spelled x s =
    ap content_of (words_spelled x s)
    ∙ (λ i. content (kind_letter x.kind s.lettered i) (numerals_decimals x.numbers s.small i))

-- a spelling has the form of what it spells
pub says_formed : (k : ℕ) (x : Content) → Sayable x → fewest k x.kind ≤ length x.numbers → length x.numbers ≤ most k x.kind → formed k (spelled x) ≡ Some x
says_formed k x s low high =
    ap (if_counted k) (content_spelled x s)
    ∙ cond-true (counted k x) (Some x) None (and_from _ _ (le-leb _ _ low) (le-leb _ _ high))

-- a spelling is one line
pub spelled_no_lf : (x : Content) → Sayable x → AllByRecursion (λ b. b ≡ lf → ⊥) (spelled x)
spelled_no_lf x s = (letter_high lf (omega arith) (omega arith) x.kind, numbers x.numbers s.small)
  where
    numbers : (ns : List ℕ) → AllByRecursion (λ n. n < 10 ^ most_digits) ns → AllByRecursion (λ b. b ≡ lf → ⊥) (flat_map spaced ns)
    numbers [] h = tt
    numbers (n ∷ ns) h = All-append (λ b. b ≡ lf → ⊥) (spaced n) (flat_map spaced ns) ((λ e. omega arith), All-weaker (IsInRange 48 57) (λ b. b ≡ lf → ⊥) (λ b d e. omega arith) (decimal n) (decimal_all n h.0)) (numbers ns h.1)
