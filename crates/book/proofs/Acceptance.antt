-- A book is accepted, with a project, just where it is the book of that project; and what is written reads back.
-- Assumes nothing.
use Rattle.std.proofs.Common.{◌≡◌, ℕ, suc, ◌+◌, ◌*◌, ◌^◌, ◌<◌, ◌≤◌, Bool, true, false, cond, ◌&&◌, eqb, leb, List, [], ◌∷◌, ◌++◌, map, length, take, Some, None, Ok, Err, Option, Result, sym, refl, ap, ◌∙◌, subst, inl, suc-mul, arith}
use Rattle.std.specs.List.{flat_map, AllByRecursion}
use Rattle.std.proofs.lemmas.Fmt.{length-decimal-le}
use Rattle.std.proofs.ByRecursion.{All-map, All-weaker}
use Rattle.std.proofs.lemmas.List.{length-append, length-map}
use Rattle.std.proofs.lemmas.Bool.{and_parts, and_from, eqb-true, eq-eqb, leb-true, le-leb, cond-true}
use Rattle.project.specs.Project.{Project}
use Rattle.project.specs.Refusals.{Refused}
use Rattle.book.specs.Accepted.{Ended, IsBook, Framed, Sizes}
use Rattle.book.specs.Lines.{most_bytes, lf, Content, spaced, spelled, line, most_digits, with_lf}
use Rattle.book.specs.Reading.{Sofar, read_lines, Trailed, trailer, body_lines, closed, read_after, reading}
use Rattle.book.specs.Written.{activity_line, pair_line, trailer_line, body, written}
use Rattle.book.proofs.Theorems.{Accepts, WrittenBook}
use Rattle.book.proofs.Bodies.{Kept, kept_from_rules, shaped_from_kept, rules_from_kept, Brief, body_brief, err_ok, read_body, body_read}
use Rattle.book.proofs.Frames.{trailer_framed, found, framed_reading}
use Rattle.book.proofs.Spelling.{spelled_no_lf}

joined_lines : (xs : List Content) → flat_map with_lf (map spelled xs) ≡ flat_map line xs
joined_lines [] = refl
joined_lines (x ∷ xs) = ap (λ l. line x ++ l) (joined_lines xs)

-- the body of a project, behind a cover, is framed by the trailer that is written
written_is : (cover : ℕ) (p : Project) → written cover p ≡ flat_map with_lf (map spelled (body p)) ++ line (trailer_line cover (length (body p)))
written_is cover p = ap (λ l. l ++ line (trailer_line cover (length (body p)))) (sym (joined_lines (body p)))

length_body : (p : Project) → length (body p) ≡ suc (length p.activities + length p.pairs)
length_body p =
    let acts = map (activity_line p.resources) p.activities in
    let ps = map pair_line p.pairs in
    omega (arith, length-append acts ps, length-map p.activities (activity_line p.resources), length-map p.pairs pair_line)

pub book_framed : (z : Sizes) (bs cover : List ℕ) (p : Project) → Kept z p → Ended cover → bs ≡ cover ++ written (length cover) p → length bs ≤ most_bytes → Framed bs cover (map spelled (body p)) (length (body p))
book_framed z bs cover p kept ended whole short = record {
  whole = whole ∙ ap (λ l. cover ++ l) (written_is (length cover) p);
  ended = ended;
  lines = All-map (AllByRecursion (λ b. b ≡ lf → ⊥)) spelled (body p) (All-weaker Brief (λ x. AllByRecursion (λ b. b ≡ lf → ⊥) (spelled x)) (λ x b. spelled_no_lf x b.sayable) (body p) (body_brief z p kept));
  counted = let long = length_body p in let few = kept.activities in let low = kept.pairs in omega arith;
  short = short;
}

-- what the reader answers of a framed body that it reads to its end
framed_body : (z : Sizes) (bs cover : List ℕ) (p : Project) → Kept z p → 1 ≤ length p.activities → Framed bs cover (map spelled (body p)) (length (body p)) → reading z bs ≡ Ok p
framed_body z bs cover p kept some f =
    let ls = map spelled (body p) in
    framed_reading bs cover ls (length (body p)) f z
    ∙ ap (closed (found cover ls (length (body p))) (length ls)) (read_body z p (length cover) kept)
    ∙ cond-true (eqb (length (body p)) (length ls) && leb 1 (length p.activities)) (Ok p) _ (and_from _ _ (eq-eqb _ _ (sym (length-map (body p) spelled))) (le-leb 1 _ some))

book_reads : (z : Sizes) (bs : List ℕ) (p : Project) → IsBook z bs p → reading z bs ≡ Ok p
book_reads z bs p b =
    let kept = kept_from_rules z p b.shaped b.rules b.activities b.pairs in
    framed_body z bs b.cover p kept b.rules.some (book_framed z bs b.cover p kept b.ended b.whole b.short)

read_book : (z : Sizes) (bs : List ℕ) (p : Project) → reading z bs ≡ Ok p → IsBook z bs p
read_book z bs p e = at_trailer (trailer bs) refl e
  where
    is_book : (t : Trailed) → trailer bs ≡ Some t → Kept z p → map spelled (body p) ≡ body_lines bs t → t.count ≡ length (body_lines bs t) → 1 ≤ length p.activities → IsBook z bs p
    is_book t is kept said count some =
        let f = (trailer_framed bs t is).0 in
        let cover = take t.start bs in
        let same : t.count ≡ length (body p) = count ∙ ap length (sym said) ∙ length-map (body p) spelled in
        record {
          cover = cover;
          ended = f.ended;
          whole = f.whole ∙ (λ i. cover ++ (flat_map with_lf (sym said i) ++ line (trailer_line (length cover) (same i)))) ∙ ap (λ l. cover ++ l) (sym (written_is (length cover) p));
          short = f.short;
          shaped = shaped_from_kept z p kept;
          rules = rules_from_kept z p kept some;
          activities = kept.activity_table;
          pairs = kept.pair_table;
        }

    at_test : (t : Trailed) → trailer bs ≡ Some t → (q : Project) → read_lines z None t.start (body_lines bs t) ≡ Ok (Some q) → (b : Bool) → (eqb t.count (length (body_lines bs t)) && leb 1 (length q.activities)) ≡ b → (other : Refused) → cond b (Ok q) (Err other) ≡ Ok p → IsBook z bs p
    at_test t is q done true test other e' =
        let both = and_parts (eqb t.count (length (body_lines bs t))) _ test in
        let same : q ≡ p = cc in
        let r = body_read z q t.start (body_lines bs t) done in
        is_book t is (subst (Kept z) same r.0) (ap (λ s. map spelled (body s)) (sym same) ∙ r.1) (eqb-true _ _ both.0) (subst (λ s. 1 ≤ length s.activities) same (leb-true 1 (length q.activities) both.1))
    at_test t is q done false test other e' = absurd (err_ok e')

    at_lines : (t : Trailed) → trailer bs ≡ Some t → (r : Result Sofar Refused) → read_lines z None t.start (body_lines bs t) ≡ r → closed t (length (body_lines bs t)) r ≡ Ok p → IsBook z bs p
    at_lines t is (Err n) done e' = absurd (err_ok e')
    at_lines t is (Ok None) done e' = absurd (err_ok e')
    at_lines t is (Ok (Some q)) done e' = at_test t is q done _ refl _ e'

    at_trailer : (o : Option Trailed) → trailer bs ≡ o → read_after z bs o ≡ Ok p → IsBook z bs p
    at_trailer None is e' = absurd (err_ok e')
    at_trailer (Some t) is e' = at_lines t is (read_lines z None t.start (body_lines bs t)) refl e'

pub accepts : Accepts
accepts z bs p = (read_book z bs p, book_reads z bs p)

-- How long a written project is.

length_joined_le : {X A : Type 0} (f : X → List A) (m : ℕ) (xs : List X) → AllByRecursion (λ x. length (f x) ≤ m) xs → length (flat_map f xs) ≤ length xs * m
length_joined_le f m [] h = omega arith
length_joined_le f m (x ∷ xs) h =
    let here = h.0 in
    omega (arith, length-append (f x) (flat_map f xs), length_joined_le f m xs h.1, suc-mul (length xs) m)

-- a letter, five numbers of five digits, a space before each, and LF
line_short : (x : Content) → Brief x → length (line x) ≤ 32
line_short x b =
    let few = b.few in
    let numbers = length_joined_le spaced 6 x.numbers (All-weaker (λ n. n < 10 ^ most_digits) (λ n. length (spaced n) ≤ 6) (λ n h. omega (arith, length-decimal-le most_digits n (omega arith) h (omega arith))) x.numbers b.sayable.small) in
    omega (arith, length-append (spelled x) (lf ∷ []))

written_short : (z : Sizes) (p : Project) → Kept z p → length (written 0 p) ≤ most_bytes
written_short z p kept =
    let last = trailer_line 0 (length (body p)) in
    let long = length_body p in
    let few = kept.activities in
    let low = kept.pairs in
    let trailer_brief : Brief last = record { sayable = record { lettered = λ e. let bad : ◌≡◌ {A = ℕ} 0 1 = cc in omega arith; small = (omega arith, (omega arith, tt)) }; few = omega arith } in
    omega (arith, length-append (flat_map line (body p)) (line last), length_joined_le line 32 (body p) (All-weaker Brief (λ x. length (line x) ≤ 32) line_short (body p) (body_brief z p kept)), line_short last trailer_brief)

pub written_book : WrittenBook
written_book z p s r a q =
    let kept = kept_from_rules z p s r a q in
    record { cover = []; ended = inl refl; whole = refl; short = written_short z p kept; shaped = s; rules = r; activities = a; pairs = q }
