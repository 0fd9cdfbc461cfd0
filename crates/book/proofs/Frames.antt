-- How a book is cut: bytes into lines and back, and the trailer. Assumes nothing.
use Rattle.std.proofs.Common.{◌≡◌, ℕ, zero, suc, ◌+◌, ◌-◌, ◌^◌, ◌<◌, ◌≤◌, Bool, true, false, cond, ◌&&◌, eqb, leb, ◌⊎◌, List, [], ◌∷◌, ◌++◌, reverse, length, get_or, take, drop, Some, None, Option, sym, refl, ap, ◌∙◌, subst, inl, inr, arith}
use Rattle.std.specs.List.{between, flat_map, suffix_len, prefix_len, AllByRecursion}
use Rattle.std.proofs.ByRecursion.{All-push}
use Rattle.std.proofs.lemmas.List.{append_assoc, append-nil, length-append, reverse-append, length-reverse, take_at, drop_at, get_or_at, take_more, take-append-le, length-take-le, take_all, get_or_past, length-drop, take-append-drop}
use Rattle.std.proofs.lemmas.Slice.{between_is}
use Rattle.std.proofs.lemmas.Bool.{cond-false, cases_Bool, cases_lt, cases_eq, and_parts, or_cases, or_right, eqb-true, eq-eqb, ne_eqb, leb-true, le-leb}
use Rattle.book.specs.declared.lines.LineKind.{LineKind}
use Rattle.book.specs.declared.lines.LineKind.TheVariants.{Capacities, Job, Pairing, Trailer}
use Rattle.book.specs.Accepted.{Ended, Framed, Sayable, Sizes}
use Rattle.book.specs.Lines.{most_bytes, lf, Content, onto, lines, spelled, formed, letter, spaced, fewest, most, most_digits, with_lf}
use Rattle.book.specs.Reading.{Trailed, read_lines, closed, read_after, reading, trailer, body_lines, not_lf, last_line, but_last, ends_in_lf, starts_line, pointed, trailed, trailed_by}
use Rattle.book.specs.Written.{trailer_line}
use Rattle.book.proofs.Spelling.{none_some, formed_says, says_formed, spelled_no_lf}

-- no byte of it is LF
abbrev pub Free : List ℕ → Type 0
Free l = AllByRecursion (λ b. b ≡ lf → ⊥) l

-- Lines.

pub first_line : (l rest : List ℕ) → Free l → lines (l ++ lf ∷ rest) ≡ l ∷ lines rest
first_line [] rest h = refl
first_line (b ∷ l) rest h = rw (ne_eqb b lf h.0, first_line l rest h.1)

-- lines without LF, each with its LF, are cut as they were
pub lines_joined : (ls : List (List ℕ)) → AllByRecursion Free ls → lines (flat_map with_lf ls) ≡ ls
lines_joined [] h = refl
lines_joined (l ∷ ls) h =
    ap lines (append_assoc l (lf ∷ []) (flat_map with_lf ls)) ∙ first_line l (flat_map with_lf ls) h.0 ∙ ap (λ r. l ∷ r) (lines_joined ls h.1)

onto_free : (b : ℕ) (ls : List (List ℕ)) → (b ≡ lf → ⊥) → AllByRecursion Free ls → AllByRecursion Free (onto b ls)
onto_free b [] h k = ((h, tt), tt)
onto_free b (l ∷ ls) h k = ((h, k.0), k.1)

pub lines_no_lf : (bs : List ℕ) → AllByRecursion Free (lines bs)
lines_no_lf [] = tt
lines_no_lf (b ∷ bs) = step (cases_eq b lf) (lines_no_lf bs)
  where
    step : (b ≡ lf) ⊎ (b ≡ lf → ⊥) → AllByRecursion Free (lines bs) → AllByRecursion Free (lines (b ∷ bs))
    step (inl e) h = rw e (tt, h)
    step (inr e) h = rw (ne_eqb b lf e) (onto_free b (lines bs) e h)

joined_onto : (b c : ℕ) (bs : List ℕ) → flat_map with_lf (onto b (lines (c ∷ bs))) ≡ b ∷ flat_map with_lf (lines (c ∷ bs))
joined_onto b c bs = step (eqb c lf) (lines bs)
  where
    step : (t : Bool) (ls : List (List ℕ)) → flat_map with_lf (onto b (cond t ([] ∷ ls) (onto c ls))) ≡ b ∷ flat_map with_lf (cond t ([] ∷ ls) (onto c ls))
    step true ls = refl
    step false [] = refl
    step false (l ∷ ls) = refl

-- what ends still ends after its first byte, and that byte is LF where it is the last
ended_rest : (b c : ℕ) (bs : List ℕ) → Ended (b ∷ c ∷ bs) → Ended (c ∷ bs)
ended_rest b c bs (inl e) = let z : ◌≡◌ {A = ℕ} 0 1 = cc in absurd (omega arith)
ended_rest b c bs (inr ([], e)) = let z : ◌≡◌ {A = ℕ} 0 1 = cc in absurd (omega arith)
ended_rest b c bs (inr (a ∷ front, e)) = inr (front, cc)

ended_one : (b : ℕ) → Ended (b ∷ []) → b ≡ lf
ended_one b (inl e) = cc
ended_one b (inr ([], e)) = cc
ended_one b (inr (a ∷ [], e)) = cc
ended_one b (inr (a ∷ c ∷ front, e)) = cc

-- bytes that end in LF are their lines, each with its LF
pub joined_lines : (bs : List ℕ) → Ended bs → flat_map with_lf (lines bs) ≡ bs
joined_lines [] h = refl
joined_lines (b ∷ []) h = rw (ended_one b h)
joined_lines (b ∷ c ∷ bs) h = step (cases_eq b lf) (joined_lines (c ∷ bs) (ended_rest b c bs h))
  where
    step : (b ≡ lf) ⊎ (b ≡ lf → ⊥) → flat_map with_lf (lines (c ∷ bs)) ≡ c ∷ bs → flat_map with_lf (lines (b ∷ c ∷ bs)) ≡ b ∷ c ∷ bs
    step (inl e) h = rw e (ap (λ r. lf ∷ r) h)
    step (inr e) h = rw (ne_eqb b lf e) (joined_onto b c bs ∙ ap (λ r. b ∷ r) h)

-- The last line.

leading_all : (xs ys : List ℕ) → Free xs → prefix_len not_lf (xs ++ ys) ≡ length xs + prefix_len not_lf ys
leading_all [] ys h = omega arith
leading_all (x ∷ xs) ys h = rw (ne_eqb x lf h.0) (omega (arith, leading_all xs ys h.1))

free_reverse : (xs : List ℕ) → Free xs → Free (reverse xs)
free_reverse [] h = tt
free_reverse (x ∷ xs) h = rw (reverse-append (x ∷ []) xs) (All-push (λ b. b ≡ lf → ⊥) (reverse xs) x (free_reverse xs h.1) h.0)

leading_ended : (front : List ℕ) → Ended front → prefix_len not_lf (reverse front) ≡ 0
leading_ended front (inl e) = rw e
leading_ended front (inr (f, e)) = rw (e, reverse-append f (lf ∷ []))

ending_is : (front z : List ℕ) → Ended front → Free z → suffix_len not_lf (front ++ z) ≡ length z
ending_is front z e h =
    rw (reverse-append front z, leading_all (reverse z) (reverse front) (free_reverse z h), leading_ended front e, length-reverse z) (omega arith)

-- bytes up to a last LF, and those after it
pub record Cut (bs : List ℕ) : Type 0 where
  pub front : List ℕ
  pub rest : List ℕ
  pub whole : bs ≡ front ++ rest
  pub ended : Ended front
  pub free : Free rest

cut_more : (b : ℕ) (bs front rest : List ℕ) → bs ≡ front ++ rest → Ended front → Free rest → (b ≡ lf) ⊎ (b ≡ lf → ⊥) → Cut (b ∷ bs)
cut_more b bs [] rest e h k (inl is) = record { front = b ∷ []; rest = rest; whole = cc; ended = inr ([], cc); free = k }
cut_more b bs [] rest e h k (inr is) = record { front = []; rest = b ∷ rest; whole = cc; ended = inl refl; free = (is, k) }
cut_more b bs (a ∷ front) rest e (inl n) k is = let z : ◌≡◌ {A = ℕ} 0 1 = cc in absurd (omega arith)
cut_more b bs (a ∷ front) rest e (inr (f, n)) k is =
    record { front = b ∷ a ∷ front; rest = rest; whole = cc; ended = inr (b ∷ f, cc); free = k }

cut : (bs : List ℕ) → Cut bs
cut [] = record { front = []; rest = []; whole = refl; ended = inl refl; free = tt }
cut (b ∷ bs) =
    let c = cut bs in
    cut_more b bs c.front c.rest c.whole c.ended c.free (cases_eq b lf)

-- bytes that end in the line z
module _ (bs front z : List ℕ) (whole : bs ≡ front ++ (z ++ lf ∷ [])) (ended : Ended front) (free : Free z) where
  one_more : length bs ≡ suc (length front + length z)
  one_more = omega (arith, simp length-append at (ap length whole))

  but_last_is : but_last bs ≡ front ++ z
  but_last_is =
      subst (λ r. take (length bs - 1) r ≡ front ++ z) (append_assoc front z (lf ∷ []) ∙ sym whole)
      (take_at (front ++ z) (lf ∷ []) (length bs - 1) (rw (length-append front z) (omega (arith, one_more))))

  last_line_is : last_line bs ≡ length front
  last_line_is =
      ap (λ r. length r - suffix_len not_lf r) but_last_is
      ∙ rw (length-append front z, ending_is front z ended free) (omega arith)

  last_text : drop (last_line bs) (but_last bs) ≡ z
  last_text = rw (last_line_is, but_last_is) (drop_at front z (length front) refl)

  ends_so : ends_in_lf bs ≡ true
  ends_so =
      ap (λ b. eqb b lf)
      (ap (λ r. get_or r (length bs - 1) 0) (whole ∙ sym (append_assoc front z (lf ∷ [])))
      ∙ get_or_at (front ++ z) lf [] 0 (length bs - 1) (rw (length-append front z) (omega (arith, one_more))))

  trailer_is : length bs ≤ most_bytes → trailer bs ≡ trailed_by bs (length front) (formed 0 z)
  trailer_is short = rw (le-leb (length bs) most_bytes short, ends_so, last_text, last_line_is)

-- Ends.

ended_append : (a b : List ℕ) → Ended a → Ended b → Ended (a ++ b)
ended_append a b h (inl e) = rw (e, append-nil a) h
ended_append a b h (inr (f, e)) = inr (a ++ f, rw e (sym (append_assoc a f (lf ∷ []))))

ended_joined : (ls : List (List ℕ)) → Ended (flat_map with_lf ls)
ended_joined [] = inl refl
ended_joined (l ∷ ls) = ended_append (with_lf l) (flat_map with_lf ls) (inr (l, refl)) (ended_joined ls)

ended_tail : (b : ℕ) (bs : List ℕ) → Ended (b ∷ bs) → Ended bs
ended_tail b [] h = inl refl
ended_tail b (c ∷ bs) h = ended_rest b c bs h

ended_drop : (n : ℕ) (bs : List ℕ) → Ended bs → Ended (drop n bs)
ended_drop zero bs h = h
ended_drop (suc n) [] h = inl refl
ended_drop (suc n) (b ∷ bs) h = ended_drop n bs (ended_tail b bs h)

-- The trailer.

-- the trailer t of bs is right: it frames its body
abbrev pub Right : List ℕ → Trailed → Type 0
Right bs t =
    Framed bs (take t.start bs) (body_lines bs t) t.count × (length (take t.start bs) ≡ t.start)
    × (t.place ≡ t.start + length (flat_map with_lf (body_lines bs t)))

-- what the reader finds where the last line, at `place`, says x
record Pointing (bs : List ℕ) (place : ℕ) (x : Content) (t : Trailed) : Type 0 where
  kind : x.kind ≡ Trailer
  place_is : t.place ≡ place
  start_is : t.start ≡ get_or x.numbers 0 0
  count_is : t.count ≡ get_or x.numbers 1 0
  low : t.start ≤ place
  starts : starts_line bs t.start ≡ true

pointed_so : (bs : List ℕ) (place start count : ℕ) (t : Trailed) → pointed bs place start count ≡ Some t → (t ≡ record { place = place; start = start; count = count }) × (start ≤ place) × (starts_line bs start ≡ true)
pointed_so bs place start count t e = go (leb start place && starts_line bs start) refl e
  where
    go : (b : Bool) → (leb start place && starts_line bs start) ≡ b → cond b (Some (record { place = place; start = start; count = count })) None ≡ Some t → (t ≡ record { place = place; start = start; count = count }) × (start ≤ place) × (starts_line bs start ≡ true)
    go true h e = let both = and_parts (leb start place) _ h in (cc, leb-true start place both.0, both.1)
    go false h e = absurd (none_some e)

pointing : (bs : List ℕ) (place : ℕ) (x : Content) (t : Trailed) → trailed_by bs place (Some x) ≡ Some t → Pointing bs place x t
pointing bs place x t e = go x.kind refl e
  where
    go : (k : LineKind) → x.kind ≡ k → trailed bs place k x.numbers ≡ Some t → Pointing bs place x t
    go Capacities k e = absurd (none_some e)
    go Job k e = absurd (none_some e)
    go (Pairing q) k e = absurd (none_some e)
    go Trailer k e =
        let r = pointed_so bs place (get_or x.numbers 0 0) (get_or x.numbers 1 0) t e in
        let start_is = ap (λ t. t.start) r.0 in
        record {
          kind = k;
          place_is = ap (λ t. t.place) r.0;
          start_is = start_is;
          count_is = ap (λ t. t.count) r.0;
          low = rw start_is r.1;
          starts = rw start_is r.2;
        }

-- the numbers of a line that has two
pub two : (ns : List ℕ) → 2 ≤ length ns → length ns ≤ 2 → ns ≡ get_or ns 0 0 ∷ get_or ns 1 0 ∷ []
two [] h k = absurd (omega arith)
two (a ∷ []) h k = absurd (omega arith)
two (a ∷ b ∷ []) h k = refl
two (a ∷ b ∷ c ∷ ns) h k = absurd (omega arith)

-- before a place where a line starts the bytes end
ended_take : (bs : List ℕ) (n : ℕ) → n ≤ length bs → starts_line bs n ≡ true → Ended (take n bs)
ended_take bs n l h = step (cases_eq n 0)
  where
    step : (n ≡ 0) ⊎ (n ≡ 0 → ⊥) → Ended (take n bs)
    step (inl e) = rw e (inl refl)
    step (inr e) = elim (or_cases (eqb n 0) (eqb (get_or bs (n - 1) 0) lf) h) [
      | inl k ↦ absurd (e (eqb-true n 0 k))
      | inr k ↦ inr (take (n - 1) bs, ap (λ m. take m bs) (omega arith) ∙ take_more bs (n - 1) 0 (omega arith) ∙ ap (λ b. take (n - 1) bs ++ b ∷ []) (eqb-true (get_or bs (n - 1) 0) lf k))
    ]

-- the last line of bs is z, which says x
module _ (bs front z : List ℕ) (whole : bs ≡ front ++ (z ++ lf ∷ [])) (ended : Ended front) (short : length bs ≤ most_bytes) (x : Content) (says : formed 0 z ≡ Some x) (t : Trailed) (points : Pointing bs (length front) x t) where
  long : length front ≤ length bs
  long = omega (arith, simp length-append at (ap length whole))

  body_is : between t.start t.place bs ≡ drop t.start front
  body_is =
      between_is bs t.start t.place
      ∙ ap (drop t.start) (ap (λ n. take n bs) points.place_is ∙ ap (take (length front)) whole ∙ take_at front (z ++ lf ∷ []) (length front) refl)

  body_joined : flat_map with_lf (body_lines bs t) ≡ drop t.start front
  body_joined = ap (λ r. flat_map with_lf (lines r)) body_is ∙ joined_lines (drop t.start front) (ended_drop t.start front ended)

  cover_is : take t.start bs ≡ take t.start front
  cover_is = ap (take t.start) whole ∙ take-append-le t.start front (z ++ lf ∷ []) points.low

  cover_long : length (take t.start bs) ≡ t.start
  cover_long = length-take-le t.start bs (omega (arith, long, points.low))

  numbers_are : x.numbers ≡ t.start ∷ t.count ∷ []
  numbers_are =
      let s = formed_says 0 z x says in
      two x.numbers (subst (λ k. fewest 0 k ≤ length x.numbers) points.kind s.2) (subst (λ k. length x.numbers ≤ most 0 k) points.kind s.3)
      ∙ rw (points.start_is, points.count_is)

  text_is : z ≡ spelled (trailer_line (length (take t.start bs)) t.count)
  text_is =
      (formed_says 0 z x says).1
      ∙ ap (λ k. letter k ∷ flat_map spaced x.numbers) points.kind
      ∙ ap (λ ns. letter Trailer ∷ flat_map spaced ns) (numbers_are ∙ ap (λ n. n ∷ t.count ∷ []) (sym cover_long))

  framed_by : Right bs t
  framed_by = (
    record {
      whole =
          whole
          ∙ ap (λ r. r ++ (z ++ lf ∷ [])) (sym (take-append-drop t.start front))
          ∙ append_assoc (take t.start front) (drop t.start front) (z ++ lf ∷ [])
          ∙ ap (λ r. r ++ (drop t.start front ++ (z ++ lf ∷ []))) (sym cover_is)
          ∙ ap (λ r. take t.start bs ++ (r ++ (z ++ lf ∷ []))) (sym body_joined)
          ∙ ap (λ r. take t.start bs ++ (flat_map with_lf (body_lines bs t) ++ (r ++ lf ∷ []))) text_is;
      ended = ended_take bs t.start (omega (arith, long, points.low)) points.starts;
      lines = lines_no_lf (between t.start t.place bs);
      counted = (subst (AllByRecursion (λ n. n < 10 ^ most_digits)) numbers_are (formed_says 0 z x says).0.small).1.0;
      short = short;
    },
    cover_long,
    rw (body_joined, points.place_is, length-drop t.start front) (omega (arith, points.low)),
  )

-- bytes that end in LF, without it
without : (bs : List ℕ) → ends_in_lf bs ≡ true → bs ≡ take (length bs - 1) bs ++ lf ∷ []
without bs h =
    let last : get_or bs (length bs - 1) 0 ≡ lf = eqb-true (get_or bs (length bs - 1) 0) lf h in
    elim (cases_lt 0 (length bs)) [
      | inl l ↦ sym (take_all (length bs - 1 + 1) bs (omega arith)) ∙ take_more bs (length bs - 1) 0 (omega arith) ∙ ap (λ b. take (length bs - 1) bs ++ b ∷ []) last
      | inr l ↦ absurd (omega (arith, get_or_past bs (length bs - 1) 0 (omega arith)))
    ]

-- the trailer that the reader finds is right
pub trailer_framed : (bs : List ℕ) (t : Trailed) → trailer bs ≡ Some t → Right bs t
trailer_framed bs t e = step (cases_Bool (leb (length bs) most_bytes && ends_in_lf bs))
  where
    at_text : (front z : List ℕ) → bs ≡ front ++ (z ++ lf ∷ []) → Ended front → length bs ≤ most_bytes → (o : Option Content) → formed 0 z ≡ o → trailed_by bs (length front) o ≡ Some t → Right bs t
    at_text front z w h s None f k = absurd (none_some k)
    at_text front z w h s (Some x) f k = framed_by bs front z w h s x f t (pointing bs (length front) x t k)

    step : ((leb (length bs) most_bytes && ends_in_lf bs) ≡ true) ⊎ ((leb (length bs) most_bytes && ends_in_lf bs) ≡ false) → Right bs t
    step (inl h) =
        let both = and_parts (leb (length bs) most_bytes) (ends_in_lf bs) h in
        let short = leb-true (length bs) most_bytes both.0 in
        let c = cut (take (length bs - 1) bs) in
        let w : bs ≡ c.front ++ (c.rest ++ lf ∷ []) = without bs both.1 ∙ ap with_lf c.whole ∙ append_assoc c.front c.rest (lf ∷ []) in
        at_text c.front c.rest w c.ended short (formed 0 c.rest) refl (sym (trailer_is bs c.front c.rest w c.ended c.free short) ∙ e)
    step (inr h) = absurd (none_some (sym (cond-false (leb (length bs) most_bytes && ends_in_lf bs) _ None h) ∙ e))

-- the trailer that says where its body is
abbrev pub found : List ℕ → List (List ℕ) → ℕ → Trailed
found cover ls count = record { place = length cover + length (flat_map with_lf ls); start = length cover; count = count }

-- the reader finds a right trailer
module _ (bs cover : List ℕ) (ls : List (List ℕ)) (count : ℕ) (f : Framed bs cover ls count) where
  abbrev last : List ℕ
  last = spelled (trailer_line (length cover) count)

  starts : starts_line bs (length cover) ≡ true
  starts = step f.ended
    where
      step : Ended cover → starts_line bs (length cover) ≡ true
      step (inl e) = rw e
      step (inr (front, e)) =
          let rest = flat_map with_lf ls ++ with_lf last in
          or_right (eqb (length cover) 0) (eqb (get_or bs (length cover - 1) 0) lf)
          (eq-eqb (get_or bs (length cover - 1) 0) lf
          (ap (λ r. get_or r (length cover - 1) 0) (f.whole ∙ ap (λ c. c ++ rest) e ∙ append_assoc front (lf ∷ []) rest)
          ∙ get_or_at front lf rest 0 (length cover - 1) (omega (arith, simp length-append at (ap length e)))))

  found_lines : body_lines bs (found cover ls count) ≡ ls
  found_lines =
      let j = flat_map with_lf ls in
      ap lines
      (ap (λ n. take n (drop (length cover) bs)) (omega arith)
      ∙ ap (λ r. take (length j) (drop (length cover) r)) f.whole
      ∙ ap (take (length j)) (drop_at cover (j ++ with_lf last) (length cover) refl)
      ∙ take_at j (with_lf last) (length j) refl)
      ∙ lines_joined ls f.lines

  sayable : Sayable (trailer_line (length cover) count)
  sayable = record {
    lettered = λ e. let z : ◌≡◌ {A = ℕ} 0 1 = cc in omega arith;
    small = (omega (arith, f.short, simp length-append at (ap length f.whole)), (f.counted, tt));
  }

  found_trailer : trailer bs ≡ Some (found cover ls count)
  found_trailer =
      let j = flat_map with_lf ls in
      let long : length (cover ++ j) ≡ length cover + length j = length-append cover j in
      let whole : bs ≡ (cover ++ j) ++ with_lf last = f.whole ∙ sym (append_assoc cover j (with_lf last)) in
      let ended = ended_append cover j f.ended (ended_joined ls) in
      trailer_is bs (cover ++ j) last whole ended (spelled_no_lf (trailer_line (length cover) count) sayable) f.short
      ∙ ap (trailed_by bs (length (cover ++ j))) (says_formed 0 (trailer_line (length cover) count) sayable (omega arith) (omega arith))
      ∙ rw (long, le-leb (length cover) (length cover + length j) (omega arith), starts)

  pub framed_trailer : (trailer bs ≡ Some (found cover ls count)) × (body_lines bs (found cover ls count) ≡ ls)
  framed_trailer = (found_trailer, found_lines)

  -- so it reads the lines one by one, from their start
  pub framed_reading : (z : Sizes) → reading z bs ≡ closed (found cover ls count) (length ls) (read_lines z None (length cover) ls)
  framed_reading z =
      ap (read_after z bs) found_trailer
      ∙ ap (λ r. closed (found cover ls count) (length r) (read_lines z None (length cover) r)) found_lines
