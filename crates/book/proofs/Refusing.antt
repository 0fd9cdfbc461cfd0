-- A book is refused exactly where the format says, and what is read is written back. Assumes nothing.
use Rattle.std.proofs.Common.{◌≡◌, ℕ, suc, ◌+◌, ◌<◌, ◌≤◌, Bool, true, false, cond, ◌&&◌, eqb, leb, ◌⊎◌, List, [], ◌∷◌, ◌++◌, map, length, get_or, take, Some, None, Ok, Err, Option, Result, sym, refl, ap, ◌∙◌, subst, inl, inr, ⊎_elim, arith}
use Rattle.std.specs.List.{flat_map, AllByRecursion}
use Rattle.std.proofs.ByRecursion.{All-push, All-take}
use Rattle.std.proofs.lemmas.List.{append_assoc, append-nil, length-append, length-map, take-map, take_at, take-append-le, get_or_at, get_or_append_left, get_or_push, flat_map_more, map_push, nil_from_length}
use Rattle.std.proofs.lemmas.Bool.{cond-false, cases_lt, cases_order, and_cases, and_left, and_right, eqb-false, ne_eqb, leb-false, lt-leb}
use Rattle.project.specs.Project.{Project}
use Rattle.project.specs.Refusals.{Refused, refused}
use Rattle.book.specs.Accepted.{Sayable, Says, Framed, Fault, Faultless, FirstFault, Unread, activities_in, Sizes}
use Rattle.book.specs.Lines.{Content, content_of, words, spelled, formed, with_lf}
use Rattle.book.specs.Reading.{Sofar, Trailed, on, judged, resources_of, read_lines, trailer, closed, read_after, reading, body_lines}
use Rattle.book.specs.Written.{body, written}
use Rattle.book.proofs.Theorems.{Refuses, WritesBack}
use Rattle.book.proofs.Acceptance.{book_framed, accepts}
use Rattle.book.proofs.Bodies.{kept_from_rules, err_ok}
use Rattle.book.proofs.Faulting.{Built, Verdict, verdict, activities_are, differs}
use Rattle.book.proofs.Frames.{found, trailer_framed, framed_trailer, framed_reading}
use Rattle.book.proofs.Spelling.{content_spelled, none_some}

-- Lines say one thing each.

same_content : (x y : Content) → Sayable x → Sayable y → spelled x ≡ spelled y → x ≡ y
same_content x y s t e =
    let o = sym (content_spelled x s) ∙ ap (λ l. content_of (words l)) e ∙ content_spelled y t in
    cc

same_contents : (xs ys : List Content) → AllByRecursion Sayable xs → AllByRecursion Sayable ys → map spelled xs ≡ map spelled ys → xs ≡ ys
same_contents [] [] s t e = refl
same_contents [] (y ∷ ys) s t e = absurd (differs (cc))
same_contents (x ∷ xs) [] s t e = absurd (differs (cc))
same_contents (x ∷ xs) (y ∷ ys) s t e =
    let h : spelled x ≡ spelled y = cc in
    let g : map spelled xs ≡ map spelled ys = cc in
    let a = same_content x y s.0 t.0 h in
    let b = same_contents xs ys s.1 t.1 g in
    λ i. a i ∷ b i

-- Two cuts of one list.

cut_inside : {X : Type 0} (a b : List X) (x y : X) (r s : List X) → a ++ x ∷ r ≡ b ++ y ∷ s → length a < length b → (t : List X) × (b ≡ a ++ x ∷ t)
cut_inside [] [] x y r s e l = absurd (omega arith)
cut_inside [] (d ∷ b) x y r s e l = (b, cc)
cut_inside (c ∷ a) [] x y r s e l = absurd (omega arith)
cut_inside (c ∷ a) (d ∷ b) x y r s e l = let h = cut_inside a b x y r s (cc) (omega arith) in let g = h.1 in (h.0, cc)

cut_same : {X : Type 0} (a b : List X) (x y : X) (r s : List X) → a ++ x ∷ r ≡ b ++ y ∷ s → length a ≡ length b → (a ≡ b) × (x ≡ y)
cut_same [] [] x y r s e l = (refl, cc)
cut_same [] (d ∷ b) x y r s e l = absurd (omega arith)
cut_same (c ∷ a) [] x y r s e l = absurd (omega arith)
cut_same (c ∷ a) (d ∷ b) x y r s e l = let h = cut_same a b x y r s (cc) (omega arith) in let g = h.0 in (cc, h.1)

-- The first fault is the only one.

module _ (z : Sizes) where
  -- lines without a fault have none inside
  none_inside : (ls : List (List ℕ)) (xs : List Content) → Faultless z ls xs → (before : List (List ℕ)) (bad : List ℕ) (rest : List (List ℕ)) → ls ≡ before ++ bad ∷ rest → (contents : List Content) → Faultless z before contents → (n : ℕ) → Fault z contents bad n → ⊥
  none_inside ls xs f before bad rest split contents g n fault =
      let i = length before in
      let front : take i xs ≡ contents = same_contents (take i xs) contents (All-take Sayable i xs f.sayable) g.sayable (sym (take-map spelled i xs) ∙ ap (take i) (sym f.spelled ∙ split) ∙ take_at before (bad ∷ rest) i refl ∙ g.spelled) in
      let here : get_or ls i [] ≡ bad = ap (λ r. get_or r i []) split ∙ get_or_at before bad rest [] i refl in
      f.clean i (omega (arith, simp length-append at (ap length split))) n
      (subst (λ l. Fault z (take i xs) l n) (sym here) (subst (λ c. Fault z c bad n) (sym front) fault))

  module _ (ls : List (List ℕ)) (from n at m to : ℕ) where
    not_earlier : (f : FirstFault z ls from n at) (g : FirstFault z ls from m to) → length f.before < length g.before → ⊥
    not_earlier f g l =
        let cut = cut_inside f.before g.before f.bad g.bad f.rest g.rest (sym f.split ∙ g.split) l in
        none_inside g.before g.contents g.faultless f.before f.bad cut.0 cut.1 f.contents f.faultless n f.fault

    not_lower : (f : FirstFault z ls from n at) (g : FirstFault z ls from m to) → f.contents ≡ g.contents → f.bad ≡ g.bad → n < m → ⊥
    not_lower f g c b l = g.lowest n l (subst (λ r. Fault z r g.bad n) c (subst (λ r. Fault z f.contents r n) b f.fault))

  same_fault : (ls : List (List ℕ)) (from n at m to : ℕ) → FirstFault z ls from n at → FirstFault z ls from m to → (n ≡ m) × (at ≡ to)
  same_fault ls from n at m to f g = elim (cases_order (length f.before) (length g.before)) [
    | inl l ↦
        let cut = cut_same f.before g.before f.bad g.bad f.rest g.rest (sym f.split ∙ g.split) l in
        let same = same_contents f.contents g.contents f.faultless.sayable g.faultless.sayable (sym f.faultless.spelled ∙ cut.0 ∙ g.faultless.spelled) in (
          elim (cases_order n m) [
            | inl e ↦ e
            | inr (inl l) ↦ absurd (not_lower ls from n at m to f g same cut.1 l)
            | inr (inr l) ↦ absurd (not_lower ls from m to n at g f (sym same) (sym cut.1) l)
          ],
          f.place ∙ ap (λ b. from + length (flat_map with_lf b)) cut.0 ∙ sym g.place,
        )
    | inr (inl l) ↦ absurd (not_earlier ls from n at m to f g l)
    | inr (inr l) ↦ absurd (not_earlier ls from m to n at g f l)
  ]

  -- Reading the lines.

  faultless_none : Faultless z [] []
  faultless_none = record { sayable = tt; spelled = refl; clean = λ i l. absurd (omega arith) }

  faultless_more : (done : List (List ℕ)) (before : List Content) (l : List ℕ) (x : Content) → Faultless z done before → Says before l x → ((n : ℕ) → Fault z before l n → ⊥) → Faultless z (done ++ l ∷ []) (before ++ x ∷ [])
  faultless_more done before l x f says clean =
      let long : length done ≡ length before = ap length f.spelled ∙ length-map before spelled in
      record {
        sayable = All-push Sayable before x f.sayable says.sayable;
        spelled =
            ap (λ r. r ++ l ∷ []) f.spelled
            ∙ ap (λ r. map spelled before ++ r ∷ []) says.spelled
            ∙ sym (map_push spelled before x);
        clean = λ i g n fault. ⊎_elim
            (λ (h : i < length done). f.clean i h n (subst (λ r. Fault z r (get_or done i []) n) (take-append-le i before (x ∷ []) (omega arith)) (subst (λ r. Fault z (take i (before ++ x ∷ [])) r n) (get_or_append_left done (l ∷ []) [] i h) fault)))
            (λ (h : length done ≤ i).
            let last : length done ≡ i = omega (arith, length-append done (l ∷ [])) in
            clean n (subst (λ r. Fault z r l n) (take_at before (x ∷ []) i (sym long ∙ last)) (subst (λ r. Fault z (take i (before ++ x ∷ [])) r n) (get_or_push done l [] i last) fault)))
            (cases_lt i (length done));
      }

  -- the lines are refused at their first fault, or have none and the project has what they say
  abbrev Outcome : ℕ → List (List ℕ) → Result Sofar Refused → Type 0
  Outcome from ls (Err e) = (n : ℕ) × (at : ℕ) × (e ≡ refused n at) × FirstFault z ls from n at
  Outcome from ls (Ok s) = (xs : List Content) × Faultless z ls xs × Built z xs s

  -- that of ls after the lines `done`
  abbrev After : List (List ℕ) → Type 0
  After ls =
      (done : List (List ℕ)) (before : List Content) (s : Sofar) (from at : ℕ) → Faultless z done before → Built z before s → at ≡ from + length (flat_map with_lf done) → Outcome from (done ++ ls) (read_lines z s at ls)

  outcome_after : (ls : List (List ℕ)) → After ls
  outcome_after [] done before s from at f b e = (before, rw (append-nil done) f, b)
  outcome_after (l ∷ ls) done before s from at f b e =
      step (judged z s (formed (resources_of s) l)) (verdict z before s b l) (outcome_after ls)
    where
      step : (r : Result Project ℕ) → Verdict z before l r → After ls → Outcome from (done ++ l ∷ ls) (on r (λ n. Err (refused n at)) (λ p. read_lines z (Some p) (at + suc (length l)) ls))
      step (Err n) v next = (
        n,
        at,
        refl,
        record {
          before = done;
          bad = l;
          rest = ls;
          split = refl;
          contents = before;
          faultless = f;
          fault = v.0;
          lowest = v.1;
          place = e;
        },
      )
      step (Ok p) v next =
          subst (λ r. Outcome from r (read_lines z (Some p) (at + suc (length l)) ls)) (append_assoc done (l ∷ []) ls)
          (next (done ++ l ∷ []) (before ++ v.0 ∷ []) (Some p) from (at + suc (length l)) (faultless_more done before l v.0 f v.1 v.2) v.3
          (omega (arith, simp length-append at (ap length (flat_map_more with_lf [] done l)))))

  outcome : (from : ℕ) (ls : List (List ℕ)) → Outcome from ls (read_lines z None from ls)
  outcome from ls = outcome_after ls [] [] None from from faultless_none refl (omega arith)

-- The whole book.

same_refused : {A : Type 0} (n at m to : ℕ) → ◌≡◌ {A = Result A Refused} (Err (refused n at)) (Err (refused m to)) → (n ≡ m) × (at ≡ to)
same_refused n at m to e =
    let r : refused n at ≡ refused m to = cc in
    let places = ap (λ r. r.values) r in
    (ap (λ r. r.number) r, cc)

module _ (z : Sizes) (bs : List ℕ) where
  module _ (cover : List ℕ) (ls : List (List ℕ)) (count : ℕ) (f : Framed bs cover ls count) (n at : ℕ) where
    -- the lines have no fault, and yet the book has one
    uncounted : (xs : List Content) → Faultless z ls xs → (count ≡ length ls → ⊥) ⊎ (activities_in xs ≡ 0) → ◌≡◌ {A = Result Project Refused} (Err (refused 7 (found cover ls count).place)) (Err (refused n at)) → Unread z bs n at
    uncounted xs h bad e =
        let same = same_refused 7 (found cover ls count).place n at e in
        Unread.miscounted cover ls count f xs h bad (sym same.0) (sym same.1)

    refused_so : (r : Result Sofar Refused) → Outcome z (length cover) ls r → closed (found cover ls count) (length ls) r ≡ Err (refused n at) → Unread z bs n at
    refused_so (Err e) (m, to, e-is, fault) h =
        let same = same_refused {A = Project} m to n at (ap Err (sym e-is) ∙ h) in
        Unread.faulty cover ls count f (subst (λ k. FirstFault z ls (length cover) k at) same.0 (subst (FirstFault z ls (length cover) m) same.1 fault))
    refused_so (Ok None) (xs, h, b) e = uncounted xs h (inr (ap activities_in b)) e
    refused_so (Ok (Some p)) (xs, h, b) e = by_test (eqb count (length ls) && leb 1 (length p.activities)) refl e
      where
        by_test : (t : Bool) → (eqb count (length ls) && leb 1 (length p.activities)) ≡ t → cond t (Ok p) (Err (refused 7 (found cover ls count).place)) ≡ Err (refused n at) → Unread z bs n at
        by_test true t e = absurd (err_ok (sym e))
        by_test false t e =
            uncounted xs h
            (⊎_elim
            (λ g. inl (eqb-false count (length ls) g))
            (λ g. inr (omega (arith, activities_are z xs p b, leb-false 1 (length p.activities) g)))
            (and_cases (eqb count (length ls)) (leb 1 (length p.activities)) t))
            e

    at_fault : FirstFault z ls (length cover) n at → (r : Result Sofar Refused) → Outcome z (length cover) ls r → closed (found cover ls count) (length ls) r ≡ Err (refused n at)
    at_fault g (Err e) (m, to, e-is, fault) =
        let same = same_fault z ls (length cover) m to n at fault g in
        ap Err (e-is ∙ (λ i. refused (same.0 i) (same.1 i)))
    at_fault g (Ok s) (xs, h, b) =
        absurd (none_inside z ls xs h g.before g.bad g.rest g.split g.contents g.faultless n g.fault)

    at_count : (xs : List Content) → Faultless z ls xs → (count ≡ length ls → ⊥) ⊎ (activities_in xs ≡ 0) → (r : Result Sofar Refused) → Outcome z (length cover) ls r → closed (found cover ls count) (length ls) r ≡ Err (refused 7 (found cover ls count).place)
    at_count xs h bad (Err e) (m, to, e-is, g) =
        absurd (none_inside z ls xs h g.before g.bad g.rest g.split g.contents g.faultless m g.fault)
    at_count xs h bad (Ok None) (ys, g, b) = refl
    at_count xs h bad (Ok (Some p)) (ys, g, b) =
        let same : xs ≡ ys = same_contents xs ys h.sayable g.sayable (sym h.spelled ∙ g.spelled) in
        let counted = eqb count (length ls) in
        let some = leb 1 (length p.activities) in
        cond-false (counted && some) _ _ (⊎_elim
        (λ k. and_left counted some (ne_eqb count (length ls) k))
        (λ k. and_right counted some (lt-leb 1 (length p.activities) (omega (arith, activities_are z ys p b, ap activities_in same))))
        bad)

  unread : (n at : ℕ) (o : Option Trailed) → trailer bs ≡ o → reading z bs ≡ Err (refused n at) → Unread z bs n at
  unread n at None is e =
      let same = same_refused {A = Project} 1 0 n at (sym (ap (read_after z bs) is) ∙ e) in
      Unread.unframed (sym same.0) (sym same.1) (λ cover ls count f. none_some (sym is ∙ (framed_trailer bs cover ls count f).0))
  unread n at (Some t) is e =
      let f = (trailer_framed bs t is).0 in
      let cover = take t.start bs in
      let ls = body_lines bs t in
      refused_so cover ls t.count f n at (read_lines z None (length cover) ls) (outcome z (length cover) ls) (sym (framed_reading bs cover ls t.count f z) ∙ e)

  refuse : (n at : ℕ) → Unread z bs n at → reading z bs ≡ Err (refused n at)
  refuse n at (Unread.unframed e g h) = by_trailer (trailer bs) refl
    where
      by_trailer : (o : Option Trailed) → trailer bs ≡ o → reading z bs ≡ Err (refused n at)
      by_trailer None is = ap (read_after z bs) is ∙ (λ i. Err (refused (sym e i) (sym g i)))
      by_trailer (Some t) is = absurd (h (take t.start bs) (body_lines bs t) t.count (trailer_framed bs t is).0)
  refuse n at (Unread.faulty cover ls count f g) =
      framed_reading bs cover ls count f z ∙ at_fault cover ls count f n at g (read_lines z None (length cover) ls) (outcome z (length cover) ls)
  refuse n at (Unread.miscounted cover ls count f xs h bad e g) =
      framed_reading bs cover ls count f z
      ∙ at_count cover ls count f n at xs h bad (read_lines z None (length cover) ls) (outcome z (length cover) ls)
      ∙ (λ i. Err (refused (sym e i) (sym g i)))

pub refuses : Refuses
refuses z bs n at = (unread z bs n at (trailer bs) refl, refuse z bs n at)

-- a book without a cover is written as it was read: no other cover frames it
pub writes_back : WritesBack
writes_back z bs p ls count e f =
    let b = (accepts z bs p).0 e in
    let kept = kept_from_rules z p b.shaped b.rules b.activities b.pairs in
    let g = book_framed z bs b.cover p kept b.ended b.whole b.short in
    let same : found [] ls count ≡ found b.cover (map spelled (body p)) (length (body p)) =
    let t = sym (framed_trailer bs [] ls count f).0 ∙ (framed_trailer bs b.cover (map spelled (body p)) (length (body p)) g).0 in cc in
    let none = nil_from_length b.cover (sym (ap (λ t. t.start) same)) in
    sym (b.whole ∙ ap (λ c. c ++ written (length c) p) none)
