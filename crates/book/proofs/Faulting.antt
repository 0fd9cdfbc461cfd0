-- What the reader tells of a line is the lowest of its faults. Assumes nothing.
use Rattle.std.proofs.Common.{◌≡◌, ℕ, suc, ◌+◌, ◌<◌, ◌≤◌, Bool, true, false, cond, not, ◌&&◌, eqb, ltb, leb, List, [], ◌∷◌, ◌++◌, map, length, get_or, take, drop, Some, None, Ok, Err, sum_by, count_by, Option, Result, sym, refl, ap, ◌∙◌, subst, ⊎_elim, arith}
use Rattle.std.specs.List.{ContainsAt as Has}
use Rattle.std.proofs.ByRecursion.{All-append, All-weaker, All-map, all-has, all_has_itself, has_append_right}
use Rattle.std.proofs.lemmas.List.{length-map, length-take-le, get_or-map, get_or_past, get_or-take}
use Rattle.std.proofs.lemmas.List.Sums.{sum_by-cons, sum_by-append}
use Rattle.std.proofs.lemmas.Bool.{cases_lt, both_ways, true≢false, false≢true, and_parts, and_cases, or_cases, or_parts, not-true, not-false, leb-false, ltb-true, ltb-false}
use Rattle.project.proofs.Numbers.{decides_activity}
use Rattle.project.proofs.Pairs.{decides_among, decides_proper}
use Rattle.project.specs.Project.{Project, most_activities, most_pairs, most_capacity, most_duration, capacity, is_blank, is_or, or_predecessors, within, among, proper, follows}
use Rattle.project.specs.declared.tables.Kind.{Kind}
use Rattle.project.specs.declared.tables.Kind.TheVariants.{Blank, And, Or, Bi}
use Rattle.project.specs.declared.tables.Pair.{Pair}
use Rattle.book.specs.declared.lines.LineKind.{LineKind}
use Rattle.book.specs.declared.lines.LineKind.TheVariants.{Capacities, Job, Pairing, Trailer}
use Rattle.book.specs.Accepted.{Says, Misplaced, Over, Unpaired, Crowded, Fault, capacities_in, activities_in, pairs_in, or_lines, second, is_job, is_pairing, is_or_line, Sizes}
use Rattle.book.specs.Lines.{Content, formed, fewest, most}
use Rattle.book.specs.Reading.{Sofar, resources_of, padded, activity_of, pair_of, extended, is_nil, in_order, at_most, limited, paired, roomy, judged}
use Rattle.book.specs.Written.{capacities_line, activity_line, pair_line, body}
use Rattle.book.proofs.Bodies.{Kept, Passed, first_grown, grown, nil_from_is_nil, decides_at_most, padded_front, padded_past}
use Rattle.book.proofs.Frames.{two}
use Rattle.book.proofs.Spelling.{formed_says, says_formed, none_some}

-- What the reader has of the project is what the lines so far say.
abbrev pub Built : Sizes → List Content → Sofar → Type 0
Built z before None = before ≡ []
Built z before (Some p) = Kept z p × (before ≡ body p)

-- Counts over lists.

count_false : {X : Type 0} (xs : List X) → count_by (λ x. false) xs ≡ 0
count_false [] = refl
count_false {X} (x ∷ xs) = omega (arith, sum_by-cons (λ (x : X). 0) x xs, count_false xs)

count_true : {X : Type 0} (xs : List X) → count_by (λ x. true) xs ≡ length xs
count_true [] = refl
count_true {X} (x ∷ xs) = omega (arith, sum_by-cons (λ (x : X). 1) x xs, count_true xs)

sum_over : {X Y : Type 0} (f : Y → ℕ) (g : X → Y) (xs : List X) → sum_by f (map g xs) ≡ sum_by (λ x. f (g x)) xs
sum_over f g [] = refl
sum_over f g (x ∷ xs) = omega (arith, sum_by-cons f (g x) (map g xs), sum_by-cons (λ x. f (g x)) x xs, sum_over f g xs)

count_body : (t : Content → Bool) (p : Project) → t (capacities_line p) ≡ false → count_by t (body p) ≡ count_by (λ a. t (activity_line p.resources a)) p.activities + count_by (λ q. t (pair_line q)) p.pairs
count_body t p e =
    let f : Content → ℕ = λ x. cond (t x) 1 0 in
    let jobs = map (activity_line p.resources) p.activities in
    let pairs = map pair_line p.pairs in
    sum_by-cons f (capacities_line p) (jobs ++ pairs)
    ∙ omega (arith, ap {B = ℕ} (λ b. cond b 1 0) e, sum_by-append f jobs pairs, sum_over f (activity_line p.resources) p.activities, sum_over f pair_line p.pairs)

-- a list holds what it was made of
has_map : {X Y : Type 0} (f : X → Y) (xs : List X) (x : X) → Has xs x → Has (map f xs) (f x)
has_map f xs x (k, l, at) = (k, simp length-map l, λ d. get_or-map f xs k x d l ∙ ap f (at x))

pub differs : ◌≡◌ {A = ℕ} 0 1 → ⊥
differs e = omega arith

same_pair_line : (q r : Pair) → pair_line q ≡ pair_line r → q ≡ r
same_pair_line q r e =
    let kinds = ap (λ x. x.kind) e in
    let numbers = ap (λ x. x.numbers) e in
    let k : q.kind ≡ r.kind = cc in
    let f : q.first ≡ r.first = cc in
    let s : q.second ≡ r.second = cc in
    λ i. record { kind = k i; first = f i; second = s i }

-- the lines of a project, by what they are counted for
module _ (z : Sizes) (before : List Content) (p : Project) (b : Built z before (Some p)) where
  capacities_are : (k : ℕ) → get_or (capacities_in before) k 0 ≡ capacity p k
  capacities_are k =
      ap (λ xs. get_or (capacities_in xs) k 0) b.1
      ∙ ⊎_elim
      (λ (l : k < p.resources). get_or-take p.resources p.capacities k 0 l)
      (λ (l : p.resources ≤ k). get_or_past (take p.resources p.capacities) k 0 (omega (arith, length-take-le p.resources p.capacities (omega (arith, b.0.head.long, b.0.head.few)))) ∙ sym (b.0.head.unused k l))
      (cases_lt k p.resources)

  resources_are : length (capacities_in before) ≡ p.resources
  resources_are =
      ap (λ xs. length (capacities_in xs)) b.1
      ∙ length-take-le p.resources p.capacities (omega (arith, b.0.head.long, b.0.head.few))

  some_before : before ≡ [] → ⊥
  some_before e = let z : ◌≡◌ {A = ℕ} 0 1 = cc b.1 in omega arith

  pub activities_are : activities_in before ≡ length p.activities
  activities_are =
      ap activities_in b.1
      ∙ count_body (λ x. is_job x.kind) p refl
      ∙ omega (arith, count_true p.activities, count_false p.pairs)

  pairs_are : pairs_in before ≡ length p.pairs
  pairs_are =
      ap pairs_in b.1
      ∙ count_body (λ x. is_pairing x.kind) p refl
      ∙ omega (arith, count_false p.activities, count_true p.pairs)

  or_are : (j : ℕ) → or_lines j before ≡ or_predecessors j p.pairs
  or_are j =
      ap (or_lines j) b.1
      ∙ count_body (λ x. is_or_line x.kind && eqb (second x) j) p refl
      ∙ omega (arith, count_false p.activities)

  has_line : (q : Pair) → Has p.pairs q → Has before (pair_line q)
  has_line q h =
      let front = capacities_line p ∷ map (activity_line p.resources) p.activities in
      subst (λ xs. Has xs (pair_line q)) (sym b.1) (has_append_right front (map pair_line p.pairs) (pair_line q) (has_map pair_line p.pairs q h))

  line_has : (q : Pair) → Has before (pair_line q) → Has p.pairs q
  line_has q h =
      let P : Content → Type 0 = λ x. x ≡ pair_line q → Has p.pairs q in
      all-has P (body p) (pair_line q) (
        (λ e. absurd (differs (cc (ap (λ x. x.kind) e)))),
        All-append P (map (activity_line p.resources) p.activities) (map pair_line p.pairs)
            (All-map P (activity_line p.resources) p.activities (All-weaker (Has p.activities) (λ a. P (activity_line p.resources a)) (λ a _ e. absurd (differs (cc (ap (λ x. x.kind) e)))) p.activities (all_has_itself p.activities)))
            (All-map P pair_line p.pairs (All-weaker (Has p.pairs) (λ r. P (pair_line r)) (λ r g e. subst (Has p.pairs) (same_pair_line r q e) g) p.pairs (all_has_itself p.pairs))),
      )
      (subst (λ xs. Has xs (pair_line q)) b.1 h)
      refl

-- the kinds of line that may stand there
pub data Placed : Sofar → LineKind → Type 0 where
  opening : Placed None Capacities
  job : (p : Project) → p.pairs ≡ [] → Placed (Some p) Job
  pairing : (p : Project) (k : Kind) → Placed (Some p) (Pairing k)

placed : (s : Sofar) (k : LineKind) → in_order s k ≡ true → Placed s k
placed None Capacities e = opening
placed None Job e = absurd (false≢true e)
placed None (Pairing k) e = absurd (false≢true e)
placed None Trailer e = absurd (false≢true e)
placed (Some p) Capacities e = absurd (false≢true e)
placed (Some p) Job e = job p (nil_from_is_nil p.pairs e)
placed (Some p) (Pairing k) e = pairing p k
placed (Some p) Trailer e = absurd (false≢true e)

-- Each test of a line with what it tells: where it fails the line has the fault, and where it holds it has none.

abbrev content : LineKind → List ℕ → Content
content k ns = record { kind = k; numbers = ns }

-- 3
misplaced : (z : Sizes) (before : List Content) (s : Sofar) (k : LineKind) (ns : List ℕ) → Built z before s → in_order s k ≡ false → Misplaced before (content k ns)
misplaced z before None Capacities ns b e = absurd (true≢false e)
misplaced z before None Job ns b e = Misplaced.first_other b (λ h. differs (cc))
misplaced z before None (Pairing k) ns b e = Misplaced.first_other b (λ h. differs (cc))
misplaced z before None Trailer ns b e = Misplaced.early_trailer refl
misplaced z before (Some p) Capacities ns b e = Misplaced.later_capacities (some_before z before p b) refl
misplaced z before (Some p) Job ns b e = Misplaced.late_job refl (some p.pairs e (pairs_are z before p b))
  where
    some : (qs : List Pair) → is_nil qs ≡ false → pairs_in before ≡ length qs → 0 < pairs_in before
    some [] f h = absurd (true≢false f)
    some (q ∷ qs) f h = omega arith
misplaced z before (Some p) (Pairing k) ns b e = absurd (true≢false e)
misplaced z before (Some p) Trailer ns b e = Misplaced.early_trailer refl

not_misplaced : (z : Sizes) (before : List Content) (s : Sofar) (k : LineKind) (ns : List ℕ) → Built z before s → Placed s k → Misplaced before (content k ns) → ⊥
not_misplaced z before s k ns b opening (Misplaced.first_other e f) = f refl
not_misplaced z before s k ns b opening (Misplaced.later_capacities f e) = f b
not_misplaced z before s k ns b opening (Misplaced.late_job e l) = differs (cc)
not_misplaced z before s k ns b opening (Misplaced.early_trailer e) = differs (cc)
not_misplaced z before s k ns b (job p n) (Misplaced.first_other e f) = some_before z before p b e
not_misplaced z before s k ns b (job p n) (Misplaced.later_capacities f e) = differs (cc)
not_misplaced z before s k ns b (job p n) (Misplaced.late_job e l) = omega (arith, pairs_are z before p b, ap length n)
not_misplaced z before s k ns b (job p n) (Misplaced.early_trailer e) = differs (cc)
not_misplaced z before s k ns b (pairing p j) (Misplaced.first_other e f) = some_before z before p b e
not_misplaced z before s k ns b (pairing p j) (Misplaced.later_capacities f e) = differs (cc)
not_misplaced z before s k ns b (pairing p j) (Misplaced.late_job e l) = differs (cc)
not_misplaced z before s k ns b (pairing p j) (Misplaced.early_trailer e) = differs (cc)

-- 4

past_limit : (limit : ℕ) (ns : List ℕ) → at_most limit ns ≡ false → (n : ℕ) × Has ns n × (limit < n)
past_limit limit [] e = absurd (true≢false e)
past_limit limit (n ∷ ns) e =
    ⊎_elim
    (λ f. (n, (0, omega arith, λ d. refl), leb-false n limit f))
    (λ f. let r = past_limit limit ns f in (r.0, has_append_right (n ∷ []) ns r.0 r.1, r.2))
    (and_cases (leb n limit) (at_most limit ns) e)

past_within : (xs ys : List ℕ) → within xs ys ≡ false → (k : ℕ) × (get_or ys k 0 < get_or xs k 0)
past_within [] ys e = absurd (true≢false e)
past_within (x ∷ xs) [] e =
    ⊎_elim
    (λ f. (0, leb-false x 0 f))
    (λ f. let r = past_within xs [] f in (suc r.0, r.1))
    (and_cases (leb x 0) (within xs []) e)
past_within (x ∷ xs) (y ∷ ys) e =
    ⊎_elim
    (λ f. (0, leb-false x y f))
    (λ f. let r = past_within xs ys f in (suc r.0, r.1))
    (and_cases (leb x y) (within xs ys) e)

-- the zeros past its end say what is read there
padded_reads : (ns : List ℕ) (k : ℕ) → get_or (padded ns) k 0 ≡ get_or ns k 0
padded_reads ns k =
    ⊎_elim (padded_front ns k) (λ (h : length ns ≤ k). padded_past ns k h ∙ sym (get_or_past ns k 0 h)) (cases_lt k (length ns))

demand_reads : (ns : List ℕ) (k : ℕ) → get_or (padded (drop 1 ns)) k 0 ≡ get_or ns (suc k) 0
demand_reads [] k = padded_reads [] k
demand_reads (n ∷ ns) k = padded_reads ns k

over : (z : Sizes) (before : List Content) (s : Sofar) (k : LineKind) (ns : List ℕ) → Built z before s → Placed s k → limited s k ns ≡ false → Over before (content k ns)
over z before s k ns b opening e = let r = past_limit most_capacity ns e in Over.capacity refl r.0 r.1 r.2
over z before s k ns b (job p n) e =
    ⊎_elim
    (λ f. Over.duration refl (leb-false (get_or ns 0 0) most_duration f))
    (λ f. let r = past_within (padded (drop 1 ns)) p.capacities f in Over.demand refl r.0 (omega (arith, r.1, demand_reads ns r.0, capacities_are z before p b r.0)))
    (and_cases (leb (get_or ns 0 0) most_duration) (within (padded (drop 1 ns)) p.capacities) e)
over z before s k ns b (pairing p j) e = absurd (true≢false e)

not_over : (z : Sizes) (before : List Content) (s : Sofar) (k : LineKind) (ns : List ℕ) → Built z before s → Placed s k → limited s k ns ≡ true → Over before (content k ns) → ⊥
not_over z before s k ns b opening e (Over.capacity f n h l) = omega (arith, all-has (λ n. n ≤ most_capacity) ns n ((decides_at_most most_capacity ns).0 e) h)
not_over z before s k ns b opening e (Over.duration f l) = differs (cc)
not_over z before s k ns b opening e (Over.demand f i l) = differs (cc)
not_over z before s k ns b (job p n) e (Over.capacity f m h l) = differs (cc)
not_over z before s k ns b (job p n) e (Over.duration f l) = omega (arith, ((decides_activity p.capacities (activity_of ns)).0 e).0)
not_over z before s k ns b (job p n) e (Over.demand f i l) =
    omega (arith, ((decides_activity p.capacities (activity_of ns)).0 e).1 i, demand_reads ns i, capacities_are z before p b i)
not_over z before s k ns b (pairing p j) e (Over.capacity f n h l) = differs (cc)
not_over z before s k ns b (pairing p j) e (Over.duration f l) = differs (cc)
not_over z before s k ns b (pairing p j) e (Over.demand f i l) = differs (cc)

-- 5

blank_is : (k : Kind) → is_blank k ≡ true → k ≡ Blank
blank_is Blank e = refl
blank_is And e = absurd (false≢true e)
blank_is Or e = absurd (false≢true e)
blank_is Bi e = absurd (false≢true e)

is_an_or : (k : Kind) → is_or k ≡ true → k ≡ Or
is_an_or Blank e = absurd (false≢true e)
is_an_or And e = absurd (false≢true e)
is_an_or Or e = refl
is_an_or Bi e = absurd (false≢true e)

-- as many numbers as a line of its kind has
abbrev Counted : Sofar → LineKind → List ℕ → Type 0
Counted s k ns = (fewest (resources_of s) k ≤ length ns) × (length ns ≤ most (resources_of s) k)

pair_says : (k : Kind) (ns : List ℕ) → 2 ≤ length ns → length ns ≤ 2 → pair_line (pair_of k ns) ≡ content (Pairing k) ns
pair_says k ns l h = ap (content (Pairing k)) (sym (two ns l h))

unpaired : (z : Sizes) (before : List Content) (s : Sofar) (k : LineKind) (ns : List ℕ) → Built z before s → (k ≡ Pairing Blank → ⊥) → Counted s k ns → Placed s k → paired s k ns ≡ false → Unpaired before (content k ns)
unpaired z before s k ns b l c opening e = absurd (true≢false e)
unpaired z before s k ns b l c (job p n) e = absurd (true≢false e)
unpaired z before s k ns b l c (pairing p j) e =
    let q = pair_of j ns in
    let n = length p.activities in
    let many = activities_are z before p b in
    ⊎_elim
    (λ e.
    ⊎_elim
    (λ e. absurd (l (ap Pairing (blank_is j (not-false (is_blank j) e)))))
    (λ e.
    ⊎_elim
    (λ e. Unpaired.no_first refl (λ h. omega (arith, leb-false 1 q.first e)))
    (λ e.
    ⊎_elim
    (λ e. Unpaired.falling refl (ltb-false q.first q.second e))
    (λ e. Unpaired.no_second refl (λ h. omega (arith, leb-false q.second n e)))
    (and_cases (ltb q.first q.second) (leb q.second n) e))
    (and_cases (leb 1 q.first) _ e))
    (and_cases (not (is_blank j)) _ e))
    (λ e.
    ⊎_elim
    (λ e. Unpaired.repeated refl (subst (Has before) (pair_says j ns c.0 c.1) (has_line z before p b q ((decides_among q p.pairs).0 (not-false (among q p.pairs) e)))))
    (λ e.
    let f = or_parts (not (is_or j)) _ e in
    Unpaired.ninth (ap Pairing (is_an_or j (not-false (is_or j) f.0))) (omega (arith, or_are z before p b q.second, ltb-false (or_predecessors q.second p.pairs) 8 f.1)))
    (and_cases (not (among q p.pairs)) _ e))
    (and_cases (proper n q) (follows p.pairs q) e)

not_unpaired : (z : Sizes) (before : List Content) (s : Sofar) (k : LineKind) (ns : List ℕ) → Built z before s → Counted s k ns → Placed s k → paired s k ns ≡ true → Unpaired before (content k ns) → ⊥
not_unpaired z before s k ns b c opening e u = elim u [
  | Unpaired.no_first f h ↦ false≢true f
  | Unpaired.no_second f h ↦ false≢true f
  | Unpaired.falling f h ↦ false≢true f
  | Unpaired.repeated f h ↦ false≢true f
  | Unpaired.ninth f h ↦ differs (cc)
]
not_unpaired z before s k ns b c (job p n) e u = elim u [
  | Unpaired.no_first f h ↦ false≢true f
  | Unpaired.no_second f h ↦ false≢true f
  | Unpaired.falling f h ↦ false≢true f
  | Unpaired.repeated f h ↦ false≢true f
  | Unpaired.ninth f h ↦ differs (cc)
]
not_unpaired z before s k ns b c (pairing p j) e u =
    let q = pair_of j ns in
    let many = activities_are z before p b in
    let both = and_parts (proper (length p.activities) q) (follows p.pairs q) e in
    let fit = (decides_proper (length p.activities) q).0 both.0 in
    let new = and_parts (not (among q p.pairs)) _ both.1 in
    elim u [
      | Unpaired.no_first f h ↦ h (fit.first, omega (arith, fit.rising, fit.second))
      | Unpaired.no_second f h ↦ h (omega (arith, fit.rising, fit.first), omega (arith, fit.second))
      | Unpaired.falling f h ↦ omega (arith, fit.rising)
      | Unpaired.repeated f h ↦ both_ways (among q p.pairs) (not-true _ new.0) ((decides_among q p.pairs).1 (line_has z before p b q (subst (Has before) (sym (pair_says j ns c.0 c.1)) h)))
      | Unpaired.ninth f h ↦
          let o : j ≡ Or = cc in
          ⊎_elim
          (λ g. both_ways (is_or j) (not-true (is_or j) g) (ap is_or o))
          (λ g. omega (arith, or_are z before p b q.second, ltb-true (or_predecessors q.second p.pairs) 8 g))
          (or_cases (not (is_or j)) _ new.1)
    ]

-- 6

crowded : (z : Sizes) (before : List Content) (s : Sofar) (k : LineKind) (ns : List ℕ) → Built z before s → Placed s k → roomy z s k ≡ false → Crowded z before (content k ns)
crowded z before s k ns b opening e = absurd (true≢false e)
crowded z before s k ns b (job p n) e =
    let many = activities_are z before p b in
    ⊎_elim
    (λ f. Crowded.activities refl (omega (arith, ltb-false (length p.activities) most_activities f)))
    (λ f. Crowded.activity_table refl (omega (arith, ltb-false (length p.activities) z.activities f)))
    (and_cases (ltb (length p.activities) most_activities) (ltb (length p.activities) z.activities) e)
crowded z before s k ns b (pairing p j) e =
    let many = pairs_are z before p b in
    ⊎_elim
    (λ f. Crowded.pairs refl (omega (arith, ltb-false (length p.pairs) most_pairs f)))
    (λ f. Crowded.pair_table refl (omega (arith, ltb-false (length p.pairs) z.pairs f)))
    (and_cases (ltb (length p.pairs) most_pairs) (ltb (length p.pairs) z.pairs) e)

not_crowded : (z : Sizes) (before : List Content) (s : Sofar) (k : LineKind) (ns : List ℕ) → Built z before s → Placed s k → roomy z s k ≡ true → Crowded z before (content k ns) → ⊥
not_crowded z before s k ns b opening e u = elim u [
  | Crowded.activities f h ↦ differs (cc)
  | Crowded.activity_table f h ↦ differs (cc)
  | Crowded.pairs f h ↦ false≢true f
  | Crowded.pair_table f h ↦ false≢true f
]
not_crowded z before s k ns b (job p n) e u =
    let many = activities_are z before p b in
    let both = and_parts (ltb (length p.activities) most_activities) (ltb (length p.activities) z.activities) e in
    elim u [
      | Crowded.activities f h ↦ omega (arith, ltb-true (length p.activities) most_activities both.0)
      | Crowded.activity_table f h ↦ omega (arith, ltb-true (length p.activities) z.activities both.1)
      | Crowded.pairs f h ↦ false≢true f
      | Crowded.pair_table f h ↦ false≢true f
    ]
not_crowded z before s k ns b (pairing p j) e u =
    let many = pairs_are z before p b in
    let both = and_parts (ltb (length p.pairs) most_pairs) (ltb (length p.pairs) z.pairs) e in
    elim u [
      | Crowded.activities f h ↦ differs (cc)
      | Crowded.activity_table f h ↦ differs (cc)
      | Crowded.pairs f h ↦ omega (arith, ltb-true (length p.pairs) most_pairs both.0)
      | Crowded.pair_table f h ↦ omega (arith, ltb-true (length p.pairs) z.pairs both.1)
    ]

-- a line that passes is one line more of the project
one_more : (z : Sizes) (before : List Content) (s : Sofar) (k : LineKind) (ns : List ℕ) → Built z before s → Counted s k ns → Passed z s k ns → Built z (before ++ content k ns ∷ []) (Some (extended s (content k ns)))
one_more z before None k ns b c t =
    let g = first_grown z k ns c.1 t in
    (g.0, ap (λ xs. xs ++ content k ns ∷ []) b ∙ sym g.1)
one_more z before (Some p) k ns b c t =
    let g = grown z p k ns b.0 c.0 c.1 t in
    (g.0, ap (λ xs. xs ++ content k ns ∷ []) b.1 ∙ sym g.1)

-- The verdict on a line.

fault_least : (z : Sizes) (before : List Content) (l : List ℕ) (n : ℕ) → Fault z before l n → 2 ≤ n
fault_least z before l n (Fault.formless e h) = omega arith
fault_least z before l n (Fault.misplaced e x h f) = omega arith
fault_least z before l n (Fault.over e x h f) = omega arith
fault_least z before l n (Fault.unpaired e x h f) = omega arith
fault_least z before l n (Fault.crowded e x h f) = omega arith

-- l is refused with the lowest of its faults, or has none and the project has what it says
abbrev pub Verdict : Sizes → List Content → List ℕ → Result Project ℕ → Type 0
Verdict z before l (Err n) = Fault z before l n × ((m : ℕ) → m < n → Fault z before l m → ⊥)
Verdict z before l (Ok p) =
    (x : Content) × Says before l x × ((n : ℕ) → Fault z before l n → ⊥) × Built z (before ++ x ∷ []) (Some p)

resources_so : (z : Sizes) (before : List Content) (s : Sofar) → Built z before s → length (capacities_in before) ≡ resources_of s
resources_so z before None b = ap (λ xs. length (capacities_in xs)) b
resources_so z before (Some p) b = resources_are z before p b

module _ (z : Sizes) (before : List Content) (s : Sofar) (b : Built z before s) (l : List ℕ) where
  -- the line says what its form has
  says_so : (x : Content) → Says before l x → formed (resources_of s) l ≡ Some x
  says_so x h =
      let k = resources_so z before s b in
      ap (formed (resources_of s)) h.spelled
      ∙ says_formed (resources_of s) x h.sayable (subst (λ n. fewest n x.kind ≤ length x.numbers) k h.enough) (subst (λ n. length x.numbers ≤ most n x.kind) k h.few)

  so_says : (x : Content) → formed (resources_of s) l ≡ Some x → Says before l x
  so_says x e =
      let k = sym (resources_so z before s b) in
      let f = formed_says (resources_of s) l x e in
      record {
        sayable = f.0;
        spelled = f.1;
        enough = subst (λ n. fewest n x.kind ≤ length x.numbers) k f.2;
        few = subst (λ n. length x.numbers ≤ most n x.kind) k f.3;
      }

  -- the faults of a line that says x
  module _ (x : Content) (says : formed (resources_of s) l ≡ Some x) where
    same_says : (y : Content) → Says before l y → y ≡ x
    same_says y h = let e = says_so y h in cc

    by_number : {X : Type 0} (n : ℕ) → Fault z before l n → (n ≡ 3 → Misplaced before x → X) → (n ≡ 4 → Over before x → X) → (n ≡ 5 → Unpaired before x → X) → (n ≡ 6 → Crowded z before x → X) → X
    by_number n (Fault.formless e h) f g i j = absurd (h x (so_says x says))
    by_number n (Fault.misplaced e y h k) f g i j = f e (subst (Misplaced before) (same_says y h) k)
    by_number n (Fault.over e y h k) f g i j = g e (subst (Over before) (same_says y h) k)
    by_number n (Fault.unpaired e y h k) f g i j = i e (subst (Unpaired before) (same_says y h) k)
    by_number n (Fault.crowded e y h k) f g i j = j e (subst (Crowded z before) (same_says y h) k)

    here : Says before l x
    here = so_says x says

    counts : Counted s x.kind x.numbers
    counts = let f = formed_says (resources_of s) l x says in (f.2, f.3)

    module _ (stands : in_order s x.kind ≡ true) where
      place : Placed s x.kind
      place = placed s x.kind stands

      placed_so : Misplaced before x → ⊥
      placed_so = not_misplaced z before s x.kind x.numbers b place

      limited_so : limited s x.kind x.numbers ≡ true → Over before x → ⊥
      limited_so = not_over z before s x.kind x.numbers b place

      paired_so : paired s x.kind x.numbers ≡ true → Unpaired before x → ⊥
      paired_so = not_unpaired z before s x.kind x.numbers b counts place

      roomy_so : roomy z s x.kind ≡ true → Crowded z before x → ⊥
      roomy_so = not_crowded z before s x.kind x.numbers b place

    verdict_on : (t u v w : Bool) → in_order s x.kind ≡ t → limited s x.kind x.numbers ≡ u → paired s x.kind x.numbers ≡ v → roomy z s x.kind ≡ w → Verdict z before l (cond (not t) (Err 3) (cond (not u) (Err 4) (cond (not v) (Err 5) (cond (not w) (Err 6) (Ok (extended s x))))))
    verdict_on false u v w t-is u-is v-is w-is = (
      Fault.misplaced refl x here (misplaced z before s x.kind x.numbers b t-is),
      λ m g f. by_number m f (λ e _. omega arith) (λ e _. omega arith) (λ e _. omega arith) (λ e _. omega arith),
    )
    verdict_on true false v w t-is u-is v-is w-is = (
      Fault.over refl x here (over z before s x.kind x.numbers b (place t-is) u-is),
      λ m g f. by_number m f (λ _. placed_so t-is) (λ e _. omega arith) (λ e _. omega arith) (λ e _. omega arith),
    )
    verdict_on true true false w t-is u-is v-is w-is = (
      Fault.unpaired refl x here (unpaired z before s x.kind x.numbers b here.sayable.lettered counts (place t-is) v-is),
      λ m g f. by_number m f (λ _. placed_so t-is) (λ _. limited_so t-is u-is) (λ e _. omega arith) (λ e _. omega arith),
    )
    verdict_on true true true false t-is u-is v-is w-is = (
      Fault.crowded refl x here (crowded z before s x.kind x.numbers b (place t-is) w-is),
      λ m g f. by_number m f (λ _. placed_so t-is) (λ _. limited_so t-is u-is) (λ _. paired_so t-is v-is) (λ e _. omega arith),
    )
    verdict_on true true true true t-is u-is v-is w-is = (
      x,
      here,
      λ m f. by_number m f (λ _. placed_so t-is) (λ _. limited_so t-is u-is) (λ _. paired_so t-is v-is) (λ _. roomy_so t-is w-is),
      one_more z before s x.kind x.numbers b counts (record { order = t-is; limits = u-is; pair = v-is; room = w-is }),
    )

  pub verdict : Verdict z before l (judged z s (formed (resources_of s) l))
  verdict = by_form (formed (resources_of s) l) refl
    where
      by_form : (o : Option Content) → formed (resources_of s) l ≡ o → Verdict z before l (judged z s o)
      by_form None e = (Fault.formless refl (λ x h. none_some (sym e ∙ says_so x h)), λ m g f. omega (arith, fault_least z before l m f))
      by_form (Some x) e = verdict_on x e (in_order s x.kind) (limited s x.kind x.numbers) (paired s x.kind x.numbers) (roomy z s x.kind) refl refl refl refl
