-- Reading the lines of a body: they are read just where they are the lines of a project that keeps its rules, and give
-- that project. Assumes nothing.
use Rattle.std.proofs.Common.{◌≡◌, ℕ, suc, ◌+◌, ◌-◌, ◌^◌, ◌<◌, ◌≤◌, Bool, true, false, cond, not, ◌&&◌, ltb, leb, List, [], ◌∷◌, ◌++◌, map, length, get_or, take, drop, replicate, Some, None, Ok, Err, Decides, Option, Result, sym, refl, ap, ◌∙◌, subst, ⊎_elim, add-zero, arith}
use Rattle.std.specs.List.{flat_map, AllByRecursion}
use Rattle.std.proofs.ByRecursion.{All-append, All-get_or, All-from_get_or, All-map, All-push, All-weaker, Decides-by_and}
use Rattle.std.proofs.lemmas.List.{append-nil, append_assoc, length-append, length-drop, length_push, length-replicate, length-take-le, map-append, map_push, take-append-drop, take_at, get_or_append_left, get_or-append_right, get_or-drop, get_or_past, get_or-replicate, get_or-take}
use Rattle.std.proofs.lemmas.Bool.{and_parts, and_from, both_ways, false≢true, cases_lt, ltb-true, lt-ltb, cond-false, not_from_true}
use Rattle.project.specs.Project.{Project, Shaped, Rules, Proper, most_activities, most_resources, most_capacity, most_duration, most_pairs, demand, is_blank, proper, follows, pairs_fit, activity_fits, Once, Few}
use Rattle.project.specs.Refusals.{refused}
use Rattle.project.specs.declared.tables.Activity.{Activity}
use Rattle.project.specs.declared.tables.Kind.TheVariants.{Blank}
use Rattle.project.specs.declared.tables.Pair.{Pair}
use Rattle.project.proofs.Numbers.{decides_leb, decides_activity}
use Rattle.project.proofs.Pairs.{decides_proper, decides_follows, decides_pairs}
use Rattle.book.specs.declared.lines.LineKind.{LineKind}
use Rattle.book.specs.declared.lines.LineKind.TheVariants.{Capacities, Job, Pairing, Trailer}
use Rattle.book.specs.Accepted.{Sayable, Sizes}
use Rattle.book.specs.Lines.{lf, Content, spelled, most_digits, fewest, most, formed, with_lf}
use Rattle.book.specs.Reading.{Sofar, resources_of, padded, activity_of, pair_of, opened, with_activity, with_pair, added, extended, is_nil, in_order, at_most, limited, paired, roomy, judged, on, read_lines}
use Rattle.book.specs.Written.{capacities_line, activity_line, pair_line, body}
use Rattle.book.proofs.Spelling.{formed_says, says_formed}

-- Numbers with zeros after them.

zero_past : (n k : ℕ) → get_or {A = ℕ} (replicate n 0) k 0 ≡ 0
zero_past n k =
    ⊎_elim (λ h. get_or-replicate n k 0 0 h) (λ h. get_or_past (replicate n 0) k 0 (omega (arith, length-replicate {A = ℕ} n 0))) (cases_lt k n)

zeros : (xs : List ℕ) → ((k : ℕ) → get_or xs k 0 ≡ 0) → xs ≡ replicate (length xs) 0
zeros [] h = refl
zeros (x ∷ xs) h = λ i. h 0 i ∷ zeros xs (λ k. h (suc k)) i

take_padded : (ns : List ℕ) (n : ℕ) → length ns ≡ n → take n (padded ns) ≡ ns
take_padded ns n e = take_at ns (replicate (most_resources - length ns) 0) n e

length_padded : (ns : List ℕ) → length ns ≤ most_resources → length (padded ns) ≡ most_resources
length_padded ns h =
    length-append ns (replicate (most_resources - length ns) 0) ∙ ap (λ n. length ns + n) (length-replicate (most_resources - length ns) 0) ∙ omega arith

pub padded_front : (ns : List ℕ) (k : ℕ) → k < length ns → get_or (padded ns) k 0 ≡ get_or ns k 0
padded_front ns k h = get_or_append_left ns (replicate (most_resources - length ns) 0) 0 k h

pub padded_past : (ns : List ℕ) (k : ℕ) → length ns ≤ k → get_or (padded ns) k 0 ≡ 0
padded_past ns k h =
    get_or-append_right ns (replicate (most_resources - length ns) 0) (length ns) k 0 refl h ∙ zero_past _ (k - length ns)

padded_take : (n : ℕ) (xs : List ℕ) → length xs ≡ most_resources → n ≤ most_resources → ((k : ℕ) → n ≤ k → get_or xs k 0 ≡ 0) → padded (take n xs) ≡ xs
padded_take n xs long few past =
    let front = length-take-le n xs (omega arith) in
    let back : length (drop n xs) ≡ most_resources - length (take n xs) = length-drop n xs ∙ omega arith in
    let none = zeros (drop n xs) (λ k. get_or-drop n xs k 0 ∙ past (n + k) (omega arith)) in
    ap (λ m. take n xs ++ replicate m 0) (sym back) ∙ ap (λ l. take n xs ++ l) (sym none) ∙ take-append-drop n xs

-- The rules that hold while a body is read.

-- so many resources, and their capacities
pub record Headed (resources : ℕ) (capacities : List ℕ) : Type 0 where
  pub few : resources ≤ most_resources
  pub long : length capacities ≡ most_resources
  pub low : (k : ℕ) → k < resources → get_or capacities k 0 ≤ most_capacity
  pub unused : (k : ℕ) → resources ≤ k → get_or capacities k 0 ≡ 0

-- all but that there is an activity; and the tables have room
pub record Kept (z : Sizes) (p : Project) : Type 0 where
  pub head : Headed p.resources p.capacities
  pub activities : length p.activities ≤ most_activities
  pub activity_table : length p.activities ≤ z.activities
  pub shaped : AllByRecursion (λ a. length a.demands ≡ most_resources) p.activities
  pub durations : AllByRecursion (λ a. a.duration ≤ most_duration) p.activities
  pub demands : AllByRecursion (λ a. (k : ℕ) → demand a k ≤ get_or p.capacities k 0) p.activities
  pub pairs : length p.pairs ≤ most_pairs
  pub pair_table : length p.pairs ≤ z.pairs
  pub proper : AllByRecursion (Proper (length p.activities)) p.pairs
  pub once : Once p.pairs
  pub or_few : Few p.pairs

pub kept_from_rules : (z : Sizes) (p : Project) → Shaped p → Rules p → length p.activities ≤ z.activities → length p.pairs ≤ z.pairs → Kept z p
kept_from_rules z p s r a q = record {
  head = record { few = r.resources; long = s.capacities; low = r.capacities; unused = r.unused };
  activities = r.activities;
  activity_table = a;
  shaped = s.demands;
  durations = r.durations;
  demands = r.demands;
  pairs = r.pairs;
  pair_table = q;
  proper = r.proper;
  once = r.once;
  or_few = r.or_few;
}

pub shaped_from_kept : (z : Sizes) (p : Project) → Kept z p → Shaped p
shaped_from_kept z p k = record { capacities = k.head.long; demands = k.shaped }

pub rules_from_kept : (z : Sizes) (p : Project) → Kept z p → 1 ≤ length p.activities → Rules p
rules_from_kept z p k some = record {
  some = some;
  activities = k.activities;
  resources = k.head.few;
  capacities = k.head.low;
  unused = k.head.unused;
  durations = k.durations;
  demands = k.demands;
  pairs = k.pairs;
  proper = k.proper;
  once = k.once;
  or_few = k.or_few;
}

-- One line.

-- the four tests of a line that has its form
pub record Passed (z : Sizes) (s : Sofar) (k : LineKind) (ns : List ℕ) : Type 0 where
  pub order : in_order s k ≡ true
  pub limits : limited s k ns ≡ true
  pub pair : paired s k ns ≡ true
  pub room : roomy z s k ≡ true

-- l is read after what gave s, and gives q
pub record Step (z : Sizes) (s : Sofar) (l : List ℕ) (q : Project) : Type 0 where
  pub said : Content
  pub sayable : Sayable said
  pub spells : l ≡ spelled said
  pub enough : fewest (resources_of s) said.kind ≤ length said.numbers
  pub few : length said.numbers ≤ most (resources_of s) said.kind
  pub passed : Passed z s said.kind said.numbers
  pub gives : extended s said ≡ q

pub err_ok : {A E : Type 0} {e : E} {a : A} → ◌≡◌ {A = Result A E} (Err e) (Ok a) → ⊥
err_ok h = let z : ◌≡◌ {A = ℕ} 0 1 = cc in omega arith

gate : {A : Type 0} (b : Bool) (e : ℕ) (r : Result A ℕ) (a : A) → cond (not b) (Err e) r ≡ Ok a → (b ≡ true) × (r ≡ Ok a)
gate true e r a h = (refl, h)
gate false e r a h = absurd (err_ok h)

through : {A : Type 0} (b : Bool) (e : ℕ) (r : Result A ℕ) → b ≡ true → cond (not b) (Err e) r ≡ r
through b e r h = cond-false (not b) (Err e) r (not_from_true b h)

pub step_from_judged : (z : Sizes) (s : Sofar) (l : List ℕ) (q : Project) → judged z s (formed (resources_of s) l) ≡ Ok q → Step z s l q
step_from_judged z s l q e = go (formed (resources_of s) l) refl e
  where
    go : (o : Option Content) → formed (resources_of s) l ≡ o → judged z s o ≡ Ok q → Step z s l q
    go None is e' = absurd (err_ok e')
    go (Some x) is e' =
        let said = formed_says (resources_of s) l x is in
        let a = gate (in_order s x.kind) 3 _ q e' in
        let b = gate (limited s x.kind x.numbers) 4 _ q a.1 in
        let c = gate (paired s x.kind x.numbers) 5 _ q b.1 in
        let d = gate (roomy z s x.kind) 6 _ q c.1 in
        let same : extended s x ≡ q = let f = d.1 in cc in
        record { said = x; sayable = said.0; spells = said.1; enough = said.2; few = said.3; passed = record { order = a.0; limits = b.0; pair = c.0; room = d.0 }; gives = same }

pub judged_from_step : (z : Sizes) (s : Sofar) (l : List ℕ) (q : Project) → Step z s l q → judged z s (formed (resources_of s) l) ≡ Ok q
judged_from_step z s l q t =
    let x = t.said in
    ap (λ m. judged z s (formed (resources_of s) m)) t.spells
    ∙ ap (judged z s) (says_formed (resources_of s) x t.sayable t.enough t.few)
    ∙ through (in_order s x.kind) 3 _ t.passed.order
    ∙ through (limited s x.kind x.numbers) 4 _ t.passed.limits
    ∙ through (paired s x.kind x.numbers) 5 _ t.passed.pair
    ∙ through (roomy z s x.kind) 6 _ t.passed.room
    ∙ ap Ok t.gives

-- What a line that is read adds to the body and to the rules.

pub decides_at_most : (limit : ℕ) (ns : List ℕ) → Decides (at_most limit ns) (AllByRecursion (λ n. n ≤ limit) ns)
decides_at_most limit ns =
    Decides-by_and (λ n. leb n limit) (λ n. n ≤ limit) (at_most limit) (λ n. decides_leb n limit) refl (λ _ _. refl) ns

-- the body of q is that of p, and x after it
abbrev pub Grown : Sizes → List Content → Content → Project → Type 0
Grown z xs x q = Kept z q × (body q ≡ xs ++ x ∷ [])

pub first_grown : (z : Sizes) (k : LineKind) (ns : List ℕ) → length ns ≤ most 0 k → Passed z None k ns → Grown z [] (record { kind = k; numbers = ns }) (opened ns)
first_grown z Capacities ns few t = (
  record {
    head = record {
      few = few;
      long = length_padded ns few;
      low = λ k h. subst (λ n. n ≤ most_capacity) (sym (padded_front ns k h)) (All-get_or (λ n. n ≤ most_capacity) ns k 0 h ((decides_at_most most_capacity ns).0 t.limits));
      unused = padded_past ns;
    };
    activities = omega arith;
    activity_table = omega arith;
    shaped = tt;
    durations = tt;
    demands = tt;
    pairs = omega arith;
    pair_table = omega arith;
    proper = tt;
    once = λ i j d lt in' e. omega arith;
    or_few = λ j. omega arith;
  },
  ap (λ ms. record { kind = Capacities; numbers = ms } ∷ []) (take_padded ns (length ns) refl),
)
first_grown z Job ns few t = absurd (false≢true t.order)
first_grown z (Pairing k) ns few t = absurd (false≢true t.order)
first_grown z Trailer ns few t = absurd (false≢true t.order)

pub nil_from_is_nil : {A : Type 0} (xs : List A) → is_nil xs ≡ true → xs ≡ []
nil_from_is_nil [] e = refl
nil_from_is_nil (x ∷ xs) e = absurd (false≢true e)

pub body_activity : (p : Project) (a : Activity) → p.pairs ≡ [] → body (with_activity p a) ≡ body p ++ activity_line p.resources a ∷ []
body_activity p a none =
    let f = activity_line p.resources in
    let first = λ (l : List Content). capacities_line p ∷ l in
    ap first
    (ap (λ ps. map f (p.activities ++ a ∷ []) ++ map pair_line ps) none
    ∙ append-nil _
    ∙ map_push f p.activities a
    ∙ ap (λ l. l ++ f a ∷ []) (sym (append-nil (map f p.activities)) ∙ ap (λ ps. map f p.activities ++ map pair_line ps) (sym none)))

pub body_pair : (p : Project) (q : Pair) → body (with_pair p q) ≡ body p ++ pair_line q ∷ []
body_pair p q =
    let jobs = map (activity_line p.resources) p.activities in
    ap (λ l. capacities_line p ∷ l)
    (ap (λ l. jobs ++ l) (map_push pair_line p.pairs q) ∙ sym (append_assoc jobs (map pair_line p.pairs) (pair_line q ∷ [])))

pub grown : (z : Sizes) (p : Project) (k : LineKind) (ns : List ℕ) → Kept z p → fewest p.resources k ≤ length ns → length ns ≤ most p.resources k → Passed z (Some p) k ns → Grown z (body p) (record { kind = k; numbers = ns }) (added p k ns)
grown z p Capacities ns kept enough few t = absurd (false≢true t.order)
grown z p Job [] kept enough few t = absurd (omega arith)
grown z p Job (d ∷ ms) kept enough few t =
    let none = nil_from_is_nil p.pairs t.order in
    let long : length ms ≡ p.resources = omega arith in
    let resources = kept.head.few in
    let a = activity_of (d ∷ ms) in
    let fits = (decides_activity p.capacities a).0 t.limits in
    let room = and_parts (ltb (length p.activities) most_activities) _ t.room in
    let low = ltb-true _ _ room.0 in
    let free = ltb-true _ _ room.1 in
    let more = length_push p.activities a in (
      record {
        head = kept.head;
        activities = omega arith;
        activity_table = omega arith;
        shaped = All-push (λ a. length a.demands ≡ most_resources) p.activities a kept.shaped (length_padded ms (omega arith));
        durations = All-push (λ a. a.duration ≤ most_duration) p.activities a kept.durations fits.0;
        demands = All-push (λ a. (k : ℕ) → demand a k ≤ get_or p.capacities k 0) p.activities a kept.demands fits.1;
        pairs = kept.pairs;
        pair_table = kept.pair_table;
        proper = subst (AllByRecursion (Proper (length (p.activities ++ a ∷ [])))) (sym none) tt;
        once = kept.once;
        or_few = kept.or_few;
      },
      body_activity p a none ∙ ap (λ l. body p ++ record { kind = Job; numbers = d ∷ l } ∷ []) (take_padded ms p.resources long),
    )
grown z p (Pairing k) [] kept enough few t = absurd (omega arith)
grown z p (Pairing k) (a ∷ []) kept enough few t = absurd (omega arith)
grown z p (Pairing k) (a ∷ b ∷ []) kept enough few t =
    let q = pair_of k (a ∷ b ∷ []) in
    let fits = and_parts (proper (length p.activities) q) (follows p.pairs q) t.pair in
    let apart = (decides_follows p.pairs q kept.once kept.or_few).0 fits.1 in
    let room = and_parts (ltb (length p.pairs) most_pairs) _ t.room in
    let low = ltb-true _ _ room.0 in
    let free = ltb-true _ _ room.1 in
    let more = length_push p.pairs q in (
      record {
        head = kept.head;
        activities = kept.activities;
        activity_table = kept.activity_table;
        shaped = kept.shaped;
        durations = kept.durations;
        demands = kept.demands;
        pairs = omega arith;
        pair_table = omega arith;
        proper = All-push (Proper (length p.activities)) p.pairs q kept.proper ((decides_proper (length p.activities) q).0 fits.0);
        once = apart.0;
        or_few = apart.1;
      },
      body_pair p q,
    )
grown z p (Pairing k) (a ∷ b ∷ c ∷ ns) kept enough few t = absurd (omega arith)
grown z p Trailer ns kept enough few t = absurd (false≢true t.order)

-- Many lines.

-- reading ls after what gave s gives p, and goes on with the lines after them
abbrev pub Reads : Sizes → Sofar → List (List ℕ) → Project → Type 0
Reads z s ls p =
    (k : ℕ) (rest : List (List ℕ)) → read_lines z s k (ls ++ rest) ≡ read_lines z (Some p) (k + length (flat_map with_lf ls)) rest

pub reads_one : (z : Sizes) (s : Sofar) (l : List ℕ) (p : Project) → Step z s l p → Reads z s (l ∷ []) p
reads_one z s l p t k rest =
    let long : suc (length l) ≡ length (flat_map with_lf (l ∷ [])) = sym (ap length (append-nil (with_lf l)) ∙ length-append l (lf ∷ []) ∙ omega arith) in
    ap (λ r. on r (λ n. Err (refused n k)) (λ q. read_lines z (Some q) (k + suc (length l)) rest)) (judged_from_step z s l p t) ∙ ap (λ n. read_lines z (Some p) (k + n) rest) long

joined_append : {X A : Type 0} (f : X → List A) (xs ys : List X) → flat_map f (xs ++ ys) ≡ flat_map f xs ++ flat_map f ys
joined_append f [] ys = refl
joined_append f (x ∷ xs) ys =
    ap (λ l. f x ++ l) (joined_append f xs ys) ∙ sym (append_assoc (f x) (flat_map f xs) (flat_map f ys))

pub reads_more : (z : Sizes) (s : Sofar) (ls ms : List (List ℕ)) (p q : Project) → Reads z s ls p → Reads z (Some p) ms q → Reads z s (ls ++ ms) q
reads_more z s ls ms p q one two k rest =
    let place : k + length (flat_map with_lf ls) + length (flat_map with_lf ms) ≡ k + length (flat_map with_lf (ls ++ ms)) =
    omega (arith, ap length (joined_append with_lf ls ms), length-append (flat_map with_lf ls) (flat_map with_lf ms)) in
    ap (read_lines z s k) (append_assoc ls ms rest)
    ∙ one k (ms ++ rest)
    ∙ two (k + length (flat_map with_lf ls)) rest ∙ ap (λ n. read_lines z (Some q) n rest) place

reads_none : (z : Sizes) (p q : Project) → p ≡ q → Reads z (Some p) [] q
reads_none z p q e k rest = λ i. read_lines z (Some (e i)) (sym (add-zero k) i) rest

-- The lines of a project are read.

abbrev with_activities : Project → List Activity → Project
with_activities p more =
    record { resources = p.resources; capacities = p.capacities; activities = p.activities ++ more; pairs = p.pairs }

abbrev with_pairs : Project → List Pair → Project
with_pairs p qs =
    record { resources = p.resources; capacities = p.capacities; activities = p.activities; pairs = p.pairs ++ qs }

low_all : (n : ℕ) (cs : List ℕ) → Headed n cs → (k : ℕ) → get_or cs k 0 ≤ most_capacity
low_all n cs h k =
    ⊎_elim (λ lt. h.low k lt) (λ le. let none = h.unused k le in omega arith) (cases_lt k n)

-- the first n of numbers that are at most the capacities can be said
front_small : (n : ℕ) (cs xs : List ℕ) → Headed n cs → length xs ≡ most_resources → ((k : ℕ) → get_or xs k 0 ≤ get_or cs k 0) → AllByRecursion (λ m. m < 10 ^ most_digits) (take n xs)
front_small n cs xs h long under =
    let front = length-take-le n xs (let few = h.few in omega arith) in
    All-from_get_or (λ m. m < 10 ^ most_digits) (take n xs) 0 λ k lt.
    let same = get_or-take n xs k 0 (omega arith) in
    let low = low_all n cs h k in
    let here = under k in
    omega arith

-- x can be said, and has few numbers
pub record Brief (x : Content) : Type 0 where
  pub sayable : Sayable x
  pub few : length x.numbers ≤ 5

capacities_brief : (n : ℕ) (cs : List ℕ) → Headed n cs → Brief (record { kind = Capacities; numbers = take n cs })
capacities_brief n cs h =
    let few = h.few in
    let long = h.long in
    let front = length-take-le n cs (omega arith) in
    record {
      sayable = record { lettered = λ e. let bad : ◌≡◌ {A = ℕ} 0 1 = cc in omega arith; small = front_small n cs cs h long (λ k. omega arith) };
      few = omega arith;
    }

activity_brief : (n : ℕ) (cs : List ℕ) (a : Activity) → Headed n cs → length a.demands ≡ most_resources → a.duration ≤ most_duration → ((k : ℕ) → demand a k ≤ get_or cs k 0) → Brief (activity_line n a)
activity_brief n cs a h long short under =
    let few = h.few in
    let front = length-take-le n a.demands (omega arith) in
    record {
      sayable = record { lettered = λ e. let bad : ◌≡◌ {A = ℕ} 0 1 = cc in omega arith; small = (omega arith, front_small n cs a.demands h long under) };
      few = omega arith;
    }

pair_brief : (n : ℕ) (q : Pair) → n ≤ most_activities → Proper n q → Brief (pair_line q)
pair_brief n q some names =
    let rising = names.rising in
    let second = names.second in
    record {
      sayable = record { lettered = λ e. let blank : q.kind ≡ Blank = cc in both_ways _ names.kind (ap is_blank blank); small = (omega arith, (omega arith, tt)) };
      few = omega arith;
    }

pub body_brief : (z : Sizes) (p : Project) → Kept z p → AllByRecursion Brief (body p)
body_brief z p kept = (
  capacities_brief p.resources p.capacities kept.head,
  All-append Brief (map (activity_line p.resources) p.activities) (map pair_line p.pairs)
      (activities p.activities kept.shaped kept.durations kept.demands)
      (All-map Brief pair_line p.pairs (All-weaker (Proper (length p.activities)) (λ q. Brief (pair_line q)) (λ q. pair_brief (length p.activities) q kept.activities) p.pairs kept.proper)),
)
  where
    activities : (acts : List Activity) → AllByRecursion (λ a. length a.demands ≡ most_resources) acts → AllByRecursion (λ a. a.duration ≤ most_duration) acts → AllByRecursion (λ a. (k : ℕ) → demand a k ≤ get_or p.capacities k 0) acts → AllByRecursion Brief (map (activity_line p.resources) acts)
    activities [] long short under = tt
    activities (a ∷ acts) long short under =
        (activity_brief p.resources p.capacities a kept.head long.0 short.0 under.0, activities acts long.1 short.1 under.1)

capacities_step : (z : Sizes) (n : ℕ) (cs : List ℕ) → Headed n cs → Step z None (spelled (record { kind = Capacities; numbers = take n cs })) (record { resources = n; capacities = cs; activities = []; pairs = [] })
capacities_step z n cs h =
    let few = h.few in
    let long = h.long in
    let front = length-take-le n cs (omega arith) in
    record {
      said = record { kind = Capacities; numbers = take n cs };
      sayable = (capacities_brief n cs h).sayable;
      spells = refl;
      enough = omega arith;
      few = omega arith;
      passed = record {
        order = refl;
        limits = (decides_at_most most_capacity (take n cs)).1 (All-from_get_or (λ m. m ≤ most_capacity) (take n cs) 0 λ k lt. let same = get_or-take n cs k 0 (omega arith) in let low = h.low k (omega arith) in omega arith);
        pair = refl;
        room = refl;
      };
      gives = λ i. record { resources = front i; capacities = padded_take n cs long few h.unused i; activities = []; pairs = [] };
    }

activity_step : (z : Sizes) (p : Project) (a : Activity) → Headed p.resources p.capacities → p.pairs ≡ [] → length a.demands ≡ most_resources → a.duration ≤ most_duration → ((k : ℕ) → demand a k ≤ get_or p.capacities k 0) → length p.activities < most_activities → length p.activities < z.activities → Step z (Some p) (spelled (activity_line p.resources a)) (with_activity p a)
activity_step z p a h none long short under low free =
    let few = h.few in
    let front = length-take-le p.resources a.demands (omega arith) in
    let whole : padded (take p.resources a.demands) ≡ a.demands = padded_take p.resources a.demands long few (λ k le. let zero = h.unused k le in let here = under k in omega arith) in
    let same : activity_of (a.duration ∷ take p.resources a.demands) ≡ a = λ i. record { duration = a.duration; demands = whole i } in
    record {
      said = activity_line p.resources a;
      sayable = (activity_brief p.resources p.capacities a h long short under).sayable;
      spells = refl;
      enough = omega arith;
      few = omega arith;
      passed = record {
        order = ap is_nil none;
        limits = ap (activity_fits p.capacities) same ∙ (decides_activity p.capacities a).1 (short, under);
        pair = refl;
        room = and_from _ _ (lt-ltb _ _ low) (lt-ltb _ _ free);
      };
      gives = ap (with_activity p) same;
    }

pair_step : (z : Sizes) (p : Project) (q : Pair) → length p.activities ≤ most_activities → proper (length p.activities) q ≡ true → follows p.pairs q ≡ true → length p.pairs < most_pairs → length p.pairs < z.pairs → Step z (Some p) (spelled (pair_line q)) (with_pair p q)
pair_step z p q some is after low free =
    record {
      said = pair_line q;
      sayable = (pair_brief (length p.activities) q some ((decides_proper (length p.activities) q).0 is)).sayable;
      spells = refl;
      enough = omega arith;
      few = omega arith;
      passed = record { order = refl; limits = refl; pair = and_from _ _ is after; room = and_from _ _ (lt-ltb _ _ low) (lt-ltb _ _ free) };
      gives = refl;
    }

activities_read : (z : Sizes) (p : Project) (rest : List Activity) → Headed p.resources p.capacities → p.pairs ≡ [] → AllByRecursion (λ a. length a.demands ≡ most_resources) rest → AllByRecursion (λ a. a.duration ≤ most_duration) rest → AllByRecursion (λ a. (k : ℕ) → demand a k ≤ get_or p.capacities k 0) rest → length p.activities + length rest ≤ most_activities → length p.activities + length rest ≤ z.activities → Reads z (Some p) (map spelled (map (activity_line p.resources) rest)) (with_activities p rest)
activities_read z p [] h none long short under low free =
    reads_none z p (with_activities p []) (λ i. record { resources = p.resources; capacities = p.capacities; activities = sym (append-nil p.activities) i; pairs = p.pairs })
activities_read z p (a ∷ rest) h none long short under low free =
    let more = length_push p.activities a in
    subst (Reads z (Some p) (map spelled (map (activity_line p.resources) (a ∷ rest)))) (λ i. record { resources = p.resources; capacities = p.capacities; activities = append_assoc p.activities (a ∷ []) rest i; pairs = p.pairs })
    (reads_more z (Some p) (spelled (activity_line p.resources a) ∷ []) (map spelled (map (activity_line p.resources) rest)) (with_activity p a) _
    (reads_one z (Some p) _ (with_activity p a) (activity_step z p a h none long.0 short.0 under.0 (omega arith) (omega arith)))
    (activities_read z (with_activity p a) rest h none long.1 short.1 under.1 (omega arith) (omega arith)))

pairs_read : (z : Sizes) (p : Project) (rest : List Pair) → length p.activities ≤ most_activities → pairs_fit (length p.activities) p.pairs rest ≡ true → length p.pairs + length rest ≤ most_pairs → length p.pairs + length rest ≤ z.pairs → Reads z (Some p) (map spelled (map pair_line rest)) (with_pairs p rest)
pairs_read z p [] some fit low free =
    reads_none z p (with_pairs p []) (λ i. record { resources = p.resources; capacities = p.capacities; activities = p.activities; pairs = sym (append-nil p.pairs) i })
pairs_read z p (q ∷ rest) some fit low free =
    let more = length_push p.pairs q in
    let both = and_parts (proper (length p.activities) q && follows p.pairs q) _ fit in
    let here = and_parts (proper (length p.activities) q) (follows p.pairs q) both.0 in
    subst (Reads z (Some p) (map spelled (map pair_line (q ∷ rest)))) (λ i. record { resources = p.resources; capacities = p.capacities; activities = p.activities; pairs = append_assoc p.pairs (q ∷ []) rest i })
    (reads_more z (Some p) (spelled (pair_line q) ∷ []) (map spelled (map pair_line rest)) (with_pair p q) _
    (reads_one z (Some p) _ (with_pair p q) (pair_step z p q some here.0 here.1 (omega arith) (omega arith)))
    (pairs_read z (with_pair p q) rest some both.1 (omega arith) (omega arith)))

-- the body of a project that keeps its rules is read, and gives the project
pub body_reads : (z : Sizes) (p : Project) → Kept z p → Reads z None (map spelled (body p)) p
body_reads z p kept =
    let start : Project = record { resources = p.resources; capacities = p.capacities; activities = []; pairs = [] } in
    let f = activity_line p.resources in
    let jobs = map spelled (map f p.activities) in
    let rest = map spelled (map pair_line p.pairs) in
    let fit = (decides_pairs (length p.activities) p.pairs).1 (kept.proper, kept.once, kept.or_few) in
    let head = reads_one z None (spelled (capacities_line p)) start (capacities_step z p.resources p.capacities kept.head) in
    let middle = activities_read z start p.activities kept.head refl kept.shaped kept.durations kept.demands (let h = kept.activities in omega arith) (let h = kept.activity_table in omega arith) in
    let end = pairs_read z (with_activities start p.activities) p.pairs kept.activities fit (let h = kept.pairs in omega arith) (let h = kept.pair_table in omega arith) in
    subst (λ ls. Reads z None (spelled (capacities_line p) ∷ ls) p) (sym (map-append spelled (map f p.activities) (map pair_line p.pairs)))
    (reads_more z None (spelled (capacities_line p) ∷ []) (jobs ++ rest) start p head (reads_more z (Some start) jobs rest (with_activities start p.activities) p middle end))

pub read_body : (z : Sizes) (p : Project) (k : ℕ) → Kept z p → read_lines z None k (map spelled (body p)) ≡ Ok (Some p)
read_body z p k kept =
    ap (read_lines z None k) (sym (append-nil (map spelled (body p)))) ∙ body_reads z p kept k []

-- The lines that are read are those of the project that they give.

pub step_grown : (z : Sizes) (p q : Project) (l : List ℕ) → Kept z p → Step z (Some p) l q → Kept z q × (map spelled (body q) ≡ map spelled (body p) ++ l ∷ [])
step_grown z p q l kept t =
    let x = t.said in
    let g = grown z p x.kind x.numbers kept t.enough t.few t.passed in
    subst (λ r. Kept z r × (map spelled (body r) ≡ map spelled (body p) ++ l ∷ [])) t.gives (g.0, ap (map spelled) g.1 ∙ map_push spelled (body p) x ∙ ap (λ m. map spelled (body p) ++ m ∷ []) (sym t.spells))

pub step_first : (z : Sizes) (q : Project) (l : List ℕ) → Step z None l q → Kept z q × (map spelled (body q) ≡ l ∷ [])
step_first z q l t =
    let x = t.said in
    let g = first_grown z x.kind x.numbers t.few t.passed in
    subst (λ r. Kept z r × (map spelled (body r) ≡ l ∷ [])) t.gives (g.0, ap (map spelled) g.1 ∙ ap (λ m. m ∷ []) (sym t.spells))

-- the first of the lines is read, and then the others
pub read_cons : (z : Sizes) (s : Sofar) (k : ℕ) (l : List ℕ) (ls : List (List ℕ)) (o : Sofar) → read_lines z s k (l ∷ ls) ≡ Ok o → (q : Project) × Step z s l q × (read_lines z (Some q) (k + suc (length l)) ls ≡ Ok o)
read_cons z s k l ls o e = go (judged z s (formed (resources_of s) l)) refl e
  where
    go : (r : Result Project ℕ) → judged z s (formed (resources_of s) l) ≡ r → on r (λ n. Err (refused n k)) (λ q. read_lines z (Some q) (k + suc (length l)) ls) ≡ Ok o → (q : Project) × Step z s l q × (read_lines z (Some q) (k + suc (length l)) ls ≡ Ok o)
    go (Err n) is e' = absurd (err_ok e')
    go (Ok q) is e' = (q, step_from_judged z s l q is, e')

rest_read : (z : Sizes) (p q : Project) (k : ℕ) (ls : List (List ℕ)) → Kept z p → read_lines z (Some p) k ls ≡ Ok (Some q) → Kept z q × (map spelled (body q) ≡ map spelled (body p) ++ ls)
rest_read z p q k [] kept e =
    let same : p ≡ q = cc in
    subst (λ r. Kept z r × (map spelled (body r) ≡ map spelled (body p) ++ [])) same (kept, sym (append-nil (map spelled (body p))))
rest_read z p q k (l ∷ ls) kept e =
    let (r, t, e') = read_cons z (Some p) k l ls (Some q) e in
    let g = step_grown z p r l kept t in
    let h = rest_read z r q (k + suc (length l)) ls g.0 e' in
    (h.0, h.1 ∙ ap (λ m. m ++ ls) g.1 ∙ append_assoc (map spelled (body p)) (l ∷ []) ls)

pub body_read : (z : Sizes) (p : Project) (k : ℕ) (ls : List (List ℕ)) → read_lines z None k ls ≡ Ok (Some p) → Kept z p × (map spelled (body p) ≡ ls)
body_read z p k [] e = absurd (let bad : ◌≡◌ {A = ℕ} 0 1 = cc in omega arith)
body_read z p k (l ∷ ls) e =
    let (r, t, e') = read_cons z None k l ls (Some p) e in
    let g = step_first z r l t in
    let h = rest_read z r p (k + suc (length l)) ls g.0 e' in
    (h.0, h.1 ∙ ap (λ m. m ++ ls) g.1)
