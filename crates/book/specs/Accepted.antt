-- What the format says of a book as a whole: which text is the book of a project, and what is wrong with any other.
-- None of it follows the reader's steps. Assumes nothing.
use Rattle.std.specs.Prelude.{◌≡◌, ℕ, suc, ◌+◌, ◌^◌, ◌<◌, ◌≤◌, Bool, true, false, ◌&&◌, ◌⊎◌, List, [], ◌∷◌, ◌++◌, map, length, take, Ok, count_by, Result, ◌==◌, ◌≢◌, slice_index, slice_index_or}
use Rattle.std.specs.List.{flat_map, ContainsAt as Has, AllByRecursion}
use Rattle.project.specs.Project.{Project, head_of, filled, Shaped, Rules, is_or, most_activities, most_capacity, most_duration, most_pairs, most_or_predecessors}
use Rattle.project.specs.declared.refusal.Refusal.{Refusal}
use Rattle.project.specs.declared.tables.Activity.{Activity}
use Rattle.project.specs.declared.tables.Head.{Head}
use Rattle.project.specs.declared.tables.Pair.{Pair}
use Rattle.project.specs.declared.tables.Kind.TheVariants.{Blank, Or}
use Rattle.book.specs.declared.lines.LineKind.{LineKind}
use Rattle.book.specs.declared.lines.LineKind.TheVariants.{Capacities, Job, Pairing, Trailer}
use Rattle.book.specs.Lines.{lf, most_bytes, Content, spelled, with_lf, line, most_digits, fewest, most}
use Rattle.book.specs.Written.{trailer_line, written}

-- how many records the lent tables have room for
pub record Sizes : Type 0 where
  pub activities : ℕ
  pub pairs : ℕ

abbrev pub sizes : List Activity → List Pair → Sizes
sizes acts ps = record { activities = length acts; pairs = length ps }

-- tables that have room for every project
abbrev pub full : Sizes
full = record { activities = most_activities; pairs = most_pairs }

-- empty, or ending in LF
abbrev pub Ended : List ℕ → Type 0
Ended bs = (bs ≡ []) ⊎ ((front : List ℕ) × (bs ≡ front ++ lf ∷ []))

-- bs is the book of p: a cover, and the written form of p after it
pub record IsBook (z : Sizes) (bs : List ℕ) (p : Project) : Type 0 where
  pub cover : List ℕ
  pub ended : Ended cover
  pub whole : bs ≡ cover ++ written (length cover) p
  pub short : length bs ≤ most_bytes
  pub shaped : Shaped p
  pub rules : Rules p
  pub activities : length p.activities ≤ z.activities
  pub pairs : length p.pairs ≤ z.pairs

-- the call answered with the project p: r is its head, the tables hold its records, and their rest is as it was
pub record Gave (acts : List Activity) (ps : List Pair) (r : Result Head Refusal) (acts' : List Activity) (ps' : List Pair) (p : Project) : Type 0 where
  pub head : r ≡ Ok (head_of p)
  pub activities : acts' ≡ filled p.activities acts
  pub pairs : ps' ≡ filled p.pairs ps

-- What is wrong with a book.

-- bs is a cover, then the lines ls, and a right trailer that points to them and says `count`
pub record Framed (bs cover : List ℕ) (ls : List (List ℕ)) (count : ℕ) : Type 0 where
  pub whole : bs ≡ cover ++ (flat_map with_lf ls ++ line (trailer_line (length cover) count))
  pub ended : Ended cover
  pub lines : AllByRecursion (AllByRecursion (λ b. b ≢ lf)) ls
  pub counted : count < 10 ^ most_digits
  pub short : length bs ≤ most_bytes

-- a line can say x: it has a letter, and each number has at most five digits
pub record Sayable (x : Content) : Type 0 where
  pub lettered : x.kind ≡ Pairing Blank → ⊥
  pub small : AllByRecursion (λ n. n < 10 ^ most_digits) x.numbers

-- what the lines so far say of the project: its capacities, which the first of them gives, and its activities and pairs
abbrev pub capacities_in : List Content → List ℕ
capacities_in [] = []
capacities_in (x ∷ xs) = x.numbers

abbrev pub is_job : LineKind → Bool
is_job Capacities = false
is_job Job = true
is_job (Pairing k) = false
is_job Trailer = false

abbrev pub is_pairing : LineKind → Bool
is_pairing Capacities = false
is_pairing Job = false
is_pairing (Pairing k) = true
is_pairing Trailer = false

abbrev pub activities_in : List Content → ℕ
activities_in xs = count_by (λ x. is_job x.kind) xs

abbrev pub pairs_in : List Content → ℕ
pairs_in xs = count_by (λ x. is_pairing x.kind) xs

abbrev pub first : Content → ℕ
first x = slice_index x.numbers 0

abbrev pub second : Content → ℕ
second x = slice_index x.numbers 1

abbrev pub is_or_line : LineKind → Bool
is_or_line Capacities = false
is_or_line Job = false
is_or_line (Pairing k) = is_or k
is_or_line Trailer = false

-- how many O lines make activity j their second
abbrev pub or_lines : ℕ → List Content → ℕ
or_lines j xs = count_by (λ x. is_or_line x.kind && second x == j) xs

-- The faults of a line after the lines `before`, each by its number.

-- the line says x, with as many numbers as its letter asks for
pub record Says (before : List Content) (l : List ℕ) (x : Content) : Type 0 where
  pub sayable : Sayable x
  pub spelled : l ≡ spelled x
  pub enough : fewest (length (capacities_in before)) x.kind ≤ length x.numbers
  pub few : length x.numbers ≤ most (length (capacities_in before)) x.kind

-- 3: it stands where its kind may not
pub data Misplaced (before : List Content) (x : Content) : Type 0 where
  first_other : before ≡ [] → (x.kind ≢ Capacities) → Misplaced before x
  later_capacities : (before ≢ []) → x.kind ≡ Capacities → Misplaced before x
  late_job : x.kind ≡ Job → 0 < pairs_in before → Misplaced before x
  early_trailer : x.kind ≡ Trailer → Misplaced before x

-- 4: a capacity, a duration or a demand is over its limit
pub data Over (before : List Content) (x : Content) : Type 0 where
  capacity : x.kind ≡ Capacities → (n : ℕ) → Has x.numbers n → most_capacity < n → Over before x
  duration : x.kind ≡ Job → most_duration < first x → Over before x
  demand : x.kind ≡ Job → (k : ℕ) → slice_index (capacities_in before) k < slice_index x.numbers (suc k) → Over before x

-- 5: its numbers are not two activities in their order, it is a repeat, or one OR predecessor too many
pub data Unpaired (before : List Content) (x : Content) : Type 0 where
  no_first : is_pairing x.kind ≡ true → ((1 ≤ first x) × (first x ≤ activities_in before) → ⊥) → Unpaired before x
  no_second : is_pairing x.kind ≡ true → ((1 ≤ second x) × (second x ≤ activities_in before) → ⊥) → Unpaired before x
  falling : is_pairing x.kind ≡ true → second x ≤ first x → Unpaired before x
  repeated : is_pairing x.kind ≡ true → Has before x → Unpaired before x
  ninth : x.kind ≡ Pairing Or → most_or_predecessors ≤ or_lines (second x) before → Unpaired before x

-- 6: a project or a lent table has no room for it
pub data Crowded (z : Sizes) (before : List Content) (x : Content) : Type 0 where
  activities : x.kind ≡ Job → most_activities ≤ activities_in before → Crowded z before x
  activity_table : x.kind ≡ Job → z.activities ≤ activities_in before → Crowded z before x
  pairs : is_pairing x.kind ≡ true → most_pairs ≤ pairs_in before → Crowded z before x
  pair_table : is_pairing x.kind ≡ true → z.pairs ≤ pairs_in before → Crowded z before x

-- the line l has the fault of number n
pub data Fault (z : Sizes) (before : List Content) (l : List ℕ) (n : ℕ) : Type 0 where
  formless : n ≡ 2 → ((x : Content) → Says before l x → ⊥) → Fault z before l n
  misplaced : n ≡ 3 → (x : Content) → Says before l x → Misplaced before x → Fault z before l n
  over : n ≡ 4 → (x : Content) → Says before l x → Over before x → Fault z before l n
  unpaired : n ≡ 5 → (x : Content) → Says before l x → Unpaired before x → Fault z before l n
  crowded : n ≡ 6 → (x : Content) → Says before l x → Crowded z before x → Fault z before l n

-- no line of these has a fault, and they say xs
pub record Faultless (z : Sizes) (ls : List (List ℕ)) (xs : List Content) : Type 0 where
  pub sayable : AllByRecursion Sayable xs
  pub spelled : ls ≡ map spelled xs
  pub clean : (i : ℕ) → i < length ls → (n : ℕ) → Fault z (take i xs) (slice_index_or ls i []) n → ⊥

-- of the lines ls, the first of which stands at `from`, the one at the place `at` is the first with a fault, and n the
-- lowest of its faults
pub record FirstFault (z : Sizes) (ls : List (List ℕ)) (from n at : ℕ) : Type 0 where
  pub before : List (List ℕ)
  pub bad : List ℕ
  pub rest : List (List ℕ)
  pub split : ls ≡ before ++ bad ∷ rest
  pub contents : List Content
  pub faultless : Faultless z before contents
  pub fault : Fault z contents bad n
  pub lowest : (m : ℕ) → m < n → Fault z contents bad m → ⊥
  pub place : at ≡ from + length (flat_map with_lf before)

-- bs is refused with the number n at the place `at`
pub data Unread (z : Sizes) (bs : List ℕ) (n at : ℕ) : Type 0 where
  -- it has no right trailer
  unframed : n ≡ 1 → at ≡ 0 → ((cover : List ℕ) (ls : List (List ℕ)) (count : ℕ) → Framed bs cover ls count → ⊥) → Unread z bs n at
  -- a line of its body has a fault
  faulty : (cover : List ℕ) (ls : List (List ℕ)) (count : ℕ) → Framed bs cover ls count → FirstFault z ls (length cover) n at → Unread z bs n at
  -- the trailer counts other lines than there are, or there is no activity
  miscounted : (cover : List ℕ) (ls : List (List ℕ)) (count : ℕ) → Framed bs cover ls count → (xs : List Content) → Faultless z ls xs
      → ((count ≢ length ls) ⊎ (activities_in xs ≡ 0)) → n ≡ 7 → at ≡ length cover + length (flat_map with_lf ls) → Unread z bs n at

-- what a call wrote, n bytes of `out`, is the book of the project p, for any tables that are long enough
abbrev pub WritesBook : Project → Result ℕ Refusal → List ℕ → Type 0
WritesBook p r out =
    (n : ℕ) (z : Sizes) → r ≡ Ok n → length p.activities ≤ z.activities → length p.pairs ≤ z.pairs → IsBook z (take n out) p
