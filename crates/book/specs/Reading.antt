-- What reading a book answers, line by line. Assumes nothing.
use Rattle.std.specs.Prelude.{◌≡◌, ℕ, suc, ◌+◌, ◌-◌, ◌≤◌, Bool, true, false, cond, not, ◌&&◌, ◌||◌, List, [], ◌∷◌, ◌++◌, length, take, drop, replicate, Some, None, Ok, Err, Option, Result, ◌==◌, nat_le, nat_lt, slice_index}
use Rattle.std.specs.List.{between, suffix_len}
use Rattle.project.specs.Project.{Project, most_activities, most_resources, most_capacity, most_pairs, activity_fits, proper, follows, head_of, filled, blank_activity, blank_pair}
use Rattle.project.specs.Refusals.{Refused, refused}
use Rattle.project.specs.declared.refusal.Refusal.{Refusal}
use Rattle.project.specs.declared.tables.Activity.{Activity}
use Rattle.project.specs.declared.tables.Head.{Head}
use Rattle.project.specs.declared.tables.Kind.{Kind}
use Rattle.project.specs.declared.tables.Pair.{Pair}
use Rattle.book.specs.Accepted.{Sizes}
use Rattle.book.specs.declared.lines.LineKind.{LineKind}
use Rattle.book.specs.declared.lines.LineKind.TheVariants.{Capacities, Job, Pairing, Trailer}
use Rattle.book.specs.Lines.{lf, most_bytes, Content, lines, formed}

-- The project that the lines so far give: none before the C line.
abbrev pub Sofar : Type 0
Sofar = Option Project

abbrev pub resources_of : Sofar → ℕ
resources_of None = 0
resources_of (Some p) = p.resources

-- zeros stand for the resources that there are not
abbrev pub padded : List ℕ → List ℕ
padded ns = ns ++ replicate (most_resources - length ns) 0

abbrev pub activity_of : List ℕ → Activity
activity_of ns = record { duration = slice_index ns 0; demands = padded (drop 1 ns) }

abbrev pub pair_of : Kind → List ℕ → Pair
pair_of k ns = record { kind = k; first = slice_index ns 0; second = slice_index ns 1 }

-- the project of the C line alone
abbrev pub opened : List ℕ → Project
opened ns = record { resources = length ns; capacities = padded ns; activities = []; pairs = [] }

abbrev pub with_activity : Project → Activity → Project
with_activity p a =
    record { resources = p.resources; capacities = p.capacities; activities = p.activities ++ a ∷ []; pairs = p.pairs }

abbrev pub with_pair : Project → Pair → Project
with_pair p q =
    record { resources = p.resources; capacities = p.capacities; activities = p.activities; pairs = p.pairs ++ q ∷ [] }

abbrev pub added : Project → LineKind → List ℕ → Project
added p Capacities ns = p
added p Job ns = with_activity p (activity_of ns)
added p (Pairing k) ns = with_pair p (pair_of k ns)
added p Trailer ns = p

-- the project with one line more, which stands where it may
abbrev pub extended : Sofar → Content → Project
extended None x = opened x.numbers
extended (Some p) x = added p x.kind x.numbers

-- A line by what may be wrong with it, in the order in which it is refused.

abbrev pub is_nil : {A : Type 0} → List A → Bool
is_nil [] = true
is_nil (x ∷ xs) = false

-- a line of that kind may stand there: the C line first and once, no J line after a pair, no Z line
abbrev pub in_order : Sofar → LineKind → Bool
in_order None Capacities = true
in_order None Job = false
in_order None (Pairing k) = false
in_order None Trailer = false
in_order (Some p) Capacities = false
in_order (Some p) Job = is_nil p.pairs
in_order (Some p) (Pairing k) = true
in_order (Some p) Trailer = false

abbrev pub at_most : ℕ → List ℕ → Bool
at_most limit [] = true
at_most limit (n ∷ ns) = nat_le n limit && at_most limit ns

-- the numbers of a C or J line are within their limits
abbrev pub limited : Sofar → LineKind → List ℕ → Bool
limited s Capacities ns = at_most most_capacity ns
limited None Job ns = true
limited (Some p) Job ns = activity_fits p.capacities (activity_of ns)
limited s (Pairing k) ns = true
limited s Trailer ns = true

-- the pair names two activities in their order, is no repeat, and is no OR predecessor too many
abbrev pub pair_fits : Project → Pair → Bool
pair_fits p q = proper (length p.activities) q && follows p.pairs q

abbrev pub paired : Sofar → LineKind → List ℕ → Bool
paired s Capacities ns = true
paired s Job ns = true
paired None (Pairing k) ns = true
paired (Some p) (Pairing k) ns = pair_fits p (pair_of k ns)
paired s Trailer ns = true

-- a project and the lent table have room for one record more
abbrev pub roomy : Sizes → Sofar → LineKind → Bool
roomy z s Capacities = true
roomy z None Job = true
roomy z (Some p) Job = nat_lt (length p.activities) most_activities && nat_lt (length p.activities) z.activities
roomy z None (Pairing k) = true
roomy z (Some p) (Pairing k) = nat_lt (length p.pairs) most_pairs && nat_lt (length p.pairs) z.pairs
roomy z s Trailer = true

-- the project with what the line says, or the lowest number of what is wrong with it
abbrev pub judged : Sizes → Sofar → Option Content → Result Project ℕ
judged z s None = Err 2
judged z s (Some x) =
    cond (not (in_order s x.kind)) (Err 3) (cond (not (limited s x.kind x.numbers)) (Err 4) (cond (not (paired s x.kind x.numbers)) (Err 5) (cond (not (roomy z s x.kind)) (Err 6) (Ok (extended s x)))))

abbrev pub on : {A E X : Type 0} → Result A E → (E → X) → (A → X) → X
on (Err e) f g = f e
on (Ok a) f g = g a

-- the lines from the place `at` on, after those that gave s
abbrev pub read_lines : Sizes → Sofar → ℕ → List (List ℕ) → Result Sofar Refused
read_lines z s at [] = Ok s
read_lines z s at (l ∷ ls) =
    on (judged z s (formed (resources_of s) l)) (λ n. Err (refused n at)) (λ p. read_lines z (Some p) (at + suc (length l)) ls)

-- The trailer.

abbrev pub not_lf : ℕ → Bool
not_lf b = not (b == lf)

abbrev pub ends_in_lf : List ℕ → Bool
ends_in_lf bs = slice_index bs (length bs - 1) == lf

-- the bytes without the last
abbrev pub but_last : List ℕ → List ℕ
but_last bs = take (length bs - 1) bs

-- where the last line starts: after the last LF before its own
abbrev pub last_line : List ℕ → ℕ
last_line bs = length (but_last bs) - suffix_len not_lf (but_last bs)

-- a line starts at the place p
abbrev pub starts_line : List ℕ → ℕ → Bool
starts_line bs p = p == 0 || slice_index bs (p - 1) == lf

-- its own place, and what it says: where the body starts, and how many lines it has
pub record Trailed : Type 0 where
  pub place : ℕ
  pub start : ℕ
  pub count : ℕ

abbrev pub pointed : List ℕ → ℕ → ℕ → ℕ → Option Trailed
pointed bs place start count =
    cond (nat_le start place && starts_line bs start) (Some (record { place = place; start = start; count = count })) None

abbrev pub trailed : List ℕ → ℕ → LineKind → List ℕ → Option Trailed
trailed bs place Capacities ns = None
trailed bs place Job ns = None
trailed bs place (Pairing k) ns = None
trailed bs place Trailer ns = pointed bs place (slice_index ns 0) (slice_index ns 1)

abbrev pub trailed_by : List ℕ → ℕ → Option Content → Option Trailed
trailed_by bs place None = None
trailed_by bs place (Some x) = trailed bs place x.kind x.numbers

abbrev pub trailer : List ℕ → Option Trailed
trailer bs =
    cond (nat_le (length bs) most_bytes && ends_in_lf bs) (trailed_by bs (last_line bs) (formed 0 (drop (last_line bs) (but_last bs)))) None

-- The whole book.

-- the lines between the cover and the trailer
abbrev pub body_lines : List ℕ → Trailed → List (List ℕ)
body_lines bs t = lines (between t.start t.place bs)

abbrev pub closed : Trailed → ℕ → Result Sofar Refused → Result Project Refused
closed t n (Err e) = Err e
closed t n (Ok None) = Err (refused 7 t.place)
closed t n (Ok (Some p)) =
    cond (t.count == n && nat_le 1 (length p.activities)) (Ok p) (Err (refused 7 t.place))

abbrev pub read_after : Sizes → List ℕ → Option Trailed → Result Project Refused
read_after z bs None = Err (refused 1 0)
read_after z bs (Some t) = closed t (length (body_lines bs t)) (read_lines z None t.start (body_lines bs t))

-- the project of a book, or why it is refused
abbrev pub reading : Sizes → List ℕ → Result Project Refused
reading z bs = read_after z bs (trailer bs)

-- What the call answers, and what it leaves in the lent tables: a refused book leaves them zeroed.

abbrev pub head_answer : Result Project Refused → Result Head Refused
head_answer (Ok p) = Ok (head_of p)
head_answer (Err e) = Err e

abbrev pub activities_after : Result Project Refused → List Activity → List Activity
activities_after (Ok p) xs = filled p.activities xs
activities_after (Err e) xs = replicate (length xs) blank_activity

abbrev pub pairs_after : Result Project Refused → List Pair → List Pair
pairs_after (Ok p) xs = filled p.pairs xs
pairs_after (Err e) xs = replicate (length xs) blank_pair

-- what a call wrote, n bytes of `out`, reads back as the project p, into any tables that are long enough
abbrev pub ReadsBack : Project → Result ℕ Refusal → List ℕ → Type 0
ReadsBack p r out =
    (n : ℕ) (z : Sizes) → r ≡ Ok n → length p.activities ≤ z.activities → length p.pairs ≤ z.pairs → reading z (take n out) ≡ Ok p
