-- One line taken into the lent tables, by the head and the tables so far. Assumes nothing.
use Rattle.std.specs.Prelude.{◌≡◌, ℕ, ◌+◌, ◌≤◌, Bool, true, cond, not, ◌&&◌, List, length, take, replicate, Some, None, Ok, Err, Option, Result, ◌==◌, nat_le, nat_lt, slice_set}
use Rattle.project.specs.Project.{Project, project_of, head_of, filled, most_activities, most_resources, most_pairs, activity_fits, proper, follows, within, most_capacity, is_blank}
use Rattle.project.specs.Refusals.{Refused, refused, answer}
use Rattle.project.specs.declared.refusal.Refusal.{Refusal}
use Rattle.project.specs.declared.tables.Activity.{Activity}
use Rattle.project.specs.declared.tables.Head.{Head}
use Rattle.project.specs.declared.tables.Kind.{Kind}
use Rattle.project.specs.declared.tables.Pair.{Pair}
use Rattle.book.specs.Lines.{Content, fewest, most}
use Rattle.book.specs.Reading.{Sofar, Trailed, padded, activity_of, pair_of, opened}
use Rattle.book.specs.declared.reader.Trailer.{Trailer as Found}
use Rattle.book.specs.declared.lines.Line.{Line}
use Rattle.book.specs.declared.lines.LineKind.{LineKind}
use Rattle.book.specs.declared.lines.LineKind.TheVariants.{Capacities, Job, Pairing, Trailer}

-- the project that the head and the tables hold so far
abbrev pub sofar_of : Option Head → List Activity → List Pair → Sofar
sofar_of None acts ps = None
sofar_of (Some h) acts ps = Some (project_of h acts ps)

abbrev pub activities_known : Option Head → ℕ
activities_known None = 0
activities_known (Some h) = h.activities

abbrev pub pairs_known : Option Head → ℕ
pairs_known None = 0
pairs_known (Some h) = h.pairs

abbrev pub resources_known : Option Head → ℕ
resources_known None = 0
resources_known (Some h) = h.resources

-- where there is a head, the tables have its records, and it is within the limits
pub record Kept (s : Option Head) (acts : List Activity) (ps : List Pair) : Type 0 where
  pub activities : activities_known s ≤ length acts
  pub pairs : pairs_known s ≤ length ps
  pub few : activities_known s ≤ most_activities
  pub resources : resources_known s ≤ most_resources

abbrev pub content_in : Line → Content
content_in l = record { kind = l.kind; numbers = l.numbers.items }

abbrev pub if_at_most : ℕ → ℕ → Option ℕ
if_at_most limit n = cond (nat_le n limit) (Some n) None

-- the head that a C line gives, if its capacities are within their limit
abbrev pub opening : List ℕ → Option Head
opening ns = cond (within (padded ns) (replicate most_resources most_capacity)) (Some (head_of (opened ns))) None

-- a project and the table have room for one more
abbrev pub has_room : {A : Type 0} → ℕ → ℕ → List A → Bool
has_room held most xs = nat_lt held most && nat_lt held (length xs)

-- the activity to add, or the number of what is wrong with it
abbrev pub activity_judged : Head → List ℕ → List Activity → Result Activity ℕ
activity_judged h ns acts =
    cond (nat_lt 0 h.pairs) (Err 3) (cond (activity_fits h.capacities (activity_of ns)) (cond (has_room h.activities most_activities acts) (Ok (activity_of ns)) (Err 6)) (Err 4))

abbrev pub pair_judged : Head → Kind → List ℕ → List Pair → Result Pair ℕ
pair_judged h k ns ps =
    cond (proper h.activities (pair_of k ns) && follows (take h.pairs ps) (pair_of k ns)) (cond (has_room h.pairs most_pairs ps) (Ok (pair_of k ns)) (Err 6)) (Err 5)

abbrev pub activity_more : Head → Head
activity_more h = record { activities = h.activities + 1; resources = h.resources; capacities = h.capacities; pairs = h.pairs }

abbrev pub pair_more : Head → Head
pair_more h = record { activities = h.activities; resources = h.resources; capacities = h.capacities; pairs = h.pairs + 1 }

abbrev pub lettered : LineKind → Bool
lettered Capacities = true
lettered Job = true
lettered (Pairing k) = not (is_blank k)
lettered Trailer = true

-- the line has a letter, and as many numbers as a line of its kind may have
pub record Ready (l : Line) : Type 0 where
  pub lettered : lettered l.kind ≡ true
  pub enough : fewest 0 l.kind ≤ length l.numbers.items
  pub few : length l.numbers.items ≤ most most_resources l.kind

-- a record was put at place i of the table, and the head is now h; or the line was refused and the table is as it was
abbrev pub Put : {A : Type 0} → Result A ℕ → ℕ → Head → ℕ → List A → Result Head Refusal → List A → Type 0
Put (Ok a) place h i xs r ys = (r ≡ Ok h) × (ys ≡ slice_set xs i a)
Put (Err n) place h i xs r ys = (answer r ≡ Err (refused n place)) × (ys ≡ xs)

-- the tables hold the project p, and r is its head; or the line was refused
abbrev pub Took : Result Project ℕ → ℕ → List Activity → List Pair → Result Head Refusal → List Activity → List Pair → Type 0
Took (Ok p) place acts ps r acts' ps' = (r ≡ Ok (head_of p)) × (acts' ≡ filled p.activities acts) × (ps' ≡ filled p.pairs ps) × Kept (Some (head_of p)) acts' ps'
Took (Err n) place acts ps r acts' ps' = answer r ≡ Err (refused n place)

abbrev pub trailer_told : Option Found → Option Trailed
trailer_told None = None
trailer_told (Some t) = Some (record { place = t.place; start = t.start; count = t.count })

-- the last step, by the head of the lines and their number
abbrev pub closing : Found → ℕ → Option Head → Result Head Refused
closing t n None = Err (refused 7 t.place)
closing t n (Some h) = cond (t.count == n && nat_le 1 h.activities) (Ok h) (Err (refused 7 t.place))

-- the tables hold the project that was read, and r is its head; or r says why it was refused
abbrev pub Reads : Result Project Refused → List Activity → List Pair → Result Head Refusal → List Activity → List Pair → Type 0
Reads (Ok p) acts ps r acts' ps' = (r ≡ Ok (head_of p)) × (acts' ≡ filled p.activities acts) × (ps' ≡ filled p.pairs ps)
Reads (Err e) acts ps r acts' ps' = answer r ≡ Err e
