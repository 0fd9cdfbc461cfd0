-- A project, as a head and two lent tables give it, and the rules that it keeps. Assumes nothing.
use Rattle.std.specs.Prelude.{◌≡◌, ℕ, ◌<◌, ◌≤◌, Bool, true, false, not, ◌&&◌, ◌||◌, List, [], ◌∷◌, ◌++◌, length, take, drop, replicate, count_by, ◌==◌, ◌≢◌, nat_le, nat_lt, slice_index, slice_index_or}
use Rattle.std.specs.List.{AllByRecursion, list_all, list_any}
use Rattle.project.specs.declared.tables.Activity.{Activity}
use Rattle.project.specs.declared.tables.Head.{Head}
use Rattle.project.specs.declared.tables.Kind.{Kind}
use Rattle.project.specs.declared.tables.Kind.TheVariants.{Blank, And, Or, Bi}
use Rattle.project.specs.declared.tables.Pair.{Pair}

-- the most of each thing that a project may have
abbrev pub most_activities : ℕ
most_activities = 62

abbrev pub most_resources : ℕ
most_resources = 4

abbrev pub most_capacity : ℕ
most_capacity = 50

abbrev pub most_duration : ℕ
most_duration = 60

abbrev pub most_pairs : ℕ
most_pairs = 256

abbrev pub most_or_predecessors : ℕ
most_or_predecessors = 8

-- A project. `capacities`, and the demands of each activity, have a place for each resource that there can be; the
-- project has the first `resources` of them.
pub record Project : Type 0 where
  pub resources : ℕ
  pub capacities : List ℕ
  pub activities : List Activity
  pub pairs : List Pair

-- the project of a head and two tables: what lies past its counts is not looked at
abbrev pub project_of : Head → List Activity → List Pair → Project
project_of h acts ps = record { resources = h.resources; capacities = h.capacities; activities = take h.activities acts; pairs = take h.pairs ps }

abbrev pub head_of : Project → Head
head_of p = record { activities = length p.activities; resources = p.resources; capacities = p.capacities; pairs = length p.pairs }

-- the table xs with the records of `front` in its first places
abbrev pub filled : {A : Type 0} → List A → List A → List A
filled front xs = front ++ drop (length front) xs

-- the zeroed records
abbrev pub blank_activity : Activity
blank_activity = record { duration = 0; demands = replicate most_resources 0 }

abbrev pub blank_pair : Pair
blank_pair = record { kind = Blank; first = 0; second = 0 }

abbrev pub capacity : Project → ℕ → ℕ
capacity p k = slice_index p.capacities k

abbrev pub demand : Activity → ℕ → ℕ
demand a k = slice_index a.demands k

-- the arrays of a project's records are as long as their type says
pub record Shaped (p : Project) : Type 0 where
  pub capacities : length p.capacities ≡ most_resources
  pub demands : AllByRecursion (λ a. length a.demands ≡ most_resources) p.activities

abbrev pub is_blank : Kind → Bool
is_blank Blank = true
is_blank And = false
is_blank Or = false
is_blank Bi = false

abbrev pub is_or : Kind → Bool
is_or Blank = false
is_or And = false
is_or Or = true
is_or Bi = false

-- it is an OR pair into activity j
abbrev pub or_into : ℕ → Pair → Bool
or_into j q = is_or q.kind && q.second == j

-- how many OR predecessors the pairs give to activity j
abbrev pub or_predecessors : ℕ → List Pair → ℕ
or_predecessors j ps = count_by (or_into j) ps

-- no pair stands twice
abbrev pub Once : List Pair → Type 0
Once ps = (i j : ℕ) (d : Pair) → i < j → j < length ps → slice_index_or ps i d ≢ slice_index_or ps j d

-- no activity has an OR predecessor too many
abbrev pub Few : List Pair → Type 0
Few ps = (j : ℕ) → or_predecessors j ps ≤ most_or_predecessors

-- q has one of the three kinds, and names two of n activities, the lower first
pub record Proper (n : ℕ) (q : Pair) : Type 0 where
  pub kind : is_blank q.kind ≡ false
  pub first : 1 ≤ q.first
  pub rising : q.first < q.second
  pub second : q.second ≤ n

-- the rules of a project
pub record Rules (p : Project) : Type 0 where
  pub some : 1 ≤ length p.activities
  pub activities : length p.activities ≤ most_activities
  pub resources : p.resources ≤ most_resources
  pub capacities : (k : ℕ) → k < p.resources → capacity p k ≤ most_capacity
  pub unused : (k : ℕ) → p.resources ≤ k → capacity p k ≡ 0
  pub durations : AllByRecursion (λ a. a.duration ≤ most_duration) p.activities
  -- past the last resource the capacity is 0, and so is each demand
  pub demands : AllByRecursion (λ a. (k : ℕ) → demand a k ≤ capacity p k) p.activities
  pub pairs : length p.pairs ≤ most_pairs
  pub proper : AllByRecursion (Proper (length p.activities)) p.pairs
  pub once : Once p.pairs
  pub or_few : Few p.pairs

-- a head and two tables give a project that keeps the rules, and hold all of it
pub record Sound (h : Head) (acts : List Activity) (ps : List Pair) : Type 0 where
  pub activities : h.activities ≤ length acts
  pub pairs : h.pairs ≤ length ps
  pub rules : Rules (project_of h acts ps)

-- The same as a test.

abbrev pub same_kind : Kind → Kind → Bool
same_kind Blank k = is_blank k
same_kind And Blank = false
same_kind And And = true
same_kind And Or = false
same_kind And Bi = false
same_kind Or k = is_or k
same_kind Bi Blank = false
same_kind Bi And = false
same_kind Bi Or = false
same_kind Bi Bi = true

abbrev pub same_pair : Pair → Pair → Bool
same_pair q r = same_kind q.kind r.kind && (q.first == r.first && q.second == r.second)

-- r stands among the pairs
abbrev pub among : Pair → List Pair → Bool
among r qs = list_any (λ q. same_pair q r) qs

abbrev pub proper : ℕ → Pair → Bool
proper n q = not (is_blank q.kind) && (nat_le 1 q.first && (nat_lt q.first q.second && nat_le q.second n))

-- q can follow the pairs `before`: it is no repeat, and no OR predecessor too many
abbrev pub follows : List Pair → Pair → Bool
follows before q =
    not (among q before) && (not (is_or q.kind) || nat_lt (or_predecessors q.second before) most_or_predecessors)

-- a pair of n activities is proper and can follow those before it, at its place among all
abbrev pub at_place : ℕ → List Pair → ℕ × Pair → Bool
at_place n ps p = proper n p.1 && follows (take p.0 ps) p.1

abbrev pub pairs_fit : ℕ → List Pair → List Pair → Bool
pairs_fit n before [] = true
pairs_fit n before (q ∷ qs) = (proper n q && follows before q) && pairs_fit n (before ++ q ∷ []) qs

-- each number is at most the one in its place
abbrev pub within : List ℕ → List ℕ → Bool
within [] limits = true
within (x ∷ xs) [] = nat_le x 0 && within xs []
within (x ∷ xs) (y ∷ ys) = nat_le x y && within xs ys

abbrev pub activity_fits : List ℕ → Activity → Bool
activity_fits capacities a = nat_le a.duration most_duration && within a.demands capacities

abbrev pub activities_fit : List ℕ → List Activity → Bool
activities_fit capacities acts = list_all (activity_fits capacities) acts

-- the first n are at most the limit, and the others 0
abbrev pub capacities_fit : ℕ → List ℕ → Bool
capacities_fit n cs = list_all (λ c. nat_le c most_capacity) (take n cs) && list_all (λ c. nat_le c 0) (drop n cs)

abbrev pub head_fits : Head → List Activity → List Pair → Bool
head_fits h acts ps =
    nat_le 1 h.activities && (nat_le h.activities most_activities && (nat_le h.activities (length acts)
    && (nat_le h.resources most_resources && (nat_le h.pairs most_pairs && nat_le h.pairs (length ps)))))

-- the head and the tables keep the rules
abbrev pub sound : Head → List Activity → List Pair → Bool
sound h acts ps =
    head_fits h acts ps && (capacities_fit h.resources h.capacities
    && (activities_fit h.capacities (take h.activities acts) && pairs_fit h.activities [] (take h.pairs ps)))
