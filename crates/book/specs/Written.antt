-- The written form of a project. Assumes nothing.
use Rattle.std.specs.Prelude.{ℕ, cond, List, [], ◌∷◌, ◌++◌, map, length, take, Ok, Err, Result, nat_le}
use Rattle.std.specs.List.{flat_map}
use Rattle.project.specs.Project.{Project, project_of, sound, filled}
use Rattle.project.specs.Refusals.{Refused, refused}
use Rattle.project.specs.declared.tables.Activity.{Activity}
use Rattle.project.specs.declared.tables.Head.{Head}
use Rattle.project.specs.declared.tables.Pair.{Pair}
use Rattle.project.specs.declared.tables.Tables.{Tables}
use Rattle.book.specs.Lines.{Content, line}
use Rattle.book.specs.declared.lines.LineKind.TheVariants.{Capacities, Job, Pairing, Trailer}

abbrev pub capacities_line : Project → Content
capacities_line p = record { kind = Capacities; numbers = take p.resources p.capacities }

abbrev pub activity_line : ℕ → Activity → Content
activity_line resources a = record { kind = Job; numbers = a.duration ∷ take resources a.demands }

abbrev pub pair_line : Pair → Content
pair_line q = record { kind = Pairing q.kind; numbers = q.first ∷ q.second ∷ [] }

-- the last line: where the body starts, and how many lines it has
abbrev pub trailer_line : ℕ → ℕ → Content
trailer_line start count = record { kind = Trailer; numbers = start ∷ count ∷ [] }

-- the capacities, then the activities, then the pairs
abbrev pub body : Project → List Content
body p =
    capacities_line p ∷ (map (activity_line p.resources) p.activities ++ map pair_line p.pairs)

-- the written form, to stand after a cover of so many bytes
abbrev pub written : ℕ → Project → List ℕ
written cover p = flat_map line (body p) ++ line (trailer_line cover (length (body p)))

-- What writing answers, and what it leaves in the lent bytes.

abbrev pub writing : Head → List Activity → List Pair → List ℕ → Result ℕ Refused
writing h acts ps out =
    let text = written 0 (project_of h acts ps) in
    cond (sound h acts ps) (cond (nat_le (length text) (length out)) (Ok (length text)) (Err (refused 9 0))) (Err (refused 8 0))

-- the same for tables
abbrev pub writing_of : Tables → List ℕ → Result ℕ Refused
writing_of t out = writing t.head t.activities.now t.pairs.now out

abbrev pub bytes_after : Result ℕ Refused → List ℕ → List ℕ → List ℕ
bytes_after (Ok n) text out = filled text out
bytes_after (Err e) text out = out
