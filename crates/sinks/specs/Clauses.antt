-- Assignments, literals and clauses. Assumes nothing.
use Rattle.std.specs.Prelude.{ℕ, suc, Bool, not, ◌&&◌, List, length, ℤ, pos, negsuc, ◌==◌, nat_le, unsigned_abs}
use Rattle.std.specs.List.{list_all, list_any}

-- the variables are 1 to this one
abbrev pub last_variable : ℕ
last_variable = 99999999

-- true or false for each variable; what it says of other numbers matters to nobody
abbrev pub Assignment : Type 0
Assignment = ℕ → Bool

-- the variable that v or -v names
abbrev pub variable : ℤ → ℕ
variable = unsigned_abs

abbrev pub literal : ℤ → Bool
literal l = nat_le 1 (variable l) && nat_le (variable l) last_variable

abbrev pub literals : List ℤ → Bool
literals = list_all literal

-- a clause is one literal or more
abbrev pub clausal : List ℤ → Bool
clausal c = not (length c == 0) && literals c

-- v is true where the assignment makes v true, and -v where it does not
abbrev pub holds : Assignment → ℤ → Bool
holds a (pos v) = a v
holds a (negsuc v) = not (a (suc v))

-- it makes one of the literals true
abbrev pub meets : Assignment → List ℤ → Bool
meets a = list_any (holds a)

-- it meets each of the clauses
abbrev pub meets_all : Assignment → List (List ℤ) → Bool
meets_all a = list_all (meets a)

-- each of them is a clause
abbrev pub clauses : List (List ℤ) → Bool
clauses = list_all clausal
