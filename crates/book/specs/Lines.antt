-- The lines of a book and what a line says. Assumes nothing.
use Rattle.std.specs.Prelude.{ℕ, suc, Bool, cond, not, ◌&&◌, ◌||◌, List, [], ◌∷◌, ◌++◌, length, Some, None, decimal, Option, ◌==◌, nat_le, slice_index}
use Rattle.std.specs.List.{flat_map}
use Rattle.std.specs.Str.Parse.{digits_value}
use Rattle.std.specs.Str.{all_ascii_digits}
use Rattle.project.specs.Project.{most_resources}
use Rattle.project.specs.declared.tables.Kind.{Kind}
use Rattle.project.specs.declared.tables.Kind.TheVariants.{Blank, And, Or, Bi}
use Rattle.book.specs.declared.lines.LineKind.{LineKind}
use Rattle.book.specs.declared.lines.LineKind.TheVariants.{Capacities, Job, Pairing, Trailer}

-- the most bytes of a book
abbrev pub most_bytes : ℕ
most_bytes = 65535

-- the byte that ends a line
abbrev pub lf : ℕ
lf = 10

-- the byte before each number
abbrev pub space : ℕ
space = 32

-- What a line says: its kind, which its letter tells, and its numbers.
pub record Content : Type 0 where
  pub kind : LineKind
  pub numbers : List ℕ

-- Writing a line.

-- no line is of a blank pair
abbrev pub pair_letter : Kind → ℕ
pair_letter Blank = 0
pair_letter And = 65
pair_letter Or = 79
pair_letter Bi = 66

-- C, J, A, O, B or Z
abbrev pub letter : LineKind → ℕ
letter Capacities = 67
letter Job = 74
letter (Pairing k) = pair_letter k
letter Trailer = 90

abbrev pub spaced : ℕ → List ℕ
spaced n = space ∷ decimal n

-- the letter, then each number after a space
abbrev pub spelled : Content → List ℕ
spelled x = letter x.kind ∷ flat_map spaced x.numbers

-- a line's text with the LF that ends it
abbrev pub with_lf : List ℕ → List ℕ
with_lf l = l ++ lf ∷ []

abbrev pub line : Content → List ℕ
line x = with_lf (spelled x)

-- Reading a line.

abbrev pub onto : ℕ → List (List ℕ) → List (List ℕ)
onto b [] = (b ∷ []) ∷ []
onto b (l ∷ ls) = (b ∷ l) ∷ ls

-- the lines of bytes that end in LF, each without its LF
abbrev pub lines : List ℕ → List (List ℕ)
lines [] = []
lines (b ∷ bs) = cond (b == lf) ([] ∷ lines bs) (onto b (lines bs))

-- the words of a line: the parts between its spaces
abbrev pub words : List ℕ → List (List ℕ)
words [] = [] ∷ []
words (b ∷ bs) = cond (b == space) ([] ∷ words bs) (onto b (words bs))

abbrev pub most_digits : ℕ
most_digits = 5

-- one to five digits, with no needless zero
abbrev pub is_numeral : List ℕ → Bool
is_numeral ds =
    nat_le 1 (length ds) && (nat_le (length ds) most_digits && (all_ascii_digits ds && (not (slice_index ds 0 == 48) || length ds == 1)))

abbrev pub numeral : List ℕ → Option ℕ
numeral ds = cond (is_numeral ds) (Some (digits_value 10 ds)) None

abbrev pub before : Option ℕ → Option (List ℕ) → Option (List ℕ)
before None o = None
before (Some n) None = None
before (Some n) (Some ns) = Some (n ∷ ns)

-- the numbers that the words write, where each is a numeral
abbrev pub numerals : List (List ℕ) → Option (List ℕ)
numerals [] = Some []
numerals (w ∷ ws) = before (numeral w) (numerals ws)

abbrev pub kind_of : ℕ → Option LineKind
kind_of b =
    cond (b == letter Capacities) (Some Capacities) (cond (b == letter Job) (Some Job) (cond (b == letter (Pairing And)) (Some (Pairing And)) (cond (b == letter (Pairing Or)) (Some (Pairing Or)) (cond (b == letter (Pairing Bi)) (Some (Pairing Bi)) (cond (b == letter Trailer) (Some Trailer) None)))))

-- the kind that a first word tells: it is one letter
abbrev pub kind_word : List ℕ → Option LineKind
kind_word [] = None
kind_word (b ∷ []) = kind_of b
kind_word (b ∷ c ∷ bs) = None

abbrev pub content : Option LineKind → Option (List ℕ) → Option Content
content None o = None
content (Some k) None = None
content (Some k) (Some ns) = Some (record { kind = k; numbers = ns })

abbrev pub content_of : List (List ℕ) → Option Content
content_of [] = None
content_of (w ∷ ws) = content (kind_word w) (numerals ws)

-- How many numbers a line of a kind may have, where there are so many resources.
abbrev pub fewest : ℕ → LineKind → ℕ
fewest resources Capacities = 0
fewest resources Job = suc resources
fewest resources (Pairing k) = 2
fewest resources Trailer = 2

abbrev pub most : ℕ → LineKind → ℕ
most resources Capacities = most_resources
most resources Job = suc resources
most resources (Pairing k) = 2
most resources Trailer = 2

abbrev pub counted : ℕ → Content → Bool
counted resources x =
    nat_le (fewest resources x.kind) (length x.numbers) && nat_le (length x.numbers) (most resources x.kind)

abbrev pub if_counted : ℕ → Option Content → Option Content
if_counted resources None = None
if_counted resources (Some x) = cond (counted resources x) (Some x) None

-- what a line says, where it has the form that its letter asks for
abbrev pub formed : ℕ → List ℕ → Option Content
formed resources l = if_counted resources (content_of (words l))
