-- Every refusal, by its number and its values. Assumes nothing.
use Rattle.std.specs.Prelude.{ℕ, List, [], ◌∷◌, Ok, Err, Result, slice_index}
use Rattle.project.specs.declared.refusal.Refusal.{Refusal}
use Rattle.project.specs.declared.refusal.Refusal.TheVariants.{NotABook, BadForm, OutOfOrder, OverLimit, BadPair, TooMany, WrongCount, RulesBroken, ShortBuffer, SinkInUse, NoRoom, NoBatch, NotAClause, NoMemory}

-- What a refusal tells: a number for its case, and the values that the case carries, the place first.
pub record Refused : Type 0 where
  pub number : ℕ
  pub values : List ℕ

-- the refusal of that number at that place
abbrev pub refused : ℕ → ℕ → Refused
refused n p = record { number = n; values = p ∷ [] }

-- the number and the values of every case
abbrev pub told : Refusal → Refused
told NotABook = refused 1 0
told (BadForm p) = refused 2 p
told (OutOfOrder p) = refused 3 p
told (OverLimit p) = refused 4 p
told (BadPair p) = refused 5 p
told (TooMany p) = refused 6 p
told (WrongCount p) = refused 7 p
told RulesBroken = refused 8 0
told ShortBuffer = refused 9 0
told SinkInUse = refused 15 0
told (NoRoom p) = refused 16 p
told NoBatch = refused 23 0
told NotAClause = refused 24 0
told NoMemory = refused 99 0

abbrev pub number : Refusal → ℕ
number r = (told r).number

-- the first of the values
abbrev pub place : Refusal → ℕ
place r = slice_index (told r).values 0

-- what a call answers, its refusal by what that tells
abbrev pub answer : {A : Type 0} → Result A Refusal → Result A Refused
answer (Ok a) = Ok a
answer (Err e) = Err (told e)
