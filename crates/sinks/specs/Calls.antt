-- What each call of a sink answers, and what it does. Assumes nothing.
use Rattle.std.specs.Prelude.{◌≡◌, ℕ, cond, ◌&&◌, List, [], ◌∷◌, ◌++◌, ℤ, Ok, Err, Result, nat_le, nat_lt}
use Rattle.project.specs.declared.refusal.Refusal.{Refusal}
use Rattle.project.specs.Refusals.{Refused, told, refused}
use Rattle.sinks.specs.Clauses.{clausal}
use Rattle.sinks.specs.Meanings.{Meaning, Unchanged, Opened, Added, Kept, Struck, is_open}

-- at this count no clause fits
abbrev pub most_clauses : ℕ
most_clauses = 2000000000

-- accepted, or refused with a number and values
abbrev pub Verdict : Type 0
Verdict = Result (Unit {0}) Refused

abbrev pub accepted : Verdict
accepted = Ok tt

-- refused with this number, which names no place
abbrev pub no : ℕ → Verdict
no number = Err (refused number 0)

-- what a result says, whatever else it hands out
abbrev pub verdict : {A : Type 0} → Result A Refusal → Verdict
verdict (Ok _) = Ok tt
verdict (Err e) = Err (told e)

-- The answers.

abbrev pub opening : Meaning → Verdict
opening m = cond (is_open m.batch) (no 15) accepted

-- for a clause of this cost where a batch is open
abbrev pub taking : List ℤ → (cost count room : ℕ) → Verdict
taking c cost count room = cond (clausal c) (cond (nat_le cost room && nat_lt count most_clauses) accepted (no 16)) (no 24)

abbrev pub adding : List ℤ → Meaning → Verdict
adding c m = cond (is_open m.batch) (taking c (m.cost c) m.count m.room) (no 23)

-- for keeping and for striking
abbrev pub closing : Meaning → Verdict
closing m = cond (is_open m.batch) accepted (no 23)

-- The whole call: its answer, and this done where it is accepted, and nothing where it is refused.

abbrev pub Does : {A : Type 0} → Result A Refusal → (Done Nothing : Type 0) → Type 0
Does (Ok _) Done Nothing = Done
Does (Err _) Done Nothing = Nothing

pub record Ends {A : Type 0} (r : Result A Refusal) (answer : Verdict) (Done Nothing : Type 0) : Type 0 where
  pub answers : verdict r ≡ answer
  pub does : Does r Done Nothing

abbrev pub Open : {A : Type 0} → Result A Refusal → (m n : Meaning) → Type 0
Open r m n = Ends r (opening m) (Opened m n) (Unchanged m n)

abbrev pub Add : List ℤ → Result (Unit {0}) Refusal → (m n : Meaning) → Type 0
Add c r m n = Ends r (adding c m) (Added c m n) (Unchanged m n)

abbrev pub Keep : Result (Unit {0}) Refusal → (m n : Meaning) → Type 0
Keep r m n = Ends r (closing m) (Kept m n) (Unchanged m n)

abbrev pub Strike : Result (Unit {0}) Refusal → (m n : Meaning) → Type 0
Strike r m n = Ends r (closing m) (Struck m n) (Unchanged m n)

-- The order of the clauses, which is silent beside the six: `P before since` says that the clauses `before` were added before the
-- batch was opened, and `since` from then on, both in their order. Where no batch is open, all were added before.

abbrev pub Order : Type 1
Order = (before since : List (List ℤ)) → Type 0

-- no clause was added yet
abbrev pub Empty : Order → Type 0
Empty P = P [] []

abbrev pub Carried : (f g : (before since : List (List ℤ)) → List (List ℤ)) → (P Q : Order) → Type 0
Carried f g P Q = (before since : List (List ℤ)) → P before since → Q (f before since) (g before since)

-- all that was added stands before the batch: when it is opened, and when it is kept
abbrev pub Settled : (P Q : Order) → Type 0
Settled = Carried (λ before since. before ++ since) (λ _ _. [])

abbrev pub Appended : List ℤ → (P Q : Order) → Type 0
Appended c = Carried (λ before _. before) (λ _ since. since ++ c ∷ [])

-- only what was added before the batch is left
abbrev pub Reverted : (P Q : Order) → Type 0
Reverted = Carried (λ before _. before) (λ _ _. [])

abbrev pub Untouched : (P Q : Order) → Type 0
Untouched = Carried (λ before _. before) (λ _ since. since)

-- the whole call, by the order: this done where it is accepted, and nothing where it is refused
abbrev pub Orders : {A : Type 0} → Result A Refusal → (Done : (P Q : Order) → Type 0) → (P Q : Order) → Type 0
Orders r Done P Q = Does r (Done P Q) (Untouched P Q)
