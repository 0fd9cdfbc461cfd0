-- Many clauses in one batch: all of them are added, or none. Assumes nothing.
use Rattle.std.specs.Prelude.{◌≡◌, ℕ, ◌+◌, ◌-◌, ◌≤◌, true, false, cond, List, [], ◌∷◌, ◌++◌, map, length, ℤ, Ok, Err, Result}
use Rattle.std.specs.Borrow.{Bor}
use Rattle.project.specs.declared.refusal.Refusal.{Refusal}
use Rattle.project.specs.Refusals.{Refused}
use Rattle.sinks.specs.declared.sink.Sink.{Ghosts as Members}
use Rattle.sinks.specs.Clauses.{clauses, meets_all}
use Rattle.sinks.specs.Meanings.{Meaning, Same, SameBatch, Fixed, Unchanged, Opened, Kept, Struck, meant, is_open}
use Rattle.sinks.specs.Calls.{Verdict, Ends, Order, Carried, Settled, Reverted, accepted, no, taking, most_clauses}

-- what a sink means, by the members of its kind
abbrev pub means : {S B : Type 0} → Members S B → S → Meaning
means g s = meant g.known g.admitted g.count g.room g.cost g.batch s

-- the clauses that the slices hold
abbrev pub held : List (Bor (List ℤ)) → List (List ℤ)
held slices = map (λ slice. slice.now) slices

abbrev pub costs : (List ℤ → ℕ) → List (List ℤ) → ℕ
costs cost [] = 0
costs cost (c ∷ cs) = cost c + costs cost cs

-- What is answered where a batch is open.

-- when each of them is accepted
pub record Takes (cs : List (List ℤ)) (m : Meaning) : Type 0 where
  pub clauses : clauses cs ≡ true
  pub room : costs m.cost cs ≤ m.room
  pub count : length cs ≤ most_clauses - m.count

-- when this is what refuses one of them, each before it accepted
pub record Stops (cs : List (List ℤ)) (m : Meaning) (refusal : Refused) : Type 0 where
  pub before : List (List ℤ)
  pub clause : List ℤ
  pub after : List (List ℤ)
  pub parts : cs ≡ before ++ clause ∷ after
  pub taken : Takes before m
  pub refused : taking clause (m.cost clause) (m.count + length before) (m.room - costs m.cost before) ≡ Err refusal

-- the first verdict, unless it accepts
abbrev pub first : (v w : Verdict) → Verdict
first (Ok _) w = w
first (Err x) w = Err x

-- the answer to all of them, one by one
abbrev pub taking_all : List (List ℤ) → (cost : List ℤ → ℕ) → (count room : ℕ) → Verdict
taking_all [] cost count room = accepted
taking_all (c ∷ cs) cost count room = first (taking c (cost c) count room) (taking_all cs cost (count + 1) (room - cost c))

-- the answer to all of them in a batch of their own
abbrev pub batching : List (List ℤ) → Meaning → Verdict
batching cs m = cond (is_open m.batch) (no 15) (taking_all cs m.cost m.count m.room)

-- What all of them do to the meaning, and to the order.

-- added to the open batch
pub record AddedAll (cs : List (List ℤ)) (m n : Meaning) : Type 0 where
  pub fixed : Fixed m n
  pub admitted : Same (λ a. m.admitted a × (meets_all a cs ≡ true)) n.admitted
  pub count : n.count ≡ m.count + length cs
  pub room : n.room + costs m.cost cs ≡ m.room
  pub batch : SameBatch m.batch n.batch
  pub taken : Takes cs m

-- added in a batch of their own, which was kept
pub record Filled (cs : List (List ℤ)) (m n : Meaning) : Type 0 where
  pub fixed : Fixed m n
  pub admitted : Same (λ a. m.admitted a × (meets_all a cs ≡ true)) n.admitted
  pub count : n.count ≡ m.count + length cs
  pub room : n.room + costs m.cost cs ≡ m.room
  pub batch : is_open n.batch ≡ false
  pub taken : Takes cs m

abbrev pub AppendedAll : List (List ℤ) → (P Q : Order) → Type 0
AppendedAll cs = Carried (λ before _. before) (λ _ since. since ++ cs)

-- where no batch is open before and after: these follow all that was added, or nothing does
abbrev pub Grown : List (List ℤ) → (P Q : Order) → Type 0
Grown cs P Q = (before : List (List ℤ)) → P before [] → Q (before ++ cs) []

abbrev pub Intact : (P Q : Order) → Type 0
Intact P Q = (before : List (List ℤ)) → P before [] → Q before []

-- the whole call that adds all or none
abbrev pub AddAll : List (List ℤ) → Result (Unit {0}) Refusal → (m n : Meaning) → Type 0
AddAll cs r m n = Ends r (batching cs m) (Filled cs m n) (Unchanged m n)

-- A sink before and after, by both its meaning and its order.

-- a batch was opened where none was open
pub record Opens {S B : Type 0} (g : Members S B) (s t : S) : Type 0 where
  pub none_open : is_open (g.batch s) ≡ false
  pub meaning : Opened (means g s) (means g t)
  pub order : Settled (g.added s) (g.added t)

-- all of these clauses were added to the open batch, in this order
pub record Adds {S B : Type 0} (g : Members S B) (cs : List (List ℤ)) (s t : S) : Type 0 where
  pub meaning : AddedAll cs (means g s) (means g t)
  pub order : AppendedAll cs (g.added s) (g.added t)

-- the batch was kept
pub record Keeps {S B : Type 0} (g : Members S B) (s t : S) : Type 0 where
  pub meaning : Kept (means g s) (means g t)
  pub order : Settled (g.added s) (g.added t)

-- the batch was struck
pub record Strikes {S B : Type 0} (g : Members S B) (s t : S) : Type 0 where
  pub meaning : Struck (means g s) (means g t)
  pub order : Reverted (g.added s) (g.added t)

-- all of these clauses were added in a batch of their own, in this order
pub record Fills {S B : Type 0} (g : Members S B) (cs : List (List ℤ)) (s t : S) : Type 0 where
  pub meaning : Filled cs (means g s) (means g t)
  pub order : Grown cs (g.added s) (g.added t)

-- no clause was added
pub record Spares {S B : Type 0} (g : Members S B) (s t : S) : Type 0 where
  pub meaning : Unchanged (means g s) (means g t)
  pub order : Intact (g.added s) (g.added t)

-- The laws of batches.

-- what is added after others makes one list with them
abbrev pub Appends : {S B : Type 0} → Members S B → Type 0
Appends {S} g = (xs ys : List (List ℤ)) (s t u : S) → Adds g xs s t → Adds g ys t u → Adds g (xs ++ ys) s u

-- a batch that is kept adds all of its clauses
abbrev pub KeepsWhole : {S B : Type 0} → Members S B → Type 0
KeepsWhole {S} g = (cs : List (List ℤ)) (s t u v : S) → Opens g s t → Adds g cs t u → Keeps g u v → Fills g cs s v

-- a batch that is struck adds none
abbrev pub StrikesWhole : {S B : Type 0} → Members S B → Type 0
StrikesWhole {S} g = (cs : List (List ℤ)) (s t u v : S) → Opens g s t → Adds g cs t u → Strikes g u v → Spares g s v
