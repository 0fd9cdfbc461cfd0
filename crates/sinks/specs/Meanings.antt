-- The six things that a sink means, and what a call does to them. Assumes nothing.
use Rattle.std.specs.Prelude.{◌≡◌, ℕ, ◌+◌, ◌≤◌, Bool, true, false, List, ℤ}
use Rattle.std.proofs.Math.Option.{Option, some, none}
use Rattle.sinks.specs.Clauses.{Assignment, meets}

-- what is admitted, counted and free at a moment
pub record Standing : Type 1 where
  pub admitted : Assignment → Type 0
  pub count : ℕ
  pub room : ℕ

-- `batch` is whether one is open, and how the sink stood when it was opened
pub record Meaning : Type 1 where
  pub known : Assignment → Type 0
  pub admitted : Assignment → Type 0
  pub count : ℕ
  pub room : ℕ
  pub cost : List ℤ → ℕ
  pub batch : Option Standing

-- the meaning of the sink s, by the six members of its kind
abbrev pub meant : {S : Type 0} → (known admitted : S → Assignment → Type 0) → (count room : S → ℕ) → (cost : S → List ℤ → ℕ) → (batch : S → Option Standing) → S → Meaning
meant known admitted count room cost batch s = record {
  known = known s;
  admitted = admitted s;
  count = count s;
  room = room s;
  cost = cost s;
  batch = batch s;
}

-- a relation of what a sink means before and after a call
abbrev pub turns : {S : Type 0} → (Meaning → Meaning → Type 0) → (known admitted : S → Assignment → Type 0) → (count room : S → ℕ) → (cost : S → List ℤ → ℕ) → (batch : S → Option Standing) → (s t : S) → Type 0
turns R known admitted count room cost batch s t = R (meant known admitted count room cost batch s) (meant known admitted count room cost batch t)

abbrev pub standing : Meaning → Standing
standing m = record { admitted = m.admitted; count = m.count; room = m.room }

abbrev pub is_open : Option Standing → Bool
is_open none = false
is_open (some _) = true

-- Two meanings compared: predicates assignment by assignment.

abbrev pub Same : (P Q : Assignment → Type 0) → Type 0
Same P Q = (a : Assignment) → (P a → Q a) × (Q a → P a)

pub record SameStanding (s t : Standing) : Type 0 where
  pub admitted : Same s.admitted t.admitted
  pub count : s.count ≡ t.count
  pub room : s.room ≡ t.room

abbrev pub SameBatch : (b d : Option Standing) → Type 0
SameBatch none none = Unit {0}
SameBatch none (some t) = ⊥
SameBatch (some s) none = ⊥
SameBatch (some s) (some t) = SameStanding s t

-- what never changes
pub record Fixed (m n : Meaning) : Type 0 where
  pub known : Same m.known n.known
  pub cost : (c : List ℤ) → m.cost c ≡ n.cost c

pub record Unchanged (m n : Meaning) : Type 0 where
  pub fixed : Fixed m n
  pub now : SameStanding (standing m) (standing n)
  pub batch : SameBatch m.batch n.batch

-- What an accepted call does.

-- a batch is open now that remembers how the sink stands
pub record Opened (m n : Meaning) : Type 0 where
  pub fixed : Fixed m n
  pub now : SameStanding (standing m) (standing n)
  pub batch : SameBatch (some (standing m)) n.batch

-- one clause more, paid from the room
pub record Added (c : List ℤ) (m n : Meaning) : Type 0 where
  pub fixed : Fixed m n
  pub admitted : Same (λ a. m.admitted a × (meets a c ≡ true)) n.admitted
  pub count : n.count ≡ m.count + 1
  pub room : n.room + m.cost c ≡ m.room
  pub batch : SameBatch m.batch n.batch

-- the batch is closed, and what was added stays
pub record Kept (m n : Meaning) : Type 0 where
  pub fixed : Fixed m n
  pub now : SameStanding (standing m) (standing n)
  pub batch : is_open n.batch ≡ false

-- the batch is closed, and the sink stands as it did when it was opened
pub record Struck (m n : Meaning) : Type 0 where
  pub fixed : Fixed m n
  pub now : SameBatch m.batch (some (standing n))
  pub batch : is_open n.batch ≡ false

-- a sink to which nothing was done yet, with so much room
pub record New (free : ℕ) (m : Meaning) : Type 0 where
  pub admitted : Same m.known m.admitted
  pub count : m.count ≡ 0
  pub room : m.room ≡ free
  pub batch : is_open m.batch ≡ false

-- for each setting of the variables 1 to any last there is a known assignment with that setting
abbrev pub Wide : Meaning → Type 0
Wide m = (last : ℕ) (setting : Assignment) → (a : Assignment) × m.known a × ((v : ℕ) → 1 ≤ v → v ≤ last → a v ≡ setting v)
