-- The verdict on many clauses: when it accepts, when it refuses, and of two lists in a row. Assumes nothing.
use Rattle.std.proofs.Common.{◌≡◌, ℕ, ◌+◌, ◌-◌, ◌<◌, ◌≤◌, Bool, true, false, cond, ◌&&◌, ltb, leb, ◌↔◌, List, [], ◌∷◌, ◌++◌, length, ℤ, Ok, Err, sym, refl, ap, ◌∙◌, ap₂, arith}
use mathlib.Core.Path.{fun_ext}
use Rattle.std.proofs.lemmas.Bool.{and_parts, and_from, leb-true, ltb-true, le-leb, lt-ltb, cond-true, cond-false}
use Rattle.project.specs.Refusals.{Refused}
use Rattle.sinks.specs.Clauses.{clausal, clauses}
use Rattle.sinks.specs.Meanings.{Meaning, SameStanding, Fixed, is_open, standing}
use Rattle.sinks.specs.Calls.{Verdict, accepted, no, taking, most_clauses}
use Rattle.sinks.specs.Batches.{Takes, Stops, AddedAll, batching, costs, first, taking_all}

pub accepted≢refused : {x : Refused} → accepted ≡ Err x → ⊥
accepted≢refused {x} h = let z : ◌≡◌ {A = ℕ} 0 1 = cc in omega arith

-- a test that must hold, and one that must not
pub passes : (b : Bool) (v : Verdict) (number : ℕ) → cond b v (no number) ≡ accepted → (b ≡ true) × (v ≡ accepted)
passes true v number h = (refl, h)
passes false v number h = absurd (accepted≢refused (sym h))

pub avoids : (b : Bool) (v : Verdict) (number : ℕ) → cond b (no number) v ≡ accepted → (b ≡ false) × (v ≡ accepted)
avoids true v number h = absurd (accepted≢refused (sym h))
avoids false v number h = (refl, h)

first_accepts : (v w : Verdict) → first v w ≡ accepted → (v ≡ accepted) × (w ≡ accepted)
first_accepts (Ok _) w h = (refl, h)
first_accepts (Err x) w h = absurd (accepted≢refused (sym h))

first_first : (u v w : Verdict) → first u (first v w) ≡ first (first u v) w
first_first (Ok _) v w = refl
first_first (Err x) v w = refl

record Taken (c : List ℤ) (k n r : ℕ) : Type 0 where
  clause : clausal c ≡ true
  room : k ≤ r
  count : n < most_clauses

taken : (c : List ℤ) (k n r : ℕ) → taking c k n r ≡ accepted → Taken c k n r
taken c k n r h =
    let p = passes (clausal c) _ 24 h in
    let q = and_parts (leb k r) (ltb n most_clauses) (passes (leb k r && ltb n most_clauses) accepted 16 p.1).0 in
    record { clause = p.0; room = leb-true k r q.0; count = ltb-true n most_clauses q.1 }

takes_one : (c : List ℤ) (k n r : ℕ) → Taken c k n r → taking c k n r ≡ accepted
takes_one c k n r t =
    cond-true (clausal c) _ _ t.clause ∙ cond-true (leb k r && ltb n most_clauses) accepted (no 16) (and_from (leb k r) (ltb n most_clauses) (le-leb k r t.room) (lt-ltb n most_clauses t.count))

-- what is left when a clause was paid
abbrev paid : List ℤ → Meaning → Meaning
paid c m = record {
  known = m.known;
  admitted = m.admitted;
  count = m.count + 1;
  room = m.room - m.cost c;
  cost = m.cost;
  batch = m.batch;
}

abbrev answer : List (List ℤ) → Meaning → Verdict
answer cs m = taking_all cs m.cost m.count m.room

pub taking_accepted : (cs : List (List ℤ)) (m : Meaning) → (taking_all cs m.cost m.count m.room ≡ accepted) ↔ Takes cs m
taking_accepted [] m = (λ _. record { clauses = refl; room = omega arith; count = omega arith }, λ _. refl)
taking_accepted (c ∷ cs) m =
    let rest = taking_accepted cs (paid c m) in (
      λ h.
          let p = first_accepts (taking c (m.cost c) m.count m.room) _ h in
          let t = taken c (m.cost c) m.count m.room p.0 in
          let u = rest.0 p.1 in
          record {
            clauses = and_from (clausal c) (clauses cs) t.clause u.clauses;
            room = omega (arith, t.room, u.room);
            count = omega (arith, t.count, u.count);
          },
      λ t.
          let room = t.room in
          let count = t.count in
          let q = and_parts (clausal c) (clauses cs) t.clauses in
          ap₂ first (takes_one c (m.cost c) m.count m.room (record { clause = q.0; room = omega arith; count = omega arith })) (rest.1 (record { clauses = q.1; room = omega arith; count = omega arith })),
    )

alike : (cs : List (List ℤ)) {k k' : List ℤ → ℕ} {n n' r r' : ℕ} → ((c : List ℤ) → k c ≡ k' c) → n ≡ n' → r ≡ r' → taking_all cs k n r ≡ taking_all cs k' n' r'
alike cs {k} {k'} {n} {n'} {r} {r'} e f h = ap (λ cost. taking_all cs cost n r) (fun_ext e) ∙ ap₂ (taking_all cs k') f h

-- Two lists in a row.

pub taking_append : (xs ys : List (List ℤ)) (cost : List ℤ → ℕ) (count room : ℕ) →
    taking_all (xs ++ ys) cost count room ≡ first (taking_all xs cost count room) (taking_all ys cost (count + length xs) (room - costs cost xs))
taking_append [] ys cost n r = alike ys {k = cost} {k' = cost} {n = n} {n' = n + 0} {r = r} {r' = r - 0} (λ c. refl) (omega arith) (omega arith)
taking_append (x ∷ xs) ys cost n r =
    let v = taking x (cost x) n r in
    let w = taking_all xs cost (n + 1) (r - cost x) in
    let same = alike ys {k = cost} {k' = cost} {n = n + 1 + length xs} {n' = n + length (x ∷ xs)} {r = r - cost x - costs cost xs} {r' = r - costs cost (x ∷ xs)} (λ c. refl) (omega arith) (omega arith) in
    ap (first v) (taking_append xs ys cost (n + 1) (r - cost x) ∙ ap (first w) same) ∙ first_first v w _

-- when the first list was added, the answer is to the second alone
pub taking_after : (xs ys : List (List ℤ)) (m n : Meaning) → AddedAll xs m n →
    taking_all (xs ++ ys) m.cost m.count m.room ≡ taking_all ys n.cost n.count n.room
taking_after xs ys m n p =
    let room = p.room in
    let left : m.room - costs m.cost xs ≡ n.room = omega arith in
    taking_append xs ys m.cost m.count m.room ∙ ap₂ first ((taking_accepted xs m).1 p.taken) (alike ys p.fixed.cost (sym p.count) left)

-- What is refused.

pub stops_first : (c : List ℤ) (cs : List (List ℤ)) (m : Meaning) (x : Refused) → taking c (m.cost c) m.count m.room ≡ Err x → Stops (c ∷ cs) m x
stops_first c cs m x h = record {
  before = [];
  clause = c;
  after = cs;
  parts = refl;
  taken = (taking_accepted [] m).0 refl;
  refused = ap₂ (taking c (m.cost c)) (omega arith) (omega arith) ∙ h;
}

later : (c : List ℤ) (cs : List (List ℤ)) (m : Meaning) (x : Refused) → taking c (m.cost c) m.count m.room ≡ accepted → Stops cs (paid c m) x → Stops (c ∷ cs) m x
later c cs m x h t = record {
  before = c ∷ t.before;
  clause = t.clause;
  after = t.after;
  parts = ap (λ (l : List (List ℤ)). c ∷ l) t.parts;
  taken = (taking_accepted (c ∷ t.before) m).0 (ap₂ first h ((taking_accepted t.before (paid c m)).1 t.taken));
  refused = ap₂ (taking t.clause (m.cost t.clause)) (omega arith) (omega arith) ∙ t.refused;
}

stopped : (cs : List (List ℤ)) (m : Meaning) (x : Refused) → answer cs m ≡ Err x → Stops cs m x
stopped [] m x h = absurd (accepted≢refused h)
stopped (c ∷ cs) m x h = by (taking c (m.cost c) m.count m.room) refl h (stopped cs (paid c m) x)
  where
    by : (v : Verdict) → taking c (m.cost c) m.count m.room ≡ v → first v (answer cs (paid c m)) ≡ Err x → (answer cs (paid c m) ≡ Err x → Stops cs (paid c m) x) → Stops (c ∷ cs) m x
    by (Ok _) e k rest = later c cs m x e (rest k)
    by (Err y) e k rest = stops_first c cs m x (e ∙ k)

pub taking_refused : (cs : List (List ℤ)) (m : Meaning) (x : Refused) → (taking_all cs m.cost m.count m.room ≡ Err x) ↔ Stops cs m x
taking_refused cs m x = (
  stopped cs m x,
  λ t.
      ap (λ l. answer l m) t.parts ∙ taking_append t.before (t.clause ∷ t.after) m.cost m.count m.room
      ∙ ap₂ first ((taking_accepted t.before m).1 t.taken) (ap₂ first t.refused refl),
)

-- a longer list stops where its beginning does
pub stops_append : (xs ys : List (List ℤ)) (m : Meaning) (x : Refused) → Stops xs m x → Stops (xs ++ ys) m x
stops_append xs ys m x t =
    (taking_refused (xs ++ ys) m x).0 (taking_append xs ys m.cost m.count m.room ∙ ap₂ first ((taking_refused xs m x).1 t) refl)

pub stops_after : (xs ys : List (List ℤ)) (m n : Meaning) (x : Refused) → AddedAll xs m n → Stops ys n x → Stops (xs ++ ys) m x
stops_after xs ys m n x p t = (taking_refused (xs ++ ys) m x).0 (taking_after xs ys m n p ∙ (taking_refused ys n x).1 t)

pub takes_after : (xs ys : List (List ℤ)) (m n : Meaning) → AddedAll xs m n → Takes ys n → Takes (xs ++ ys) m
takes_after xs ys m n p t = (taking_accepted (xs ++ ys) m).0 (taking_after xs ys m n p ∙ (taking_accepted ys n).1 t)

-- Meanings that are alike take and stop alike.

pub takes_same : (cs : List (List ℤ)) (m n : Meaning) → Fixed m n → SameStanding (standing m) (standing n) → Takes cs n → Takes cs m
takes_same cs m n f s t = (taking_accepted cs m).0 (alike cs f.cost s.count s.room ∙ (taking_accepted cs n).1 t)

pub stops_same : (cs : List (List ℤ)) (m n : Meaning) (x : Refused) → Fixed m n → SameStanding (standing m) (standing n) → Stops cs n x → Stops cs m x
stops_same cs m n x f s t = (taking_refused cs m x).0 (alike cs f.cost s.count s.room ∙ (taking_refused cs n x).1 t)

-- In a batch of their own.

pub batching_accepted : (cs : List (List ℤ)) (m : Meaning) → (batching cs m ≡ accepted) ↔ ((is_open m.batch ≡ false) × Takes cs m)
batching_accepted cs m = (
  λ h. let p = avoids (is_open m.batch) _ 15 h in (p.0, (taking_accepted cs m).0 p.1),
  λ p. cond-false (is_open m.batch) _ _ p.0 ∙ (taking_accepted cs m).1 p.1,
)

pub batching_refused : (cs : List (List ℤ)) (m : Meaning) (x : Refused) → is_open m.batch ≡ false → (batching cs m ≡ Err x) ↔ Stops cs m x
batching_refused cs m x n = (
  λ h. (taking_refused cs m x).0 (sym (cond-false (is_open m.batch) _ _ n) ∙ h),
  λ t. cond-false (is_open m.batch) _ _ n ∙ (taking_refused cs m x).1 t,
)
