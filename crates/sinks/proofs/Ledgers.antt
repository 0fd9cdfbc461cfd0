-- What a sink means, by its ledger, when a call is done. Assumes nothing.
use Rattle.std.proofs.Common.{◌≡◌, ℕ, ◌≤◌, Bool, true, false, cond, ◌&&◌, ltb, leb, List, ℤ, is_some, Some, None, Ok, Err, Option, Result, sym, refl, ap, ◌∙◌, subst, arith}
use mathlib.Core.Option.{some}
use Rattle.std.proofs.lemmas.Bool.{and_parts, leb-true}
use Rattle.project.specs.declared.refusal.Refusal.{Refusal}
use Rattle.sinks.specs.declared.ledger.Ledger.{Ledger}
use Rattle.sinks.specs.declared.ledger.Tally.{Tally}
use Rattle.sinks.specs.Clauses.{Assignment, clausal, meets}
use Rattle.sinks.specs.Meanings.{Same, SameBatch, Fixed, Unchanged, Opened, Added, Struck, is_open, standing}
use Rattle.sinks.specs.Calls.{Verdict, Does, Ends, Add, opening, adding, closing, accepted, no, most_clauses}
use Rattle.sinks.proofs.Alike.{same}
use Rattle.sinks.proofs.Verdicts.{passes}
use Rattle.sinks.specs.Ledgers.{may_open, may_charge, may_close, may_take, price, with_opening, charged, restored, remembered, meaning}

-- a batch is open where the ledger remembers an opening
remembers : (B : Assignment → Type 0) (o : Option Tally) → is_some o ≡ is_open (remembered B o)
remembers B None = refl
remembers B (Some t) = refl

same_batch : (B D : Assignment → Type 0) (o : Option Tally) → Same B D → SameBatch (remembered B o) (remembered D o)
same_batch B D None h = tt
same_batch B D (Some t) h = record { admitted = h; count = refl; room = refl }

taken : (c : List ℤ) (k : ℕ) (t : Tally) → may_take (price c k) t ≡ cond (clausal c) (cond (leb k t.free && ltb t.count most_clauses) accepted (no 16)) (no 24)
taken c k t = elim (clausal c) as (λ b. may_take (cond b (Some k) None) t ≡ cond b (cond (leb k t.free && ltb t.count most_clauses) accepted (no 16)) (no 24)) [ true ↦ refl | false ↦ refl ]

accept : (b : Bool) (x : Verdict) (n : ℕ) → accepted ≡ cond b x (no n) → (b ≡ true) × (accepted ≡ x)
accept b x n h = let p = passes b x n (sym h) in (p.0, sym p.1)

-- What was accepted.

pub record Accepts (c : List ℤ) (k : ℕ) (l : Ledger) : Type 0 where
  pub clause : clausal c ≡ true
  pub room : k ≤ l.tally.free
  pub ledger : charged (price c k) l ≡ charged (Some k) l

pub charges : (c : List ℤ) (k : ℕ) (l : Ledger) → accepted ≡ may_charge (price c k) l → Accepts c k l
charges c k l h =
    let p = accept (is_some l.opening) _ 23 h in
    let q = accept (clausal c) _ 24 (p.1 ∙ taken c k l.tally) in
    let r = accept (leb k l.tally.free && ltb l.tally.count most_clauses) accepted 16 q.1 in
    record {
      clause = q.0;
      room = leb-true k l.tally.free (and_parts (leb k l.tally.free) _ r.0).0;
      ledger = ap (λ b. charged (cond b (Some k) None) l) q.0;
    }

module _ (K : Assignment → Type 0) (k : List ℤ → ℕ) (A A' B B' : Assignment → Type 0) where
  fixed : (l l' : Ledger) → Fixed (meaning K A B k l) (meaning K A' B' k l')
  fixed l l' = record { known = same K; cost = λ c. refl }

  -- The answers of the ledger are the sink's.

  pub opening_is : (l : Ledger) → may_open l ≡ opening (meaning K A B k l)
  opening_is l = ap (λ b. cond b (no 15) accepted) (remembers B l.opening)

  pub adding_is : (c : List ℤ) (l : Ledger) → may_charge (price c (k c)) l ≡ adding c (meaning K A B k l)
  adding_is c l =
      ap (λ x. cond (is_some l.opening) x (no 23)) (taken c (k c) l.tally) ∙ ap (λ b. cond b (cond (clausal c) (cond (leb (k c) l.tally.free && ltb l.tally.count most_clauses) accepted (no 16)) (no 24)) (no 23)) (remembers B l.opening)

  pub closing_is : (l : Ledger) → may_close l ≡ closing (meaning K A B k l)
  closing_is l = ap (λ b. cond b accepted (no 23)) (remembers B l.opening)

  -- What each call does.

  pub unchanged : (l l' : Ledger) → l' ≡ l → Same A A' → Same B B' → Unchanged (meaning K A B k l) (meaning K A' B' k l')
  unchanged l l' e a b = subst (λ x. Unchanged (meaning K A B k l) (meaning K A' B' k x)) (sym e) (record {
    fixed = fixed l l;
    now = record { admitted = a; count = refl; room = refl };
    batch = same_batch B B' l.opening b;
  })

  pub opens : (l l' : Ledger) → l' ≡ with_opening l → Same A A' → Same A B' → Opened (meaning K A B k l) (meaning K A' B' k l')
  opens l l' e a b = subst (λ x. Opened (meaning K A B k l) (meaning K A' B' k x)) (sym e) (record {
    fixed = fixed l (with_opening l);
    now = record { admitted = a; count = refl; room = refl };
    batch = record { admitted = b; count = refl; room = refl };
  })

  pub adds : (c : List ℤ) (l l' : Ledger) → l' ≡ charged (Some (k c)) l → k c ≤ l.tally.free → Same (λ a. A a × (meets a c ≡ true)) A' → Same B B' → Added c (meaning K A B k l) (meaning K A' B' k l')
  adds c l l' e le a b = subst (λ x. Added c (meaning K A B k l) (meaning K A' B' k x)) (sym e) (record {
    fixed = fixed l (charged (Some (k c)) l);
    admitted = a;
    count = refl;
    room = omega arith;
    batch = same_batch B B' l.opening b;
  })

  back : (now : Tally) (o : Option Tally) → is_some o ≡ true → Same B A' → SameBatch (remembered B o) (some (standing (meaning K A' B' k (restored (record { tally = now; opening = o })))))
  back now None h a = let z : ◌≡◌ {A = ℕ} 0 1 = cc in absurd (omega arith)
  back now (Some t) h a = record { admitted = a; count = refl; room = refl }

  pub strikes : (l l' : Ledger) → accepted ≡ may_close l → l' ≡ restored l → Same B A' → Struck (meaning K A B k l) (meaning K A' B' k l')
  strikes l l' h e a = subst (λ x. Struck (meaning K A B k l) (meaning K A' B' k x)) (sym e) (record {
    fixed = fixed l (restored l);
    now = back l.tally l.opening (accept (is_some l.opening) accepted 23 h).0 a;
    batch = refl;
  })

  -- a whole call of adding
  pub ends_add : (c : List ℤ) (r : Result (Unit {0}) Refusal) (l l' : Ledger) → Ends r (may_charge (price c (k c)) l) (l' ≡ charged (price c (k c)) l) (l' ≡ l) → Does r (Same (λ a. A a × (meets a c ≡ true)) A' × Same B B') (Same A A' × Same B B') → Add c r (meaning K A B k l) (meaning K A' B' k l')
  ends_add c (Ok u) l l' e s =
      let ok = charges c (k c) l e.answers in
      record { answers = e.answers ∙ adding_is c l; does = adds c l l' (e.does ∙ ok.ledger) ok.room s.0 s.1 }
  ends_add c (Err x) l l' e s = record { answers = e.answers ∙ adding_is c l; does = unchanged l l' e.does s.0 s.1 }
