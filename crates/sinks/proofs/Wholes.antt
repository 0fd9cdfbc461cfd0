-- All of the clauses that slices hold are added in one batch, or none. Assumes nothing.
use Rattle.std.proofs.Common.{◌≡◌, ℕ, suc, ◌+◌, ◌<◌, ◌≤◌, Bool, true, false, cond, ◌↔◌, List, [], ◌∷◌, ◌++◌, length, get_or, take, drop, ℤ, Ok, Err, Result, sym, ap, ◌∙◌, subst, true≢false, take_all, Bor}
use lib.Seq.{split_at}
use Rattle.std.proofs.lemmas.List.{map_more, map-append}
use Rattle.project.specs.declared.refusal.Refusal.{Refusal}
use Rattle.project.specs.Refusals.{Refused, told}
use Rattle.sinks.specs.declared.sink.Sink.{Ghosts as Members}
use Rattle.sinks.specs.Meanings.{is_open}
use Rattle.sinks.specs.Calls.{Verdict, Does, Open, Add, Appended, Untouched, accepted, no, verdict}
use Rattle.sinks.specs.Batches.{AddAll, Takes, Stops, Grown, Intact, Opens, Adds, Keeps, Strikes, Fills, Spares, Appends, KeepsWhole, StrikesWhole, batching, held, means}
use Rattle.sinks.proofs.Verdicts.{accepted≢refused, stops_after, stops_same, batching_accepted, batching_refused}
use Rattle.sinks.proofs.Batches.{adds_append, adds_one_more, adds_no_more, stops_here, open_since, keeps_whole, strikes_whole}

-- how the call ends
pub record Ended {S B : Type 0} (g : Members S B) (cs : List (List ℤ)) (r : Result (Unit {0}) Refusal) (s t : S) : Type 0 where
  pub answers : verdict r ≡ batching cs (means g s)
  pub does : Does r (Fills g cs s t) (Spares g s t)
  pub untouched : is_open (g.batch s) ≡ true → Untouched (g.added s) (g.added t)

does_as : {P P' Q Q' : Type 0} (r : Result (Unit {0}) Refusal) → (P → P') → (Q → Q') → Does r P Q → Does r P' Q'
does_as (Ok _) f h d = f d
does_as (Err _) f h d = h d

done : {P : Type 0} (Q : Type 0) (r : Result (Unit {0}) Refusal) → verdict r ≡ accepted → P → Does r P Q
done Q (Ok _) h p = p
done Q (Err _) h p = absurd (accepted≢refused (sym h))

in_use : (b : Bool) (v : Verdict) (x : Refused) → Err x ≡ cond b (no 15) accepted → Err x ≡ cond b (no 15) v
in_use true v x h = h
in_use false v x h = absurd (accepted≢refused (sym h))

held_parts : (rs : List (Bor (List ℤ))) (i : ℕ) (d : Bor (List ℤ)) → i < length rs → held rs ≡ held (take i rs) ++ (get_or rs i d).now ∷ held (drop (suc i) rs)
held_parts rs i d lt = ap held (split_at rs i d lt) ∙ map-append (λ r. r.now) (take i rs) (get_or rs i d ∷ drop (suc i) rs)

module _ {S B : Type 0} (g : Members S B) where
  -- A turn of the loop.

  pub turn : (rs : List (Bor (List ℤ))) (i : ℕ) (d : Bor (List ℤ)) (s t u : S) →
      i < length rs → Adds g (held (take i rs)) s t →
      Add (get_or rs i d).now (Ok tt) (means g t) (means g u) → Appended (get_or rs i d).now (g.added t) (g.added u) →
      Adds g (held (take (i + 1) rs)) s u
  turn rs i d s t u lt h p q =
      subst (λ cs. Adds g cs s u) (sym (map_more (λ r. r.now) rs i d lt)) (adds_one_more g (held (take i rs)) _ s t u h p q)

  -- what the contract says of it
  pub whole : (cs : List (List ℤ)) (r : Result (Unit {0}) Refusal) (s t : S) → Ended g cs r s t → record {
    meaning : AddAll cs r (means g s) (means g t);
    accepts : (verdict r ≡ accepted) ↔ ((is_open (g.batch s) ≡ false) × Takes cs (means g s));
    stops : (x : Refused) → verdict r ≡ Err x → is_open (g.batch s) ≡ false → Stops cs (means g s) x;
    order : Does r (Grown cs (g.added s) (g.added t)) (Intact (g.added s) (g.added t));
    untouched : is_open (g.batch s) ≡ true → Untouched (g.added s) (g.added t);
    append : Appends g;
    all : KeepsWhole g;
    none : StrikesWhole g;
  }
  whole cs r s t e =
      let b = batching_accepted cs (means g s) in
      record {
        meaning = record { answers = e.answers; does = does_as r (λ h. h.meaning) (λ h. h.meaning) e.does };
        accepts = (λ h. b.0 (sym e.answers ∙ h), λ h. e.answers ∙ b.1 h);
        stops = λ x h n. (batching_refused cs (means g s) x n).0 (sym e.answers ∙ h);
        order = does_as r (λ h. h.order) (λ h. h.order) e.does;
        untouched = e.untouched;
        append = adds_append g;
        all = keeps_whole g;
        none = strikes_whole g;
      }

  -- The ends.

  pub not_opened : (cs : List (List ℤ)) (x : Refusal) (s t : S) → Open {A = B} (Err x) (means g s) (means g t) → Untouched (g.added s) (g.added t) → (r : Result (Unit {0}) Refusal) → r ≡ Err x → Ended g cs r s t
  not_opened cs x s t p q r e = subst (λ z. Ended g cs z s t) (sym e) record {
    answers = in_use (is_open (g.batch s)) _ (told x) p.answers;
    does = record { meaning = p.does; order = λ before h. q before [] h };
    untouched = λ _. q;
  }

  never : {P : Type 0} (s t : S) → Opens g s t → is_open (g.batch s) ≡ true → P
  never s t o h = absurd (true≢false (sym h ∙ o.none_open))

  pub struck : (rs : List (Bor (List ℤ))) (i : ℕ) (d : Bor (List ℤ)) (x : Refusal) (s t u v w : S) →
      i < length rs → Opens g s t → Adds g (held (take i rs)) t u →
      Add (get_or rs i d).now (Err x) (means g u) (means g v) → Untouched (g.added u) (g.added v) →
      (is_open (g.batch v) ≡ true → Strikes g v w) → Ended g (held rs) (Err x) s w
  struck rs i d x s t u v w lt o p a b k =
      let xs = held (take i rs) in
      let q = adds_no_more g xs t u v p a.does b in
      let stop =
      subst (λ cs. Stops cs (means g t) (told x)) (sym (held_parts rs i d lt))
      (stops_after xs _ (means g t) (means g u) (told x) p.meaning (stops_here g (get_or rs i d).now _ x u v (open_since g xs s t u o p) a)) in
      record {
        answers = sym ((batching_refused (held rs) (means g s) (told x) o.none_open).1 (stops_same (held rs) (means g s) (means g t) (told x) o.meaning.fixed o.meaning.now stop));
        does = strikes_whole g xs s t v w o q (k (open_since g xs s t v o q));
        untouched = never s t o;
      }

  pub kept : (rs : List (Bor (List ℤ))) (i : ℕ) (r : Result (Unit {0}) Refusal) (s t u v : S) →
      length rs ≤ i → Opens g s t → Adds g (held (take i rs)) t u →
      (is_open (g.batch u) ≡ true → (verdict r ≡ accepted) × Keeps g u v) → Ended g (held rs) r s v
  kept rs i r s t u v le o a k =
      let p = subst (λ l. Adds g (held l) t u) (take_all i rs le) a in
      let q = k (open_since g (held rs) s t u o p) in
      let f = keeps_whole g (held rs) s t u v o p q.1 in
      record {
        answers = q.0 ∙ sym ((batching_accepted (held rs) (means g s)).1 (o.none_open, f.meaning.taken));
        does = done (Spares g s v) r q.0 f;
        untouched = never s t o;
      }
