-- The contracts of a sink's calls, one after the other. Assumes nothing.
use Rattle.std.proofs.Common.{◌≡◌, ℕ, ◌-◌, Bool, true, cond, ◌↔◌, List, [], ◌++◌, length, replicate, ℤ, Ok, Err, Result, sym, refl, ap, ◌∙◌, subst, append-nil, arith}
use Rattle.project.specs.declared.refusal.Refusal.{Refusal}
use Rattle.sinks.specs.Batches.{AddAll, Filled, Grown, Intact, batching, costs, taking_all}
use Rattle.sinks.specs.Calls.{Does, Empty, no}
use Rattle.sinks.specs.Clauses.{meets_all}
use Rattle.sinks.specs.Judges.{given, judged}
use Rattle.sinks.specs.Meanings.{Meaning, New}
use Rattle.sinks.specs.declared.ledger.Ledger.{Ledger}
use Rattle.stores.specs.Memories.{Recorded, stored}
use Rattle.stores.specs.Scripts.{Script, page}
use Rattle.facts.specs.Runs.{Held}

-- a new sink has no batch open, counts 0 and has this room
pub answers : (m : Meaning) (size : ℕ) (cs : List (List ℤ)) → New size m → batching cs m ≡ taking_all cs m.cost 0 size
answers m size cs new =
    ap (λ b. cond b (no 15) (taking_all cs m.cost m.count m.room)) new.batch ∙ ap (λ n. taking_all cs m.cost n m.room) new.count ∙ ap (taking_all cs m.cost 0) new.room

pub holds : {A : Type 0} (s : Script A) (m m' out : List A) (l l' : Ledger) (size : ℕ) (cs : List (List ℤ)) (r : Result (Unit {0}) Refusal) → New size (stored s m l) → Empty (Recorded s m l) → AddAll cs r (stored s m l) (stored s m' l') → Does r (Grown cs (Recorded s m l) (Recorded s m' l')) (Intact (Recorded s m l) (Recorded s m' l')) → ((before since : List (List ℤ)) → Recorded s m' l' before since → out ≡ page s l'.tally.free (before ++ since)) → Held s size cs r out
holds s m m' out l l' size cs (Ok u) new empty all order back =
    let room = new.room in
    let paid = all.does.room in
    let left : l'.tally.free ≡ size - costs (λ c. length (s.spell c)) cs = omega arith in
    back cs [] (order [] empty) ∙ ap (page s l'.tally.free) (append-nil cs) ∙ ap (λ n. page s n cs) left
holds s m m' out l l' size cs (Err e) new empty all order back =
    back [] [] (order [] empty) ∙ ap (λ n. replicate n s.blank) (sym all.does.now.room ∙ new.room)

pub judges : (values v v' : List ℕ) (met met' before before' b : Bool) (l l' : Ledger) (cs : List (List ℤ)) → v ≡ values → New 0 (judged v met before l) → Filled cs (judged v met before l) (judged v' met' before' l') → (b ≡ true) ↔ (judged v' met' before' l').admitted (given v') → (b ≡ true) ↔ (meets_all (given values) cs ≡ true)
judges values v v' met met' before before' b l l' cs same new filled admits =
    let a = given values in
    let known : (judged v met before l).known a = subst (λ x. (judged x met before l).known a) (sym same) (λ n _ _. refl) in (
      λ is. ((filled.admitted a).1 ((filled.fixed.known a).0 known, (admits.0 is).1)).1,
      λ meets. admits.1 (λ n _ _. refl, ((filled.admitted a).0 ((new.admitted a).0 known, meets)).1),
    )
