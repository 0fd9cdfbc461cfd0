use Rattle.std.proofs.Common.{◌≡◌, Bool, true, false, ◌∙◌, refl, tests, rules}
use Rattle.std.specs.Bool.{MatchBool}
use Rattle.std.specs.Iterator.Runs.{ItemsMapTo}
use Rattle.stores.proofs.Lines.{add, spaced_length, summed_price, no_price}
use Rattle.stores.proofs.text.TextSpelling.price.Goals as goal

either : (b : Bool) {X Y Z : Type 0} → MatchBool b X Y → (b ≡ true → X → Z) → (b ≡ false → Y → Z) → Z
either true h f g = f refl h
either false h f g = g refl h

-- the pass came to the end, or a number broke it off
pub returns : goal.returns
returns c =
    let pass = c.try_fold.ensures.runs in
    let run : ItemsMapTo pass.0 (λ y. y.now) c.args.clause.now = search (rules, c.iter.ensures.runs pass.0 pass.0.seen) in
    either pass.0.whole pass.2
    (λ whole done. done.1 ∙ summed_price pass.0 c.args.clause.now run _ done.0 c.if-is_empty.ensures whole (done.3 (λ a r f k. refl)) (λ y k. search (rules, tests)) (search (rules, done.2 (λ n y. add n (spaced_length y.now)) (λ n y v m f k goes. search (rules, tests)))))
    (λ part broken. broken.1 ∙ no_price pass.0 c.args.clause.now run _ _ (broken.2 (λ a r f k. refl)) (λ y k. search (rules, tests)))
