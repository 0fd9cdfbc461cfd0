-- What the tests of the capacities, the demands and the durations say. Assumes nothing.
use Rattle.std.proofs.Common.{take, drop, ◌≡◌, ℕ, zero, suc, ◌<◌, ◌≤◌, true, leb, List, [], ◌∷◌, get_or, Decides, refl, arith}
use Rattle.std.specs.List.{AllByRecursion, list_all}
use Rattle.std.proofs.ByRecursion.{All-weaker, Decides-by_and}
use Rattle.std.proofs.lemmas.Bool.{and_parts, and_from, leb-true, le-leb}
use Rattle.std.proofs.lemmas.Bool.Decides.{Decides-and, Decides-like}
use Rattle.project.specs.declared.tables.Activity.{Activity}
use Rattle.project.specs.Project.{most_capacity, most_duration, demand, within, activity_fits, activities_fit, capacities_fit}

pub decides_leb : (a b : ℕ) → Decides (leb a b) (a ≤ b)
decides_leb a b = (leb-true a b, le-leb a b)

each_from_within : (xs ys : List ℕ) → within xs ys ≡ true → (k : ℕ) → get_or xs k 0 ≤ get_or ys k 0
each_from_within [] ys e k = omega arith
each_from_within (x ∷ xs) [] e zero = leb-true x 0 (and_parts _ _ e).0
each_from_within (x ∷ xs) [] e (suc k) = each_from_within xs [] (and_parts (leb x 0) _ e).1 k
each_from_within (x ∷ xs) (y ∷ ys) e zero = leb-true x y (and_parts _ _ e).0
each_from_within (x ∷ xs) (y ∷ ys) e (suc k) = each_from_within xs ys (and_parts (leb x y) _ e).1 k

within_from_each : (xs ys : List ℕ) → ((k : ℕ) → get_or xs k 0 ≤ get_or ys k 0) → within xs ys ≡ true
within_from_each [] ys h = refl
within_from_each (x ∷ xs) [] h = and_from _ _ (le-leb x 0 (h zero)) (within_from_each xs [] (λ k. h (suc k)))
within_from_each (x ∷ xs) (y ∷ ys) h = and_from _ _ (le-leb x y (h zero)) (within_from_each xs ys (λ k. h (suc k)))

pub decides_within : (xs ys : List ℕ) → Decides (within xs ys) ((k : ℕ) → get_or xs k 0 ≤ get_or ys k 0)
decides_within xs ys = (each_from_within xs ys, within_from_each xs ys)

all_both : {X : Type 0} (P Q : X → Type 0) (xs : List X) → AllByRecursion P xs → AllByRecursion Q xs → AllByRecursion (λ x. P x × Q x) xs
all_both P Q [] p q = tt
all_both P Q (x ∷ xs) p q = ((p.0, q.0), all_both P Q xs p.1 q.1)

pub decides_activity : (capacities : List ℕ) (a : Activity) → Decides (activity_fits capacities a) ((a.duration ≤ most_duration) × ((k : ℕ) → demand a k ≤ get_or capacities k 0))
decides_activity capacities a = Decides-and _ _ (decides_leb a.duration most_duration) (decides_within a.demands capacities)

pub decides_activities : (capacities : List ℕ) (acts : List Activity) → Decides (activities_fit capacities acts) (AllByRecursion (λ a. a.duration ≤ most_duration) acts × AllByRecursion (λ a. (k : ℕ) → demand a k ≤ get_or capacities k 0) acts)
decides_activities capacities acts =
    let Short : Activity → Type 0 = λ a. a.duration ≤ most_duration in
    let Light : Activity → Type 0 = λ a. (k : ℕ) → demand a k ≤ get_or capacities k 0 in
    let Both : Activity → Type 0 = λ a. Short a × Light a in
    Decides-like _
    (λ h. (All-weaker Both Short (λ a b. b.0) acts h, All-weaker Both Light (λ a b. b.1) acts h))
    (λ h. all_both Short Light acts h.0 h.1)
    (Decides-by_and (activity_fits capacities) Both (activities_fit capacities) (decides_activity capacities) refl (λ _ _. refl) acts)

used : (n : ℕ) (cs : List ℕ) → list_all (λ c. leb c most_capacity) (take n cs) ≡ true → (k : ℕ) → k < n → get_or cs k 0 ≤ most_capacity
used zero cs e k lt = absurd (omega arith)
used (suc n) [] e k lt = omega arith
used (suc n) (c ∷ cs) e zero lt = leb-true c most_capacity (and_parts _ _ e).0
used (suc n) (c ∷ cs) e (suc k) lt = used n cs (and_parts (leb c most_capacity) _ e).1 k (omega arith)

zero_from : (c : ℕ) → c ≤ 0 → c ≡ 0
zero_from c le = omega arith

zero_to : (c : ℕ) → c ≡ 0 → c ≤ 0
zero_to c e = omega arith

unused : (n : ℕ) (cs : List ℕ) → list_all (λ c. leb c 0) (drop n cs) ≡ true → (k : ℕ) → n ≤ k → get_or cs k 0 ≡ 0
unused zero [] e k le = refl
unused (suc n) [] e k le = refl
unused zero (c ∷ cs) e zero le = zero_from c (leb-true c 0 (and_parts _ _ e).0)
unused zero (c ∷ cs) e (suc k) le = unused zero cs (and_parts (leb c 0) _ e).1 k (omega arith)
unused (suc n) (c ∷ cs) e zero le = absurd (omega arith)
unused (suc n) (c ∷ cs) e (suc k) le = unused n cs e k (omega arith)

fit_used : (n : ℕ) (cs : List ℕ) → ((k : ℕ) → k < n → get_or cs k 0 ≤ most_capacity) → list_all (λ c. leb c most_capacity) (take n cs) ≡ true
fit_used zero cs low = refl
fit_used (suc n) [] low = refl
fit_used (suc n) (c ∷ cs) low =
    and_from _ _ (le-leb c most_capacity (low zero (omega arith))) (fit_used n cs (λ k h. low (suc k) (omega arith)))

fit_unused : (n : ℕ) (cs : List ℕ) → ((k : ℕ) → n ≤ k → get_or cs k 0 ≡ 0) → list_all (λ c. leb c 0) (drop n cs) ≡ true
fit_unused zero [] none = refl
fit_unused (suc n) [] none = refl
fit_unused zero (c ∷ cs) none =
    and_from _ _ (le-leb c 0 (zero_to c (none zero (omega arith)))) (fit_unused zero cs (λ k h. none (suc k) (omega arith)))
fit_unused (suc n) (c ∷ cs) none = fit_unused n cs (λ k h. none (suc k) (omega arith))

pub decides_capacities : (n : ℕ) (cs : List ℕ) → Decides (capacities_fit n cs) (((k : ℕ) → k < n → get_or cs k 0 ≤ most_capacity) × ((k : ℕ) → n ≤ k → get_or cs k 0 ≡ 0))
decides_capacities n cs = (
  λ e. let h = and_parts _ _ e in (used n cs h.0, unused n cs h.1),
  λ h. and_from _ _ (fit_used n cs h.0) (fit_unused n cs h.1),
)
