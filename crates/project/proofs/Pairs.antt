-- What the tests of the pairs say. Assumes nothing.
use Rattle.std.proofs.Common.{◌≡◌, ℕ, ◌+◌, ◌<◌, Bool, true, cond, not, ◌&&◌, ◌||◌, eqb, ltb, leb, List, [], ◌∷◌, ◌++◌, length, get_or, Decides, sym, refl, ap, ◌∙◌, subst, ⊎_elim, arith}
use Rattle.std.specs.List.{ContainsAt as Has, AllByRecursion}
use Rattle.std.proofs.lemmas.List.{append-nil, append_assoc, length-append, length_push, get_or_append_left, get_or_push, get_or_default}
use Rattle.std.proofs.lemmas.List.Sums.{sum_by_push, sum_by-append}
use Rattle.std.proofs.lemmas.Bool.{and_parts, and_from, leb-true, le-leb, ltb-true, lt-ltb, eqb-true, eq-eqb, not-true, not_from_false, or_cases, or_left, or_right, cases_Bool, cases_lt, both_ways}
use Rattle.std.proofs.lemmas.Bool.Decides.{Decides-not, Decides-by_or}
use Rattle.project.specs.declared.tables.Pair.{Pair}
use Rattle.project.specs.Project.{most_or_predecessors, is_blank, is_or, or_into, or_predecessors, Once, Few, Proper, same_pair, among, proper, follows, pairs_fit}
use Rattle.project.proofs.Same.{decides_same}

pub decides_proper : (n : ℕ) (q : Pair) → Decides (proper n q) (Proper n q)
decides_proper n q = (
  λ e.
      let h = and_parts (not (is_blank q.kind)) _ e in
      let k = and_parts (leb 1 q.first) _ h.1 in
      let l = and_parts (ltb q.first q.second) _ k.1 in
      record {
        kind = not-true _ h.0;
        first = leb-true 1 q.first k.0;
        rising = ltb-true q.first q.second l.0;
        second = leb-true q.second n l.1;
      },
  λ p.
      and_from _ _ (not_from_false _ p.kind) (and_from _ _ (le-leb 1 q.first p.first) (and_from _ _ (lt-ltb q.first q.second p.rising) (le-leb q.second n p.second))),
)

pub decides_among : (r : Pair) (ps : List Pair) → Decides (among r ps) (Has ps r)
decides_among r ps =
    Decides-by_or (λ q. same_pair q r) (λ q. q ≡ r) (among r) (λ q. decides_same q r) refl (λ _ _. refl) ps

once_front : (ps qs : List Pair) → Once (ps ++ qs) → Once ps
once_front ps qs once i j d lt in' e =
    once i j d lt (omega (arith, length-append ps qs)) (get_or_append_left ps qs d i (omega arith) ∙ e ∙ sym (get_or_append_left ps qs d j in'))

few_front : (ps qs : List Pair) → Few (ps ++ qs) → Few ps
few_front ps qs few j =
    let both = sum_by-append (λ q. cond (or_into j q) 1 0) ps qs in
    let most = few j in
    omega arith

count_push : (j : ℕ) (ps : List Pair) (q : Pair) → or_predecessors j (ps ++ q ∷ []) ≡ or_predecessors j ps + cond (or_into j q) 1 0
count_push j ps q = sum_by_push (λ p. cond (or_into j p) 1 0) ps q

once_push : (ps : List Pair) (q : Pair) → Once ps → (Has ps q → ⊥) → Once (ps ++ q ∷ [])
once_push ps q once new i j d lt in' e =
    let long = length_push ps q in
    ⊎_elim
    (λ h. once i j d lt h (sym (get_or_append_left ps (q ∷ []) d i (omega arith)) ∙ e ∙ get_or_append_left ps (q ∷ []) d j h))
    (λ h.
    let front : i < length ps = omega arith in
    let last : length ps ≡ j = omega arith in
    let here : get_or ps i d ≡ q = sym (get_or_append_left ps (q ∷ []) d i front) ∙ e ∙ get_or_push ps q d j last in
    new (i, front, λ d'. get_or_default ps i d' d front ∙ here))
    (cases_lt j (length ps))

once_new : (ps : List Pair) (q : Pair) → Once (ps ++ q ∷ []) → Has ps q → ⊥
once_new ps q once h =
    once h.0 (length ps) q h.1 (omega (arith, length_push ps q)) (get_or_append_left ps (q ∷ []) q h.0 h.1 ∙ h.2 q ∙ sym (get_or_push ps q q (length ps) refl))

-- q is no OR pair, or its second activity can have one more OR predecessor
abbrev room : List Pair → Pair → Bool
room ps q = not (is_or q.kind) || ltb (or_predecessors q.second ps) most_or_predecessors

few_push : (ps : List Pair) (q : Pair) → Few ps → room ps q ≡ true → Few (ps ++ q ∷ [])
few_push ps q few e j =
    let more = count_push j ps q in
    let most = few j in
    ⊎_elim
    (λ t.
    let h = and_parts (is_or q.kind) (eqb q.second j) t in
    let into = eqb-true q.second j h.1 in
    let one = ap (λ b. or_predecessors j ps + cond b 1 0) t in
    ⊎_elim
    (λ n. absurd (both_ways (is_or q.kind) (not-true _ n) h.0))
    (λ l. let some = subst (λ k. or_predecessors k ps < most_or_predecessors) into (ltb-true _ _ l) in omega arith)
    (or_cases _ _ e))
    (λ t. let one = ap (λ b. or_predecessors j ps + cond b 1 0) t in omega arith)
    (cases_Bool (or_into j q))

few_room : (ps : List Pair) (q : Pair) → Few (ps ++ q ∷ []) → room ps q ≡ true
few_room ps q few =
    ⊎_elim
    (λ t.
    let more = count_push q.second ps q in
    let most = few q.second in
    let one = ap (λ b. or_predecessors q.second ps + cond b 1 0) (and_from _ _ t (eq-eqb q.second q.second refl)) in
    or_right (not (is_or q.kind)) _ (lt-ltb _ _ (omega arith)))
    (λ t. or_left _ _ (not_from_false _ t))
    (cases_Bool (is_or q.kind))

-- of pairs that keep both rules, the ones that one more can follow are those with which they keep them still
pub decides_follows : (before : List Pair) (q : Pair) → Once before → Few before → Decides (follows before q) (Once (before ++ q ∷ []) × Few (before ++ q ∷ []))
decides_follows before q once few =
    let new = Decides-not (among q before) (decides_among q before) in (
      λ e. let h = and_parts (not (among q before)) (room before q) e in (once_push before q once (new.0 h.0), few_push before q few h.1),
      λ h. and_from _ _ (new.1 (once_new before q h.0)) (few_room before q h.1),
    )

rules_from_fit : (n : ℕ) (before qs : List Pair) → Once before → Few before → pairs_fit n before qs ≡ true → AllByRecursion (Proper n) qs × Once (before ++ qs) × Few (before ++ qs)
rules_from_fit n before [] once few e =
    (tt, subst Once (sym (append-nil before)) once, subst Few (sym (append-nil before)) few)
rules_from_fit n before (q ∷ qs) once few e =
    let h = and_parts (proper n q && follows before q) _ e in
    let k = and_parts (proper n q) (follows before q) h.0 in
    let next = (decides_follows before q once few).0 k.1 in
    let rest = rules_from_fit n (before ++ q ∷ []) qs next.0 next.1 h.1 in
    let same = append_assoc before (q ∷ []) qs in
    (((decides_proper n q).0 k.0, rest.0), subst Once same rest.1, subst Few same rest.2)

fit_from_rules : (n : ℕ) (before qs : List Pair) → AllByRecursion (Proper n) qs → Once (before ++ qs) → Few (before ++ qs) → pairs_fit n before qs ≡ true
fit_from_rules n before [] each once few = refl
fit_from_rules n before (q ∷ qs) each once few =
    let same = sym (append_assoc before (q ∷ []) qs) in
    let once' = subst Once same once in
    let few' = subst Few same few in
    let once_here = once_front (before ++ q ∷ []) qs once' in
    let few_here = few_front (before ++ q ∷ []) qs few' in
    and_from _ _
    (and_from _ _ ((decides_proper n q).1 each.0) ((decides_follows before q (once_front before (q ∷ []) once_here) (few_front before (q ∷ []) few_here)).1 (once_here, few_here)))
    (fit_from_rules n (before ++ q ∷ []) qs each.1 once' few')

-- the pairs after those `before`, which keep both rules
pub decides_pairs_after : (n : ℕ) (before qs : List Pair) → Once before → Few before → Decides (pairs_fit n before qs) (AllByRecursion (Proper n) qs × Once (before ++ qs) × Few (before ++ qs))
decides_pairs_after n before qs once few =
    (rules_from_fit n before qs once few, λ h. fit_from_rules n before qs h.0 h.1 h.2)

pub decides_pairs : (n : ℕ) (ps : List Pair) → Decides (pairs_fit n [] ps) (AllByRecursion (Proper n) ps × Once ps × Few ps)
decides_pairs n ps = decides_pairs_after n [] ps (λ i j d lt in' e. omega arith) (λ j. omega arith)
