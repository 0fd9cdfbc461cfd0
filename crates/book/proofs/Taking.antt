-- A line taken into the tables, as the reader's definition has it. Assumes nothing.
use Rattle.std.proofs.Common.{◌≡◌, ℕ, zero, suc, ◌+◌, ◌-◌, ◌<◌, ◌≤◌, Bool, true, false, cond, not, ◌&&◌, ltb, leb, List, [], ◌∷◌, ◌++◌, length, take, drop, set, replicate, Some, None, Ok, Err, Option, Result, sym, refl, ap, ◌∙◌, subst, append_assoc, add-one, arith}
use Rattle.std.specs.Option.{ok_or}
use Rattle.std.proofs.lemmas.List.{length-take-le, length_push, length-set, set_split, take-append-drop}
use Rattle.std.proofs.lemmas.Bool.{and_from, and_parts, ltb-true, lt-ltb, le-leb}
use Rattle.project.specs.Project.{Project, project_of, head_of, filled, most_activities, most_resources, most_capacity, most_pairs, activity_fits, proper, follows, within}
use Rattle.project.specs.Refusals.{answer}
use Rattle.project.specs.declared.refusal.Refusal.{Refusal}
use Rattle.project.specs.declared.refusal.Refusal.TheVariants.{OverLimit}
use Rattle.project.specs.declared.tables.Activity.{Activity}
use Rattle.project.specs.declared.tables.Head.{Head}
use Rattle.project.specs.declared.tables.Kind.{Kind}
use Rattle.project.specs.declared.tables.Pair.{Pair}
use Rattle.book.specs.declared.lines.Line.{Line}
use Rattle.book.specs.declared.lines.LineKind.{LineKind}
use Rattle.book.specs.declared.lines.LineKind.TheVariants.{Capacities, Job, Pairing}
use Rattle.book.specs.Accepted.{sizes}
use Rattle.book.specs.Lines.{most}
use Rattle.book.specs.Reading.{activity_of, pair_of, opened, with_activity, with_pair, is_nil, at_most, judged}
use Rattle.book.specs.Steps.{sofar_of, Kept, content_in, Ready, opening, activity_judged, pair_judged, activity_more, pair_more, Put, Took}

module _ {A : Type 0} (xs : List A) (n : ℕ) where
  pub filled_push : (a : A) → n < length xs → filled (take n xs ++ a ∷ []) xs ≡ set xs n a
  filled_push a lt =
      let k = length-take-le n xs (omega arith) in
      let l : length (take n xs ++ a ∷ []) ≡ suc n = length_push (take n xs) a ∙ ap (λ m. m + 1) k ∙ add-one n in
      ap (λ m. (take n xs ++ a ∷ []) ++ drop m xs) l ∙ append_assoc (take n xs) (a ∷ []) (drop (suc n) xs) ∙ sym (set_split xs n a lt)

  pub filled_same : n ≤ length xs → filled (take n xs) xs ≡ xs
  filled_same le =
      ap (λ m. take n xs ++ drop m xs) (length-take-le n xs le) ∙ take-append-drop n xs

nil_test : {A : Type 0} (xs : List A) (m : ℕ) → m ≤ length xs → is_nil (take m xs) ≡ not (ltb 0 m)
nil_test xs zero le = refl
nil_test [] (suc m) le = absurd (omega arith)
nil_test (x ∷ xs) (suc m) le = sym (ap not (lt-ltb 0 (suc m) (omega arith)))

-- A J line.
module _ (h : Head) (acts : List Activity) (ps : List Pair) (kept : Kept (Some h) acts ps) (place : ℕ) where
  p : Project
  p = project_of h acts ps

  took_activity : (a : Activity) (r : Result Head Refusal) (acts' : List Activity) → h.activities < most_activities → h.activities < length acts → r ≡ Ok (activity_more h) → acts' ≡ set acts h.activities a → Took (Ok (with_activity (project_of h acts ps) a)) place acts ps r acts' ps
  took_activity a r acts' few room is set_is =
      let n = length_push (take h.activities acts) a ∙ ap (λ k. k + 1) (length-take-le h.activities acts kept.activities) in
      let m = length-take-le h.pairs ps kept.pairs in
      let l : length acts' ≡ length acts = ap length set_is ∙ length-set acts h.activities a in (
        is ∙ ap Ok (λ i. record { activities = sym n i; resources = h.resources; capacities = h.capacities; pairs = sym m i }),
        set_is ∙ sym (filled_push acts h.activities a room),
        sym (filled_same ps h.pairs kept.pairs),
        record { activities = omega arith; pairs = omega (arith, kept.pairs); few = omega arith; resources = kept.resources },
      )

  took_pair : (q : Pair) (r : Result Head Refusal) (ps' : List Pair) → h.pairs < length ps → r ≡ Ok (pair_more h) → ps' ≡ set ps h.pairs q → Took (Ok (with_pair (project_of h acts ps) q)) place acts ps r acts ps'
  took_pair q r ps' room is set_is =
      let n = length-take-le h.activities acts kept.activities in
      let m = length_push (take h.pairs ps) q ∙ ap (λ k. k + 1) (length-take-le h.pairs ps kept.pairs) in
      let l : length ps' ≡ length ps = ap length set_is ∙ length-set ps h.pairs q in (
        is ∙ ap Ok (λ i. record { activities = sym n i; resources = h.resources; capacities = h.capacities; pairs = sym m i }),
        sym (filled_same acts h.activities kept.activities),
        set_is ∙ sym (filled_push ps h.pairs q room),
        record { activities = omega (arith, kept.activities); pairs = omega arith; few = omega (arith, kept.few); resources = kept.resources },
      )

  take_job : (ns : List ℕ) (r : Result Head Refusal) (acts' : List Activity) → Put (activity_judged h ns acts) place (activity_more h) h.activities acts r acts' → Took (judged (sizes acts ps) (Some (project_of h acts ps)) (Some (record { kind = Job; numbers = ns }))) place acts ps r acts' ps
  take_job ns r acts' put =
      rw (nil_test ps h.pairs kept.pairs, length-take-le h.activities acts kept.activities)
      (go (ltb 0 h.pairs) (activity_fits h.capacities (activity_of ns)) (ltb h.activities most_activities && ltb h.activities (length acts)) refl put)
    where
      go : (t f u : Bool) → (ltb h.activities most_activities && ltb h.activities (length acts)) ≡ u → Put (cond t (Err 3) (cond f (cond u (Ok (activity_of ns)) (Err 6)) (Err 4))) place (activity_more h) h.activities acts r acts' → Took (cond (not (not t)) (Err 3) (cond (not f) (Err 4) (cond (not u) (Err 6) (Ok (with_activity (project_of h acts ps) (activity_of ns)))))) place acts ps r acts' ps
      go true f u e put = put.0
      go false false u e put = put.0
      go false true false e put = put.0
      go false true true e put =
          let b = and_parts (ltb h.activities most_activities) (ltb h.activities (length acts)) e in
          took_activity (activity_of ns) r acts' (ltb-true _ _ b.0) (ltb-true _ _ b.1) put.0 put.1

  take_pair : (k : Kind) (ns : List ℕ) (r : Result Head Refusal) (ps' : List Pair) → Put (pair_judged h k ns ps) place (pair_more h) h.pairs ps r ps' → Took (judged (sizes acts ps) (Some (project_of h acts ps)) (Some (record { kind = Pairing k; numbers = ns }))) place acts ps r acts ps'
  take_pair k ns r ps' put =
      rw (length-take-le h.activities acts kept.activities, length-take-le h.pairs ps kept.pairs)
      (go (proper h.activities (pair_of k ns) && follows (take h.pairs ps) (pair_of k ns)) (ltb h.pairs most_pairs && ltb h.pairs (length ps)) refl put)
    where
      go : (f u : Bool) → (ltb h.pairs most_pairs && ltb h.pairs (length ps)) ≡ u → Put (cond f (cond u (Ok (pair_of k ns)) (Err 6)) (Err 5)) place (pair_more h) h.pairs ps r ps' → Took (cond (not f) (Err 5) (cond (not u) (Err 6) (Ok (with_pair (project_of h acts ps) (pair_of k ns))))) place acts ps r acts ps'
      go false u e put = put.0
      go true false e put = put.0
      go true true e put =
          let b = and_parts (ltb h.pairs most_pairs) (ltb h.pairs (length ps)) e in
          took_pair (pair_of k ns) r ps' (ltb-true _ _ b.1) put.0 put.1

-- A C line.

zeros_within : (j c : ℕ) → within (replicate j 0) (replicate j c) ≡ true
zeros_within zero c = refl
zeros_within (suc j) c = and_from (leb 0 c) (within (replicate j 0) (replicate j c)) (le-leb 0 c (omega arith)) (zeros_within j c)

within_limit : (j c : ℕ) (ns : List ℕ) → length ns ≤ j → within (ns ++ replicate (j - length ns) 0) (replicate j c) ≡ at_most c ns
within_limit j c [] le =
    let k : j - 0 ≡ j = omega arith in
    ap (λ m. within (replicate m 0) (replicate j c)) k ∙ zeros_within j c
within_limit zero c (n ∷ ns) le = absurd (omega arith)
within_limit (suc j) c (n ∷ ns) le =
    let l : suc j - suc (length ns) ≡ j - length ns = omega arith in
    ap (λ m. leb n c && within (ns ++ replicate m 0) (replicate j c)) l ∙ ap (λ b. leb n c && b) (within_limit j c ns (omega arith))

pub answer_ok : {A : Type 0} (r : Result A Refusal) (a : A) → answer r ≡ Ok a → r ≡ Ok a
answer_ok {A} (Ok b) a e = let same : b ≡ a = cc in ap Ok same
answer_ok (Err e') a e = let z : ◌≡◌ {A = ℕ} 0 1 = cc in absurd (omega arith)

take_capacities : (ns : List ℕ) (acts : List Activity) (ps : List Pair) (place : ℕ) (r : Result Head Refusal) → length ns ≤ most_resources → r ≡ ok_or (opening ns) (OverLimit place) → Took (judged (sizes acts ps) None (Some (record { kind = Capacities; numbers = ns }))) place acts ps r acts ps
take_capacities ns acts ps place r few is =
    go (at_most most_capacity ns) (is ∙ ap (λ t. ok_or (cond t (Some (head_of (opened ns))) None) (OverLimit place)) (within_limit most_resources most_capacity ns few))
  where
    go : (t : Bool) → r ≡ ok_or (cond t (Some (head_of (opened ns))) None) (OverLimit place) → Took (cond (not t) (Err 4) (Ok (opened ns))) place acts ps r acts ps
    go false e = ap answer e
    go true e = (e, refl, refl, record { activities = omega arith; pairs = omega arith; few = omega arith; resources = few })

-- A line, by what is known of the lines before it, of its kind and of its numbers.
module _ (s : Option Head) (l : Line) (place : ℕ) (acts : List Activity) (ps : List Pair) where
  at_line : (t : Option Head) (k : LineKind) (ns : List ℕ) (r : Result Head Refusal) (acts' : List Activity) (ps' : List Pair) → s ≡ t → l.kind ≡ k → ns ≡ l.numbers.items → Took (judged (sizes acts ps) (sofar_of t acts ps) (Some (record { kind = k; numbers = ns }))) place acts ps r acts' ps' → Took (judged (sizes acts ps) (sofar_of s acts ps) (Some (content_in l))) place acts ps r acts' ps'
  at_line t k ns r acts' ps' e f g h =
      subst (λ u. Took (judged (sizes acts ps) (sofar_of u acts ps) (Some (content_in l))) place acts ps r acts' ps') (sym e)
      (subst (λ x. Took (judged (sizes acts ps) (sofar_of t acts ps) (Some x)) place acts ps r acts' ps') (λ i. record { kind = sym f i; numbers = g i }) h)

  module _ (ns : List ℕ) (is : ns ≡ l.numbers.items) where
    pub line_capacities : s ≡ None → l.kind ≡ Capacities → Ready l → (o : Option Head) → o ≡ opening ns → (r : Result Head Refusal) → r ≡ ok_or o (OverLimit place) → Took (judged (sizes acts ps) (sofar_of s acts ps) (Some (content_in l))) place acts ps r acts ps
    line_capacities e f ready o opens r answers =
        let few : length ns ≤ most_resources = subst (λ x. length x ≤ most_resources) (sym is) (subst (λ k. length l.numbers.items ≤ most most_resources k) f ready.few) in
        at_line None Capacities ns r acts ps e f is (take_capacities ns acts ps place r few (answers ∙ ap (λ o. ok_or o (OverLimit place)) opens))

    module _ (h : Head) (e : s ≡ Some h) (kept : Kept s acts ps) where
      known : Kept (Some h) acts ps
      known = subst (λ t. Kept t acts ps) e kept

      pub line_job : l.kind ≡ Job → (r : Result Head Refusal) (acts' : List Activity) → Put (activity_judged h ns acts) place (activity_more h) h.activities acts r acts' → Took (judged (sizes acts ps) (sofar_of s acts ps) (Some (content_in l))) place acts ps r acts' ps
      line_job f r acts' put =
          at_line (Some h) Job ns r acts' ps e f is (take_job h acts ps known place ns r acts' put)

      pub line_pair : (k : Kind) → l.kind ≡ Pairing k → (r : Result Head Refusal) (ps' : List Pair) → Put (pair_judged h k ns ps) place (pair_more h) h.pairs ps r ps' → Took (judged (sizes acts ps) (sofar_of s acts ps) (Some (content_in l))) place acts ps r acts ps'
      line_pair k f r ps' put =
          at_line (Some h) (Pairing k) ns r acts ps' e f is (take_pair h acts ps known place k ns r ps' put)

-- the head that a line gives is within the limits, and the tables have its records
pub took_kept : (j : Result Project ℕ) (place : ℕ) (acts : List Activity) (ps : List Pair) (h : Head) (acts' : List Activity) (ps' : List Pair) → Took j place acts ps (Ok h) acts' ps' → Kept (Some h) acts' ps'
took_kept (Ok p) place acts ps h acts' ps' took =
    let same : head_of p ≡ h = cc took.0 in
    subst (λ x. Kept (Some x) acts' ps') same took.3
took_kept (Err n) place acts ps h acts' ps' took = let z : ◌≡◌ {A = ℕ} 0 1 = cc took in absurd (omega arith)
