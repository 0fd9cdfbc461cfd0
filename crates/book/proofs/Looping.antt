-- What the loop over a book's lines keeps, and what it comes to. Assumes nothing.
use Rattle.std.proofs.Common.{◌≡◌, ℕ, suc, ◌+◌, ◌-◌, ◌≤◌, Bool, true, false, cond, ◌&&◌, eqb, leb, List, [], ◌∷◌, ◌++◌, length, take, drop, replicate, is_err, Some, None, Ok, Err, Option, Result, sym, refl, ap, ◌∙◌, subst, append_assoc, arith}
use Rattle.std.specs.List.{between, flat_map}
use Rattle.std.proofs.lemmas.List.{append_cancel_left, length_push, length-take-le, drop_at, drop-drop, take_at}
use Rattle.std.proofs.lemmas.Bool.{true≢false}
use Rattle.project.specs.Project.{Project, project_of, head_of, filled, blank_activity, blank_pair}
use Rattle.project.specs.Refusals.{Refused, refused, told, answer}
use Rattle.project.specs.declared.refusal.Refusal.{Refusal}
use Rattle.project.specs.declared.tables.Activity.{Activity}
use Rattle.project.specs.declared.tables.Head.{Head}
use Rattle.project.specs.declared.tables.Pair.{Pair}
use Rattle.book.specs.declared.lines.LineKind.{LineKind}
use Rattle.book.specs.declared.lines.LineKind.TheVariants.{Capacities, Job, Pairing, Trailer}
use Rattle.book.specs.declared.reader.Trailer.{Trailer as Found}
use Rattle.book.specs.Accepted.{Sizes, sizes}
use Rattle.book.specs.Cuts.{Without, SplitAt}
use Rattle.book.specs.declared.words.Part.{Part}
use Rattle.book.specs.Lines.{lf, line, lines, formed, with_lf}
use Rattle.book.specs.Written.{trailer_line}
use Rattle.book.specs.Reading.{Sofar, Trailed, resources_of, activity_of, pair_of, added, extended, judged, on, read_lines, trailer, body_lines, closed, read_after, reading, head_answer, activities_after, pairs_after}
use Rattle.book.specs.Steps.{sofar_of, activities_known, pairs_known, resources_known, Kept, closing, Reads}
use Rattle.book.specs.Took.{sofar_in, TookLine, SameTables}
use Rattle.book.specs.declared.reader.Reader.{Reader}
use Rattle.book.proofs.Bodies.{step_from_judged}
use Rattle.book.proofs.Frames.{first_line, trailer_framed}
use Rattle.book.proofs.Taking.{answer_ok}

-- What `first` was before the first line, r is now, and the lines of `left` are still to be read.
pub record Midway (bs : List ℕ) (t : Trailed) (first r : Reader) (left : Part) (count : ℕ) : Type 0 where
  pub tables : SameTables first r
  pub ended : flat_map with_lf (lines left.text.now) ≡ left.text.now
  pub same : reading (sizes first.activities.now first.pairs.now) bs ≡ closed t (length (body_lines bs t)) (read_lines (sizes first.activities.now first.pairs.now) (sofar_in r) left.place (lines left.text.now))
  pub counts : length (body_lines bs t) ≡ count + length (lines left.text.now)
  pub few : count ≤ left.place
  pub activities : r.activities.now ≡ filled (take (activities_known r.sofar) r.activities.now) first.activities.now
  pub pairs : r.pairs.now ≡ filled (take (pairs_known r.sofar) r.pairs.now) first.pairs.now

-- the lines of the body that a right trailer points to end in LF
body_ends : (bs : List ℕ) (t : Trailed) → trailer bs ≡ Some t → flat_map with_lf (body_lines bs t) ≡ between t.start t.place bs
body_ends bs t is =
    let right = trailer_framed bs t is in
    let body = flat_map with_lf (body_lines bs t) in
    let z = line (trailer_line (length (take t.start bs)) t.count) in
    let split : drop t.start bs ≡ body ++ z = ap (drop t.start) right.0.whole ∙ drop_at (take t.start bs) _ t.start right.1 in
    let span : t.place - t.start ≡ length body = omega (arith, right.2) in
    sym (ap (λ n. take n (drop t.start bs)) span ∙ ap (take (length body)) split ∙ take_at body z (length body) refl)

-- before the first line
pub at_start : (bs : List ℕ) (t : Trailed) (r : Reader) (body : Part) → r.sofar ≡ None → trailer bs ≡ Some t → body.text.now ≡ between t.start t.place bs → body.place ≡ t.start → Midway bs t r r body 0
at_start bs t r body none is text place =
    let acts = r.activities.now in
    let ps = r.pairs.now in
    let same : lines body.text.now ≡ body_lines bs t = ap lines text in
    let sofar : sofar_in r ≡ None = ap (λ s. sofar_of s acts ps) none in
    record {
      tables = record { activities = refl; activities_long = refl; pairs = refl; pairs_long = refl };
      ended = ap (flat_map with_lf) same ∙ body_ends bs t is ∙ sym text;
      same = ap (read_after (sizes acts ps) bs) is ∙ (λ i. closed t (length (body_lines bs t)) (read_lines (sizes acts ps) (sym sofar i) (sym place i) (sym same i)));
      counts = omega (arith, ap length same);
      few = omega arith;
      activities = sym (ap (λ s. filled (take (activities_known s) acts) acts) none);
      pairs = sym (ap (λ s. filled (take (pairs_known s) ps) ps) none);
    }

-- a project grows by a line
grows : (s : Sofar) (q : Project) (k : LineKind) (ns : List ℕ) (p : Project) → s ≡ Some p → extended s (record { kind = k; numbers = ns }) ≡ q → (length p.activities ≤ length q.activities) × (length p.pairs ≤ length q.pairs)
grows s q k ns p is gives =
    subst (λ q. (length p.activities ≤ length q.activities) × (length p.pairs ≤ length q.pairs)) (sym (ap (λ s. extended s (record { kind = k; numbers = ns })) is) ∙ gives) (go k)
  where
    go : (k : LineKind) → (length p.activities ≤ length (added p k ns).activities) × (length p.pairs ≤ length (added p k ns).pairs)
    go Capacities = (omega arith, omega arith)
    go Job = (omega (arith, length_push p.activities (activity_of ns)), omega arith)
    go (Pairing j) = (omega arith, omega (arith, length_push p.pairs (pair_of j ns)))
    go Trailer = (omega arith, omega arith)

resources_same : (s : Option Head) (acts : List Activity) (ps : List Pair) → resources_of (sofar_of s acts ps) ≡ resources_known s
resources_same None acts ps = refl
resources_same (Some h) acts ps = refl

grown : (r : Reader) (l : List ℕ) (q : Project) → judged (sizes r.activities.now r.pairs.now) (sofar_in r) (formed (resources_known r.sofar) l) ≡ Ok q → (activities_known r.sofar ≤ length q.activities) × (pairs_known r.sofar ≤ length q.pairs)
grown r l q e = go r.sofar r.kept e
  where
    go : (s : Option Head) → Kept s r.activities.now r.pairs.now → judged (sizes r.activities.now r.pairs.now) (sofar_of s r.activities.now r.pairs.now) (formed (resources_known s) l) ≡ Ok q → (activities_known s ≤ length q.activities) × (pairs_known s ≤ length q.pairs)
    go None k e = (omega arith, omega arith)
    go (Some h) k e =
        let p = project_of h r.activities.now r.pairs.now in
        let step = step_from_judged (sizes r.activities.now r.pairs.now) (Some p) l q e in
        let more = grows (Some p) q step.said.kind step.said.numbers p refl step.gives in
        let n = length-take-le h.activities r.activities.now k.activities in
        let m = length-take-le h.pairs r.pairs.now k.pairs in
        (omega (arith, more.0), omega (arith, more.1))

-- more records in front of the same table
refilled : {A : Type 0} (front xs ys zs : List A) (n : ℕ) → n ≤ length xs → n ≤ length front → xs ≡ filled (take n xs) zs → ys ≡ filled front xs → ys ≡ filled (take (length front) ys) zs
refilled front xs ys zs n within more old new =
    new ∙ ap (λ l. front ++ l) past ∙ ap₂_filled (sym (ap (take (length front)) new ∙ take_at front (drop (length front) xs) (length front) refl))
  where
    past : drop (length front) xs ≡ drop (length front) zs
    past =
        let k = length-take-le n xs within in
        let a : n + (length front - n) ≡ length front = omega arith in
        ap (λ m. drop m xs) (sym a) ∙ sym (drop-drop (length front - n) n xs) ∙ ap (λ l. drop (length front - n) (drop n l)) old ∙ ap (drop (length front - n)) (drop_at (take n xs) (drop (length (take n xs)) zs) n k) ∙ ap (λ m. drop (length front - n) (drop m zs)) k ∙ drop-drop (length front - n) n zs ∙ ap (λ m. drop m zs) a

    ap₂_filled : front ≡ take (length front) ys → filled front zs ≡ filled (take (length front) ys) zs
    ap₂_filled e = ap (λ l. filled l zs) e

-- the project that the tables hold is the one that was read
pub held : (q : Project) (acts : List Activity) (ps : List Pair) (acts₀ : List Activity) (ps₀ : List Pair) → acts ≡ filled q.activities acts₀ → ps ≡ filled q.pairs ps₀ → project_of (head_of q) acts ps ≡ q
held q acts ps acts₀ ps₀ a b = λ i. record {
  resources = q.resources;
  capacities = q.capacities;
  activities = (ap (take (length q.activities)) a ∙ take_at q.activities _ (length q.activities) refl) i;
  pairs = (ap (take (length q.pairs)) b ∙ take_at q.pairs _ (length q.pairs) refl) i;
}

-- One line of those that are left.
module _ (left l more : Part) (cut : SplitAt lf left l more) where
  lines_cut : lines left.text.now ≡ l.text.now ∷ lines more.text.now
  lines_cut = ap lines cut.whole ∙ first_line l.text.now more.text.now cut.first

  ended_more : flat_map with_lf (lines left.text.now) ≡ left.text.now → flat_map with_lf (lines more.text.now) ≡ more.text.now
  ended_more e =
      append_cancel_left (with_lf l.text.now) _ _ (sym (ap (flat_map with_lf) lines_cut) ∙ e ∙ cut.whole ∙ sym (append_assoc l.text.now (lf ∷ []) more.text.now))

module _ {bs : List ℕ} {t : Trailed} {first old : Reader} {left : Part} {count : ℕ} (m : Midway bs t first old left count) (l more : Part) (cut : SplitAt lf left l more) where
  abbrev z : Sizes
  z = sizes first.activities.now first.pairs.now

  abbrev said : Result Project ℕ
  said = judged (sizes old.activities.now old.pairs.now) (sofar_in old) (formed (resources_known old.sofar) l.text.now)

  -- the line as the definition reads it
  steps : reading z bs ≡ closed t (length (body_lines bs t)) (on said (λ n. Err (refused n l.place)) (λ p. read_lines z (Some p) more.place (lines more.text.now)))
  steps =
      let one : left.place + suc (length l.text.now) ≡ more.place = omega (arith, cut.after) in
      m.same ∙ ap (λ ls. closed t (length (body_lines bs t)) (read_lines z (sofar_in old) left.place ls)) (lines_cut left l more cut)
      ∙ (λ i. closed t (length (body_lines bs t)) (on (judged (record { activities = sym m.tables.activities_long i; pairs = sym m.tables.pairs_long i }) (sofar_in old) (formed (resources_same old.sofar old.activities.now old.pairs.now i) l.text.now)) (λ k. Err (refused k (sym cut.here i))) (λ p. read_lines z (Some p) (one i) (lines more.text.now))))

  -- a line that is refused
  pub refuse : (e : Refusal) (new : Reader) (acts : List Activity) (ps : List Pair) → TookLine said l.place old (Err e) new → Reads (reading z bs) first.activities.now first.pairs.now (Err e) acts ps
  refuse e new acts ps took =
      subst (λ r. Reads r first.activities.now first.pairs.now (Err e) acts ps) (sym steps) (go said took)
    where
      go : (j : Result Project ℕ) → TookLine j l.place old (Err e) new → Reads (closed t (length (body_lines bs t)) (on j (λ n. Err (refused n l.place)) (λ p. read_lines z (Some p) more.place (lines more.text.now)))) first.activities.now first.pairs.now (Err e) acts ps
      go (Ok q) h = let z : ◌≡◌ {A = ℕ} 0 1 = cc h.0 in absurd (omega arith)
      go (Err n) h = let same : told e ≡ refused n l.place = cc h in ap Err same

  -- a line that is taken
  pub go_on : (new : Reader) → SameTables old new → TookLine said l.place old (Ok tt) new → Midway bs t first new more (count + 1)
  go_on new tables took = go said refl took
    where
      go : (j : Result Project ℕ) → said ≡ j → TookLine j l.place old (Ok tt) new → Midway bs t first new more (count + 1)
      go (Err n) e k = let z : ◌≡◌ {A = ℕ} 0 1 = cc k in absurd (omega arith)
      go (Ok q) e k =
          let grow = grown old l.text.now q e in
          let n = ap length (lines_cut left l more cut) in
          let here : sofar_in new ≡ Some q = ap (λ s. sofar_of s new.activities.now new.pairs.now) k.1 ∙ ap Some (held q new.activities.now new.pairs.now old.activities.now old.pairs.now k.2 k.3) in
          record {
            tables = record {
              activities = tables.activities ∙ m.tables.activities;
              activities_long = tables.activities_long ∙ m.tables.activities_long;
              pairs = tables.pairs ∙ m.tables.pairs;
              pairs_long = tables.pairs_long ∙ m.tables.pairs_long;
            };
            ended = ended_more left l more cut m.ended;
            same = steps ∙ ap (λ j. closed t (length (body_lines bs t)) (on j (λ k. Err (refused k l.place)) (λ p. read_lines z (Some p) more.place (lines more.text.now)))) e ∙ ap (λ s. closed t (length (body_lines bs t)) (read_lines z s more.place (lines more.text.now))) (sym here);
            counts = omega (arith, m.counts);
            few = omega (arith, m.few, cut.after);
            activities = refilled q.activities old.activities.now new.activities.now first.activities.now (activities_known old.sofar) old.kept.activities grow.0 m.activities k.2 ∙ ap (λ s. filled (take (activities_known s) new.activities.now) first.activities.now) (sym k.1);
            pairs = refilled q.pairs old.pairs.now new.pairs.now first.pairs.now (pairs_known old.sofar) old.kept.pairs grow.1 m.pairs k.3 ∙ ap (λ s. filled (take (pairs_known s) new.pairs.now) first.pairs.now) (sym k.1);
          }

-- what ends and has no LF is empty
has_lf : (l tail : List ℕ) → Without lf (with_lf l ++ tail) → ⊥
has_lf [] tail h = h.0 refl
has_lf (b ∷ l) tail h = has_lf l tail h.1

no_lines : (bs : List ℕ) → Without lf bs → flat_map with_lf (lines bs) ≡ bs → lines bs ≡ []
no_lines bs h e = go (lines bs) (subst (Without lf) (sym e) h)
  where
    go : (ls : List (List ℕ)) → Without lf (flat_map with_lf ls) → ls ≡ []
    go [] k = refl
    go (l ∷ ls) k = absurd (has_lf l (flat_map with_lf ls) k)

abbrev pub told_by : Found → Trailed
told_by t = record { place = t.place; start = t.start; count = t.count }

-- no line is left
module _ (bs : List ℕ) (last : Found) (first r : Reader) (a : Result Head Refusal) (acts : List Activity) (ps : List Pair) (acts_are : acts ≡ r.activities.now) (ps_are : ps ≡ r.pairs.now) where
  closes : (count : ℕ) (s : Option Head) → Kept s acts ps → acts ≡ filled (take (activities_known s) acts) first.activities.now → ps ≡ filled (take (pairs_known s) ps) first.pairs.now → answer a ≡ closing last count s → Reads (closed (told_by last) count (Ok (sofar_of s acts ps))) first.activities.now first.pairs.now a acts ps
  closes count None kept fa fp e = e
  closes count (Some h) kept fa fp e =
      let k = length-take-le h.activities acts kept.activities in
      let j = length-take-le h.pairs ps kept.pairs in
      subst (λ x. Reads (cond (eqb last.count count && leb 1 x) (Ok (project_of h acts ps)) (Err (refused 7 last.place))) first.activities.now first.pairs.now a acts ps) (sym k) (by k j (eqb last.count count && leb 1 h.activities) e)
    where
      by : length (take h.activities acts) ≡ h.activities → length (take h.pairs ps) ≡ h.pairs → (b : Bool) → answer a ≡ cond b (Ok h) (Err (refused 7 last.place)) → Reads (cond b (Ok (project_of h acts ps)) (Err (refused 7 last.place))) first.activities.now first.pairs.now a acts ps
      by k j true e = (
        answer_ok a h e ∙ ap Ok (λ i. record { activities = sym k i; resources = h.resources; capacities = h.capacities; pairs = sym j i }),
        fa,
        fp,
      )
      by k j false e = e

  pub finish : (left : Part) (count : ℕ) → Midway bs (told_by last) first r left count → Without lf left.text.now → answer a ≡ closing last count r.sofar → Reads (reading (sizes first.activities.now first.pairs.now) bs) first.activities.now first.pairs.now a acts ps
  finish left count m free e =
      let none = no_lines left.text.now free m.ended in
      let n : length (body_lines bs (told_by last)) ≡ count = omega (arith, m.counts, ap length none) in
      let whole : reading (sizes first.activities.now first.pairs.now) bs ≡ closed (told_by last) count (Ok (sofar_of r.sofar acts ps)) = m.same ∙ (λ i. closed (told_by last) (n i) (read_lines (sizes first.activities.now first.pairs.now) (sofar_of r.sofar (sym acts_are i) (sym ps_are i)) left.place (none i))) in
      subst (λ x. Reads x first.activities.now first.pairs.now a acts ps) (sym whole) (closes count r.sofar (subst (λ l. Kept r.sofar l ps) (sym acts_are) (subst (λ l. Kept r.sofar r.activities.now l) (sym ps_are) r.kept)) (subst (λ l. l ≡ filled (take (activities_known r.sofar) l) first.activities.now) (sym acts_are) m.activities) (subst (λ l. l ≡ filled (take (pairs_known r.sofar) l) first.pairs.now) (sym ps_are) m.pairs) e)

-- a refusal is one whatever the tables hold
pub refusal : (o : Result Project Refused) (acts : List Activity) (ps : List Pair) (r : Result Head Refusal) (acts' : List Activity) (ps' : List Pair) → Reads o acts ps r acts' ps' → true ≡ is_err r → length acts' ≡ length acts → length ps' ≡ length ps → (answer r ≡ head_answer o) × (replicate (length acts') blank_activity ≡ activities_after o acts) × (replicate (length ps') blank_pair ≡ pairs_after o ps)
refusal (Ok p) acts ps r acts' ps' h e la lp =
    let z : true ≡ false = e ∙ ap is_err h.0 in
    absurd (true≢false z)
refusal (Err n) acts ps r acts' ps' h e la lp =
    (h, ap (λ n. replicate n blank_activity) la, ap (λ n. replicate n blank_pair) lp)

pub acceptance : (o : Result Project Refused) (acts : List Activity) (ps : List Pair) (r : Result Head Refusal) (acts' : List Activity) (ps' : List Pair) → Reads o acts ps r acts' ps' → false ≡ is_err r → (answer r ≡ head_answer o) × (acts' ≡ activities_after o acts) × (ps' ≡ pairs_after o ps)
acceptance (Ok p) acts ps r acts' ps' h e = (ap answer h.0, h.1, h.2)
acceptance (Err n) acts ps r acts' ps' h e = absurd (none r h e)
  where
    none : (r : Result Head Refusal) → answer r ≡ Err n → false ≡ is_err r → ⊥
    none (Ok x) h e = let z : ◌≡◌ {A = ℕ} 0 1 = cc in omega arith
    none (Err x) h e = true≢false (sym e)
