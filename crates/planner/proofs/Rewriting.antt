-- A book that was read is written anew: the project keeps the rules, and its text is no longer than the book. Assumes
-- nothing.
use Rattle.std.proofs.Common.{◌≡◌, ℕ, ◌^◌, ◌<◌, ◌≤◌, true, cond, leb, List, [], ◌∷◌, ◌++◌, length, take, drop, Ok, Err, vec_items, decimal, Result, Vec, sym, refl, ap, ◌∙◌, subst, inl, inr, ⊎_elim, arith}
use Rattle.std.specs.declared.alloc.Global.{Global}
use Rattle.std.specs.List.{flat_map}
use Rattle.std.proofs.lemmas.Fmt.{decimal_nonempty, decimal_digit}
use Rattle.std.proofs.lemmas.List.{length-append, take_at}
use Rattle.std.proofs.lemmas.Bool.{cond-true, le-leb}
use Rattle.project.specs.Project.{Project, Rules, project_of, head_of, filled, sound, most_activities, most_pairs}
use Rattle.project.specs.Refusals.{Refused, refused, answer, told, number, place}
use Rattle.project.specs.declared.refusal.Refusal.{Refusal}
use Rattle.project.specs.declared.refusal.Refusal.TheVariants.{NotABook, BadForm, OutOfOrder, OverLimit, BadPair, TooMany, WrongCount, RulesBroken, ShortBuffer, SinkInUse, NoRoom, NoBatch, NotAClause, NoMemory}
use Rattle.project.specs.declared.tables.Activity.{Activity}
use Rattle.project.specs.declared.tables.Head.{Head}
use Rattle.project.specs.declared.tables.Pair.{Pair}
use Rattle.project.proofs.Decided.{decides_sound}
use Rattle.book.specs.Accepted.{full, IsBook, Sizes, sizes}
use Rattle.book.specs.Lines.{lf, space, most_bytes, line}
use Rattle.book.specs.Reading.{reading, head_answer, activities_after, pairs_after}
use Rattle.book.specs.Written.{body, trailer_line, written, writing, bytes_after}
use Rattle.book.proofs.Acceptance.{accepts}
use Rattle.book.proofs.Looping.{held}
use Rattle.book.proofs.Refusing.{refuses}
use Rattle.book.proofs.Taking.{answer_ok}
use Rattle.planner.specs.Response.{response, rewritten, Rewrites, Responds, Means}

-- the trailer of a text without a cover is no longer
trailer_shorter : (k n : ℕ) → k < 2 ^ 64 → length (line (trailer_line 0 n)) ≤ length (line (trailer_line k n))
trailer_shorter k n small =
    more 90 (decimal 0) (decimal k) (space ∷ (decimal n ++ [])) (omega (arith, decimal_nonempty k small, ap length (decimal_digit 0 (omega arith))))
  where
    more : (letter : ℕ) (a b rest : List ℕ) → length a ≤ length b → length (letter ∷ space ∷ ((a ++ rest) ++ lf ∷ [])) ≤ length (letter ∷ space ∷ ((b ++ rest) ++ lf ∷ []))
    more letter a b rest le =
        omega (arith, length-append (a ++ rest) (lf ∷ []), length-append (b ++ rest) (lf ∷ []), length-append a rest, length-append b rest)

shorter : (cover text a b : List ℕ) → length a ≤ length b → length (text ++ a) ≤ length (cover ++ (text ++ b))
shorter cover text a b le =
    omega (arith, length-append text a, length-append text b, length-append cover (text ++ b))

pub no_longer : (z : Sizes) (bs : List ℕ) (p : Project) → IsBook z bs p → length (written 0 p) ≤ length bs
no_longer z bs p b =
    let long = ap length b.whole ∙ length-append b.cover (written (length b.cover) p) in
    let small : length b.cover < 2 ^ 64 = small_cover b.cover (written (length b.cover) p) (subst (λ l. length l ≤ most_bytes) b.whole b.short) in
    subst (λ l. length (written 0 p) ≤ length l) (sym b.whole) (shorter b.cover (flat_map line (body p)) (line (trailer_line 0 (length (body p)))) (line (trailer_line (length b.cover) (length (body p)))) (trailer_shorter (length b.cover) (length (body p)) small))
  where
    small_cover : (cover rest : List ℕ) → length (cover ++ rest) ≤ most_bytes → length cover < 2 ^ 64
    small_cover cover rest le = omega (arith, length-append cover rest)

filled_long : {A : Type 0} (front xs : List A) → length front ≤ length (filled front xs)
filled_long front xs = omega (arith, length-append front (drop (length front) xs))

pub keeps : (p : Project) (acts : List Activity) (ps : List Pair) (acts₀ : List Activity) (ps₀ : List Pair) → Rules p → acts ≡ filled p.activities acts₀ → ps ≡ filled p.pairs ps₀ → sound (head_of p) acts ps ≡ true
keeps p acts ps acts₀ ps₀ rules a b =
    (decides_sound (head_of p) acts ps).1 (record {
      activities = subst (λ l. length p.activities ≤ length l) (sym a) (filled_long p.activities acts₀);
      pairs = subst (λ l. length p.pairs ≤ length l) (sym b) (filled_long p.pairs ps₀);
      rules = subst Rules (sym (held p acts ps acts₀ ps₀ a b)) rules;
    })

-- What reading and writing say of one book, put together.
module _ (bs : List ℕ) (acts : List Activity) (ps : List Pair) (out : List ℕ) (many : length acts ≡ most_activities) (some : length ps ≡ most_pairs) where
  tables_full : sizes acts ps ≡ full
  tables_full = λ i. record { activities = many i; pairs = some i }

  pub refused_text : (e : Refusal) (out' : List ℕ) → answer (Err e) ≡ head_answer (reading (sizes acts ps) bs) → Rewrites (response bs) out (Err e) out'
  refused_text e out' value = go (reading full bs) (value ∙ ap (λ z. head_answer (reading z bs)) tables_full)
    where
      go : (o : Result Project Refused) → Err (told e) ≡ head_answer o → Rewrites (rewritten o) out (Err e) out'
      go (Ok p) v = let z : ◌≡◌ {A = ℕ} 0 1 = cc in absurd (omega arith)
      go (Err x) v = let same : told e ≡ x = cc in ap Err same

  -- the book was read as a project p
  written_as : (p : Project) (r : Result ℕ Refusal) (acts' : List Activity) (ps' : List Pair) (out' : List ℕ) → reading (sizes acts ps) bs ≡ Ok p → acts' ≡ filled p.activities acts → ps' ≡ filled p.pairs ps → length bs ≤ length out → answer r ≡ writing (head_of p) acts' ps' out → out' ≡ bytes_after (writing (head_of p) acts' ps' out) (written 0 (project_of (head_of p) acts' ps')) out → Rewrites (Ok (written 0 p)) out r out'
  written_as p r acts' ps' out' read a b room value after =
      let book = (accepts (sizes acts ps) bs p).0 read in
      let same = held p acts' ps' acts ps a b in
      let fits : leb (length (written 0 p)) (length out) ≡ true = le-leb _ _ (within (no_longer (sizes acts ps) bs p book) room) in
      let is : writing (head_of p) acts' ps' out ≡ Ok (length (written 0 p)) = cond-true _ _ _ (keeps p acts' ps' acts ps book.rules a b) ∙ ap (λ q. cond (leb (length (written 0 q)) (length out)) (Ok (length (written 0 q))) (Err (refused 9 0))) same ∙ cond-true _ _ _ fits in (
        answer_ok r _ (value ∙ is),
        after ∙ ap (λ o. bytes_after o (written 0 (project_of (head_of p) acts' ps')) out) is ∙ ap (λ q. filled (written 0 q) out) same,
      )
    where
      within : {a b c : ℕ} → a ≤ b → b ≤ c → a ≤ c
      within h k = omega arith

  pub rewritten_text : (h : Head) (r : Result ℕ Refusal) (acts' : List Activity) (ps' : List Pair) (out' : List ℕ) → answer (Ok h) ≡ head_answer (reading (sizes acts ps) bs) → acts' ≡ activities_after (reading (sizes acts ps) bs) acts → ps' ≡ pairs_after (reading (sizes acts ps) bs) ps → length bs ≤ length out → answer r ≡ writing h acts' ps' out → out' ≡ bytes_after (writing h acts' ps' out) (written 0 (project_of h acts' ps')) out → Rewrites (response bs) out r out'
  rewritten_text h r acts' ps' out' head a b room value after =
      subst (λ z. Rewrites (rewritten (reading z bs)) out r out') tables_full (go (reading (sizes acts ps) bs) refl head a b)
    where
      go : (o : Result Project Refused) → reading (sizes acts ps) bs ≡ o → answer (Ok h) ≡ head_answer o → acts' ≡ activities_after o acts → ps' ≡ pairs_after o ps → Rewrites (rewritten o) out r out'
      go (Err x) e v a b = let z : ◌≡◌ {A = ℕ} 0 1 = cc v in absurd (omega arith)
      go (Ok p) e v a b =
          let same : h ≡ head_of p = cc v in
          written_as p r acts' ps' out' e a b room (value ∙ ap (λ k. writing k acts' ps' out) same) (after ∙ ap (λ k. bytes_after (writing k acts' ps' out) (written 0 (project_of k acts' ps')) out) same)

pub no_text : (o : Result (List ℕ) Refused) (out : List ℕ) (e : Refusal) (out' : List ℕ) → Rewrites o out (Err e) out' → o ≡ Err (told e)
no_text (Ok text) out e out' h = let z : ◌≡◌ {A = ℕ} 0 1 = cc h.0 in absurd (omega arith)
no_text (Err x) out e out' h = let same : x ≡ told e = cc in ap Err same

pub all_text : (o : Result (List ℕ) Refused) (out : List ℕ) (n : ℕ) (out' : List ℕ) → Rewrites o out (Ok n) out' → o ≡ Ok (take n out')
all_text (Ok text) out n out' h =
    let same : n ≡ length text = cc h.0 in
    ap Ok (sym (ap (λ k. take k out') same ∙ ap (take (length text)) h.1 ∙ take_at text (drop (length text) out) (length text) refl))
all_text (Err x) out n out' h = let z : ◌≡◌ {A = ℕ} 0 1 = cc in absurd (omega arith)

-- What the answer means.

told_is : (e : Refusal) → told e ≡ refused (number e) (place e)
told_is NotABook = refl
told_is (BadForm p) = refl
told_is (OutOfOrder p) = refl
told_is (OverLimit p) = refl
told_is (BadPair p) = refl
told_is (TooMany p) = refl
told_is (WrongCount p) = refl
told_is RulesBroken = refl
told_is ShortBuffer = refl
told_is SinkInUse = refl
told_is (NoRoom p) = refl
told_is NoBatch = refl
told_is NotAClause = refl
told_is NoMemory = refl

pub meaning : (bs : List ℕ) (r : Result (Vec ℕ Global) Refusal) → Responds bs r → Means bs r
meaning bs (Ok v) h = go (reading full bs) refl h
  where
    go : (o : Result Project Refused) → reading full bs ≡ o → rewritten o ≡ Ok (vec_items v) → (p : Project) × IsBook full bs p × (vec_items v ≡ written 0 p)
    go (Ok p) e h = let same : vec_items v ≡ written 0 p = cc in (p, (accepts full bs p).0 e, same)
    go (Err x) e h = let z : ◌≡◌ {A = ℕ} 0 1 = cc in absurd (omega arith)
meaning bs (Err e) h =
    ⊎_elim inl (λ k. inr ((refuses full bs (number e) (place e)).0 (go (reading full bs) k ∙ ap Err (told_is e)))) h
  where
    go : (o : Result Project Refused) → rewritten o ≡ Err (told e) → o ≡ Err (told e)
    go (Ok p) k = let z : ◌≡◌ {A = ℕ} 0 1 = cc in absurd (omega arith)
    go (Err x) k = let same : x ≡ told e = cc in ap Err same
