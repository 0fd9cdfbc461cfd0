-- What the format says of a book, said of the answer of a call. Assumes nothing.
use Rattle.std.proofs.Common.{◌≡◌, ℕ, ◌↔◌, List, [], length, replicate, Ok, Err, Result, sym, ap, ◌∙◌, arith}
use Rattle.project.specs.Project.{Project, project_of, head_of, blank_activity, blank_pair}
use Rattle.project.specs.Refusals.{Refused, refused, answer}
use Rattle.project.specs.declared.refusal.Refusal.{Refusal}
use Rattle.project.specs.declared.tables.Activity.{Activity}
use Rattle.project.specs.declared.tables.Head.{Head}
use Rattle.project.specs.declared.tables.Pair.{Pair}
use Rattle.book.specs.Accepted.{IsBook, Gave, Unread, Framed, sizes}
use Rattle.book.specs.Reading.{reading, head_answer, activities_after, pairs_after}
use Rattle.book.specs.Written.{written}
use Rattle.book.proofs.Acceptance.{accepts}
use Rattle.book.proofs.Looping.{held}
use Rattle.book.proofs.Refusing.{refuses, writes_back}
use Rattle.book.proofs.Taking.{answer_ok}

module _ (bs : List ℕ) (acts : List Activity) (ps : List Pair) (r : Result Head Refusal) (acts' : List Activity) (ps' : List Pair) (value : answer r ≡ head_answer (reading (sizes acts ps) bs)) (acts_are : acts' ≡ activities_after (reading (sizes acts ps) bs) acts) (pairs_are : ps' ≡ pairs_after (reading (sizes acts ps) bs) ps) where
  gave_read : (p : Project) → Gave acts ps r acts' ps' p → reading (sizes acts ps) bs ≡ Ok p
  gave_read p g = go (reading (sizes acts ps) bs) value acts_are pairs_are
    where
      go : (o : Result Project Refused) → answer r ≡ head_answer o → acts' ≡ activities_after o acts → ps' ≡ pairs_after o ps → o ≡ Ok p
      go (Ok q) v a b =
          let same : head_of q ≡ head_of p = cc (v, ap answer g.head) in
          ap Ok (sym (held q acts' ps' acts ps a b) ∙ ap (λ h. project_of h acts' ps') same ∙ held p acts' ps' acts ps g.activities g.pairs)
      go (Err e) v a b = let z : ◌≡◌ {A = ℕ} 0 1 = cc (v, ap answer g.head) in absurd (omega arith)

  read_gave : (p : Project) → reading (sizes acts ps) bs ≡ Ok p → Gave acts ps r acts' ps' p
  read_gave p e = record {
    head = answer_ok r (head_of p) (value ∙ ap head_answer e);
    activities = acts_are ∙ ap (λ o. activities_after o acts) e;
    pairs = pairs_are ∙ ap (λ o. pairs_after o ps) e;
  }

  pub accepts_call : (p : Project) → Gave acts ps r acts' ps' p ↔ IsBook (sizes acts ps) bs p
  accepts_call p = (
    λ g. (accepts (sizes acts ps) bs p).0 (gave_read p g),
    λ b. read_gave p ((accepts (sizes acts ps) bs p).1 b),
  )

  refused_read : (x : Refused) → answer r ≡ Err x → reading (sizes acts ps) bs ≡ Err x
  refused_read x e = go (reading (sizes acts ps) bs) value
    where
      go : (o : Result Project Refused) → answer r ≡ head_answer o → o ≡ Err x
      go (Ok q) v = let z : ◌≡◌ {A = ℕ} 0 1 = cc in absurd (omega arith)
      go (Err y) v = let same : y ≡ x = cc in ap Err same

  pub refuses_call : (n at : ℕ) → (answer r ≡ Err (refused n at)) ↔ Unread (sizes acts ps) bs n at
  refuses_call n at = (
    λ e. (refuses (sizes acts ps) bs n at).0 (refused_read (refused n at) e),
    λ u. value ∙ ap head_answer ((refuses (sizes acts ps) bs n at).1 u),
  )

  pub written_call : (p : Project) → Gave acts ps r acts' ps' p → (ls : List (List ℕ)) (count : ℕ) → Framed bs [] ls count → written 0 p ≡ bs
  written_call p g ls count f = writes_back (sizes acts ps) bs p ls count (gave_read p g) f

  -- refused, the tables are blank
  pub blank_call : (x : Refused) → answer r ≡ Err x → (acts' ≡ replicate (length acts) blank_activity) × (ps' ≡ replicate (length ps) blank_pair)
  blank_call x e =
      let is = refused_read x e in
      (acts_are ∙ ap (λ o. activities_after o acts) is, pairs_are ∙ ap (λ o. pairs_after o ps) is)
