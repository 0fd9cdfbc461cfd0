-- What the call that writes leaves, where the rules are kept: it is a book, and reads back. Assumes nothing.
use Rattle.std.proofs.Common.{◌≡◌, ℕ, List, ◌++◌, length, drop, take, Ok, Result, sym, refl, ap, ◌∙◌, subst, zero-add}
use Rattle.std.proofs.lemmas.List.Edits.{paste_all}
use Rattle.std.proofs.lemmas.List.{take_at}
use Rattle.project.specs.Project.{Project, Shaped, Rules, filled}
use Rattle.project.specs.declared.refusal.Refusal.{Refusal}
use Rattle.numerals.specs.Puts.{put, PutAt}
use Rattle.book.specs.Accepted.{IsBook, WritesBook}
use Rattle.book.specs.Reading.{ReadsBack}
use Rattle.book.specs.Written.{written}
use Rattle.book.proofs.Acceptance.{accepts, written_book}

-- what was written from the start on fills the front
pub put_all : {out left s : List ℕ} {end : ℕ} → PutAt out left 0 end s → (end ≡ length s) × (left ≡ filled s out)
unfolding put
put_all {out} {left} {s} {end} p =
    (p.ends ∙ zero-add (length s), p.bytes ∙ paste_all out 0 s (length s) refl ∙ ap (λ n. s ++ drop n out) (zero-add (length s)))

module _ (p : Project) (shaped : Shaped p) (rules : Rules p) {out left : List ℕ} {end : ℕ} (put : PutAt out left 0 end (written 0 p)) where
  taken : (n : ℕ) → end ≡ n → take n left ≡ written 0 p
  taken n is =
      let w = put_all put in
      let same : length (written 0 p) ≡ n = sym w.0 ∙ is in
      ap (take n) w.1 ∙ take_at (written 0 p) _ n same

  pub book_written : {told : ℕ} → told ≡ end → WritesBook p (Ok told) left
  book_written e n z is a q =
      let same : end ≡ n = cc in
      subst (λ bs. IsBook z bs p) (sym (taken n same)) (written_book z p shaped rules a q)

pub reads_back : (p : Project) (r : Result ℕ Refusal) (out : List ℕ) → WritesBook p r out → ReadsBack p r out
reads_back p r out book n z is a q = (accepts z (take n out) p).1 (book n z is a q)
