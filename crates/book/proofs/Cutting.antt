-- How `words` and `lines` cut. Assumes nothing.
use Rattle.std.proofs.Common.{◌≡◌, ℕ, zero, suc, ◌+◌, ◌-◌, ◌<◌, ◌≤◌, Bool, true, false, List, [], ◌∷◌, ◌++◌, length, get_or, take, drop, Some, None, sym, refl, ap, ◌∙◌, subst, add-one, arith}
use Rattle.std.specs.List.{suffix_len}
use Rattle.std.proofs.Math.Seq.{split_at}
use Rattle.std.proofs.lemmas.List.Sums.{suffix_len_is}
use Rattle.std.proofs.lemmas.List.{append-nil, take_rest, drop-drop}
use Rattle.book.specs.Lines.{space, words}
use Rattle.book.specs.Cuts.{Without, SplitAt, WordCut}
use Rattle.book.specs.declared.words.Part.{Part}
use Rattle.book.proofs.Spelling.{words_front}

without_front : (b : ℕ) (xs : List ℕ) (i : ℕ) → ((k : ℕ) → k < i → get_or xs k 0 ≡ b → ⊥) → Without b (take i xs)
without_front b [] zero h = tt
without_front b [] (suc i) h = tt
without_front b (x ∷ xs) zero h = tt
without_front b (x ∷ xs) (suc i) h =
    (h 0 (omega arith), without_front b xs i (λ k lt. h (suc k) (omega arith)))

-- a list cut around the first place of b
pub split_parts : (b : ℕ) (xs front back : List ℕ) (i : ℕ) → i < length xs → get_or xs i 0 ≡ b → ((k : ℕ) → k < i → get_or xs k 0 ≡ b → ⊥) → front ≡ take i xs → back ≡ drop i xs → (xs ≡ front ++ b ∷ take (length back - 1) (drop 1 back)) × Without b front
split_parts b xs front back i lt at before f k =
    let tail : take (length back - 1) (drop 1 back) ≡ drop (i + 1) xs = take_rest back 1 ∙ ap (drop 1) k ∙ drop-drop 1 i xs in (
      split_at xs i 0 lt ∙ ap (λ c. take i xs ++ c ∷ drop (suc i) xs) at ∙ ap (λ n. take i xs ++ b ∷ drop n xs) (sym (add-one i)) ∙ ap (λ l. l ++ b ∷ drop (i + 1) xs) (sym f) ∙ ap (λ l. front ++ b ∷ l) (sym tail),
      subst (Without b) (sym f) (without_front b xs i before),
    )

-- the first word ends with the line
pub last_word : (p : Part) → Without space p.text.now → WordCut p p None
last_word p h = record {
  cut = ap words (sym (append-nil p.text.now)) ∙ words_front p.text.now [] [] h refl;
  here = refl;
  after = tt;
}

-- or at the first space
pub first_word : (p w more : Part) → SplitAt space p w more → WordCut p w (Some more)
first_word p w more s = record {
  cut = ap words s.whole ∙ words_front w.text.now (space ∷ more.text.now) (words more.text.now) s.first refl;
  here = s.here;
  after = ap (λ n. n + length w.text.now + 1) s.here ∙ sym s.after;
}

-- where the last line starts: after the last byte that fails the test
pub after_last : (p : ℕ → Bool) (xs : List ℕ) (i : ℕ) → i < length xs → p (get_or xs i 0) ≡ false → ((k : ℕ) → i + 1 ≤ k → k < length xs → p (get_or xs k 0) ≡ true) → i + 1 ≡ length xs - suffix_len p xs
after_last p xs i lt at after =
    let same : i + 1 - 1 ≡ i = omega arith in
    let e = suffix_len_is p xs (i + 1) 0 (omega arith) after (λ _. ap (λ n. p (get_or xs n 0)) same ∙ at) in
    omega arith

pub none_fails : (p : ℕ → Bool) (xs : List ℕ) → ((k : ℕ) → k < length xs → p (get_or xs k 0) ≡ true) → 0 ≡ length xs - suffix_len p xs
none_fails p xs all =
    let e = suffix_len_is p xs 0 0 (omega arith) (λ k _ lt. all k lt) (λ lt. absurd (omega arith)) in
    omega arith
