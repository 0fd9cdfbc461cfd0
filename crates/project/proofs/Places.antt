-- The tests of whole lists, place by place. Assumes nothing.
use Rattle.std.proofs.Common.{◌++◌, ◌∷◌, ◌≡◌, ℕ, ◌+◌, ◌&&◌, leb, List, [], length, sym, refl, ap, ◌∙◌, arith}
use Rattle.std.specs.List.{list_all, zip, enumerate_from}
use Rattle.std.proofs.lemmas.List.{append_assoc, length_push}
use Rattle.std.proofs.Math.Seq.{take-append_seam}
use Rattle.project.specs.declared.tables.Pair.{Pair}
use Rattle.project.specs.Project.{within, proper, follows, at_place, pairs_fit}

-- the test of two lists, place by place
pub within_zip : (xs ys : List ℕ) → length xs ≡ length ys → within xs ys ≡ list_all (λ p. leb p.0 p.1) (zip xs ys)
within_zip [] ys e = refl
within_zip (x ∷ xs) [] e = absurd (omega arith)
within_zip (x ∷ xs) (y ∷ ys) e = ap (λ t. leb x y && t) (within_zip xs ys (omega arith))

fit_from : (n : ℕ) (before qs : List Pair) → pairs_fit n before qs ≡ list_all (at_place n (before ++ qs)) (enumerate_from (length before) qs)
fit_from n before [] = refl
fit_from n before (q ∷ qs) =
    let all : list_all (at_place n ((before ++ q ∷ []) ++ qs)) (enumerate_from (length (before ++ q ∷ [])) qs) ≡ list_all (at_place n (before ++ q ∷ qs)) (enumerate_from (length before + 1) qs) = λ i. list_all (at_place n (append_assoc before (q ∷ []) qs i)) (enumerate_from (length_push before q i) qs) in
    ap (λ t. (proper n q && follows before q) && t) (fit_from n (before ++ q ∷ []) qs ∙ all) ∙ ap (λ front. (proper n q && follows front q) && list_all (at_place n (before ++ q ∷ qs)) (enumerate_from (length before + 1) qs)) (sym (take-append_seam before (q ∷ qs)))

-- the pairs fit where each passes at its place
pub fit_by_place : (n : ℕ) (ps : List Pair) → pairs_fit n [] ps ≡ list_all (at_place n ps) (enumerate_from 0 ps)
fit_by_place n ps = fit_from n [] ps
