-- The bytes of a line, one piece after another. Assumes nothing.
use Rattle.std.proofs.Common.{◌≡◌, ℕ, ◌+◌, ◌<◌, ◌≤◌, List, [], ◌∷◌, ◌++◌, length, get_or, drop, decimal, sym, ap, ◌∙◌, append_assoc, add-one, drop-cons}
use Rattle.std.specs.List.{flat_map}
use Rattle.std.proofs.lemmas.List.{drop_all}
use Rattle.book.specs.Lines.{lf, space, spaced}

-- what follows the numbers before the one at i
abbrev pub line_from : List ℕ → ℕ → List ℕ
line_from ns i = flat_map spaced (drop i ns) ++ lf ∷ []

pub next_number : (ns : List ℕ) (i : ℕ) → i < length ns → line_from ns i ≡ (space ∷ []) ++ (decimal (get_or ns i 0) ++ line_from ns (i + 1))
next_number ns i lt =
    ap (λ l. flat_map spaced l ++ lf ∷ []) (drop-cons ns i 0 lt ∙ ap (λ n. get_or ns i 0 ∷ drop n ns) (sym (add-one i)))
    ∙ ap (λ l. space ∷ l) (append_assoc (decimal (get_or ns i 0)) (flat_map spaced (drop (i + 1) ns)) (lf ∷ []))

pub no_number : (ns : List ℕ) (i : ℕ) → length ns ≤ i → line_from ns i ≡ (lf ∷ []) ++ []
no_number ns i le = ap (λ l. flat_map spaced l ++ lf ∷ []) (drop_all i ns le)
