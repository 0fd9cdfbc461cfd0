-- The lines of a project's text, and the text that they make. Assumes nothing.
use Rattle.std.proofs.Common.{◌≡◌, ℕ, ◌+◌, List, [], ◌∷◌, ◌++◌, map, length, take, sym, refl, ◌∙◌, append_assoc, append-nil, arith}
use Rattle.std.specs.List.{flat_map}
use Rattle.std.proofs.lemmas.Grind.{flat_map-append}
use Rattle.std.proofs.lemmas.List.Folds.{flat_map-map}
use Rattle.std.proofs.lemmas.List.{length-append, length-map}
use Rattle.project.specs.Project.{project_of}
use Rattle.project.specs.declared.tables.Activity.{Activity}
use Rattle.project.specs.declared.tables.Head.{Head}
use Rattle.project.specs.declared.tables.Pair.{Pair}
use Rattle.book.specs.Lines.{Content, line}
use Rattle.book.specs.Saying.{saying, line_text}
use Rattle.book.specs.Written.{activity_line, capacities_line, pair_line, trailer_line, written}
use Rattle.book.specs.declared.lines.Line.{Line}

around : {X : Type 0} (t : X → List ℕ) (x z : X) (xs ys : List X) → flat_map t (x ∷ (xs ++ (ys ++ z ∷ []))) ≡ (t x ++ (flat_map t xs ++ flat_map t ys)) ++ t z
around t x z xs ys = grind (arith, flat_map-append, append_assoc, append-nil)

said : {X : Type 0} (f : X → Content) (xs : List X) → flat_map line_text (map (λ x. saying (f x)) xs) ≡ flat_map line (map f xs)
said f xs = flat_map-map line_text (λ x. saying (f x)) xs ∙ sym (flat_map-map line f xs)

-- the first line, the lines of the records, and the last line after all of them
pub lines_text : (h : Head) (acts : List Activity) (ps : List Pair) (n : ℕ) {x z : Line}
    → n ≡ 1 + length (take h.activities acts) + length (take h.pairs ps) → x ≡ saying (capacities_line (project_of h [] [])) → z ≡ saying (trailer_line 0 n)
    → flat_map line_text (x ∷ (map (λ a. saying (activity_line h.resources a)) (take h.activities acts) ++ (map (λ q. saying (pair_line q)) (take h.pairs ps) ++ z ∷ []))) ≡ written 0 (project_of h acts ps)
lines_text h acts ps n {x} {z} count first last =
    let p = project_of h acts ps in
    let f = activity_line h.resources in
    let xs = map f p.activities in
    let ys = map pair_line p.pairs in
    let m : n ≡ length (capacities_line p ∷ (xs ++ ys)) =
    omega (arith, count, length-append xs ys, length-map p.activities f, length-map p.pairs pair_line) in
    around line_text x z _ _
    ∙ rw (first, last, m, said f p.activities, said pair_line p.pairs, flat_map-append line xs ys) refl
