-- The trailer, as the code finds it. Assumes nothing.
use Rattle.std.proofs.Common.{◌≡◌, ℕ, ◌-◌, ◌≤◌, ◌&&◌, leb, List, length, get_or, take, drop, Some, None, Ok, Err, Option, Result, sym, ap, ◌∙◌}
use Rattle.std.specs.Result.{result_ok}
use Rattle.std.proofs.lemmas.List.{take_rest}
use Rattle.std.proofs.lemmas.Bool.{cond-true, and_from, le-leb, eq-eqb}
use Rattle.project.specs.declared.refusal.Refusal.{Refusal}
use Rattle.book.specs.declared.lines.Line.{Line}
use Rattle.book.specs.declared.words.Word.{Word}
use Rattle.book.specs.declared.words.Words.{Words}
use Rattle.book.specs.Cuts.{LetterCut, left, place_of, said}
use Rattle.book.specs.Lines.{Content, numerals, content, content_of, if_counted, formed, most_bytes, lf}
use Rattle.book.specs.Parsed.{LineRead}
use Rattle.book.specs.Reading.{ends_in_lf, but_last, last_line, trailed, trailed_by, trailer}
use Rattle.book.specs.Steps.{content_in}

-- what a line says is what its words say
formed_said : (k : ℕ) (l : List ℕ) (place : ℕ) (w : Word) (ws : Words) → LetterCut l place w ws → formed k l ≡ said k w ws
formed_said k l place w ws c =
    ap (λ x. if_counted k (content_of x)) c.cut ∙ ap (λ o. if_counted k (content o (numerals (left ws)))) (sym c.tells)

no_line : (o : Option Content) (place : ℕ) (r : Result Line Refusal) → LineRead o place r → None ≡ result_ok r → o ≡ None
no_line o place (Ok l) h e = cc
no_line o place (Err x) h e = h.0

some_line : (o : Option Content) (place : ℕ) (r : Result Line Refusal) → LineRead o place r → (l : Line) → Some l ≡ result_ok r → o ≡ Some (content_in l)
some_line o place (Ok k) h l e = let same : k ≡ l = cc in h ∙ ap (λ x. Some (content_in x)) same
some_line o place (Err x) h l e = cc

module _ (bs : List ℕ) (last : get_or bs (length bs - 1) 0 ≡ lf) (short : length bs ≤ most_bytes) (p : ℕ) (at : p ≡ last_line bs) (w : Word) (ws : Words) (cut : LetterCut (take (length (but_last bs) - p) (drop p (but_last bs))) p w ws) (r : Result Line Refusal) (read : LineRead (said 0 w ws) (place_of w) r) where
  text : List ℕ
  text = take (length (but_last bs) - p) (drop p (but_last bs))

  said_is : formed 0 text ≡ said 0 w ws
  unfolding text
  said_is = formed_said 0 (take (length (but_last bs) - p) (drop p (but_last bs))) p w ws cut

  trailer_is : trailer bs ≡ trailed_by bs p (said 0 w ws)
  unfolding text
  trailer_is =
      cond-true (leb (length bs) most_bytes && ends_in_lf bs) _ _ (and_from _ _ (le-leb _ _ short) (eq-eqb _ _ last)) ∙ ap (λ n. trailed_by bs n (formed 0 (drop n (but_last bs)))) (sym at) ∙ ap (λ l. trailed_by bs p (formed 0 l)) (sym (take_rest (but_last bs) p)) ∙ ap (trailed_by bs p) said_is

  pub trailer_none : None ≡ result_ok r → None ≡ trailer bs
  trailer_none e = sym (trailer_is ∙ ap (trailed_by bs p) (no_line _ _ r read e))

  module _ (l : Line) (e : Some l ≡ result_ok r) where
    pub trailer_some : trailed bs p l.kind l.numbers.items ≡ trailer bs
    trailer_some = sym (trailer_is ∙ ap (trailed_by bs p) (some_line _ _ r read l e))
