-- How lines are cut off a book, and words off a line. Assumes nothing.
use Rattle.std.specs.Prelude.{◌≡◌, ℕ, ◌+◌, List, [], ◌∷◌, ◌++◌, length, Some, None, Option}
use Rattle.std.specs.List.{AllByRecursion}
use Rattle.book.specs.Lines.{lf, Content, words, numeral, numerals, kind_word, content, if_counted}
use Rattle.book.specs.declared.lines.LineKind.{LineKind}
use Rattle.book.specs.declared.lines.Lines.{Lines}
use Rattle.book.specs.declared.words.Part.{Part}
use Rattle.book.specs.declared.words.Word.{Word}
use Rattle.book.specs.declared.words.Word.TheVariants.{Letter, Number}
use Rattle.book.specs.declared.words.Words.{Words}

-- the byte b is not among these
abbrev pub Without : ℕ → List ℕ → Type 0
Without b bs = AllByRecursion (λ c. c ≡ b → ⊥) bs

-- the part p is `front`, the first byte b in it, and `rest`
pub record SplitAt (b : ℕ) (p front rest : Part) : Type 0 where
  pub whole : p.text.now ≡ front.text.now ++ b ∷ rest.text.now
  pub first : Without b front.text.now
  pub here : front.place ≡ p.place
  pub after : rest.place ≡ p.place + length front.text.now + 1

abbrev pub SplitOnce : ℕ → Part → Option (Part × Part) → Type 0
SplitOnce b p None = Without b p.text.now
SplitOnce b p (Some q) = SplitAt b p q.0 q.1

-- the next line was taken from ls, and ms are left
abbrev pub LineCut : Lines → Option Part → Lines → Type 0
LineCut ls None ms = Without lf ls.left.text.now
LineCut ls (Some l) ms = SplitAt lf ls.left l ms.left

abbrev pub text : Word → List ℕ
text (Letter t p) = t.now
text (Number t p) = t.now

abbrev pub place_of : Word → ℕ
place_of (Letter t p) = p
place_of (Number t p) = p

abbrev pub number_of : Word → Option ℕ
number_of (Letter t p) = None
number_of (Number t p) = numeral t.now

abbrev pub kind_told : Word → Option LineKind
kind_told (Letter t p) = kind_word t.now
kind_told (Number t p) = None

abbrev pub words_of : Option Part → List (List ℕ)
words_of None = []
words_of (Some p) = words p.text.now

-- the words that are left
abbrev pub left : Words → List (List ℕ)
left ws = words_of ws.left

-- what is left stands at the place n, if anything is left
abbrev pub StandsAt : ℕ → Option Part → Type 0
StandsAt n None = Unit {0}
StandsAt n (Some p) = n ≡ p.place

-- a part of a line is its first word and what is left after the space that ends it
pub record WordCut (p w : Part) (more : Option Part) : Type 0 where
  pub cut : words p.text.now ≡ w.text.now ∷ words_of more
  pub here : w.place ≡ p.place
  pub after : StandsAt (w.place + length w.text.now + 1) more

-- w is the first word of the line l, which stands at the place, and ws is what is left
pub record LetterCut (l : List ℕ) (place : ℕ) (w : Word) (ws : Words) : Type 0 where
  pub cut : words l ≡ text w ∷ left ws
  pub tells : kind_told w ≡ kind_word (text w)
  pub there : place_of w ≡ place
  pub after : StandsAt (place_of w + length (text w) + 1) ws.left

-- what a line of that first word and those others says
abbrev pub said : ℕ → Word → Words → Option Content
said k w ws = if_counted k (content (kind_told w) (numerals (left ws)))

-- the next word w was taken from ws, and us is what is left
pub record Taken (ws : Words) (w : Word) (us : Words) : Type 0 where
  pub cut : left ws ≡ text w ∷ left us
  pub tells : number_of w ≡ numeral (text w)
  pub there : StandsAt (place_of w) ws.left
  pub after : StandsAt (place_of w + length (text w) + 1) us.left

abbrev pub NumberCut : Words → Option Word → Words → Type 0
NumberCut ws None us = left ws ≡ []
NumberCut ws (Some w) us = Taken ws w us
