-- The parts of a list that is put together of them. Assumes nothing.
use Rattle.std.proofs.Common.{◌≡◌, Bool, true, false, List, [], ◌∷◌, ◌++◌, sym, ap, ◌∙◌, append_assoc, append-nil}
use Rattle.std.specs.List.{AllByRecursion}
use Rattle.std.proofs.lemmas.Bool.{cond-true, cond-false}
use Rattle.stores.specs.Scripts.{parts}

module _ {A : Type 0} (is_end : A → Bool) where
  -- no end stands among these
  abbrev pub Inside : List A → Type 0
  Inside = AllByRecursion (λ x. is_end x ≡ false)

  pub parts_front : (part w rest : List A) → Inside w → parts is_end part (w ++ rest) ≡ parts is_end (part ++ w) rest
  parts_front part [] rest h = ap (λ p. parts is_end p rest) (sym (append-nil part))
  parts_front part (x ∷ w) rest h =
      cond-false (is_end x) _ _ h.0 ∙ parts_front (part ++ x ∷ []) w rest h.1 ∙ ap (λ p. parts is_end p rest) (append_assoc part (x ∷ []) w)

  pub parts_one : (w : List A) (x : A) (rest : List A) → Inside w → is_end x ≡ true → parts is_end [] (w ++ x ∷ rest) ≡ w ∷ parts is_end [] rest
  parts_one w x rest h e = parts_front [] w (x ∷ rest) h ∙ cond-true (is_end x) _ _ e

  pub parts_none : (w : List A) → Inside w → parts is_end [] w ≡ []
  parts_none w h = ap (parts is_end []) (sym (append-nil w)) ∙ parts_front [] w [] h
