-- A text that is written piece by piece. Assumes nothing.
use Rattle.std.proofs.Common.{◌≡◌, ℕ, ◌+◌, ◌≤◌, List, [], ◌++◌, length, sym, refl, ap, ◌∙◌, subst, append_assoc, append-nil, arith}
use lib.Seq.{paste}
use Rattle.std.proofs.lemmas.List.Edits.{paste_none, paste-paste, paste_all, length-paste}
use Rattle.std.proofs.lemmas.List.{length-append, drop_all}
use Rattle.numerals.specs.Puts.{put, PutAt, PutIfRoom}

-- one piece after another is both pieces, where there is room for both
put_then : {out left rest s t : List ℕ} {at mid end : ℕ} → at + length s + length t ≤ length out → PutAt out left at mid s → PutIfRoom left rest mid end t → PutAt out rest at end (s ++ t)
unfolding put
put_then {out} {left} {rest} {s} {t} {at} {mid} {end} room p more =
    let same = ap length p.bytes ∙ length-paste out at s (length s) (omega arith) (omega arith) in
    let q = more.room (omega (arith, p.ends)) in
    let n = length-append s t in
    record {
      ends = omega (arith, p.ends, q.ends);
      bytes = q.bytes ∙ ap (λ l. paste l mid t (length t)) p.bytes ∙ ap (λ m. paste (paste out at s (length s)) m t (length t)) p.ends ∙ paste-paste out at s t (length s) (length t) refl refl (omega (arith, p.ends)) ∙ ap (paste out at (s ++ t)) (sym n);
    }

-- From a place on, the front of the text is written, and the rest of it is to come.
pub record Underway (was out : List ℕ) (from at : ℕ) (rest text : List ℕ) : Type 0 where
  pub done : List ℕ
  pub put : PutAt was out from at done
  pub whole : done ++ rest ≡ text

pub begun : {was out rest text : List ℕ} {from at : ℕ} → out ≡ was → at ≡ from → rest ≡ text → Underway was out from at rest text
unfolding put
begun {was} {from = from} e f g = record {
  done = [];
  put = record { ends = omega (arith, f); bytes = e ∙ paste_none was from [] };
  whole = g;
}

-- how far the text has come
length_done : {was out rest text : List ℕ} {from at : ℕ} (s rest' : List ℕ) (u : Underway was out from at rest text) → rest ≡ s ++ rest' → length u.done + length s + length rest' ≡ length text
length_done {rest = rest} s rest' u e =
    omega (arith, ap length u.whole, length-append u.done rest, ap length e, length-append s rest')

-- the next piece has room where the text has
pub fits : {was out rest text : List ℕ} {from at : ℕ} (s rest' : List ℕ) → from + length text ≤ length was → Underway was out from at rest text → rest ≡ s ++ rest' → at + length s ≤ length out
unfolding put
fits {was} {from = from} s rest' room u e =
    let far = length_done s rest' u e in
    omega (arith, far, u.put.ends, ap length u.put.bytes, length-paste was from u.done (length u.done) (omega (arith, far)) (omega arith))

-- the next piece is written
pub more : {was out left s rest rest' text : List ℕ} {from at end : ℕ} → from + length text ≤ length was → Underway was out from at rest text → rest ≡ s ++ rest' → PutIfRoom out left at end s → Underway was left from end rest' text
more {s = s} {rest' = rest'} room u e p =
    let whole = append_assoc u.done s rest' ∙ ap (λ r. u.done ++ r) (sym e) ∙ u.whole in
    let far = length_done s rest' u e in
    record { done = u.done ++ s; put = put_then (omega (arith, far)) u.put p; whole = whole }

-- the whole text is written
pub whole_put : {was out text : List ℕ} {from at : ℕ} → Underway was out from at [] text → PutAt was out from at text
whole_put {was} {out} {from = from} {at = at} u =
    subst (λ s. PutAt was out from at s) (sym (append-nil u.done) ∙ u.whole) u.put

-- a text that has as many bytes as there are is all of them
pub all_put : {was out text : List ℕ} {at : ℕ} → length was ≡ length text → Underway was out 0 at [] text → out ≡ text
unfolding put
all_put {was} {text = text} fits u =
    let p = whole_put u in
    p.bytes ∙ paste_all was 0 text _ refl ∙ ap (λ rest. text ++ rest) (drop_all (0 + length text) was (omega arith)) ∙ append-nil text
