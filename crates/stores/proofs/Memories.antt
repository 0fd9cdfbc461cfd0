-- What a memory spells, and what its sink means, when a call is done. Assumes nothing.
use Rattle.std.proofs.Common.{◌≡◌, ℕ, ◌+◌, ◌-◌, ◌^◌, ◌≤◌, min, true, cond, ◌&&◌, List, [], ◌∷◌, ◌++◌, length, take, drop, replicate, ℤ, is_some, Some, None, Ok, vec_items, vec_len, Option, Vec, sym, refl, ap, ◌∙◌, subst, append_assoc, append-nil, arith, length-append, length-take-le, length-drop, take_all, take-take, take_at, drop_at, take-append-drop}
use borrow.Rule.Slice.PartMut.{put_mid}
use mathlib.Core.Bool.{and-true}
use lib.ListN.{length-replicate, replicate-append-replicate}
use lib.Seq.{paste, take-length, take-append-le, drop-append-add, length-paste, take-paste}
use Rattle.std.specs.List.{flat_map}
use Rattle.std.specs.Vec.{with_items}
use Rattle.std.proofs.lemmas.List.{flat_map_more, drop-replicate, with_items_is}
use Rattle.std.proofs.lemmas.Slice.{put_mid-paste}
use Rattle.std.proofs.lemmas.Bool.{and_parts, and_from}
use Rattle.sinks.specs.Clauses.{Assignment, clausal, clauses, meets, meets_all}
use Rattle.sinks.specs.Meanings.{Meaning, Same, Unchanged, Added, Struck}
use Rattle.sinks.specs.Calls.{Verdict, Ends, Order, Open, Appended, Reverted, accepted, no, opening, adding, closing}
use Rattle.sinks.specs.Ledgers.{first_tally, may_open, may_charge, may_close, price, with_opening, charged, restored}
use Rattle.sinks.specs.declared.ledger.Ledger.{Ledger}
use Rattle.sinks.specs.declared.ledger.Tally.{Tally}
use Rattle.std.proofs.lemmas.List.Folds.{list_all-append}
use Rattle.sinks.proofs.Ledgers as ledgers
use Rattle.sinks.proofs.Verdicts.{passes}
use Rattle.stores.specs.Scripts.{Script, Legible, page}
use Rattle.stores.specs.Memories.{opening_part, Grew, Agrees, admits, stored, Recorded}

-- Lists of clauses.

clauses_more : (cs : List (List ℤ)) (c : List ℤ) → clauses cs ≡ true → clausal c ≡ true → clauses (cs ++ c ∷ []) ≡ true
clauses_more cs c h is = list_all-append clausal cs (c ∷ []) ∙ and_from (clauses cs) _ h (and-true (clausal c) ∙ is)

clauses_take : (n : ℕ) (cs : List (List ℤ)) → clauses cs ≡ true → clauses (take n cs) ≡ true
clauses_take n cs h =
    (and_parts (clauses (take n cs)) (clauses (drop n cs)) (sym (list_all-append clausal (take n cs) (drop n cs)) ∙ ap clauses (take-append-drop n cs) ∙ h)).0

meets_more : (a : Assignment) (c : List ℤ) (cs : List (List ℤ)) → meets_all a (cs ++ c ∷ []) ≡ (meets_all a cs && meets a c)
meets_more a c cs = list_all-append (meets a) cs (c ∷ []) ∙ ap (λ b. meets_all a cs && b) (and-true (meets a c))

-- Ledgers.

-- what was accepted where a batch must be open
opened : (o : Option Tally) (v : Verdict) → accepted ≡ cond (is_some o) v (no 23) → is_some o ≡ true
opened o v h = (passes (is_some o) v 23 (sym h)).0

-- the opening is remembered, whatever is taken
remains : (now new : Tally) (o : Option Tally) → is_some o ≡ true → first_tally (record { tally = new; opening = o }) ≡ first_tally (record { tally = now; opening = o })
remains now new None h = let z : ◌≡◌ {A = ℕ} 0 1 = cc in absurd (omega arith)
remains now new (Some t) h = refl

-- what an accepted call leaves, which answers this and does this to the meaning and to the order
pub record Leaves {A : Type 0} (s : Script A) (answer : Verdict) (Done : (before after : Meaning) → Type 0) (Ordered : (before after : Order) → Type 0) (m m' : List A) (l l' : Ledger) : Type 0 where
  pub sound : Agrees s m' l'
  pub meaning : Ends {A = Unit {0}} (Ok tt) answer (Done (stored s m l) (stored s m' l')) (Unchanged (stored s m l) (stored s m' l'))
  pub order : Ordered (Recorded s m l) (Recorded s m' l')

module _ {A : Type 0} (s : Script A) where
  admits_same : (m m' : List A) → s.spelled m ≡ s.spelled m' → Same (admits s m) (admits s m')
  admits_same m m' e a = (λ h. ap (meets_all a) (sym e) ∙ h, λ h. ap (meets_all a) e ∙ h)

  admits_more : (m m' : List A) (c : List ℤ) → s.spelled m' ≡ s.spelled m ++ c ∷ [] → Same (λ a. admits s m a × (meets a c ≡ true)) (admits s m')
  admits_more m m' c e a =
      let is = ap (meets_all a) e ∙ meets_more a c (s.spelled m) in
      (λ h. is ∙ and_from (meets_all a (s.spelled m)) (meets a c) h.0 h.1, λ h. and_parts (meets_all a (s.spelled m)) (meets a c) (sym is ∙ h))

module _ {A : Type 0} (s : Script A) (legible : Legible s) where
  -- a page is read as it was spelled
  reads : (n : ℕ) (cs : List (List ℤ)) → clauses cs ≡ true → s.spelled (page s n cs) ≡ cs
  reads n [] h = legible.blanks n
  reads n (c ∷ cs) h =
      let p = and_parts (clausal c) (clauses cs) h in
      ap s.spelled (append_assoc (s.spell c) (flat_map s.spell cs) _) ∙ legible.clause c _ p.0 ∙ ap (λ ds. c ∷ ds) (reads n cs p.1)

  -- what a memory spells that has these clauses, and that it is sound
  record Has (m : List A) (l : Ledger) (cs : List (List ℤ)) : Type 0 where
    spelt : s.spelled m ≡ cs
    sound : Agrees s m l

  has : (m : List A) (l : Ledger) (cs : List (List ℤ)) → m ≡ page s l.tally.free cs → clauses cs ≡ true → length cs ≡ l.tally.count → opening_part m l ≡ flat_map s.spell (take (first_tally l).count cs) → Grew m l → Has m l cs
  has m l cs is h n b g =
      let e : s.spelled m ≡ cs = ap s.spelled is ∙ reads _ cs h in
      record {
        spelt = e;
        sound = record {
          spells = is ∙ ap (page s l.tally.free) (sym e);
          clausal = ap clauses e ∙ h;
          counts = ap length e ∙ n;
          begins = b ∙ ap (λ ds. flat_map s.spell (take (first_tally l).count ds)) (sym e);
          grew = g;
        };
      }

  -- what was in use at the opening spells the first of the clauses
  opening_spelt : (m : List A) (l : Ledger) → Agrees s m l → s.spelled (opening_part m l) ≡ take (first_tally l).count (s.spelled m)
  opening_spelt m l sd =
      let cs = take (first_tally l).count (s.spelled m) in
      ap s.spelled (sd.begins ∙ sym (append-nil (flat_map s.spell cs))) ∙ reads 0 cs (clauses_take (first_tally l).count (s.spelled m) sd.clausal)

  module _ (m : List A) (l : Ledger) (sd : Agrees s m l) where
    -- what is in use are the clauses
    used : take (length m - l.tally.free) m ≡ flat_map s.spell (s.spelled m)
    used =
        let j = flat_map s.spell (s.spelled m) in
        let z = replicate l.tally.free s.blank in
        let long = ap length sd.spells ∙ length-append j z in
        let blank = length-replicate l.tally.free s.blank in
        ap (take _) sd.spells ∙ take_at j z _ (omega arith)

    -- and what is free is blank
    unused : drop (length m - l.tally.free) m ≡ replicate l.tally.free s.blank
    unused =
        let j = flat_map s.spell (s.spelled m) in
        let z = replicate l.tally.free s.blank in
        let long = ap length sd.spells ∙ length-append j z in
        let blank = length-replicate l.tally.free s.blank in
        ap (drop _) sd.spells ∙ drop_at j z _ (omega arith)

    -- so where the part in use is blanked from a place on, all is blank from there
    blanked : (start end : ℕ) → end ≡ length m - l.tally.free → start ≤ end → l.tally.free ≤ length m → (take start m ++ replicate (end - start) s.blank) ++ drop end m ≡ take start m ++ replicate (length m - start) s.blank
    blanked start end e le small =
        let sum : (end - start) + l.tally.free ≡ length m - start = omega arith in
        ap (λ k. (take start m ++ replicate (end - start) s.blank) ++ drop k m) e
        ∙ ap (λ x. (take start m ++ replicate (end - start) s.blank) ++ x) unused
        ∙ append_assoc (take start m) (replicate (end - start) s.blank) (replicate l.tally.free s.blank)
        ∙ ap (λ x. take start m ++ x) (replicate-append-replicate (end - start) l.tally.free s.blank ∙ ap (λ k. replicate k s.blank) sum)

    all : take l.tally.count (s.spelled m) ≡ s.spelled m
    all = let counts = sd.counts in take_all l.tally.count (s.spelled m) (omega arith)

    opening_is : may_open l ≡ opening (stored s m l)
    opening_is = ledgers.opening_is (λ _. Unit {0}) (λ c. length (s.spell c)) (admits s m) (admits s m) (admits s (opening_part m l)) (admits s m) l

    pub adding_is : (c : List ℤ) → may_charge (price c (length (s.spell c))) l ≡ adding c (stored s m l)
    adding_is c = ledgers.adding_is (λ _. Unit {0}) (λ d. length (s.spell d)) (admits s m) (admits s m) (admits s (opening_part m l)) (admits s m) c l

    closing_is : may_close l ≡ closing (stored s m l)
    closing_is = ledgers.closing_is (λ _. Unit {0}) (λ c. length (s.spell c)) (admits s m) (admits s m) (admits s (opening_part m l)) (admits s m) l

    -- all that is in use was added before the batch
    settled : (o : Option Tally) → first_tally (record { tally = l.tally; opening = o }) ≡ l.tally → Agrees s m (record { tally = l.tally; opening = o })
    settled o e = record {
      spells = sd.spells;
      clausal = sd.clausal;
      counts = sd.counts;
      begins = ap (λ (t : Tally). take (length m - t.free) m) e ∙ used ∙ ap (flat_map s.spell) (sym all ∙ ap (λ (t : Tally). take t.count (s.spelled m)) (sym e));
      grew = let grew = sd.grew in subst (λ (t : Tally). (t.count ≤ l.tally.count) × (l.tally.free ≤ t.free) × (t.free ≤ length m)) (sym e) (omega arith, omega arith, omega arith);
    }

    pub opens : {B : Type 0} (x : B) (l' : Ledger) → Ends {A = Unit {0}} (Ok tt) (may_open l) (l' ≡ with_opening l) (l' ≡ l) → Open (Ok x) (stored s m l) (stored s m l')
    opens x l' h = subst (λ n. Open (Ok x) (stored s m l) (stored s m n)) (sym h.does) (record {
      answers = h.answers ∙ opening_is;
      does = ledgers.opens _ _ _ _ _ _ l (with_opening l) refl (admits_same s m m refl) (admits_same s m (opening_part m (with_opening l)) (sym (opening_spelt m (with_opening l) (settled (Some l.tally) refl) ∙ all)));
    })

    -- One clause more, spelled where what is free begins.

    module _ (c : List ℤ) (m' : List A) (le : length (s.spell c) ≤ l.tally.free) (is : m' ≡ paste m (length m - l.tally.free) (s.spell c) (length (s.spell c))) where
      writes : m' ≡ page s (l.tally.free - length (s.spell c)) (s.spelled m ++ c ∷ [])
      writes =
          let k = length (s.spell c) in
          let j = flat_map s.spell (s.spelled m) in
          let z = replicate l.tally.free s.blank in
          let long = ap length sd.spells ∙ length-append j z in
          let blank = length-replicate l.tally.free s.blank in
          let at : length m - l.tally.free + k ≡ length j + k = omega arith in
          let rest : drop (length m - l.tally.free + k) m ≡ replicate (l.tally.free - k) s.blank = ap (λ n. drop n m) at ∙ ap (drop (length j + k)) sd.spells ∙ drop-append-add j z k ∙ drop-replicate k l.tally.free s.blank in
          is
          ∙ ap (λ x. (x ++ take k (s.spell c)) ++ drop (length m - l.tally.free + k) m) used
          ∙ ap (λ x. (j ++ x) ++ drop (length m - l.tally.free + k) m) (take-length (s.spell c))
          ∙ ap (λ x. (j ++ s.spell c) ++ x) rest
          ∙ ap (λ x. x ++ replicate (l.tally.free - k) s.blank) (flat_map_more s.spell [] (s.spelled m) c)

      same_length : length m' ≡ length m
      same_length =
          let grew = sd.grew in
          ap length is ∙ length-paste m (length m - l.tally.free) (s.spell c) (length (s.spell c)) (omega arith) (omega arith)

      same_opening : opening_part m' l ≡ opening_part m l
      same_opening =
          let grew = sd.grew in
          let k = length (s.spell c) in
          let at = length m - l.tally.free in
          let n = length m - (first_tally l).free in
          let long = length-take-le at m (omega arith) in
          ap (λ x. take (x - (first_tally l).free) m') same_length
          ∙ sym (take-take n (at + k) m' (omega arith))
          ∙ ap (λ x. take n (take (at + k) x)) is
          ∙ ap (take n) (take-paste m at (s.spell c) k (omega arith) (omega arith))
          ∙ take-append-le n (take at m) (take k (s.spell c)) (omega arith)
          ∙ take-take n at m (omega arith)

      same_clauses : take (first_tally l).count (s.spelled m ++ c ∷ []) ≡ take (first_tally l).count (s.spelled m)
      same_clauses = let grew = sd.grew in let counts = sd.counts in take-append-le (first_tally l).count (s.spelled m) (c ∷ []) (omega arith)

      module _ (is_clause : clausal c ≡ true) (stays : first_tally (charged (Some (length (s.spell c))) l) ≡ first_tally l) where
        has_more : Has m' (charged (Some (length (s.spell c))) l) (s.spelled m ++ c ∷ [])
        has_more =
            let grew = sd.grew in
            let counts = sd.counts in
            let long = same_length in
            has m' (charged (Some (length (s.spell c))) l) (s.spelled m ++ c ∷ []) writes (clauses_more (s.spelled m) c sd.clausal is_clause) (length-append (s.spelled m) (c ∷ []) ∙ omega arith)
            (ap (λ (t : Tally). take (length m' - t.free) m') stays ∙ same_opening ∙ sd.begins ∙ ap (flat_map s.spell) (sym same_clauses ∙ ap (λ (t : Tally). take t.count (s.spelled m ++ c ∷ [])) (sym stays)))
            (subst (λ (t : Tally). (t.count ≤ l.tally.count + 1) × (l.tally.free - length (s.spell c) ≤ t.free) × (t.free ≤ length m')) (sym stays) (omega arith, omega arith, omega arith))

        adds_some : accepted ≡ adding c (stored s m l) → Leaves s (adding c (stored s m l)) (Added c) (Appended c) m m' l (charged (Some (length (s.spell c))) l)
        adds_some takes =
            let k = length (s.spell c) in
            let h = has_more in
            let part = ap (λ (t : Tally). take (length m' - t.free) m') stays ∙ same_opening in
            record {
              sound = h.sound;
              meaning = record {
                answers = takes;
                does = ledgers.adds _ _ _ _ _ _ c l (charged (Some k) l) refl le (admits_more s m m' c h.spelt) (admits_same s (opening_part m l) (opening_part m' (charged (Some k) l)) (ap s.spelled (sym part)));
              };
              order = λ before since r. (
                ap (λ (t : Tally). take t.count (s.spelled m')) stays ∙ ap (take (first_tally l).count) h.spelt ∙ same_clauses ∙ r.0,
                h.spelt ∙ ap (λ x. x ++ c ∷ []) r.1 ∙ append_assoc before since (c ∷ []),
              );
            }

    adds : (c : List ℤ) (p : Option ℕ) (at : ℕ) (m' : List A) (l' : Ledger) → p ≡ price c (length (s.spell c)) → Ends {A = Unit {0}} (Ok tt) (may_charge p l) (l' ≡ charged p l) (l' ≡ l) → at ≡ length m - l.tally.free → m' ≡ paste m at (s.spell c) (length (s.spell c)) → Leaves s (adding c (stored s m l)) (Added c) (Appended c) m m' l l'
    adds c p at m' l' priced h here is =
        let k = length (s.spell c) in
        let takes = h.answers ∙ ap (λ x. may_charge x l) priced in
        let a = ledgers.charges c k l takes in
        let stays = remains l.tally (charged (Some k) l).tally l.opening (opened l.opening _ takes) in
        subst (λ n. Leaves s (adding c (stored s m l)) (Added c) (Appended c) m m' l n) (sym (h.does ∙ ap (λ x. charged x l) priced ∙ a.ledger)) (adds_some c m' a.room (is ∙ ap (λ n. paste m n (s.spell c) k) here) a.clause stays (takes ∙ adding_is c))

    -- What was in use at the opening, and blank from there on.

    module _ (m' : List A) (is : m' ≡ opening_part m l ++ replicate (first_tally l).free s.blank) where
      has_first : Has m' (restored l) (take (first_tally l).count (s.spelled m))
      has_first =
          let grew = sd.grew in
          let counts = sd.counts in
          let t = first_tally l in
          let z = replicate t.free s.blank in
          let cs = take t.count (s.spelled m) in
          let long = ap length is ∙ length-append (opening_part m l) z in
          let front = length-take-le (length m - t.free) m (omega arith) in
          let blank = length-replicate t.free s.blank in
          has m' (restored l) cs (is ∙ ap (λ x. x ++ z) sd.begins) (clauses_take t.count (s.spelled m) sd.clausal) (length-take-le t.count (s.spelled m) (omega arith))
          (ap (take (length m' - t.free)) is ∙ take_at (opening_part m l) z (length m' - t.free) (omega arith) ∙ sd.begins ∙ ap (flat_map s.spell) (sym (take-take t.count t.count (s.spelled m) (omega arith))))
          (omega arith, omega arith, omega arith)

      strikes_all : accepted ≡ may_close l → Leaves s (closing (stored s m l)) Struck Reverted m m' l (restored l)
      strikes_all closes =
          let first = has_first in
          record {
            sound = first.sound;
            meaning = record {
              answers = closes ∙ closing_is;
              does = ledgers.strikes _ _ _ _ _ (admits s m') l (restored l) closes refl (admits_same s (opening_part m l) m' (opening_spelt m l sd ∙ sym first.spelt));
            };
            order = λ before since r. (
              ap (take (first_tally l).count) first.spelt ∙ take-take (first_tally l).count (first_tally l).count (s.spelled m) (omega arith) ∙ r.0,
              first.spelt ∙ r.0 ∙ sym (append-nil before),
            );
          }

    strikes : (at : ℕ) (m' : List A) (l' : Ledger) → Ends {A = Unit {0}} (Ok tt) (may_close l) (l' ≡ restored l) (l' ≡ l) → at ≡ length m - l'.tally.free → m' ≡ take at m ++ replicate (length m - at) s.blank → Leaves s (closing (stored s m l)) Struck Reverted m m' l l'
    strikes at m' l' h here is =
        let grew = sd.grew in
        let free = ap (λ (x : Ledger). x.tally.free) h.does in
        let front : at ≡ length m - (first_tally l).free = omega arith in
        let rest : length m - at ≡ (first_tally l).free = omega arith in
        let whole = is ∙ ap (λ n. take n m ++ replicate (length m - at) s.blank) front ∙ ap (λ n. opening_part m l ++ replicate n s.blank) rest in
        subst (λ n. Leaves s (closing (stored s m l)) Struck Reverted m m' l n) (sym h.does) (strikes_all m' whole h.answers)

-- The same, over a vector of which the part that is added, or taken back, was lent as a slice and comes back as `part`. A memory is shorter than the
-- largest number, so that a length which is cut off there is refused as the whole length is.

module _ {A Z : Type 0} (s : Script A) (legible : Legible s) (v : Vec A Z) (lent part : List A) (value : lent ≡ vec_items v) (l l' : Ledger) (sd : Agrees s (vec_items v) l) (size room : ℕ) (whole : size ≡ vec_len v) (before : room ≡ l.tally.free) where
  refills : (w : List A) → length w ≡ length lent → vec_items (with_items v w) ≡ w
  refills w same = let lens = v.ok.0 in let long = ap length value in with_items_is v w (omega arith)

  pub adds_in : (c : List ℤ) (p : Option ℕ) (now : ℕ) → p ≡ price c (min (length (s.spell c)) (2 ^ 64 - 1)) → now ≡ l'.tally.free → Ends {A = Unit {0}} (Ok tt) (may_charge p l) (l' ≡ charged p l) (l' ≡ l)
      → (length (take ((size - now) - (size - room)) (drop (size - room) lent)) ≡ length (s.spell c) → part ≡ s.spell c)
      → Leaves s (adding c (stored s (vec_items v) l)) (Added c) (Appended c) (vec_items v) (vec_items (with_items v (put_mid (size - room) ((size - now) - (size - room)) lent part))) l l'
  adds_in c p now priced after h filled =
      let lens = v.ok in
      let small = v.small in
      let grew = sd.grew in
      let k = length (s.spell c) in
      let n = (size - now) - (size - room) in
      let paid = ledgers.charges c (min k (2 ^ 64 - 1)) l (h.answers ∙ ap (λ q. may_charge q l) priced) in
      let left = paid.room in
      let whole_length : min k (2 ^ 64 - 1) ≡ k = omega arith in
      let spent = ap (λ (x : Ledger). x.tally.free) (h.does ∙ ap (λ q. charged q l) priced ∙ paid.ledger) in
      let fits : n ≡ k = omega arith in
      let same_length = ap length value in
      let is = filled (length-take-le n (drop (size - room) lent) (simp length-drop (omega arith)) ∙ fits) in
      let w = put_mid-paste (size - room) n lent part (s.spell c) k is (omega arith) refl in
      let same = ap length w ∙ length-paste lent (size - room) (s.spell c) k (omega arith) (omega arith) in
      adds s legible (vec_items v) l sd c p (size - room) _ l' (priced ∙ ap (price c) whole_length) h (omega arith) (refills _ same ∙ w ∙ ap (λ d. paste d (size - room) (s.spell c) k) value)

  pub strikes_in : (now : ℕ) → now ≡ l'.tally.free → Ends {A = Unit {0}} (Ok tt) (may_close l) (l' ≡ restored l) (l' ≡ l) → part ≡ replicate (length (take ((size - room) - (size - now)) (drop (size - now) lent))) s.blank
      → Leaves s (closing (stored s (vec_items v) l)) Struck Reverted (vec_items v) (vec_items (with_items v (put_mid (size - now) ((size - room) - (size - now)) lent part))) l l'
  strikes_in now after h is =
      let lens = v.ok in
      let grew = sd.grew in
      let back = ap (λ (x : Ledger). x.tally.free) h.does in
      let long = ap length value in
      let n = (size - room) - (size - now) in
      let mid = length-take-le n (drop (size - now) lent) (simp length-drop (omega arith)) in
      let z = replicate n s.blank in
      let blank = length-replicate n s.blank in
      let w = put_mid-paste (size - now) n lent part z n (is ∙ ap (λ k. replicate k s.blank) mid) refl (omega arith) in
      let same = ap length w ∙ length-paste lent (size - now) z n (omega arith) (omega arith) in
      let ends : size - room ≡ length (vec_items v) - l.tally.free = omega arith in
      let to : size - now + n ≡ size - room = omega arith in
      strikes s legible (vec_items v) l sd (size - now) _ l' h (omega arith)
      (refills _ same ∙ w ∙ ap (λ d. paste d (size - now) z n) value ∙ ap (λ x. (take (size - now) (vec_items v) ++ x) ++ drop (size - now + n) (vec_items v)) (take_all n z (omega arith)) ∙ ap (λ k. (take (size - now) (vec_items v) ++ z) ++ drop k (vec_items v)) to
      ∙ blanked s legible (vec_items v) l sd (size - now) (size - room) ends (omega arith) (omega arith))
