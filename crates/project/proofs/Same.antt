-- The tests of one pair: which pairs are the same, and which are OR pairs into an activity. Assumes nothing.
use Rattle.std.proofs.Common.{◌≡◌, Bool, true, false, ◌&&◌, eqb, Decides, refl, ap, subst}
use Rattle.std.proofs.lemmas.Bool.{false≢true, and_parts, and_from, eqb-true, eq-eqb}
use Rattle.project.specs.declared.tables.Kind.{Kind}
use Rattle.project.specs.declared.tables.Kind.TheVariants.{Blank, And, Or, Bi}
use Rattle.project.specs.declared.tables.Pair.{Pair}
use Rattle.project.specs.Project.{same_kind, same_pair}

same_kind_itself : (k : Kind) → same_kind k k ≡ true
same_kind_itself Blank = refl
same_kind_itself And = refl
same_kind_itself Or = refl
same_kind_itself Bi = refl

same_kind_same : (k l : Kind) → same_kind k l ≡ true → k ≡ l
same_kind_same Blank Blank e = refl
same_kind_same Blank And e = absurd (false≢true e)
same_kind_same Blank Or e = absurd (false≢true e)
same_kind_same Blank Bi e = absurd (false≢true e)
same_kind_same And Blank e = absurd (false≢true e)
same_kind_same And And e = refl
same_kind_same And Or e = absurd (false≢true e)
same_kind_same And Bi e = absurd (false≢true e)
same_kind_same Or Blank e = absurd (false≢true e)
same_kind_same Or And e = absurd (false≢true e)
same_kind_same Or Or e = refl
same_kind_same Or Bi e = absurd (false≢true e)
same_kind_same Bi Blank e = absurd (false≢true e)
same_kind_same Bi And e = absurd (false≢true e)
same_kind_same Bi Or e = absurd (false≢true e)
same_kind_same Bi Bi e = refl

-- two pairs are the same where their three fields are
pub fields_same : (q r : Pair) → same_pair q r ≡ true → (q.kind ≡ r.kind) × (q.first ≡ r.first) × (q.second ≡ r.second)
fields_same q r e =
    let h = and_parts _ _ e in
    let k = and_parts _ _ h.1 in
    (same_kind_same q.kind r.kind h.0, eqb-true q.first r.first k.0, eqb-true q.second r.second k.1)

pub same_fields : (q r : Pair) → q.kind ≡ r.kind → q.first ≡ r.first → q.second ≡ r.second → same_pair q r ≡ true
same_fields q r k f s =
    and_from _ _ (subst (λ l. same_kind q.kind l ≡ true) k (same_kind_itself q.kind)) (and_from _ _ (eq-eqb q.first r.first f) (eq-eqb q.second r.second s))

pub decides_same : (q r : Pair) → Decides (same_pair q r) (q ≡ r)
decides_same q r = (
  λ e. let h = fields_same q r e in λ i. record { kind = h.0 i; first = h.1 i; second = h.2 i },
  λ e. same_fields q r (ap (λ p. p.kind) e) (ap (λ p. p.first) e) (ap (λ p. p.second) e),
)

-- that the firsts are the same is asked twice
pub first_again : (q r : Pair) → (eqb q.first r.first && same_pair q r) ≡ same_pair q r
first_again q r = bool_elim_first (eqb q.first r.first) (same_kind q.kind r.kind) (eqb q.second r.second)
  where
    bool_elim_first : (f k s : Bool) → (f && (k && (f && s))) ≡ (k && (f && s))
    bool_elim_first true k s = refl
    bool_elim_first false true s = refl
    bool_elim_first false false s = refl
