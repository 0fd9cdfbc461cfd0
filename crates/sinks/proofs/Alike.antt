-- Meanings that are alike. Assumes nothing.
use Rattle.std.proofs.Common.{◌≡◌, ℕ, false, refl, ◌∙◌, arith}
use mathlib.Core.Option.{Option, some, none}
use Rattle.sinks.specs.Clauses.{Assignment}
use Rattle.sinks.specs.Meanings.{Meaning, Standing, Same, SameStanding, SameBatch, Fixed, Unchanged, is_open, standing}

pub same : (P : Assignment → Type 0) → Same P P
same P a = (λ p. p, λ p. p)

same_trans : {P Q R : Assignment → Type 0} → Same P Q → Same Q R → Same P R
same_trans h k a = (λ p. (k a).0 ((h a).0 p), λ r. (h a).1 ((k a).1 r))

standing_refl : (s : Standing) → SameStanding s s
standing_refl s = record { admitted = same s.admitted; count = refl; room = refl }

standing_trans : {s t u : Standing} → SameStanding s t → SameStanding t u → SameStanding s u
standing_trans h k = record { admitted = same_trans h.admitted k.admitted; count = h.count ∙ k.count; room = h.room ∙ k.room }

batch_refl : (b : Option Standing) → SameBatch b b
batch_refl none = tt
batch_refl (some s) = standing_refl s

pub batch_trans : (b d e : Option Standing) → SameBatch b d → SameBatch d e → SameBatch b e
batch_trans none none e h k = k
batch_trans none (some t) e h k = absurd h
batch_trans (some s) none e h k = absurd h
batch_trans (some s) (some t) none h k = k
batch_trans (some s) (some t) (some u) h k = standing_trans h k

pub open_alike : (b d : Option Standing) → SameBatch b d → is_open d ≡ is_open b
open_alike none none h = refl
open_alike none (some t) h = absurd h
open_alike (some s) none h = absurd h
open_alike (some s) (some t) h = refl

pub none_alike : (b d : Option Standing) → is_open b ≡ false → is_open d ≡ false → SameBatch b d
none_alike none none h k = tt
none_alike none (some t) h k = let z : ◌≡◌ {A = ℕ} 0 1 = cc in absurd (omega arith)
none_alike (some s) d h k = let z : ◌≡◌ {A = ℕ} 0 1 = cc in absurd (omega arith)

pub fixed_trans : {m n o : Meaning} → Fixed m n → Fixed n o → Fixed m o
fixed_trans h k = record { known = same_trans h.known k.known; cost = λ c. h.cost c ∙ k.cost c }

pub unchanged_refl : (m : Meaning) → Unchanged m m
unchanged_refl m = record {
  fixed = record { known = same m.known; cost = λ c. refl };
  now = standing_refl (standing m);
  batch = batch_refl m.batch;
}
