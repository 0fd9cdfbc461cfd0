-- Bytes that are written at a place, one piece after another. Assumes nothing.
use Rattle.std.specs.Prelude.{◌≡◌, ℕ, ◌+◌, ◌<◌, ◌≤◌, List, length}
use Rattle.std.proofs.Math.Seq.{paste}

-- the bytes `out` with s in them from the place `at` on
unfoldable pub put : List ℕ → ℕ → List ℕ → List ℕ
put out at s = paste out at s (length s)

-- s was written into `out` at the place `at`, which left the bytes `left`, and `end` is the place after it
pub record PutAt (out left : List ℕ) (at end : ℕ) (s : List ℕ) : Type 0 where
  pub ends : end ≡ at + length s
  pub bytes : left ≡ put out at s

-- the same where s has room there, and else nothing was written
pub record PutIfRoom (out left : List ℕ) (at end : ℕ) (s : List ℕ) : Type 0 where
  pub room : at + length s ≤ length out → PutAt out left at end s
  pub short : length out < at + length s → (left ≡ out) × (end ≡ at)
