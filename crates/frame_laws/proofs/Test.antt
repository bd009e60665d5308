-- The tests of the first seven bytes, passed and failed, and the end of an image that must be its total length.
use Prim.Native.Nat.{◌-◌, ◌<◌, ◌≤◌, ℕ}
use mathlib.Core.Path.{◌≡◌, ap, sym}
use mathlib.Core.Bool.{false, false≢true, true}
use mathlib.Core.List.{List, [], ◌∷◌}
use mathlib.Core.Option.{Option, none, some}
use lib.Dec.{eqb}
use lib.ListN.{get_or, length}
use native.Mathlib.Omega.{arith}
use borrow.Author.Tests.{eq-eqb, eqb-true, le-leb, leb-true, lt-leb, ne_eqb}
use Rattle.octets.specs.Octets.{begins, number_at}
use Rattle.octets.proofs.Tests.{and_false, and_true_both}
use Rattle.frame_laws.specs.Test.{ends_at, frame_is}
use Rattle.entries.specs.Entries.{max_entries}

pub ends_some : (total : ℕ) (o : Option ℕ) → ends_at total o ≡ true → o ≡ some total
ends_some total none h = absurd (false≢true h)
ends_some total (some end) h = ap some (eqb-true end total h)

-- the frame's tests, passed
pub record FrameTests (v : ℕ) (buf : List ℕ) : Type 0 where
  pub long : 7 ≤ length buf
  pub version : get_or buf 0 0 ≡ v
  pub few : number_at 2 buf 5 ≤ max_entries
  pub fits : number_at 4 buf 1 ≤ length buf

pub version_stands : (v : ℕ) (buf : List ℕ) → FrameTests v buf → begins (v ∷ []) buf ≡ true
version_stands v [] t = let long = t.long in absurd (omega arith)
version_stands v (x ∷ buf) t = rw (eq-eqb v x (sym t.version))

module _ (v : ℕ) (buf : List ℕ) where
  pub frame_tests : frame_is v buf ≡ true → FrameTests v buf
  unfolding frame_is
  frame_tests h =
      let a = and_true_both _ _ h in
      let b = and_true_both _ _ a.1 in
      let c = and_true_both _ _ b.1 in
      record {
        long = leb-true 7 (length buf) a.0;
        version = eqb-true (get_or buf 0 0) v b.0;
        few = leb-true (number_at 2 buf 5) max_entries c.0;
        fits = leb-true (number_at 4 buf 1) (length buf) c.1;
      }

  pub frame_passes : FrameTests v buf → frame_is v buf ≡ true
  unfolding frame_is
  frame_passes t =
      rw (
        le-leb 7 (length buf) t.long,
        eq-eqb (get_or buf 0 0) v t.version,
        le-leb (number_at 2 buf 5) max_entries t.few,
        le-leb (number_at 4 buf 1) (length buf) t.fits,
      )

  -- each fails by itself
  pub frame_short : length buf < 7 → frame_is v buf ≡ false
  unfolding frame_is
  frame_short h = rw (lt-leb 7 (length buf) h)

  pub frame_other : (get_or buf 0 0 ≡ v → ⊥) → frame_is v buf ≡ false
  unfolding frame_is
  frame_other h = simp (ne_eqb (get_or buf 0 0) v h, and_false)

  pub frame_many : max_entries < number_at 2 buf 5 → frame_is v buf ≡ false
  unfolding frame_is
  frame_many h = simp (lt-leb (number_at 2 buf 5) max_entries h, and_false)

  pub frame_cut : length buf < number_at 4 buf 1 → frame_is v buf ≡ false
  unfolding frame_is
  frame_cut h = simp (lt-leb (number_at 4 buf 1) (length buf) h, and_false)
