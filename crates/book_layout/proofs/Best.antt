-- The loop of `best_between`: what is left, done now, gives the whole answer.
use Prim.Native.Nat.{◌+◌, ◌-◌, ◌<◌, ◌≤◌, suc, ℕ}
use mathlib.Core.Path.{◌≡◌}
use mathlib.Core.List.{List}
use lib.Dec.{ltb}
use native.Mathlib.Numerals.{add-one}
use native.Mathlib.Omega.{arith}
use borrow.Author.Tests.{le-ltb, lt-ltb}
use Rattle.octets.specs.Lists.{if◌then◌otherwise◌}
use Rattle.book_laws.specs.Check.{best_between, best_on, score_at}

-- the best position: b is the best of those before i, and has this score
pub record Best (buf : List ℕ) (first end b score i : ℕ) : Type 0 where
  pub past : b < i
  pub within : i ≤ end
  pub scored : score ≡ score_at buf b
  pub left : best_on buf b i (end - i) ≡ best_between buf first end

pub best_start :
    (buf : List ℕ) (first end : ℕ) {score : ℕ} → first < end → score ≡ score_at buf first
    → Best buf first end first score (first + 1)
unfolding best_between
best_start buf first end h e = record { past = omega arith; within = omega arith; scored = e; left = rw add-one }

-- a turn: s is the score of position i
module _ {buf : List ℕ} {first end b score i s : ℕ} (g : Best buf first end b score i) (h : i < end)
    (e : s ≡ score_at buf i) where
  on : best_on buf (if ltb score s then i otherwise b) (suc i) (end - suc i) ≡ best_between buf first end
  on = let z : end - i ≡ suc (end - suc i) = omega arith in rw (g.scored, e) (rw z at g.left)

  pub best_taken : score < s → Best buf first end i s (i + 1)
  best_taken l = record {
    past = omega arith;
    within = omega arith;
    scored = e;
    left = rw add-one (rw (lt-ltb score s l) at on);
  }

  pub best_kept : s ≤ score → Best buf first end b score (i + 1)
  best_kept l =
      record {
        past = omega (arith, g.past);
        within = omega arith;
        scored = g.scored;
        left = rw add-one (rw (le-ltb score s l) at on);
      }
