-- The store of `put_peak`, and the loop of `put_peaks`: to put the peaks that are left gives what to put all of them at
-- first gives.
use Prim.Native.Nat.{◌*◌, ◌+◌, ◌-◌, ◌<◌, ◌≤◌, suc, ℕ}
use mathlib.Core.Path.{◌≡◌, refl}
use mathlib.Core.List.{List}
use lib.ListN.{length}
use lib.Seq.{length-sets, sets}
use native.Mathlib.Numerals.{add-one}
use native.Mathlib.Omega.{arith}
use Rattle.octets.specs.Lists.{ceil}
use Rattle.octets.specs.Octets.{be}
use Rattle.book.specs.declared.Layout.{Layout}
use Rattle.book.specs.Book.{block_size}
use Rattle.book_laws.specs.Check.{best_between, block_end, peak_start}
use Rattle.book_write.specs.Writing.{put_peak, put_peaks}

-- the peak of a block, stored from what the calls give
pub peak_stored :
    (l : Layout) (n j : ℕ) (d : List ℕ) {end top place : ℕ} {new : List ℕ} → end ≡ block_end n j
    → top ≡ best_between d (block_size * j) end
    → place ≡ peak_start l n j → new ≡ sets d place (be 2 top) → new ≡ put_peak l n j d
peak_stored l n j d e b s w = rw (w, b, e, s)

pub record PeaksLeft (l : Layout) (d₀ : List ℕ) (n : ℕ) (d : List ℕ) (j : ℕ) : Type 0 where
  pub within : j ≤ ceil n block_size
  pub same_length : length d ≡ length d₀
  pub rest : put_peaks l (ceil n block_size - j) n j d ≡ put_peaks l (ceil n block_size) n 0 d₀

pub peaks_start_lem : (l : Layout) (d₀ : List ℕ) (n : ℕ) → PeaksLeft l d₀ n d₀ 0
peaks_start_lem l d₀ n =
    let z : ceil n block_size - 0 ≡ ceil n block_size = omega arith in
    record { within = omega arith; same_length = refl; rest = rw z }

-- the peak of the next block
pub peaks-turn :
    {l : Layout} {d₀ : List ℕ} {n : ℕ} {d new : List ℕ} {j : ℕ} → PeaksLeft l d₀ n d j → j < ceil n block_size
    → new ≡ put_peak l n j d
    → PeaksLeft l d₀ n new (j + 1)
peaks-turn {l} {d₀} {n} {d} {new} {j} p h w =
    let z : ceil n block_size - j ≡ suc (ceil n block_size - (j + 1)) = omega arith in
    record {
      within = omega arith;
      same_length = rw (
        w,
        length-sets d (peak_start l n j) (be 2 (best_between d (block_size * j) (block_end n j))),
      ) p.same_length;
      rest = rw (w, add-one j) (rw (z, add-one j) at p.rest);
    }

pub peaks_end :
    {l : Layout} {d₀ : List ℕ} {n : ℕ} {d : List ℕ} {j : ℕ} → PeaksLeft l d₀ n d j → ceil n block_size ≤ j
    → d ≡ put_peaks l (ceil n block_size) n 0 d₀
peaks_end {l} {d₀} {n} {d} {j} p h = let z : ceil n block_size - j ≡ 0 = omega arith in rw z at p.rest
