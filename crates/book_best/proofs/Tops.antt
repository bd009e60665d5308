-- The best so far of a range, taken stretch by stretch: one position, or a block by its peak.
use Prim.Native.Nat.{◌*◌, ◌+◌, ◌<◌, ◌≤◌, min, ℕ}
use mathlib.Core.Path.{◌≡◌}
use mathlib.Core.Bool.{false, true}
use mathlib.Core.List.{List}
use lib.Dec.{ltb}
use lib.ListN.{length}
use native.Mathlib.Omega.{arith}
use borrow.Author.Tests.{ltb-false, ltb-true}
use Rattle.octets.proofs.Tests.{by_test}
use Rattle.entries.specs.Entries.{Entry, at, outranks, rising}
use Rattle.entries.proofs.Rank.{not_outranks_trans, outranks_asym, outranks_high, outranks_irrefl}
use Rattle.entries.proofs.Span.{later_not, span_best, span_top, span_unique}
use Rattle.book.specs.Book.{block_size, in_book, peak, today}
use Rattle.book_laws.specs.Check.{better_of, peak_at, score_at}
use Rattle.book_laws.specs.Held.{Held}
use Rattle.book_laws.proofs.Held.{held_stored, held-valid}
use Rattle.book.proofs.Places.{peak_span}
use Rattle.book_best.specs.Best.{BestIn, Tops}

-- the parts: one position, and a whole block by its peak
module _ (es : List Entry) (i end : ℕ) where
  pub tops_one : i < end → Tops es i end i (i + 1)
  tops_one h =
      record {
        low = omega arith;
        high = omega arith;
        within = omega arith;
        tops = λ k lo hi. let q : k ≡ i = omega arith in rw q (outranks_irrefl (at es i));
      }

  pub tops_block :
      (j : ℕ) → block_size * j ≡ i → i + block_size ≤ end → end ≤ length es → Tops es i end (peak es j) (i + block_size)
  tops_block j q w c =
      let m : min (length es) (i + block_size) ≡ i + block_size = omega arith in
      let s = span_best es i (i + block_size) (omega arith) (omega arith) in
      rw (rw (q, m) at (peak_span es j (omega arith)))
      (record {
        low = omega arith;
        high = omega arith;
        within = w;
        tops = span_top es i (i + block_size) (omega arith) (omega arith);
      })

-- es are the entries of the book in a buffer that was checked
module _
    {buf : List ℕ} {n : ℕ} (h : Held buf n) {es : List Entry} (v : in_book buf ≡ es) {first end b i : ℕ}
    (t : Tops es first end b i) (l : end ≤ length es)
  where
    sorted : rising es ≡ true
    sorted = rw (← v) (held-valid h).order

    -- a turn: behind the positions that b tops lie those that c tops, so a tie is b's
    pub tops_turn : {c next : ℕ} → Tops es i end c next → Tops es first end (better_of buf b c) next
    tops_turn {c} {next} u =
        by_test (ltb (score_at buf b) (score_at buf c)) (λ w. rw w (taken (ltb-true _ _ w)))
        (λ w. rw w (kept (ltb-false _ _ w)))
      where
        inside : c < length es
        inside = omega arith

        scored : (k : ℕ) → k < length es → score_at buf k ≡ (at es k).score
        scored = rw (← v) (held_stored h).scored_at

        -- a position that neither b nor c outranks is outranked by none that they top
        each :
            (d : ℕ) → outranks (at es b) (at es d) ≡ false → outranks (at es c) (at es d) ≡ false
            → (k : ℕ) → first ≤ k → k < next → outranks (at es k) (at es d) ≡ false
        each d x y k lo hi =
            by_test (ltb k i)
            (λ w. not_outranks_trans (at es k) (at es b) (at es d) (t.tops k lo (ltb-true k i w)) x)
            (λ w. not_outranks_trans (at es k) (at es c) (at es d) (u.tops k (ltb-false k i w) hi) y)

        taken : score_at buf b < score_at buf c → Tops es first end c next
        taken w =
            let p : (at es b).score < (at es c).score = rw (scored b (omega arith), scored c inside) at w in
            let x = outranks_asym (at es c) (at es b) (outranks_high (at es c) (at es b) p) in
            record {
              low = omega arith;
              high = u.high;
              within = u.within;
              tops = each c x (outranks_irrefl (at es c));
            }

        kept : score_at buf c ≤ score_at buf b → Tops es first end b next
        kept w =
            let p : (at es c).score ≤ (at es b).score = rw (scored b (omega arith), scored c inside) at w in
            let y = later_not es sorted b c (omega arith) inside p in
            record { low = t.low; high = omega arith; within = u.within; tops = each b (outranks_irrefl (at es b)) y }

    -- what tops the whole range is its best
    pub tops_best : end ≤ i → BestIn es first end b
    tops_best g =
        record {
          is_best =
              span_unique es sorted first end b t.low (omega arith) (omega arith)
              (λ k lo hi. t.tops k lo (omega arith));
          low = t.low;
          high = omega arith;
        }
