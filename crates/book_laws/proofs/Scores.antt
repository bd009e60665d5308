-- The best position of a range, found by scores alone: names rise with positions, so an earlier one wins a tie.
use Prim.Native.Nat.{◌+◌, ◌-◌, ◌<◌, ◌≤◌, suc, zero, ℕ}
use mathlib.Core.Path.{◌≡◌, subst, sym}
use mathlib.Core.Logic.{◌⊎◌, inl, inr}
use mathlib.Core.Bool.{false, true}
use mathlib.Core.List.{List}
use lib.Dec.{ltb}
use lib.ListN.{length}
use native.Mathlib.Nat.{add-zero}
use native.Mathlib.Omega.{arith}
use borrow.Author.Tests.{ltb-false, ltb-true}
use Rattle.octets.specs.Lists.{if◌then◌otherwise◌}
use Rattle.octets.proofs.Tests.{by_test}
use Rattle.entries.specs.Entries.{Entry, at, best, outranks, rising}
use Rattle.entries.proofs.Rank.{not_outranks_trans, outranks_asym, outranks_high, outranks_irrefl}
use Rattle.entries.proofs.Span.{later_not, span, span_unique}
use Rattle.book_laws.specs.Check.{best_between, best_on, score_at}

module _
    (es : List Entry) (r : rising es ≡ true) (buf : List ℕ)
    (scored : (i : ℕ) → i < length es → score_at buf i ≡ (at es i).score)
  where
    -- b is the best of the positions from first to before i
    record Tops (first b i : ℕ) : Type 0 where
      low : first ≤ b
      high : b < i
      tops : (k : ℕ) → first ≤ k → k < i → outranks (at es k) (at es b) ≡ false

    tops_on : (m first b i : ℕ) → i + m ≤ length es → Tops first b i → Tops first (best_on buf b i m) (i + m)
    tops_on zero first b i h t = subst (Tops first b) (sym (add-zero i)) t
    tops_on (suc m) first b i h t =
        subst (Tops first (best_on buf b i (suc m))) (omega arith)
        (tops_on m first (if ltb (score_at buf b) (score_at buf i) then i otherwise b) (suc i) (omega arith)
        (by_test (ltb (score_at buf b) (score_at buf i)) (λ u. rw u (taken u)) (λ u. rw u (kept u))))
      where
        lo : first ≤ b
        lo = t.low

        hi : b < i
        hi = t.high

        split : (k : ℕ) → k < suc i → (k < i) ⊎ (k ≡ i)
        split k l = by_test (ltb k i) (λ u. inl (ltb-true k i u)) (λ u. inr (let z = ltb-false k i u in omega arith))

        taken : ltb (score_at buf b) (score_at buf i) ≡ true → Tops first i (suc i)
        taken u =
            let s : (at es b).score < (at es i).score = rw (
              scored b (omega arith),
              scored i (omega arith),
            ) at (ltb-true (score_at buf b) (score_at buf i) u) in
            record { low = omega arith; high = omega arith; tops = λ k a c. each s k a (split k c) }
          where
            each : (at es b).score < (at es i).score → (k : ℕ) → first ≤ k → (k < i) ⊎ (k ≡ i)
                → outranks (at es k) (at es i) ≡ false
            each s k a (inl c) =
                not_outranks_trans (at es k) (at es b) (at es i) (t.tops k a c)
                (outranks_asym (at es i) (at es b) (outranks_high (at es i) (at es b) s))
            each s k a (inr q) = rw q (outranks_irrefl (at es i))

        kept : ltb (score_at buf b) (score_at buf i) ≡ false → Tops first b (suc i)
        kept u =
            let s : (at es i).score ≤ (at es b).score = rw (
              scored b (omega arith),
              scored i (omega arith),
            ) at (ltb-false (score_at buf b) (score_at buf i) u) in
            record { low = lo; high = omega arith; tops = λ k a c. each s k a (split k c) }
          where
            each : (at es i).score ≤ (at es b).score → (k : ℕ) → first ≤ k → (k < i) ⊎ (k ≡ i)
                → outranks (at es k) (at es b) ≡ false
            each s k a (inl c) = t.tops k a c
            each s k a (inr q) = rw q (later_not es r b i hi (omega arith) s)

    pub best-between : (i j : ℕ) → i < j → j ≤ length es → best_between buf i j ≡ i + best (span es i j)
    unfolding best_between
    best-between i j a c =
        let z : suc i + (j - suc i) ≡ j = omega arith in
        let t = tops_on (j - suc i) i i (suc i) (omega arith)
        (record {
          low = omega arith;
          high = omega arith;
          tops = λ k lo hi. rw (let q : k ≡ i = omega arith in q) (outranks_irrefl (at es i));
        }) in
        let u : Tops i (best_on buf i (suc i) (j - suc i)) j = subst (Tops i (best_on buf i (suc i) (j - suc i))) z t in
        span_unique es r i j (best_on buf i (suc i) (j - suc i)) u.low u.high c u.tops
