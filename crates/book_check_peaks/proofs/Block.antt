-- A position that no score of its block beats is the block's best.
use Prim.Native.Nat.{◌*◌, ◌+◌, ◌-◌, ◌<◌, ◌≤◌, suc, zero, ℕ}
use mathlib.Core.Path.{◌∙◌, ◌≡◌, ap, refl, sym}
use mathlib.Core.Bool.{true}
use mathlib.Core.List.{List}
use lib.Dec.{eqb, ltb}
use lib.ListN.{drop, length, length-drop, take}
use lib.Seq.{drop-drop, length-take-le, take-take}
use native.Mathlib.Omega.{arith}
use borrow.Author.Tests.{eq-eqb, eqb-false, eqb-true, le-leb, le-ltb, lt-ltb}
use Rattle.octets.specs.Octets.{from_be, number_at}
use Rattle.octets.proofs.Lists.{drop-take}
use Rattle.octets.proofs.Tests.{by_test, other}
use Rattle.book.specs.declared.Layout.{Layout}
use Rattle.book.specs.Book.{block_size}
use Rattle.book_laws.specs.Check.{best_between, best_on, block_end, peak_at, peak_is, score_at, score_start}
use Rattle.book_check_peaks.specs.Unbeaten.{Unbeaten, block_bytes, score_in}

-- a number in a part
number-part :
    (k m a i : ℕ) (buf : List ℕ) → i + k ≤ m → a + m ≤ length buf
    → number_at k (take m (drop a buf)) i ≡ number_at k buf (a + i)
unfolding number_at
number-part k m a i buf h fits =
    let l = length-take-le m (drop a buf) (omega (arith, length-drop a buf)) in
    let e : take k (drop i (take m (drop a buf))) ≡ take k (drop (a + i) buf) =
    ap (take k) (drop-take i m (drop a buf))
    ∙ take-take k (m - i) (drop i (drop a buf)) (omega arith)
    ∙ ap (take k) (drop-drop i a buf)
    in
    rw (
      le-leb (i + k) (length (take m (drop a buf))) (omega arith),
      le-leb (a + i + k) (length buf) (omega arith),
    )
    (ap from_be e)

-- position p among the scores of a buffer
module _ (buf : List ℕ) (p : ℕ) where
  -- the m positions from i on do not beat it; those of them before p are less
  abbrev NoneOver : ℕ → ℕ → Type 0
  NoneOver i m = (k : ℕ) → i ≤ k → k < i + m → score_at buf k ≤ score_at buf p

  abbrev LessBefore : ℕ → Type 0
  LessBefore i = (k : ℕ) → i ≤ k → k < p → score_at buf k < score_at buf p

  none_over : (i m : ℕ) → NoneOver i (suc m) → NoneOver (suc i) m
  none_over i m h k x y = h k (omega arith) (omega arith)

  less_before : (i : ℕ) → LessBefore i → LessBefore (suc i)
  less_before i h k x y = h k (omega arith) y

  -- it stays the best, and it becomes it
  stays : (m i : ℕ) → NoneOver i m → best_on buf p i m ≡ p
  stays zero i h = refl
  stays (suc m) i h =
      rw (le-ltb (score_at buf p) (score_at buf i) (h i (omega arith) (omega arith)))
      (stays m (suc i) (none_over i m h))

  reaches :
      (m i b : ℕ) → score_at buf b < score_at buf p → i ≤ p → p < i + m → LessBefore i → NoneOver i m
      → best_on buf b i m ≡ p
  reaches zero i b s a c lo hi = absurd (omega arith)
  reaches (suc m) i b s a c lo hi =
      by_test (eqb i p)
      (λ t.
      let e = eqb-true i p t in
      let q : score_at buf i ≡ score_at buf p = ap (score_at buf) e in
      rw (lt-ltb (score_at buf b) (score_at buf i) (omega arith))
      (ap (λ x. best_on buf x (suc i) m) e ∙ stays m (suc i) (none_over i m hi)))
      (λ t.
      let less : i < p = other i p a (eqb-false i p t) in
      let lo' = less_before i lo in
      let hi' = none_over i m hi in
      by_test (ltb (score_at buf b) (score_at buf i))
      (λ u. rw u (reaches m (suc i) i (lo i (omega arith) less) less (omega arith) lo' hi'))
      (λ u. rw u (reaches m (suc i) b s less (omega arith) lo' hi')))

  best_is :
      (first m : ℕ) → first ≤ p → p < first + suc m → LessBefore first → NoneOver first (suc m)
      → best_between buf first (first + suc m) ≡ p
  unfolding best_between
  best_is first m a c lo hi =
      let z : first + suc m - suc first ≡ m = omega arith in
      rw z
      (by_test (eqb first p)
      (λ t. ap (λ x. best_on buf x (suc first) m) (eqb-true first p t) ∙ stays m (suc first) (none_over first m hi))
      (λ t.
      let less : first < p = other first p a (eqb-false first p t) in
      reaches m (suc first) first (lo first (omega arith) less) less (omega arith) (less_before first lo)
      (none_over first m hi)))

-- a whole block of scores, which begins with that of position `first`
module _ (buf : List ℕ) (first : ℕ) (fits : score_start first + block_bytes ≤ length buf) where
  abbrev block : List ℕ
  block = take block_bytes (drop (score_start first) buf)

  block_score : (k : ℕ) → first ≤ k → k < first + block_size → score_in block (k - first) ≡ score_at buf k
  unfolding score_at
  block_score k x y =
      number-part 4 block_bytes (score_start first) (4 * (k - first)) buf (omega arith) fits
      ∙ ap (number_at 4 buf) (let q : score_start first + 4 * (k - first) ≡ score_start k = omega arith in q)

  block_best :
      (peak : ℕ) → first ≤ peak → peak - first < block_size → Unbeaten block (peak - first)
      → best_between buf first (first + block_size) ≡ peak
  block_best peak lo hi u =
      let top = block_score peak lo (omega arith) in
      best_is buf peak first 15 lo (omega arith)
      (λ k x y.
      let q = (u (k - first) (omega arith)).0 (omega arith) in
      omega (arith, block_score k x (omega arith), top))
      (λ k x y.
      let q = (u (k - first) (omega arith)).1 in
      omega (arith, block_score k x (omega arith), top))

-- its peak
pub block_peak :
    (l : Layout) (buf : List ℕ) (n j peak : ℕ) → peak ≡ peak_at l buf n j → block_size * j + block_size ≤ n
    → block_size * j ≤ peak → peak - block_size * j < block_size → score_start (block_size * j) + block_bytes ≤ length buf
    → Unbeaten (take block_bytes (drop (score_start (block_size * j)) buf)) (peak - block_size * j)
    → peak_is l n j buf ≡ true
block_peak l buf n j peak e whole lo hi fits u =
    let z : block_end n j ≡ block_size * j + block_size = omega arith in
    rw z
    (eq-eqb (peak_at l buf n j) (best_between buf (block_size * j) (block_size * j + block_size))
    (sym e ∙ sym (block_best buf (block_size * j) fits peak lo hi u)))
