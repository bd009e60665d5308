-- The tests of a record's parts are those of a record of a book, whichever positions are heads.
use Prim.Native.Nat.{◌+◌, ◌-◌, ◌<◌, ◌≤◌, suc, zero, ℕ}
use mathlib.Core.Path.{◌∙◌, ◌≡◌, ap, refl, sym}
use mathlib.Core.Bool.{Bool, ◌&&◌, and_assoc, and-false, and-true as and-whole, false, false≢true, true}
use mathlib.Core.List.{List, [], ◌++◌, ◌∷◌}
use lib.Dec.{eqb, eqb-suc-zero, leb, ltb}
use lib.ListN.{drop, drop_of_length-le, get_or, length, length-append, length-drop, length-take, take}
use lib.Seq.{length-take-le}
use native.Mathlib.Omega.{arith}
use borrow.Author.Tests.{eqb-true, le-leb, le-ltb, leb-false, leb-true, lt-leb}
use Rattle.octets.specs.Octets.{begins, below, common}
use Rattle.octets_code.proofs.Loops.{drop_next}
use Rattle.octets.proofs.Tests.{and_true_both, by_test, eqb_self, eqb_swap}
use Rattle.entries.specs.Names.{allowed_bytes, is_name, is_prefix, longest_name}
use Rattle.entries.proofs.Valid.{name_length}
use Rattle.entries_laws.specs.Signs.{broken_half, half_after, half_step, is_tail, no_half}
use Rattle.entries_laws.proofs.Signs.{CutAt, allowed-append, allowed_half, between, cut_allowed, half_broken, half_cut}
use Rattle.entries_laws.proofs.Signs.{in_micro, in_ohm, whole_first}
use Rattle.book_record_read.specs.RecordParts.{goes_above, head_part, head_test, own_if, record_part, tail_part}
use Rattle.book_record_read.specs.RecordParts.{tail_test}
use Rattle.book.specs.Records.{head_at, record_length, record_name, record_of}
use Rattle.book_laws.specs.Cursor.{record_is}
use Rattle.book_laws.specs.declared.Parts.{Parts}
use Rattle.std.specs.Prelude.{None, Some}
use Rattle.book_record_read.proofs.Standing.{head_stands, tail_stands}

-- A name that keeps the first k bytes of prev and goes on with v: its bytes, its order. Where no half is open behind
-- the kept bytes, the name is allowed exactly if v is.
allowed_kept : (k : ℕ) (prev v : List ℕ) → half_after no_half (take k prev) ≡ no_half
    → allowed_bytes (take k prev ++ v) ≡ allowed_bytes v
allowed_kept k prev v e = allowed-append (take k prev) v ∙ rw e (sym (allowed_half v))

prefix_kept :
    (k : ℕ) (prev v : List ℕ) → half_after no_half (take k prev) ≡ no_half → k ≤ length prev
    → is_prefix (take k prev ++ v) ≡ (leb (k + length v) longest_name && is_prefix v)
unfolding is_prefix
prefix_kept k prev v h q =
    let l : length (take k prev ++ v) ≡ k + length v = simp (length-append, length-take) (omega arith) in
    rw (l, allowed_kept k prev v h)
    (by_test (leb (k + length v) longest_name)
    (λ t. let z = leb-true (k + length v) longest_name t in rw (t, le-leb (length v) longest_name (omega arith)))
    (λ t. rw t))

below_kept : (k : ℕ) (prev v : List ℕ) → k ≤ length prev → below prev (take k prev ++ v) ≡ below (drop k prev) v
below_kept zero prev v q = refl
below_kept (suc k) [] v q = absurd (omega arith)
below_kept (suc k) (x ∷ prev) v q = rw (eqb_self x) (below_kept k prev v (omega arith))

-- the byte behind the kept ones decides at once that no more is shared, and that the name is above prev
above_first : (x y : ℕ) (xs ys : List ℕ) → (eqb (common (x ∷ xs) (y ∷ ys)) 0 && below (x ∷ xs) (y ∷ ys)) ≡ ltb x y
above_first x y xs ys =
    by_test (eqb x y)
    (λ t. let e = eqb-true x y t in rw (t, le-ltb x y (omega arith), eqb-suc-zero))
    (λ t. rw t)

-- the byte behind the kept ones is not the other half of a pair
abbrev Whole : ℕ → List ℕ → Type 0
Whole k prev = k < length prev → is_tail (get_or prev k 0) ≡ false

above_kept :
    (k : ℕ) (prev v : List ℕ) → Whole k prev
    → (eqb (common (drop k prev) v) 0 && below (drop k prev) v) ≡ (leb 1 (length v) && goes_above prev k (get_or v 0 0))
unfolding goes_above
above_kept k prev [] o = and-false (eqb (common (drop k prev) []) 0)
above_kept k prev (y ∷ v) o =
    by_test (leb (length prev) k)
    (λ t. rw (t, le-leb 1 (suc (length v)) (omega arith), drop_of_length-le prev (leb-true (length prev) k t)))
    (λ t.
    let l = leb-false (length prev) k t in
    rw (t, le-leb 1 (suc (length v)) (omega arith), o l, drop_next prev k l)
    (above_first (get_or prev k 0) y (drop (k + 1) prev) v ∙ sym (and-whole (ltb (get_or prev k 0) y))))

and_swap : (a b c : Bool) → (a && (b && c)) ≡ (b && (a && c))
and_swap true b c = refl
and_swap false b c = sym (and-false b)

-- all tests of the name at once: of kept bytes that end between signs
name_whole :
    (k : ℕ) (prev v : List ℕ) → half_after no_half (take k prev) ≡ no_half → Whole k prev → k ≤ length prev
    → (eqb (common (drop k prev) v) 0 && (is_name (take k prev ++ v) && below prev (take k prev ++ v)))
    ≡ (leb 1 (length v) && (leb (k + length v) longest_name && (is_prefix v && goes_above prev k (get_or v 0 0))))
unfolding is_name
name_whole k prev v h o q =
    let l : length (take k prev ++ v) ≡ k + length v = simp (length-append, length-take) (omega arith) in
    rw (
      below_kept k prev v q,
      and_swap (eqb (common (drop k prev) v) 0),
      above_kept k prev v o,
      l,
      prefix_kept k prev v h q,
    )
    (by_test (leb 1 (length v))
    (λ t.
    let z = leb-true 1 (length v) t in
    rw (t, le-leb 1 (k + length v) (omega arith))
    (and_assoc (leb (k + length v) longest_name) (is_prefix v) (goes_above prev k (get_or v 0 0))))
    (λ t. rw t (and-false (leb 1 (k + length v) && (leb (k + length v) longest_name && is_prefix v)))))

-- of kept bytes that end inside a pair: a name that goes on with the pair's other half x shares more with prev, and no
-- other is allowed
module _ (k : ℕ) (prev v : List ℕ) (h x : ℕ) (u : List ℕ) (inside : half_after no_half (take k prev) ≡ h)
    (next : drop k prev ≡ x ∷ u) (tail : is_tail x ≡ true) (half : eqb h no_half ≡ false)
    (only : (y : ℕ) → eqb x y ≡ false → half_step h y ≡ broken_half) where
  no_name_lem : (w : List ℕ) → eqb (half_after h w) no_half ≡ false → is_name (take k prev ++ w) ≡ false
  unfolding is_name is_prefix
  no_name_lem w t =
      let n = length (take k prev ++ w) in
      let bad : allowed_bytes (take k prev ++ w) ≡ false = allowed-append (take k prev) w ∙ rw (inside, t) in
      rw (bad, and-false (leb n longest_name)) (and-false (leb 1 n))

  not_kept : (eqb (common (drop k prev) v) 0 && (is_name (take k prev ++ v) && below prev (take k prev ++ v))) ≡ false
  not_kept = rw next (go v)
    where
      go : (w : List ℕ)
          → (eqb (common (x ∷ u) w) 0 && (is_name (take k prev ++ w) && below prev (take k prev ++ w))) ≡ false
      go [] = rw (no_name_lem [] half)
      go (y ∷ w) = by_test (eqb x y) (λ t. rw (t, eqb-suc-zero))
          (λ t. rw (t, no_name_lem (y ∷ w) (rw (only y t, half_broken w))))

  behind : (k < length prev) × (get_or prev k 0 ≡ x)
  behind =
      by_test (leb (length prev) k)
      (λ t. absurd (let z : [] ≡ x ∷ u = sym (drop_of_length-le prev (leb-true (length prev) k t)) ∙ next in
      let o : ◌≡◌ {A = ℕ} 0 1 = cc in omega arith))
      (λ t.
      let l = leb-false (length prev) k t in
      let z : get_or prev k 0 ∷ drop (k + 1) prev ≡ x ∷ u = sym (drop_next prev k l) ∙ next in
      (l, (cc)))

  not_above : (b : ℕ) → goes_above prev k b ≡ false
  unfolding goes_above
  not_above b = rw (lt-leb (length prev) k behind.0, behind.1, tail, and-false (ltb x b))

  name_inside :
      (eqb (common (drop k prev) v) 0 && (is_name (take k prev ++ v) && below prev (take k prev ++ v)))
      ≡ (leb 1 (length v) && (leb (k + length v) longest_name && (is_prefix v && goes_above prev k (get_or v 0 0))))
  name_inside =
      not_kept
      ∙ sym (rw (not_above (get_or v 0 0), and-false (is_prefix v), and-false (leb (k + length v) longest_name))
      (and-false (leb 1 (length v))))

name_kept :
    (k : ℕ) (prev v : List ℕ) → is_prefix prev ≡ true → k ≤ length prev
    → (eqb (common (drop k prev) v) 0 && (is_name (take k prev ++ v) && below prev (take k prev ++ v)))
    ≡ (leb 1 (length v) && (leb (k + length v) longest_name && (is_prefix v && goes_above prev k (get_or v 0 0))))
unfolding is_prefix
name_kept k prev v h q = go (half_after no_half (take k prev)) (drop k prev) refl refl (cut_allowed k prev ok)
  where
    ok : allowed_bytes prev ≡ true
    ok = (and_true_both (leb (length prev) longest_name) (allowed_bytes prev) h).1

    whole : half_after no_half (take k prev) ≡ no_half → Whole k prev
    whole e l =
        whole_first (get_or prev k 0) (drop (k + 1) prev)
        (ap (half_after no_half) (sym (drop_next prev k l)) ∙ ap (λ g. half_after g (drop k prev)) (sym e)
        ∙ half_cut k prev ok)

    go : (g : ℕ) (u : List ℕ) → half_after no_half (take k prev) ≡ g → drop k prev ≡ u → CutAt g u
        → (eqb (common (drop k prev) v) 0 && (is_name (take k prev ++ v) && below prev (take k prev ++ v)))
        ≡ (leb 1 (length v) && (leb (k + length v) longest_name && (is_prefix v && goes_above prev k (get_or v 0 0))))
    go g u e d between = name_whole k prev v e (whole e) q
    go g u e d (in_micro {w}) = name_inside k prev v g 0xB5 w e d refl refl (λ y t. rw (eqb_swap 0xB5 y t))
    go g u e d (in_ohm {w}) = name_inside k prev v g 0xA9 w e d refl refl (λ y t. rw (eqb_swap 0xA9 y t))

module _ (heads : Bool) (i : ℕ) (prev : List ℕ) where
  -- what the three tests of a record of a book say
  pub record_is_lem :
      (s : List ℕ) → record_is heads i prev s ≡ true
      → let w = record_name heads i prev s in
      (begins (record_of heads i prev w) s ≡ true) × (is_name w ≡ true) × (below prev w ≡ true)
  unfolding record_is
  record_is_lem s t =
      let w = record_name heads i prev s in
      let a = and_true_both (begins (record_of heads i prev w) s) (is_name w && below prev w) t in
      let b = and_true_both (is_name w) (below prev w) a.1 in
      (a.0, b.0, b.1)

  head_name_lem : (s : List ℕ) → head_at heads i ≡ true → record_name heads i prev s ≡ take (get_or s 0 0) (drop 1 s)
  unfolding record_name
  head_name_lem s e = rw e

  tail_name :
      (s : List ℕ) → head_at heads i ≡ false → record_name heads i prev s ≡ take (get_or s 0 0) prev
      ++ take (get_or s 1 0) (drop 2 s)
  unfolding record_name
  tail_name s e = rw e

  head_none : head_at heads i ≡ true → record_is heads i prev [] ≡ false
  unfolding record_is record_of
  head_none e = rw e

  head_test_lem : (s : List ℕ) → head_at heads i ≡ true → head_test prev s ≡ record_is heads i prev s
  unfolding head_test record_is
  head_test_lem [] e = sym (head_none e)
  head_test_lem (n ∷ bs) e =
      let z : suc (length bs) - 1 ≡ length bs = omega arith in
      rw (head_stands heads i n prev bs e, head_name_lem (n ∷ bs) e, le-leb 1 (suc (length bs)) (omega arith), z)

  tail_none : (s : List ℕ) → length s < 2 → head_at heads i ≡ false → record_is heads i prev s ≡ false
  unfolding record_is record_of
  tail_none [] h e = rw e
  tail_none (x ∷ []) h e = rw (e, and-false)
  tail_none (x ∷ y ∷ s) h e = absurd (omega arith)

  tail_test_lem : (s : List ℕ) → head_at heads i ≡ false → is_prefix prev ≡ true → tail_test prev s ≡ record_is heads i prev s
  unfolding tail_test record_is
  tail_test_lem [] e h = sym (tail_none [] (omega arith) e)
  tail_test_lem (x ∷ []) e h = sym (tail_none (x ∷ []) (omega arith) e)
  tail_test_lem (k ∷ n ∷ bs) e h =
      let z : suc (suc (length bs)) - 2 ≡ length bs = omega arith in
      rw (
        tail_stands heads i k n prev bs e,
        tail_name (k ∷ n
            ∷ bs) e,
        le-leb 2 (suc (suc (length bs))) (omega arith),
        z,
      )
      (by_test (leb k (length prev))
      (λ t.
      by_test (leb n (length bs))
      (λ u.
      let l = length-take-le n bs (leb-true n (length bs) u) in
      rw (t, u) (sym (rw l at (name_kept k prev (take n bs) h (leb-true k (length prev) t)))))
      (λ u. rw (t, u) (and-false (leb 1 n))))
      (λ t. rw t))

  pub head_part_lem : (s : List ℕ) → head_at heads i ≡ true → head_part prev s ≡ record_part heads i prev s
  unfolding record_part
  head_part_lem s e = rw (e, head_test_lem s e)

  pub tail_part_lem : (s : List ℕ) → head_at heads i ≡ false → is_prefix prev ≡ true
      → tail_part prev s ≡ record_part heads i prev s
  unfolding record_part
  tail_part_lem s e h = rw (e, tail_test_lem s e h)

-- what the parts of a record say of it
pub record Owned (heads : Bool) (i : ℕ) (prev s : List ℕ) (kept start n : ℕ) : Type 0 where
  pub is : record_is heads i prev s ≡ true
  pub name : record_name heads i prev s ≡ take kept prev ++ take n (drop start s)
  pub long : record_length heads i s ≡ start + n
  pub within : kept ≤ length prev
  pub short : kept + n ≤ longest_name
  pub inside : start + n ≤ length s
  pub shares : head_at heads i ≡ false → kept ≡ common prev (record_name heads i prev s)

own_if_lem :
    (t : Bool) (a b d : ℕ) {p : Parts} → own_if t a b d ≡ Some p
    → (t ≡ true) × (a ≡ p.kept) × (b ≡ p.start) × (d ≡ p.own)
own_if_lem true a b d {p} e =
    let q : record { kept = a; start = b; own = d } ≡ p = cc in
    (refl, ap (λ (x : Parts). x.kept) q, ap (λ (x : Parts). x.start) q, ap (λ (x : Parts). x.own) q)
own_if_lem false a b d e = absurd (cc)

own_not : (t : Bool) (a b d : ℕ) → own_if t a b d ≡ None → t ≡ false
own_not true a b d e = absurd (cc)
own_not false a b d e = refl

module _ (heads : Bool) (i : ℕ) (prev s : List ℕ) where
  -- found parts are those of a record of a book; no parts, no such record
  head_owned : head_at heads i ≡ true → head_test prev s ≡ true → Owned heads i prev s 0 1 (get_or s 0 0)
  unfolding head_test record_length
  head_owned e t =
      let w = take (get_or s 0 0) (drop 1 s) in
      let a = and_true_both (leb 1 (length s)) _ t in
      let b = and_true_both (leb (get_or s 0 0) (length s - 1)) _ a.1 in
      let c = and_true_both (is_name w) _ b.1 in
      let x : 1 ≤ length s = leb-true 1 (length s) a.0 in
      let y : get_or s 0 0 ≤ length s - 1 = leb-true (get_or s 0 0) (length s - 1) b.0 in
      let l : length w ≡ get_or s 0 0 = simp (length-take, length-drop) (omega arith) in
      record {
        is = sym (head_test_lem heads i prev s e) ∙ t;
        name = head_name_lem heads i prev s e;
        long = rw e;
        within = omega arith;
        short = omega (arith, name_length w c.0);
        inside = omega arith;
        shares = λ f. absurd (false≢true (sym f ∙ e));
      }

  -- the first byte of a record that is no head says how many bytes are shared
  first_byte :
      (bs : List ℕ) → head_at heads i ≡ false → begins (record_of heads i prev (record_name heads i prev s)) bs ≡ true
      → get_or bs 0 0 ≡ common prev (record_name heads i prev s)
  unfolding record_of
  first_byte [] e h = absurd (false≢true (rw e at h))
  first_byte (x ∷ bs) e h =
      sym (eqb-true _ x (and_true_both (eqb (common prev (record_name heads i prev s)) x) _ (rw e at h)).0)

  tail_owned : head_at heads i ≡ false → is_prefix prev ≡ true → tail_test prev s ≡ true
      → Owned heads i prev s (get_or s 0 0) 2 (get_or s 1 0)
  unfolding tail_test record_length
  tail_owned e h t =
      let a = and_true_both (leb 2 (length s)) _ t in
      let b = and_true_both (leb (get_or s 0 0) (length prev)) _ a.1 in
      let c = and_true_both (leb 1 (get_or s 1 0)) _ b.1 in
      let d = and_true_both (leb (get_or s 1 0) (length s - 2)) _ c.1 in
      let f = and_true_both (leb (get_or s 0 0 + get_or s 1 0) longest_name) _ d.1 in
      let x : 2 ≤ length s = leb-true 2 (length s) a.0 in
      let y : get_or s 1 0 ≤ length s - 2 = leb-true (get_or s 1 0) (length s - 2) d.0 in
      record {
        is = sym (tail_test_lem heads i prev s e h) ∙ t;
        name = tail_name heads i prev s e;
        long = rw e;
        within = leb-true (get_or s 0 0) (length prev) b.0;
        short = leb-true (get_or s 0 0 + get_or s 1 0) longest_name f.0;
        inside = omega arith;
        shares = λ o. first_byte s e (record_is_lem heads i prev s (sym (tail_test_lem heads i prev s e h) ∙ t)).0;
      }

  pub part_own :
      (p : Parts) → is_prefix prev ≡ true → record_part heads i prev s ≡ Some p
      → Owned heads i prev s p.kept p.start p.own
  part_own p h q =
      by_test (head_at heads i)
      (λ e.
      let x = own_if_lem (head_test prev s) 0 1 (get_or s 0 0) (head_part_lem heads i prev s e ∙ q) in
      rw (← x.1, ← x.2, ← x.3) (head_owned e x.0))
      (λ e.
      let x = own_if_lem (tail_test prev s) (get_or s 0 0) 2 (get_or s 1 0) (tail_part_lem heads i prev s e h ∙ q) in
      rw (← x.1, ← x.2, ← x.3) (tail_owned e h x.0))

  pub part_bad : record_part heads i prev s ≡ None → record_is heads i prev s ≡ false
  unfolding record_part
  part_bad q =
      by_test (head_at heads i)
      (λ e. own_not (record_is heads i prev s) 0 1 (get_or s 0 0) (rw e at q))
      (λ e. own_not (record_is heads i prev s) (get_or s 0 0) 2 (get_or s 1 0) (rw e at q))
