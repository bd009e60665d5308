-- The loop of `rows_end`: the entries left end where all of them do.
use Prim.Native.Nat.{◌+◌, ◌-◌, ◌<◌, ◌≤◌, suc, ℕ}
use mathlib.Core.Path.{◌∙◌, ◌≡◌, ap, sym}
use mathlib.Core.Bool.{false, true}
use mathlib.Core.List.{List, []}
use mathlib.Core.Option.{none, some}
use lib.ListN.{drop, get_or, length, length-drop, take}
use lib.Seq.{drop-drop, get_or-drop}
use native.Mathlib.Numerals.{add-one}
use native.Mathlib.Omega.{arith}
use Rattle.sheet_check.specs.Check.{row_is, row_length, row_name, rows_end}
use Rattle.sheet_check.proofs.Rows.{row_parts}

-- the bytes from index a to before b, as the code takes them
abbrev pub between : ℕ → ℕ → List ℕ → List ℕ
between a b s = take (b - a) (drop a s)

-- the entry at an index, as the code finds its parts
module _ (buf : List ℕ) (k : ℕ) where
  pub row_byte : get_or (drop k buf) 0 0 ≡ get_or buf k 0
  row_byte = get_or-drop k buf 0 0 ∙ ap (λ j. get_or buf j 0) (omega arith)

  pub row_name_lem : row_name (drop k buf) ≡ between (k + 1) (k + 1 + get_or buf k 0) buf
  row_name_lem =
      let z : k + 1 + get_or buf k 0 - (k + 1) ≡ get_or buf k 0 = omega arith in
      rw (row_byte, drop-drop, z)

  row_next : k + row_length (drop k buf) ≡ k + 1 + get_or buf k 0 + 4
  row_next = omega (arith, row_byte)

-- the entries before index k are passed, and prev is the name of the last of them; at first there is none
pub record RowsPassed (buf : List ℕ) (n k : ℕ) (prev : List ℕ) (i : ℕ) : Type 0 where
  pub inside : k ≤ length buf
  pub left : rows_end (n - i) prev k buf ≡ rows_end n [] 7 buf

pub pass_start : (buf : List ℕ) (n : ℕ) → 7 ≤ length buf → RowsPassed buf n 7 [] 0
pass_start buf n h = let z : n - 0 ≡ n = omega arith in record { inside = h; left = rw z }

module _ {buf : List ℕ} {n k : ℕ} {prev : List ℕ} {i : ℕ} (g : RowsPassed buf n k prev i) (l : i < n) where
  one_more_lem : n - i ≡ suc (n - suc i)
  one_more_lem = omega arith

  pub pass_bad : row_is prev (drop k buf) ≡ false → rows_end n [] 7 buf ≡ none
  pass_bad t = sym (rw (one_more_lem, t) at g.left)

  module _ (t : row_is prev (drop k buf) ≡ true) where
    pub pass_room : k + 1 + get_or buf k 0 + 4 ≤ length buf
    pass_room = omega (arith, (row_parts prev (drop k buf) t).0, length-drop k buf, row_byte buf k)

    pub pass_turn : RowsPassed buf n (k + 1 + get_or buf k 0 + 4) (between (k + 1) (k + 1 + get_or buf k 0) buf) (i + 1)
    pass_turn =
        record {
          inside = pass_room;
          left = rw (← row_name_lem buf k, ← row_next buf k, add-one) (rw (one_more_lem, t) at g.left);
        }

pub pass_end :
    {buf : List ℕ} {n k : ℕ} {prev : List ℕ} {i : ℕ} → RowsPassed buf n k prev i → n ≤ i → rows_end n [] 7 buf ≡ some k
pass_end {n = n} {i = i} g h = let z : n - i ≡ 0 = omega arith in sym (rw z at g.left)
