-- The bytes of a page measured, and its lines stored one behind the other.
use Prim.Native.Nat.{◌*◌, ◌+◌, ◌-◌, ◌/◌, ◌<◌, ◌≤◌, min, suc, ℕ}
use mathlib.Core.Path.{◌∙◌, ◌≡◌, ap, refl, sym}
use mathlib.Core.List.{List, [], ◌++◌, ◌∷◌, append_assoc, append-nil, map}
use lib.Dec.{leb, ltb}
use lib.ListN.{get_or-append, drop, drop_of_length-le, get_or, get_or-replicate, length, length-append, length-drop}
use lib.ListN.{replicate, replicate-append-replicate, set, take}
use lib.Seq.{drop_at, drop-cons, drop-length, get_or-append-add, get_or-take, length-take-le, sets, take_all}
use lib.Seq.{take_at, take-take}
use native.Mathlib.Numerals.{add-one}
use native.Mathlib.Omega.{arith}
use borrow.Rule.Slice.PartMut.{put_mid}
use borrow.Author.Tests.{leb-false, leb-true, ltb-false, ltb-true}
use Rattle.octets.specs.Decimal.{decimal}
use Rattle.octets.specs.Lists.{concat_map, if◌then◌otherwise◌}
use Rattle.octets.specs.Text.{line_feed}
use Rattle.octets.proofs.Decimal.{decimal_most}
use Rattle.octets.proofs.Lists.{drop-take, take_snoc}
use Rattle.octets.proofs.Stores.{sets-append, sets-inside}
use Rattle.octets.proofs.Tests.{by_test}
use Rattle.octets_laws.specs.Printed.{Printed}
use Rattle.octets_laws.proofs.Printed.{put_append}
use Rattle.octets_code.proofs.Loops.{drop_next}
use Rattle.octets_code.proofs.Methods.{sets_part}
use Rattle.octets_decimal.specs.Digits.{Numbered}
use Rattle.entries.specs.Entries.{entry}
use Rattle.page.specs.Page.{ended, entry_lines, first_line, further_line, line_bytes, name_columns, on_page, padded}
use Rattle.page.specs.Page.{page_columns, parts, spaces}
use Rattle.page.proofs.Lines.{first_long, further_long, length-padded, length-spaces, part_short, parts_next}
use Rattle.page_write.specs.Lines.{further, lines_of, page_bytes}

-- lines counted, up to index i
pub record Counting (lens : List ℕ) (lines i : ℕ) : Type 0 where
  pub upto : i ≤ length lens
  pub few : lines ≤ 1 + 10 * i
  pub left : lines + lines_of (drop i lens) ≡ suc (lines_of lens)

pub count_start : (lens : List ℕ) → Counting lens 1 0
count_start lens = record { upto = omega arith; few = omega arith; left = omega arith }

pub count_on : {lens : List ℕ} {lines i : ℕ} → Counting lens lines i → i < length lens → get_or lens i 0 < 256
    → Counting lens (lines + (get_or lens i 0 + 27) / 28) (i + 1)
count_on {lens} {lines} {i} k h b =
    record {
      upto = omega arith;
      few = omega (arith, k.few);
      left = omega (arith, k.left, ap lines_of (drop_next lens i h));
    }

pub count_end : {lens : List ℕ} {lines i : ℕ} → Counting lens lines i → length lens ≤ i
    → lines * line_bytes ≡ page_bytes lens
unfolding page_bytes
count_end {lens} {lines} {i} k h =
    let e : lines ≡ suc (lines_of lens) = omega (arith, k.left, ap lines_of (drop_of_length-le lens {i = i} h)) in
    rw e

-- spaces, in two parts
two-spaces : (a b c : ℕ) → a + b ≡ c → spaces a ++ spaces b ≡ spaces c
two-spaces a b c e = replicate-append-replicate a b 0x20 ∙ ap spaces e

-- the part of a line that was filled with spaces
pub blank_filled :
    (d part : List ℕ) (at : ℕ) → at + page_columns ≤ length d
    → part ≡ replicate (length (take (at + page_columns - at) (drop at d))) 0x20
    → put_mid at (at + page_columns - at) d part ≡ sets d at (spaces page_columns)
blank_filled d part at h e =
    let n : length (take (at + page_columns - at) (drop at d)) ≡ page_columns =
    length-take-le (at + page_columns - at) (drop at d) (omega (arith, length-drop at d)) ∙ omega arith in
    let p : part ≡ take page_columns (spaces page_columns) = rw n at e in
    rw p (sets_part d at page_columns (spaces page_columns) (omega arith) (omega arith))

-- the columns of a row's first n bytes, and spaces behind them: a byte of them, a turn that puts it in, the end
column_at :
    (row : List ℕ) (c n j : ℕ) → j < c → n ≤ length row
    → get_or (padded c (take n row)) j 0 ≡ (if ltb j n then get_or row j 0 otherwise 0x20)
column_at row c n j h l =
    let w = take n row in
    let e = length-take-le n row l in
    let behind = spaces (c - length w) in
    by_test (ltb j n)
    (λ t.
    let k : j < n = ltb-true j n t in
    rw t (get_or-append w behind 0 j (omega arith) ∙ get_or-take n row j 0 k))
    (λ t.
    let k : n ≤ j = ltb-false j n t in
    let z : j ≡ length w + (j - n) = omega arith in
    rw t
    (ap (λ i. get_or (w ++ behind) i 0) z
    ∙ get_or-append-add w behind (j - n) 0
    ∙ get_or-replicate (c - length w) (j - n) 0x20 0 (omega arith)))

module _ (row : List ℕ) {n : ℕ} (l : n ≤ page_columns) (h : page_columns ≤ length row) where
  abbrev columns : List ℕ
  columns = padded page_columns (take n row)

  columns_long : length columns ≡ page_columns
  columns_long = length-padded page_columns (take n row) (omega (arith, length-take-le n row (omega arith)))

  pub columns_on :
      (line : List ℕ) (j : ℕ) {b : ℕ} → j < page_columns → length line ≡ page_columns
      → b ≡ (if ltb j n then get_or row j 0 otherwise 0x20) → take j line ++ drop j columns ≡ columns
      → take (j + 1) (set line j b) ++ drop (j + 1) columns ≡ columns
  columns_on line j {b} k m e v =
      rw (add-one j) (take_snoc line j b (drop (suc j) columns) (omega arith))
      ∙ ap (λ x. take j line ++ (x ∷ drop (suc j) columns)) (e ∙ sym (column_at row page_columns n j k (omega arith)))
      ∙ ap (λ l. take j line ++ l) (sym (drop-cons columns j 0 (omega (arith, columns_long))))
      ∙ v

  pub columns_end : (line : List ℕ) {j : ℕ} → page_columns ≤ j → length line ≡ page_columns
      → take j line ++ drop j columns ≡ columns → line ≡ columns
  columns_end line {j} k m v =
      sym (append-nil line)
      ∙ (rw (take_all j line (omega arith), drop_of_length-le columns {i = j} (omega (arith, columns_long))) at v)

-- a line with a part of a name and no score: its columns, a line feed behind them, and the part on a blank line
columns_line : (part : List ℕ) → length part ≤ name_columns → padded page_columns part ≡ further_line part
unfolding further_line
columns_line part h =
    let n = length part in
    ap (λ l. part ++ l) (sym (two-spaces (name_columns - n) 12 (page_columns - n) (omega arith)))
    ∙ sym (append_assoc part (spaces (name_columns - n)) (spaces 12))

columns_put :
    (d : List ℕ) (at : ℕ) (part : List ℕ) → length part ≤ name_columns
    → set (sets d at (padded page_columns part)) (at + page_columns) 10 ≡ sets d at (ended (further_line part))
columns_put d at part h =
    let cs = padded page_columns part in
    ap (λ i. set (sets d at cs) (at + i) 10) (sym (length-padded page_columns part (omega arith)))
    ∙ sets-append d cs line_feed at
    ∙ ap (λ l. sets d at (ended l)) (columns_line part h)

pub line_put :
    (d : List ℕ) (at : ℕ) (part : List ℕ) → length part ≤ name_columns
    → sets (set (sets d at (spaces page_columns)) (at + page_columns) 10) at part
    ≡ sets d at (ended (further_line part))
line_put d at part h =
    let n = length part in
    let behind = spaces (page_columns - n) ++ line_feed in
    let a = two-spaces n (page_columns - n) page_columns (omega arith) in
    let blank : spaces page_columns ++ line_feed ≡ spaces n ++ behind =
    ap ended (sym a) ∙ append_assoc (spaces n) (spaces (page_columns - n)) line_feed in
    let z : at + 0 ≡ at = omega arith in
    let line : ended (further_line part) ≡ part ++ behind =
    ap ended (sym (columns_line part h)) ∙ append_assoc part (spaces (page_columns - n)) line_feed in
    ap (λ l. sets l at part) (sets-append d (spaces page_columns) line_feed at ∙ ap (sets d at) blank)
    ∙ ap (λ i. sets (sets d at (spaces n ++ behind)) i part) (sym z)
    ∙ sets-inside d [] (spaces n) behind part at (sym (length-spaces n))
    ∙ ap (sets d at) (sym line)

-- the score on the first line
pub score_put :
    (d : List ℕ) (at : ℕ) (name : List ℕ) {v r : ℕ} {out : List ℕ}
    → Numbered (sets d at (ended (further_line (take name_columns name)))) (at + page_columns) v r out
    → out ≡ sets d at (ended (first_line (entry name v)))
unfolding further_line first_line
score_put d at name {v} {r} {out} n =
    let p = padded name_columns (take name_columns name) in
    let m = length (decimal v) in
    let most = decimal_most v in
    let front = p ++ spaces (12 - m) in
    let l : length front ≡ page_columns - m =
    length-append p (spaces (12 - m))
    ∙ omega (
      arith,
      length-padded name_columns (take name_columns name) (part_short name),
      length-spaces (12 - m),
    )
    in
    let a = two-spaces (12 - m) m 12 (omega arith) in
    let b = two-spaces 2 (10 - m) (12 - m) (omega arith) in
    let blank : ended (p ++ spaces 12) ≡ front ++ (spaces m ++ line_feed) =
    ap (λ s. ended (p ++ s)) (sym a)
    ∙ ap ended (sym (append_assoc p (spaces (12 - m)) (spaces m)))
    ∙ append_assoc front (spaces m) line_feed in
    let line : ended (p ++ spaces 2 ++ (spaces (10 - m) ++ decimal v)) ≡ front ++ (decimal v ++ line_feed) =
    ap ended
    (sym (append_assoc (p ++ spaces 2) (spaces (10 - m)) (decimal v))
    ∙ ap (λ s. s ++ decimal v) (append_assoc p (spaces 2) (spaces (10 - m)) ∙ ap (λ s. p ++ s) b))
    ∙ append_assoc front (decimal v) line_feed in
    let place : r ≡ at + length front = omega (arith, n.ends) in
    n.stored
    ∙ ap (λ i. sets (sets d at (ended (p ++ spaces 12))) i (decimal v)) place
    ∙ ap (λ s. sets (sets d at s) (at + length front) (decimal v)) blank
    ∙ sets-inside d front (spaces m) line_feed (decimal v) at (sym (length-spaces m))
    ∙ ap (sets d at) (sym line)

-- the further lines of a name: none, and one more
further-none : further [] ≡ []
unfolding further parts
further-none = refl

further_next : (w : List ℕ) → 1 ≤ length w
    → further w ≡ ended (further_line (take name_columns w)) ++ further (drop name_columns w)
unfolding further
further_next w h = ap (λ ps. concat_map ended (map further_line ps)) (parts_next w h)

-- an entry's first line, and its further ones
pub entry_split : (name : List ℕ) (v : ℕ)
    → on_page (entry name v) ≡ ended (first_line (entry name v)) ++ further (drop name_columns name)
unfolding entry_lines further
entry_split name v = refl

-- the least of the columns and the bytes that are left
pub take_least : (w : List ℕ) → take (min name_columns (length w)) w ≡ take name_columns w
take_least w =
    by_test (leb (length w) name_columns)
    (λ t.
    let h = leb-true (length w) name_columns t in
    let e : min name_columns (length w) ≡ length w = omega arith in
    rw (e, take_all (length w) w (omega arith), take_all name_columns w h))
    (λ t.
    let h = leb-false (length w) name_columns t in
    let e : min name_columns (length w) ≡ name_columns = omega arith in
    rw e)

pub drop_least : (w : List ℕ) → drop (min name_columns (length w)) w ≡ drop name_columns w
drop_least w =
    by_test (leb (length w) name_columns)
    (λ t.
    let h = leb-true (length w) name_columns t in
    let e : min name_columns (length w) ≡ length w = omega arith in
    rw (e, drop-length w, drop_of_length-le w {i = name_columns} h))
    (λ t.
    let h = leb-false (length w) name_columns t in
    let e : min name_columns (length w) ≡ name_columns = omega arith in
    rw e)

-- further lines written up to what is left of a name's rest: the lines of that, written now, give all
pub record Going (rest dst₀ dst left : List ℕ) (at end : ℕ) : Type 0 where
  pub long : length dst ≡ length dst₀
  pub lines : sets dst end (further left) ≡ sets dst₀ at (further rest)
  pub ends : end + length (further left) ≡ at + length (further rest)

pub go_start : {rest left : List ℕ} (dst : List ℕ) (at : ℕ) → left ≡ rest → Going rest dst dst left at at
go_start dst at e = rw e (record { long = refl; lines = refl; ends = refl })

module _ {rest dst₀ dst left : List ℕ} {at end : ℕ} (k : Going rest dst₀ dst left at end) where
  -- the next part of it
  module _
      (part next : List ℕ) (h : 0 < length left) (e : left ≡ part ++ next)
      (m : length part ≡ min name_columns (length left))
    where
      part_is : take name_columns left ≡ part
      part_is =
          sym (take_least left)
          ∙ ap (λ n. take n left) (sym m)
          ∙ ap (take (length part)) e
          ∙ take_at part next (length part) refl

      next_is : drop name_columns left ≡ next
      next_is =
          sym (drop_least left)
          ∙ ap (λ n. drop n left) (sym m)
          ∙ ap (drop (length part)) e
          ∙ drop_at part next (length part) refl

      abbrev line : List ℕ
      line = ended (further_line part)

      go_next : further left ≡ line ++ further next
      go_next = further_next left h ∙ (λ i. ended (further_line (part_is i)) ++ further (next_is i))

      pub part_fits : length part ≤ name_columns
      part_fits = omega (arith, m)

      line_long : length line ≡ line_bytes
      line_long = omega (arith, length-append (further_line part) line_feed, further_long part part_fits)

      pub go_room : at + length (further rest) ≤ length dst₀ → end + line_bytes ≤ length dst
      go_room r = omega (arith, k.ends, k.long, ap length go_next, line_long, length-append line (further next))

      pub go_on : {out : List ℕ} → length out ≡ length dst → out ≡ sets dst end line
          → Going rest dst₀ out next at (end + line_bytes)
      go_on {out} l f =
          record {
            long = l ∙ k.long;
            lines =
                ap (λ i. sets out i (further next)) (ap (λ n. end + n) (sym line_long))
                ∙ rw f (sets-append dst line (further next) end)
                ∙ ap (sets dst end) (sym go_next)
                ∙ k.lines;
            ends = omega (arith, k.ends, ap length go_next, line_long, length-append line (further next));
          }

  pub go_end : at + length (further rest) ≤ length dst₀ → length left ≡ 0 → Printed dst₀ at (further rest) end dst
  go_end r h =
      let z : further left ≡ [] = ap further (length_zero left h) ∙ further-none in
      record {
        stored = rw z at k.lines;
        ends = omega (arith, k.ends, ap length z);
        inside = omega (arith, k.ends, ap length z);
      }
    where
      length_zero : (w : List ℕ) → length w ≡ 0 → w ≡ []
      length_zero [] h = refl
      length_zero (x ∷ w) h = absurd (omega arith)

-- the lines of an entry whose name is the first bytes of a row, where there is room for them
module _
    (row : List ℕ) (len v at : ℕ) {n : ℕ} (h : at + length (on_page (entry (take len row) v)) ≤ n)
    (l : len ≤ length row)
  where
    abbrev whole : List ℕ
    whole = take len row

    abbrev line₁ : List ℕ
    line₁ = ended (first_line (entry whole v))

    line₁_long : length line₁ ≡ line_bytes
    line₁_long = omega (arith, length-append (first_line (entry whole v)) line_feed, first_long (entry whole v))

    entry_long : length (on_page (entry whole v)) ≡ line_bytes + length (further (drop name_columns whole))
    entry_long =
        omega (
          arith,
          ap length (entry_split whole v),
          length-append line₁ (further (drop name_columns whole)),
          line₁_long,
        )

    pub first_room : at + line_bytes ≤ n
    first_room = omega (arith, entry_long)

    -- what the first line has of the name and what it leaves of it, as the code takes them from the row
    module _ {first : ℕ} (e : first ≡ min name_columns len) where
      first_least : first ≡ min name_columns (length whole)
      first_least = e ∙ ap (min name_columns) (sym (length-take-le len row l))

      first_is : take first row ≡ take name_columns whole
      first_is = sym (take-take first len row (omega arith)) ∙ rw first_least (take_least whole)

      rest_is : take (len - first) (drop first row) ≡ drop name_columns whole
      rest_is = sym (drop-take first len row) ∙ rw first_least (drop_least whole)

      pub rest_room : at + line_bytes + length (further (take (len - first) (drop first row))) ≤ n
      rest_room = rw rest_is (omega (arith, entry_long))

      pub entry_done :
          {r end : ℕ} {dst mid scored out : List ℕ} → length dst ≡ n
          → mid ≡ sets dst at (padded page_columns (take first row))
          → Numbered (set mid (at + page_columns) 10) (at + page_columns) v r scored
          → Printed scored (at + line_bytes) (further (take (len - first) (drop first row))) end out
          → Printed dst at (on_page (entry whole v)) end out
      entry_done {r} {end} {dst} {mid} {scored} {out} k m s p =
          let blank : set mid (at + page_columns) 10 ≡ sets dst at (ended (further_line (take name_columns whole))) =
          ap (λ x. set x (at + page_columns) 10) (m ∙ ap (λ w. sets dst at (padded page_columns w)) first_is)
          ∙ columns_put dst at (take name_columns whole) (part_short whole) in
          let s₁ :
          Numbered (sets dst at (ended (further_line (take name_columns whole)))) (at + page_columns) v r scored =
          rw blank at s in
          let one : Printed dst at line₁ (at + line_bytes) scored =
          record {
            stored = score_put dst at whole s₁;
            ends = omega (arith, line₁_long);
            inside = omega (arith, first_room);
          }
          in
          let two : Printed scored (at + line_bytes) (further (drop name_columns whole)) end out = rw rest_is at p in
          rw (entry_split whole v) (put_append one two)
