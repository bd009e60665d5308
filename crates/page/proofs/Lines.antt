-- The lines of a page: how long they are, how many there are, and the page cut behind its heading.
use Prim.Native.Nat.{◌*◌, ◌+◌, ◌-◌, ◌≤◌, suc, zero, ℕ}
use mathlib.Core.Path.{◌≡◌, ap, refl}
use mathlib.Core.Bool.{Bool, true}
use mathlib.Core.List.{List, [], ◌++◌, ◌∷◌, map}
use lib.Dec.{eqb}
use lib.ListN.{drop, length, length-append, length-drop, length-map, length-replicate, length-take, take}
use native.Mathlib.Omega.{arith}
use borrow.Author.Tests.{eq-eqb, eqb-true}
use Rattle.octets.specs.Decimal.{decimal}
use Rattle.octets.specs.Lists.{all, ceil, concat_map}
use Rattle.octets.specs.Text.{line_feed}
use Rattle.octets.proofs.Count.{count-all, count-concat-sort}
use Rattle.octets.proofs.Decimal.{decimal_most}
use Rattle.octets.proofs.Lists.{all_append, concat-concat}
use Rattle.octets.proofs.Tests.{and_true_both}
use Rattle.entries.specs.Entries.{Entry, by_rank, outranks, valid}
use Rattle.entries.specs.Names.{is_name}
use Rattle.entries.proofs.Valid.{name_length, name_some, valid_of}
use Rattle.page.specs.Page.{ended, entry_lines, first_line, further_line, heading, line_bytes, name_columns, on_page}
use Rattle.page.specs.Page.{padded, page_columns, page_image, page_lines, parts, parts_to, right_aligned}
use Rattle.page.specs.Page.{score_columns, spaces}

pub length-spaces : (n : ℕ) → length (spaces n) ≡ n
length-spaces n = length-replicate {A = ℕ} n 0x20

pub length-padded : (n : ℕ) (w : List ℕ) → length w ≤ n → length (padded n w) ≡ n
length-padded n w h = omega (arith, length-append w (spaces (n - length w)), length-spaces (n - length w))

pub length_aligned : (n : ℕ) (w : List ℕ) → length w ≤ n → length (right_aligned n w) ≡ n
length_aligned n w h = omega (arith, length-append (spaces (n - length w)) w, length-spaces (n - length w))

-- the part of a name that a line has
pub part_short : (w : List ℕ) → length (take name_columns w) ≤ name_columns
part_short w = rw length-take (omega arith)

pub heading_long : length heading ≡ page_columns
unfolding heading
heading_long = refl

pub first_long : (e : Entry) → length (first_line e) ≡ page_columns
unfolding first_line
first_long e =
    let p = padded name_columns (take name_columns e.name) in
    let s = right_aligned score_columns (decimal e.score) in
    omega (
      arith,
      length-append (p ++ spaces 2) s,
      length-append p (spaces 2),
      length-padded name_columns (take name_columns e.name) (part_short e.name),
      length_aligned score_columns (decimal e.score) (decimal_most e.score),
    )

pub further_long : (w : List ℕ) → length w ≤ name_columns → length (further_line w) ≡ page_columns
unfolding further_line
further_long w h = omega (arith, length-append (padded name_columns w) (spaces 12), length-padded name_columns w h)

-- a line of 40 bytes
abbrev pub is_full : List ℕ → Bool
is_full l = eqb (length l) page_columns

parts-full : (k : ℕ) (w : List ℕ) → all is_full (map further_line (parts_to k w)) ≡ true
parts-full zero w = refl
parts-full (suc k) [] = refl
parts-full (suc k) (b ∷ w) =
    rw (eq-eqb (length (further_line (take name_columns (b ∷ w)))) page_columns
    (further_long (take name_columns (b ∷ w)) (part_short (b ∷ w))))
    (parts-full k (drop name_columns (b ∷ w)))

pub entry-full : (e : Entry) → all is_full (entry_lines e) ≡ true
unfolding entry_lines parts
entry-full e =
    rw (eq-eqb (length (first_line e)) page_columns (first_long e))
    (parts-full (length (drop name_columns e.name)) (drop name_columns e.name))

entries-full : (es : List Entry) → all is_full (concat_map entry_lines es) ≡ true
entries-full [] = refl
entries-full (e ∷ es) = all_append is_full (entry_lines e) (concat_map entry_lines es) (entry-full e) (entries-full es)

pub page_full : (es : List Entry) → all is_full (page_lines es) ≡ true
unfolding page_lines
page_full es = rw (eq-eqb (length heading) page_columns heading_long) (entries-full (by_rank es))

-- the bytes of such lines
pub full_bytes : (ls : List (List ℕ)) → all is_full ls ≡ true → length (concat_map ended ls) ≡ line_bytes * length ls
full_bytes [] h = refl
full_bytes (l ∷ ls) h =
    let a = and_true_both (is_full l) (all is_full ls) h in
    omega (
      arith,
      eqb-true (length l) page_columns a.0,
      length-append l line_feed,
      length-append (ended l) (concat_map ended ls),
      full_bytes ls a.1,
    )

-- the parts of a text, one by one
parts_same : (k m : ℕ) (w : List ℕ) → length w ≤ k → length w ≤ m → parts_to k w ≡ parts_to m w
parts_same zero zero w h l = refl
parts_same zero (suc m) [] h l = refl
parts_same zero (suc m) (b ∷ w) h l = absurd (omega arith)
parts_same (suc k) zero [] h l = refl
parts_same (suc k) zero (b ∷ w) h l = absurd (omega arith)
parts_same (suc k) (suc m) [] h l = refl
parts_same (suc k) (suc m) (b ∷ w) h l =
    let d = length-drop name_columns (b ∷ w) in
    ap (λ ps. take name_columns (b ∷ w) ∷ ps)
    (parts_same k m (drop name_columns (b ∷ w)) (omega arith) (omega arith))

pub parts_next : (w : List ℕ) → 1 ≤ length w → parts w ≡ take name_columns w ∷ parts (drop name_columns w)
unfolding parts
parts_next [] h = absurd (omega arith)
parts_next (b ∷ w) h =
    let rest = drop name_columns (b ∷ w) in
    ap (λ ps. take name_columns (b ∷ w) ∷ ps)
    (parts_same (length w) (length rest) rest (omega (arith, length-drop name_columns (b ∷ w))) (omega arith))

-- a part for each 28 bytes
parts_to_many : (k : ℕ) (w : List ℕ) → length w ≤ k → length (parts_to k w) ≡ ceil (length w) name_columns
parts_to_many zero [] h = refl
parts_to_many zero (b ∷ w) h = absurd (omega arith)
parts_to_many (suc k) [] h = refl
parts_to_many (suc k) (b ∷ w) h =
    let l = length-drop name_columns (b ∷ w) in
    let ih = parts_to_many k (drop name_columns (b ∷ w)) (omega arith) in
    omega arith

pub lines_many : (e : Entry) → 1 ≤ length e.name → length (entry_lines e) ≡ ceil (length e.name) name_columns
unfolding entry_lines parts
lines_many e h =
    let w = drop name_columns e.name in
    omega (
      arith,
      length-map (parts_to (length w) w) further_line,
      parts_to_many (length w) w (omega arith),
      length-drop name_columns e.name,
    )

-- the page is the heading and, behind it, the lines of each entry
pub page_split : (es : List Entry)
    → page_image es ≡ ended heading ++ concat_map on_page (by_rank es)
unfolding page_image page_lines
page_split es = ap (λ l. ended heading ++ l) (concat-concat ended entry_lines (by_rank es))

-- its length does not depend on the order
pub page_size : (es : List Entry)
    → length (page_image es) ≡ line_bytes + length (concat_map on_page es)
page_size es =
    let c = count-concat-sort on_page (λ b. true) outranks es in
    omega (
      arith,
      ap length (page_split es),
      length-append (ended heading) (concat_map on_page (by_rank es)),
      length-append heading line_feed,
      heading_long,
      count-all (concat_map on_page (by_rank es)),
      count-all (concat_map on_page es),
    )

-- at most two lines for each name
entry_most : (e : Entry) → is_name e.name ≡ true → length (on_page e) ≤ 2 * line_bytes
entry_most e h =
    let m = lines_many e (name_some e.name h) in
    let l = name_length e.name h in
    omega (arith, full_bytes (entry_lines e) (entry-full e))

entries_most : (es : List Entry) → all (λ e. is_name e.name) es ≡ true
    → length (concat_map on_page es) ≤ 2 * line_bytes * length es
entries_most [] h = omega arith
entries_most (e ∷ es) h =
    let a = and_true_both (is_name e.name) (all (λ x. is_name x.name) es) h in
    omega (arith, length-append (on_page e) (concat_map on_page es), entry_most e a.0, entries_most es a.1)

-- A page never exceeds 84,009 bytes: the heading, and two lines for each of 1,024 names.
pub page_length_lem : (es : List Entry) → valid es ≡ true → length (page_image es) ≤ 84009
page_length_lem es h =
    let v = valid_of es h in
    omega (arith, page_size es, entries_most es v.allowed, v.few)
