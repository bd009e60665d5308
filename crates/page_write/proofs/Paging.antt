-- The page of a table: its rows in rank, their lines stored one behind the other.
use Prim.Native.Nat.{◌*◌, ◌+◌, ◌-◌, ◌<◌, ◌≤◌, suc, zero, ℕ}
use mathlib.Core.Path.{◌∙◌, ◌≡◌, ap, refl, sym}
use mathlib.Core.Bool.{true}
use mathlib.Core.List.{List, [], ◌++◌, ◌∷◌, map}
use lib.ListN.{drop, drop_of_length-le, get_or, length, length-append, length-drop, take}
use lib.Seq.{drop-cons, get_or-take, length-take-le, sets, take-take}
use native.Mathlib.Numerals.{add-one}
use native.Mathlib.Omega.{arith}
use Rattle.octets.specs.Lists.{concat_map, count_from}
use Rattle.octets.specs.Octets.{overwrite}
use Rattle.octets.specs.Text.{line_feed}
use Rattle.octets.proofs.Lists.{at_all, sort-length}
use Rattle.octets.proofs.Stores.{part_bytes, sets-append, sets-overwrite}
use Rattle.octets_laws.specs.Printed.{Printed}
use Rattle.octets_laws.proofs.Printed.{put_size}
use Rattle.entries.specs.Entries.{Entry, at, by_rank, entry, no_entry, outranks, valid}
use Rattle.entries.specs.Names.{is_name, longest_name}
use Rattle.entries.proofs.Valid.{name_some, valid_of}
use Rattle.entries_sort.specs.Ranked.{Ranked, Scores}
use Rattle.book_table.specs.Table.{Table, entries, row_at}
use Rattle.book_table.proofs.Rows.{entries_at, entries-length, row_inside, row_length_lem}
use Rattle.page.specs.Page.{ended, entry_lines, heading, line_bytes, on_page, page_image}
use Rattle.page.proofs.Lines.{entry-full, full_bytes, heading_long, lines_many, page_size, page_split}
use Rattle.page_write.specs.Lines.{lines_of, page_bytes}

-- an element of a list that is mapped
map_at : {A B : Type 0} (f : A → B) (l : List A) (i : ℕ) (d : B) (a : A) → i < length l
    → get_or (map f l) i d ≡ f (get_or l i a)
map_at f [] i d a h = absurd (omega arith)
map_at f (x ∷ l) zero d a h = refl
map_at f (x ∷ l) (suc i) d a h = map_at f l i d a (omega arith)

-- the entry at a place of rank is that of the row which stands there
rank_at :
    {es : List Entry} {n : ℕ} {order : List ℕ} → Ranked es n order → n ≤ length order → (i : ℕ) → i < n
    → at (by_rank es) i ≡ at es (get_or order i 0)
rank_at {es} {n} {order} r l i h =
    ap (λ xs. at xs i) (sym r.ranked)
    ∙ map_at (at es) (take n order) i no_entry 0 (omega (arith, length-take-le n order l))
    ∙ ap (at es) (get_or-take n order i 0 h)

-- behind the heading: the lines of the rows that are left, in rank, written now, give those of all rows
pub record Paging (es : List Entry) (dst₀ dst : List ℕ) (to i : ℕ) : Type 0 where
  pub upto : i ≤ length es
  pub long : length dst ≡ length dst₀
  pub left :
      sets dst to (concat_map on_page (drop i (by_rank es))) ≡ sets dst₀ line_bytes (concat_map on_page (by_rank es))
  pub ends : to + length (concat_map on_page (drop i (by_rank es))) ≡ length (page_image es)

heading_bytes : 0 + length (ended heading) ≡ line_bytes
heading_bytes = omega (arith, length-append heading line_feed, heading_long)

pub page_start : (es : List Entry) (dst : List ℕ) → Paging es dst dst line_bytes 0
page_start es dst =
    let rows = concat_map on_page (by_rank es) in
    record {
      upto = omega arith;
      long = refl;
      left = refl;
      ends = omega (arith, ap length (page_split es), length-append (ended heading) rows, heading_bytes);
    }

module _
    {names lens scores order : List ℕ} (z : Table names lens scores)
    (r : Ranked (entries names lens scores) (length lens) order) (l : length lens ≤ length order)
    {dst₀ dst : List ℕ} {to i : ℕ} (k : Paging (entries names lens scores) dst₀ dst to i)
  where
    abbrev es : List Entry
    es = entries names lens scores

    module _ (h : i < length lens) where
      -- the row in its place of rank
      abbrev row : ℕ
      row = get_or (take (length lens) order) i 0

      row_is : row ≡ get_or order i 0
      row_is = get_or-take (length lens) order i 0 h

      pub row_low : row < length lens
      row_low = rw row_is (r.inside i h)

      -- the row's bytes, as the code takes them
      abbrev bytes : List ℕ
      bytes = take (row * longest_name + longest_name - row * longest_name) (drop (row * longest_name) names)

      pub row_fits : row * longest_name + longest_name ≤ length names
      row_fits = row_inside names lens scores z row row_low

      pub row_long : length bytes ≡ longest_name
      row_long =
          ap length (part_bytes names (row * longest_name) longest_name)
          ∙ length-take-le longest_name (drop (row * longest_name) names)
          (omega (arith, row_fits, length-drop (row * longest_name) names))

      -- the entry of that row
      abbrev here : Entry
      here = entry (take (get_or lens row 0) bytes) (get_or scores row 0)

      here_is : at (by_rank es) i ≡ here
      here_is =
          rank_at r l i h
          ∙ ap (at es) (sym row_is)
          ∙ entries_at names lens scores row row_low
          ∙ ap (λ w. entry w (get_or scores row 0))
          (sym
          (ap (take (get_or lens row 0)) (part_bytes names (row * longest_name) longest_name)
          ∙ take-take (get_or lens row 0) longest_name (drop (row * longest_name) names) (z.short row row_low)))

      page_next :
          concat_map on_page (drop i (by_rank es)) ≡ on_page here ++ concat_map on_page (drop (suc i) (by_rank es))
      page_next =
          ap (concat_map on_page)
          (drop-cons (by_rank es) i no_entry
          (omega (arith, sort-length outranks es, entries-length names lens scores)))
          ∙ ap (λ e. on_page e ++ concat_map on_page (drop (suc i) (by_rank es))) here_is

      pub page_room : length (page_image es) ≤ length dst₀ → to + length (on_page here) ≤ length dst
      page_room f =
          omega (
            arith,
            k.ends,
            k.long,
            ap length page_next,
            length-append (on_page here) (concat_map on_page (drop (suc i) (by_rank es))),
          )

      pub page_turn : {end : ℕ} {out : List ℕ} → Printed dst to (on_page here) end out → Paging es dst₀ out end (i + 1)
      page_turn {end} {out} p =
          let more = concat_map on_page (drop (suc i) (by_rank es)) in
          let on : sets out end more ≡ sets dst to (on_page here ++ more) =
          rw (p.stored, p.ends) (sets-append dst (on_page here) more to)
          in
          record {
            upto = omega (arith, entries-length names lens scores);
            long = put_size p ∙ k.long;
            left = rw (add-one i) (on ∙ ap (sets dst to) (sym page_next) ∙ k.left);
            ends =
                rw (add-one i)
                (omega (arith, p.ends, ap length page_next, length-append (on_page here) more, k.ends));
          }

    pub page_end :
        (buf : List ℕ) → length (page_image es) ≤ length buf → dst₀ ≡ sets buf 0 (ended heading) → length lens ≤ i
        → dst ≡ overwrite buf (page_image es)
    page_end buf f e h =
        let rows = concat_map on_page (by_rank es) in
        let z = drop_of_length-le (by_rank es) {i = i}
        (omega (arith, sort-length outranks es, entries-length names lens scores)) in
        (rw z at k.left)
        ∙ ap (λ d. sets d line_bytes rows) e
        ∙ ap (λ n. sets (sets buf 0 (ended heading)) n rows) (sym heading_bytes)
        ∙ sets-append buf (ended heading) rows 0
        ∙ ap (sets buf 0) (sym (page_split es))
        ∙ sets-overwrite buf (page_image es) f

-- the scores of a table are its entries'
pub table-scores : (names lens scores : List ℕ) → Scores (entries names lens scores) (length lens) scores
table-scores names lens scores p h = sym (ap (λ e. e.score) (entries_at names lens scores p h))

-- the bytes of entries given one by one, by the lengths of their names
lines_size :
    (f : ℕ → Entry) (i : ℕ) (lens : List ℕ)
    → ((p : ℕ) → p < length lens → (length (f (i + p)).name ≡ get_or lens p 0) × (1 ≤ get_or lens p 0))
    → length (concat_map on_page (map f (count_from i (length lens)))) ≡ line_bytes * lines_of lens
lines_size f i [] h = refl
lines_size f i (l ∷ lens) h =
    let z : i + 0 ≡ i = omega arith in
    let a : (length (f i).name ≡ l) × (1 ≤ l) = rw z at (h 0 (omega arith)) in
    let later = lines_size f (suc i) lens
    (λ p k. rw (let y : suc i + p ≡ i + suc p = omega arith in y) (h (suc p) (omega arith))) in
    omega (
      arith,
      length-append (on_page (f i)) (concat_map on_page (map f (count_from (suc i) (length lens)))),
      full_bytes (entry_lines (f i)) (entry-full (f i)),
      lines_many (f i) (omega (arith, a.0, a.1)),
      a.0,
    )

-- the page of a table's entries is as long as its lengths say
pub size_is :
    (names lens scores : List ℕ) → Table names lens scores → valid (entries names lens scores) ≡ true
    → page_bytes lens ≡ length (page_image (entries names lens scores))
unfolding page_bytes entries
size_is names lens scores z ok =
    let es = entries names lens scores in
    let v = valid_of es ok in
    let low = entries-length names lens scores in
    omega (
      arith,
      page_size es,
      lines_size (row_at names lens scores) 0 lens
          (λ p h.
          let r = row_length_lem names lens scores z p h in
          let y : 0 + p ≡ p = omega arith in
          let named = at_all (λ e. is_name e.name) no_entry es v.allowed p (omega arith) in (
            ap (λ i. length (row_at names lens scores i).name) y
                ∙ ap (λ e. length e.name) (sym (entries_at names lens scores p h)) ∙ r,
            omega (arith, r, name_some (at es p).name named),
          )),
    )
