-- What a page shows: the heading and the lines of each entry, once each, in rank; in them the name and the score.
use Prim.Native.Nat.{◌+◌, ◌-◌, ◌^◌, ◌≤◌, suc, zero, ℕ}
use mathlib.Core.Path.{◌∙◌, ◌≡◌, ap, refl}
use mathlib.Core.Bool.{true}
use mathlib.Core.List.{List, [], ◌++◌, ◌∷◌, append_assoc, append-nil, map}
use mathlib.Core.Option.{some}
use lib.Dec.{leb}
use lib.ListN.{drop, length, length-append, length-drop, length-take, take, take-append-drop}
use lib.Seq.{drop_at, length-take-le, take_all, take-append-add, take_at}
use native.Mathlib.Omega.{arith}
use borrow.Author.Tests.{le-ltb, leb-false, leb-true, ltb-true, ne_eqb}
use Rattle.octets.specs.Decimal.{decimal, value_on}
use Rattle.octets.specs.Lists.{all, concat_map}
use Rattle.octets.specs.Octets.{same}
use Rattle.octets.proofs.Decimal.{decimal-digits, decimal_value}
use Rattle.octets.proofs.Lists.{all_in, in_sort, sort_in}
use Rattle.octets.proofs.Tests.{and_true_both, by_test}
use Rattle.entries.specs.Entries.{Entry, by_rank, outranks, valid}
use Rattle.entries.specs.Names.{is_name, is_score}
use Rattle.entries.proofs.TopK.{in_rank_lem}
use Rattle.entries.proofs.Valid.{name_some, valid_of}
use Rattle.answer.specs.Answers.{writing, writing_image}
use Rattle.book.proofs.Checks.{read_not_old}
use Rattle.page.specs.Page.{ended, entry_lines, first_line, further_line, heading, name_columns, padded, page_columns}
use Rattle.page.specs.Page.{page_image, page_lines, parts, parts_to, right_aligned, score_columns, spaces, write_page}
use Rattle.page.specs.Shows.{EntryShown, PageShows, behind_spaces, number_in}
use Rattle.page.proofs.Lines.{full_bytes, length-padded, lines_many, page_full, part_short}

-- the name columns of lines, joined: one part more in front of what they give of the rest
join_part : (w rest : List ℕ) → take (length (drop name_columns w)) rest ≡ drop name_columns w
    → take (length w) (padded name_columns (take name_columns w) ++ rest) ≡ w
join_part w rest h =
    by_test (leb (length w) name_columns)
    (λ t.
    let l = leb-true (length w) name_columns t in
    let a = take_all name_columns w l in
    rw (a, append_assoc w (spaces (name_columns - length w)) rest)
    (take_at w (spaces (name_columns - length w) ++ rest) (length w) refl))
    (λ t.
    let g = leb-false (length w) name_columns t in
    let l : length (take name_columns w) ≡ name_columns = length-take-le name_columns w (omega arith) in
    let z : name_columns - length (take name_columns w) ≡ 0 = omega arith in
    let k : length w ≡ length (take name_columns w) + length (drop name_columns w) =
    omega (arith, length-drop name_columns w) in
    ap (λ x. take (length w) (take name_columns w ++ spaces x ++ rest)) z
    ∙ rw (append-nil (take name_columns w))
    (ap (λ n. take n (take name_columns w ++ rest)) k
    ∙ take-append-add (take name_columns w) rest (length (drop name_columns w))
    ∙ ap (λ r. take name_columns w ++ r) h
    ∙ take-append-drop name_columns w))

-- the name columns of a further line, and of a first one
further_columns : (w : List ℕ) → length w ≤ name_columns → take name_columns (further_line w) ≡ padded name_columns w
unfolding further_line
further_columns w h = take_at (padded name_columns w) (spaces 12) name_columns (length-padded name_columns w h)

first_columns : (e : Entry) → take name_columns (first_line e) ≡ padded name_columns (take name_columns e.name)
unfolding first_line
first_columns e =
    let p = padded name_columns (take name_columns e.name) in
    let s = right_aligned score_columns (decimal e.score) in
    ap (take name_columns) (append_assoc p (spaces 2) s)
    ∙ take_at p (spaces 2 ++ s) name_columns
    (length-padded name_columns (take name_columns e.name) (part_short e.name))

parts-joined : (k : ℕ) (w : List ℕ) → length w ≤ k
    → take (length w) (concat_map (take name_columns) (map further_line (parts_to k w))) ≡ w
parts-joined zero [] h = refl
parts-joined zero (b ∷ w) h = absurd (omega arith)
parts-joined (suc k) [] h = refl
parts-joined (suc k) (b ∷ w) h =
    let rest = drop name_columns (b ∷ w) in
    rw (further_columns (take name_columns (b ∷ w)) (part_short (b ∷ w)))
    (join_part (b ∷ w) (concat_map (take name_columns) (map further_line (parts_to k rest)))
    (parts-joined k rest (omega (arith, length-drop name_columns (b ∷ w)))))

name_joined : (e : Entry) → take (length e.name) (concat_map (take name_columns) (entry_lines e)) ≡ e.name
unfolding entry_lines parts
name_joined e =
    let rest = drop name_columns e.name in
    rw (first_columns e)
    (join_part e.name (concat_map (take name_columns) (map further_line (parts_to (length rest) rest)))
    (parts-joined (length rest) rest (omega arith)))

-- a right-aligned number read
behind_digits : (bs : List ℕ) → all (leb 48) bs ≡ true → behind_spaces bs ≡ bs
behind_digits [] h = refl
behind_digits (b ∷ bs) h =
    let a = leb-true 48 b (and_true_both (leb 48 b) (all (leb 48) bs) h).0 in
    rw (ne_eqb b 0x20 (λ e. absurd (omega arith)))

behind_spaces_lem : (n : ℕ) (bs : List ℕ) → behind_spaces (spaces n ++ bs) ≡ behind_spaces bs
behind_spaces_lem zero bs = refl
behind_spaces_lem (suc n) bs = behind_spaces_lem n bs

score_read : (e : Entry) → is_score e.score ≡ true
    → number_in (drop (page_columns - score_columns) (first_line e)) ≡ e.score
unfolding first_line is_score
score_read e h =
    let p = padded name_columns (take name_columns e.name) in
    let d = decimal e.score in
    let l : length (p ++ spaces 2) ≡ page_columns - score_columns =
    length-append p (spaces 2)
    ∙ omega (arith, length-padded name_columns (take name_columns e.name) (part_short e.name))
    in
    ap number_in (drop_at (p ++ spaces 2) (right_aligned score_columns d) (page_columns - score_columns) l)
    ∙ ap (value_on 0) (behind_spaces_lem (score_columns - length d) d ∙ behind_digits d (decimal-digits e.score))
    ∙ decimal_value e.score (omega (arith, ltb-true e.score (2 ^ 32) h))

only_first_lem : (k : ℕ) (w : List ℕ)
    → all (λ l. same (drop name_columns l) (spaces 12)) (map further_line (parts_to k w)) ≡ true
unfolding further_line
only_first_lem zero w = refl
only_first_lem (suc k) [] = refl
only_first_lem (suc k) (b ∷ w) =
    let p = take name_columns (b ∷ w) in
    rw (drop_at (padded name_columns p) (spaces 12) name_columns (length-padded name_columns p (part_short (b ∷ w))))
    (only_first_lem k (drop name_columns (b ∷ w)))

entry-shown : (e : Entry) → is_name e.name ≡ true → is_score e.score ≡ true → EntryShown e
unfolding entry_lines parts
entry-shown e n s =
    let rest = drop name_columns e.name in
    record {
      many = lines_many e (name_some e.name n);
      name = name_joined e;
      score = score_read e s;
      only_first = only_first_lem (length rest) rest;
    }

-- the lines of a page, and the page, as they are defined
lines_are : (es : List Entry) → page_lines es ≡ heading ∷ concat_map entry_lines (by_rank es)
unfolding page_lines
lines_are es = refl

image_is : (es : List Entry) → page_image es ≡ concat_map ended (page_lines es)
unfolding page_image
image_is es = refl

pub page_shows_lem : (es : List Entry) → valid es ≡ true → PageShows es
unfolding write_page writing_image writing
page_shows_lem es ok =
    let v = valid_of es ok in
    record {
      printed = by_rank es;
      lines = lines_are es;
      ranked = in_rank_lem es v.order;
      among = λ e m. sort_in outranks e es m;
      each = λ e m. in_sort outranks e es m;
      shown = λ e m. entry-shown e (all_in (λ x. is_name x.name) e es v.allowed m)
          (all_in (λ x. is_score x.score) e es v.fits m);
      forty = page_full es;
      image = image_is es;
      bytes = ap length (image_is es) ∙ full_bytes (page_lines es) (page_full es);
      laid_out = λ book dst r h. rw (read_not_old book (rw r), r, le-ltb (length dst) (length (page_image es)) h);
    }
