-- A book moved from any layout to any other, and by its byte 0.
use Prim.Native.Nat.{◌≤◌, ℕ}
use mathlib.Core.Path.{◌∙◌, ◌≡◌, ap, sym}
use mathlib.Core.Bool.{◌||◌, false, false≢true, true}
use mathlib.Core.List.{List, [], ◌++◌}
use mathlib.Core.Option.{some}
use lib.ListN.{drop, length}
use borrow.Author.Tests.{le-ltb}
use Rattle.octets.specs.Octets.{overwrite}
use Rattle.octets.proofs.Tests.{by_test}
use Rattle.entries.specs.Entries.{Entry, valid}
use Rattle.entries.proofs.BestList.{best_list_lem}
use Rattle.entries.proofs.Valid.{valid_of}
use Rattle.frame.specs.Frame.{is_read}
use Rattle.frame.proofs.Frame.{read_of}
use Rattle.answer.specs.Answers.{given, writing, writing_image}
use Rattle.answer.proofs.Converting.{converted, round_trip_lem}
use Rattle.book.specs.declared.Layout.{Layout}
use Rattle.book.specs.Book.{book_image, image_in, is_book_in, layout21, layout22, read_book, read_in, today}
use Rattle.book.specs.Checks.{is_old}
use Rattle.book.proofs.Checks.{read_not_old, read_old}
use Rattle.book.proofs.Reading.{exact_in, read_book_of}
use Rattle.completion.specs.Complete.{complete_book, complete_in}
use Rattle.completion.proofs.Layouts.{completes_today_lem}
use Rattle.ledger.proofs.Demand.{offers_best_lem}
use Rattle.convert.specs.Convert.{convert_book, convert_in, read_as_in}
use Rattle.convert.specs.Moved.{Moved, Moves}

-- by byte 0: up, or back
pub goes_up : (book dst : List ℕ) → is_old book ≡ true → convert_book book dst ≡ convert_in layout21 layout22 book dst
unfolding convert_book
goes_up book dst t = rw t

pub goes_back : (book dst : List ℕ) → is_old book ≡ false → convert_book book dst ≡ convert_in layout22 layout21 book dst
unfolding convert_book
goes_back book dst t = rw t

-- a book in either version is read by its byte 0, so that only what is laid out as neither is refused 1
pub read_either : (book : List ℕ) → is_book_in (read_as_in book) book ≡ (is_book_in layout21 book || is_book_in layout22 book)
read_either book =
    by_test (is_old book)
    (λ t.
    by_test (is_book_in layout22 book)
    (λ u. absurd (false≢true (sym (read_not_old book u) ∙ t)))
    (λ u. rw (t, u) (by_test (is_book_in layout21 book) (λ w. rw w) (λ w. rw w))))
    (λ t.
    by_test (is_book_in layout21 book)
    (λ u. absurd (false≢true (sym t ∙ read_old book u)))
    (λ u. rw (t, u)))

-- the image written, in any two layouts
module _ (l m : Layout) (book : List ℕ) (es : List Entry) (d : List ℕ) (r : read_in l book ≡ some es)
    (room : length (image_in m es) ≤ length d) where
  ok : valid es ≡ true
  ok = ((exact_in l).sound es book r).0

  told_in : (convert_in l m book d).answer ≡ given (record { entries = length es; bytes = length (image_in m es) })
  unfolding writing_image writing
  told_in = rw (r, le-ltb (length d) (length (image_in m es)) room)

  left_in : (convert_in l m book d).dest ≡ overwrite d (image_in m es)
  left_in = converted (read_in l) (image_in m) book d es r room

  holds_in : read_in m (overwrite d (image_in m es)) ≡ some es
  holds_in = read_of (read_in m) (image_in m) (exact_in m) es (drop (length (image_in m es)) d) ok

  -- the book of today that holds the same entries offers the same
  abbrev fresh : List ℕ
  fresh = book_image es ++ []

  fresh_read : read_book fresh ≡ some es
  fresh_read = read_book_of es [] ok

  offered : (p : List ℕ) (k : ℕ) (dst : List ℕ) (ranges : ℕ)
      → complete_in l book p k dst ranges ≡ complete_book fresh p k dst ranges
  offered p k dst ranges =
      let same : complete_in l book p k dst ranges ≡ complete_in today fresh p k dst ranges = rw (r, fresh_read) in
      same ∙ sym (completes_today_lem fresh p k dst ranges (read_not_old fresh (ap is_read fresh_read)))

  -- where the call goes this way, and back from there
  module _ (there : convert_book book d ≡ convert_in l m book d)
      (back : (d' : List ℕ) → convert_book (overwrite d (image_in m es)) d' ≡ convert_in m l (overwrite d (image_in m es))
      d')
    where
      dest_is : (convert_book book d).dest ≡ overwrite d (image_in m es)
      dest_is = ap (λ o. o.dest) there ∙ left_in

      pub moved : Moved l m book es d
      moved =
          record {
            told = ap (λ o. o.answer) there ∙ told_in;
            left = dest_is;
            holds = rw dest_is holds_in;
            round_trip = λ d' h.
                rw (dest_is, back d', ← left_in)
                (round_trip_lem (read_in l) (image_in l) (read_in m) (image_in m) (exact_in l) (exact_in m) book d d' es r room
                h);
            same_offers = λ p k dst ranges. rw (dest_is, holds_in, r);
            offers = λ p k dst ranges hp lo hi long enough.
                offered p k dst ranges ∙ (offers_best_lem es fresh fresh_read ok).offers p k dst ranges hp lo hi long enough;
            best_list = λ p k. best_list_lem es p k (valid_of es ok).order;
          }

pub moves : Moves
moves =
    record {
      up = λ book es d r room.
          moved layout21 layout22 book es d r room (goes_up book d (read_old book (ap is_read r)))
          (λ d'. goes_back _ d' (read_not_old _ (ap is_read (holds_in layout21 layout22 book es d r room))));
      back = λ book es d r room.
          moved layout22 layout21 book es d r room (goes_back book d (read_not_old book (ap is_read r)))
          (λ d'. goes_up _ d' (read_old _ (ap is_read (holds_in layout22 layout21 book es d r room))));
    }
