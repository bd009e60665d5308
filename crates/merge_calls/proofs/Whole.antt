-- The entries chosen from two books are those of a book, where they are few enough: a pass over all of them, finished,
-- is the image.
use Prim.Native.Nat.{◌+◌, ◌≤◌, ℕ}
use mathlib.Core.Path.{◌∙◌, ◌≡◌, refl, sym}
use mathlib.Core.Bool.{false, false≢true, true}
use mathlib.Core.List.{List, []}
use lib.ListN.{length, length-take, take}
use lib.Seq.{take_all, take-length}
use native.Mathlib.Omega.{arith}
use borrow.Author.Tests.{ltb-false}
use Rattle.octets.specs.Lists.{all}
use Rattle.octets.specs.Octets.{overwrite}
use Rattle.octets.proofs.Lists.{all_take}
use Rattle.entries.specs.Entries.{Entry, is_entry, max_entries, rising, valid}
use Rattle.entries.proofs.Valid.{rising-take, valid-all, valid_intro, valid_of}
use Rattle.book.specs.Book.{book_image, records_at, today}
use Rattle.book.proofs.Size.{book_length_lem}
use Rattle.book_write.specs.Writing.{finished}
use Rattle.book_write.proofs.Calls.{start_partial}
use Rattle.book_write.proofs.Partial.{Partial}
use Rattle.book_append.specs.Append.{after_pass, cursor_behind}
use Rattle.book_append.proofs.Book.{first, rest_whole, whole_end, whole_fits}
use Rattle.merge.specs.Joined.{joined}
use Rattle.merge.proofs.Joined.{joined-all, joined-rising, joined-valid}
use Rattle.merge_calls.specs.Merging.{Both, PassDone, PassRoom, PassTold, records_length}
use Rattle.merge_calls.specs.declared.MergePass.{MergePass}

module _ {one other : List Entry} (b : Both one other) where
  allowed : all is_entry (joined one other) ≡ true
  allowed =
      joined-all one other (valid-all one b.one) (valid-all other b.other)

  order : rising (joined one other) ≡ true
  order = joined-rising one other (valid_of one b.one).order (valid_of other b.other).order

  -- the first of them
  front-valid : {count : ℕ} → count ≤ max_entries → valid (take count (joined one other)) ≡ true
  front-valid {count} h =
      let es = joined one other in
      valid_intro (take count es) (rw length-take (omega arith)) (all_take is_entry count es allowed)
      (rising-take count es order)

  -- a pass that measures them
  pub measure_room : {d : List ℕ} {count : ℕ} → count ≤ max_entries → PassRoom (joined one other) d count 0 false
  measure_room {count = count} h =
      let es = take count (joined one other) in
      let v = valid_of es (front-valid h) in
      let l = book_length_lem today es (front-valid h) in
      let w = whole_end today es (front-valid h) in
      let k = length-take count (joined one other) in
      record {
        fits = record {
          few = omega arith;
          low = omega arith;
          small = omega arith;
          allowed = v.allowed;
          near = omega arith;
          enough = λ t. absurd (false≢true t);
        };
      }

  -- all of them
  module _ {count size : ℕ} (few : count ≤ max_entries) (many : count ≡ length (joined one other))
      (long : size ≡ records_length (joined one other)) where
    ok : valid (joined one other) ≡ true
    ok = joined-valid one other b.one b.other (omega arith)

    every : take count (joined one other) ≡ joined one other
    every = rw many (take-length (joined one other))

    module _ {start : ℕ} (s : start ≡ records_at today count) where
      pub whole_length : start + size ≡ length (book_image (joined one other))
      whole_length = rw (s, long, many) (whole_end today (joined one other) ok)

      pub whole_small : start + size ≤ 55559
      whole_small = omega (arith, whole_length, book_length_lem today (joined one other) ok)

      at_first : cursor_behind start 0 [] ≡ first today (joined one other)
      at_first = rw (s, many)

      -- a pass that writes them, and what finishing it gives
      module _ {d : List ℕ} (room : start + size ≤ length d) where
        pub write_room : PassRoom (joined one other) d count start true
        write_room =
            record {
              fits = rw (every, at_first) (whole_fits today (joined one other) ok d many
                  (λ t. omega (arith, whole_length)));
            }

        pub whole_image :
            {new : List ℕ} {r : MergePass} → PassDone (joined one other) d new count start true r
            → finished today (start + size) count new ≡ overwrite d (book_image (joined one other))
        whole_image {new} q =
            let es = joined one other in
            let e : new ≡ after_pass today true (length es) (first today es) es d = rw (every, s, many) at q.bytes in
            let half : Partial today es d (first today es) d =
            start_partial today es d refl (omega (arith, whole_length)) (record { at = refl; index = refl; len = refl })
            in
            rw (whole_length, many) (rest_whole today es ok half e)

-- a measuring pass with none left has passed all
module _ {es : List Entry} {r : MergePass} (c : PassTold es max_entries 0 r) (t : r.more ≡ false) where
  pub counted_few : length es ≤ max_entries
  counted_few = ltb-false max_entries (length es) (sym c.more ∙ t)

  whole : take max_entries es ≡ es
  whole = take_all max_entries es counted_few

  pub counted_all : r.entries ≡ length es
  counted_all = c.entries ∙ rw whole

  pub counted_size : r.end ≡ records_length es
  counted_size = let e : r.end ≡ 0 + records_length es = rw whole at c.end in omega arith
