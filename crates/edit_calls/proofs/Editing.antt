-- Set and withdraw: from the search for the name, and the book that was written, to document 01's edits.
use Prim.Native.Nat.{◌<◌, ◌≤◌, ℕ}
use mathlib.Core.Path.{◌∙◌, ◌≡◌, ap, refl, sym}
use mathlib.Core.Bool.{false, true}
use mathlib.Core.List.{List}
use lib.ListN.{length}
use borrow.Author.Tests.{le-leb, lt-leb}
use Rattle.entries.specs.Entries.{Entry, entry, holds, max_entries, names, position, rising, with, without}
use Rattle.entries.specs.Names.{is_name}
use Rattle.answer.specs.Answers.{writing, writing_image}
use Rattle.book.specs.Book.{book_image, in_book, is_book, records_at, today}
use Rattle.book.specs.Checks.{is_old}
use Rattle.book.proofs.Checks.{read_not_old}
use Rattle.book_laws.specs.Held.{Held}
use Rattle.book_laws.proofs.Held.{held-valid}
use Rattle.book_seek.specs.Seek.{Seeking}
use Rattle.book_seek.specs.declared.Seek.{Seek}
use Rattle.book_check.specs.Checked.{Declined}
use Rattle.book_check.proofs.Refusing.{refused_image}
use Rattle.edit.specs.Edits.{set_entry, set_refusals, withdraw_entry, withdraw_refusals}
use Rattle.edit_copy.specs.Asked.{Adds, Sought, Withdraws}
use Rattle.edit_rescore.specs.Rescored.{rescored}
use Rattle.edit_rescore.proofs.Rescored.{rescored-with}
use Rattle.answer.specs.Reports.{Answered, finding}
use Rattle.book_write.specs.Whole.{whole_book}
use Rattle.lookup.specs.Lookups.{found_in}
use Rattle.lookup_find.specs.Finding.{found_at}
use Rattle.lookup_find.proofs.Finding.{found_entry, found_is, found_not, gap_there, held_there}
use Rattle.answer.proofs.Answers.{answered_as}
use Rattle.answer.specs.declared.Found.{Found}
use Rattle.answer.specs.declared.Refusal.{Refusal}
use Rattle.answer.specs.declared.Refusal.TheVariants as refusal
use Rattle.answer.specs.declared.Size.{Size}
use Rattle.std.specs.Prelude.{Err, None, Option, Result, Some}

-- the book is refused
module _ {book : List ℕ} {r : Refusal} (c : Declined book r) (w dst : List ℕ) where
  pub set-refused : (s : ℕ) → Answered (set_entry book w s dst) (Err r) dst
  unfolding set_entry
  set-refused s =
      let result = with (entry w s) (in_book book) in
      answered_as (refused_image c (set_refusals w (in_book book)) result (book_image result) dst)
      (record { answer = refl; left = refl })

  pub withdraw_refused : Answered (withdraw_entry book w dst) (Err r) dst
  unfolding withdraw_entry
  withdraw_refused =
      let result = without w (in_book book) in
      answered_as (refused_image c (withdraw_refusals w (in_book book)) result (book_image result) dst)
      (record { answer = refl; left = refl })

module _ (b w dst : List ℕ) (h : is_book b ≡ true) where
  abbrev es : List Entry
  es = in_book b

  new : is_old b ≡ false
  new = read_not_old b h

  -- the name is not allowed
  pub set_unnamed : is_name w ≡ false → (s : ℕ) → Answered (set_entry b w s dst) (Err refusal.NotAllowed) dst
  unfolding set_entry writing_image writing
  set_unnamed t s = record { answer = rw (new, h, t); left = rw (new, h, t) }

  pub withdraw_unnamed : is_name w ≡ false → Answered (withdraw_entry b w dst) (Err refusal.NotAllowed) dst
  unfolding withdraw_entry writing_image writing
  withdraw_unnamed t = record { answer = rw (new, h, t); left = rw (new, h, t) }

  module _
      (k : is_name w ≡ true) {s : Seek}
      (f : Seeking w (records_at today (length (in_book b))) (names (in_book b)) s)
    where
      sought : {n : ℕ} → n ≡ length (in_book b) → Sought today b n w s
      sought c = record { off = refl; held = record { is_it = h; count = c }; found = rw c f }

      -- it was found
      module _ (t : s.same ≡ true) where
        sorted : rising (in_book b) ≡ true
        sorted = let c : Held b (length (in_book b)) = record { is_it = h; count = refl } in (held-valid c).order

        there : (holds w es ≡ true) × (s.place ≡ position w es)
        there = held_there b w h f t

        pub held-set :
            {fs : List Entry} → fs ≡ in_book b → (v : ℕ) {r : Result Size Refusal} {left : List ℕ}
            → Answered (whole_book (rescored fs s.place v) dst) r left
            → Answered (set_entry b w v dst) r left
        unfolding set_entry writing_image writing
        held-set m v a =
            let e : rescored es s.place v ≡ with (entry w v) es = rw there.1 (rescored-with w v es sorted there.0) in
            let c : set_entry b w v dst ≡ whole_book (with (entry w v) es) dst = rw (new, h, k, there.0) in
            answered_as (c ∙ ap (λ l. whole_book l dst) (sym e)) (rw m at a)

      -- it was not, in a book of n entries
      module _ (t : s.same ≡ false) {n : ℕ} (m : n ≡ length (in_book b)) where
        absent : holds w es ≡ false
        absent = gap_there b w h f t

        pub set_full : (v : ℕ) → max_entries ≤ n → Answered (set_entry b w v dst) (Err refusal.Full) dst
        unfolding set_entry writing_image writing
        set_full v l =
            let z = le-leb max_entries (length es) (rw m at l) in
            record { answer = rw (new, h, k, absent, z); left = rw (new, h, k, absent, z) }

        pub new_asked : n < max_entries → Adds today b n w s
        new_asked l = record { sought = sought m; allowed = k; absent = absent; room = l }

        pub new_set : (v : ℕ) → n < max_entries → {r : Result Size Refusal} {left : List ℕ}
            → Answered (whole_book (with (entry w v) es) dst) r left
            → Answered (set_entry b w v dst) r left
        unfolding set_entry writing_image writing
        new_set v l a =
            let z = lt-leb max_entries (length es) (rw m at l) in
            let c : set_entry b w v dst ≡ whole_book (with (entry w v) es) dst = rw (new, h, k, absent, z) in
            answered_as c a

      -- a withdrawal, by what finding answers among its entries
      module _ {fs : List Entry} (m : fs ≡ in_book b) (a : Option Found) (e : finding a ≡ found_at b s) where
        is_found : finding a ≡ found_in w es
        is_found = e ∙ found_is b w h f

        pub not_held : a ≡ None → Answered (withdraw_entry b w dst) (Err refusal.NotHeld) dst
        unfolding withdraw_entry writing_image writing
        not_held q =
            let t = found_not w es (ap finding (sym q) ∙ is_found) in
            record { answer = rw (new, h, k, t); left = rw (new, h, k, t) }

        module _ {x : Found} (q : a ≡ Some x) where
          present : holds w es ≡ true
          present = (found_entry w es {f = x} (ap finding (sym q) ∙ is_found)).0

          pub gone-asked : {n : ℕ} → n ≡ length fs → Withdraws today b n w s
          gone-asked c = record { sought = sought (c ∙ ap length m); present = present }

          pub gone : {r : Result Size Refusal} {left : List ℕ} → Answered (whole_book (without w es) dst) r left
              → Answered (withdraw_entry b w dst) r left
          unfolding withdraw_entry writing_image writing
          gone y =
              let c : withdraw_entry b w dst ≡ whole_book (without w es) dst = rw (new, h, k, present) in
              answered_as c y
