-- A whole book passed into another layout, record by record: to pass the entries that are left gives what to pass all
-- of them gives.
use Prim.Native.Nat.{◌+◌, ◌<◌, ◌≤◌, ℕ}
use mathlib.Core.Path.{◌∙◌, ◌≡◌, ap, refl}
use mathlib.Core.Bool.{Bool, true}
use mathlib.Core.List.{List, [], ◌++◌, ◌∷◌}
use lib.ListN.{drop, drop_of_length-le, length}
use lib.Seq.{drop-cons}
use native.Mathlib.Numerals.{add-one}
use native.Mathlib.Omega.{arith}
use Rattle.octets.specs.Octets.{overwrite}
use Rattle.entries.specs.Entries.{Entry, at, no_entry}
use Rattle.entries.specs.Names.{longest_name}
use Rattle.book.specs.declared.Layout.{Layout}
use Rattle.book.specs.Book.{image_in, in_book_in, records_at}
use Rattle.book_laws.specs.Ahead.{AheadIn}
use Rattle.book_laws.specs.Cursor.{cursor_of}
use Rattle.book_laws.specs.Held.{HeldIn}
use Rattle.book_laws.proofs.Ahead.{ahead_first}
use Rattle.book_laws.proofs.Held.{held_stored}
use Rattle.book_write.specs.Writing.{finished}
use Rattle.book_write.proofs.Calls.{start_partial}
use Rattle.book_write.proofs.Partial.{Partial}
use Rattle.book_append.specs.Append.{BookDone, Fits, after_pass}
use Rattle.book_append.proofs.Book.{first, rest_whole, whole_end, whole_fits}
use Rattle.book_append.proofs.Left.{Left, all_passed, next_fits, rest_left}
use Rattle.convert_write.specs.Passing.{RecordPassed, RecordReady}
use Rattle.convert_write.specs.declared.Passed.{Passed}

-- The next record of the book stands at index k, at position i, behind the name in the first len bytes of name; its
-- entry and those behind it are left to be put, the next record at index m.
pub record Going (l to : Layout) (store : Bool) (n : ℕ) (book d₀ name : List ℕ) (len k m i : ℕ) (d : List ℕ) : Type 0
  where
    pub held : HeldIn l book n
    pub long : length name ≡ longest_name
    pub ahead : AheadIn l (in_book_in l book) book (cursor_of k i name len)
    pub left :
        Left to store n (first to (in_book_in l book)) (in_book_in l book) d₀ (cursor_of m i name len)
        (drop i (in_book_in l book)) d

module _ (to : Layout) {l : Layout} {store : Bool} {n : ℕ} {book d : List ℕ}
    (b : HeldIn l book n) (enough : store ≡ true → length (image_in to (in_book_in l book)) ≤ length d) where
  pub going_start :
      {k m : ℕ} (name : List ℕ) → length name ≡ longest_name → k ≡ records_at l n → m ≡ records_at to n
      → Going l to store n book d name 0 k m 0 d
  going_start {k} {m} name long e q =
      let es = in_book_in l book in
      let s = held_stored b in
      let f : Fits to store n (first to es) es d = whole_fits to es s.ok d b.count enough in
      let z : m ≡ records_at to (length es) = q ∙ ap (records_at to) b.count in
      record {
        held = b;
        long = long;
        ahead = ahead_first l book es s (cursor_of k 0 name 0) (e ∙ ap (records_at l) b.count) refl refl;
        left = rw z
            (record {
              same_length = refl;
              fits = record {
                few = f.few;
                low = f.low;
                small = f.small;
                allowed = f.allowed;
                near = f.near;
                enough = f.enough;
              };
              whole = λ a.
                  record {
                    bytes = a.bytes;
                    went = record {
                      index = a.went.index;
                      end = a.went.end;
                      name = a.went.name;
                      small = a.went.small;
                    };
                  };
            });
      }

module _ {l to : Layout} {store : Bool} {n : ℕ} {book d₀ name : List ℕ} {len k m i : ℕ} {d : List ℕ}
    (g : Going l to store n book d₀ name len k m i d) where
  abbrev all : List Entry
  all = in_book_in l book

  -- nothing is left
  pub going_end : n ≤ i → (store ≡ true → length (image_in to all) ≤ length d₀) → BookDone to store all d₀ d m
  going_end h enough =
      let none : drop i all ≡ [] = drop_of_length-le all {i = i} (omega (arith, g.held.count)) in
      let p = all_passed g.left none in
      let ok = (held_stored g.held).ok in
      record {
        bytes = λ t.
            let e : d ≡ after_pass to true (length all) (first to all) all d₀ = rw (t, g.held.count) at p.bytes in
            let half : Partial to all d₀ (first to all) d₀ = start_partial to all d₀ refl (enough t)
            (record { at = refl; index = refl; len = refl }) in
            rest_whole to all ok half e;
        end = p.went.end ∙ whole_end to all ok;
      }

  -- one turn
  module _ (h : i < n) where
    abbrev this : List Entry
    this = at all i ∷ []

    split : drop i all ≡ this ++ drop (i + 1) all
    split = rw (add-one, drop-cons all i no_entry (omega (arith, g.held.count)))

    pub going_ready :
        RecordReady book (record { layout = l; at = k; len = len }) name d
        (record { slot = record { layout = to; n = n; index = i; at = m }; store = store })
    going_ready =
        record {
          held = g.held;
          low = h;
          long = g.long;
          ahead = g.ahead;
          fits = next_fits g.left this (drop (i + 1) all) split;
        }

    pub going_turn :
        {new left : List ℕ} {r : Passed} → length new ≡ length name
        → RecordPassed book (record { layout = l; at = k; len = len }) name new d left
        (record { slot = record { layout = to; n = n; index = i; at = m }; store = store }) r
        → Going l to store n book d₀ new r.len r.read r.written (i + 1) left
    going_turn same p =
        record {
          held = g.held;
          long = same ∙ g.long;
          ahead = p.ahead;
          left = rest_left g.left this (drop (i + 1) all) split p.done;
        }

-- once all are put, finishing gives the image
pub filled :
    (to : Layout) {l : Layout} {n r : ℕ} {book d new left : List ℕ} → HeldIn l book n
    → BookDone to true (in_book_in l book) d new r → left ≡ finished to r n new
    → left ≡ overwrite d (image_in to (in_book_in l book))
filled to b p f = f ∙ rw (p.end, b.count) (p.bytes refl)
