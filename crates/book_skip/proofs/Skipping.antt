-- The pass over the records of a book that was checked: at each of them, what is known of the key among the names
-- before.
use Prim.Native.Nat.{◌+◌, ◌-◌, ◌<◌, ◌≤◌, suc, zero, ℕ}
use mathlib.Core.Path.{◌∙◌, ◌≡◌, ap, refl, sym}
use mathlib.Core.Bool.{false}
use mathlib.Core.List.{List, [], ◌++◌, ◌∷◌}
use lib.ListN.{drop, get_or, length, take}
use lib.Seq.{length-take-le, take_all}
use native.Mathlib.Nat.{add-zero}
use native.Mathlib.Numerals.{add-one}
use native.Mathlib.Omega.{arith}
use Rattle.octets.specs.Octets.{common}
use Rattle.entries.specs.Entries.{Entry, at, names}
use Rattle.entries.specs.Names.{longest_name}
use Rattle.entries.proofs.Valid.{length-names, name_length}
use Rattle.book.specs.Records.{record_of, records}
use Rattle.book.specs.declared.Layout.{Layout}
use Rattle.book.specs.Book.{in_book_in, records_at}
use Rattle.book_laws.specs.Ahead.{name_before, record_at_in}
use Rattle.book_laws.specs.Held.{HeldIn}
use Rattle.book_laws.proofs.Front.{names_next, record_next}
use Rattle.book_laws.proofs.Held.{held_stored, held-valid}
use Rattle.book_laws.proofs.Standing.{before-below, kept_there, name_allowed, next_there, own_there, own_within}
use Rattle.book_laws.proofs.Standing.{record_inside, rest_there}
use Rattle.book_laws.proofs.Stored.{StoredIn}
use Rattle.book_seek.specs.Seek.{GoesOn, Next, Quiet, Seeking, none, settled}
use Rattle.book_seek.specs.declared.Order.TheVariants.{Past}
use Rattle.book_seek.specs.declared.Seek.{Seek}
use Rattle.book_seek.proofs.Seeking.{over_more, seeking_start}
use Rattle.book_seek.proofs.Settling.{settled-early, settled-past}

-- the names before position i are passed, and its record begins at index `at`
pub record Reached (l : Layout) (key : List ℕ) (es : List Entry) (start at i : ℕ) (s : Seek) : Type 0 where
  pub stands : at ≡ record_at_in l es i
  pub seeks : Seeking key start (take i (names es)) (settled s i at)

-- and a record that keeps so many bytes, or more, changes nothing of the search
pub record Skipping (l : Layout) (key buf : List ℕ) (n start at i : ℕ) (s : Seek) (limit : ℕ) : Type 0 where
  pub within : i ≤ n
  pub bounded : s.below ≤ length key
  pub quiet : Quiet key s limit
  pub reached : Reached l key (in_book_in l buf) start at i s

-- the name at a position
abbrev name_at : List Entry → ℕ → List ℕ
name_at es i = (at es i).name

-- a book that was checked
module _ {l : Layout} {buf : List ℕ} {n : ℕ} (held : HeldIn l buf n) where
  abbrev es : List Entry
  es = in_book_in l buf

  stored : StoredIn l buf es
  stored = held_stored held

  pub skipping_start :
      (key : List ℕ) (start : ℕ) (s : Seek) (limit : ℕ) → start ≡ records_at l n → s ≡ none start → Quiet key s limit
      → Skipping l key buf n start start 0 s limit
  skipping_start key start s limit from e q =
      let z : settled s 0 start ≡ none start = rw e (settled-early (none start) 0 start refl) in
      record {
        within = omega arith;
        bounded = rw e (omega arith);
        quiet = q;
        reached = record {
          stands = from ∙ ap (records_at l) held.count ∙ sym (add-zero (records_at l (length es)));
          seeks = rw z (seeking_start key start);
        };
      }

  -- the record at position i, in a layout without heads, as its bytes say it
  module _
      (off : l.heads ≡ false) {key : List ℕ} {start at i : ℕ} {s : Seek} (from : start ≡ records_at l n)
      (g : Reached l key es start at i s) (lt : i < n)
    where
      abbrev w : List ℕ
      w = name_at es i

      abbrev kept : ℕ
      kept = get_or buf at 0

      abbrev own : ℕ
      own = get_or buf (at + 1) 0

      abbrev rest : List ℕ
      rest = take (get_or buf (at + 1) 0) (drop (at + 2) buf)

      here : i < length es
      here = omega (arith, held.count)

      keeps : kept ≡ common (name_before es i) w
      keeps = rw g.stands (kept_there l buf es stored off i here)

      owns : own ≡ length w - common (name_before es i) w
      owns = rw g.stands (own_there l buf es stored off i here)

      -- it lies in the buffer, and its name is short
      pub reached_inside : at + 2 + own ≤ length buf
      reached_inside =
          let a = record_inside l buf es stored off i here in
          omega (arith, owns, g.stands)

      pub reached_short : kept + own ≤ longest_name
      reached_short =
          let a = own_within l buf es stored off i here in
          let b = name_length w (name_allowed es (held-valid held) i here) in
          omega (arith, owns, keeps)

      long : length (take i (names es)) ≡ i
      long = let m = length-names es in length-take-le i (names es) (omega (arith, here))

      after : record_at_in l es (suc i) ≡ at + 2 + own
      after =
          let a = next_there l buf es stored off i here in
          omega (arith, owns, g.stands)

      -- it is the next one
      next : Next start (take i (names es)) w at (at + 2 + own) kept rest
      next =
          record {
            above = before-below es (held-valid held) i here;
            keeps = keeps;
            goes_on = goes;
            from = g.stands ∙ at_start;
            to = at_end;
          }
        where
          goes : rest ≡ drop kept w
          goes = rw (owns, keeps, g.stands) (rest_there l buf es stored off i here)

          at_start : record_at_in l es i ≡ start + length (records false 0 [] (take i (names es)))
          at_start = rw (from, held.count, ← off)

          at_end :
              at + 2 + own ≡ at + length (record_of false (length (take i (names es))) (name_before es i) w)
          at_end =
              let a = record_next l es i here in
              let b = after in
              rw (long, ← off) (omega (arith, g.stands))

      -- what the search came to behind it
      pub reached_on :
          (s' : Seek) → GoesOn key (settled s i at) at (at + 2 + own) kept rest (settled s' (i + 1) (at + 2 + own))
          → Reached l key es start (at + 2 + own) (i + 1) s'
      reached_on s' on =
          let m : take (i + 1) (names es) ≡ take i (names es) ++ (w ∷ []) = rw add-one (names_next es i here) in
          record {
            stands = sym after ∙ ap (record_at_in l es) (sym (add-one i));
            seeks = rw m (on start (take i (names es)) w g.seeks next);
          }

      -- a turn
      pub skipping_turn :
          (s' : Seek) (limit' : ℕ)
          → GoesOn key (settled s i at) at (at + 2 + own) kept rest (settled s' (i + 1) (at + 2 + own))
          → s'.below ≤ length key → Quiet key s' limit'
          → Skipping l key buf n start (at + 2 + own) (i + 1) s' limit'
      skipping_turn s' limit' on below quiet =
          record { within = omega arith; bounded = below; quiet = quiet; reached = reached_on s' on }

  whole : (i : ℕ) → n ≤ i → take i (names es) ≡ names es
  whole i h = let m = length-names es in take_all i (names es) (omega (arith, held.count))

  -- all records are passed, or a name is past the key: what is known is known of all names
  module _ {key : List ℕ} {start : ℕ} (from : start ≡ records_at l n) where
    pub reached_end :
        {at i : ℕ} {s : Seek} → Reached l key es start at i s → n ≤ i
        → Seeking key (records_at l n) (names es) (settled s i at)
    reached_end {i = i} g h = rw (← from, ← whole i h) g.seeks

    past_on :
        (s : Seek) → s.order ≡ Past → (k i : ℕ) → i + k ≡ n → Seeking key start (take i (names es)) s
        → Seeking key start (names es) s
    past_on s o zero i e g = rw (whole i (omega arith)) at g
    past_on s o (suc k) i e g =
        let h : i < length es = omega (arith, held.count) in
        past_on s o k (suc i) (omega arith)
        (rw (names_next es i h)
        (over_more key start (take i (names es)) s g o (name_at es i) (before-below es (held-valid held) i h)))

    pub reached_past :
        {at i : ℕ} {s : Seek} → Reached l key es start at i s → s.order ≡ Past → i ≤ n
        → Seeking key (records_at l n) (names es) s
    reached_past {at} {i} {s} g o h =
        rw (← from) (past_on s o (n - i) i (omega arith) (rw (settled-past s i at o) at g.seeks))
