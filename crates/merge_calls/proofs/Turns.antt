-- The loop of `pass`: to pass the entries that are left of both books gives what to pass all of them at first gives.
use Prim.Native.Nat.{◌+◌, ◌-◌, ◌<◌, ◌≤◌, suc, ℕ}
use mathlib.Core.Path.{◌∙◌, ◌≡◌, refl, sym}
use mathlib.Core.Bool.{Bool, false}
use mathlib.Core.List.{List, [], ◌++◌, ◌∷◌}
use lib.Dec.{ltb}
use lib.ListN.{length, take}
use lib.Seq.{take-nil}
use native.Mathlib.Omega.{arith}
use borrow.Author.Tests.{le-ltb, lt-ltb, ltb-false, ltb-true}
use Rattle.octets.proofs.Tests.{by_test}
use Rattle.entries.specs.Entries.{Entry, entry}
use Rattle.book.specs.declared.Layout.{Layout}
use Rattle.book.specs.Book.{today}
use Rattle.book_laws.specs.Cursor.{cursor_of}
use Rattle.book_append.specs.Append.{AppendDone, Fits, cursor_behind}
use Rattle.book_append.proofs.Left.{Left, all_passed, next_fits, rest_left}
use Rattle.merge.specs.Joined.{joined}
use Rattle.merge_read.specs.Turns.{Loaded, Took, entries_left}
use Rattle.merge_read.proofs.Turning.{left_none, left_some}
use Rattle.merge_calls.specs.Merging.{PassDone, PassRoom}
use Rattle.book_laws.specs.declared.Cursor.{Cursor}
use Rattle.merge_read.specs.declared.NextInBook.{NextInBook}
use Rattle.merge_read.specs.declared.NextOfBoth.{NextOfBoth}
use Rattle.merge_calls.specs.declared.MergePass.{MergePass}

-- the entries left of both
abbrev pub rest : List Entry → List Entry → NextInBook → NextInBook → List Entry
rest first second x y = joined (entries_left first x) (entries_left second y)

-- x and y are the next entries of the books; the cursor w is where the next of both is put
pub record PassLeft
    (first second : List Entry) (d₀ : List ℕ) (count at : ℕ) (store : Bool)
    (x : NextInBook) (a : List ℕ) (y : NextInBook) (b d : List ℕ) (w : Cursor) : Type 0 where
  pub of_first : Loaded first x a
  pub of_second : Loaded second y b
  pub order : w.index ≤ count
  pub total : length (joined first second) ≡ w.index + length (rest first second x y)
  pub passing : Left today store count (cursor_behind at 0 []) (take count (joined first second)) d₀ w
      (take (count - w.index) (rest first second x y)) d

module _
    {first second : List Entry} {d : List ℕ} {count at : ℕ} {store : Bool}
    (p : PassRoom (joined first second) d count at store)
  where
    pub left_start :
        {x : NextInBook} {a : List ℕ} {y : NextInBook} {b : List ℕ} (prev : List ℕ) → Loaded first x a
        × (x.index ≡ 0)
        → Loaded second y b × (y.index ≡ 0)
        → PassLeft first second d count at store x a y b d (cursor_of at 0 prev 0)
    left_start {x} {a} {y} {b} prev l k =
        let f = p.fits in
        let z : count - 0 ≡ count = omega arith in
        record {
          of_first = l.0;
          of_second = k.0;
          order = omega arith;
          total = rw (l.1, k.1) (omega arith);
          passing = record {
            same_length = refl;
            fits = rw (z, l.1, k.1)
                (record {
                  few = f.few;
                  low = f.low;
                  small = f.small;
                  allowed = f.allowed;
                  near = f.near;
                  enough = f.enough;
                });
            whole = λ {r} {new} q.
                let s : AppendDone today store count (cursor_of at 0 prev 0) (take count (joined first second)) d
                r
                new =
                rw (z, l.1, k.1) at q
                in
                record {
                  bytes = s.bytes;
                  went = record {
                    index = s.went.index;
                    end = s.went.end;
                    name = s.went.name;
                    small = s.went.small;
                  };
                };
          };
        }

module _
    {first second : List Entry} {d₀ : List ℕ} {count at : ℕ} {store : Bool} {x : NextInBook} {a : List ℕ}
    {y : NextInBook} {b d : List ℕ} {w : Cursor} (v : PassLeft first second d₀ count at store x a y b d w)
  where
    abbrev told : ℕ → Bool → MergePass
    told passed more = record { entries = passed; end = w.at; more = more }

    -- nothing is left to pass
    done :
        {passed : ℕ} {more : Bool} → passed ≡ w.index → take (count - w.index) (rest first second x y) ≡ []
        → more ≡ ltb count (length (joined first second))
        → PassDone (joined first second) d₀ d count at store (told passed more)
    done all e more =
        let p = all_passed v.passing e in
        record {
          told = record { entries = omega (arith, p.went.index); end = p.went.end; more = more };
          bytes = p.bytes;
        }

    -- none is left: the pass ends early
    pub left_none_next : rest first second x y ≡ [] → PassDone (joined first second) d₀ d count at store (told w.index false)
    left_none_next e =
        let z : length (rest first second x y) ≡ 0 = rw e in
        done refl (rw e (take-nil (count - w.index)))
        (sym (le-ltb count (length (joined first second)) (omega (arith, v.total, v.order))))

    -- or as many have been passed as were to be
    pub left_end : count ≤ w.index → PassDone (joined first second) d₀ d count at store (told count (ltb 0 (x.len + y.len)))
    left_end h =
        let t = v.total in
        let o = v.order in
        let z : count - w.index ≡ 0 = omega arith in
        done (omega arith) (rw z)
        (by_test (ltb 0 (x.len + y.len))
        (λ s.
        let k = left_some v.of_first v.of_second (ltb-true 0 (x.len + y.len) s) in
        s ∙ sym (lt-ltb count (length (joined first second)) (omega arith)))
        (λ s.
        let z : x.len + y.len ≡ 0 = omega (arith, ltb-false 0 (x.len + y.len) s) in
        let e : length (rest first second x y) ≡ 0 = rw (left_none v.of_first v.of_second z) in
        s ∙ sym (le-ltb count (length (joined first second)) (omega arith))))

    -- one turn
    module _
        {a₁ b₁ name : List ℕ} {r : NextOfBoth} (t : Took first x a₁ second y b₁ name r) (under : w.index < count)
      where
        abbrev this : List Entry
        this = entry (take r.len name) r.score ∷ []

        abbrev behind : List Entry
        behind = take (count - (w.index + 1)) (rest first second r.first r.second)

        split : take (count - w.index) (rest first second x y) ≡ this ++ behind
        split = let z : count - w.index ≡ suc (count - (w.index + 1)) = omega arith in rw (z, t.next)

        pub left_fits : {l : Layout} → l ≡ today → Fits l store count w this d
        left_fits e = rw e (next_fits v.passing this behind split)

        pub left_turn :
            {l : Layout} {u : Cursor} {new : List ℕ} → l ≡ today → AppendDone l store count w this d u new
            → PassLeft first second d₀ count at store r.first a₁ r.second b₁ new u
        left_turn {u = u} {new} e put =
            let p : AppendDone today store count w this d u new = rw e at put in
            let i = p.went.index in
            let z : count - u.index ≡ count - (w.index + 1) = omega arith in
            let l : length (rest first second x y) ≡ suc (length (rest first second r.first r.second)) = rw t.next in
            record {
              of_first = t.of_first;
              of_second = t.of_second;
              order = omega arith;
              total = omega (arith, v.total);
              passing = rw z (rest_left v.passing this behind split p);
            }
