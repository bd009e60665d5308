-- A pass over the records of a book that was checked: each record read gives the next name.
use Prim.Native.Nat.{◌+◌, ◌<◌, ◌≤◌, ℕ}
use mathlib.Core.Path.{◌∙◌, ◌≡◌, ap, refl, sym}
use mathlib.Core.Bool.{Bool, true}
use mathlib.Core.List.{List}
use lib.ListN.{drop, length, take}
use lib.Seq.{length-sets, length-take-le, sets}
use native.Mathlib.Omega.{arith}
use Rattle.octets.proofs.Lists.{at_all}
use Rattle.octets.proofs.Tests.{by_test}
use Rattle.entries.specs.Entries.{Entry, at, no_entry}
use Rattle.entries.specs.Names.{is_name, longest_name}
use Rattle.entries.proofs.Valid.{Valid, name_some}
use Rattle.book_laws.specs.Cursor.{Step, Stepped, cursor_of, name_in, record_is}
use Rattle.book_record_read.specs.RecordParts.{record_part}
use Rattle.book.specs.Records.{head_at}
use Rattle.book_record_read.proofs.RecordParts.{Owned, part_own}
use Rattle.book_record_read.proofs.Steps.{step_own}
use Rattle.book_laws.specs.Ahead.{AheadIn}
use Rattle.book.specs.declared.Layout.{Layout}
use Rattle.book.specs.Book.{in_book_in, records_at, today}
use Rattle.book_laws.specs.Held.{HeldIn}
use Rattle.book_laws.proofs.Ahead.{ahead_first, ahead_sound, step_ahead, step_name, step_ok}
use Rattle.book_laws.proofs.Held.{held_stored, held-valid}
use Rattle.book_read.specs.Record.{Inside, Read, own_bytes, parts_at}
use Rattle.book_laws.specs.declared.Parts.{Parts}
use Rattle.book_laws.specs.declared.Cursor.{Cursor}
use Rattle.std.specs.Prelude.{Some}

-- the parts of a record of a book are those that its tests find
parts_own :
    (heads : Bool) (i : ℕ) (prev s : List ℕ) → record_is heads i prev s ≡ true
    → record_part heads i prev s ≡ Some (parts_at heads i s)
unfolding record_part parts_at
parts_own heads i prev s t = by_test (head_at heads i) (λ e. rw (e, t)) (λ e. rw (e, t))

parts-two : (heads : Bool) (i : ℕ) (s : List ℕ) → 1 ≤ (parts_at heads i s).kept + (parts_at heads i s).own
    → 2 ≤ (parts_at heads i s).start + (parts_at heads i s).own
unfolding parts_at
parts-two heads i s = by_test (head_at heads i) (λ e. rw e (λ h. omega arith)) (λ e. rw e (λ h. omega arith))

-- the step from a cursor to the next by the parts p of a record, which leaves the name new
abbrev pub step_by : Cursor → List ℕ → Parts → Step
step_by c new p = record {
  ok = true;
  next = cursor_of (c.at + (p.start + p.own)) (c.index + 1) new (p.kept + p.own);
}

-- One step from a cursor at a record, its name in 48 bytes.
module _
    {l : Layout} {es : List Entry} (v : Valid es) {book : List ℕ} {c : Cursor} (a : AheadIn l es book c)
    (long : length c.name ≡ longest_name) (h : c.index < length es)
  where
    abbrev s : List ℕ
    s = drop c.at book

    abbrev p : Parts
    p = parts_at l.heads c.index (drop c.at book)

    abbrev new : List ℕ
    new = sets c.name p.kept (own_bytes s p)

    -- the step that the parts make, where the record's tests hold
    own_step : record_is l.heads c.index (name_in c) s ≡ true → Stepped l.heads book c (step_by c new p)
    own_step t =
        let z : c.at + (p.start + p.own) ≡ c.at + p.start + p.own = omega arith in
        rw z
        (step_own l.heads book c (ahead_sound l es v book c a h) long p new
        (parts_own l.heads c.index (name_in c) s t) refl)

    -- they do
    tests_hold : record_is l.heads c.index (name_in c) s ≡ true
    tests_hold =
        step_ok l es v book c a h (record {
          ok = record_is l.heads c.index (name_in c) s;
          next = (step_by c new p).next;
        })
        (record { ok = refl; next = λ t. (own_step t).next refl })

    owned : Owned l.heads c.index (name_in c) s p.kept p.start p.own
    owned =
        part_own l.heads c.index (name_in c) s p a.allowed
        (parts_own l.heads c.index (name_in c) s tests_hold)

    name_bytes : p.kept + p.own ≡ length (at es c.index).name
    name_bytes =
        sym (length-take-le (p.kept + p.own) new
        (omega (arith, owned.short, length-sets c.name p.kept (own_bytes s p), long)))
        ∙ ap length (step_name l es v book c a h (step_by c new p) (own_step tests_hold))

    -- a whole record stands there: a length byte and a name, or two bytes and a rest
    pub step_inside : Inside l.heads s c.index (length c.name)
    step_inside =
        let u = at_all (λ e. is_name e.name) no_entry es v.allowed c.index h in
        let m : 1 ≤ p.kept + p.own = omega (arith, name_bytes, name_some (at es c.index).name u) in
        record {
          two = omega (arith, owned.inside, parts-two l.heads c.index s m);
          whole = owned.inside;
          room = omega (arith, owned.short, long);
        }

    -- reading it is a step of the cursor
    pub step_read : {name : List ℕ} {q : Parts} → Read l.heads s c.index c.name name q
        → Stepped l.heads book c (step_by c name q)
    step_read r = rw (r.bytes, r.parts) (own_step tests_hold)

    -- the name left has the bytes that the parts tell
    read_bytes : {name : List ℕ} {q : Parts} → Read l.heads s c.index c.name name q
        → q.kept + q.own ≡ length (at es c.index).name
    read_bytes r = rw r.parts name_bytes

    pub read_long : {name : List ℕ} {q : Parts} → Read l.heads s c.index c.name name q
        → length name ≡ longest_name
    read_long {q = q} r = rw r.bytes (length-sets c.name q.kept (own_bytes s q) ∙ long)

-- The next record starts at index k, at position i; the name before it stands at the front of the 48 bytes in name.
pub record ReadingIn (l : Layout) (book : List ℕ) (k i : ℕ) (name : List ℕ) : Type 0 where
  pub len : ℕ
  pub long : length name ≡ longest_name
  pub ahead : AheadIn l (in_book_in l book) book (record { at = k; index = i; name = name; len = len })

-- The record there has the parts p, and new holds its name.
pub record GivenIn (l : Layout) (book : List ℕ) (k i : ℕ) (new : List ℕ) (p : Parts) : Type 0 where
  pub name : take (p.kept + p.own) new ≡ (at (in_book_in l book) i).name
  pub long : p.kept + p.own ≡ length (at (in_book_in l book) i).name
  pub small : p.kept + p.own ≤ longest_name
  pub inside : k + (p.start + p.own) ≤ length book
  pub next : ReadingIn l book (k + (p.start + p.own)) (i + 1) new

pub read_start :
    {l : Layout} {book : List ℕ} {n k : ℕ} (name : List ℕ) → HeldIn l book n → k ≡ records_at l n
    → length name ≡ longest_name
    → ReadingIn l book k 0 name
read_start {l} {book} {k = k} name b e long =
    record {
      len = 0;
      long = long;
      ahead =
          ahead_first l book (in_book_in l book) (held_stored b) (record { at = k; index = 0; name = name; len = 0 })
          (rw (← b.count) e) refl refl;
    }

module _
    {l : Layout} {book : List ℕ} {n : ℕ} (b : HeldIn l book n) {k i : ℕ} {name : List ℕ} (g : ReadingIn l book k i name)
    (h : i < n)
  where
    low : i < length (in_book_in l book)
    low = omega (arith, b.count)

    pub read_inside : Inside l.heads (drop k book) i (length name)
    read_inside = step_inside (held-valid b) g.ahead g.long low

    -- reading it gives the entry's name
    pub read_turn : {new : List ℕ} {q : Parts} → Read l.heads (drop k book) i name new q → GivenIn l book k i new q
    read_turn {new} {q} r =
        let v = held-valid b in
        let here = cursor_of k i name g.len in
        let t = step_read v g.ahead g.long low r in
        let d = step_ahead l (in_book_in l book) v book here g.ahead low (step_by here new q) t in
        record {
          name = step_name l (in_book_in l book) v book here g.ahead low (step_by here new q) t;
          long = read_bytes v g.ahead g.long low r;
          small = d.small;
          inside = d.inside;
          next = record { len = q.kept + q.own; long = read_long v g.ahead g.long low r; ahead = d };
        }

-- the same in a book of today
abbrev pub Reading : List ℕ → ℕ → ℕ → List ℕ → Type 0
Reading book k i name = ReadingIn today book k i name

abbrev pub Given : List ℕ → ℕ → ℕ → List ℕ → Parts → Type 0
Given book k i new p = GivenIn today book k i new p
