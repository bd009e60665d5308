-- Cursors in a buffer that holds a book: where they start, and that each step gives the next name.
use Prim.Native.Nat.{◌+◌, ◌<◌, ◌≤◌, suc, zero, ℕ}
use mathlib.Core.Path.{◌∙◌, ◌≡◌, ap, refl, sym}
use mathlib.Core.Bool.{true}
use mathlib.Core.List.{List, [], ◌++◌, ◌∷◌, append_assoc}
use lib.ListN.{drop, get_or, length}
use lib.Seq.{drop-append_seam, drop-cons, drop-drop}
use native.Mathlib.Numerals.{add-one}
use native.Mathlib.Omega.{arith}
use Rattle.octets.specs.Octets.{begins, below}
use Rattle.octets.proofs.Lists.{at_all}
use Rattle.octets.proofs.Order.{begins-append, begins_split}
use Rattle.entries.specs.Entries.{Entry, at, names, no_entry}
use Rattle.entries.specs.Names.{allowed_bytes, is_name, is_prefix}
use Rattle.entries.proofs.Span.{rising-at}
use Rattle.entries.proofs.Valid.{Valid, length-names, name_above, name_prefix, valid_of}
use Rattle.book_laws.specs.Cursor.{Sound, Step, Stepped, name_in, record_is}
use Rattle.book.specs.Records.{record_name, record_of, records}
use Rattle.book_laws.specs.Ahead.{AheadIn}
use Rattle.book.specs.Book.{image_in, records_at}
use Rattle.book.specs.declared.Layout.{Layout}
use Rattle.book.proofs.Reading.{image_length, image_records}
use Rattle.book_laws.proofs.Stored.{StoredIn}
use Rattle.book_laws.proofs.Walk.{standing_length, standing_name}
use Rattle.book_laws.specs.declared.Cursor.{Cursor}

pub names_at : (es : List Entry) (i : ℕ) → i < length es → get_or (names es) i [] ≡ (at es i).name
names_at [] i h = absurd (omega arith)
names_at (e ∷ es) zero h = refl
names_at (e ∷ es) (suc i) h = names_at es i (omega arith)

-- one step
module _
    (l : Layout) (es : List Entry) (v : Valid es) (s : List ℕ) (c : Cursor) (a : AheadIn l es s c)
    (h : c.index < length es)
  where
    abbrev i : ℕ
    i = c.index

    abbrev w : List ℕ
    w = (at es c.index).name

    abbrev behind : List ℕ
    behind = records l.heads (suc i) w (drop (suc i) (names es)) ++ a.rest

    pub ahead_sound : Sound s c
    ahead_sound = record { allowed = a.allowed; small = a.small; inside = a.inside }

    here_stands : drop c.at s ≡ record_of l.heads i (name_in c) w ++ behind
    here_stands =
        let n = length-names es in
        a.stands
        ∙ rw (drop-cons (names es) i [] (omega arith), names_at es i h)
        (append_assoc (record_of l.heads i (name_in c) w) (records l.heads (suc i) w (drop (suc i) (names es)))
        a.rest)

    pub here_begins : begins (record_of l.heads i (name_in c) w) (drop c.at s) ≡ true
    here_begins = rw here_stands (begins-append (record_of l.heads i (name_in c) w) behind)

    here_allowed : is_name w ≡ true
    here_allowed = at_all (λ e. is_name e.name) no_entry es v.allowed i h

    here_name : record_name l.heads i (name_in c) (drop c.at s) ≡ w
    here_name = standing_name l.heads i (name_in c) w (drop c.at s) here_begins

    here_is : record_is l.heads i (name_in c) (drop c.at s) ≡ true
    unfolding record_is
    here_is = rw (here_name, here_begins, here_allowed) (a.above h)

    -- a step is ok, and gives the name
    pub step_ok : (r : Step) → Stepped l.heads s c r → r.ok ≡ true
    step_ok r t = t.ok ∙ here_is

    pub step_name : (r : Step) → Stepped l.heads s c r → name_in r.next ≡ w
    step_name r t = (t.next (step_ok r t)).name ∙ here_name

    pub step_at : (r : Step) → Stepped l.heads s c r
        → r.next.at ≡ c.at + length (record_of l.heads i (name_in c) w)
    step_at r t =
        (t.next (step_ok r t)).at
        ∙ ap (λ z. c.at + z) (standing_length l.heads i (name_in c) w (drop c.at s) here_begins)

    -- and the cursor stands at the next record
    pub step_ahead : (r : Step) → Stepped l.heads s c r → AheadIn l es s r.next
    step_ahead r t =
        let k = t.next (step_ok r t) in
        let x : r.next.index ≡ suc i = k.index ∙ add-one i in
        let y : drop r.next.at s ≡ behind =
        ap (λ z. drop z s) (step_at r t)
        ∙ sym (drop-drop (length (record_of l.heads i (name_in c) w)) c.at s)
        ∙ ap (drop (length (record_of l.heads i (name_in c) w))) here_stands
        ∙ drop-append_seam (record_of l.heads i (name_in c) w) behind
        in
        record {
          rest = a.rest;
          stands = rw (x, step_name r t) y;
          above = λ m. rw (x, step_name r t) (rising-at es v.order i (suc i) (omega arith) (rw x at m));
          allowed = rw (step_name r t) (name_prefix w here_allowed);
          small = k.small;
          inside = k.inside;
        }

empty_allowed : is_prefix [] ≡ true
unfolding is_prefix allowed_bytes
empty_allowed = refl

module _ (l : Layout) (buf : List ℕ) (es : List Entry) (s : StoredIn l buf es) (c : Cursor) where
  abbrev left : List ℕ
  left = drop (length (image_in l es)) buf

  start_above : c.len ≡ 0 → c.index < length es → below (name_in c) (at es c.index).name ≡ true
  start_above z h = rw z (name_above (at es c.index).name
      (at_all (λ e. is_name e.name) no_entry es (valid_of es s.ok).allowed c.index h))

  -- at a record in front of which no name is needed
  ahead_alone :
      (i : ℕ) → drop c.at buf ≡ records l.heads i [] (drop i (names es)) ++ left → c.at ≤ length buf
      → c.index ≡ i → c.len ≡ 0
      → AheadIn l es buf c
  ahead_alone i p inside q z =
      record {
        rest = left;
        stands = rw (q, z) p;
        above = start_above z;
        allowed = rw z empty_allowed;
        small = rw z (omega arith);
        inside = inside;
      }

  split : buf ≡ image_in l es ++ left
  split = begins_split (image_in l es) buf s.front

  -- at the first record
  pub ahead_first : c.at ≡ records_at l (length es) → c.index ≡ 0 → c.len ≡ 0 → AheadIn l es buf c
  ahead_first p q z =
      let within = image_length l es in
      let inside = s.inside in
      ahead_alone 0 (rw p (ap (drop (records_at l (length es))) split
      ∙ image_records l es left)) (rw p (omega arith)) q z
