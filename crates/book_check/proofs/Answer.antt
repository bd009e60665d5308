-- The answer of the check: none where a test of `checks` fails, the number of entries where none does; and where the
-- key stands then.
use Prim.Native.Nat.{◌<◌, ◌≤◌, ℕ}
use mathlib.Core.Path.{◌∙◌, ◌≡◌, ap, refl, subst}
use mathlib.Core.Bool.{◌&&◌, false, false≢true, true}
use mathlib.Core.List.{List, []}
use mathlib.Core.Option as maybe
use Rattle.std.specs.Prelude.{None, Option, Some}
use lib.Dec.{leb}
use lib.ListN.{drop, length}
use borrow.Author.Tests.{eq-eqb, le-leb, lt-leb}
use Rattle.octets.specs.Lists.{ceil}
use Rattle.octets.proofs.Numbers.{Bytes}
use Rattle.octets.proofs.Tests.{and_false}
use Rattle.entries.specs.Entries.{Entry, names}
use Rattle.frame.specs.Frame.{entries_of, is_read}
use Rattle.frame_laws.specs.Test.{ends_at}
use Rattle.frame_code.specs.Image.{ended_as, frame_as}
use Rattle.frame_code.specs.declared.Frame.{Frame}
use Rattle.frame_code.proofs.Checked.{Checkable, Framed, accepted, body_failed, no_end_lem, no_frame, other_end, told_end}
use Rattle.frame_code.proofs.Held.{image_damaged, image_held}
use Rattle.book.specs.declared.Layout.{Layout}
use Rattle.book.specs.Book.{block_size, in_book, is_book, is_book_in, read_in, records_at, today}
use Rattle.book.specs.Checks.{is_old}
use Rattle.book.specs.Records.{names_from}
use Rattle.book_laws.specs.Held.{HeldIn}
use Rattle.book_laws.specs.Check.{body_is, checks, peaks_are, records_end}
use Rattle.book_laws.proofs.Check.{check_exact}
use Rattle.book_laws.proofs.Stored.{read_names, stored}
use Rattle.book_seek.specs.Seek.{Seeking}
use Rattle.book_check_walk.specs.Walks.{Reaches}
use Rattle.book_check_walk.specs.declared.Walked.{Walked}
use Rattle.book_check.specs.Checked.{CheckedIn, Declined, Known, Located}
use Rattle.book_check.specs.declared.known.Checked.{Checked}
use Rattle.book_check.specs.declared.CheckedImage.{CheckedImage}
use Rattle.answer.specs.declared.Refusal.TheVariants as refusal

pub book_format : (l : Layout) → Checkable l.version (body_is l) (read_in l)
unfolding checks
book_format l = record { exact = check_exact l; count = λ buf es e. (stored l buf es e).count }

-- the frame has passed, and where the records begin is computed
pub record Front (l : Layout) (buf : List ℕ) (n total start : ℕ) : Type 0 where
  pub bytes : Bytes buf
  pub frame : Framed l.version buf n total
  pub from : start ≡ records_at l n

-- the tests from there on, each with the fact that the code has
module _ {l : Layout} {buf : List ℕ} {n total start : ℕ} (f : Front l buf n total start) where
  abbrev pub records_walk : maybe.Option ℕ
  records_walk = records_end l n n 0 [] start buf

  rest :
      body_is l buf
      ≡ (leb start (length buf) && (ends_at total records_walk && peaks_are l (ceil n block_size) n 0 buf))
  rest = rw (f.from, f.frame.whole, f.frame.count)

  -- what is known where a test fails: the frame has passed, so the answer of the body is the whole answer
  failed : body_is l buf ≡ false → is_book_in l buf ≡ false
  failed h = image_damaged (read_in l buf) (body_failed (book_format l) buf f.bytes f.frame h) refl

  pub no_room_lem : length buf < start → is_book_in l buf ≡ false
  no_room_lem h = failed (rw (rest, lt-leb start (length buf) h))

  pub must_end : ends_at total records_walk ≡ false → body_is l buf ≡ false
  must_end t = rest ∙ simp (t, and_false)

  -- the answer e of the walk over the records
  module _ {e : Option ℕ} (a : e ≡ ended_as records_walk) where
    pub no_end : e ≡ None → is_book_in l buf ≡ false
    no_end m = image_damaged (read_in l buf) (no_end_lem (book_format l) buf f.bytes f.frame records_walk must_end a m)
        refl

    pub ends_elsewhere : {end : ℕ} → e ≡ Some end → (end ≡ total → ⊥) → is_book_in l buf ≡ false
    ends_elsewhere m d =
        image_damaged (read_in l buf) (other_end (book_format l) buf f.bytes f.frame records_walk must_end a m d) refl

  pub stale : peaks_are l (ceil n block_size) n 0 buf ≡ false → is_book_in l buf ≡ false
  stale p = failed (rest ∙ simp (p, and_false))

  -- none fails
  pub is_book_lem :
      {e : Option ℕ} → e ≡ ended_as records_walk → {end : ℕ} → e ≡ Some end → end ≡ total → start ≤ length buf
      → peaks_are l (ceil n block_size) n 0 buf ≡ true → HeldIn l buf n
  is_book_lem a {end} m q room p =
      let yes = accepted (book_format l) buf f.bytes f.frame
      (rw (rest, le-leb start (length buf) room, told_end total records_walk a m, eq-eqb end total q) p)
      in
      let h = image_held (read_in l buf) yes refl in
      record { is_it = h.0; count = h.1 }

-- no frame
pub no_frame_lem :
    (l : Layout) (buf : List ℕ) → Bytes buf → {r : Option Frame} → r ≡ frame_as l.version buf → r ≡ None
    → is_book_in l buf ≡ false
no_frame_lem l buf b e m = image_damaged (read_in l buf) (no_frame (book_format l) buf b e m) refl

-- where the key stands in a book that was checked
pub located :
    (l : Layout) (buf key : List ℕ) (n start : ℕ) (w : Walked) → HeldIn l buf n → start ≡ records_at l n
    → Reaches l n start buf key w → Located l buf key w.seek
located l buf key n start w h f g off t = go (read_in l buf) refl h.is_it h.count
  where
    go :
        (o : maybe.Option (List Entry)) → read_in l buf ≡ o → is_read o ≡ true → n ≡ length (entries_of o)
        → Seeking key (records_at l (length (entries_of o))) (names (entries_of o)) w.seek
    go maybe.none r d k = absurd (false≢true d)
    go (maybe.some es) r d k =
        rw (← (read_names l buf es r))
        (subst
        (λ (x : ℕ). Seeking key (records_at l x) (names_from l.heads x 0 [] (drop (records_at l x) buf)) w.seek)
        k
        (subst (λ (x : ℕ). Seeking key x (names_from l.heads n 0 [] (drop x buf)) w.seek) f
        (g.seeks off)))

-- What a call is told: of a book that is damaged, and of one that is read. l is the layout of today.
pub declined :
    {book : List ℕ} {l : Layout} → l ≡ today → is_old book ≡ false → is_book_in l book ≡ false
    → Declined book refusal.NotLaidOut
declined {book} e t u =
    let d : is_book book ≡ false = rw e at u in
    record { refusal = rw (t, d) }

pub known :
    {book key : List ℕ} {l : Layout} {f : CheckedImage} {c : Checked} → l ≡ today → CheckedIn l book key (Some f)
    → c.image.now ≡ book → c.seek ≡ f.seek → Known book key c
known {book} {key} {l} {f} e u b s =
    let w : CheckedIn today book key (Some f) = subst (λ (x : Layout). CheckedIn x book key (Some f)) e u in
    record { is_it = w.0.is_it; entries = ap in_book b; located = rw s (w.1 refl w.0.is_it) }
