-- The highlight stays on its name.
use Prim.Native.Nat.{◌+◌, ◌-◌, ◌<◌, ◌≤◌, min, ℕ}
use mathlib.Core.Path.{◌∙◌, ◌≡◌, ap, refl}
use mathlib.Core.Logic.{inl, inr}
use mathlib.Core.Bool.{◌&&◌, false, false≢true, not, true}
use mathlib.Core.List.{List, [], ◌++◌}
use lib.Dec.{eqb, leb, ltb}
use lib.ListN.{length, length-take, replicate}
use lib.Seq.{take-append_seam}
use native.Mathlib.Omega.{arith}
use borrow.Author.Tests.{eqb-false, eqb-true, le-leb, ltb-false, ne_eqb, not-false}
use Rattle.octets.proofs.Lists.{all_in, get_in}
use Rattle.octets.proofs.Tests.{and_intro, and_true_both, by_test}
use Rattle.entries.specs.Entries.{Entry, at, holds, no_entry, position}
use Rattle.entries.specs.Names.{allowed_bytes, is_name, is_plain, is_prefix, longest_name}
use Rattle.entries.proofs.TopK.{top_k_lem}
use Rattle.entries.proofs.Valid.{name_length, name_prefix, name_some, no_entry_lem, valid_of}
use Rattle.entries_laws.proofs.Place.{position_at}
use Rattle.entries_laws.proofs.Prefixes.{prefix_less, prefix_more, sign_lost}
use Rattle.frame.proofs.Frame.{entries-valid}
use Rattle.answer.specs.Answers.{◌when◌, given}
use Rattle.answer.proofs.Answers.{clear}
use Rattle.book.specs.Book.{book_image, in_book, is_book, read_book}
use Rattle.book.proofs.Checks.{read_not_old}
use Rattle.book.proofs.Reading.{book_exact}
use Rattle.panel.specs.declared.Panel.{Panel}
use Rattle.panel.specs.Panel.{Typing, acts, appends, held_in, highlighted, is_held, is_typed, key_bytes, key_checks}
use Rattle.panel.specs.Panel.{lower_to, lowered, offered_for, on_held, panel_count, panel_of, press, row_with}
use Rattle.panel.specs.Panel.{typed_in, typing, typing_after, typing_in, without_last}
use Rattle.panel.specs.Signs.{ErasesASign}
use Rattle.panel.specs.Highlight.{HoldsItsName, OnItsName, StaysOnItsName, StillOn}

-- a state that is shown as a panel is what the panel holds
text-shown : (es : List Entry) (t : Typing) → typed_in (panel_of es t) ≡ t.typed
unfolding panel_of
text-shown es t = take-append_seam t.typed (replicate (longest_name - length t.typed) 0)

name_shown : (es : List Entry) (t : Typing) → held_in (panel_of es t) ≡ highlighted es t
unfolding panel_of
name_shown es t =
    let w = highlighted es t in take-append_seam w (replicate (longest_name - length w) 0)

-- what an accepted key says, and the state that it leaves
record Accepted (book : List ℕ) (p : Panel) (key : ℕ) : Type 0 where
  typed : is_typed p ≡ true
  room : (appends key && ltb longest_name (p.len + length (key_bytes key))) ≡ false
  leaves : (press book p key).panel ≡ panel_of (in_book book) (typing_after (in_book book) p key)

accepted : (book : List ℕ) (p : Panel) (key rows : ℕ) → (press book p key).answer ≡ given rows → Accepted book p key
unfolding press
accepted book p key rows h =
    let new = panel_of (in_book book) (typing_after (in_book book) p key) in
    let passed = clear (key_checks book p key) new.rows rows h in
    let ok = is_typed p && is_held p in
    let full = appends key && ltb longest_name (p.len + length (key_bytes key)) in
    let both = and_true_both (is_typed p) (is_held p) (not-false ok (passed (2 when not ok) (inr (inr (inl refl))))) in
    record {
      typed = both.0;
      room = passed (9 when full) (inr (inr (inr (inr (inl refl)))));
      leaves = rw h;
    }

-- the names offered are allowed ones
module _ (book : List ℕ) (w : List ℕ) where
  abbrev offered : List Entry
  offered = offered_for (in_book book) w

  row_name_lem : (i : ℕ) → i < length offered → is_name (at offered i).name ≡ true
  row_name_lem i h =
      let v = valid_of (in_book book) (entries-valid read_book book_image book_exact book) in
      let m = ((top_k_lem (in_book book) w panel_count v.order).among (at offered i) (get_in no_entry offered i h)).0 in
      all_in (λ e. is_name e.name) (at offered i) (in_book book) v.allowed m

-- the row that a key starts from is one of those offered, 0 without rows
pub start_on : (held : List ℕ) (offered : List Entry) (row : ℕ)
    → row_with held offered (lower_to offered row) ≤ length offered - 1
start_on held offered row =
    by_test (holds held offered)
    (λ t. rw t (omega (arith, (position_at held offered t).0)))
    (λ t. rw t (omega arith))

-- a key appends a sign
key-allowed : (key : ℕ) → appends key ≡ true → allowed_bytes (key_bytes key) ≡ true
unfolding allowed_bytes
key-allowed key a =
    by_test (eqb key 0x80)
    (λ t. rw (eqb-true key 0x80 t))
    (λ t.
    by_test (eqb key 0x81)
    (λ s. rw (eqb-true key 0x81 s))
    (λ s. by_test (is_plain key) (λ p. rw (t, s) p) (λ p. absurd (false≢true (rw (p, t, s) at a)))))

-- a key makes an allowed text of one
acts_prefix : (book : List ℕ) (key : ℕ) (t : Typing) → is_prefix t.typed ≡ true
    → (appends key ≡ true → length t.typed + length (key_bytes key) ≤ longest_name)
    → t.row ≤ length (offered_for (in_book book) t.typed) - 1
    → is_prefix (acts (in_book book) key t).typed ≡ true
unfolding acts
acts_prefix book key t h room on =
    let offered = offered_for (in_book book) t.typed in
    by_test (appends key)
    (λ a. rw a (prefix_more t.typed (key_bytes key) h (key-allowed key a) (room a)))
    (λ a.
    by_test (eqb key 8)
    (λ k.
    by_test (eqb (length t.typed) 0)
    (λ e. rw (a, k, e) h)
    (λ e. rw (a, k, e) (prefix_less t.typed h)))
    (λ k.
    by_test (eqb key 1)
    (λ u. rw (a, k, u) h)
    (λ u.
    by_test (eqb key 2)
    (λ d. rw (a, k, u, d) h)
    (λ d.
    by_test (eqb key 13)
    (λ m.
    by_test (eqb (length offered) 0)
    (λ e. rw (a, k, u, d, m, e) h)
    (λ e.
    let some = eqb-false (length offered) 0 e in
    rw (a, k, u, d, m, e)
    (name_prefix (at offered t.row).name
    (row_name_lem book t.typed t.row (omega (arith, some))))))
    (λ m. rw (a, k, u, d, m) h)))))

-- a text and one of its rows, shown as a panel
module _ (book : List ℕ) (t : Typing) (h : is_prefix t.typed ≡ true)
    (on : t.row ≤ length (offered_for (in_book book) t.typed) - 1) where
  abbrev es : List Entry
  es = in_book book

  abbrev rows : List Entry
  rows = offered_for es t.typed

  shown_typed : is_typed (panel_of es t) ≡ true
  unfolding panel_of is_prefix
  shown_typed =
      let z = and_true_both (leb (length t.typed) longest_name) (allowed_bytes t.typed) h in
      rw (take-append_seam t.typed (replicate (longest_name - length t.typed) 0), z.0, z.1)

  shown-held : is_held (panel_of es t) ≡ true
  unfolding panel_of
  shown-held =
      let w = highlighted es t in
      by_test (eqb (length rows) 0)
      (λ e. let none : w ≡ [] = no_entry_lem rows t.row (eqb-true (length rows) 0 e) in rw none)
      (λ e.
      let some = eqb-false (length rows) 0 e in
      let ok : is_name w ≡ true = row_name_lem book t.typed t.row (omega (arith, some)) in
      rw (
        ne_eqb (length w) 0 (λ z. omega (arith, name_some w ok)),
        le-leb (length w) longest_name (name_length w ok),
        take-append_seam w (replicate (longest_name - length w) 0),
        ok,
      ))

  on_its_name : OnItsName es (panel_of es t)
  unfolding panel_of
  on_its_name =
      let w = highlighted es t in
      record {
        rows = rw (text-shown es t);
        on_row = on;
        its_name = name_shown es t ∙ rw (text-shown es t);
        no_name = λ none. rw (no_entry_lem rows t.row none);
        padding = rw (name_shown es t);
        allowed = and_intro (is_typed (panel_of es t)) (is_held (panel_of es t)) shown_typed shown-held;
      }

-- what an accepted key leads to
module _ (book : List ℕ) (p : Panel) (key : ℕ) (a : Accepted book p key) where
  -- the text has room for the sign that is appended
  room_for : appends key ≡ true → length (typed_in p) + length (key_bytes key) ≤ longest_name
  room_for t =
      let n = p.len + length (key_bytes key) in
      let l : n ≤ longest_name = ltb-false longest_name n (rw t at a.room) in
      omega (arith, length-take p.len p.text)

  after_prefix : is_prefix (typing_after (in_book book) p key).typed ≡ true
  unfolding lowered on_held
  after_prefix =
      let ok = (and_true_both (leb p.len longest_name) (is_prefix (typed_in p)) a.typed).1 in
      acts_prefix book key (on_held (in_book book) (held_in p) (typing_in p)) ok room_for
      (start_on (held_in p) (offered_for (in_book book) (typed_in p)) p.highlight)

  after_on : let t = typing_after (in_book book) p key in t.row ≤ length (offered_for (in_book book) t.typed) - 1
  unfolding lowered
  after_on = omega arith

pub holds_its_name_lem : HoldsItsName
holds_its_name_lem book p key n h =
    let a = accepted book p key n h in
    rw a.leaves
    (on_its_name book (typing_after (in_book book) p key) (after_prefix book p key a) (after_on book p key a))

-- the text that an accepted key leaves
text-after : (book : List ℕ) (p : Panel) (key rows : ℕ) → (press book p key).answer ≡ given rows
    → typed_in (press book p key).panel ≡ (acts (in_book book) key (on_held (in_book book) (held_in p) (typing_in p))).typed
unfolding lowered
text-after book p key rows h =
    let a = accepted book p key rows h in
    ap typed_in a.leaves ∙ text-shown (in_book book) (typing_after (in_book book) p key)

-- a key appends its sign
pub appends_sign : (book : List ℕ) (p : Panel) (key rows : ℕ) → appends key ≡ true
    → (press book p key).answer ≡ given rows → typed_in (press book p key).panel ≡ typed_in p ++ key_bytes key
unfolding acts on_held
appends_sign book p key rows t h = text-after book p key rows h ∙ rw t

-- and 08 takes one
pub erases_a_sign : ErasesASign
unfolding acts on_held
erases_a_sign book p rows h n =
    let a = accepted book p 0x08 rows h in
    let ok = (and_true_both (leb p.len longest_name) (is_prefix (typed_in p)) a.typed).1 in
    let s = sign_lost (typed_in p) ok (omega arith) in
    let e : typed_in (press book p 0x08).panel ≡ without_last (typed_in p) = text-after book p 0x08 rows h
    ∙ rw (ne_eqb (length (typed_in p)) 0 (λ z. omega arith)) in
    (s.0, s.1, ap (λ w. w ++ s.0) e ∙ s.2)

-- a panel that is allowed, on a book that offers its held name
module _ (book : List ℕ) (p : Panel) (b : is_book book ≡ true) (ok : (is_typed p && is_held p) ≡ true)
    (o : holds (held_in p) (offered_for (in_book book) (typed_in p)) ≡ true) where
  abbrev now : List Entry
  now = offered_for (in_book book) (typed_in p)

  abbrev its : ℕ
  its = position (held_in p) now

  recounts : typing_after (in_book book) p 0x00 ≡ typing (typed_in p) its
  unfolding lowered acts on_held
  recounts =
      let z : min its (length now - 1) ≡ its = omega (arith, (position_at (held_in p) now o).0) in rw (o, z)

  takes : (typing_after (in_book book) p 0x0D).typed ≡ (at now its).name
  unfolding lowered acts on_held
  takes =
      let some : eqb (length now) 0 ≡ false = ne_eqb (length now) 0
      (λ e. omega (arith, (position_at (held_in p) now o).0)) in
      rw (o, some)

  -- key 00 and key 0D are accepted
  recounted : (press book p 0x00).panel ≡ panel_of (in_book book) (typing (typed_in p) its)
  unfolding press
  recounted = rw (read_not_old book b, b, ok) (ap (panel_of (in_book book)) recounts)

  answered : (press book p 0x00).answer ≡ given (length now)
  unfolding press panel_of
  answered = rw (read_not_old book b, b, ok, recounts)

  taken : (press book p 0x0D).panel ≡ panel_of (in_book book) (typing_after (in_book book) p 0x0D)
  unfolding press
  taken = rw (read_not_old book b, b, ok)

  still_on : StillOn now p (press book p 0x00) (press book p 0x0D)
  unfolding panel_of
  still_on =
      let it = (position_at (held_in p) now o).1 in
      let t = typing (typed_in p) its in
      record {
        counted = answered;
        text = rw recounted (text-shown (in_book book) t);
        on_name = rw recounted it;
        held = rw recounted (name_shown (in_book book) t ∙ it);
        takes = rw taken (text-shown (in_book book) (typing_after (in_book book) p 0x0D) ∙ takes ∙ it);
      }

pub stays_on_its_name_lem : StaysOnItsName
stays_on_its_name_lem first second p key n h b o =
    still_on second (press first p key).panel b (holds_its_name_lem first p key n h).allowed o
