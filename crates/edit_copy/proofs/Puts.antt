-- What stands behind the place of an edit: its header, its size, and how it is stored.
use Prim.Native.Nat.{◌+◌, ◌-◌, ◌<◌, ◌≤◌, min, ℕ}
use mathlib.Core.Path.{◌∙◌, ◌≡◌, ap, sym}
use mathlib.Core.List.{List, [], ◌++◌, ◌∷◌, append-nil}
use lib.ListN.{drop, drop_of_length-le, get_or, length, length-append, length-drop}
use lib.Seq.{length-take-le, sets}
use native.Mathlib.Omega.{arith}
use borrow.Author.Tests.{le-leb, lt-leb}
use Rattle.octets.specs.Octets.{be}
use Rattle.octets.proofs.Coding.{length-be}
use Rattle.octets.proofs.Stores.{sets-append, sets-overwrite}
use Rattle.book_laws.specs.Check.{score_start}
use Rattle.book_seek.specs.declared.Seek.{Seek}
use Rattle.edit_copy.specs.Copies.{Bytes, HeaderPut, ScoresRoom, behind_bytes, behind_size, header_bytes, header_of}
use Rattle.edit_copy.specs.Copies.{behind_gone, behind_new, nothing, part, scores_spliced, scores_with}
use Rattle.edit_copy.specs.declared.Behind.{Behind}
use Rattle.edit_copy.specs.declared.Header.{Header}
use Rattle.std.specs.Prelude.{Option, Some, None}

module _ (b : Behind) where
  pub no_header : b.header ≡ None → header_of b ≡ []
  no_header e = ap header_bytes e

  pub has_header : {h : Header} → b.header ≡ Some h → header_of b ≡ h.kept ∷ h.own ∷ []
  has_header e = ap header_bytes e

  -- the size
  pub size_without : (end : ℕ) {r : ℕ} → b.header ≡ None → r ≡ b.lent + (end - b.rest) → r ≡ behind_size end b
  size_without end e s = let h = ap length (no_header e) in omega arith

  pub size_with :
      (end : ℕ) {h : Header} {r : ℕ} → b.header ≡ Some h → r ≡ b.lent + (end - b.rest) → 2 + r ≡ behind_size end b
  size_with end e s = let h = ap length (has_header e) in omega arith

  -- the header stored
  pub header_left : (d : List ℕ) (at : ℕ) → b.header ≡ None → HeaderPut d d at b at
  header_left d at e =
      let h = ap length (no_header e) in
      record { bytes = sym (ap (sets d at) (no_header e)); end = omega arith }

  pub header_stored :
      (d new : List ℕ) (at : ℕ) {h : Header} → b.header ≡ Some h → new ≡ sets d at (h.kept ∷ h.own ∷ [])
      → HeaderPut d new at b (at + 2)
  header_stored d new at e s =
      let h = ap length (has_header e) in
      record { bytes = s ∙ sym (ap (sets d at) (has_header e)); end = omega arith }

header_most_of : (h : Option Header) → length (header_bytes h) ≤ 2
header_most_of None = omega arith
header_most_of (Some h) = omega arith

pub header_most : (b : Behind) → length (header_of b) ≤ 2
header_most b = header_most_of b.header

-- the length of a part
pub part_long : (s : List ℕ) (x y : ℕ) → y ≤ length s → length (part x y s) ≡ y - x
part_long s x y h = let d = length-drop x s in length-take-le (y - x) (drop x s) (omega arith)

-- all of it stored, one run behind the other
pub behind_put :
    (b : Behind) (d book : List ℕ) (at end : ℕ) {d₁ d₂ d₃ : List ℕ} {to : ℕ} → HeaderPut d d₁ at b to
    → b.from + b.lent ≤ length book
    → d₂ ≡ sets d₁ to (part b.from (b.from + b.lent) book)
    → d₃ ≡ sets d₂ (to + b.lent) (part b.rest end book) → d₃ ≡ sets d at (behind_bytes book end b)
behind_put b d book at end {d₁} {d₂} {d₃} {to} h inside second third =
    let run = part b.from (b.from + b.lent) book in
    let rest = part b.rest end book in
    let m : length run ≡ b.lent = part_long book b.from (b.from + b.lent) inside ∙ omega arith in
    let e = h.end in
    let z : to + b.lent ≡ at + length (header_of b) + length run = omega arith in
    let front : d₁ ≡ sets d at (header_of b) = h.bytes in
    third
    ∙ ap (λ k. sets d₂ k rest) z
    ∙ ap (λ x. sets x (at + length (header_of b) + length run) rest)
    (second ∙ ap (λ k. sets d₁ k run) h.end ∙ ap (λ x. sets x (at + length (header_of b)) run) front)
    ∙ sets-append (sets d at (header_of b)) run rest (at + length (header_of b))
    ∙ sets-append d (header_of b) (run ++ rest) at

-- so many bytes
pub behind_long :
    (b : Behind) (book : List ℕ) (end : ℕ) {bs : List ℕ} → Bytes book end bs b → behind_size end b ≡ length bs
behind_long b book end {bs} h =
    let w = h.within in
    let i = h.inside in
    let x = part_long book b.from (b.from + b.lent) (omega arith) in
    let y = part_long book b.rest end i in
    let run = part b.from (b.from + b.lent) book in
    let rest = part b.rest end book in
    let p = length-append (header_of b) (run ++ rest) in
    let q = length-append run rest in
    let e = ap length h.bytes in
    omega arith

-- the scores stored, one run behind the other
pub scores_put :
    (d book own : List ℕ) {n i next cut from end : ℕ} {d₁ d₂ d₃ : List ℕ} → ScoresRoom book n i own next
    → cut ≡ score_start i → from ≡ score_start next → end ≡ score_start n → d₁ ≡ sets d 7 (part 7 cut book)
    → d₂ ≡ sets d₁ cut own → d₃ ≡ sets d₂ (cut + length own) (part from end book)
    → d₃ ≡ sets d 7 (scores_spliced book n i own next)
scores_put d book own {n} {i} {next} {cut} {from} {end} {d₁} {d₂} {d₃} v ec ef ee e₁ e₂ e₃ =
    let front = part 7 cut book in
    let back = part from end book in
    let a = v.front in
    let long : length front ≡ cut - 7 = part_long book 7 cut (omega (arith, a.within, a.inside)) in
    let z : cut ≡ 7 + length front = omega arith in
    let all : d₃ ≡ sets d 7 (front ++ (own ++ back)) =
    e₃
    ∙ ap (λ x. sets x (cut + length own) back) (e₂ ∙ ap (λ x. sets x cut own) e₁)
    ∙ ap (λ k. sets (sets (sets d 7 front) k own) (k + length own) back) z
    ∙ sets-append (sets d 7 front) own back (7 + length front)
    ∙ sets-append d front (own ++ back) 7
    in
    rw (ec, ef, ee) at all

-- a score, its bytes written to an array of their own and stored in front of those from its position on
pub score_put :
    (d own book into : List ℕ) (n i score : ℕ) {new : List ℕ} → length d ≡ 4 → own ≡ sets d 0 (be 4 score)
    → new ≡ sets into 7 (scores_spliced book n i own i) → new ≡ sets into 7 (scores_with book n i score)
score_put d own book into n i score long e put =
    let b = length-be 4 score in
    let z : own ≡ be 4 score =
    e
    ∙ sets-overwrite d (be 4 score) (omega arith)
    ∙ ap (λ l. be 4 score ++ l) (drop_of_length-le d {i = length (be 4 score)} (omega arith))
    ∙ append-nil (be 4 score)
    in
    put ∙ ap (λ l. sets into 7 (scores_spliced book n i l i)) z

-- what the code reads behind the place: nothing, or a header
pub new_none :
    (book : List ℕ) (end n : ℕ) (s : Seek) {r : Behind} → n ≤ s.place → r ≡ nothing end → r ≡ behind_new book end n s
new_none book end n s h e = rw (le-leb n s.place h) e

pub new_some :
    (book : List ℕ) (end n : ℕ) (s : Seek) → s.place < n
    → record {
      header = Some (record { kept = s.above; own = get_or book (s.at + 1) 0 - (s.above - get_or book s.at 0) });
      from = 0;
      lent = 0;
      rest = s.at + 2 + (s.above - get_or book s.at 0);
    } ≡ behind_new book end n s
new_some book end n s h = rw (lt-leb n s.place h)

pub gone-none :
    (book : List ℕ) (end at kept own : ℕ) {r : Behind} → end ≤ at + 2 + own → r ≡ nothing end
    → r ≡ behind_gone book end at kept own
gone-none book end at kept own h e = rw (le-leb end (at + 2 + own) h) e

pub gone-some :
    (book : List ℕ) (end at kept own : ℕ) {new : ℕ} → at + 2 + own < end
    → new ≡ min kept (get_or book (at + 2 + own) 0)
    → record {
      header = Some (record {
        kept = new;
        own = get_or book (at + 2 + own) 0 - new + get_or book (at + 2 + own + 1) 0;
      });
      from = at + 2;
      lent = get_or book (at + 2 + own) 0 - new;
      rest = at + 2 + own + 2;
    } ≡ behind_gone book end at kept own
gone-some book end at kept own h e = rw (lt-leb end (at + 2 + own) h, e)
