-- The range of a prefix in a book that was checked, from what the search for it told.
use Prim.Native.Nat.{◌-◌, ◌<◌, ◌≤◌, ℕ}
use mathlib.Core.Path.{◌≡◌, refl}
use mathlib.Core.Bool.{true}
use mathlib.Core.List.{List}
use lib.ListN.{length}
use native.Mathlib.Omega.{arith}
use Rattle.entries.specs.Entries.{names}
use Rattle.entries.specs.Names.{is_prefix}
use Rattle.answer.specs.Answers.{Answer, SpanCounts, given}
use Rattle.book.specs.Book.{in_book, is_book}
use Rattle.book_laws.specs.Held.{Held}
use Rattle.book_seek.specs.Seek.{Seeking}
use Rattle.book_seek.specs.declared.Seek.{Seek}
use Rattle.lookup.specs.Lookups.{prefix_range}
use Rattle.book.proofs.Checks.{read_not_old}
use Rattle.book_laws.proofs.Held.{held-valid}
use Rattle.book_seek.proofs.Found.{seeking_past, seeking_place}
use Rattle.lookup.proofs.Lookups.{range_none, range_some}

module _ (b p : List ℕ) {start : ℕ} {s : Seek} (ok : is_book b ≡ true) (k : is_prefix p ≡ true)
    (g : Seeking p start (names (in_book b)) s) where
  pub span_none :
      s.past ≤ s.place → ◌≡◌ {A = Answer SpanCounts} (given (record { first = 0; count = 0 })) (prefix_range b p)
  unfolding prefix_range
  span_none l =
      let m = range_none p (in_book b) (omega (arith, seeking_place (in_book b) g, seeking_past (in_book b) g)) in
      rw (read_not_old b ok, ok, k, m.0, m.1)

  pub span_some :
      s.place < s.past
      → ◌≡◌ {A = Answer SpanCounts} (given (record { first = s.place; count = s.past - s.place })) (prefix_range b p)
  unfolding prefix_range
  span_some l =
      let h : Held b (length (in_book b)) = record { is_it = ok; count = refl } in
      let i = seeking_place (in_book b) g in
      let j = seeking_past (in_book b) g in
      let m = range_some p (in_book b) (held-valid h).order (omega arith) in
      rw (read_not_old b ok, ok, k, m.0, m.1, i, j)
