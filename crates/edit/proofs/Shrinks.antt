-- A withdrawal makes the image of a book without heads shorter, so it always fits where the old image fits.
use Prim.Native.Nat.{◌+◌, ◌≤◌, suc, ℕ}
use mathlib.Core.Path.{◌∙◌, ◌≡◌, ap}
use mathlib.Core.Bool.{false, true}
use mathlib.Core.List.{List, [], ◌++◌, ◌∷◌}
use lib.ListN.{drop, length, length-append, take}
use lib.Seq.{split_at}
use native.Mathlib.Numerals.{add-one}
use native.Mathlib.Omega.{arith}
use Rattle.octets.proofs.Lists.{map-append}
use Rattle.entries.specs.Entries.{Entry, at, holds, names, no_entry, position, rising, without}
use Rattle.entries_laws.proofs.Place.{position_at}
use Rattle.entries_laws.proofs.Splice.{without-spliced}
use Rattle.book.specs.declared.Layout.{Layout}
use Rattle.book.specs.Book.{image_in}
use Rattle.book.proofs.Splices.{image_off, records-at_off, records_shorter}

module _ (l : Layout) (off : l.heads ≡ false) where
  left_out :
      (es : List Entry) (e : Entry) (fs : List Entry)
      → length (image_in l (es ++ fs)) + 6 ≤ length (image_in l (es ++ (e ∷ fs)))
  left_out es e fs =
      let a = length-append es fs in
      let b = length-append es (e ∷ fs) in
      let r = records_shorter 0 [] (names es) e.name (names fs) in
      rw (
        image_off l off (es ++ fs),
        image_off l off (es ++ (e ∷ fs)),
        records-at_off l off (length (es ++ fs)),
        records-at_off l off (length (es ++ (e ∷ fs))),
        map-append (λ (f : Entry). f.name) es fs,
        map-append (λ (f : Entry). f.name) es (e ∷ fs),
      )
      (omega arith)

  -- four bytes of the score and two of the record at least
  pub withdrawn_shorter :
      (w : List ℕ) (es : List Entry) → rising es ≡ true → holds w es ≡ true
      → length (image_in l (without w es)) + 6 ≤ length (image_in l es)
  withdrawn_shorter w es r h =
      let p = (position_at w es h).0 in
      let s = split_at es (position w es) no_entry p in
      let o = left_out (take (position w es) es) (at es (position w es)) (drop (suc (position w es)) es) in
      let x = ap (λ fs. length (image_in l fs))
      (without-spliced w es r h ∙ ap (λ k. take (position w es) es ++ drop k es) (add-one (position w es))) in
      let y = ap (λ fs. length (image_in l fs)) s in
      omega arith
