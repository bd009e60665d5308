-- What is known of a key among the names of entries: its place, the end of what it begins, and whether it stands there.
use Prim.Native.Nat.{ℕ}
use mathlib.Core.Path.{◌∙◌, ◌≡◌, refl}
use mathlib.Core.Bool.{Bool, false, true}
use mathlib.Core.List.{List, [], ◌∷◌}
use lib.Dec.{ltb}
use lib.ListN.{length}
use native.Mathlib.Omega.{arith}
use borrow.Author.Tests.{ltb-false, ltb-true}
use Rattle.octets.proofs.Tests.{by_test}
use Rattle.entries.specs.Entries.{Entry, names}
use Rattle.entries.proofs.Valid.{length-names}
use Rattle.entries_laws.specs.Place.{is_at, is_before, place}
use Rattle.book_laws.proofs.Ahead.{names_at}
use Rattle.book_seek.specs.Seek.{Seeking, place_in}
use Rattle.book_seek.specs.declared.Seek.{Seek}

-- the place among names is the one among entries
pub place-names : (past : Bool) (key : List ℕ) (es : List Entry) → place_in past key (names es) ≡ place past key es
unfolding place_in place
place-names past key [] = refl
place-names past key (e ∷ es) =
    let ih = place-names past key es in
    by_test (is_before past key e) (λ t. rw (t, ih)) (λ t. rw (t, ih))

module _ {key : List ℕ} {start : ℕ} (es : List Entry) {s : Seek} (g : Seeking key start (names es) s) where
  pub seeking_place : s.place ≡ place false key es
  seeking_place = g.place ∙ place-names false key es

  pub seeking_past : s.past ≡ place true key es
  seeking_past = g.past ∙ place-names true key es

  pub seeking_same : s.same ≡ is_at es s.place key
  seeking_same =
      let n = length-names es in
      by_test (ltb s.place (length es))
      (λ t.
      let h = ltb-true s.place (length es) t in
      g.equal (omega arith) ∙ rw (t, names_at es s.place h))
      (λ t. let h = ltb-false s.place (length es) t in g.none (omega arith) ∙ rw t)
