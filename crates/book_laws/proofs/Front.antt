-- The records in front of a position, and one more; cursors that stand in front of a position.
use Prim.Native.Nat.{◌+◌, ◌<◌, suc, ℕ}
use mathlib.Core.Path.{◌∙◌, ◌≡◌, ap, refl}
use mathlib.Core.List.{List, [], ◌++◌, ◌∷◌, append-nil}
use lib.ListN.{length, length-append, take}
use lib.Seq.{length-take-le, take-suc}
use native.Mathlib.Omega.{arith}
use Rattle.entries.specs.Entries.{Entry, at, names}
use Rattle.entries.proofs.Valid.{length-names}
use Rattle.book.specs.Records.{last_or, record_of, records}
use Rattle.book.proofs.Records.{records-append}
use Rattle.book_laws.specs.Ahead.{name_before, record_at_in}
use Rattle.book.specs.declared.Layout.{Layout}
use Rattle.book_laws.proofs.Ahead.{names_at}

-- names up to a position, and one more
pub names_next :
    (es : List Entry) (i : ℕ) → i < length es → take (suc i) (names es) ≡ take i (names es) ++ ((at es i).name ∷ [])
names_next es i h =
    let n = length-names es in
    take-suc (names es) i [] (omega arith) ∙ ap (λ v. take i (names es) ++ (v ∷ [])) (names_at es i h)

-- records up to a position, and one more
module _ (l : Layout) (es : List Entry) (i : ℕ) (h : i < length es) where
  abbrev w : List ℕ
  w = (at es i).name

  abbrev prev : List ℕ
  prev = name_before es i

  pub records_next : records l.heads 0 [] (take (suc i) (names es)) ≡ records l.heads 0 [] (take i (names es))
      ++ record_of l.heads i prev w
  records_next =
      let n = length-names es in
      let k : 0 + length (take i (names es)) ≡ i = rw (length-take-le i (names es) (omega arith)) (omega arith) in
      ap (records l.heads 0 []) (names_next es i h)
      ∙ records-append l.heads (take i (names es)) (w ∷ []) 0 []
      ∙ rw (k, append-nil (record_of l.heads i prev w))

  pub last_next : name_before es (suc i) ≡ w
  last_next = ap (last_or []) (names_next es i h) ∙ last_of (take i (names es)) [] w
    where
      last_of : (ws : List (List ℕ)) (p v : List ℕ) → last_or p (ws ++ (v ∷ [])) ≡ v
      last_of [] p v = refl
      last_of (x ∷ ws) p v = last_of ws x v

  pub record_next : record_at_in l es (suc i) ≡ record_at_in l es i + length (record_of l.heads i prev w)
  record_next =
      let z = ap length records_next ∙ length-append (records l.heads 0 [] (take i (names es)))
      (record_of l.heads i prev w) in
      omega arith
