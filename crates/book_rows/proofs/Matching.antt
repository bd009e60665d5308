-- The rows of names that a prefix begins: the pass starts at the first of them, with the prefix for the name before.
use Prim.Native.Nat.{◌<◌, ◌≤◌, suc, zero, ℕ}
use mathlib.Core.Path.{◌∙◌, ◌≡◌}
use mathlib.Core.Bool.{false, true}
use mathlib.Core.List.{List, [], ◌∷◌}
use lib.ListN.{get_or, length}
use native.Mathlib.Omega.{arith}
use Rattle.octets.proofs.Order.{begins-length}
use Rattle.octets.proofs.Tests.{by_test}
use Rattle.entries.specs.Completion.{begun, first_match, matches}
use Rattle.entries.specs.Entries.{Entry, at, valid}
use Rattle.entries.proofs.Valid.{valid_of}
use Rattle.entries_laws.specs.Place.{place}
use Rattle.entries_laws.proofs.Place.{place_first, place_most}
use Rattle.book.specs.Book.{today}
use Rattle.book_laws.specs.Ahead.{record_at}
use Rattle.book_laws.specs.declared.Cursor.{Cursor}
use Rattle.book_laws.proofs.Front.{last_next}
use Rattle.book_name.specs.Poised.{Poised, Starts, kept_at}
use Rattle.book_name.proofs.Poising.{common_few, poised_primed}
use Rattle.book_rows.specs.Rows.{Fillable}
use Rattle.book_rows.proofs.Filling.{short_lem}

-- the first of the entries that a prefix begins, where there is one
record First (p : List ℕ) (es : List Entry) (i : ℕ) : Type 0 where
  pub low : first_match p es ≤ i
  pub some : 0 < length (matches p es)
  pub is : begun p (at es (first_match p es)) ≡ true
  pub before : (k : ℕ) → k < first_match p es → begun p (at es k) ≡ false

-- of one more entry: it is the first, or the first of the others is
first_here : (p : List ℕ) (e : Entry) (es : List Entry) (i : ℕ) → begun p e ≡ true → First p (e ∷ es) i
first_here p e es i t =
    let z : first_match p (e ∷ es) ≡ 0 = rw t in
    record {
      low = omega (arith, z);
      some = rw t (omega arith);
      is = rw z t;
      before = λ k l. absurd (omega (arith, z));
    }

first_there :
    (p : List ℕ) (e : Entry) (es : List Entry) (i : ℕ) → begun p e ≡ false → First p es i → First p (e ∷ es) (suc i)
first_there p e es i t m =
    record { low = omega (arith, z, m.low); some = rw t m.some; is = rw z m.is; before = earlier }
  where
    z : first_match p (e ∷ es) ≡ suc (first_match p es)
    z = rw t

    earlier : (k : ℕ) → k < first_match p (e ∷ es) → begun p (at (e ∷ es) k) ≡ false
    earlier zero l = t
    earlier (suc k) l = m.before k (omega (arith, z))

first_of : (p : List ℕ) (es : List Entry) (i : ℕ) → i < length es → begun p (at es i) ≡ true → First p es i
first_of p [] i h b = absurd (omega arith)
first_of p (e ∷ es) zero h b = first_here p e es 0 b
first_of p (e ∷ es) (suc i) h b =
    by_test (begun p e) (first_here p e es (suc i))
    (λ t. first_there p e es i t (first_of p es i (omega arith) b))

module _ (es : List Entry) (ok : valid es ≡ true) (prefix : List ℕ) where
  -- the record of the first match keeps no more bytes than the prefix has
  kept_few : (i : ℕ) → i < length es → First prefix es i → (f : ℕ) → f ≡ first_match prefix es
      → kept_at es f ≤ length prefix
  kept_few i h m zero e = omega arith
  kept_few i h m (suc k) e =
      let l = m.low in
      rw (last_next today es k (omega arith))
      (common_few prefix (at es k).name (at es (suc k)).name (m.before k (omega arith)) (rw e m.is))

  pub primed_match :
      {c : Cursor} {first from : ℕ} → Starts prefix first from c → first ≡ place false prefix es
      → from ≡ record_at es first
      → (i : ℕ) → i < length es → begun prefix (at es i) ≡ true
      → (c.index ≤ i) × Poised es c
  primed_match {c} {first} s e r i h b =
      let m = first_of prefix es i h b in
      let f : first ≡ first_match prefix es = e ∙ place_first prefix es (valid_of es ok).order m.some in
      let l : length prefix ≤ length (at es i).name = begins-length prefix (at es i).name b in (
        omega (arith, s.position, f, m.low),
        poised_primed es prefix s r (omega (arith, l, short_lem es ok i h)) (rw f m.is) (kept_few i h m first f),
      )

  pub fillable_primed :
      {c : Cursor} {first from : ℕ} → Starts prefix first from c → first ≡ place false prefix es
      → from ≡ record_at es first
      → (wanted : List ℕ)
      → ((j : ℕ) → j < length wanted
      → (get_or wanted j 0 < length es) × (begun prefix (at es (get_or wanted j 0)) ≡ true))
      → Fillable es c wanted
  fillable_primed s e r wanted m =
      record {
        within = omega (arith, s.position, e, place_most false prefix es);
        behind = λ j h. (primed_match s e r (get_or wanted j 0) (m j h).0 (m j h).1).0;
        inside = λ j h. (m j h).0;
        poised = λ h. (primed_match s e r (get_or wanted 0 0) (m 0 h).0 (m 0 h).1).1;
      }
