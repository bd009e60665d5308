-- What completion is asked, checked in the table's order: the first check that applies, or none.
use Prim.Native.Nat.{◌*◌, ◌<◌, ◌≤◌, ℕ}
use mathlib.Core.Path.{◌≡◌}
use mathlib.Core.Bool.{Bool, false, true}
use mathlib.Core.List.{List}
use native.Mathlib.Omega.{arith}
use borrow.Author.Tests.{eq-eqb, le-ltb, lt-ltb, ne_eqb}
use Rattle.std.specs.Prelude.{Err, Ok}
use Rattle.entries.specs.Completion.{max_count}
use Rattle.entries.specs.Names.{is_prefix}
use Rattle.answer.specs.declared.Refusal.{Refusal}
use Rattle.answer.specs.declared.Refusal.TheVariants as refusal
use Rattle.book_check.specs.Checked.{Declined, Known}
use Rattle.book_check.specs.declared.known.Checked.{Checked}
use Rattle.book_check.proofs.Refusing.{passed, refused_first}
use Rattle.completion.specs.Complete.{entry_room}
use Rattle.completion_book.specs.Offers.{AskedAs}

pub for_the_book : {book : List ℕ} (p : List ℕ) (k room lent : ℕ) {r : Refusal} → Declined book r
    → AskedAs book p k room lent (Err r)
for_the_book p k room lent d a = rw (refused_first d _ a)

module _ {book p : List ℕ} (k room lent : ℕ) {c : Checked} (known : Known book p c) where
  module _ {b : Bool} (test : b ≡ is_prefix p) where
    pub not_allowed : b ≡ false → AskedAs book p k room lent (Err refusal.NotAllowed)
    not_allowed f a = rw (passed known _ a, ← test, f)

    module _ (allowed : b ≡ true) where
      pub for_none : k ≡ 0 → AskedAs book p k room lent (Err refusal.CountOutOfRange)
      for_none e a = rw (passed known _ a, ← test, allowed, eq-eqb k 0 e)

      module _ (some : k ≡ 0 → ⊥) where
        pub for_many : max_count < k → AskedAs book p k room lent (Err refusal.CountOutOfRange)
        for_many l a = rw (passed known _ a, ← test, allowed, ne_eqb k 0 some, lt-ltb max_count k l)

        module _ (few : k ≤ max_count) where
          pub no_room : room < entry_room * k → AskedAs book p k room lent (Err refusal.TooShort)
          no_room l a =
              rw (
                passed known _ a,
                ← test,
                allowed,
                ne_eqb k 0 some,
                le-ltb max_count k few,
                lt-ltb room (entry_room * k) l,
              )

          module _ (fits : entry_room * k ≤ room) where
            pub no_slots : lent < k → AskedAs book p k room lent (Err refusal.TooShort)
            no_slots l a =
                rw (
                  passed known _ a,
                  ← test,
                  allowed,
                  ne_eqb k 0 some,
                  le-ltb max_count k few,
                  le-ltb room (entry_room * k) fits,
                  lt-ltb lent k l,
                )

            pub none_refused : k ≤ lent → AskedAs book p k room lent (Ok c)
            none_refused l =
                record {
                  clear = λ a.
                      rw (
                        passed known _ a,
                        ← test,
                        allowed,
                        ne_eqb k 0 some,
                        le-ltb max_count k few,
                        le-ltb room (entry_room * k) fits,
                        le-ltb lent k l,
                      );
                  known = known;
                  waits = record { few = few; some = positive; enough = l };
                  fits = fits;
                }
              where
                positive : 0 < lent
                positive = omega arith
