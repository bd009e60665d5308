-- The tests of a command line, in the order in which the functions make them.
use Prim.Native.Nat.{◌+◌, ◌<◌, ◌≤◌, suc, ℕ}
use mathlib.Core.Path.{◌∙◌, ◌≡◌, ap, refl, sym}
use mathlib.Core.Bool.{Bool, ◌&&◌, false, true}
use mathlib.Core.List.{List}
use lib.Dec.{leb, ltb}
use lib.ListN.{drop, length, length-drop}
use lib.Seq.{drop-drop}
use native.Mathlib.Numerals.{add-one}
use native.Mathlib.Omega.{arith}
use Rattle.std.proofs.Common.{Err, None, Ok, Result, Some}
use Rattle.std.specs.Result.{OkIff, is_ok, result_ok}
use borrow.Author.Tests.{le-leb, le-ltb, lt-leb, lt-ltb}
use Rattle.octets.specs.Decimal.{value_on}
use Rattle.octets.specs.Octets.{begins}
use Rattle.octets.specs.Text.{text}
use Rattle.octets.proofs.Order.{begins-length}
use Rattle.octets.proofs.Tests.{and_true_both, by_test}
use Rattle.program.specs.Program as program
use Rattle.program.specs.Program.{bad, command_of, digits, edit, has_number, numbered, top}
use Rattle.ledger.specs.Ledger.{set_name}
use Rattle.program_parse.specs.Parsing.{Asks, number_as, number_of}
use Rattle.program_parse.specs.declared.Command.TheVariants as command
use Rattle.program_parse.specs.declared.Number.{Number}

-- the number at the front: no digits, too many, too large, no space behind; else it is one
module _ (s : List ℕ) {n : ℕ} (e : n ≡ length (digits s)) where
  pub number-none : n < 1 → None ≡ number_as s
  number-none h = rw (lt-leb 1 (length (digits s)) (omega arith))

  module _ (l : 1 ≤ n) where
    pub number_long : 10 < n → None ≡ number_as s
    number_long h = rw (le-leb 1 (length (digits s)) (omega arith), lt-leb (length (digits s)) 10 (omega arith))

    module _ (m : n ≤ 10) {v : ℕ} (q : v ≡ value_on 0 (digits s)) where
      pub number_large : 4294967296 ≤ v → None ≡ number_as s
      number_large h =
          rw (
            le-leb 1 (length (digits s)) (omega arith),
            le-leb (length (digits s)) 10 (omega arith),
            le-ltb (value_on 0 (digits s)) 4294967296 (omega arith),
          )

      module _ (f : v < 4294967296) {r : Bool} (w : r ≡ begins (text " ") (drop n s)) where
        space : r ≡ begins (text " ") (drop (length (digits s)) s)
        space = w ∙ ap (λ i. begins (text " ") (drop i s)) e

        pub number_unspaced : r ≡ false → None ≡ number_as s
        number_unspaced h =
            rw (
              le-leb 1 (length (digits s)) (omega arith),
              le-leb (length (digits s)) 10 (omega arith),
              lt-ltb (value_on 0 (digits s)) 4294967296 (omega arith),
              sym space ∙ h,
            )

        pub number-stands : {x : ℕ} → x ≡ v → r ≡ true → Some (record { value = x; length = n + 1 }) ≡ number_as s
        number-stands a h =
            rw (
              le-leb 1 (length (digits s)) (omega arith),
              le-leb (length (digits s)) 10 (omega arith),
              lt-ltb (value_on 0 (digits s)) 4294967296 (omega arith),
              sym space ∙ h,
              a,
              q,
              e,
              add-one (length (digits s)),
            )

-- a value that a number of four bytes holds, or does not
module _ {E : Type 0} {v : ℕ} where
  pub fits-none : (r : Result ℕ E) → OkIff r (v < 4294967296) v → false ≡ is_ok r → 4294967296 ≤ v
  fits-none (Ok x) h e = cc
  fits-none (Err x) h e = omega arith

  pub fits_some : {x : ℕ} (r : Result ℕ E) → OkIff r (v < 4294967296) v → Some x ≡ result_ok r → (v < 4294967296) × (x ≡ v)
  fits_some (Ok y) h e = (h.0, cc)
  fits_some (Err y) h e = cc

-- what a number found at the front is
record Found (bs : List ℕ) (n : Number) : Type 0 where
  pub has : has_number bs ≡ true
  pub is : n ≡ number_of bs
  pub within : n.length ≤ length bs

found_of_lem : (bs : List ℕ) (n : Number) → Some n ≡ number_as bs → Found bs n
found_of_lem bs n e = by_test (has_number bs) (λ t. go t (rw t at e)) (λ t. gone t (rw t at e))
  where
    go : has_number bs ≡ true → Some n ≡ Some (number_of bs) → Found bs n
    go t q =
        let ds = digits bs in
        let a = and_true_both (leb 1 (length ds)) (leb (length ds) 10
        && (ltb (value_on 0 ds) 4294967296 && begins (text " ") (drop (length ds) bs))) t in
        let b = and_true_both (leb (length ds) 10) (ltb (value_on 0 ds) 4294967296
        && begins (text " ") (drop (length ds) bs)) a.1 in
        let s = (and_true_both (ltb (value_on 0 ds) 4294967296) (begins (text " ") (drop (length ds) bs)) b.1).1 in
        let l = begins-length (text " ") (drop (length ds) bs) s in
        let x : n ≡ number_of bs = cc in
        let y : n.length ≡ suc (length ds) = ap (λ m. m.length) x in
        record { has = t; is = x; within = omega (arith, length-drop (length ds) bs) }

    gone : has_number bs ≡ false → Some n ≡ None → Found bs n
    gone t q = cc

missing_of : (bs : List ℕ) → None ≡ number_as bs → has_number bs ≡ false
missing_of bs e = by_test (has_number bs) (λ t. gone t (rw t at e)) (λ t. t)
  where
    gone : has_number bs ≡ true → None ≡ Some (number_of bs) → has_number bs ≡ false
    gone t q = cc

-- a line behind its word: no number, or one and the rest
module _ (line : List ℕ) (l : 4 ≤ length line) where
  numbered_none :
      (make : ℕ → List ℕ → program.Command) → None ≡ number_as (drop 4 line) → numbered make (drop 4 line) ≡ bad
  numbered_none make e = rw (missing_of (drop 4 line) e)

  module _ {n : Number} (e : Some n ≡ number_as (drop 4 line)) where
    found : Found (drop 4 line) n
    found = found_of_lem (drop 4 line) n e

    pub rest_within : 4 + n.length ≤ length line
    rest_within = omega (arith, found.within, length-drop 4 line)

    numbered_some :
        (make : ℕ → List ℕ → program.Command)
        → numbered make (drop 4 line) ≡ make n.value (drop (4 + n.length) line)
    numbered_some make =
        let ds = digits (drop 4 line) in
        let z : 4 + suc (length ds) ≡ 4 + n.length = ap (λ m. 4 + m.length) (sym found.is) in
        let d = drop-drop (suc (length ds)) 4 line ∙ ap (λ i. drop i line) z in
        rw (found.has, d, ap (λ m. m.value) (sym found.is))

-- the words in their order
module _ (line : List ℕ) where
  pub word_within : (w : List ℕ) → {r : Bool} → r ≡ begins w line → r ≡ true → length w ≤ length line
  word_within w e t = begins-length w line (sym e ∙ t)

  module _ {r : Bool} (e : r ≡ begins (text "set ") line) where
    module _ (h : r ≡ true) where
      pub set_none : None ≡ number_as (drop 4 line) → Asks line (command_of line) None
      unfolding command_of
      set_none q = rw (sym e ∙ h) (record { means = sym (numbered_none line (word_within (text "set ") e h) (λ n w. edit (set_name w n)) q); within = omega arith })

      pub set_line :
          {n : Number} → Some n ≡ number_as (drop 4 line)
          → Asks line (command_of line) (Some (command.Set n.value (4 + n.length)))
      unfolding command_of
      set_line q =
          let l = word_within (text "set ") e h in
          rw (sym e ∙ h) (record { means = sym (numbered_some line l q (λ n w. edit (set_name w n))); within = rest_within line l q })

    module _ (n : r ≡ false) {s : Bool} (f : s ≡ begins (text "top ") line) where
      module _ (h : s ≡ true) where
        pub top-none : None ≡ number_as (drop 4 line) → Asks line (command_of line) None
        unfolding command_of
        top-none q =
            rw (sym e ∙ n, sym f ∙ h) (record { means = sym (numbered_none line (word_within (text "top ") f h) top q); within = omega arith })

        pub top-line :
            {n : Number} → Some n ≡ number_as (drop 4 line)
            → Asks line (command_of line) (Some (command.Top n.value (4 + n.length)))
        unfolding command_of
        top-line q =
            let l = word_within (text "top ") f h in
            rw (sym e ∙ n, sym f ∙ h) (record { means = sym (numbered_some line l q top); within = rest_within line l q })

      module _ (m : s ≡ false) {d : Bool} (g : d ≡ begins (text "del ") line) where
        pub withdraw_line : d ≡ true → Asks line (command_of line) (Some (command.Withdraw 4))
        unfolding command_of
        withdraw_line h =
            let l = word_within (text "del ") g h in
            rw (sym e ∙ n, sym f ∙ m, sym g ∙ h) (record { means = refl; within = l })

        pub other_line : d ≡ false → Asks line (command_of line) None
        unfolding command_of
        other_line h = rw (sym e ∙ n, sym f ∙ m, sym g ∙ h) (record { means = refl; within = omega arith })
