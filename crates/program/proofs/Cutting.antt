-- A command line's bytes past the 64th: they can change neither what is printed nor the entries held.
use Prim.Native.Nat.{◌+◌, ◌-◌, ◌<◌, ◌≤◌, suc, zero, ℕ}
use mathlib.Core.Path.{◌∙◌, ◌≡◌, ap, refl, sym}
use mathlib.Core.Bool.{Bool, false, true}
use mathlib.Core.List.{List, [], ◌++◌, ◌∷◌, append_assoc}
use lib.Dec.{leb}
use lib.ListN.{drop, length, length-take, take}
use lib.Seq.{take_all}
use native.Mathlib.Omega.{arith}
use borrow.Author.Tests.{le-leb, leb-false, leb-true, lt-leb}
use Rattle.program.specs.Program as program
use Rattle.octets.specs.Decimal.{value_on}
use Rattle.octets.specs.Octets.{begins}
use Rattle.octets.specs.Text.{text}
use Rattle.octets.proofs.Lists.{drop-take}
use Rattle.octets.proofs.Tests.{by_test}
use Rattle.entries.specs.Entries.{Entry}
use Rattle.entries.specs.Names.{is_name, is_prefix}
use Rattle.ledger.specs.Ledger.{ledger_answer, ledger_step, set_name, withdraw_name}
use Rattle.program.specs.Program.{command_of, digits, edit, has_number, held_after, is_digit, numbered, printed, top}
use Rattle.program.specs.Theorem.{Alike, CutAlike}
use Rattle.program.specs.Console.{Console, console_after, fed_by, said_at, said_for}

begins_cut : (x s : List ℕ) (m : ℕ) → length x ≤ m → begins x (take m s) ≡ begins x s
begins_cut [] s m h = refl
begins_cut (a ∷ x) s zero h = absurd (omega arith)
begins_cut (a ∷ x) [] (suc m) h = refl
begins_cut (a ∷ x) (b ∷ s) (suc m) h = rw (begins_cut x s m (omega arith))

digits_cut : (m : ℕ) (s : List ℕ) → digits (take m s) ≡ take m (digits s)
digits_cut zero s = refl
digits_cut (suc m) [] = refl
digits_cut (suc m) (b ∷ s) = by_test (is_digit b) (λ t. rw t (ap (λ l. b ∷ l) (digits_cut m s))) (λ t. rw t)

-- a name or prefix of more than 48 bytes is not allowed, nor are its first 49
long_name_lem : (w : List ℕ) → 48 < length w → is_name w ≡ false
unfolding is_name is_prefix
long_name_lem w h = rw (le-leb 1 (length w) (omega arith), lt-leb (length w) 48 h)

long_prefix : (w : List ℕ) → 48 < length w → is_prefix w ≡ false
unfolding is_prefix
long_prefix w h = rw (lt-leb (length w) 48 h)

module _ (es : List Entry) where
  same_alike : {c d : program.Command} → c ≡ d → Alike es c d
  same_alike e = record { shown = ap (λ c. printed c es) e; held = ap (λ c. held_after c es) e }

  -- a rest of the line cut to 49 bytes or more: nothing is cut, or it is too long before and after
  cut_rest :
      (c : List ℕ → program.Command) → ((u v : List ℕ) → 48 < length u → 48 < length v → Alike es (c u) (c v))
      → (j : ℕ) (w : List ℕ) → 49 ≤ j → Alike es (c (take j w)) (c w)
  cut_rest c h j w l =
      by_test (leb (length w) j) (λ t. same_alike (ap c (take_all j w (leb-true (length w) j t))))
      (λ t. let n : j < length w = leb-false (length w) j t in
      h (take j w) w (omega (arith, length-take j w)) (omega arith))

  set_long : (n : ℕ) (u v : List ℕ) → 48 < length u → 48 < length v → Alike es (edit (set_name u n)) (edit (set_name v n))
  unfolding ledger_answer ledger_step
  set_long n u v h k = record { shown = rw (long_name_lem u h, long_name_lem v k); held = rw (long_name_lem u h, long_name_lem v k) }

  withdraw_long : (u v : List ℕ) → 48 < length u → 48 < length v
      → Alike es (edit (withdraw_name u)) (edit (withdraw_name v))
  unfolding ledger_answer ledger_step
  withdraw_long u v h k = record { shown = rw (long_name_lem u h, long_name_lem v k); held = rw (long_name_lem u h, long_name_lem v k) }

  top_long : (n : ℕ) (u v : List ℕ) → 48 < length u → 48 < length v → Alike es (top n u) (top n v)
  top_long n u v h k = record { shown = rw (long_prefix u h, long_prefix v k); held = refl }

-- a number, where the bytes from it on are cut to 60 or more
module _ (s : List ℕ) (m : ℕ) (l : 60 ≤ m) where
  digits_same : length (digits s) ≤ 10 → digits (take m s) ≡ digits s
  digits_same h = digits_cut m s ∙ take_all m (digits s) (omega arith)

  number_long : (r : List ℕ) → 10 < length (digits r) → has_number r ≡ false
  number_long r h = rw (le-leb 1 (length (digits r)) (omega arith), lt-leb (length (digits r)) 10 h)

  number_cut : has_number (take m s) ≡ has_number s
  number_cut =
      by_test (leb (length (digits s)) 10)
      (λ t.
      let d = digits_same (leb-true (length (digits s)) 10 t) in
      let n = leb-true (length (digits s)) 10 t in
      let z = drop-take (length (digits s)) m s in
      rw (d, z, begins_cut (text " ") (drop (length (digits s)) s) (m - length (digits s)) (omega arith)))
      (λ t.
      let n : 10 < length (digits s) = leb-false (length (digits s)) 10 t in
      let e = ap length (digits_cut m s) in
      number_long (take m s) (omega (arith, length-take m (digits s))) ∙ sym (number_long s n))

  number_few : has_number s ≡ true → length (digits s) ≤ 10
  number_few h =
      by_test (leb (length (digits s)) 10) (λ t. leb-true (length (digits s)) 10 t)
      (λ t. let z : ◌≡◌ {A = Bool} false true = sym (number_long s (leb-false (length (digits s)) 10 t))
      ∙ h in absurd (let y : ◌≡◌ {A = ℕ} 0 1 = cc in omega arith))

  numbered_cut :
      (es : List Entry) (make : ℕ → List ℕ → program.Command)
      → ((n j : ℕ) (w : List ℕ) → 49 ≤ j → Alike es (make n (take j w)) (make n w))
      → Alike es (numbered make (take m s)) (numbered make s)
  numbered_cut es make h =
      by_test (has_number s)
      (λ t.
      let n = number_few t in
      let d = digits_same n in
      let z = drop-take (suc (length (digits s))) m s in
      let r = h (value_on 0 (digits s)) (m - suc (length (digits s))) (drop (suc (length (digits s))) s) (omega arith) in
      rw (number_cut ∙ t, t, d, z) r)
      (λ t. rw (number_cut ∙ t, t) (same_alike es refl))

-- the whole line
pub cut_alike_lem : CutAlike
unfolding command_of
cut_alike_lem line n es h =
    let s = drop 4 line in
    let z = drop-take 4 n line in
    by_test (begins (text "set ") line)
    (λ t. rw (
      begins_cut (text "set ") line n (omega arith)
          ∙ t,
      t,
      z,
    ) (numbered_cut s (n - 4) (omega arith) es (λ v w. edit (set_name w v))
    (λ v. cut_rest es (λ w. edit (set_name w v)) (set_long es v))))
    (λ t.
    by_test (begins (text "top ") line)
    (λ u. rw (
      begins_cut (text "set ") line n (omega arith) ∙ t,
      t,
      begins_cut (text "top ") line n (omega arith)
          ∙ u,
      u,
      z,
    ) (numbered_cut s (n - 4) (omega arith) es top (λ v. cut_rest es (top v) (top_long es v))))
    (λ u.
    by_test (begins (text "del ") line)
    (λ v.
    rw (
      begins_cut (text "set ") line n (omega arith) ∙ t,
      t,
      begins_cut (text "top ") line n (omega arith) ∙ u,
      u,
      begins_cut (text "del ") line n (omega arith) ∙ v,
      v,
      z,
    )
    (cut_rest es (λ w. edit (withdraw_name w)) (withdraw_long es) (n - 4) s (omega arith)))
    (λ v.
    rw (
      begins_cut (text "set ") line n (omega arith) ∙ t,
      t,
      begins_cut (text "top ") line n (omega arith) ∙ u,
      u,
      begins_cut (text "del ") line n (omega arith) ∙ v,
      v,
    )
    (same_alike es refl))))

-- what is kept of a line: cut once or twice, it is the same
pub take_twice : (n : ℕ) (a b : List ℕ) → take n (take n a ++ b) ≡ take n (a ++ b)
take_twice zero a b = refl
take_twice (suc n) [] b = refl
take_twice (suc n) (x ∷ a) b = ap (λ l. x ∷ l) (take_twice n a b)

-- two parts, one behind the other
pub after-append : (xs ys : List ℕ) (s : Console) → console_after (xs ++ ys) s ≡ console_after ys (console_after xs s)
after-append [] ys s = refl
after-append (x ∷ xs) ys s = after-append xs ys (fed_by x s)

pub said_append : (xs ys : List ℕ) (s : Console) → said_for (xs ++ ys) s ≡ said_for xs s ++ said_for ys (console_after xs s)
said_append [] ys s = refl
said_append (x ∷ xs) ys s = ap (λ l. said_at x s ++ l) (said_append xs ys (fed_by x s))
    ∙ sym (append_assoc (said_at x s) (said_for xs (fed_by x s)) (said_for ys (console_after xs (fed_by x s))))
