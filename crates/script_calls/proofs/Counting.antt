-- Counting the calls of a script: those counted and those that are left are all of them.
use Prim.Native.Nat.{◌+◌, ◌-◌, ◌<◌, ◌≤◌, ℕ}
use mathlib.Core.Path.{◌∙◌, ◌≡◌, ap, refl, sym}
use mathlib.Core.Bool.{false, true}
use mathlib.Core.List.{List}
use mathlib.Core.Option as maybe
use Rattle.std.proofs.Common.{None, Some}
use lib.ListN.{drop, get_or, length, length-drop}
use native.Mathlib.Omega.{arith}
use borrow.Author.Tests.{le-leb, le-ltb, lt-leb, lt-ltb}
use Rattle.octets.specs.Octets.{number_at}
use Rattle.octets.proofs.Tests.{by_test}
use Rattle.ledger.specs.Ledger.{Edit}
use Rattle.script_calls.specs.Code.{counted_as, found_length}
use Rattle.script.specs.Script.{call_at, call_length, calls, is_call, with_call}
use Rattle.script.proofs.Script.{call-stands, calls_at, calls_end, calls-none}

-- a length was found exactly where a call stands
pub found_call : (bs : List ℕ) {len : ℕ} → Some len ≡ found_length bs → (is_call bs ≡ true) × (len ≡ call_length bs)
found_call bs {len} e = by_test (is_call bs) (λ t. (t, go (rw t at e))) (λ t. gone (rw t at e))
  where
    go : Some len ≡ Some (call_length bs) → len ≡ call_length bs
    go q = cc

    gone : Some len ≡ None → (is_call bs ≡ true) × (len ≡ call_length bs)
    gone q = cc

pub found_none : (bs : List ℕ) → None ≡ found_length bs → is_call bs ≡ false
found_none bs e = by_test (is_call bs) (λ t. gone (rw t at e)) (λ t. t)
  where
    gone : None ≡ Some (call_length bs) → is_call bs ≡ false
    gone q = cc

-- the tests of a call's front, in order
pub short_none : (bs : List ℕ) → length bs < 7 → None ≡ found_length bs
unfolding is_call
short_none bs h = rw (lt-leb 7 (length bs) h)

module _ (bs : List ℕ) (h : 7 ≤ length bs) where
  pub kind_none : 2 ≤ get_or bs 0 0 → None ≡ found_length bs
  unfolding is_call
  kind_none l = rw (le-leb 7 (length bs) h, le-ltb (get_or bs 0 0) 2 l)

  module _ (l : get_or bs 0 0 < 2) {n : ℕ} (e : n ≡ number_at 2 bs 5) where
    pub cut_none : length bs - 7 < n → None ≡ found_length bs
    unfolding is_call
    cut_none m = rw (le-leb 7 (length bs) h, lt-ltb (get_or bs 0 0) 2 l, lt-leb (call_length bs) (length bs) (omega arith))

    pub whole_found : n ≤ length bs - 7 → Some (7 + n) ≡ found_length bs
    unfolding is_call
    whole_found m = rw (
      le-leb 7 (length bs) h,
      lt-ltb (get_or bs 0 0) 2 l,
      le-leb (call_length bs) (length bs) (omega arith),
      e,
    )

counted_onward : (n : ℕ) (c : Edit) (o : maybe.Option (List Edit)) → counted_as n (with_call c o) ≡ counted_as (n + 1) o
counted_onward n c maybe.none = refl
counted_onward n c (maybe.some cs) = ap Some (omega arith)

pub record Counting (script : List ℕ) (at n : ℕ) : Type 0 where
  pub within : at ≤ length script
  pub low : n ≤ at
  pub same : counted_as n (calls (drop at script)) ≡ counted_as 0 (calls script)

pub count_start : (script : List ℕ) → Counting script 0 0
count_start script = record { within = omega arith; low = omega arith; same = refl }

module _ {script : List ℕ} {at n : ℕ} (k : Counting script at n) where
  module _ {len : ℕ} (e : Some len ≡ found_length (drop at script)) where
    pub count_on : Counting script (at + len) (n + 1)
    count_on =
        let f = found_call (drop at script) e in
        let s = call-stands (drop at script) f.0 in
        let l = length-drop at script in
        let q = ap (counted_as n) (calls_at script at f.0 f.1)
        ∙ counted_onward n (call_at (drop at script)) (calls (drop (at + len) script)) in
        record {
          within = omega (arith, s.whole, s.long, k.within, f.1);
          low = omega (arith, k.low, f.1);
          same = sym q ∙ k.same;
        }

    pub count_less : at < at + len
    count_less = omega (arith, (found_call (drop at script) e).1)

  pub count-damaged : at < length script → None ≡ found_length (drop at script) → None ≡ counted_as 0 (calls script)
  count-damaged h z =
      let l = length-drop at script in
      ap (counted_as n) (sym (calls-none (drop at script) (omega arith) (found_none (drop at script) z))) ∙ k.same

  pub count_end : length script ≤ at → Some n ≡ counted_as 0 (calls script)
  count_end h =
      let l = length-drop at script in
      let z : n ≡ n + 0 = omega arith in
      ap Some z ∙ ap (counted_as n) (sym (calls_end (drop at script) (omega arith))) ∙ k.same
