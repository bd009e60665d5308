-- The calls of a script, one by one: the fuel does not matter, and each is followed by those of what is left.
use Prim.Native.Nat.{◌+◌, ◌<◌, ◌≤◌, suc, zero, ℕ}
use mathlib.Core.Path.{◌∙◌, ◌≡◌, ap, refl, sym}
use mathlib.Core.Bool.{◌&&◌, false, true}
use mathlib.Core.List.{List, [], ◌∷◌}
use mathlib.Core.Option.{none, some}
use lib.Dec.{leb, ltb}
use lib.ListN.{drop, get_or, length, length-drop}
use lib.Seq.{drop-drop}
use native.Mathlib.Omega.{arith}
use borrow.Author.Tests.{leb-true, ltb-true}
use Rattle.octets.proofs.Tests.{and_true_both}
use Rattle.script.specs.Script.{call_at, call_length, calls, calls_from, is_call, with_call}

-- enough fuel is as good as any more
fuel : (n m : ℕ) (bs : List ℕ) → length bs ≤ n → length bs ≤ m → calls_from n bs ≡ calls_from m bs
fuel zero zero [] h k = refl
fuel zero zero (b ∷ bs) h k = refl
fuel zero (suc m) [] h k = refl
fuel zero (suc m) (b ∷ bs) h k = absurd (omega arith)
fuel (suc n) zero [] h k = refl
fuel (suc n) zero (b ∷ bs) h k = absurd (omega arith)
fuel (suc n) (suc m) [] h k = refl
fuel (suc n) (suc m) (b ∷ bs) h k =
    let l = length-drop (call_length (b ∷ bs)) (b ∷ bs) in
    let ih = fuel n m (drop (call_length (b ∷ bs)) (b ∷ bs)) (omega arith) (omega arith) in
    rw ih

-- what a call at the front of bytes is
pub record CallStands (bs : List ℕ) : Type 0 where
  pub long : 7 ≤ length bs
  pub kind : get_or bs 0 0 < 2
  pub whole : call_length bs ≤ length bs

pub call-stands : (bs : List ℕ) → is_call bs ≡ true → CallStands bs
unfolding is_call
call-stands bs h =
    let p = and_true_both (leb 7 (length bs)) (ltb (get_or bs 0 0) 2 && leb (call_length bs) (length bs)) h in
    let q = and_true_both (ltb (get_or bs 0 0) 2) (leb (call_length bs) (length bs)) p.1 in
    record {
      long = leb-true 7 (length bs) p.0;
      kind = ltb-true (get_or bs 0 0) 2 q.0;
      whole = leb-true (call_length bs) (length bs) q.1;
    }

-- a call and what is behind it
calls_next : (bs : List ℕ) → is_call bs ≡ true → calls bs ≡ with_call (call_at bs) (calls (drop (call_length bs) bs))
unfolding calls
calls_next [] h = absurd (omega (arith, (call-stands [] h).long))
calls_next (b ∷ bs) h =
    let l = length-drop (call_length (b ∷ bs)) (b ∷ bs) in
    let f = fuel (length bs) (length (drop (call_length (b ∷ bs)) (b ∷ bs))) (drop (call_length (b ∷ bs)) (b
    ∷ bs)) (omega arith) (omega arith) in
    rw (h, f)

-- the same from an index on
pub calls_at :
    (script : List ℕ) (at : ℕ) {len : ℕ} → is_call (drop at script) ≡ true → len ≡ call_length (drop at script)
    → calls (drop at script) ≡ with_call (call_at (drop at script)) (calls (drop (at + len) script))
calls_at script at {len} t e =
    calls_next (drop at script) t
    ∙ ap (λ l. with_call (call_at (drop at script)) (calls l))
    (drop-drop (call_length (drop at script)) at script ∙ ap (λ i. drop (at + i) script) (sym e))

-- bytes, and no call at their front
pub calls-none : (bs : List ℕ) → 0 < length bs → is_call bs ≡ false → calls bs ≡ none
unfolding calls
calls-none [] l h = absurd (omega arith)
calls-none (b ∷ bs) l h = rw h

pub calls_end : (bs : List ℕ) → length bs ≡ 0 → calls bs ≡ some []
unfolding calls
calls_end [] l = refl
calls_end (b ∷ bs) l = absurd (omega arith)
