-- A rest stored with the bytes behind it: the front of the array is the kept bytes and the rest.
use Prim.Native.Nat.{◌+◌, ◌≤◌, ℕ}
use mathlib.Core.Path.{◌∙◌, ◌≡◌, ap, sym}
use mathlib.Core.List.{List, ◌++◌}
use lib.ListN.{drop, length, length-drop, length-set, set, take}
use lib.Seq.{length-sets, length-take-le, sets, take-append-add, take-set-le, take-take}
use native.Mathlib.Omega.{arith}
use Rattle.octets.proofs.Stores.{take-sets}

stored_front :
    (name vs : List ℕ) (k n : ℕ) → k + length vs ≤ length name → n ≤ length vs
    → take (k + n) (sets name k vs) ≡ take k name ++ take n vs
stored_front name vs k n h q =
    let a = take-sets name k vs h in
    let l = length-take-le k name (omega arith) in
    let t = take-take (k + n) (k + length vs) (sets name k vs) (omega arith) in
    sym t ∙ ap (take (k + n)) a ∙ ap (λ i. take (i + n) (take k name ++ vs)) (sym l)
    ∙ take-append-add (take k name) vs n

module _
    (name buf : List ℕ) (kept from own m : ℕ) (few : own ≤ m) (inside : from + m ≤ length buf)
    (room : kept + m ≤ length name)
    (after : List ℕ) (e : after ≡ set (sets name kept (take m (drop from buf))) (kept + own) 0)
  where
    pub stored_rest : take (kept + own) after ≡ take kept name ++ take own (drop from buf)
    stored_rest =
        let vs = take m (drop from buf) in
        let l = length-take-le m (drop from buf) (omega (arith, length-drop from buf)) in
        rw e
        (take-set-le (kept + own) (sets name kept vs) (kept + own) 0 (omega arith)
        ∙ stored_front name vs kept own (omega arith) (omega arith)
        ∙ ap (λ l. take kept name ++ l) (take-take own m (drop from buf) few))

    pub stored_long : length after ≡ length name
    stored_long = ap length e ∙ simp (length-set, length-sets)
