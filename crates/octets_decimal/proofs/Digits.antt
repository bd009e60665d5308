-- A number's decimal digits, put in from the last.
use Prim.Native.Nat.{◌%◌, ◌*◌, ◌+◌, ◌-◌, ◌/◌, ◌<◌, ◌^◌, ◌≤◌, suc, zero, ℕ}
use mathlib.Core.Path.{◌∙◌, ◌≡◌, ap, refl, sym}
use mathlib.Core.List.{List, [], ◌++◌, ◌∷◌, append_assoc}
use lib.ListN.{drop, length, length-append, length-drop, length-set, set, take, take-append-drop}
use lib.Seq.{drop-cons, drop-set-lt, get_or-set_same, sets-eq, take-set-le, take-take}
use native.Mathlib.Nat.{pow-suc}
use native.Mathlib.Omega.{arith}
use Rattle.octets.specs.Decimal.{decimal, decimal_to}
use Rattle.octets.proofs.Decimal.{decimal_more, decimal-one}
use Rattle.octets_decimal.specs.Digits.{Numbered}

-- a stored byte, and what is behind it
stored_here : (l : List ℕ) (i a : ℕ) → i < length l → drop i (set l i a) ≡ a ∷ drop (suc i) l
stored_here l i a h =
    drop-cons (set l i a) i 0 (rw (length-set l i a) h)
    ∙ rw (get_or-set_same l i a 0 h, drop-set-lt (suc i) l i a (omega arith))

-- the digits of what is left of the number, and those that are put in, are all of them; in front of them nothing moved
pub record Numbering (bytes : List ℕ) (end v : ℕ) (now : List ℕ) (at rest : ℕ) : Type 0 where
  pub room : end ≤ length bytes
  pub long : length now ≡ length bytes
  pub left : ℕ
  pub few : at + 10 ≡ end + left
  pub inside : at < end
  pub small : rest < 10 ^ suc left
  pub front : take (suc at) now ≡ take (suc at) bytes
  pub same : decimal_to (suc left) rest ++ drop (suc at) now ≡ decimal v ++ drop end bytes

pub number_start : (bytes : List ℕ) (end v : ℕ) → 10 ≤ end → end ≤ length bytes → v < 4294967296
    → Numbering bytes end v bytes (end - 1) v
unfolding decimal
number_start bytes end v h k l =
    let z : suc (end - 1) ≡ end = omega arith in
    record {
      room = k;
      long = refl;
      left = 9;
      few = omega arith;
      inside = omega arith;
      small = omega arith;
      front = refl;
      same = rw z;
    }

module _ {bytes : List ℕ} {end v : ℕ} {now : List ℕ} {at rest : ℕ} (k : Numbering bytes end v now at rest) where
  number_ahead : 10 ≤ rest → 1 ≤ k.left
  number_ahead h = go k.left refl
    where
      go : (f : ℕ) → k.left ≡ f → 1 ≤ k.left
      go zero e = let s : rest < 10 ^ 1 = rw e at k.small in absurd (omega arith)
      go (suc f) e = omega arith

  pub number_low : 10 ≤ end → 10 ≤ rest → 1 ≤ at
  number_low g h = omega (arith, number_ahead h, k.few)

  pub number_on : 10 ≤ end → 10 ≤ rest → Numbering bytes end v (set now at (48 + rest % 10)) (at - 1) (rest / 10)
  number_on g h =
      let z : suc (at - 1) ≡ at = omega (arith, number_low g h) in
      let y : suc (k.left - 1) ≡ k.left = omega (arith, number_ahead h) in
      let s : rest < 10 ^ k.left * 10 = rw (pow-suc 10 k.left) at k.small in
      let b = 48 + rest % 10 in
      let d = stored_here now at b (omega (arith, k.inside, k.long, k.room)) in
      let f = take-set-le at now at b (omega arith) in
      record {
        room = k.room;
        long = length-set now at b ∙ k.long;
        left = k.left - 1;
        few = omega (arith, k.few, number_ahead h, number_low g h);
        inside = omega (arith, k.inside);
        small = rw y (omega arith);
        front =
            rw z
            (f ∙ sym (take-take at (suc at) now (omega arith)) ∙ ap (take at) k.front
            ∙ take-take at (suc at) bytes (omega arith));
        same =
            rw (z, y, d)
            (sym (append_assoc (decimal_to k.left (rest / 10)) (b ∷ []) (drop (suc at) now))
            ∙ ap (λ l. l ++ drop (suc at) now) (sym (decimal_more k.left rest h))
            ∙ k.same);
      }

  pub number_end : rest < 10 → Numbered bytes end v at (set now at (48 + rest))
  number_end h =
      let b = 48 + rest in
      let out = set now at b in
      let d = stored_here now at b (omega (arith, k.inside, k.long, k.room)) in
      let behind : drop at out ≡ decimal v ++ drop end bytes =
      d ∙ ap (λ l. l ++ drop (suc at) now) (sym (decimal-one k.left rest h)) ∙ k.same in
      let before : take at out ≡ take at bytes =
      take-set-le at now at b (omega arith) ∙ sym (take-take at (suc at) now (omega arith)) ∙ ap (take at) k.front
      ∙ take-take at (suc at) bytes (omega arith) in
      let l = ap length behind in
      let e : at + length (decimal v) ≡ end =
      omega (
        arith,
        length-drop at out,
        length-set now at b,
        k.long,
        k.room,
        k.inside,
        length-append (decimal v) (drop end bytes),
        length-drop end bytes,
      ) in
      record {
        ends = e;
        stored =
            sym (take-append-drop at out)
            ∙ rw (before, behind) (sym (append_assoc (take at bytes) (decimal v) (drop end bytes)))
            ∙ ap (λ i. take at bytes ++ decimal v ++ drop i bytes) (sym e)
            ∙ sym (sets-eq (decimal v) bytes at (omega (arith, k.room)));
      }
