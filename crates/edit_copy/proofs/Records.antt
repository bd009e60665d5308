-- The records behind the place of an edit, from the bytes of the old ones.
use Prim.Native.Nat.{◌+◌, ◌-◌, ◌≤◌, min, suc, ℕ}
use mathlib.Core.Path.{◌∙◌, ◌≡◌, ap, refl, sym}
use mathlib.Core.Bool.{false, true}
use mathlib.Core.List.{List, [], ◌++◌, ◌∷◌, append_assoc}
use lib.ListN.{drop, get_or, length, length-append, length-drop, take}
use lib.Seq.{drop-append-le, drop-append_seam, drop-drop, get_or-drop, take-append-le}
use native.Mathlib.Omega.{arith}
use Rattle.octets.specs.Octets.{below, common}
use Rattle.octets.proofs.Coding.{common_le, common_most}
use Rattle.octets.proofs.Common.{between}
use Rattle.book.specs.Records.{last_or, record_of, records}
use Rattle.book.proofs.Records.{records-append}
use Rattle.book.proofs.Splices.{behind_new_lem, behind_out_lem, record_is_lem, records_anywhere}
use Rattle.edit_copy.specs.Copies.{after, part}
use Rattle.edit_copy.proofs.Runs.{last_run, some-run}

-- behind two bytes
drop-two : (m a b : ℕ) (l : List ℕ) → drop (2 + m) (a ∷ b ∷ l) ≡ drop m l
drop-two m a b l = let z : 2 + m ≡ suc (suc m) = omega arith in rw z

-- records without heads in two runs, counted from anywhere
pub after-append :
    (vs ws : List (List ℕ)) → after [] (vs ++ ws) ≡ after [] vs ++ after (last_or [] vs) ws
after-append vs ws = records-append false vs ws 0 []
    ∙ ap (λ r. after [] vs ++ r) (records_anywhere (0 + length vs) 0 (last_or [] vs) ws)

pub after_next :
    (p w : List ℕ) (ws : List (List ℕ)) → after p (w ∷ ws) ≡ record_of false 0 p w ++ after w ws
after_next p w ws = ap (λ r. record_of false 0 p w ++ r) (records_anywhere 1 0 w ws)

-- the first of them, taken apart
pub after_cons :
    (p q : List ℕ) (qs : List (List ℕ))
    → after p (q ∷ qs) ≡ common p q ∷ (length q - common p q) ∷ (drop (common p q) q ++ after q qs)
after_cons p q qs = ap (λ r. r ++ records false 1 q qs) (record_is_lem 0 p q)
    ∙ ap (λ r. common p q ∷ (length q - common p q) ∷ (drop (common p q) q ++ r)) (records_anywhere 1 0 q qs)

pub after_long :
    (p q : List ℕ) (qs : List (List ℕ)) → length (after p (q ∷ qs)) ≡ 2 + (length q - common p q) + length (after q qs)
after_long p q qs = rw (after_cons p q qs, length-append, length-drop) (omega arith)

-- the header of a record that stands in a buffer
module _ (s : List ℕ) (at : ℕ) (p q : List ℕ) (qs : List (List ℕ)) (left : List ℕ)
    (h : drop at s ≡ after p (q ∷ qs) ++ left) where
  byte_at : (m : ℕ) → get_or s (at + m) 0 ≡ get_or (after p (q ∷ qs) ++ left) m 0
  byte_at m = sym (get_or-drop at s m 0) ∙ ap (λ l. get_or l m 0) h

  pub kept_read : get_or s at 0 ≡ common p q
  kept_read =
      let z : at ≡ at + 0 = omega arith in
      ap (λ k. get_or s k 0) z ∙ byte_at 0 ∙ ap (λ l. get_or (l ++ left) 0 0) (after_cons p q qs)

  pub own_read : get_or s (at + 1) 0 ≡ length q - common p q
  own_read = byte_at 1 ∙ ap (λ l. get_or (l ++ left) 1 0) (after_cons p q qs)

  -- it stands within the buffer
  pub header_inside : at + 2 ≤ length s
  header_inside =
      let a = ap length h ∙ length-append (after p (q ∷ qs)) left in
      let b = after_long p q qs in
      let c = length-drop at s in
      omega arith

-- a new name w between p and q
module _ (s : List ℕ) (at : ℕ) (p w q : List ℕ) (qs : List (List ℕ)) (left : List ℕ)
    (h : drop at s ≡ after p (q ∷ qs) ++ left) (u : below p w ≡ true) (v : below w q ≡ true) where
  abbrev k : ℕ
  k = common p q

  abbrev more : ℕ
  more = common w q - common p q

  -- the name behind shares no fewer bytes with it
  pub new_order : common p q ≤ common w q
  new_order = let b = between p w q u v in omega arith

  pub new_within : common w q - common p q ≤ length q - common p q
  new_within = let m = common_le w q in omega arith

  pub new_bytes :
      (x : ℕ) → x ≡ at + 2 + (common w q - common p q)
      → (common w q ∷ (length q - common p q - (common w q - common p q)) ∷ [])
      ++ part x (at + length (after p (q ∷ qs))) s ≡ after w (q ∷ qs)
  new_bytes x e =
      let o = new_order in
      let m = new_within in
      let d = length-drop (common p q) q in
      let c = after_long p q qs in
      let z : common p q + length (drop (common p q) q) - common w q
      ≡ length q - common p q - (common w q - common p q) = let n = common_le w q in omega arith in
      let run : part x (at + length (after p (q ∷ qs))) s ≡ drop more (drop k q) ++ after q qs =
      last_run s at (after p (q ∷ qs)) left h x (2 + more) (omega arith) (omega arith)
      ∙ ap (drop (2 + more)) (after_cons p q qs)
      ∙ drop-two more (common p q) (length q - common p q) (drop k q ++ after q qs)
      ∙ drop-append-le more (drop k q) (after q qs) (omega arith)
      in
      rw run
      (sym (ap (λ r. r ++ records false 1 q qs) (behind_new_lem 0 p w q u v)
      ∙ rw (z, records_anywhere 1 0 q qs)))

  -- the same from the numbers that are read
  pub new_behind :
      (u k r end : ℕ) → u ≡ common w q → k ≡ common p q → r ≡ length q - common p q
      → end ≡ at + length (after p (q ∷ qs))
      → (u ∷ (r - (u - k)) ∷ []) ++ (part 0 (0 + 0) s ++ part (at + 2 + (u - k)) end s) ≡ after w (q ∷ qs)
  new_behind u k r end eu ek er ee = rw (eu, ek, er, ee) (new_bytes (at + 2 + (common w q - common p q)) refl)

-- a name w left out between p and q
module _ (s : List ℕ) (at : ℕ) (p w q : List ℕ) (qs : List (List ℕ)) (left : List ℕ)
    (h : drop at s ≡ after p (w ∷ q ∷ qs) ++ left) (u : below p w ≡ true) (v : below w q ≡ true) where
  abbrev c : ℕ
  c = common p w

  abbrev own : ℕ
  own = length w - common p w

  abbrev lent : ℕ
  lent = common w q - min (common p w) (common w q)

  pub lent_within : common w q - min (common p w) (common w q) ≤ length w - common p w
  lent_within = let m = common_most w q in omega arith

  -- the record behind it
  pub gone_next : drop (at + 2 + (length w - common p w)) s ≡ after w (q ∷ qs) ++ left
  gone_next =
      let d = length-drop c w in
      let z : at + 2 + (length w - common p w) ≡ at + (2 + length (drop c w)) = omega arith in
      rw z
      (sym (drop-drop (2 + length (drop c w)) at s)
      ∙ ap (drop (2 + length (drop c w))) h
      ∙ ap (λ l. drop (2 + length (drop c w)) (l ++ left)) (after_cons p w (q ∷ qs))
      ∙ drop-two (length (drop c w)) c own (drop c w ++ after w (q ∷ qs) ++ left)
      ∙ ap (drop (length (drop c w))) (append_assoc (drop c w) (after w (q ∷ qs)) left)
      ∙ drop-append_seam (drop c w) (after w (q ∷ qs) ++ left))

  pub gone_bytes :
      (x y : ℕ) → x ≡ at + 2 → y ≡ at + 2 + (length w - common p w) + 2
      → (min (common p w) (common w q) ∷ (lent + (length q - common w q)) ∷ [])
      ++ (part x (x + lent) s ++ part y (at + length (after p (w ∷ q ∷ qs))) s) ≡ after p (q ∷ qs)
  gone_bytes x y e f =
      let m = lent_within in
      let d = length-drop c w in
      let g = length-drop (common w q) q in
      let n = common_le w q in
      let a = after_long p w (q ∷ qs) in
      let b = after_long w q qs in
      let lend : part x (x + lent) s ≡ take lent (drop c w) =
      some-run s at (after p (w ∷ q ∷ qs)) left h x 2 lent e (omega arith)
      ∙ ap (λ l. take lent (drop 2 l)) (after_cons p w (q ∷ qs))
      ∙ take-append-le lent (drop c w) (after w (q ∷ qs)) (omega arith)
      in
      let z : at + length (after p (w ∷ q ∷ qs)) ≡ at + 2 + (length w - common p w) + length (after w (q ∷ qs)) =
      omega arith
      in
      let run : part y (at + length (after p (w ∷ q ∷ qs))) s ≡ drop (common w q) q ++ after q qs =
      ap (λ t. part y t s) z
      ∙ last_run s (at + 2 + (length w - common p w)) (after w (q ∷ qs)) left gone_next y 2 f (omega arith)
      ∙ ap (drop 2) (after_cons w q qs)
      in
      rw (lend, run)
      (sym (ap (λ r. r ++ records false 1 q qs) (behind_out_lem 0 p w q u v)
      ∙ rw (g, records_anywhere 1 0 q qs)
      (ap (λ r. min c (common w q) ∷ (lent + (length q - common w q)) ∷ r)
      (append_assoc (take lent (drop c w)) (drop (common w q) q) (after q qs)))))

  pub gone_behind :
      (c₀ o k r end : ℕ) → c₀ ≡ common p w → o ≡ length w - common p w → k ≡ common w q → r ≡ length q - common w q
      → end ≡ at + length (after p (w ∷ q ∷ qs))
      → (min c₀ k ∷ (k - min c₀ k + r) ∷ [])
      ++ (part (at + 2) (at + 2 + (k - min c₀ k)) s ++ part (at + 2 + o + 2) end s) ≡ after p (q ∷ qs)
  gone_behind c₀ o k r end ec eo ek er ee =
      rw (ec, eo, ek, er, ee) (gone_bytes (at + 2) (at + 2 + (length w - common p w) + 2) refl refl)
