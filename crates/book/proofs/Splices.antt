-- Records without heads, at one place of the name order: a name put in or left out changes the record behind it alone,
-- that record is made of bytes that stand in the old ones, and a name left out makes them shorter.
use Prim.Native.Nat.{◌*◌, ◌+◌, ◌-◌, ◌≤◌, min, suc, ℕ}
use mathlib.Core.Path.{◌∙◌, ◌≡◌, ap, refl}
use mathlib.Core.Bool.{false, true}
use mathlib.Core.List.{List, [], ◌++◌, ◌∷◌}
use lib.Dec.{leb}
use lib.ListN.{drop, length, length-append, length-drop, take}
use lib.Seq.{drop-drop}
use native.Mathlib.Omega.{arith}
use borrow.Author.Tests.{leb-false, leb-true}
use Rattle.octets.specs.Lists.{ceil}
use Rattle.octets.specs.Octets.{below, common}
use Rattle.octets.proofs.Coding.{common_le, common_most}
use Rattle.octets.proofs.Common.{between, rest_through, three}
use Rattle.octets.proofs.Tests.{by_test}
use Rattle.entries.specs.Entries.{Entry, names}
use Rattle.book.specs.Records.{record_of, records}
use Rattle.book.specs.declared.Layout.{Layout}
use Rattle.book.specs.Book.{block_size, buckets, image_in, records_at}
use Rattle.book.proofs.Reading.{image_length}

-- the record of the name behind a new one: the new one shares `above` bytes with it; its own record kept `kept` of the
-- name before and went on with `rest`
abbrev pub behind_new : ℕ → ℕ → List ℕ → List ℕ
behind_new above kept rest = above ∷ (kept + length rest - above) ∷ drop (above - kept) rest

-- the record of the name behind one that is left out: that one kept c bytes and went on with `out`, its own record kept
-- k and went on with `rest`
abbrev pub behind_out : ℕ → List ℕ → ℕ → List ℕ → List ℕ
behind_out c out k rest = min c k ∷ (k - min c k + length rest) ∷ take (k - min c k) out ++ rest

pub record_is_lem :
    (i : ℕ) (prev w : List ℕ)
    → record_of false i prev w ≡ common prev w ∷ (length w - common prev w) ∷ drop (common prev w) w
unfolding record_of
record_is_lem i prev w = refl

pub record_long : (i : ℕ) (prev w : List ℕ) → length (record_of false i prev w) + common prev w ≡ 2 + length w
record_long i prev w =
    let d = length-drop (common prev w) w in
    let m = common_le prev w in
    rw (record_is_lem i prev w) (omega arith)

-- positions do not matter
pub records_anywhere : (i j : ℕ) (prev : List ℕ) (ws : List (List ℕ))
    → records false i prev ws ≡ records false j prev ws
records_anywhere i j prev [] = refl
records_anywhere i j prev (w ∷ ws) =
    rw (record_is_lem i prev w, record_is_lem j prev w, records_anywhere (suc i) (suc j) w ws)

-- one name left out: at least two bytes fewer
pub records_shorter :
    (i : ℕ) (prev : List ℕ) (vs : List (List ℕ)) (w : List ℕ) (ws : List (List ℕ))
    → length (records false i prev (vs ++ ws)) + 2 ≤ length (records false i prev (vs ++ (w ∷ ws)))
records_shorter i prev [] w [] =
    let a = length-append (record_of false i prev w) [] in
    let b = record_long i prev w in
    let m = common_le prev w in
    omega arith
records_shorter i prev [] w (u ∷ us) =
    let a = length-append (record_of false i prev u) (records false (suc i) u us) in
    let b = length-append (record_of false i prev w) (record_of false (suc i) w u ++ records false (suc (suc i)) u us) in
    let c = length-append (record_of false (suc i) w u) (records false (suc (suc i)) u us) in
    let e = ap length (records_anywhere (suc i) (suc (suc i)) u us) in
    let x = record_long i prev u in
    let y = record_long i prev w in
    let z = record_long (suc i) w u in
    let t = three prev w u in
    let k = common_le prev w in
    let l = common_most w u in
    omega arith
records_shorter i prev (v ∷ vs) w ws =
    let a = length-append (record_of false i prev v) (records false (suc i) v (vs ++ ws)) in
    let b = length-append (record_of false i prev v) (records false (suc i) v (vs ++ (w ∷ ws))) in
    let ih = records_shorter (suc i) v vs w ws in
    omega arith

-- the record behind a new name w, from the one that stands there behind p
pub behind_new_lem :
    (i : ℕ) (p w q : List ℕ) → below p w ≡ true → below w q ≡ true
    → record_of false i w q ≡ behind_new (common w q) (common p q) (drop (common p q) q)
behind_new_lem i p w q h k =
    let b = between p w q h k in
    let d = length-drop (common p q) q in
    let m = common_le p q in
    let z : common p q + length (drop (common p q) q) - common w q ≡ length q - common w q = omega arith in
    let y : common p q + (common w q - common p q) ≡ common w q = omega arith in
    rw (record_is_lem i w q, z, drop-drop (common w q - common p q) (common p q) q, y)

-- the record behind a name w that is left out, from its own and the one that stands behind it
pub behind_out_lem :
    (i : ℕ) (p w q : List ℕ) → below p w ≡ true → below w q ≡ true
    → record_of false i p q ≡ behind_out (common p w) (drop (common p w) w) (common w q) (drop (common w q) q)
behind_out_lem i p w q h k =
    let b = between p w q h k in
    let d = length-drop (common w q) q in
    let m = common_le w q in
    by_test (leb (common w q) (common p w))
    (λ t.
    let l = leb-true (common w q) (common p w) t in
    let x : common p q ≡ common w q = omega arith in
    let y : min (common p w) (common w q) ≡ common w q = omega arith in
    let z : common w q - common w q ≡ 0 = omega arith in
    let n : length q - common w q ≡ 0 + length (drop (common w q) q) = omega arith in
    rw (record_is_lem i p q, x, y, z, n))
    (λ t.
    let l = leb-false (common w q) (common p w) t in
    let x : common p q ≡ common p w = omega arith in
    let y : min (common p w) (common w q) ≡ common p w = omega arith in
    let n : length q - common p w ≡ common w q - common p w + length (drop (common w q) q) = omega arith in
    let r = rest_through (common p w) w q (omega arith) in
    rw (record_is_lem i p q, x, y, n)
    (ap (λ l. common p w ∷ (common w q - common p w + length (drop (common w q) q)) ∷ l) r))

-- the images: behind the scores stand the peaks, then the records
module _ (l : Layout) (off : l.heads ≡ false) where
  pub records-at_off : (n : ℕ) → records_at l n ≡ 7 + 4 * n + 2 * ceil n block_size
  unfolding records_at
  records-at_off n = ap (λ h. 7 + 4 * n + 2 * buckets h n + 2 * ceil n block_size) off ∙ omega arith

  pub image_off : (es : List Entry)
      → length (image_in l es) ≡ records_at l (length es) + length (records false 0 [] (names es))
  image_off es = image_length l es ∙ ap (λ h. records_at l (length es) + length (records h 0 [] (names es))) off
