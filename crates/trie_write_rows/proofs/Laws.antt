-- The entries of a table, row by row; ranges of rows.
use Prim.Native.Nat.{◌*◌, ◌+◌, ◌-◌, ◌<◌, ◌≤◌, max, min, suc, zero, ℕ}
use mathlib.Core.Path.{◌∙◌, ◌≡◌, ap, refl, sym}
use mathlib.Core.Bool.{Bool, false, true}
use mathlib.Core.List.{List, [], ◌∷◌}
use lib.Dec.{eqb}
use lib.ListN.{drop, get_or, length, length-drop, length-map, take}
use lib.Seq.{drop-drop, get_or-drop, get_or-take, length-slice, slice, slice-cons, slice_empty}
use native.Mathlib.Numerals.{add-one}
use native.Mathlib.Omega.{arith}
use borrow.Author.Tests.{eq-eqb, eqb-false, eqb-true, ne_eqb}
use Rattle.octets.specs.Octets.{below, common}
use Rattle.octets.proofs.Lists.{drop-take}
use Rattle.octets.proofs.Tests.{and_intro}
use Rattle.entries.specs.Entries.{Entry, at, entry, no_entry, rising}
use Rattle.entries.specs.Names.{longest_name}
use Rattle.trie.specs.Trie.{highest, label_of, remains, same_first, used_up}
use Rattle.book_table.specs.Table.{Table, entries}
use Rattle.book_table.proofs.Rows.{entries_at, entries-length, rest_cons, rest_nil, row_inside, row_length_lem}
use Rattle.trie_write_rows.specs.Rows.{Chain, Shared, Starts, rest_at, set_at_depth}
use Rattle.trie_write_rows.proofs.Siblings.{label_ends, last_entry}

-- do two suffixes begin alike?
module _ {u m sc : List ℕ} (z : Table u m sc) (d : ℕ) {i j : ℕ} (hi : i < length m) (hj : j < length m) where
  abbrev alike : Bool
  alike = same_first (rest_at (entries u m sc) d i) (rest_at (entries u m sc) d j)

  pub same_none : get_or m i 0 ≤ d → {b : Bool} → (b ≡ true → get_or m j 0 ≤ d) → (b ≡ false → d < get_or m j 0) → b ≡ alike
  same_none a {b} f g = go b f g
    where
      go : (b : Bool) → (b ≡ true → get_or m j 0 ≤ d) → (b ≡ false → d < get_or m j 0) → b ≡ alike
      go true f g = rw (rest_nil u m sc z i hi d a, rest_nil u m sc z j hj d (f refl))
      go false f g = rw (rest_nil u m sc z i hi d a, rest_cons u m sc z j hj d (g refl))

  pub same-one : d < get_or m i 0 → get_or m j 0 ≤ d → false ≡ alike
  same-one a b = rw (rest_cons u m sc z i hi d a, rest_nil u m sc z j hj d b)

  pub same_both : d < get_or m i 0 → d < get_or m j 0
      → eqb (get_or u (i * longest_name + d) 0) (get_or u (j * longest_name + d) 0) ≡ alike
  same_both a b = rw (rest_cons u m sc z i hi d a, rest_cons u m sc z j hj d b)

-- ranges of rows
pub set_cons : (es : List Entry) (a e d : ℕ) → a < e → e ≤ length es
    → set_at_depth es a e d ≡ entry (rest_at es d a) (at es a).score ∷ set_at_depth es (suc a) e d
set_cons es a e d h k = ap (remains d) (slice-cons a e es no_entry h k)

pub set_empty : (es : List Entry) (a d : ℕ) → set_at_depth es a a d ≡ []
set_empty es a d = ap (remains d) (slice_empty a es)

-- the highest of a range, from the left: the highest so far, with that of the rows left, is the whole's
pub record Topping (es : List Entry) (a b top i : ℕ) : Type 0 where
  pub upto : i ≤ b
  pub rest : max top (highest (slice i b es)) ≡ highest (slice a b es)

pub top_start : {es : List Entry} {a b : ℕ} → a ≤ b → Topping es a b 0 a
top_start h = record { upto = h; rest = omega arith }

module _ {u m sc : List ℕ} (z : Table u m sc) {a b top i : ℕ} (v : Topping (entries u m sc) a b top i)
    (inside : b ≤ length m) where
  top-turn-at : i < b → {new : ℕ} → new ≡ max top (get_or sc i 0) → Topping (entries u m sc) a b new (i + 1)
  top-turn-at h {new} e =
      let es = entries u m sc in
      let score : (at es i).score ≡ get_or sc i 0 = ap (λ x. x.score) (entries_at u m sc i (omega arith)) in
      let next : highest (slice i b es) ≡ max (at es i).score (highest (slice (i + 1) b es)) = rw
      (slice-cons i b es no_entry h (omega (arith, inside, entries-length u m sc)), add-one i) in
      record { upto = omega arith; rest = omega (arith, e, score, next, v.rest) }

  pub top_end : b ≤ i → top ≡ highest (slice a b (entries u m sc))
  top_end h =
      let e : i ≡ b = omega (arith, v.upto) in
      let q : max top (highest []) ≡ highest (slice a b (entries u m sc)) = rw (
        e,
        slice_empty b (entries u m sc),
      ) at v.rest in
      omega (arith, q)

-- a turn: the next of the scores of the rows
pub top-turn :
    {u m sc : List ℕ} (z : Table u m sc) {a b top k : ℕ} (v : Topping (entries u m sc) a b top (a + k))
    → b ≤ length m → k < b - a → {new : ℕ} → new ≡ max top (get_or (take (b - a) (drop a sc)) k 0)
    → Topping (entries u m sc) a b new (a + (k + 1))
top-turn {sc = sc} z {a} {b} {top} {k} v inside h e =
    let q : a + (k + 1) ≡ a + k + 1 = omega arith in
    rw q (top-turn-at z v inside (omega arith)
    (e ∙ ap (max top) (get_or-take (b - a) (drop a sc) k 0 h ∙ get_or-drop a sc k 0)))

-- where the set that ends before row e starts, row by row from the last
pub record Starting (es : List Entry) (d lo e a : ℕ) : Type 0 where
  pub from : lo ≤ a
  pub before : a < e
  pub chain : Chain (set_at_depth es a e d)

pub start_last : {u m sc : List ℕ} → Table u m sc → {lo e : ℕ} (d : ℕ) → lo < e → e ≤ length m
    → Starting (entries u m sc) d lo e (e - 1)
start_last {u} {m} {sc} z {e = e} d h k =
    let q : suc (e - 1) ≡ e = omega arith in
    let es = entries u m sc in
    record {
      from = omega arith;
      before = omega arith;
      chain = rw (
        set_cons es (e - 1) e d (omega arith) (omega (arith, k, entries-length u m sc)),
        q,
        set_empty es e d,
      ) tt;
    }

module _ {u m sc : List ℕ} (z : Table u m sc) {d lo e a : ℕ} (v : Starting (entries u m sc) d lo e a)
    (k : e ≤ length m) where
  abbrev rest : ℕ → List ℕ
  rest p = rest_at (entries u m sc) d p

  pub start_turn : lo < a → {b : Bool} → b ≡ same_first (rest (a - 1)) (rest a) → b ≡ true
      → Starting (entries u m sc) d lo e (a - 1)
  start_turn h f t =
      let q : suc (a - 1) ≡ a = omega arith in
      let es = entries u m sc in
      let l : e ≤ length es = omega (arith, k, entries-length u m sc) in
      let w = set_cons es a e d v.before l in
      record {
        from = omega arith;
        before = omega (arith, v.before);
        chain = rw (set_cons es (a - 1) e d (omega (arith, v.before)) l, q, w) (sym f ∙ t, rw w at v.chain);
      }

  pub start_edge : {b : Bool} → b ≡ same_first (rest (a - 1)) (rest a) → b ≡ false → Starts (entries u m sc) d lo e a
  start_edge f t = record { from = v.from; before = v.before; chain = v.chain; edge = λ h. sym f ∙ t }

  pub start_end : a ≤ lo → Starts (entries u m sc) d lo e lo
  start_end h =
      let z : lo ≡ a = omega (arith, v.from) in
      rw z (record { from = omega arith; before = v.before; chain = v.chain; edge = λ l. absurd (omega arith) })

-- is a range one suffix that is used up?
pub used_one : (es : List Entry) (lo hi d : ℕ) → hi - lo ≡ 1 → hi ≤ length es → d ≤ length (at es lo).name
    → eqb (length (at es lo).name) d ≡ used_up 0 (set_at_depth es lo hi d)
used_one es lo hi d e k l =
    let q : suc lo ≡ hi = omega arith in
    rw (set_cons es lo hi d (omega arith) k, q, set_empty es hi d) (go (eqb (length (at es lo).name) d) refl)
  where
    go : (b : Bool) → eqb (length (at es lo).name) d ≡ b → b ≡ eqb (length (drop d (at es lo).name)) 0
    go true t = let z = eqb-true (length (at es lo).name) d t in let w = length-drop d (at es lo).name in
        sym (eq-eqb (length (drop d (at es lo).name)) 0 (omega arith))
    go false t = let z = eqb-false (length (at es lo).name) d t in let w = length-drop d (at es lo).name in
        sym (ne_eqb (length (drop d (at es lo).name)) 0 (λ y. z (omega arith)))

pub used_not : (es : List Entry) (lo hi d : ℕ) → (hi - lo ≡ 1 → ⊥) → lo ≤ hi → hi ≤ length es
    → false ≡ used_up 0 (set_at_depth es lo hi d)
used_not es lo hi d e l k = sym (go (set_at_depth es lo hi d) refl)
  where
    long : length (set_at_depth es lo hi d) ≡ hi - lo
    long = length-map (slice lo hi es) (λ x. entry (drop d x.name) x.score) ∙ length-slice lo hi es k

    go : (s : List Entry) → set_at_depth es lo hi d ≡ s → used_up 0 s ≡ false
    go [] q = refl
    go (x ∷ []) q = absurd (e (sym long ∙ ap length q))
    go (x ∷ y ∷ s) q = refl

-- the label of a range, by its first and last row
pub rest_part : (u m sc : List ℕ) → Table u m sc → (p d : ℕ) → p < length m → d ≤ get_or m p 0
    → take ((p * longest_name + get_or m p 0) - (p * longest_name + d)) (drop (p * longest_name + d) u) ≡ rest_at
    (entries u m sc) d p
rest_part u m sc z p d h k =
    let e : (p * longest_name + get_or m p 0) - (p * longest_name + d) ≡ get_or m p 0 - d = omega arith in
    rw (entries_at u m sc p h, e, drop-take d (get_or m p 0) (drop (p * longest_name) u), drop-drop d (p * longest_name) u)

pub last_at : (es : List Entry) (d k a b : ℕ) → a + suc k ≡ b → b ≤ length es
    → (last_entry (entry (rest_at es d a) (at es a).score) (set_at_depth es (suc a) b d)).name ≡ rest_at es d (b - 1)
last_at es d zero a b e h = let q : b ≡ suc a = omega arith in let r : suc a - 1 ≡ a = omega arith in
    rw (q, set_empty es (suc a) d, r)
last_at es d (suc k) a b e h = rw (set_cons es (suc a) b d (omega arith) h) (last_at es d k (suc a) b (omega arith) h)

label_length_lem : (es : List Entry) (a b d : ℕ) → a < b → b ≤ length es → rising (set_at_depth es a b d) ≡ true
    → length (label_of (set_at_depth es a b d)) ≡ min 7 (common (rest_at es d a) (rest_at es d (b - 1)))
label_length_lem es a b d h k r =
    let c = set_cons es a b d h k in
    rw c (label_ends (entry (rest_at es d a) (at es a).score) (set_at_depth es (suc a) b d) (rw c at r)
    ∙ rw (last_at es d (b - a - 1) a b (omega arith) k))

-- a range that rises row by row rises
rising_rows : (es : List Entry) (d k lo hi : ℕ) → lo + k ≡ hi → hi ≤ length es
    → ((p : ℕ) → lo ≤ p → suc p < hi → below (rest_at es d p) (rest_at es d (suc p)) ≡ true)
    → rising (set_at_depth es lo hi d) ≡ true
rising_rows es d zero lo hi e h r = let q : lo ≡ hi = omega arith in rw (q, set_empty es hi d)
rising_rows es d (suc zero) lo hi e h r = let q : suc lo ≡ hi = omega arith in
    rw (set_cons es lo hi d (omega arith) h, q, set_empty es hi d)
rising_rows es d (suc (suc k)) lo hi e h r =
    let ih = rising_rows es d (suc k) (suc lo) hi (omega arith) h (λ p a b. r p (omega arith) b) in
    let c = set_cons es (suc lo) hi d (omega arith) h in
    rw (
      set_cons es lo hi d (omega arith) h,
      c,
    ) (and_intro (below (rest_at es d lo) (rest_at es d (suc lo))) _ (r lo (omega arith) (omega arith)) (rw c at ih))

pub shared_rising : (es : List Entry) (d lo hi : ℕ) → Shared es d lo hi → rising (set_at_depth es lo hi d) ≡ true
shared_rising es d lo hi s = let a = s.order in rising_rows es d (hi - lo) lo hi (omega arith) s.inside s.rises

pub shared_part : (es : List Entry) (d lo hi a b : ℕ) → Shared es d lo hi → lo ≤ a → a ≤ b → b ≤ hi → Shared es d a b
shared_part es d lo hi a b s h k l =
    let i = s.inside in
    record {
      order = k;
      inside = omega arith;
      long = λ p x y. s.long p (omega arith) (omega arith);
      alike = λ p x y. s.alike p (omega arith) (omega arith) ∙ sym (s.alike a h (omega arith));
      rises = λ p x y. s.rises p (omega arith) (omega arith);
    }

-- a row's bytes behind the first d
pub row_facts : (u m sc : List ℕ) (z : Table u m sc) (p d : ℕ) → p < length m
    → d ≤ length (at (entries u m sc) p).name → (d ≤ get_or m p 0) × (get_or m p 0 ≤ longest_name)
    × (p * longest_name + longest_name ≤ length u)
row_facts u m sc z p d h k = let a = row_length_lem u m sc z p h in (omega arith, z.short p h, row_inside u m sc z p h)

pub label_code :
    {u m sc : List ℕ} (z : Table u m sc) {a b d c : ℕ} → a < b → b ≤ length m → Shared (entries u m sc) d a b
    → c ≡ common (take ((a * longest_name + get_or m a 0) - (a * longest_name + d)) (drop (a * longest_name + d) u))
    (take (((b - 1) * longest_name + get_or m (b - 1) 0) - ((b - 1) * longest_name + d))
    (drop ((b - 1) * longest_name + d) u))
    → length (label_of (set_at_depth (entries u m sc) a b d)) ≡ min 7 c
label_code {u} {m} {sc} z {a} {b} {d} h k s e =
    let n = entries-length u m sc in
    let fa = row_facts u m sc z a d (omega arith) (s.long a (omega arith) h) in
    let fb = row_facts u m sc z (b - 1) d (omega arith) (s.long (b - 1) (omega arith) (omega arith)) in
    label_length_lem (entries u m sc) a b d h (omega arith) (shared_rising (entries u m sc) d a b s)
    ∙ ap (min 7) (sym (e ∙ rw (
      rest_part u m sc z a d (omega arith) fa.0,
      rest_part u m sc z (b - 1) d (omega arith) fb.0,
    )))
