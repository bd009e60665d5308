-- The entries of a table, row by row.
use Prim.Native.Nat.{◌*◌, ◌+◌, ◌<◌, ◌≤◌, suc, zero, ℕ}
use mathlib.Core.Path.{◌∙◌, ◌≡◌, ap}
use mathlib.Core.List.{List, [], ◌∷◌, map}
use lib.ListN.{drop, drop_of_length-le, get_or, length, length-drop, length-map}
use lib.Seq.{drop-cons, get_or-drop, get_or-take, length-take-le}
use native.Mathlib.Nat.{add-zero, not-suc-le-zero}
use native.Mathlib.Omega.{arith}
use Rattle.octets.specs.Lists.{count_from}
use Rattle.octets.proofs.Lists.{length-count_from}
use Rattle.entries.specs.Entries.{Entry, at, no_entry}
use Rattle.entries.specs.Names.{longest_name}
use Rattle.book_table.specs.Table.{Table, entries, row_at}

-- a list given element by element
at_count : (f : ℕ → Entry) (i n p : ℕ) → p < n → get_or (map f (count_from i n)) p no_entry ≡ f (i + p)
at_count f i zero p h = absurd (not-suc-le-zero h)
at_count f i (suc n) zero h = rw add-zero
at_count f i (suc n) (suc p) h = at_count f (suc i) n p (omega arith) ∙ ap f (omega arith)

module _ (u m sc : List ℕ) where
  pub entries-length : length (entries u m sc) ≡ length m
  unfolding entries
  entries-length = length-map (count_from 0 (length m)) (row_at u m sc) ∙ length-count_from 0 (length m)

  pub entries_at : (p : ℕ) → p < length m → at (entries u m sc) p ≡ row_at u m sc p
  unfolding entries
  entries_at p h = at_count (row_at u m sc) 0 (length m) p h ∙ ap (row_at u m sc) (omega arith)

  module _ (z : Table u m sc) (p : ℕ) (h : p < length m) where
    pub row_inside : p * longest_name + longest_name ≤ length u
    row_inside = omega (arith, z.rows)

    pub row_length_lem : length (at (entries u m sc) p).name ≡ get_or m p 0
    row_length_lem =
        rw (entries_at p h)
        (length-take-le (get_or m p 0) (drop (p * longest_name) u)
        (omega (arith, row_inside, z.short p h, length-drop (p * longest_name) u)))

    -- what is left of a row's name behind d bytes
    pub rest_nil : (d : ℕ) → get_or m p 0 ≤ d → drop d (at (entries u m sc) p).name ≡ []
    rest_nil d k = drop_of_length-le (at (entries u m sc) p).name {i = d} (omega (arith, row_length_lem))

    pub rest_cons :
        (d : ℕ) → d < get_or m p 0
        → drop d (at (entries u m sc) p).name ≡ get_or u (p * longest_name + d) 0
        ∷ drop (suc d) (at (entries u m sc) p).name
    rest_cons d k =
        let w = (at (entries u m sc) p).name in
        let b : get_or w d 0 ≡ get_or u (p * longest_name + d) 0 =
        rw (entries_at p h) (get_or-take (get_or m p 0) (drop (p * longest_name) u) d 0 k
        ∙ get_or-drop (p * longest_name) u d 0)
        in
        drop-cons w d 0 (omega (arith, row_length_lem)) ∙ ap (λ x. x ∷ drop (suc d) w) b
