-- Rows filled in one pass over a book's records.
use Prim.Native.Nat.{◌*◌, ◌+◌, ◌-◌, ◌<◌, ◌≤◌, ℕ}
use mathlib.Core.Path.{◌∙◌, ◌≡◌, ap, sym}
use mathlib.Core.Logic.{◌⊎◌, inl, inr}
use mathlib.Core.Bool.{true}
use mathlib.Core.List.{List}
use lib.Dec.{eqb, ltb}
use lib.ListN.{drop, get_or, length, length-set, set}
use lib.Seq.{get_or-set_other, get_or-set_same, length-sets, length-take-le, sets}
use native.Mathlib.Omega.{arith}
use borrow.Author.Tests.{eqb-false, eqb-true, ltb-false, ltb-true}
use Rattle.octets.proofs.Order.{begins-take}
use Rattle.octets.proofs.Stores.{sets-stands, stays}
use Rattle.octets.proofs.Tests.{by_test}
use Rattle.entries.specs.Entries.{Entry, at, valid}
use Rattle.entries.specs.Names.{longest_name}
use Rattle.entries.proofs.Valid.{name_length, valid_of}
use Rattle.book_laws.specs.Cursor.{name_in}
use Rattle.book_laws.specs.declared.Cursor.{Cursor}
use Rattle.book_laws.proofs.Standing.{name_allowed}
use Rattle.book_name.specs.Poised.{Poised}
use Rattle.book_rows.specs.Rows.{Placed, Put, RowIs, RowRoom, Wanted}

-- The least position wanted, of those before j.
pub record Nearest (wanted : List ℕ) (from end j least : ℕ) : Type 0 where
  pub low : from ≤ end → from ≤ least
  pub high : least ≤ end
  pub so_far : (i : ℕ) → i < j → from ≤ get_or wanted i 0 → least ≤ get_or wanted i 0
  pub none : j ≡ 0 → least ≡ end

-- A name stored as a row.
module _
    (c : Cursor) (long : length c.name ≡ longest_name) (small : c.len ≤ longest_name) (position j : ℕ)
    (rows lens : List ℕ) (room : j * longest_name + longest_name ≤ length rows) (fits : j < length lens)
  where
    pub put_here :
        position ≡ c.index - 1 → {rows' : List ℕ} → rows' ≡ sets rows (j * longest_name) c.name
        → Put c position j rows lens rows' (set lens j c.len)
    put_here is-it {rows'} e =
        record {
          same_rows = ap length e ∙ length-sets rows (j * longest_name) c.name;
          same_lens = length-set lens j c.len;
          here = λ _.
              record {
                long = get_or-set_same lens j c.len 0 fits
                    ∙ sym (length-take-le c.len c.name (omega (arith, long)));
                stands = rw e (begins-take c.len c.name
                    (drop (j * longest_name) (sets rows (j * longest_name) c.name))
                    (sets-stands rows c.name (j * longest_name) (omega (arith, long))));
              };
          own = λ not-it w r. absurd (not-it is-it);
          others = λ i not-it w l r.
              record {
                long = get_or-set_other lens j i c.len 0 not-it ∙ r.long;
                stands = rw e (stays rows c.name (j * longest_name) (omega (arith, long)) w (i * longest_name)
                    (apart i not-it w l) r.stands);
              };
        }
      where
        apart : (i : ℕ) → (i ≡ j → ⊥) → (w : List ℕ) → length w ≤ longest_name
            → (i * longest_name + length w ≤ j * longest_name) ⊎ (j * longest_name + length c.name ≤ i * longest_name)
        apart i not-it w l =
            by_test (ltb i j)
            (λ t. let a = ltb-true i j t in inl (omega (arith, l)))
            (λ t.
            let a = ltb-false i j t in
            by_test (eqb i j)
            (λ u. absurd (not-it (eqb-true i j u)))
            (λ u. let b = eqb-false i j u in inr (omega (arith, long, b))))

-- The rows before the j-th are done.
pub record Placing (c : Cursor) (wanted rows₀ lens₀ rows lens : List ℕ) (j : ℕ) : Type 0 where
  pub same_rows : length rows ≡ length rows₀
  pub same_lens : length lens ≡ length lens₀
  pub here : (i : ℕ) → i < j → get_or wanted i 0 ≡ c.index - 1 → RowIs rows lens i (name_in c)
  pub others :
      (i : ℕ) → (get_or wanted i 0 ≡ c.index - 1 → ⊥) → (w : List ℕ) → length w ≤ longest_name → RowIs rows₀ lens₀ i w
      → RowIs rows lens i w

-- Every row whose position is before the cursor is filled, and the next one wanted is known.
pub record Filling (es : List Entry) (n : ℕ) (wanted rows₀ lens₀ rows lens : List ℕ) (c : Cursor) (next : ℕ) : Type 0
  where
    pub count : n ≡ length es
    pub same_rows : length rows ≡ length rows₀
    pub same_lens : length lens ≡ length lens₀
    pub room : RowRoom (length wanted) (length rows) (length lens)
    pub poised : 0 < length wanted → Poised es c
    pub inside : (j : ℕ) → j < length wanted → get_or wanted j 0 < length es
    pub wants : Wanted wanted c.index n next
    pub row :
        (j : ℕ) → j < length wanted → get_or wanted j 0 < c.index
        → RowIs rows lens j (at es (get_or wanted j 0)).name

module _
    {es : List Entry} {n : ℕ} {wanted rows₀ lens₀ rows lens : List ℕ} {c : Cursor} {next : ℕ}
    (g : Filling es n wanted rows₀ lens₀ rows lens c next)
  where
    pub filling_turn :
        (short : (i : ℕ) → i < length es → length (at es i).name ≤ longest_name)
        → {d : Cursor} {rows' lens' : List ℕ} {next' : ℕ} → name_in d ≡ (at es next).name → d.index ≡ next + 1
        → Poised es d
        → Placed d wanted rows lens rows' lens' → Wanted wanted d.index n next'
        → Filling es n wanted rows₀ lens₀ rows' lens' d next'
    filling_turn short {d} {rows'} {lens'} e i p q w =
        record {
          count = g.count;
          same_rows = q.same_rows ∙ g.same_rows;
          same_lens = q.same_lens ∙ g.same_lens;
          room = rw (q.same_rows, q.same_lens) g.room;
          poised = λ _. p;
          inside = g.inside;
          wants = w;
          row = row;
        }
      where
        row : (j : ℕ) → j < length wanted → get_or wanted j 0 < d.index
            → RowIs rows' lens' j (at es (get_or wanted j 0)).name
        row j h l =
            by_test (eqb (get_or wanted j 0) next)
            (λ t.
            let u = eqb-true (get_or wanted j 0) next t in
            rw (u, ← e) (q.here j h (omega (arith, i))))
            (λ t.
            let b = eqb-false (get_or wanted j 0) next t in
            by_test (ltb (get_or wanted j 0) c.index)
            (λ v.
            q.others j (λ z. b (omega (arith, i))) (at es (get_or wanted j 0)).name
            (short (get_or wanted j 0) (g.inside j h)) (g.row j h (ltb-true (get_or wanted j 0) c.index v)))
            (λ v.
            let a = ltb-false (get_or wanted j 0) c.index v in
            absurd (omega (arith, b, i, g.wants.least j h a))))

-- the names of a book are short
pub short_lem : (es : List Entry) → valid es ≡ true → (i : ℕ) → i < length es → length (at es i).name ≤ longest_name
short_lem es ok i h = name_length (at es i).name (name_allowed es (valid_of es ok) i h)
