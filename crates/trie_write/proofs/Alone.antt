-- What stands under one row: a group of one node, and what stands under that.
use Prim.Native.Nat.{◌+◌, ◌-◌, ◌<◌, ◌≤◌, min, suc, ℕ}
use mathlib.Core.Path.{◌∙◌, ◌≡◌, ap, refl, sym}
use mathlib.Core.Bool.{Bool, false}
use mathlib.Core.List.{List, [], ◌∷◌}
use lib.ListN.{get_or, length, length-drop, length-take}
use native.Mathlib.Omega.{arith}
use borrow.Author.Tests.{eq-eqb, ne_eqb}
use Rattle.entries.specs.Entries.{Entry, at, entry}
use Rattle.entries.specs.Names.{longest_name}
use Rattle.trie.specs.Trie.{longest_label, used_up}
use Rattle.book_table.specs.Table.{Table, entries}
use Rattle.book_table.proofs.Rows.{entries_at, row_length_lem}
use Rattle.trie_write_nodes.specs.Nodes.{Finished, Finishing}
use Rattle.trie_write_rows.specs.Rows.{SiblingRuns, rest_at, set_at_depth}
use Rattle.trie_write_rows.proofs.Laws.{set_cons, set_empty, used_one}
use Rattle.trie_write.specs.Writing.{Groupable, Grouped}
use Rattle.trie_write.proofs.Going.{RunsGoing, child_ready, filled_low, finish_ready, going_start, going_turn}
use Rattle.trie_write.proofs.Going.{group_none, grouped}
use Rattle.trie_write_runs.specs.declared.Run.{Run}

module _ {u m sc : List ℕ} {row d s size total back : ℕ} {put : Bool}
    (ready : Groupable u m sc row (row + 1) d s size total back put) where
  abbrev es : List Entry
  es = entries u m sc

  table : Table u m sc
  table = ready.able.table

  pub row_low : row < length m
  row_low = omega (arith, ready.able.upto)

  name_long : length (at es row).name ≡ get_or m row 0
  name_long = row_length_lem u m sc table row row_low

  pub row_long : (d ≤ get_or m row 0) × (get_or m row 0 ≤ longest_name)
  row_long = (
    omega (arith, name_long, ready.able.shared.long row (omega arith) (omega arith)),
    table.short row row_low,
  )

  inside : row + 1 ≤ length es
  inside = ready.able.shared.inside

  -- nothing is left of the name
  pub lone-none : {dst : List ℕ} → min longest_label (get_or m row 0 - d) ≡ 0
      → Grouped es row (row + 1) d s dst dst total back put back
  lone-none {dst} e =
      let t = eq-eqb (length (at es row).name) d (omega (arith, e, name_long, row_long.0)) in
      group_none es row (row + 1) d s dst total back put
      (sym (used_one es row (row + 1) d (omega arith) inside (omega (arith, name_long, row_long.0))) ∙ t)

  -- the set of the one suffix
  alone : set_at_depth es row (row + 1) d ≡ entry (rest_at es d row) (at es row).score ∷ []
  alone = let q : suc row ≡ row + 1 = omega arith in set_cons es row (row + 1) d (omega arith) inside
      ∙ rw (q, set_empty es (row + 1) d)

  module _ {len : ℕ} (e : len ≡ min longest_label (get_or m row 0 - d)) (ne : len ≡ 0 → ⊥) where
    unused : used_up 0 (set_at_depth es row (row + 1) d) ≡ false
    unused =
        sym (used_one es row (row + 1) d (omega arith) inside (omega (arith, name_long, row_long.0)))
        ∙ ne_eqb (length (at es row).name) d (λ q. ne (omega (arith, e, name_long, q)))

    abbrev lone-run : ℕ → Run
    lone-run n = record { lo = row; hi = row + 1; high = get_or sc row 0; len = len; under = n }

    split : SiblingRuns es d row (row + 1) (lone-run 0 ∷ [])
    split =
        let score : (at es row).score ≡ get_or sc row 0 = ap (λ x. x.score) (entries_at u m sc row row_low) in
        record {
          sets = rw alone refl;
          good = (
            record {
              from = omega arith;
              some = omega arith;
              upto = omega arith;
              high = rw alone (omega (arith, score));
              len = rw alone (omega (
                arith,
                e,
                length-take longest_label (rest_at es d row),
                length-drop d (at es row).name,
                name_long,
              ));
            },
            tt,
          );
          falls = (omega arith, tt);
        }

    begun : {dst : List ℕ} → RunsGoing es d total back put dst (lone-run 0 ∷ []) dst (lone-run 0 ∷ []) back 1
    begun = going_start refl

    pub lone_ready : (dst : List ℕ) → size ≡ length dst
        → Groupable u m sc row (row + 1) (d + len) 0 (length dst) total back put
    lone_ready dst z = child_ready ready unused split (begun {dst = dst}) z (omega arith)

    pub lone_falls : longest_name - (d + len) < longest_name - d
    lone_falls = omega (arith, e, ne, row_long.0, row_long.1)

    module _ {dst out : List ℕ} {k : ℕ} (z : size ≡ length dst)
        (g : Grouped es row (row + 1) (d + len) 0 dst out total back put k) where
      pub lone_low : k - back < 16777216
      lone_low = filled_low ready unused split (begun {dst = dst}) z (omega arith) g

      over : RunsGoing es d total back put dst (lone-run 0 ∷ []) out (lone-run (k - back) ∷ []) k 0
      over = going_turn ready unused split (begun {dst = dst}) z (omega arith) g refl refl

      pub lone_finish : Finishing u d (lone-run (k - back) ∷ []) s (length out) total k put
      lone_finish = finish_ready ready unused split over z (omega arith)

      pub lone_grouped : {last : List ℕ} {n : ℕ} → Finished u d (lone-run (k - back) ∷ []) s out last total k put n
          → Grouped es row (row + 1) d s dst last total back put n
      lone_grouped f = grouped ready unused split over z (omega arith) f
