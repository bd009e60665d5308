-- The fields of a node: their sizes, the next sibling's, and the node's length.
use Prim.Native.Nat.{◌+◌, ◌-◌, ◌≤◌, ℕ}
use mathlib.Core.Path.{◌≡◌, ap, refl}
use mathlib.Core.Bool.{Bool, false, true}
use lib.Dec.{eqb}
use native.Mathlib.Omega.{arith}
use borrow.Author.Tests.{ne_eqb}
use Rattle.octets.specs.Lists.{if◌then◌otherwise◌}
use Rattle.octets.proofs.Tests.{by_test}
use Rattle.trie.specs.Trie.{longest_label, size_of}
use Rattle.trie_write_runs.specs.Fields.{after, child_field_size, node_length}
use Rattle.trie_write_runs.specs.declared.NodeFields.{NodeFields}
use Rattle.trie_write_runs.specs.declared.Run.{Run}
use Rattle.trie.proofs.Header.{size_of_most}

pub child_size_le : (r : Run) (f : NodeFields) → f.size ≤ 4 → child_field_size r f ≤ 4
child_size_le r f h = by_test (eqb r.under 0) (λ a. rw a (omega arith)) (λ a. rw a h)

pub after_size : (r : Run) (f : NodeFields) (s : ℕ) → f.size ≤ 4 → (after r f s).size ≤ 4
unfolding after
after_size r f s h = go (eqb r.under 0)
  where
    go : (t : Bool) → (if t then f.size otherwise size_of r.under) ≤ 4
    go true = h
    go false = size_of_most r.under

-- the fields behind a node that has children
pub after_inner_lem :
    (r : Run) (f : NodeFields) (s n : ℕ) → (r.under ≡ 0 → ⊥) → n ≡ size_of r.under
    → ◌≡◌ {A = NodeFields} (record { score = r.high - s; child = r.under; size = n }) (after r f s)
unfolding after
after_inner_lem r f s n h e = go (eqb r.under 0) (ne_eqb r.under 0 h)
  where
    go :
        (t : Bool) → t ≡ false
        → ◌≡◌ {A = NodeFields} (record { score = r.high - s; child = r.under; size = n })
        (record {
          score = r.high - s;
          child = if t then f.child otherwise r.under;
          size = if t then f.size otherwise size_of r.under;
        })
    go true q = absurd (let z : ◌≡◌ {A = ℕ} 0 1 = cc in omega arith)
    go false q = ap (λ x. record { score = r.high - s; child = r.under; size = x }) e

-- a node's length, from sizes that were computed
pub node_length_lem :
    (r : Run) (f : NodeFields) {score child : ℕ} → r.len ≤ longest_label → f.size ≤ 4 → score ≡ size_of f.score
    → child ≡ child_field_size r f
    → (1 + score + child + r.len ≡ node_length r f) × (1 + score + child + r.len ≤ 16)
unfolding node_length
node_length_lem r f a b e q = (rw (e, q) refl, omega (arith, a, e, q, size_of_most f.score, child_size_le r f b))
