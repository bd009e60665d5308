-- The bytes of one node: its fields as bytes, its label, its length, and the stores that put it.
use Prim.Native.Nat.{◌*◌, ◌+◌, ◌-◌, ◌≤◌, suc, zero, ℕ}
use mathlib.Core.Path.{◌∙◌, ◌≡◌, refl}
use mathlib.Core.Bool.{Bool}
use mathlib.Core.List.{List, ◌++◌}
use lib.ListN.{drop, length, length-append, length-drop, length-take, set, take}
use lib.Seq.{sets}
use native.Mathlib.Numerals.{add-one}
use native.Mathlib.Nat.{div-one}
use native.Mathlib.Omega.{arith}
use Rattle.std.specs.Int.{to_be_bytes, w64}
use Rattle.octets.specs.Octets.{be}
use Rattle.octets.proofs.Coding.{length-be}
use Rattle.octets.proofs.Stores.{sets-append}
use Rattle.entries.specs.Names.{longest_name}
use Rattle.trie.specs.Trie.{header_byte, size_of}
use Rattle.trie_write_runs.specs.declared.NodeFields.{NodeFields}
use Rattle.trie_write_runs.specs.declared.Run.{Run}
use Rattle.trie_write_runs.specs.Fields.{child_field_size, child_field_value, node_length}
use Rattle.trie_write_nodes.specs.Nodes.{RunFits, one_node, run_label}

-- the last k of a number's bytes
be-part : (k v : ℕ) → k ≤ 4 → take (8 - (8 - k)) (drop (8 - k) (to_be_bytes w64 v)) ≡ be k v
unfolding be
be-part zero v h = refl
be-part (suc zero) v h = rw div-one
be-part (suc (suc zero)) v h = rw div-one
be-part (suc (suc (suc zero))) v h = rw div-one
be-part (suc (suc (suc (suc zero)))) v h = rw div-one
be-part (suc (suc (suc (suc (suc k))))) v h = absurd (omega arith)

pub be_taken : (k v : ℕ) {bs : List ℕ} → k ≤ 4 → bs ≡ to_be_bytes w64 v → take (8 - (8 - k)) (drop (8 - k) bs) ≡ be k v
be_taken k v h e = rw e (be-part k v h)

-- the label, as the code takes it from the rows
pub label_part :
    (names : List ℕ) (d : ℕ) (r : Run)
    → take (r.lo * longest_name + d + r.len - (r.lo * longest_name + d)) (drop (r.lo * longest_name + d) names) ≡
    run_label names d r
unfolding run_label
label_part names d r = let z : r.lo * longest_name + d + r.len - (r.lo * longest_name + d) ≡ r.len = omega arith in
    rw z refl

-- one node: its length, its stores
module _ (names : List ℕ) (d : ℕ) (r : Run) (f : NodeFields) (last : Bool) where
  abbrev fields : List ℕ
  fields = be (child_field_size r f) (child_field_value r f) ++ run_label names d r

  pub length-one_node : RunFits (length names) d r → length (one_node names d r f last) ≡ node_length r f
  unfolding one_node node_length run_label
  length-one_node h =
      omega (
        arith,
        length-be (size_of f.score) f.score,
        length-be (child_field_size r f) (child_field_value r f),
        length-append (be (size_of f.score) f.score) fields,
        length-append (be (child_field_size r f) (child_field_value r f))
            (take r.len (drop (r.lo * longest_name + d) names)),
        length-take r.len (drop (r.lo * longest_name + d) names),
        length-drop (r.lo * longest_name + d) names,
        h.inside,
      )

  pub node_put :
      (dst : List ℕ) (at : ℕ) {h score child value : ℕ} {d₁ d₂ d₃ : List ℕ} → score ≡ size_of f.score
      → child ≡ child_field_size r f → value ≡ child_field_value r f
      → h ≡ header_byte score child last r.len → d₁ ≡ sets (set dst at h) (at + 1) (be score f.score)
      → d₂ ≡ sets d₁ (at + 1 + score) (be child value) → d₃ ≡ sets d₂ (at + 1 + score + child) (run_label names d r)
      → d₃ ≡ sets dst at (one_node names d r f last)
  unfolding one_node
  node_put dst at e₁ e₂ e₃ e₄ p₁ p₂ p₃ =
      let a = be (size_of f.score) f.score in
      let b = be (child_field_size r f) (child_field_value r f) in
      let l = run_label names d r in
      let h = header_byte (size_of f.score) (child_field_size r f) last r.len in
      rw (p₃, p₂, p₁, e₄, e₁, e₂, e₃, add-one at)
      (rw (length-be (size_of f.score) f.score, length-be (child_field_size r f) (child_field_value r f)) at
      (sets-append (sets (set dst at h) (suc at) a) b l (suc at + length a)
      ∙ sets-append (set dst at h) a (b ++ l) (suc at)))
