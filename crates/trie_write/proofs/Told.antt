-- What a caller of `write` knows from its answer.
use Prim.Native.Nat.{◌<◌, ◌≤◌, ℕ}
use mathlib.Core.Path.{◌∙◌, ◌≡◌, sym}
use mathlib.Core.Bool.{false, true}
use Rattle.std.specs.Prelude.{Option, None, Some}
use mathlib.Core.List.{List}
use lib.Dec.{ltb}
use lib.ListN.{length}
use native.Mathlib.Omega.{arith}
use borrow.Author.Tests.{ltb-false, ltb-true}
use Rattle.octets.specs.Octets.{overwrite}
use Rattle.octets.proofs.Tests.{by_test}
use Rattle.entries.specs.Entries.{Entry}
use Rattle.trie.specs.Trie.{trie_image}
use Rattle.trie_write.specs.Writing.{TrieWritten}

apart : {k : ℕ} → None ≡ Some k → ⊥
apart e = let z : ◌≡◌ {A = ℕ} 0 1 = cc in omega arith

module _ {es : List Entry} {dst out : List ℕ} {r : Option ℕ} (a : TrieWritten es dst r out) where
  short : ltb (length dst) (length (trie_image es)) ≡ true → (r ≡ None) × (out ≡ dst)
  short t = (rw t at a.answer, rw t at a.left)

  long : ltb (length dst) (length (trie_image es)) ≡ false → (r ≡ Some (length (trie_image es)))
      × (out ≡ overwrite dst (trie_image es))
  long t = (rw t at a.answer, rw t at a.left)

  pub told_short : r ≡ None → (length dst < length (trie_image es)) × (out ≡ dst)
  told_short e =
      by_test (ltb (length dst) (length (trie_image es)))
      (λ t. (ltb-true (length dst) (length (trie_image es)) t, (short t).1))
      (λ t. absurd (apart (sym e ∙ (long t).0)))

  pub told_bytes : {k : ℕ} → r ≡ Some k → (k ≡ length (trie_image es)) × (k ≤ length dst)
      × (out ≡ overwrite dst (trie_image es))
  told_bytes {k} e =
      by_test (ltb (length dst) (length (trie_image es))) (λ t. absurd (apart (sym (short t).0 ∙ e)))
      (λ t.
      let q : Some k ≡ Some (length (trie_image es)) = sym e ∙ (long t).0 in
      let z : k ≡ length (trie_image es) = cc in
      (z, rw z (ltb-false (length dst) (length (trie_image es)) t), (long t).1))
