-- The answer of the check: None where a test of `trie_checks` fails, the number of entries where none does.
use Prim.Native.Nat.{ℕ}
use mathlib.Core.Path.{◌∙◌, ◌≡◌, ap}
use mathlib.Core.Bool.{◌&&◌, true}
use mathlib.Core.List.{List}
use lib.Dec.{eqb}
use native.Mathlib.Omega.{arith}
use borrow.Author.Tests.{eq-eqb, ne_eqb}
use Rattle.std.specs.Prelude.{None, Option, Some}
use Rattle.octets.proofs.Numbers.{Bytes}
use Rattle.octets.proofs.Tests.{and_false}
use Rattle.frame_code.specs.Image.{image_as}
use Rattle.frame_code.proofs.Checked.{Checkable, Framed, accepted, body_failed}
use Rattle.entries_laws.specs.declared.Half.TheVariants as half
use Rattle.trie.specs.Reading.{read_trie}
use Rattle.trie_check_laws.specs.Walk.{above, trie_body_is, trie_checks, turns, walk_to, whole_is}
use Rattle.trie_check_laws.proofs.Exact.{trie_check_exact, trie_count}
use Rattle.trie_check.specs.Known.{GroupIs}
use Rattle.trie_check_laws.specs.declared.WalkEnd.{WalkEnd}

-- the right answer
abbrev Right : List ℕ → Option ℕ
Right buf = image_as (read_trie buf)

pub trie_format : Checkable 0x31 trie_body_is read_trie
unfolding trie_checks
trie_format = record { exact = trie_check_exact; count = trie_count }

-- the body's test, from what the code knows of it
module _ {buf : List ℕ} {n total : ℕ} (b : Bytes buf) (f : Framed 0x31 buf n total) where
  -- without entries
  module _ (z : n ≡ 0) where
    none_rest : trie_body_is buf ≡ eqb total 7
    unfolding trie_body_is
    none_rest = rw (← f.whole, ← f.count, eq-eqb n 0 z)

    pub not_empty : (total ≡ 7 → ⊥) → None ≡ Right buf
    not_empty d = body_failed trie_format buf b f (none_rest ∙ ne_eqb total 7 d)

    pub is_empty : total ≡ 7 → Some 0 ≡ Right buf
    is_empty q = rw z at (accepted trie_format buf b f (none_rest ∙ eq-eqb total 7 q))

  -- with some: the walk's answer
  module _ (ne : n ≡ 0 → ⊥) {w : Option WalkEnd} (g : GroupIs buf 7 (above 0 half.None 0 true) n w) where
    some_rest : trie_body_is buf ≡ whole_is w total
    unfolding trie_body_is
    some_rest = rw (← f.whole, ← f.count, ne_eqb n 0 ne, g (turns buf) (omega arith))

    pub no_walk : w ≡ None → None ≡ Right buf
    no_walk e = body_failed trie_format buf b f (some_rest ∙ ap (λ x. whole_is x total) e)

    module _ {end left : ℕ} (e : w ≡ walk_to end left) where
      whole : trie_body_is buf ≡ (eqb end total && eqb left 0)
      whole = some_rest ∙ ap (λ x. whole_is x total) e

      pub other_end : (end ≡ total → ⊥) → None ≡ Right buf
      other_end d = body_failed trie_format buf b f (whole ∙ rw (ne_eqb end total d))

      pub some_missing : (left ≡ 0 → ⊥) → None ≡ Right buf
      some_missing d = body_failed trie_format buf b f (whole ∙ simp (ne_eqb left 0 d, and_false))

      pub is_trie_lem : end ≡ total → left ≡ 0 → Some n ≡ Right buf
      is_trie_lem p q = accepted trie_format buf b f (whole ∙ rw (eq-eqb end total p, eq-eqb left 0 q))
