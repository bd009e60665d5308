-- What stands under a range of rows, and the call that writes a trie.
use Rattle.std.specs.Prelude.{◌+◌, ◌-◌, ◌<◌, ◌≤◌, ℕ, ◌≡◌, Bool, false, true, Option, None, Some, List, [], ltb, length}
use Rattle.octets.specs.Lists.{if◌then◌otherwise◌}
use Rattle.octets.specs.Octets.{overwrite}
use Rattle.entries.specs.Entries.{Entry}
use Rattle.trie.specs.Trie.{group_of, levels, trie_image, used_up}
use Rattle.book_table.specs.Table.{entries}
use Rattle.trie_write_nodes.specs.Nodes.{put_if}
use Rattle.trie_write_rows.specs.Rows.{Splittable, set_at_depth}

-- what stands under rows lo to hi behind their first d bytes, where a first sibling's score field is s: nothing under a
-- name that is used up, else the group of what is left
unfoldable pub under_at : List Entry → ℕ → ℕ → ℕ → ℕ → List ℕ
under_at es lo hi d s = elim (used_up 0 (set_at_depth es lo hi d)) [ true ↦ [] | false ↦ group_of levels s (set_at_depth es lo hi d) ]

-- it can be put so that it ends `back` bytes before index `total` of a buffer of n bytes
pub record Groupable (names lens scores : List ℕ) (lo hi d s n total back : ℕ) (put : Bool) : Type 0 where
  pub able : Splittable names lens scores lo hi d
  pub low : back + length (under_at (entries names lens scores) lo hi d s) < 16777216
  pub room : put ≡ true → back + length (under_at (entries names lens scores) lo hi d s) ≤ total
  pub inside : put ≡ true → total ≤ n

-- it was put so, or only measured: r bytes now end the first `total`
pub record Grouped (es : List Entry) (lo hi d s : ℕ) (dst out : List ℕ) (total back : ℕ) (put : Bool) (r : ℕ) : Type 0
  where
    pub end : r ≡ back + length (under_at es lo hi d s)
    pub bytes : out ≡ put_if put dst (total - r) (under_at es lo hi d s)

-- the answer r and every byte of the destination afterwards, by whether there is room for the trie
pub record TrieWritten (es : List Entry) (dst : List ℕ) (r : Option ℕ) (out : List ℕ) : Type 0 where
  pub answer : r ≡ (if ltb (length dst) (length (trie_image es)) then None otherwise Some (length (trie_image es)))
  pub left : out ≡ (if ltb (length dst) (length (trie_image es)) then dst otherwise overwrite dst (trie_image es))
