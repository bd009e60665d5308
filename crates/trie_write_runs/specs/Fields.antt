-- The fields of a node, and its length (document 01, "Trie image").
use Rattle.std.specs.Prelude.{◌+◌, ◌-◌, ℕ, eqb}
use Rattle.octets.specs.Lists.{if◌then◌otherwise◌}
use Rattle.trie.specs.Trie.{own_size, size_of}
use Rattle.trie_write_runs.specs.declared.NodeFields.{NodeFields}
use Rattle.trie_write_runs.specs.declared.Run.{Run}

-- a part of a node's child field: 0 for a leaf
abbrev pub child_part : Run → ℕ → ℕ
child_part r part = if eqb r.under 0 then 0 otherwise part

-- the child field of a node whose fields are f: none and 0 for a leaf
abbrev pub child_field_size : Run → NodeFields → ℕ
child_field_size r f = child_part r f.size

abbrev pub child_field_value : Run → NodeFields → ℕ
child_field_value r f = child_part r f.child

-- the fields of the sibling after r, whose score is given
unfoldable pub after : Run → NodeFields → ℕ → NodeFields
after r f score =
    record {
      score = r.high - score;
      child = if eqb r.under 0 then f.child otherwise r.under;
      size = if eqb r.under 0 then f.size otherwise size_of r.under;
    }

-- header, score field, child field, label
unfoldable pub node_length : Run → NodeFields → ℕ
node_length r f = 1 + size_of f.score + child_field_size r f + r.len

-- the fields of a group's first sibling: without a child field, and with `other` bytes besides the child field that
-- counts its own
abbrev pub plain_fields : ℕ → NodeFields
plain_fields s = record { score = s; child = 0; size = 0 }

abbrev pub first_fields : ℕ → ℕ → NodeFields
first_fields s other = record { score = s; child = other + own_size other; size = own_size other }
