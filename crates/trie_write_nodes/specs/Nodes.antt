-- The bytes that the runs of a sibling group make (document 01, "Trie image").
use Rattle.std.specs.Prelude.{◌*◌, ◌+◌, ◌-◌, ◌<◌, ◌≤◌, ℕ, ◌≡◌, Bool, true, List, [], ◌++◌, ◌∷◌, drop, length, take}
use Rattle.std.proofs.lemmas.List.Edits.{sets}
use Rattle.octets.specs.Lists.{if◌then◌otherwise◌}
use Rattle.octets.specs.Octets.{be}
use Rattle.entries.specs.Names.{longest_name}
use Rattle.trie.specs.Trie.{header_byte, longest_label, size_of}
use Rattle.trie_write_runs.specs.declared.NodeFields.{NodeFields}
use Rattle.trie_write_runs.specs.declared.Run.{Run}
use Rattle.trie_write_runs.specs.Runs.{Each, Falls, ends_here, first_high}
use Rattle.trie_write_runs.specs.Fields.{after, child_field_size, child_field_value, first_fields, node_length, plain_fields}

-- the length of nodes, of which the first has the fields f
abbrev pub nodes_length : NodeFields → List Run → ℕ
nodes_length f [] = 0
nodes_length f (r ∷ rs) = node_length r f + nodes_length (after r f (first_high rs)) rs

-- the label of a run, of names that go on behind the first d bytes of their rows
unfoldable pub run_label : List ℕ → ℕ → Run → List ℕ
run_label names d r = take r.len (drop (r.lo * longest_name + d) names)

-- a node: header byte, score field, child field, label
unfoldable pub one_node : List ℕ → ℕ → Run → NodeFields → Bool → List ℕ
one_node names d r f last =
    header_byte (size_of f.score) (child_field_size r f) last r.len
    ∷ be (size_of f.score) f.score ++ (be (child_field_size r f) (child_field_value r f) ++ run_label names d r)

abbrev pub nodes_bytes : List ℕ → ℕ → NodeFields → List Run → List ℕ
nodes_bytes names d f [] = []
nodes_bytes names d f (r ∷ rs) = one_node names d r f (ends_here rs) ++ nodes_bytes names d (after r f (first_high rs)) rs

-- the group's own bytes
unfoldable pub group_own_bytes : List ℕ → ℕ → ℕ → List Run → List ℕ
group_own_bytes names d s rs = nodes_bytes names d (first_fields s (nodes_length (plain_fields s) rs)) rs

-- bytes that are put, or only measured
unfoldable pub put_if : Bool → List ℕ → ℕ → List ℕ → List ℕ
put_if put dst at bs = if put then sets dst at bs otherwise dst

-- what the code needs of runs: labels of at most 7 bytes that stand in the rows, scores falling
pub record RunFits (size d : ℕ) (r : Run) : Type 0 where
  pub short : r.len ≤ longest_label
  pub inside : r.lo * longest_name + d + r.len ≤ size

pub record RunsFit (size d : ℕ) (rs : List Run) : Type 0 where
  pub each : Each (RunFits size d) rs
  pub falls : Falls rs

-- what measuring needs
pub record Measurable (rs : List Run) (first : NodeFields) : Type 0 where
  pub short : Each (λ r. r.len ≤ longest_label) rs
  pub falls : Falls rs
  pub size : first.size ≤ 4

-- a node fits a buffer of n bytes at an index, and so do nodes
pub record OneFits (size d : ℕ) (r : Run) (f : NodeFields) (n at : ℕ) : Type 0 where
  pub sound : RunFits size d r
  pub small : f.size ≤ 4
  pub room : at + node_length r f ≤ n

pub record AllFit (size d : ℕ) (rs : List Run) (first : NodeFields) (n start : ℕ) : Type 0 where
  pub able : RunsFit size d rs
  pub small : first.size ≤ 4
  pub room : start + nodes_length first rs ≤ n

-- the group's own bytes end `back` bytes before index `total` of a buffer of n bytes
pub record Finishing (names : List ℕ) (d : ℕ) (rs : List Run) (s n total back : ℕ) (put : Bool) : Type 0 where
  pub able : RunsFit (length names) d rs
  pub low : back < 16777216
  pub room : put ≡ true → back + length (group_own_bytes names d s rs) ≤ total
  pub inside : put ≡ true → total ≤ n

pub record Finished (names : List ℕ) (d : ℕ) (rs : List Run) (s : ℕ) (dst out : List ℕ) (total back : ℕ) (put : Bool)
    (r : ℕ) : Type 0 where
  pub end : r ≡ back + length (group_own_bytes names d s rs)
  pub bytes : out ≡ put_if put dst (total - r) (group_own_bytes names d s rs)
