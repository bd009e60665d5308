-- Reading a trie (document 01, "Trie image").
use Rattle.std.specs.Prelude.{◌%◌, ◌+◌, ◌-◌, ◌/◌, suc, zero, ℕ, Bool, false, not, true, List, [], ◌++◌, ◌∷◌, map, eqb, drop, length, take}
use Prim.Native.Char.{code}
use Rattle.std.proofs.Math.Option.{Option}
use Rattle.octets.specs.Lists.{if◌then◌otherwise◌, sort_by}
use Rattle.octets.specs.Octets.{from_be}
use Rattle.entries.specs.Entries.{Entry, entry, name_below}
use Rattle.frame.specs.Frame.{count_of, read_as}
use Rattle.trie.specs.Trie.{levels, trie_image}

-- Reading. The four fields of a header byte.
abbrev pub size_at : ℕ → ℕ
size_at code = if eqb code 3 then 4 otherwise code

unfoldable pub score_size : ℕ → ℕ
score_size h = size_at (h / 64)

unfoldable pub child_size : ℕ → ℕ
child_size h = size_at (h / 16 % 4)

unfoldable pub last_mark : ℕ → Bool
last_mark h = eqb (h / 8 % 2) 1

unfoldable pub label_length : ℕ → ℕ
label_length h = h % 8

-- what a node's fields say; the child field's value is not looked at
pub record Sibling : Type 0 where
  pub label : List ℕ
  pub score : ℕ
  pub inner : Bool

-- a first sibling's score field counts up from the score above it, another's down from the score before it
abbrev pub score_from : Bool → ℕ → ℕ → ℕ
score_from is_first prev field = if is_first then prev + field otherwise prev - field

-- the node of header h at the front of bs, which begin behind the header; and what follows it
unfoldable pub sibling_of : Bool → ℕ → ℕ → List ℕ → Sibling
sibling_of is_first prev h bs =
    record {
      label = take (label_length h) (drop (child_size h) (drop (score_size h) bs));
      score = score_from is_first prev (from_be (take (score_size h) bs));
      inner = not (eqb (child_size h) 0);
    }

unfoldable pub behind_sibling : ℕ → List ℕ → List ℕ
behind_sibling h bs = drop (label_length h) (drop (child_size h) (drop (score_size h) bs))

-- the siblings of a group, at most d of them, and what stands behind them
pub record Group : Type 0 where
  pub nodes : List Sibling
  pub behind : List ℕ

abbrev pub one_more : Sibling → Group → Group
one_more x g = record { nodes = x ∷ g.nodes; behind = g.behind }

abbrev pub siblings_from : ℕ → Bool → ℕ → List ℕ → Group
siblings_from zero is_first prev bs = record { nodes = []; behind = bs }
siblings_from (suc d) is_first prev [] = record { nodes = []; behind = [] }
siblings_from (suc d) is_first prev (h ∷ bs) =
    elim (last_mark h) [
      | true ↦ record { nodes = sibling_of is_first prev h bs ∷ []; behind = behind_sibling h bs }
      | false ↦ one_more (sibling_of is_first prev h bs)
          (siblings_from d false (sibling_of is_first prev h bs).score (behind_sibling h bs))
    ]

-- suffixes found, and what stands behind them
pub record FoundSuffixes : Type 0 where
  pub entries : List Entry
  pub behind : List ℕ

abbrev pub prefixed : List ℕ → List Entry → List Entry
prefixed w es = map (λ e. entry (w ++ e.name) e.score) es

-- what siblings stand for, where `group` reads the group of a node of a score
abbrev pub found_under : (ℕ → List ℕ → FoundSuffixes) → List Sibling → List ℕ → FoundSuffixes
found_under group [] bs = record { entries = []; behind = bs }
found_under group (x ∷ xs) bs =
    elim x.inner [
      | true ↦
          let g = group x.score bs in
          let r = found_under group xs g.behind in
          record { entries = prefixed x.label g.entries ++ r.entries; behind = r.behind }
      | false ↦
          let r = found_under group xs bs in
          record { entries = entry x.label x.score ∷ r.entries; behind = r.behind }
    ]

abbrev pub group_from : ℕ → ℕ → List ℕ → FoundSuffixes
group_from zero prev bs = record { entries = []; behind = bs }
group_from (suc d) prev bs =
    let g = siblings_from (length bs) true prev bs in
    found_under (group_from d) g.nodes g.behind

-- a trie of no entries has no group
unfoldable pub trie_entries : List ℕ → List Entry
trie_entries buf =
    if eqb (count_of buf) 0 then [] otherwise sort_by (name_below) (group_from levels 0 (drop 7 buf)).entries

unfoldable pub read_trie : List ℕ → Option (List Entry)
read_trie buf = read_as trie_entries trie_image buf
