-- The trie image (document 01, "Trie image"; source document 001, section 4).
use Rattle.std.specs.Prelude.{◌*◌, ◌+◌, ◌-◌, max, suc, zero, ℕ, Bool, false, true, List, [], ◌++◌, ◌∷◌, map, eqb, ltb, drop, length, take}
use Rattle.octets.specs.Lists.{concat_map, if◌then◌otherwise◌, sort_by}
use Rattle.octets.specs.Octets.{be, common}
use Rattle.entries.specs.Entries.{Entry, entry, outranks}
use Rattle.entries.specs.Names.{longest_name}
use Rattle.frame.specs.Frame.{framed}

-- Suffixes are entries whose name is what is left of a name. A set of them is in name order.
-- Do two suffixes begin with the same byte, or are both empty?
abbrev pub same_first : List ℕ → List ℕ → Bool
same_first [] [] = true
same_first [] (y ∷ ys) = false
same_first (x ∷ xs) [] = false
same_first (x ∷ xs) (y ∷ ys) = eqb x y

-- a suffix in front of the sets split so far
abbrev pub join_first : Entry → List (List Entry) → List (List Entry)
join_first e [] = (e ∷ []) ∷ []
join_first e ([] ∷ rs) = (e ∷ []) ∷ rs
join_first e ((f ∷ fs) ∷ rs) =
    if same_first e.name f.name then ((e ∷ f ∷ fs) ∷ rs) otherwise ((e ∷ []) ∷ (f ∷ fs) ∷ rs)

-- the sets of suffixes by first byte; the empty suffix is a set of its own
abbrev pub by_first : List Entry → List (List Entry)
by_first [] = []
by_first (e ∷ es) = join_first e (by_first es)

-- the longest common prefix of a set of suffixes
abbrev pub common_prefix : List Entry → List ℕ
common_prefix [] = []
common_prefix (e ∷ []) = e.name
common_prefix (e ∷ f ∷ es) = let p = common_prefix (f ∷ es) in take (common p e.name) p

-- the highest score of a set; 0 for the empty one
abbrev pub highest : List Entry → ℕ
highest [] = 0
highest (e ∷ es) = max e.score (highest es)

-- A node of a sibling group: its label, its score, the bytes of the group below it with all descendants (none for a
-- leaf).
pub record Node : Type 0 where
  pub label : List ℕ
  pub score : ℕ
  pub under : List ℕ

-- the size of a field, 0, 1, 2 or 4 bytes, the smallest that holds the value; and its code
abbrev pub size_of : ℕ → ℕ
size_of v = if eqb v 0 then 0 otherwise if ltb v 256 then 1 otherwise if ltb v 65536 then 2 otherwise 4

abbrev pub code_of : ℕ → ℕ
code_of size = if eqb size 4 then 3 otherwise size

-- header byte: score size in bits 7 and 6, child size in 5 and 4, last-sibling mark in 3, label length in 2 to 0
unfoldable pub header_byte : ℕ → ℕ → Bool → ℕ → ℕ
header_byte ssize csize last len = code_of ssize * 64 + code_of csize * 16 + (if last then 8 otherwise 0) + len

-- a node with its score field's value, its child field's value and size, and the last-sibling mark
unfoldable pub node_bytes : Node → ℕ → ℕ → ℕ → Bool → List ℕ
node_bytes x s c csize last =
    header_byte (size_of s) csize last (length x.label) ∷ be (size_of s) s ++ (be csize c ++ x.label)

abbrev pub is_leaf : Node → Bool
is_leaf x = eqb (length x.under) 0

-- the score of the first of the siblings that are left, and whether none is
abbrev pub first_score : List Node → ℕ
first_score [] = 0
first_score (x ∷ xs) = x.score

abbrev pub is_last : List Node → Bool
is_last [] = true
is_last (x ∷ xs) = false

-- Siblings in order. s is the first one's score field. `back` and `size` are the child field of the next node that has
-- children: counted from the first child of the nearest earlier one with children, it is the length of what stands
-- under that one, as the groups under the nodes follow in order.
abbrev pub siblings : ℕ → ℕ → ℕ → List Node → List ℕ
siblings s back size [] = []
siblings s back size (x ∷ xs) =
    node_bytes x s (if is_leaf x then 0 otherwise back) (if is_leaf x then 0 otherwise size) (is_last xs)
    ++ siblings (x.score - first_score xs) (if is_leaf x then back otherwise length x.under)
    (if is_leaf x then size otherwise size_of (length x.under)) xs

-- The child field that counts from where the group begins counts its own bytes: with `rest` other bytes in the group,
-- the smallest size that holds the sum.
abbrev pub own_size : ℕ → ℕ
own_size rest = if ltb (rest + 1) 256 then 1 otherwise if ltb (rest + 2) 65536 then 2 otherwise 4

-- the bytes of a group without that field
unfoldable pub other_bytes : ℕ → List Node → ℕ
other_bytes s xs = length (siblings s 0 0 xs)

-- a group whose first score field is s, and behind it the groups of its nodes in order, each with all its descendants
unfoldable pub group_bytes : ℕ → List Node → List ℕ
group_bytes s xs =
    siblings s (other_bytes s xs + own_size (other_bytes s xs)) (own_size (other_bytes s xs)) xs
    ++ concat_map (λ x. x.under) xs

-- siblings stand in falling score, at equal scores by label
abbrev pub stands_before : Node → Node → Bool
stands_before x y = outranks (entry x.label x.score) (entry y.label y.score)

-- the most bytes of a label
abbrev pub longest_label : ℕ
longest_label = 7

-- the longest common prefix, cut to 7 bytes
abbrev pub label_of : List Entry → List ℕ
label_of es = take longest_label (common_prefix es)

-- what remains of the suffixes behind a label of k bytes
abbrev pub remains : ℕ → List Entry → List Entry
remains k es = map (λ e. entry (drop k e.name) e.score) es

-- is the set one suffix, used up by a label of k bytes?
abbrev pub used_up : ℕ → List Entry → Bool
used_up k [] = false
used_up k (e ∷ []) = eqb (length e.name) k
used_up k (e ∷ f ∷ es) = false

-- the node of a set of suffixes; `group` gives the bytes of the sibling group of a set, with all descendants
unfoldable pub node_of : (List Entry → List ℕ) → List Entry → Node
node_of group es =
    record {
      label = label_of es;
      score = highest es;
      under = elim (used_up (length (label_of es)) es) [ true ↦ [] | false ↦ group (remains (length (label_of es)) es) ];
    }

-- The group of a set of suffixes whose first score field is s, with all descendants, d levels deep.
abbrev pub group_of : ℕ → ℕ → List Entry → List ℕ
group_of zero s es = []
group_of (suc d) s es = group_bytes s (sort_by stands_before (map (node_of (group_of d 0)) (by_first es)))

-- each level but the last uses up a byte, so that names of 48 bytes have at most 49
abbrev pub levels : ℕ
levels = suc longest_name

-- the first node of all has its whole score in its field, and that is the highest
unfoldable pub trie_image : List Entry → List ℕ
trie_image es = framed 0x31 (length es) (group_of levels (highest es) es)
