-- The check of a trie as a definition: a walk over the positions of one buffer, down the tree (document 01, "Trie
-- image").
use Rattle.std.specs.Prelude.{◌%◌, ◌*◌, ◌+◌, ◌-◌, suc, zero, ℕ, Bool, ◌&&◌, ◌||◌, false, not, true, List, eqb, leb}
use Rattle.std.specs.Prelude.{ltb, drop, get_or, length, replicate, set, take, None, Option, Some}
use Rattle.octets.specs.Lists.{if◌then◌otherwise◌}
use Rattle.octets.specs.Octets.{from_be, number_at}
use Rattle.entries.specs.Names.{longest_name}
use Rattle.entries_laws.specs.Halves.{half_behind, half_number}
use Rattle.entries_laws.specs.Signs.{no_half}
use Rattle.entries_laws.specs.declared.Half.TheVariants as half
use Rattle.entries_laws.specs.declared.Half.{Half}
use Rattle.frame_laws.specs.Test.{frame_is}
use Rattle.trie.specs.Reading.{child_size, label_length, last_mark, score_size}
use Rattle.trie.specs.Trie.{longest_label, own_size, size_of}
use Rattle.trie_laws.specs.Keys.{key}
use Rattle.trie_check_laws.specs.declared.Fields.{Fields}
use Rattle.trie_check_laws.specs.declared.Above.{Above}
use Rattle.trie_check_laws.specs.declared.Among.{Among}
use Rattle.trie_check_laws.specs.declared.WalkEnd.{WalkEnd}

-- One node. Its fields, where its header is h and the bytes t stand behind it.
abbrev pub field_in : ℕ → List ℕ → ℕ
field_in h t = from_be (take (score_size h) t)

abbrev pub child_in : ℕ → List ℕ → ℕ
child_in h t = from_be (take (child_size h) (drop (score_size h) t))

abbrev pub label_in : ℕ → List ℕ → List ℕ
label_in h t = take (label_length h) (drop (child_size h) (drop (score_size h) t))

-- the bytes behind its header
abbrev pub body_of : ℕ → ℕ
body_of h = score_size h + child_size h + label_length h

abbrev pub head_fields : ℕ → List ℕ → ℕ → Fields
head_fields h t at =
    record {
      end = at + 1 + body_of h;
      last = last_mark h;
      field = field_in h t;
      size = child_size h;
      child = child_in h t;
      key = key (label_in h t);
      len = label_length h;
    }

-- the node at a position, if its bytes are there and its score field has the smallest size
unfoldable pub head_of : List ℕ → ℕ → Option Fields
head_of s at =
    if leb (length s) at
    then None
    otherwise if ltb (length s - at - 1) (body_of (get_or s at 0))
    then None
    otherwise if eqb (size_of (field_in (get_or s at 0) (drop (suc at) s))) (score_size (get_or s at 0))
    then Some (head_fields (get_or s at 0) (drop (suc at) s) at)
    otherwise None

-- where the group at a position ends: past its first node with the last mark
abbrev pub end_after : Option Fields → (ℕ → Option ℕ) → Option ℕ
end_after None f = None
end_after (Some n) f = if n.last then Some n.end otherwise f n.end

unfoldable pub group_end : List ℕ → ℕ → ℕ → Option ℕ
group_end s zero at = None
group_end s (suc k) at = end_after (head_of s at) (λ e. group_end s k e)

-- the label of a node, which stands at its end
abbrev pub label_at : List ℕ → Fields → List ℕ
label_at s n = take n.len (drop (n.end - n.len) s)

-- the half of a pair that is open behind it: a label may be cut inside a pair
abbrev pub half_of : List ℕ → Among → Fields → Half
half_of s p n = half_behind p.half (label_at s n)

-- The tests of a node in its place. A sibling that is first and last has a label, and stands under one of 7 bytes or at
-- the top.
abbrev pub lonely : Among → Fields → Bool
lonely p n = not n.last || (p.full && not (eqb n.len 0))

-- The score field: a first sibling's is 0 but for the first node of all; another's is no more than the score before,
-- and with the same score its key is higher.
abbrev pub score_stands : Among → Fields → Bool
score_stands p n =
    if p.first
    then ((eqb p.path 0 || eqb n.field 0) && lonely p n)
    otherwise (leb n.field p.score && (not (eqb n.field 0) || ltb p.key n.key))

-- names of at most 48 bytes; an empty label only on a leaf that is not in the first group
abbrev pub label_stands : Among → Fields → Bool
label_stands p n = leb (p.path + n.len) longest_name
    && (not (eqb n.len 0) || (not (eqb p.path 0) && eqb n.size 0))

-- a leaf is one of the entries to come; a child field says where the next group is, in the smallest size
abbrev pub child_stands : Among → Fields → Bool
child_stands p n =
    if eqb n.size 0
    then not (eqb p.left 0)
    otherwise (eqb n.child p.back && eqb n.size
    (if p.own then own_size (n.child - n.size) otherwise size_of n.child))

unfoldable pub stands : Among → Fields → Bool
stands p n = score_stands p n && (label_stands p n && child_stands p n)

-- Places. A node's score: the whole field for the first node of all, the score above for another first sibling.
abbrev pub score_of : Among → Fields → ℕ
score_of p n = if p.first then (if eqb p.path 0 then n.field otherwise p.score) otherwise p.score - n.field

abbrev pub after_node : Among → Fields → ℕ → ℕ → Bool → ℕ → Among
after_node p n next back own left =
    record {
      at = n.end;
      next = next;
      back = back;
      own = own;
      first = false;
      score = score_of p n;
      key = n.key;
      path = p.path;
      half = p.half;
      full = p.full;
      left = left;
    }

-- behind a leaf, which is one entry
abbrev pub after_leaf : Among → Fields → Among
after_leaf p n = after_node p n p.next p.back p.own (p.left - 1)

-- behind a node whose group, with all its descendants, ends at q
abbrev pub after_inner : Among → Fields → ℕ → ℕ → Among
after_inner p n q left = after_node p n q (q - p.next) false left

-- what stands above a group
abbrev pub above : ℕ → Half → ℕ → Bool → Above
above path half score full = record { path = path; half = half; score = score; full = full }

-- before the group at a position, which ends at e
abbrev pub begin_group : ℕ → ℕ → Above → ℕ → Among
begin_group at e a left =
    record {
      at = at;
      next = e;
      back = e - at;
      own = true;
      first = true;
      score = a.score;
      key = 0;
      path = a.path;
      half = a.half;
      full = a.full;
      left = left;
    }

-- The walk: over a group; over a node in its place and the siblings behind it; over what follows a node. `seen` has a
-- mark for each key of the siblings before. It gives where what stands below ends and how many entries are still to
-- come.
pub data Task : Type 0 where
  in_group : ℕ → Above → ℕ → Task
  in_node : Among → List ℕ → Task
  in_rest : Among → List ℕ → Bool → Task

abbrev pub walk_to : ℕ → ℕ → Option WalkEnd
walk_to end left = Some (record { end = end; left = left })

abbrev pub and_then : Option WalkEnd → (ℕ → ℕ → Option WalkEnd) → Option WalkEnd
and_then None f = None
and_then (Some w) f = f w.end w.left

abbrev pub into : Option ℕ → (ℕ → Option WalkEnd) → Option WalkEnd
into None f = None
into (Some e) f = f e

-- the group below a node
abbrev pub beneath : List ℕ → Among → Fields → Task
beneath s p n =
    in_group p.next (above (p.path + n.len) (half_of s p n) (score_of p n) (eqb n.len longest_label)) p.left

-- Where the mark of a key stands: in its own place, or for a byte past 7E in one of the low places, where no byte of 20
-- to 7E has its own. The first halves of µ and Ω have different ones.
abbrev pub mark_count : ℕ
mark_count = 128

abbrev pub low_places : ℕ
low_places = 32

abbrev pub mark_place : ℕ → ℕ
mark_place k = if ltb k mark_count then k otherwise k % low_places

-- a leaf ends a name, so no half is open there
abbrev pub node_on : Bool → List ℕ → Among → List ℕ → Fields → (Task → Option WalkEnd) → Option WalkEnd
node_on true s p seen n f =
    if eqb (half_number (half_of s p n)) no_half then f
    (in_rest (after_leaf p n) (set seen (mark_place n.key) 1) n.last) otherwise None
node_on false s p seen n f =
    and_then (f (beneath s p n))
    (λ q left. f (in_rest (after_inner p n q left) (set seen (mark_place n.key) 1) n.last))

abbrev pub node_then : Option Fields → List ℕ → Among → List ℕ → (Task → Option WalkEnd) → Option WalkEnd
node_then None s p seen f = None
node_then (Some n) s p seen f =
    if stands p n && eqb (get_or seen (mark_place n.key) 0) 0 then node_on (eqb n.size 0) s p seen n f otherwise None

abbrev pub none_seen : List ℕ
none_seen = replicate mark_count 0

unfoldable pub walk_of : List ℕ → ℕ → Task → Option WalkEnd
walk_of s zero t = None
walk_of s (suc k) (in_group at a left) =
    into (group_end s (suc k) at) (λ e. walk_of s k (in_node (begin_group at e a left) none_seen))
walk_of s (suc k) (in_node p seen) = node_then (head_of s p.at) s p seen (λ t. walk_of s k t)
walk_of s (suc k) (in_rest p seen last) = if last then walk_to p.next p.left otherwise walk_of s k (in_node p seen)

-- the place behind a node, where w is the walk over the group below it
abbrev pub behind_group : Option WalkEnd → Among → Fields → Option Among
behind_group None p n = None
behind_group (Some w) p n = Some (after_inner p n w.end w.left)

abbrev pub behind_leaf : Bool → Among → Fields → Option Among
behind_leaf true p n = Some (after_leaf p n)
behind_leaf false p n = None

abbrev pub reached_by : List ℕ → Among → Fields → Option WalkEnd → Option Among
reached_by s p n w = if eqb n.size 0 then behind_leaf (eqb (half_number (half_of s p n)) no_half) p n
    otherwise behind_group w p n

-- The whole image: the walk from byte 7 on ends at the total length, and all n entries were met. A trie of no entries
-- has no group.
abbrev pub whole_is : Option WalkEnd → ℕ → Bool
whole_is None total = false
whole_is (Some w) total = eqb w.end total && eqb w.left 0

-- enough turns for a buffer
abbrev pub turns : List ℕ → ℕ
turns s = suc (4 * length s)

unfoldable pub trie_body_is : List ℕ → Bool
trie_body_is s =
    if eqb (number_at 2 s 5) 0
    then eqb (number_at 4 s 1) 7
    otherwise whole_is (walk_of s (turns s) (in_group 7 (above 0 half.None 0 true) (number_at 2 s 5))) (number_at 4 s 1)

-- the whole check of a trie
unfoldable pub trie_checks : List ℕ → Bool
trie_checks s = frame_is 0x31 s && trie_body_is s
