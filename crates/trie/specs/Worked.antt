-- Worked cases of the trie image, of its reading, and of the calls on tries: one table, one proposition.
use Rattle.std.specs.Prelude.{◌+◌, ℕ, ◌≡◌, refl, List, [], ◌++◌, ◌∷◌, map, drop, length, replicate, take}
use Rattle.octets.specs.Lists.{concat_map, count_from}
use Rattle.octets.specs.Octets.{be, from_be}
use Rattle.octets.specs.Table.{Row, ◌gives◌, failing}
use Rattle.octets.specs.Text.{text}
use Rattle.entries.specs.Completion.{completion}
use Rattle.entries.specs.Entries.{Entry, entry, valid}
use Rattle.entries.specs.Names.{allowed_bytes, is_name, is_prefix, is_score, micro, ohm}
use Rattle.book.specs.Records.{record_length, record_name, record_of}
use Rattle.answer.specs.Answers.{entries_bytes, entry_bytes, writing, writing_image}
use Rattle.book.specs.Book.{entries_in, image_in, offset, offsets, peak, peaks, read_in, records_at}
use Rattle.book.specs.Book.{scores}
use Rattle.frame.specs.Frame.{count_of, framed, read_as}
use Rattle.book.specs.Old.{P3old}
use Rattle.book.specs.Shown.{E, P1, P2, P3, P4, alternating, answer_entry, answer_for, changed, cut_name, cut_trie}
use Rattle.book.specs.Shown.{full_name, half_name, letters, listed, nine_offered, shown_offered, shown_read, shown_written}
use Rattle.book.specs.Shown.{signed, signed_book, signed_trie, spare, µA, µF}
use Rattle.trie.specs.Calls.{complete_trie, complete_trie_within, write_trie}
use Rattle.trie.specs.Reading.{behind_sibling, child_size, label_length, last_mark, read_trie, score_size, sibling_of}
use Rattle.trie.specs.Reading.{trie_entries}
use Rattle.trie.specs.Trie.{group_bytes, header_byte, node_bytes, node_of, other_bytes, trie_image}

-- 31 names behind p, each of 7 bytes and of score 0: leaves of 8 bytes each
abbrev leaves : List ℕ → List Entry
leaves p = map (λ c. entry (p ++ (c ∷ text "aaaaaa")) 0) (count_from 0x21 31)

abbrev leaf_bytes : List ℕ
leaf_bytes = concat_map (λ c. 0x07 ∷ c ∷ text "aaaaaa") (count_from 0x21 31)

-- with them, an inner node whose label is n letters z: 249 + n bytes in the group besides its child field
abbrev wide : ℕ → List Entry
wide n = leaves [] ++ (entry (replicate n 0x7A ++ text "a") 0 ∷ entry (replicate n 0x7A ++ text "b") 0 ∷ [])

abbrev wide254 : List ℕ
wide254 =
    (0x31 ∷ 0x00 ∷ 0x00 ∷ 0x01 ∷ 0x0A ∷ 0x00 ∷ 33 ∷ leaf_bytes)
    ++ (0x1D ∷ 0xFF ∷ text "zzzzz")
    ++ (0x01 ∷ text "a" ++ (0x09 ∷ text "b"))

abbrev wide255 : List ℕ
wide255 =
    (0x31 ∷ 0x00 ∷ 0x00 ∷ 0x01 ∷ 0x0C ∷ 0x00 ∷ 33 ∷ leaf_bytes)
    ++ (0x2E ∷ 0x01 ∷ 0x01 ∷ text "zzzzzz")
    ++ (0x01 ∷ text "a" ++ (0x09 ∷ text "b"))

-- 249 + n bytes under a node "a", and behind it a node "b" with children
abbrev deep : ℕ → List Entry
deep n = leaves (text "a") ++ (entry (text "a" ++ replicate n 0x7A) 0 ∷ entry (text "bx") 0 ∷ entry (text "by") 0 ∷ [])

-- The second example of docs/FORMAT.md: two siblings with children, a score field of 2 bytes, a label cut to 7.
abbrev two_and_cut : List Entry
two_and_cut =
    entry (text "rc") 900 ∷ entry (text "rl") 20 ∷ entry (text "sine sweep") 300 ∷ entry (text "square") 300 ∷ []

abbrev two_and_cut_trie : List ℕ
two_and_cut_trie =
    0x31 ∷ 0x00 ∷ 0x00 ∷ 0x00 ∷ 0x29 ∷ 0x00 ∷ 0x04
    ∷ 0x91 ∷ 0x03 ∷ 0x84 ∷ 0x0A ∷ 0x72
    ∷ 0x99 ∷ 0x02 ∷ 0x58 ∷ 0x06 ∷ 0x73
    ∷ 0x01 ∷ 0x63
    ∷ 0x89 ∷ 0x03 ∷ 0x70 ∷ 0x6C
    ∷ 0x17 ∷ 0x0F ∷ 0x69 ∷ 0x6E ∷ 0x65 ∷ 0x20 ∷ 0x73 ∷ 0x77 ∷ 0x65
    ∷ 0x0D ∷ 0x71 ∷ 0x75 ∷ 0x61 ∷ 0x72 ∷ 0x65
    ∷ 0x0A ∷ 0x65 ∷ 0x70 ∷ []

-- Siblings inner, leaf, inner. The second inner node's field, 5, is the length of what stands under the first.
abbrev inner_leaf_inner : List Entry
inner_leaf_inner =
    entry (text "aa") 9 ∷ entry (text "ab") 8 ∷ entry (text "b") 7 ∷ entry (text "ca") 6 ∷ entry (text "cb") 5 ∷ []

abbrev inner_leaf_inner_trie : List ℕ
inner_leaf_inner_trie =
    0x31 ∷ 0x00 ∷ 0x00 ∷ 0x00 ∷ 0x1C ∷ 0x00 ∷ 0x05
    ∷ 0x51 ∷ 0x09 ∷ 0x0B ∷ 0x61
    ∷ 0x41 ∷ 0x02 ∷ 0x62
    ∷ 0x59 ∷ 0x01 ∷ 0x05 ∷ 0x63
    ∷ 0x01 ∷ 0x61 ∷ 0x49 ∷ 0x01 ∷ 0x62
    ∷ 0x01 ∷ 0x61 ∷ 0x49 ∷ 0x01 ∷ 0x62 ∷ []

-- version, total length and n, for less than 256 bytes, and what follows
abbrev trie_of : ℕ → List ℕ → List ℕ
trie_of n nodes = 0x31 ∷ 0x00 ∷ 0x00 ∷ 0x00 ∷ (7 + length nodes) ∷ 0x00 ∷ n ∷ nodes

-- the nodes of the trie of one name "a" with a score
abbrev alone : ℕ → List ℕ
alone s = drop 7 (trie_image (entry (text "a") s ∷ []))

abbrev images : List Row
images =
    (trie_image [] gives P2)
    ∷ (trie_image E gives P4)
    -- siblings inner, leaf, inner; leaf, inner
    ∷ (trie_image inner_leaf_inner gives inner_leaf_inner_trie)
    ∷ (trie_image two_and_cut gives two_and_cut_trie)
    ∷ (trie_image (entry (text "a") 9 ∷ entry (text "bx") 3 ∷ entry (text "by") 3 ∷ [])
    gives trie_of 3 (0x41 ∷ 0x09 ∷ 0x61 ∷ 0x59 ∷ 0x06 ∷ 0x07 ∷ 0x62 ∷ 0x01 ∷ 0x78 ∷ 0x09 ∷ 0x79 ∷ []))
    -- 254 other bytes in the group: the field counts itself, FF; 255: two bytes, 257
    ∷ (trie_image (wide 5) gives wide254)
    ∷ (trie_image (wide 6) gives wide255)
    -- 255 and 256 bytes under the sibling before
    ∷ (take 6 (drop 7 (trie_image (deep 6))) gives (0x11 ∷ 0x06 ∷ 0x61 ∷ 0x19 ∷ 0xFF ∷ 0x62 ∷ []))
    ∷ (take 7 (drop 7 (trie_image (deep 7))) gives (0x11 ∷ 0x07 ∷ 0x61 ∷ 0x29 ∷ 0x01 ∷ 0x00 ∷ 0x62 ∷ []))
    -- "rc" goes on: an empty label, in front at equal scores, behind a higher one
    ∷ (trie_image (entry (text "rc") 9 ∷ entry (text "rc step") 9 ∷ [])
    gives trie_of 2 (0x5A ∷ 0x09 ∷ 0x05 ∷ text "rc" ++ (0x00 ∷ 0x0D ∷ text " step")))
    ∷ (trie_image (entry (text "rc") 3 ∷ entry (text "rc step") 9 ∷ [])
    gives trie_of 2 (0x5A ∷ 0x09 ∷ 0x05 ∷ text "rc" ++ (0x05 ∷ text " step") ++ (0x48 ∷ 0x06 ∷ [])))
    -- labels cut to 7, with a group of one node below: 7 and 7 and 1 bytes; 7 and 1, and two below
    ∷ (trie_image (entry (replicate 15 0x78) 0 ∷ [])
    gives trie_of 1 (0x1F ∷ 0x09 ∷ replicate 7 0x78 ++ (0x1F ∷ 0x09 ∷ replicate 7 0x78) ++ (0x09 ∷ 0x78 ∷ [])))
    ∷ (trie_image (entry (text "abcdefgh1") 2 ∷ entry (text "abcdefgh2") 1 ∷ [])
    gives trie_of 2 (0x5F ∷ 0x02 ∷ 0x0A ∷ text "abcdefg" ++ (0x19 ∷ 0x03 ∷ text "h")
    ++ (0x01 ∷ text "1" ++ (0x49 ∷ 0x01 ∷ text "2"))))
    -- falling score, at equal scores by label
    ∷ (trie_image (letters 0x61 (1 ∷ 1 ∷ 2 ∷ [])) gives trie_of 3 (0x41 ∷ 0x02 ∷ 0x63 ∷ 0x41 ∷ 0x01 ∷ 0x61 ∷ 0x09 ∷ 0x62
    ∷ []))
    ∷ (trie_image (letters 0x61 (44 ∷ 300 ∷ [])) gives trie_of 2 (0x81 ∷ 0x01 ∷ 0x2C ∷ 0x62 ∷ 0x89 ∷ 0x01 ∷ 0x00 ∷ 0x61
    ∷ []))
    -- the smallest score field that holds the value
    ∷ (alone 0 gives (0x09 ∷ 0x61 ∷ []))
    ∷ (alone 255 gives (0x49 ∷ 0xFF ∷ 0x61 ∷ []))
    ∷ (alone 256 gives (0x89 ∷ 0x01 ∷ 0x00 ∷ 0x61 ∷ []))
    ∷ (alone 65535 gives (0x89 ∷ 0xFF ∷ 0xFF ∷ 0x61 ∷ []))
    ∷ (alone 65536 gives (0xC9 ∷ 0x00 ∷ 0x01 ∷ 0x00 ∷ 0x00 ∷ 0x61 ∷ []))
    -- µ and Ω; a label cut inside µ; two names that share the half of a sign
    ∷ (trie_image signed gives signed_trie)
    ∷ (trie_image (entry cut_name 1 ∷ []) gives cut_trie)
    ∷ (trie_image (entry cut_name 2 ∷ entry (cut_name ++ text "F") 1 ∷ [])
    gives trie_of 2 (0x5F ∷ 0x02 ∷ 0x0A ∷ text "abcdef" ++ (0xC2 ∷ 0x19 ∷ 0x03 ∷ 0xB5 ∷ 0x00 ∷ 0x49 ∷ 0x01 ∷ text "F")))
    ∷ []

-- not read: []
abbrev readings : List Row
readings =
    -- bytes behind the image are not read
    (shown_read (read_trie (P2 ++ spare 9)) gives listed [])
    ∷ (shown_read (read_trie (P2 ++ drop 7 P4)) gives listed [])
    ∷ (shown_read (read_trie (P4 ++ spare 3)) gives listed E)
    ∷ (shown_read (read_trie (inner_leaf_inner_trie ++ spare 1)) gives listed inner_leaf_inner)
    ∷ (shown_read (read_trie wide254) gives listed (wide 5))
    ∷ (shown_read (read_trie wide255) gives listed (wide 6))
    -- cut off; another version; the total length one too small, one too large
    ∷ (shown_read (read_trie (take 6 P2)) gives [])
    ∷ (shown_read (read_trie (take 27 P4)) gives [])
    ∷ (shown_read (read_trie (changed P4 0 (0x21 ∷ []))) gives [])
    ∷ (shown_read (read_trie (changed P4 4 (0x1B ∷ []))) gives [])
    ∷ (shown_read (read_trie (changed P4 4 (0x1D ∷ []) ++ spare 1)) gives [])
    -- n is not the number of leaves; nodes without n
    ∷ (shown_read (read_trie (changed P4 6 (3 ∷ []))) gives [])
    ∷ (shown_read (read_trie (changed P4 6 (5 ∷ []))) gives [])
    ∷ (shown_read (read_trie (trie_of 0 (0x09 ∷ 0x61 ∷ []))) gives [])
    ∷ (shown_read (read_trie (changed P2 6 (1 ∷ []))) gives [])
    -- a child field measured from the leaf before, and from the group's begin
    ∷ (shown_read (read_trie (changed inner_leaf_inner_trie 16 (0x0C ∷ []))) gives [])
    ∷ (shown_read (read_trie (changed inner_leaf_inner_trie 16 (0x10 ∷ []))) gives [])
    -- a score field, and a child field, of more bytes than needed
    ∷ (shown_read (read_trie (trie_of 1 (0x49 ∷ 0x05 ∷ 0x61 ∷ []))) gives listed (entry (text "a") 5 ∷ []))
    ∷ (shown_read (read_trie (trie_of 1 (0x89 ∷ 0x00 ∷ 0x05 ∷ 0x61 ∷ []))) gives [])
    ∷ (shown_read (read_trie (trie_of 2 (0x19 ∷ 0x03 ∷ 0x61 ∷ 0x01 ∷ 0x62 ∷ 0x09 ∷ 0x63 ∷ [])))
    gives listed (entry (text "ab") 0 ∷ entry (text "ac") 0 ∷ []))
    ∷ (shown_read (read_trie (trie_of 2 (0x29 ∷ 0x00 ∷ 0x04 ∷ 0x61 ∷ 0x01 ∷ 0x62 ∷ 0x09 ∷ 0x63 ∷ []))) gives [])
    -- a first sibling with a score field
    ∷ (shown_read (read_trie (trie_of 2 (0x59 ∷ 0x05 ∷ 0x04 ∷ 0x61 ∷ 0x41 ∷ 0x01 ∷ 0x62 ∷ 0x49 ∷ 0x01 ∷ 0x63 ∷ []))) gives
    [])
    -- siblings of equal scores, not by label; with one label; with one first byte; the last without its mark
    ∷ (shown_read (read_trie (trie_of 2 (0x01 ∷ 0x62 ∷ 0x09 ∷ 0x61 ∷ []))) gives [])
    ∷ (shown_read (read_trie (trie_of 2 (0x01 ∷ 0x61 ∷ 0x09 ∷ 0x61 ∷ []))) gives [])
    ∷ (shown_read (read_trie (trie_of 2 (0x02 ∷ 0x61 ∷ 0x62 ∷ 0x0A ∷ 0x61 ∷ 0x63 ∷ []))) gives [])
    ∷ (shown_read (read_trie (trie_of 2 (0x01 ∷ 0x61 ∷ 0x01 ∷ 0x62 ∷ []))) gives [])
    -- a label shorter than the longest; a group of the empty leaf alone
    ∷ (shown_read (read_trie (trie_of 1 (0x19 ∷ 0x03 ∷ 0x61 ∷ 0x09 ∷ 0x62 ∷ []))) gives [])
    ∷ (shown_read (read_trie (trie_of 1 (0x19 ∷ 0x03 ∷ 0x61 ∷ 0x08 ∷ []))) gives [])
    -- an empty name; a byte that is not allowed; 48 bytes and 49
    ∷ (shown_read (read_trie (trie_of 1 (0x08 ∷ []))) gives [])
    ∷ (shown_read (read_trie (trie_of 1 (0x09 ∷ 0x7F ∷ []))) gives [])
    ∷ (shown_read (read_trie (trie_image (entry (replicate 48 0x78) 1 ∷ []))) gives listed (entry (replicate 48 0x78) 1
    ∷ []))
    ∷ (shown_read (read_trie (trie_image (entry (replicate 49 0x78) 1 ∷ []))) gives [])
    -- µ and Ω; a label cut inside µ, then the other half of Ω, no other half, and half a sign as a whole name
    ∷ (shown_read (read_trie (signed_trie ++ spare 1)) gives listed signed)
    ∷ (shown_read (read_trie cut_trie) gives listed (entry cut_name 1 ∷ []))
    ∷ (shown_read (read_trie (changed cut_trie 18 (0xA9 ∷ []))) gives [])
    ∷ (shown_read (read_trie (changed cut_trie 18 (0x41 ∷ []))) gives [])
    ∷ (shown_read (read_trie (trie_of 1 (0x09 ∷ 0xC2 ∷ []))) gives [])
    ∷ (shown_read (read_trie (trie_image (entry full_name 1 ∷ []))) gives listed (entry full_name 1 ∷ []))
    ∷ (shown_read (read_trie (trie_image (entry half_name 1 ∷ []))) gives [])
    ∷ []

abbrev calls : List Row
calls =
    -- writing the trie of a book: into 30 bytes, into the 28 of P4, into 27
    (shown_written (write_trie (P3 ++ spare 3) (spare 30)) gives (0 ∷ 4 ∷ 28 ∷ P4 ++ spare 2))
    ∷ (shown_written (write_trie P3 (spare 28)) gives (0 ∷ 4 ∷ 28 ∷ P4))
    ∷ (shown_written (write_trie P3 (spare 27)) gives (7 ∷ 0 ∷ 0 ∷ spare 27))
    ∷ (shown_written (write_trie P1 (spare 8)) gives (0 ∷ 0 ∷ 7 ∷ P2 ++ spare 1))
    ∷ (shown_written (write_trie signed_book (spare 30)) gives (0 ∷ 4 ∷ 30 ∷ signed_trie))
    ∷ (shown_written (write_trie P1 (spare 6)) gives (7 ∷ 0 ∷ 0 ∷ spare 6))
    -- no book, which comes before 7; an empty buffer
    ∷ (shown_written (write_trie (take 42 P3) (spare 30)) gives (1 ∷ 0 ∷ 0 ∷ spare 30))
    ∷ (shown_written (write_trie P4 []) gives (1 ∷ 0 ∷ 0 ∷ []))
    ∷ (shown_written (write_trie [] (spare 30)) gives (1 ∷ 0 ∷ 0 ∷ spare 30))
    -- an old book, whole, cut off, damaged and of one byte: 10 before 1 and 7
    ∷ (shown_written (write_trie P3old (spare 30)) gives (10 ∷ 0 ∷ 0 ∷ spare 30))
    ∷ (shown_written (write_trie (take 43 P3old) (spare 30)) gives (10 ∷ 0 ∷ 0 ∷ spare 30))
    ∷ (shown_written (write_trie (changed P3 0 (0x21 ∷ [])) []) gives (10 ∷ 0 ∷ 0 ∷ []))
    ∷ (shown_written (write_trie (0x21 ∷ []) (spare 30)) gives (10 ∷ 0 ∷ 0 ∷ spare 30))
    -- completion: "rc" is not lost; a prefix that ends within a label; none; the empty trie with bytes behind it
    ∷ (shown_offered (complete_trie (P4 ++ spare 3) (text "rc") 5 (spare 265))
    gives (0 ∷ 2 ∷ 19 ∷ 0 ∷ answer_entry "rc" 9 ++ answer_entry "rc step" 9 ++ spare 246))
    ∷ (shown_offered (complete_trie P4 (text "rc s") 1 (spare 53))
    gives (0 ∷ 1 ∷ 12 ∷ 0 ∷ answer_entry "rc step" 9 ++ spare 41))
    ∷ (shown_offered (complete_trie P4 [] 1 (spare 54)) gives (0 ∷ 1 ∷ 7 ∷ 0 ∷ answer_entry "rl" 12 ++ spare 47))
    ∷ (shown_offered (complete_trie P4 (text "q") 1 (spare 53)) gives (0 ∷ 0 ∷ 0 ∷ 0 ∷ spare 53))
    ∷ (shown_offered (complete_trie (P2 ++ spare 9) [] 9 (spare 477)) gives (0 ∷ 0 ∷ 0 ∷ 0 ∷ spare 477))
    -- nine of nineteen; under the limit 16 the same
    ∷ (shown_offered (complete_trie (trie_image alternating) [] 9 (spare 477))
    gives (0 ∷ 9 ∷ 54 ∷ 0 ∷ nine_offered ++ spare 423))
    ∷ (shown_offered (complete_trie_within 16 (trie_image alternating) [] 9 (spare 477))
    gives (0 ∷ 9 ∷ 54 ∷ 0 ∷ nine_offered ++ spare 423))
    -- equal scores by the earlier name, although the trie has c in front
    ∷ (shown_offered (complete_trie (trie_image (letters 0x61 (3 ∷ 3 ∷ 4 ∷ 3 ∷ []))) [] 3 (spare 159))
    gives (0 ∷ 3 ∷ 18 ∷ 0 ∷ answer_entry "c" 4 ++ answer_entry "a" 3 ++ answer_entry "b" 3 ++ spare 141))
    -- µ and Ω; a prefix that ends where a label is cut inside µ is not allowed, one that ends behind µ is
    ∷ (shown_offered (complete_trie signed_trie micro 2 (spare 106))
    gives (0 ∷ 2 ∷ 16 ∷ 0 ∷ answer_for µF 9 ++ answer_for µA 4 ++ spare 90))
    ∷ (shown_offered (complete_trie cut_trie (text "abcdef") 1 (spare 53))
    gives (0 ∷ 1 ∷ 13 ∷ 0 ∷ answer_for cut_name 1 ++ spare 40))
    ∷ (shown_offered (complete_trie cut_trie cut_name 1 (spare 53)) gives (0 ∷ 1 ∷ 13 ∷ 0 ∷ answer_for cut_name 1
    ++ spare 40))
    ∷ (shown_offered (complete_trie cut_trie (text "abcdef" ++ (0xC2 ∷ [])) 1 (spare 53)) gives (2 ∷ 0 ∷ 0 ∷ 0 ∷ spare 53))
    ∷ (shown_offered (complete_trie (trie_image (entry full_name 1 ∷ [])) full_name 1 (spare 53))
    gives (0 ∷ 1 ∷ 53 ∷ 0 ∷ answer_for full_name 1))
    ∷ (shown_offered (complete_trie cut_trie half_name 1 (spare 53)) gives (2 ∷ 0 ∷ 0 ∷ 0 ∷ spare 53))
    ∷ (shown_offered (complete_trie cut_trie (text "abcdef" ++ ohm) 1 (spare 53)) gives (0 ∷ 0 ∷ 0 ∷ 0 ∷ spare 53))
    -- 7: one byte short of 53 × k, whatever is offered; 3 before 7; 2 before 3; 1 before all
    ∷ (shown_offered (complete_trie P4 (text "rl") 1 (spare 52)) gives (7 ∷ 0 ∷ 0 ∷ 0 ∷ spare 52))
    ∷ (shown_offered (complete_trie P4 (text "q") 9 (spare 476)) gives (7 ∷ 0 ∷ 0 ∷ 0 ∷ spare 476))
    ∷ (shown_offered (complete_trie P4 [] 0 (spare 4)) gives (3 ∷ 0 ∷ 0 ∷ 0 ∷ spare 4))
    ∷ (shown_offered (complete_trie P4 [] 10 (spare 530)) gives (3 ∷ 0 ∷ 0 ∷ 0 ∷ spare 530))
    ∷ (shown_offered (complete_trie P4 [] 10 []) gives (3 ∷ 0 ∷ 0 ∷ 0 ∷ []))
    ∷ (shown_offered (complete_trie P4 [] 16 (spare 848)) gives (3 ∷ 0 ∷ 0 ∷ 0 ∷ spare 848))
    ∷ (shown_offered (complete_trie_within 16 P4 (text "q") 16 (spare 848)) gives (0 ∷ 0 ∷ 0 ∷ 0 ∷ spare 848))
    ∷ (shown_offered (complete_trie_within 16 P4 [] 17 (spare 901)) gives (3 ∷ 0 ∷ 0 ∷ 0 ∷ spare 901))
    ∷ (shown_offered (complete_trie P4 (text "r\u{7f}") 0 (spare 4)) gives (2 ∷ 0 ∷ 0 ∷ 0 ∷ spare 4))
    ∷ (shown_offered (complete_trie P4 (replicate 49 0x72) 1 (spare 53)) gives (2 ∷ 0 ∷ 0 ∷ 0 ∷ spare 53))
    ∷ (shown_offered (complete_trie (changed P4 6 (5 ∷ [])) (text "r\u{7f}") 0 []) gives (1 ∷ 0 ∷ 0 ∷ 0 ∷ []))
    ∷ (shown_offered (complete_trie P3 (text "r") 1 (spare 53)) gives (1 ∷ 0 ∷ 0 ∷ 0 ∷ spare 53))
    -- a buffer lent as a trie is never an old book
    ∷ (shown_offered (complete_trie P3old (text "r") 1 (spare 53)) gives (1 ∷ 0 ∷ 0 ∷ 0 ∷ spare 53))
    ∷ (shown_offered (complete_trie (0x21 ∷ []) (text "r") 1 (spare 53)) gives (1 ∷ 0 ∷ 0 ∷ 0 ∷ spare 53))
    ∷ []

abbrev table : List Row
table = images ++ readings ++ calls

worked : failing 0 table ≡ []
unfolding be from_be allowed_bytes is_prefix is_name is_score valid completion record_of record_name record_length framed
    count_of read_as scores peak peaks records_at offset offsets image_in entries_in read_in writing writing_image entry_bytes
    entries_bytes header_byte node_bytes other_bytes group_bytes node_of trie_image score_size child_size last_mark label_length
    sibling_of behind_sibling trie_entries read_trie write_trie complete_trie_within
worked = refl
