-- Worked cases of the check: images that are accepted, and damaged ones. One table, one proposition.
use Rattle.std.specs.Prelude.{◌+◌, ℕ, ◌≡◌, refl, Bool, false, true, List, [], ◌++◌, ◌∷◌, length, replicate, take}
use Rattle.octets.specs.Octets.{be, from_be, number_at}
use Rattle.octets.specs.Table.{Row, ◌gives◌, failing}
use Rattle.octets.specs.Text.{text}
use Rattle.entries.specs.Entries.{entry}
use Rattle.frame_laws.specs.Test.{frame_is}
use Rattle.frame.specs.Frame.{framed}
use Rattle.book.specs.Shown.{P2, P4, changed, cut_trie, signed_trie, spare}
use Rattle.trie.specs.Reading.{child_size, label_length, last_mark, score_size}
use Rattle.trie.specs.Trie.{group_bytes, header_byte, node_bytes, node_of, other_bytes, trie_image}
use Rattle.trie_check_laws.specs.Walk.{group_end, head_of, stands, trie_body_is, trie_checks, walk_of}

abbrev accepted : List ℕ
accepted = 1 ∷ []

abbrev damaged : List ℕ
damaged = 0 ∷ []

abbrev shown : Bool → List ℕ
shown true = accepted
shown false = damaged

-- version, total length and n, for less than 256 bytes, and what follows
abbrev trie_of : ℕ → List ℕ → List ℕ
trie_of n nodes = 0x31 ∷ 0x00 ∷ 0x00 ∷ 0x00 ∷ (7 + length nodes) ∷ 0x00 ∷ n ∷ nodes

-- the trie of one name of so many letters x
abbrev long_name : ℕ → List ℕ
long_name n = trie_image (entry (replicate n 0x78) 1 ∷ [])

abbrev table : List Row
table =
    (shown (trie_checks P2) gives accepted)
    ∷ (shown (trie_checks P4) gives accepted)
    -- bytes behind the image are not read
    ∷ (shown (trie_checks (P2 ++ spare 9)) gives accepted)
    ∷ (shown (trie_checks (P4 ++ spare 1)) gives accepted)
    -- one name; labels of 7 bytes with a lone node below; siblings inner, leaf, inner
    ∷ (shown (trie_checks (trie_of 1 (0x09 ∷ 0x61 ∷ []))) gives accepted)
    ∷ (shown (trie_checks (trie_of 1 (0x1F ∷ 0x09 ∷ 0x78 ∷ 0x78 ∷ 0x78 ∷ 0x78 ∷ 0x78 ∷ 0x78 ∷ 0x78 ∷ 0x1F ∷ 0x09 ∷ 0x78
    ∷ 0x78 ∷ 0x78 ∷ 0x78 ∷ 0x78 ∷ 0x78 ∷ 0x78 ∷ 0x09 ∷ 0x78 ∷ []))) gives accepted)
    ∷ (shown (trie_checks (trie_of 5 (0x51 ∷ 0x09 ∷ 0x0B ∷ 0x61 ∷ 0x41 ∷ 0x02 ∷ 0x62 ∷ 0x59 ∷ 0x01 ∷ 0x05 ∷ 0x63 ∷ 0x01
    ∷ 0x61 ∷ 0x49 ∷ 0x01 ∷ 0x62 ∷ 0x01 ∷ 0x61 ∷ 0x49 ∷ 0x01 ∷ 0x62 ∷ []))) gives accepted)
    -- fifteen names in four groups; score fields of four bytes
    ∷ (shown (trie_checks (trie_of 15 (0x97 ∷ 0x02 ∷ 0xBC ∷ 0x30 ∷ 0x7A ∷ 0x7A ∷ 0x7A ∷ 0x7A ∷ 0x7A ∷ 0x7A ∷ 0x7A ∷ 0x81
    ∷ 0x01 ∷ 0x43 ∷ 0x2C ∷ 0x41 ∷ 0x07 ∷ 0x2B ∷ 0x41 ∷ 0x07 ∷ 0x2A ∷ 0x41 ∷ 0x07 ∷ 0x29 ∷ 0x41 ∷ 0x07 ∷ 0x28 ∷ 0x41
    ∷ 0x07 ∷ 0x27 ∷ 0x41 ∷ 0x07 ∷ 0x26 ∷ 0x41 ∷ 0x07 ∷ 0x25 ∷ 0x41 ∷ 0x07 ∷ 0x24 ∷ 0x41 ∷ 0x07 ∷ 0x23 ∷ 0x41 ∷ 0x07
    ∷ 0x22 ∷ 0x49 ∷ 0x07 ∷ 0x21 ∷ 0x01 ∷ 0x71 ∷ 0x1B ∷ 0x07 ∷ 0x7A ∷ 0x7A ∷ 0x7A ∷ 0x01 ∷ 0x71 ∷ 0x88 ∷ 0x02 ∷ 0xB8
    ∷ []))) gives accepted)
    ∷ (shown (trie_checks (trie_of 5 (0xD1 ∷ 0x00 ∷ 0x01 ∷ 0x11 ∷ 0x70 ∷ 0x0E ∷ 0x20 ∷ 0xCA ∷ 0x00 ∷ 0x01 ∷ 0x11 ∷ 0x70
    ∷ 0x61 ∷ 0x61 ∷ 0x00 ∷ 0xD3 ∷ 0x00 ∷ 0x01 ∷ 0x10 ∷ 0x70 ∷ 0x10 ∷ 0x7E ∷ 0x20 ∷ 0x20 ∷ 0x8B ∷ 0x01 ∷ 0x00 ∷ 0x20
    ∷ 0x20 ∷ 0x61 ∷ 0x00 ∷ 0x0B ∷ 0x7E ∷ 0x7E ∷ 0x61 ∷ []))) gives accepted)
    ∷ (shown (trie_checks (trie_of 5 (0xD3 ∷ 0xFF ∷ 0xFF ∷ 0xFF ∷ 0xFF ∷ 0x11 ∷ 0x62 ∷ 0x62 ∷ 0x61 ∷ 0xDA ∷ 0xFF ∷ 0xFE
    ∷ 0xEE ∷ 0x8F ∷ 0x12 ∷ 0x61 ∷ 0x61 ∷ 0x00 ∷ 0xD9 ∷ 0x2C ∷ 0x77 ∷ 0xE5 ∷ 0xAF ∷ 0x08 ∷ 0x61 ∷ 0x04 ∷ 0x61 ∷ 0x61
    ∷ 0x61 ∷ 0x62 ∷ 0xC8 ∷ 0xD3 ∷ 0x87 ∷ 0x08 ∷ 0xE0 ∷ 0x00 ∷ 0xCB ∷ 0x00 ∷ 0x01 ∷ 0x10 ∷ 0x70 ∷ 0x61 ∷ 0x62 ∷ 0x62
    ∷ []))) gives accepted)
    -- µ and Ω; a label cut inside µ
    ∷ (shown (trie_checks signed_trie) gives accepted)
    ∷ (shown (trie_checks cut_trie) gives accepted)
    -- another version; the total length; n is not the number of leaves; cut off
    ∷ (shown (trie_checks (changed P4 0 (0x30 ∷ []))) gives damaged)
    ∷ (shown (trie_checks (changed P4 4 (0x1B ∷ []))) gives damaged)
    ∷ (shown (trie_checks (changed P4 4 (0x1D ∷ []) ++ spare 1)) gives damaged)
    ∷ (shown (trie_checks (changed P4 6 (0x03 ∷ []))) gives damaged)
    ∷ (shown (trie_checks (changed P4 6 (0x05 ∷ []))) gives damaged)
    ∷ (shown (trie_checks (changed P4 5 (0x01 ∷ []))) gives damaged)
    ∷ (shown (trie_checks (take 27 P4)) gives damaged)
    ∷ (shown (trie_checks (changed P2 6 (0x01 ∷ []))) gives damaged)
    ∷ (shown (trie_checks (trie_of 0 (0x09 ∷ 0x61 ∷ []))) gives damaged)
    -- a child field measured from the leaf before, and from the group's begin
    ∷ (shown (trie_checks (trie_of 5 (0x51 ∷ 0x09 ∷ 0x0B ∷ 0x61 ∷ 0x41 ∷ 0x02 ∷ 0x62 ∷ 0x59 ∷ 0x01 ∷ 0x0C ∷ 0x63 ∷ 0x01
    ∷ 0x61 ∷ 0x49 ∷ 0x01 ∷ 0x62 ∷ 0x01 ∷ 0x61 ∷ 0x49 ∷ 0x01 ∷ 0x62 ∷ []))) gives damaged)
    ∷ (shown (trie_checks (trie_of 5 (0x51 ∷ 0x09 ∷ 0x0B ∷ 0x61 ∷ 0x41 ∷ 0x02 ∷ 0x62 ∷ 0x59 ∷ 0x01 ∷ 0x10 ∷ 0x63 ∷ 0x01
    ∷ 0x61 ∷ 0x49 ∷ 0x01 ∷ 0x62 ∷ 0x01 ∷ 0x61 ∷ 0x49 ∷ 0x01 ∷ 0x62 ∷ []))) gives damaged)
    -- a gap between groups; a child field of two bytes where one is enough, and a score field
    ∷ (shown (trie_checks (trie_of 2 (0x19 ∷ 0x04 ∷ 0x61 ∷ 0xEE ∷ 0x01 ∷ 0x62 ∷ 0x09 ∷ 0x63 ∷ []))) gives damaged)
    ∷ (shown (trie_checks (trie_of 2 (0x29 ∷ 0x00 ∷ 0x04 ∷ 0x61 ∷ 0x01 ∷ 0x62 ∷ 0x09 ∷ 0x63 ∷ []))) gives damaged)
    ∷ (shown (trie_checks (trie_of 1 (0x89 ∷ 0x00 ∷ 0x05 ∷ 0x61 ∷ []))) gives damaged)
    -- a group of one empty leaf; a label that could be longer; a lone node under a short label at a greater depth
    ∷ (shown (trie_checks (trie_of 1 (0x19 ∷ 0x03 ∷ 0x61 ∷ 0x08 ∷ []))) gives damaged)
    ∷ (shown (trie_checks (trie_of 1 (0x19 ∷ 0x03 ∷ 0x61 ∷ 0x09 ∷ 0x62 ∷ []))) gives damaged)
    ∷ (shown (trie_checks (trie_of 1 (0x1F ∷ 0x09 ∷ 0x78 ∷ 0x78 ∷ 0x78 ∷ 0x78 ∷ 0x78 ∷ 0x78 ∷ 0x78 ∷ 0x19 ∷ 0x03 ∷ 0x61
    ∷ 0x09 ∷ 0x62 ∷ []))) gives damaged)
    -- siblings not by label at equal scores; one first byte twice; rising scores; the last without its mark
    ∷ (shown (trie_checks (trie_of 2 (0x01 ∷ 0x62 ∷ 0x09 ∷ 0x61 ∷ []))) gives damaged)
    ∷ (shown (trie_checks (trie_of 2 (0x01 ∷ 0x61 ∷ 0x09 ∷ 0x61 ∷ []))) gives damaged)
    ∷ (shown (trie_checks (trie_of 2 (0x02 ∷ 0x61 ∷ 0x62 ∷ 0x0A ∷ 0x61 ∷ 0x63 ∷ []))) gives damaged)
    ∷ (shown (trie_checks (trie_of 2 (0x41 ∷ 0x01 ∷ 0x61 ∷ 0x49 ∷ 0x02 ∷ 0x62 ∷ []))) gives damaged)
    ∷ (shown (trie_checks (trie_of 2 (0x01 ∷ 0x61 ∷ 0x01 ∷ 0x62 ∷ []))) gives damaged)
    -- a first sibling with a score field; an empty name; a byte that is not allowed; 49 bytes
    ∷ (shown (trie_checks (trie_of 2 (0x59 ∷ 0x05 ∷ 0x04 ∷ 0x61 ∷ 0x41 ∷ 0x01 ∷ 0x62 ∷ 0x49 ∷ 0x01 ∷ 0x63 ∷ []))) gives
    damaged)
    ∷ (shown (trie_checks (trie_of 1 (0x08 ∷ []))) gives damaged)
    ∷ (shown (trie_checks (trie_of 1 (0x09 ∷ 0x7F ∷ []))) gives damaged)
    ∷ (shown (trie_checks (long_name 49)) gives damaged)
    -- a label cut inside µ, then the other half of Ω, a letter, the empty label; half a sign at the end, in front
    ∷ (shown (trie_checks (changed cut_trie 18 (0xA9 ∷ []))) gives damaged)
    ∷ (shown (trie_checks (changed cut_trie 18 (0x41 ∷ []))) gives damaged)
    ∷ (shown (trie_checks (trie_of 2 (0x1F ∷ 0x09 ∷ text "abcdef" ++ (0xC2 ∷ 0x00 ∷ 0x09 ∷ 0xB5 ∷ [])))) gives damaged)
    ∷ (shown (trie_checks (trie_of 1 (0x0A ∷ 0x61 ∷ 0xC2 ∷ []))) gives damaged)
    ∷ (shown (trie_checks (trie_of 1 (0x0A ∷ 0xB5 ∷ 0x61 ∷ []))) gives damaged)
    ∷ (shown (trie_checks (trie_of 1 (0x0A ∷ 0xC2 ∷ 0xA9 ∷ []))) gives damaged)
    ∷ (shown (trie_checks (long_name 48)) gives accepted)
    ∷ []

worked : failing 0 table ≡ []
unfolding be from_be number_at framed frame_is header_byte node_bytes other_bytes group_bytes node_of trie_image
    score_size child_size last_mark label_length head_of group_end stands walk_of trie_body_is trie_checks
worked = refl
