-- What the tables of worked cases share: the entries and images that document 01 shows, bytes to write into, and
-- answers as numbers.
use Rattle.std.specs.Prelude.{◌%◌, ◌*◌, ◌+◌, ◌/◌, suc, ℕ, List, [], ◌++◌, ◌∷◌, map, drop, length, replicate, take}
use Prim.Native.String.{String}
use Rattle.std.proofs.Math.Option.{Option, none, some}
use Rattle.octets.specs.Lists.{concat_map, count_from}
use Rattle.octets.specs.Text.{text}
use Rattle.entries.specs.Entries.{Entry, entry}
use Rattle.entries.specs.Names.{micro, ohm}
use Rattle.answer.specs.Answers.{Answer, FoundCounts, OfferedCounts, Outcome, SpanCounts, WrittenCounts, counts, given}
use Rattle.answer.specs.Answers.{none_offered, none_span, none_written, number, refused}

-- "Shown on the bench": entries E; P1 the empty book, P2 the empty trie, P3 E as book, P4 E as trie. The books are
-- worked
-- again for version 22 (document 02, request f); as printed there, for version 21, they stand in `Old`.
abbrev pub E : List Entry
E = entry (text "ac") 5 ∷ entry (text "rc") 9 ∷ entry (text "rc step") 9 ∷ entry (text "rl") 12 ∷ []

abbrev pub P1 : List ℕ
P1 = 0x22 ∷ 0x00 ∷ 0x00 ∷ 0x00 ∷ 0x07 ∷ 0x00 ∷ 0x00 ∷ []

abbrev pub P2 : List ℕ
P2 = 0x31 ∷ 0x00 ∷ 0x00 ∷ 0x00 ∷ 0x07 ∷ 0x00 ∷ 0x00 ∷ []

abbrev pub P3 : List ℕ
P3 =
    0x22 ∷ 0x00 ∷ 0x00 ∷ 0x00 ∷ 0x2B ∷ 0x00 ∷ 0x04 ∷ 0x00 ∷ 0x00 ∷ 0x00 ∷ 0x05 ∷ 0x00 ∷ 0x00 ∷ 0x00 ∷ 0x09 ∷ 0x00
    ∷ 0x00 ∷ 0x00 ∷ 0x09 ∷ 0x00 ∷ 0x00 ∷ 0x00 ∷ 0x0C ∷ 0x00 ∷ 0x03 ∷ 0x00 ∷ 0x02 ∷ 0x61 ∷ 0x63 ∷ 0x00 ∷ 0x02 ∷ 0x72
    ∷ 0x63 ∷ 0x02 ∷ 0x05 ∷ 0x20 ∷ 0x73 ∷ 0x74 ∷ 0x65 ∷ 0x70 ∷ 0x01 ∷ 0x01 ∷ 0x6C ∷ []

abbrev pub P4 : List ℕ
P4 =
    0x31 ∷ 0x00 ∷ 0x00 ∷ 0x00 ∷ 0x1C ∷ 0x00 ∷ 0x04 ∷ 0x51 ∷ 0x0C ∷ 0x08 ∷ 0x72 ∷ 0x4A ∷ 0x07 ∷ 0x61 ∷ 0x63 ∷ 0x01
    ∷ 0x6C ∷ 0x59 ∷ 0x03 ∷ 0x06 ∷ 0x63 ∷ 0x00 ∷ 0x0D ∷ 0x20 ∷ 0x73 ∷ 0x74 ∷ 0x65 ∷ 0x70 ∷ []

-- Names with µ and Ω (document 02, request c) in their order: 4.7 kΩ, µA, µF, Ω; their book and their trie. In both a
-- sign stands whole behind others, and µ is what µA and µF share.
abbrev pub kΩ : List ℕ
kΩ = text "4.7 k" ++ ohm

abbrev pub µA : List ℕ
µA = micro ++ text "A"

abbrev pub µF : List ℕ
µF = micro ++ text "F"

abbrev pub signed : List Entry
signed = entry kΩ 7 ∷ entry µA 4 ∷ entry µF 9 ∷ entry ohm 2 ∷ []

abbrev pub signed_book : List ℕ
signed_book =
    0x22 ∷ 0x00 ∷ 0x00 ∷ 0x00 ∷ 0x2E ∷ 0x00 ∷ 0x04 ∷ 0x00 ∷ 0x00 ∷ 0x00 ∷ 0x07 ∷ 0x00 ∷ 0x00 ∷ 0x00 ∷ 0x04 ∷ 0x00
    ∷ 0x00 ∷ 0x00 ∷ 0x09 ∷ 0x00 ∷ 0x00 ∷ 0x00 ∷ 0x02 ∷ 0x00 ∷ 0x02 ∷ 0x00 ∷ 0x07 ∷ 0x34 ∷ 0x2E ∷ 0x37 ∷ 0x20 ∷ 0x6B
    ∷ 0xCE ∷ 0xA9 ∷ 0x00 ∷ 0x03 ∷ 0xC2 ∷ 0xB5 ∷ 0x41 ∷ 0x02 ∷ 0x01 ∷ 0x46 ∷ 0x00 ∷ 0x02 ∷ 0xCE ∷ 0xA9 ∷ []

abbrev pub signed_trie : List ℕ
signed_trie =
    0x31 ∷ 0x00 ∷ 0x00 ∷ 0x00 ∷ 0x1E ∷ 0x00 ∷ 0x04 ∷ 0x52 ∷ 0x09 ∷ 0x12 ∷ 0xC2 ∷ 0xB5 ∷ 0x47 ∷ 0x02 ∷ 0x34 ∷ 0x2E
    ∷ 0x37 ∷ 0x20 ∷ 0x6B ∷ 0xCE ∷ 0xA9 ∷ 0x4A ∷ 0x05 ∷ 0xCE ∷ 0xA9 ∷ 0x01 ∷ 0x46 ∷ 0x49 ∷ 0x05 ∷ 0x41 ∷ []

-- The trie of abcdefµ alone: its label is cut to 7 bytes, inside µ, and the group below begins with the other half.
abbrev pub cut_name : List ℕ
cut_name = text "abcdef" ++ micro

abbrev pub cut_trie : List ℕ
cut_trie =
    0x31 ∷ 0x00 ∷ 0x00 ∷ 0x00 ∷ 0x13 ∷ 0x00 ∷ 0x01 ∷ 0x5F ∷ 0x01 ∷ 0x0A ∷ 0x61 ∷ 0x62 ∷ 0x63 ∷ 0x64 ∷ 0x65 ∷ 0x66
    ∷ 0xC2 ∷ 0x09 ∷ 0xB5 ∷ []

-- 46 letters x and Ω, 48 bytes; 47 and half of it, which is no name
abbrev pub full_name : List ℕ
full_name = replicate 46 0x78 ++ ohm

abbrev pub half_name : List ℕ
half_name = replicate 47 0x78 ++ (0xCE ∷ [])

-- n bytes that no call wrote: a destination, or what stands behind an image
abbrev pub spare : ℕ → List ℕ
spare n = replicate n 0xEE

-- the bytes with those from index i on replaced
abbrev pub changed : List ℕ → ℕ → List ℕ → List ℕ
changed bs i new = take i bs ++ (new ++ drop (i + length new) bs)

-- one-letter names from the letter c on, with these scores
abbrev pub letters : ℕ → List ℕ → List Entry
letters c [] = []
letters c (s ∷ ss) = entry (c ∷ []) s ∷ letters (suc c) ss

-- 17 names a to q of score 0: two blocks
abbrev pub seventeen : List Entry
seventeen = letters 0x61 (replicate 17 0)

-- its image: the scores; peaks 0, 16; the records
abbrev pub seventeen_book : List ℕ
seventeen_book =
    (0x22 ∷ 0x00 ∷ 0x00 ∷ 0x00 ∷ 130 ∷ 0x00 ∷ 17 ∷ replicate 68 0x00)
    ++ (0x00 ∷ 0 ∷ 0x00 ∷ 16 ∷ concat_map (λ c. 0 ∷ 1 ∷ c ∷ []) (count_from 0x61 17))

-- 19 names a to s of score 0 and 1 in turn: the best of every range leaves a part left and right of it
abbrev pub alternating : List Entry
alternating = letters 0x61 (concat_map (λ i. 0 ∷ 1 ∷ []) (count_from 0 9) ++ (0 ∷ []))

-- its nine names of score 1, as offered: b, d, f .. r
abbrev pub nine_offered : List ℕ
nine_offered = concat_map (λ i. 1 ∷ (0x62 + 2 * i) ∷ 0x00 ∷ 0x00 ∷ 0x00 ∷ 1 ∷ []) (count_from 0 9)

-- n names of two letters, each of score 0
abbrev pub crowd : ℕ → List Entry
crowd n = map (λ i. entry ((0x30 + i / 64) ∷ (0x30 + i % 64) ∷ []) 0) (count_from 0 n)

-- P9: names 1 to 8, 47 letters x, 48 letters x; P10: without "1"
abbrev pub P9 : List Entry
P9 = letters 0x31 (replicate 8 0) ++ (entry (replicate 47 0x78) 0 ∷ entry (replicate 48 0x78) 0 ∷ [])

abbrev pub P10 : List Entry
P10 = letters 0x32 (replicate 7 0) ++ (entry (replicate 47 0x78) 0 ∷ entry (replicate 48 0x78) 0 ∷ [])

-- an answer entry by hand, for scores below 256: length byte, name, 4-byte score; the name quoted, or as bytes
abbrev pub answer_for : List ℕ → ℕ → List ℕ
answer_for w s = length w ∷ w ++ (0x00 ∷ 0x00 ∷ 0x00 ∷ s ∷ [])

abbrev pub answer_entry : String → ℕ → List ℕ
answer_entry w s = answer_for (text w) s

-- A reading as numbers: nothing where there is none, else 1 and each entry's length, name and score.
abbrev pub listed : List Entry → List ℕ
listed es = 1 ∷ concat_map (λ e. length e.name ∷ e.name ++ (e.score ∷ [])) es

abbrev pub shown_read : Option (List Entry) → List ℕ
shown_read none = []
shown_read (some es) = listed es

-- An outcome as numbers: the refusal or 0, the counts, then the destination.
abbrev pub shown_written : Outcome WrittenCounts → List ℕ
shown_written o =
    number o.answer ∷ (counts none_written o.answer).entries ∷ (counts none_written o.answer).bytes ∷ o.dest

abbrev pub shown_offered : Outcome OfferedCounts → List ℕ
shown_offered o =
    number o.answer
    ∷ (counts none_offered o.answer).offered
    ∷ (counts none_offered o.answer).bytes
    ∷ (counts none_offered o.answer).looks
    ∷ o.dest

-- An answer as numbers: the refusal or 0, then the counts; of an absent name there are none.
abbrev pub shown_found : Answer (Option FoundCounts) → List ℕ
shown_found (refused n) = n ∷ []
shown_found (given none) = 0 ∷ []
shown_found (given (some p)) = 0 ∷ p.position ∷ p.score ∷ []

abbrev pub shown_span : Answer SpanCounts → List ℕ
shown_span a = number a ∷ (counts none_span a).first ∷ (counts none_span a).count ∷ []

abbrev pub shown_length : Answer ℕ → List ℕ
shown_length a = number a ∷ counts 0 a ∷ []
