-- Worked cases of names and prefixes: which texts are allowed. One table, one proposition.
use Rattle.std.specs.Prelude.{ℕ, ◌≡◌, refl, List, [], ◌++◌, ◌∷◌, replicate}
use Rattle.octets.specs.Lists.{if◌then◌otherwise◌}
use Rattle.octets.specs.Table.{Row, ◌gives◌, failing}
use Rattle.octets.specs.Text.{text}
use Rattle.entries.specs.Names.{allowed_bytes, is_name, is_prefix, is_sign, last_sign, micro, ohm}

-- whether a text is a name, and whether it is a prefix
abbrev kinds : List ℕ → List ℕ
kinds w = (if is_name w then 1 otherwise 0) ∷ (if is_prefix w then 1 otherwise 0) ∷ []

abbrev allowed : List ℕ → Row
allowed w = kinds w gives (1 ∷ 1 ∷ [])

abbrev refused : List ℕ → Row
refused w = kinds w gives (0 ∷ 0 ∷ [])

-- so many letters x
abbrev x : ℕ → List ℕ
x n = replicate n 0x78

abbrev plain : List Row
plain =
    -- the empty text is a prefix and no name
    (kinds [] gives (0 ∷ 1 ∷ []))
    -- bytes 20 to 7E; 48 of them, and 49
    ∷ allowed (0x20 ∷ 0x7E ∷ [])
    ∷ refused (0x1F ∷ [])
    ∷ refused (0x7F ∷ [])
    ∷ refused (x 3 ++ (0x7F ∷ []))
    ∷ allowed (x 48)
    ∷ refused (x 49)
    ∷ []

abbrev signs : List Row
signs =
    -- µ and Ω: alone, behind letters, in front of them, one behind the other
    allowed micro
    ∷ allowed ohm
    ∷ allowed (text "10 " ++ micro ++ text "F")
    ∷ allowed (text "4.7 k" ++ ohm)
    ∷ allowed (micro ++ ohm ++ ohm ++ micro)
    -- the limit counts bytes: a sign at the end of 48, 47 bytes and a half, 47 and a sign; a sign in front
    ∷ allowed (x 46 ++ micro)
    ∷ refused (x 47 ++ (0xCE ∷ []))
    ∷ refused (x 47 ++ ohm)
    ∷ allowed (micro ++ x 46)
    ∷ refused (micro ++ x 47)
    -- a lone half: the first, at the end and before a letter; the other, in front, behind a letter, behind a sign
    ∷ refused (0xC2 ∷ [])
    ∷ refused (text "10 " ++ (0xC2 ∷ []))
    ∷ refused (text "4.7 k" ++ (0xCE ∷ []))
    ∷ refused (0xC2 ∷ text "F")
    ∷ refused (0xB5 ∷ [])
    ∷ refused (text "10 " ++ (0xA9 ∷ []))
    ∷ refused (micro ++ (0xB5 ∷ []))
    ∷ refused (0xC2 ∷ micro)
    -- halves of two signs; the halves of one in the wrong order
    ∷ refused (0xC2 ∷ 0xA9 ∷ [])
    ∷ refused (0xCE ∷ 0xB5 ∷ [])
    ∷ refused (0xB5 ∷ 0xC2 ∷ [])
    -- other bytes past 7E, other signs of two bytes
    ∷ refused (0x80 ∷ [])
    ∷ refused (0xFF ∷ [])
    ∷ refused (0xC3 ∷ 0xB5 ∷ [])
    ∷ refused (0xC2 ∷ 0xB0 ∷ [])
    ∷ refused (0xCE ∷ 0xBC ∷ [])
    ∷ []

-- the bytes of the last sign
abbrev lasts : List Row
lasts =
    (last_sign (text "a") ∷ last_sign (text "ab") ∷ [] gives (1 ∷ 1 ∷ []))
    ∷ (last_sign micro ∷ last_sign (text "4.7 k" ++ ohm) ∷ [] gives (2 ∷ 2 ∷ []))
    ∷ (last_sign (micro ++ text "F") ∷ last_sign (micro ++ ohm) ∷ [] gives (1 ∷ 2 ∷ []))
    ∷ []

-- one sign: of no bytes, of one, of two, of three
abbrev single : List ℕ → ℕ
single w = if is_sign w then 1 otherwise 0

abbrev ones : List Row
ones =
    (single [] ∷ [] gives (0 ∷ []))
    ∷ (single (text "a") ∷ single (0x7F ∷ []) ∷ single (0xC2 ∷ []) ∷ [] gives (1 ∷ 0 ∷ 0 ∷ []))
    ∷ (single micro ∷ single ohm ∷ single (text "ab") ∷ single (0xC2 ∷ 0xA9 ∷ []) ∷ [] gives (1 ∷ 1 ∷ 0 ∷ 0 ∷ []))
    ∷ (single (text "abc") ∷ single (micro ++ text "F") ∷ [] gives (0 ∷ 0 ∷ []))
    ∷ []

abbrev table : List Row
table = plain ++ signs ++ lasts ++ ones

worked : failing 0 table ≡ []
unfolding allowed_bytes is_prefix is_name
worked = refl
