-- Worked cases of the panel's keys: one table, one proposition.
use Rattle.std.specs.Prelude.{◌-◌, ℕ, ◌≡◌, refl, List, [], ◌++◌, ◌∷◌, length, replicate, take}
use Rattle.octets.specs.Octets.{be, from_be}
use Rattle.octets.specs.Table.{Row, ◌gives◌, failing}
use Rattle.octets.specs.Text.{text}
use Rattle.entries.specs.Completion.{completion}
use Rattle.entries.specs.Entries.{entry, valid, with, without}
use Rattle.entries.specs.Names.{allowed_bytes, is_name, is_prefix, is_score, micro, ohm}
use Rattle.book.specs.Records.{record_length, record_name, record_of}
use Rattle.book.specs.Book.{book_image, entries_in, image_in, offset, offsets, peak, peaks, read_in, records_at}
use Rattle.book.specs.Book.{scores}
use Rattle.frame.specs.Frame.{count_of, framed, read_as}
use Rattle.book.specs.Old.{P3old}
use Rattle.book.specs.Shown.{E, P1, P3, changed, kΩ, letters, shown_length, spare}
use Rattle.panel.specs.declared.Panel.{Panel}
use Rattle.panel.specs.Panel.{acts, lowered, on_held, panel_of, press}

-- a panel before a key: the typed text, the highlighted row and the held name; bytes behind both and rows that are not
-- read
abbrev holding : List ℕ → ℕ → List ℕ → Panel
holding w row h =
    record {
      text = w ++ spare (48 - length w);
      len = length w;
      highlight = row;
      rows = 99;
      held = h ++ spare (48 - length h);
      held_len = length h;
    }

abbrev before : List ℕ → ℕ → Panel
before w row = holding w row []

-- a panel of 48 bytes of text and of name that says that they are so long
abbrev saying : ℕ → ℕ → Panel
saying n m =
    record {
      text = replicate 48 0x78;
      len = n;
      highlight = 1;
      rows = 99;
      held = replicate 48 0x78;
      held_len = m;
    }

-- one of the two lengths is over 48
abbrev too_long : ℕ → Panel
too_long n = saying n 1

abbrev holds_too_long : ℕ → Panel
holds_too_long m = saying 1 m

-- A key as numbers: the refusal or 0, the rows reported, then the panel.
abbrev shown_panel : Panel → List ℕ
shown_panel p = (p.len ∷ p.highlight ∷ p.rows ∷ p.text) ++ (p.held_len ∷ p.held)

abbrev key : List ℕ → Panel → ℕ → List ℕ
key book p c = shown_length (press book p c).answer ++ shown_panel (press book p c).panel

-- an accepted key leaves this text, row, rows and held name, zeros behind the text and the name, and reports the rows;
-- a refused one leaves the panel
abbrev zeros : List ℕ → List ℕ
zeros w = replicate (48 - length w) 0

abbrev leaves : List ℕ → ℕ → ℕ → List ℕ → List ℕ
leaves w row rows h = (0 ∷ rows ∷ length w ∷ row ∷ rows ∷ w ++ zeros w) ++ (length h ∷ h ++ zeros h)

abbrev refuses : ℕ → Panel → List ℕ
refuses n p = n ∷ 0 ∷ shown_panel p

-- seven names a to g of score 0, of which five are offered
abbrev seven : List ℕ
seven = book_image (letters 0x61 (replicate 7 0))

-- E offers rl, rc, rc step for "r", and ac behind them for the empty text
abbrev moving : List Row
moving =
    -- 00 only recounts; a highlight past the last row is lowered to it, to 0 without rows
    (key (P3 ++ spare 3) (before (text "r") 1) 0x00 gives leaves (text "r") 1 3 (text "rc"))
    ∷ (key P3 (before (text "r") 2) 0x00 gives leaves (text "r") 2 3 (text "rc step"))
    ∷ (key P3 (before (text "r") 3) 0x00 gives leaves (text "r") 2 3 (text "rc step"))
    ∷ (key P3 (before (text "r") 4294967296) 0x00 gives leaves (text "r") 2 3 (text "rc step"))
    ∷ (key P3 (before (text "q") 3) 0x00 gives leaves (text "q") 0 0 [])
    ∷ (key P1 (before [] 3) 0x00 gives leaves [] 0 0 [])
    -- up: from row 1, from row 0, from a row past the last
    ∷ (key P3 (before (text "r") 1) 0x01 gives leaves (text "r") 0 3 (text "rl"))
    ∷ (key P3 (before (text "r") 0) 0x01 gives leaves (text "r") 0 3 (text "rl"))
    ∷ (key P3 (before (text "r") 7) 0x01 gives leaves (text "r") 1 3 (text "rc"))
    -- down: from row 1, from the last row, from a row past it, without rows
    ∷ (key P3 (before (text "r") 1) 0x02 gives leaves (text "r") 2 3 (text "rc step"))
    ∷ (key P3 (before (text "r") 2) 0x02 gives leaves (text "r") 2 3 (text "rc step"))
    ∷ (key P3 (before (text "r") 7) 0x02 gives leaves (text "r") 2 3 (text "rc step"))
    ∷ (key P3 (before (text "q") 0) 0x02 gives leaves (text "q") 0 0 [])
    -- five rows at most
    ∷ (key seven (before [] 6) 0x00 gives leaves [] 4 5 (text "e"))
    ∷ (key seven (before [] 4) 0x02 gives leaves [] 4 5 (text "e"))
    ∷ []

abbrev typing_keys : List Row
typing_keys =
    -- append: the highlight is 0 again
    (key P3 (before (text "r") 2) 0x63 gives leaves (text "rc") 0 2 (text "rc"))
    ∷ (key P3 (before (text "rc") 1) 0x20 gives leaves (text "rc ") 0 1 (text "rc step"))
    ∷ (key P3 (before (text "r") 1) 0x7E gives leaves (text "r~") 0 0 [])
    ∷ (key P3 (before [] 9) 0x61 gives leaves (text "a") 0 1 (text "ac"))
    -- append at 47 bytes; erase and recount at 48
    ∷ (key P3 (before (replicate 47 0x78) 0) 0x78 gives leaves (replicate 48 0x78) 0 0 [])
    ∷ (key P3 (before (replicate 48 0x78) 0) 0x08 gives leaves (replicate 47 0x78) 0 0 [])
    ∷ (key P3 (before (replicate 48 0x78) 0) 0x00 gives leaves (replicate 48 0x78) 0 0 [])
    -- erase; on empty text the highlight stays, or is lowered
    ∷ (key P3 (before (text "rc") 1) 0x08 gives leaves (text "r") 0 3 (text "rl"))
    ∷ (key P3 (before (text "r") 2) 0x08 gives leaves [] 0 4 (text "rl"))
    ∷ (key P3 (before [] 2) 0x08 gives leaves [] 2 4 (text "rc step"))
    ∷ (key P3 (before [] 7) 0x08 gives leaves [] 3 4 (text "ac"))
    -- take the highlighted name; past the last row the last; no change without rows
    ∷ (key P3 (before (text "r") 1) 0x0D gives leaves (text "rc") 0 2 (text "rc"))
    ∷ (key P3 (before [] 3) 0x0D gives leaves (text "ac") 0 1 (text "ac"))
    ∷ (key P3 (before (text "r") 7) 0x0D gives leaves (text "rc step") 0 1 (text "rc step"))
    ∷ (key seven (before [] 6) 0x0D gives leaves (text "e") 0 1 (text "e"))
    ∷ (key P3 (before (text "q") 7) 0x0D gives leaves (text "q") 0 0 [])
    ∷ []

-- E after an edit: ra added, of the highest score
abbrev added : List ℕ
added = book_image (with (entry (text "ra") 20) E)

-- rl withdrawn
abbrev withdrawn : List ℕ
withdrawn = book_image (without (text "rl") E)

-- rc withdrawn
abbrev gone : List ℕ
gone = book_image (without (text "rc") E)

-- rc given the lowest score
abbrev rescored : List ℕ
rescored = book_image (with (entry (text "rc") 1) E)

-- a book of one name of 48 bytes
abbrev longest : List ℕ
longest = book_image (entry (replicate 48 0x78) 7 ∷ [])

abbrev holding_keys : List Row
holding_keys =
    -- the held name wins over the row number
    (key P3 (holding (text "r") 0 (text "rc step")) 0x00 gives leaves (text "r") 2 3 (text "rc step"))
    ∷ (key P3 (holding (text "r") 9 (text "rl")) 0x00 gives leaves (text "r") 0 3 (text "rl"))
    -- the book was edited while rc was highlighted on row 1: recounted, up, down, taken
    ∷ (key added (holding (text "r") 1 (text "rc")) 0x00 gives leaves (text "r") 2 4 (text "rc"))
    ∷ (key added (holding (text "r") 1 (text "rc")) 0x01 gives leaves (text "r") 1 4 (text "rl"))
    ∷ (key added (holding (text "r") 1 (text "rc")) 0x02 gives leaves (text "r") 3 4 (text "rc step"))
    ∷ (key added (holding (text "r") 1 (text "rc")) 0x0D gives leaves (text "rc") 0 2 (text "rc"))
    ∷ (key withdrawn (holding (text "r") 1 (text "rc")) 0x00 gives leaves (text "r") 0 2 (text "rc"))
    ∷ (key rescored (holding (text "r") 1 (text "rc")) 0x00 gives leaves (text "r") 2 3 (text "rc"))
    -- no longer offered: withdrawn, sixth of seven, not begun by the text; the row number is lowered
    ∷ (key gone (holding (text "r") 1 (text "rc")) 0x00 gives leaves (text "r") 1 2 (text "rc step"))
    ∷ (key gone (holding (text "r") 2 (text "rc")) 0x0D gives leaves (text "rc step") 0 1 (text "rc step"))
    ∷ (key seven (holding [] 2 (text "f")) 0x00 gives leaves [] 2 5 (text "c"))
    ∷ (key seven (holding [] 9 (text "f")) 0x00 gives leaves [] 4 5 (text "e"))
    ∷ (key P3 (holding (text "r") 2 (text "ac")) 0x00 gives leaves (text "r") 2 3 (text "rc step"))
    ∷ (key P3 (holding (text "r") 1 (text "r")) 0x00 gives leaves (text "r") 1 3 (text "rc"))
    -- append and erase: the name on the first row is held
    ∷ (key P3 (holding (text "r") 2 (text "rc step")) 0x63 gives leaves (text "rc") 0 2 (text "rc"))
    ∷ (key P3 (holding (text "r") 2 (text "rc step")) 0x08 gives leaves [] 0 4 (text "rl"))
    -- keys that do nothing themselves: 08 on empty text, 0D without rows
    ∷ (key P3 (holding [] 0 (text "ac")) 0x08 gives leaves [] 3 4 (text "ac"))
    ∷ (key P3 (holding (text "q") 3 (text "rc")) 0x0D gives leaves (text "q") 0 0 [])
    -- a name of 48 bytes, and one of 48 allowed bytes that no book has
    ∷ (key longest (holding [] 1 (replicate 48 0x78)) 0x00 gives leaves [] 0 1 (replicate 48 0x78))
    ∷ (key P3 (holding [] 1 (replicate 48 0x7E)) 0x00 gives leaves [] 1 4 (text "rc"))
    ∷ []

abbrev refusing : List Row
refusing =
    -- 9: append at 48 bytes
    (key P3 (before (replicate 48 0x78) 7) 0x78 gives refuses 9 (before (replicate 48 0x78) 7))
    -- 8: keys that are not listed, at 48 bytes too
    ∷ (key P3 (before (text "r") 7) 0x7F gives refuses 8 (before (text "r") 7))
    ∷ (key P3 (before (text "r") 7) 0x03 gives refuses 8 (before (text "r") 7))
    ∷ (key P3 (before (text "r") 7) 0x1F gives refuses 8 (before (text "r") 7))
    ∷ (key P3 (before (text "r") 7) 0xFF gives refuses 8 (before (text "r") 7))
    ∷ (key P3 (before (replicate 48 0x78) 7) 0x7F gives refuses 8 (before (replicate 48 0x78) 7))
    -- 2: a length over 48, or a byte within it that is not allowed; before 8
    ∷ (key P3 (too_long 49) 0x00 gives refuses 2 (too_long 49))
    ∷ (key P3 (too_long 49) 0x78 gives refuses 2 (too_long 49))
    ∷ (key P3 (too_long 4294967296) 0x7F gives refuses 2 (too_long 4294967296))
    ∷ (key P3 (before (text "r\u{7f}") 1) 0x00 gives refuses 2 (before (text "r\u{7f}") 1))
    ∷ (key P3 (before (text "\u{1f}r") 1) 0x03 gives refuses 2 (before (text "\u{1f}r") 1))
    -- 2: a held name longer than 48 bytes, or with a byte that is not allowed; before 8 and 9
    ∷ (key P3 (holds_too_long 49) 0x00 gives refuses 2 (holds_too_long 49))
    ∷ (key P3 (holds_too_long 4294967296) 0x7F gives refuses 2 (holds_too_long 4294967296))
    ∷ (key P3 (holding (text "r") 1 (text "rc\u{7f}")) 0x63 gives refuses 2 (holding (text "r") 1 (text "rc\u{7f}")))
    ∷ (key P3 (holding (text "r") 1 (text "\u{1f}")) 0x7F gives refuses 2 (holding (text "r") 1 (text "\u{1f}")))
    ∷ (key P3 (holding (replicate 48 0x78) 1 (0x00 ∷ [])) 0x78 gives refuses 2
    (holding (replicate 48 0x78) 1 (0x00 ∷ [])))
    -- 1: no book, before 2, 8 and 9: cut off, a wrong peak, an empty buffer
    ∷ (key (take 42 P3) (before (text "r") 1) 0x00 gives refuses 1 (before (text "r") 1))
    ∷ (key (changed P3 24 (1 ∷ [])) (too_long 49) 0x7F gives refuses 1 (too_long 49))
    ∷ (key (take 42 P3) (holds_too_long 49) 0x00 gives refuses 1 (holds_too_long 49))
    ∷ (key [] (before (replicate 48 0x78) 7) 0x78 gives refuses 1 (before (replicate 48 0x78) 7))
    -- 10: an old book, before all: whole, with a wrong peak, cut off, its byte 0 alone
    ∷ (key P3old (before (text "r") 1) 0x00 gives refuses 10 (before (text "r") 1))
    ∷ (key (changed P3old 26 (1 ∷ [])) (too_long 49) 0x7F gives refuses 10 (too_long 49))
    ∷ (key (take 43 P3old) (holds_too_long 49) 0x00 gives refuses 10 (holds_too_long 49))
    ∷ (key (0x21 ∷ []) (before (text "r") 7) 0x7F gives refuses 10 (before (text "r") 7))
    ∷ (key (0x21 ∷ []) (before (replicate 48 0x78) 7) 0x78 gives refuses 10 (before (replicate 48 0x78) 7))
    ∷ []

-- texts with µ and Ω, in UTF-8 (document 02, request c)
abbrev tenµF : List ℕ
tenµF = text "10 " ++ micro ++ text "F"

abbrev tenµH : List ℕ
tenµH = text "10 " ++ micro ++ text "H"

-- so many letters x
abbrev x : ℕ → List ℕ
x n = replicate n 0x78

-- a book that offers 10 µH, 4.7 kΩ, 10 µF for the empty text
abbrev signs : List ℕ
signs = book_image (entry tenµF 5 ∷ entry tenµH 9 ∷ entry kΩ 7 ∷ [])

abbrev sign_keys : List Row
sign_keys =
    -- 80 appends µ, 81 Ω: to the empty text, behind letters, behind a sign
    (key signs (before [] 2) 0x80 gives leaves micro 0 0 [])
    ∷ (key signs (before [] 2) 0x81 gives leaves ohm 0 0 [])
    ∷ (key signs (before (text "10 ") 1) 0x80 gives leaves (text "10 " ++ micro) 0 2 tenµH)
    ∷ (key signs (before (text "4.7 k") 0) 0x81 gives leaves kΩ 0 1 kΩ)
    ∷ (key signs (before micro 0) 0x81 gives leaves (micro ++ ohm) 0 0 [])
    -- with two bytes left; a letter with one
    ∷ (key P3 (before (x 46) 0) 0x80 gives leaves (x 46 ++ micro) 0 0 [])
    ∷ (key P3 (before (x 46) 0) 0x81 gives leaves (x 46 ++ ohm) 0 0 [])
    ∷ (key P3 (before (x 45 ++ micro) 0) 0x78 gives leaves (x 45 ++ micro ++ x 1) 0 0 [])
    -- erase a whole sign: alone, behind letters, at 48 bytes, behind a sign
    ∷ (key signs (before micro 1) 0x08 gives leaves [] 0 3 tenµH)
    ∷ (key signs (before kΩ 0) 0x08 gives leaves (text "4.7 k") 0 1 kΩ)
    ∷ (key P3 (before (x 46 ++ micro) 0) 0x08 gives leaves (x 46) 0 0 [])
    ∷ (key P3 (before (x 46 ++ ohm) 0) 0x08 gives leaves (x 46) 0 0 [])
    ∷ (key signs (before (micro ++ ohm) 0) 0x08 gives leaves micro 0 0 [])
    -- erase a letter behind a sign
    ∷ (key signs (before tenµF 0) 0x08 gives leaves (text "10 " ++ micro) 0 2 tenµH)
    -- take a name with a sign
    ∷ (key signs (before (text "10 ") 1) 0x0D gives leaves tenµF 0 1 tenµF)
    ∷ (key signs (before [] 1) 0x0D gives leaves kΩ 0 1 kΩ)
    -- the held name has a sign; one of 48 bytes that ends in a sign, which no book has
    ∷ (key signs (holding (text "10 ") 0 tenµF) 0x00 gives leaves (text "10 ") 1 2 tenµF)
    ∷ (key signs (holding (text "10 " ++ micro) 0 tenµF) 0x01 gives leaves (text "10 " ++ micro) 0 2 tenµH)
    ∷ (key signs (holding [] 0 kΩ) 0x02 gives leaves [] 2 3 tenµF)
    ∷ (key P3 (holding [] 1 (x 46 ++ ohm)) 0x00 gives leaves [] 1 4 (text "rc"))
    ∷ []

-- a refused key leaves this panel
abbrev refused_for : ℕ → ℕ → Panel → Row
refused_for n c p = key signs p c gives refuses n p

abbrev refusing_signs : List Row
refusing_signs =
    -- 9: µ or Ω with one byte left and with none, a letter behind a sign with none
    refused_for 9 0x80 (before (x 47) 7)
    ∷ refused_for 9 0x81 (before (x 47) 7)
    ∷ refused_for 9 0x80 (before (x 48) 7)
    ∷ refused_for 9 0x81 (before (x 48) 7)
    ∷ refused_for 9 0x80 (before (x 45 ++ ohm) 7)
    ∷ refused_for 9 0x78 (before (x 46 ++ micro) 7)
    -- 8: keys beside 80 and 81, and the bytes of the signs, which are no keys; at 48 bytes too
    ∷ refused_for 8 0x7F (before micro 7)
    ∷ refused_for 8 0x82 (before micro 7)
    ∷ refused_for 8 0xC2 (before [] 7)
    ∷ refused_for 8 0xB5 (before [] 7)
    ∷ refused_for 8 0xCE (before [] 7)
    ∷ refused_for 8 0xA9 (before [] 7)
    ∷ refused_for 8 0x82 (before (x 48) 7)
    -- 2: a text that ends in half a sign, a lone half, halves of two signs, any other byte past 7E; before 8 and 9
    ∷ refused_for 2 0x00 (before (text "10 " ++ (0xC2 ∷ [])) 1)
    ∷ refused_for 2 0x08 (before (text "4.7 k" ++ (0xCE ∷ [])) 1)
    ∷ refused_for 2 0x00 (before (0xB5 ∷ []) 1)
    ∷ refused_for 2 0x00 (before (0xC2 ∷ 0xA9 ∷ []) 1)
    ∷ refused_for 2 0x00 (before (0xCE ∷ 0xB5 ∷ []) 1)
    ∷ refused_for 2 0x82 (before (micro ++ (0x80 ∷ [])) 1)
    ∷ refused_for 2 0x80 (before (x 47 ++ (0xC2 ∷ [])) 1)
    -- 2: a held name that ends in half a sign, a lone half
    ∷ refused_for 2 0x00 (holding (text "10 ") 1 (text "10 " ++ (0xC2 ∷ [])))
    ∷ refused_for 2 0x00 (holding [] 1 (0xA9 ∷ []))
    ∷ refused_for 2 0x81 (holding (x 48) 1 (x 47 ++ (0xCE ∷ [])))
    ∷ []

abbrev table : List Row
table = moving ++ typing_keys ++ holding_keys ++ refusing ++ sign_keys ++ refusing_signs

worked : failing 0 table ≡ []
unfolding be from_be allowed_bytes is_prefix is_name is_score valid completion record_of record_name record_length framed
    count_of read_as scores peak peaks records_at offset offsets image_in entries_in read_in lowered on_held acts panel_of
    press
worked = refl
