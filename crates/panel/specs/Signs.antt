-- What is promised of keys and signs (document 02, request c).
use Rattle.std.specs.Prelude.{◌<◌, ℕ, ◌≡◌, true, List, ◌++◌, length}
use Rattle.entries.specs.Names.{is_sign}
use Rattle.answer.specs.Answers.{given}
use Rattle.panel.specs.declared.Panel.{Panel}
use Rattle.panel.specs.Panel.{press, typed_in}

-- a key appends a sign: wherever it is accepted, that stands behind the text typed before
abbrev pub Appends : ℕ → List ℕ → Type 0
Appends key sign =
    (book : List ℕ) (p : Panel) (rows : ℕ) → (press book p key).answer ≡ given rows
    → typed_in (press book p key).panel ≡ typed_in p ++ sign

-- erase removes a whole sign: what an accepted 08 takes from the end of a text that is not empty is one
abbrev pub ErasesASign : Type 0
ErasesASign =
    (book : List ℕ) (p : Panel) (rows : ℕ) → (press book p 0x08).answer ≡ given rows → 0 < length (typed_in p)
    → (s : List ℕ) × (is_sign s ≡ true) × (typed_in (press book p 0x08).panel ++ s ≡ typed_in p)
