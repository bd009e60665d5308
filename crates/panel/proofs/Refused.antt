-- A refused key leaves the whole panel as it was.
use Prim.Native.Nat.{ℕ}
use mathlib.Core.Path.{◌≡◌}
use mathlib.Core.List.{List}
use Rattle.answer.specs.Answers.{refused}
use Rattle.panel.specs.declared.Panel.{Panel}
use Rattle.panel.specs.Panel.{press}

pub press-refused : (book : List ℕ) (p : Panel) (key n : ℕ) → (press book p key).answer ≡ refused n
    → (press book p key).panel ≡ p
unfolding press
press-refused book p key n h = rw h
