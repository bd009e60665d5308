-- An answer of the converter, in layouts that are known.
use Prim.Native.Nat.{ℕ}
use mathlib.Core.Path.{◌≡◌}
use mathlib.Core.List.{List}
use Rattle.answer.specs.Reports.{Answered}
use Rattle.answer.specs.declared.Refusal.{Refusal}
use Rattle.answer.specs.declared.Size.{Size}
use Rattle.std.specs.Prelude.{Result}
use Rattle.book.specs.declared.Layout.{Layout}
use Rattle.convert.specs.Convert.{convert_in}

pub in_layouts :
    {l l' m m' : Layout} (book dst : List ℕ) {left : List ℕ} {r : Result Size Refusal} → l ≡ l' → m ≡ m'
    → Answered (convert_in l m book dst) r left → Answered (convert_in l' m' book dst) r left
in_layouts book dst e f a = rw (e, f) at a
