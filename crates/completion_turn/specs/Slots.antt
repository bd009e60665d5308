-- The slots in which open ranges wait: a slice that is lent.
use Rattle.std.specs.Prelude.{◌+◌, ◌-◌, suc, zero, ℕ, Bool, List, eqb, ltb, get_or, set, take}
use Rattle.octets.specs.Lists.{if◌then◌otherwise◌}
use Rattle.completion.specs.declared.Range.{Range}
use Rattle.completion.specs.Machine.{no_range}
use Rattle.completion_turn.specs.declared.BestRange.{BestRange}
use Rattle.completion_turn.specs.declared.Progress.{Progress}

-- the best of the first range is ranked before the best of the second: higher score, at equal scores the earlier
-- position, which has the earlier name; so it is `outranks` of crate entries (law `ahead-is`)
abbrev pub is_ahead : Range → Range → Bool
is_ahead x y = if eqb x.score y.score then ltb x.best y.best otherwise ltb y.score x.score

-- the better of the best so far and the range x in slot i
abbrev pub better_range : BestRange → ℕ → Range → BestRange
better_range b i x = if is_ahead b.range x then b otherwise record { at = i; range = x }

-- the best of b and the k slots from i on
abbrev pub best_from : List Range → ℕ → ℕ → BestRange → BestRange
best_from xs zero i b = b
best_from xs (suc k) i b = best_from xs k (i + 1) (better_range b i (get_or xs i no_range))

-- the best of the first n slots
abbrev pub best_of : List Range → ℕ → BestRange
best_of xs n = best_from xs (n - 1) 1 (record { at = 0; range = get_or xs 0 no_range })

-- the first n slots without their best: the last of them stands in its place
abbrev pub without_best : List Range → ℕ → List Range
without_best xs n = set xs (best_of xs n).at (get_or xs (n - 1) no_range)

-- the ranges that are open
abbrev pub waiting : List Range → Progress → List Range
waiting xs p = take p.filled xs
