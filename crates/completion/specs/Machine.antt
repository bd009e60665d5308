-- The machine on which looks are counted (document 01, "Completion").
use Rattle.std.specs.Prelude.{◌*◌, ◌+◌, ◌-◌, ◌≤◌, suc, zero, ℕ, ◌≡◌, List, [], ◌++◌, ◌∷◌, map, ltb, drop, get_or, length, set, take}
use Rattle.octets.specs.Lists.{if◌then◌otherwise◌}
use Rattle.entries.specs.Completion.{completion, matches, range_start}
use Rattle.entries.specs.Entries.{Entry, at, best}
use Rattle.completion.specs.declared.Range.{Range}

-- the positions from i to before j, if there are any, as an open range: one look each
unfoldable pub open_range : List Entry → ℕ → ℕ → List Range
open_range es i j =
    let b = i + best (take (j - i) (drop i es)) in
    if ltb i j then (record { first = i; best = b; score = (at es b).score; last = j - 1 } ∷ []) otherwise []

-- which of the open ranges has the best-ranked position, and that range
abbrev pub bests : List Entry → List Range → List Entry
bests es rs = map (λ r. at es r.best) rs

abbrev pub no_range : Range
no_range = record { first = 0; best = 0; score = 0; last = 0 }

abbrev pub best_open : List Entry → List Range → Range
best_open es rs = get_or rs (best (bests es rs)) no_range

-- the open ranges without the one at index i: the last comes into its place, as their order is of no account
unfoldable pub others : ℕ → List Range → List Range
others i rs = take (length rs - 1) (set rs i (get_or rs (length rs - 1) no_range))

-- the non-empty parts of a range left and right of its best
unfoldable pub parts : List Entry → Range → List Range
parts es r = open_range es r.first r.best ++ open_range es (suc r.best) (suc r.last)

-- the positions offered, in order, and the looks
pub record Machine : Type 0 where
  pub offered : List ℕ
  pub looks : ℕ

unfoldable pub offering : ℕ → ℕ → Machine → Machine
offering i n m = record { offered = i ∷ m.offered; looks = n + m.looks }

-- Offer the best-ranked position of all open ranges. Unless it was the last of the k, its range is replaced by its
-- parts, one look each. Stop when k are offered or no range is open.
abbrev pub run : ℕ → List Entry → List Range → Machine
run zero es rs = record { offered = []; looks = 0 }
run (suc k) es [] = record { offered = []; looks = 0 }
run (suc zero) es (r ∷ rs) = record { offered = (best_open es (r ∷ rs)).best ∷ []; looks = 0 }
run (suc (suc k)) es (r ∷ rs) =
    offering (best_open es (r ∷ rs)).best (length (parts es (best_open es (r ∷ rs))))
    (run (suc k) es (others (best (bests es (r ∷ rs))) (r ∷ rs) ++ parts es (best_open es (r ∷ rs))))

-- The matching positions, if there are any, are the first open range: one look.
unfoldable pub machine : List Entry → List ℕ → ℕ → Machine
machine es p k =
    let rs = open_range es (range_start p es) (range_start p es + length (matches p es)) in
    let m = run k es rs in
    record { offered = m.offered; looks = length rs + m.looks }

-- the most looks for k
abbrev pub most_looks : ℕ → ℕ
most_looks k = 2 * k - 1

-- What the machine promises of entries in name order.
pub record MachineOffers (es : List Entry) (p : List ℕ) (k : ℕ) : Type 0 where
  -- it offers the completion
  pub completes : map (at es) (machine es p k).offered ≡ completion es p k
  -- looks are at most 2 × k − 1
  pub at_most : 1 ≤ k → (machine es p k).looks ≤ most_looks k
  -- and equal the matches where these are at most k
  pub exactly : length (matches p es) ≤ k → (machine es p k).looks ≡ length (matches p es)
