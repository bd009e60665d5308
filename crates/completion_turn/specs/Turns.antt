-- The machine between two turns, what a turn gives, and what a whole run does.
use Rattle.std.specs.Prelude.{◌*◌, ◌+◌, ◌-◌, ◌<◌, ◌≤◌, ℕ, ◌≡◌, true, List, ◌++◌, length, set, take}
use Rattle.octets.specs.Lists.{◌∈◌}
use Rattle.entries.specs.Completion.{max_count}
use Rattle.entries.specs.Entries.{Entry, at, max_entries, valid}
use Rattle.completion.specs.declared.Range.{Range}
use Rattle.completion.specs.Machine.{open_range, parts, run}
use Rattle.completion_turn.specs.declared.Progress.{Progress}
use Rattle.completion_turn.specs.Slots.{waiting}

-- a range of positions of es, with its best among them and that one's score
pub record RangeInside (es : List Entry) (r : Range) : Type 0 where
  pub low : r.first ≤ r.best
  pub high : r.best ≤ r.last
  pub within : r.last < length es
  pub scored : r.score ≡ (at es r.best).score

-- the positions from i to before j, if there are any, put as an open range behind the first m of the slots xs: the
-- slots are then ys, the first k of them filled
pub record Put (es : List Entry) (i j : ℕ) (xs : List Range) (m : ℕ) (ys : List Range) (k : ℕ) : Type 0 where
  pub opened : take k ys ≡ take m xs ++ open_range es i j
  pub filled : k ≡ m + length (open_range es i j)
  pub size : length ys ≡ length xs

-- the positions offered so far
abbrev pub so_far : Progress → List ℕ
so_far p = take p.count p.offered

-- the k-th is offered: nothing replaces its range
abbrev pub last_of : Progress → Range → Progress
last_of p r =
    record {
      turns = p.turns - 1;
      filled = p.filled - 1;
      offered = set p.offered p.count r.best;
      count = p.count + 1;
      looks = p.looks;
      first = p.first;
      from = p.from;
    }

-- another is offered: its parts, of which there are n, are put behind the open ranges that are left, one look each
abbrev pub next_of : Progress → Range → ℕ → Progress
next_of p r n =
    record {
      turns = p.turns - 1;
      filled = p.filled - 1 + n;
      offered = set p.offered p.count r.best;
      count = p.count + 1;
      looks = p.looks + n;
      first = p.first;
      from = p.from;
    }

-- s is p after the turn that took r out of the slots, which were then xs and are ys
pub data Turned (es : List Entry) (xs : List Range) (p : Progress) (r : Range) (ys : List Range) (s : Progress) :
    Type 0 where
  kth : p.turns ≡ 1 → s ≡ last_of p r → ys ≡ xs → Turned es xs p r ys s
  next :
      1 < p.turns → s ≡ next_of p r (length (parts es r)) → length ys ≡ length xs
      → take s.filled ys ≡ take (p.filled - 1) xs ++ parts es r → Turned es xs p r ys s

-- a machine that may turn over the slots xs
pub record Going (es : List Entry) (xs : List Range) (p : Progress) : Type 0 where
  pub room : p.filled + p.turns ≤ length xs + 1
  pub few : p.count + p.turns ≤ max_count
  pub places : length p.offered ≡ max_count
  pub seen : p.looks ≤ 2 * p.count + 1
  pub inside : (r : Range) → r ∈ waiting xs p → RangeInside es r

-- one that may, or is done
abbrev pub Ready : List Entry → List Range → Progress → Type 0
Ready es xs p = 0 < p.turns → Going es xs p

-- what a turn asks: no more entries than a book may have; r was taken out of the open ranges; and unless it is the last
-- to be offered, a slot for each of its parts
pub record Turning (es : List Entry) (xs : List Range) (p : Progress) (r : Range) : Type 0 where
  pub entries : length es ≤ max_entries
  pub inside : RangeInside es r
  pub some : 0 < p.turns
  pub some_open : 0 < p.filled
  pub room : 1 < p.turns → p.filled < length xs
  pub count : p.count < max_count
  pub seen : p.looks ≤ 2 * p.count + 1

-- what a run asks: entries such as a book may have, and a machine that is done or may turn over the slots xs
pub record Runnable (es : List Entry) (xs : List Range) (p : Progress) : Type 0 where
  pub entries : valid es ≡ true
  pub ready : Ready es xs p

-- s is p once it has run: what is offered and the looks are those of the machine of the definitions
pub record Ran (es : List Entry) (xs : List Range) (p s : Progress) : Type 0 where
  pub offered : so_far s ≡ so_far p ++ (run p.turns es (waiting xs p)).offered
  pub looks : s.looks ≡ p.looks + (run p.turns es (waiting xs p)).looks
  pub few : p.count ≤ max_count → s.count ≤ max_count
  pub places : length s.offered ≡ length p.offered
  pub first : s.first ≡ p.first
  pub from : s.from ≡ p.from
