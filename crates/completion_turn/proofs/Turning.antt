-- A turn: what is offered, the looks and the open ranges are those of one step of the machine of the definitions.
use Prim.Native.Nat.{◌+◌, ◌-◌, ◌<◌, ◌≤◌, suc, zero, ℕ}
use mathlib.Core.Path.{◌∙◌, ◌≡◌, ap, refl, sym}
use mathlib.Core.Logic.{◌⊎◌, inl, inr}
use mathlib.Core.Bool.{true}
use mathlib.Core.List.{List, [], ◌++◌, ◌∷◌, append_assoc, append-nil}
use lib.ListN.{get_or, length, length-set, set, take}
use lib.Seq.{get_or-take, length-take-le, take-set-lt, take-suc-set, take-take}
use native.Mathlib.Nat.{add-zero}
use native.Mathlib.Omega.{arith}
use Rattle.octets.specs.Lists.{◌∈◌}
use Rattle.octets.proofs.Lists.{append_in, get_in}
use Rattle.entries.specs.Completion.{max_count}
use Rattle.entries.specs.Entries.{Entry, best, rising}
use Rattle.completion.specs.declared.Range.{Range}
use Rattle.completion.specs.Machine.{bests, best_open, no_range, offering, others, parts, run}
use Rattle.completion.proofs.Machine.{others_in}
use Rattle.completion_turn.specs.declared.BestRange.{BestRange}
use Rattle.completion_turn.specs.declared.Progress.{Progress}
use Rattle.completion_turn.specs.Slots.{best_of, waiting, without_best}
use Rattle.completion_turn.specs.Turns.{Going, Ran, RangeInside, Ready, Turned, kth, last_of, next, next_of, so_far}
use Rattle.completion_turn.proofs.Ranges.{parts_few, parts-inside}
use Rattle.completion_turn.proofs.Slots.{BestSlot, best_of_lem}

-- the machine of the definitions, one step
pub run_none : (k : ℕ) (es : List Entry) → run k es [] ≡ record { offered = []; looks = 0 }
run_none zero es = refl
run_none (suc k) es = refl

run-one : (es : List Entry) (rs : List Range) → 0 < length rs
    → run 1 es rs ≡ record { offered = (best_open es rs).best ∷ []; looks = 0 }
run-one es [] h = absurd (omega arith)
run-one es (r ∷ rs) h = refl

run_more :
    (k : ℕ) (es : List Entry) (rs : List Range) → 0 < length rs
    → run (suc (suc k)) es rs
    ≡ offering (best_open es rs).best (length (parts es (best_open es rs)))
    (run (suc k) es (others (best (bests es rs)) rs
    ++ parts es (best_open es rs)))
run_more k es [] h = absurd (omega arith)
run_more k es (r ∷ rs) h = refl

-- s with the slots ys goes on as p with the slots xs would
pub record GoesOn (es : List Entry) (xs : List Range) (p : Progress) (ys : List Range) (s : Progress) : Type 0 where
  pub ready : Ready es ys s
  pub size : length ys ≡ length xs
  pub offered : so_far s ++ (run s.turns es (waiting ys s)).offered ≡ so_far p
      ++ (run p.turns es (waiting xs p)).offered
  pub looks : s.looks + (run s.turns es (waiting ys s)).looks ≡ p.looks + (run p.turns es (waiting xs p)).looks
  pub few : p.count ≤ max_count → s.count ≤ max_count
  pub places : length s.offered ≡ length p.offered
  pub first : s.first ≡ p.first
  pub from : s.from ≡ p.from

module _ {es : List Entry} (ri : rising es ≡ true) {xs : List Range} {p : Progress} (g : Going es xs p)
    (turning : 0 < p.turns) (some : 0 < p.filled) where
  abbrev n : ℕ
  n = p.filled

  abbrev rs : List Range
  rs = waiting xs p

  abbrev b : BestRange
  b = best_of xs n

  abbrev left : List Range
  left = without_best xs n

  length_left : length left ≡ length xs
  length_left = length-set xs b.at (get_or xs (n - 1) no_range)

  fits : n ≤ length xs
  fits = omega (arith, g.room)

  length_rs : length rs ≡ n
  length_rs = length-take-le n xs fits

  some_rs : 0 < length rs
  some_rs = omega (arith, length_rs)

  slot : BestSlot es xs n b
  slot = best_of_lem ri n some fits g.inside

  -- the range taken is the one that the machine chooses
  taken : b.range ≡ best_open es rs
  taken = slot.range ∙ sym (get_or-take n xs b.at no_range slot.low) ∙ ap (λ i. get_or rs i no_range) slot.at

  pub taken_inside : RangeInside es b.range
  taken_inside = rw (slot.range ∙ sym (get_or-take n xs b.at no_range slot.low))
      (g.inside (get_or rs b.at no_range) (get_in no_range rs b.at (omega (arith, slot.low, length_rs))))

  -- the slots that stay are the other open ranges
  stay : take (n - 1) left ≡ others (best (bests es rs)) rs
  unfolding others
  stay =
      let l = get_or xs (n - 1) no_range in
      let a : get_or rs (n - 1) no_range ≡ l = get_or-take n xs (n - 1) no_range (omega arith) in
      let c : set rs b.at l ≡ take n left = sym (take-set-lt n xs b.at l slot.low) in
      rw (length_rs, a, ← slot.at, c) (sym (take-take (n - 1) n left (omega arith)))

  other_inside : (r : Range) → r ∈ others (best (bests es rs)) rs → RangeInside es r
  other_inside r h = g.inside r (others_in (best (bests es rs)) rs r some_rs h)

  -- what is offered, with the range's best behind it
  more : take (p.count + 1) (set p.offered p.count b.range.best) ≡ so_far p ++ ((best_open es rs).best ∷ [])
  more =
      let z : p.count + 1 ≡ suc p.count = omega arith in
      rw (z, take-suc-set p.offered p.count b.range.best (omega (arith, g.few, g.places)), taken)

  places : length (set p.offered p.count b.range.best) ≡ length p.offered
  places = length-set p.offered p.count b.range.best

  turn_last : p.turns ≡ 1 → GoesOn es xs p left (last_of p b.range)
  turn_last t =
      let o = run-one es rs some_rs in
      record {
        ready = λ h. record {
          room = omega (arith, g.room, length_left);
          few = omega (arith, g.few);
          places = places ∙ g.places;
          seen = omega (arith, g.seen);
          inside = λ r m. other_inside r (rw stay at m);
        };
        size = length_left;
        offered = rw (t, o, more) (append-nil (so_far p ++ ((best_open es rs).best ∷ [])));
        looks = rw (t, o) refl;
        few = λ h. omega (arith, g.few);
        places = places;
        first = refl;
        from = refl;
      }

  -- the machine that goes on
  abbrev s : Progress
  s = next_of p b.range (length (parts es b.range))

  module _ (many : 1 < p.turns) (ys : List Range) (size : length ys ≡ length left)
      (put : take s.filled ys ≡ take (n - 1) left ++ parts es b.range) where
    -- the ranges that are open then
    opened : take s.filled ys ≡ others (best (bests es rs)) rs ++ parts es (best_open es rs)
    opened = put ∙ rw (stay, taken)

    step : run p.turns es rs ≡ offering (best_open es rs).best (length (parts es (best_open es rs)))
        (run s.turns es (take s.filled ys))
    step =
        let k : p.turns ≡ suc (suc (p.turns - 2)) = omega arith in
        let m : p.turns - 1 ≡ suc (p.turns - 2) = omega arith in
        let l = others (best (bests es rs)) rs ++ parts es (best_open es rs) in
        ap (λ t. run t es rs) k ∙ run_more (p.turns - 2) es rs some_rs
        ∙ ap (offering (best_open es rs).best (length (parts es (best_open es rs))))
        (sym (ap (run (p.turns - 1) es) opened ∙ ap (λ t. run t es l) m))

    open_then : (r : Range) → r ∈ waiting ys s → RangeInside es r
    open_then r m = go (append_in r (others (best (bests es rs)) rs) (parts es (best_open es rs)) (rw opened at m))
      where
        go : (r ∈ others (best (bests es rs)) rs) ⊎ (r ∈ parts es (best_open es rs)) → RangeInside es r
        go (inl h) = other_inside r h
        go (inr h) = parts-inside es (best_open es rs) (rw taken at taken_inside) r h

    turn_next : GoesOn es xs p ys s
    unfolding offering
    turn_next =
        let few = parts_few es b.range in
        record {
          ready = λ h. record {
            room = omega (arith, g.room, length_left);
            few = omega (arith, g.few);
            places = places ∙ g.places;
            seen = omega (arith, g.seen);
            inside = open_then;
          };
          size = size ∙ length_left;
          offered = rw (more, step) (append_assoc (so_far p) ((best_open es rs).best
              ∷ []) (run s.turns es (waiting ys s)).offered);
          looks = rw step (omega (arith, ap (λ r. length (parts es r)) taken));
          few = λ h. omega (arith, g.few);
          places = places;
          first = refl;
          from = refl;
        }

  pub turns_less : {ys : List Range} {s : Progress} → Turned es left p b.range ys s → s.turns < p.turns
  turns_less (kth t e f) = rw e (omega arith)
  turns_less (next many e size put) = rw e (omega arith)

  pub turned : {ys : List Range} {s : Progress} → Turned es left p b.range ys s → GoesOn es xs p ys s
  turned (kth t e f) = rw (e, f) (turn_last t)
  turned (next many e size put) = rw e (turn_next many _ size (rw e at put))

-- a run: nothing yet, a turn more, the end
pub goes_start : {es : List Entry} {xs : List Range} {p : Progress} → Ready es xs p → GoesOn es xs p xs p
goes_start g = record {
  ready = g;
  size = refl;
  offered = refl;
  looks = refl;
  few = λ h. h;
  places = refl;
  first = refl;
  from = refl;
}

pub goes_turn :
    {es : List Entry} {xs ys zs : List Range} {p s t : Progress} → GoesOn es xs p ys s → GoesOn es ys s zs t
    → GoesOn es xs p zs t
goes_turn a b =
    record {
      ready = b.ready;
      size = b.size ∙ a.size;
      offered = b.offered ∙ a.offered;
      looks = b.looks ∙ a.looks;
      few = λ h. b.few (a.few h);
      places = b.places ∙ a.places;
      first = b.first ∙ a.first;
      from = b.from ∙ a.from;
    }

-- none may be offered any more, or no range is open
pub goes_end :
    {es : List Entry} {xs ys : List Range} {p s : Progress} → GoesOn es xs p ys s → (s.turns ≡ 0) ⊎ (s.filled ≡ 0)
    → Ran es xs p s
goes_end {es} {xs} {ys} {p} {s} a t =
    let r : run s.turns es (waiting ys s) ≡ record { offered = []; looks = 0 } = idle t in
    record {
      offered = sym (append-nil (so_far s)) ∙ ap (λ m. so_far s ++ m.offered) (sym r) ∙ a.offered;
      looks = sym (add-zero s.looks) ∙ ap (λ m. s.looks + m.looks) (sym r) ∙ a.looks;
      few = a.few;
      places = a.places;
      first = a.first;
      from = a.from;
    }
  where
    idle : (s.turns ≡ 0) ⊎ (s.filled ≡ 0) → run s.turns es (waiting ys s) ≡ record { offered = []; looks = 0 }
    idle (inl e) = rw e
    idle (inr e) = rw e (run_none s.turns es)
