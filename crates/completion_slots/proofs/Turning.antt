-- One step of a run: the best is taken out, then the machine turns.
use Rattle.std.proofs.Common.{◌<◌, ◌≡◌, List, arith, length}
use lib.ListN.{length-set}
use Rattle.entries.specs.Entries.{Entry}
use Rattle.entries.proofs.Valid.{Valid, valid_of}
use Rattle.completion.specs.declared.Range.{Range}
use Rattle.completion_turn.specs.declared.Progress.{Progress}
use Rattle.completion_turn.specs.Slots.{best_of, without_best}
use Rattle.completion_turn.specs.Turns.{Runnable, Turned, Turning}
use Rattle.completion_turn.proofs.Turning.{GoesOn, goes_turn, taken_inside, turned}

-- p over the slots xs began as s over ws; r is the best of the open ranges, ys the slots that are left
module _ {es : List Entry} {ws xs ys : List Range} {s p : Progress} {r : Range} (start : Runnable es ws s)
    (on : GoesOn es ws s xs p) (turning : 0 < p.turns) (some : 0 < p.filled)
    (took : (r ≡ (best_of xs p.filled).range) × (ys ≡ without_best xs p.filled)) where
  ok : Valid es
  ok = valid_of es start.entries

  pub may_turn : Turning es ys p r
  may_turn =
      let g = on.ready turning in
      let size : length (without_best xs p.filled) ≡ length xs = length-set _ _ _ in
      rw (took.0, took.1)
      (record {
        entries = ok.few;
        inside = taken_inside ok.order g turning some;
        some = turning;
        some_open = some;
        room = λ m. omega (arith, g.room, size);
        count = omega (arith, g.few);
        seen = g.seen;
      })

  pub goes_on : {zs : List Range} {t : Progress} → Turned es ys p r zs t → GoesOn es ws s zs t
  goes_on d = goes_turn on (turned ok.order (on.ready turning) turning some (rw (took.0, took.1) at d))
