-- `labels::run` meets its contract: the book of no entries is the start, the bytes read lead on from it, and the end
-- of the input ends what the ledger says. No loop, so no invariant. Assumes nothing but what reading and writing give.
use mathlib.Core.Path.{sym}
use lib.Seq.{length-take-le}
use native.Mathlib.Omega.{arith}
use Rattle.labels.proofs.Lending.{program_ran}
use Rattle.labels.proofs.run.Goals as goal

pub slice_bounds-print-end-2 : goal.slice_bounds-print-end-2
slice_bounds-print-end-2 c =
    sym
    (length-take-le c.finish-f.result.bytes c.finish-f.new.out
    (omega (arith, c.finish-f.ensures.printed.inside, c.finish-f.auto.out)))

pub returns : goal.returns
returns c =
    program_ran c.args.first.now c.args.second.now c.requires.first_len.0 c.requires.first_len.1 c.args.line.now
    c.empty.ensures.left c.read_all-s.ensures c.finish-f.ensures
