-- `program_run::feed` meets its contract: the part of the line is kept, and a line feed has the line carried out.
-- No loop, so no invariant.
use mathlib.Core.Path.{refl, sym}
use lib.ListN.{length-take, take}
use lib.Seq.{length-take-le}
use native.Mathlib.Omega.{arith}
use Rattle.script.specs.Run.{bench}
use Rattle.program_run.proofs.Feeding.{feed_begun, feed_line, part_within}
use Rattle.program_run.proofs.feed.Goals as goal

pub slice_bounds-keep-end : goal.slice_bounds-keep-end
slice_bounds-keep-end c =
    sym (length-take-le c.line_length-end.result c.args.input.now
    (part_within c.args.input.now c.line_length-end.ensures))

pub returns-then-input-end : goal.returns-then-input-end
returns-then-input-end c =
    feed_begun c.args.input.now c.line_length-end.ensures (take c.args.kept c.args.line.now)
    (bench c.args.first.now c.args.second.now c.args.turned)
    (omega (arith, length-take c.args.kept c.args.line.now, c.requires.few)) c.if-input-end.true c.keep-n.ensures.few
    c.keep-n.ensures.bytes refl

pub slice_bounds-step-end-2 : goal.slice_bounds-step-end-2
slice_bounds-step-end-2 c =
    sym (length-take-le c.keep-n.result c.keep-n.new.line
    (omega (arith, c.keep-n.ensures.few, c.keep-n.auto.line, c.requires.long)))

pub returns : goal.returns
returns c =
    feed_line c.args.input.now c.line_length-end.ensures (take c.args.kept c.args.line.now)
    (bench c.args.first.now c.args.second.now c.args.turned)
    (omega (arith, length-take c.args.kept c.args.line.now, c.requires.few)) c.if-input-end.false c.keep-n.result
    c.keep-n.ensures.bytes c.step-s.ensures
