use mathlib.Core.Path.{sym}
use borrow.Author.Rules.{rules}
use Rattle.book_laws.proofs.Held.{held_few}
use Rattle.convert_write.proofs.Whole.{going_end, going_ready, going_start, going_turn}
use Rattle.convert_write.proofs.pass.Goals as goal

pub records_at-next-requires : goal.records_at-next-requires
records_at-next-requires c = held_few c.requires.held

pub records_at-at-requires : goal.records_at-at-requires
records_at-at-requires c = held_few c.requires.held

pub loop-i-init : goal.loop-i-init
loop-i-init c =
    going_start c.args.c.to c.requires.held c.requires.enough _ (search rules) c.records_at-next.ensures
    c.records_at-at.ensures

pub slice_bounds-pass_record-end : goal.slice_bounds-pass_record-end
slice_bounds-pass_record-end c = sym c.loop-i.invariant.long

pub pass_record-p-requires : goal.pass_record-p-requires
pass_record-p-requires c = going_ready c.loop-i.invariant c.loop-i-test.true

pub loop-i-preserved : goal.loop-i-preserved
loop-i-preserved c =
    going_turn c.loop-i.invariant c.loop-i-test.true c.pass_record-p.auto.name c.pass_record-p.ensures

pub shape_of-dst : goal.shape_of-dst
shape_of-dst c = c.loop-i.invariant.left.same_length

pub returns : goal.returns
returns c = going_end c.loop-i.invariant c.loop-i-test.false c.requires.enough
