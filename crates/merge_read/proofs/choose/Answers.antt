-- `merge_read::choose` meets its contract: the name is copied to the front, and the score is read.
-- No loop.
use native.Mathlib.Omega.{arith}
use Rattle.book_write.proofs.Calls.{name_copied}
use Rattle.merge_read.proofs.choose.Goals as goal

pub score-requires : goal.score-requires
score-requires c = omega (arith, c.requires.0 c.if-due.true)

pub returns-then-due : goal.returns-then-due
returns-then-due c =
    let y = c.if-due.true in
    record {
      word = rw y (name_copied c.args.name.now c.args.a.now c.requires.2 c.copy.ensures);
      long = rw y;
      score = rw y c.score.ensures;
    }

pub score-requires-2 : goal.score-requires-2
score-requires-2 c = omega (arith, c.requires.1 c.if-due.false)

pub returns : goal.returns
returns c =
    let y = c.if-due.false in
    record {
      word = rw y (name_copied c.args.name.now c.args.b.now c.requires.3 c.copy-2.ensures);
      long = rw y;
      score = rw y c.score-2.ensures;
    }
