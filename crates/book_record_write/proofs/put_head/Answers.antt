-- `book_record_write::put_head` meets its contract: the length's store and the copy leave the bytes of a head.
-- No loop, so no invariant.
use mathlib.Core.Path.{◌∙◌}
use lib.ListN.{length-set}
use native.Mathlib.Omega.{arith}
use Rattle.book_record_write.proofs.Writing.{head_stores}
use Rattle.book_record_write.proofs.put_head.Goals as goal

pub shape_of-dst : goal.shape_of-dst
shape_of-dst c = c.copy.auto.dst ∙ simp length-set

pub returns : goal.returns
returns c =
    let a = c.args in
    record {
      bytes = c.copy.ensures
          ∙ head_stores a.dst.now a.name.now a.at;
      end = omega arith;
    }
