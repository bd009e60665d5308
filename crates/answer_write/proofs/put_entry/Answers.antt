-- `answer_write::put_entry` meets its contract: the three stores, one behind the other, are the entry's bytes stored at
-- once.
use mathlib.Core.Path.{◌∙◌, ap}
use Prim.Native.Nat.{◌+◌}
use native.Mathlib.Omega.{arith}
use lib.ListN.{length}
use lib.Seq.{sets}
use Rattle.octets.specs.Octets.{be}
use Rattle.answer_write.proofs.Stores.{entry_stores}
use Rattle.answer_write.proofs.put_entry.Goals as goal

pub returns : goal.returns
returns c =
    let a = c.args in
    let d = c.copy.ensures in (
      c.write_u32.ensures
          ∙ ap (λ l. sets l (a.at + 1 + length a.name.now) (be 4 a.score)) d
          ∙ entry_stores a.dst.now a.name.now a.at a.score,
      omega arith,
    )
