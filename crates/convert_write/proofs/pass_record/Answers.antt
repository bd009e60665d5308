-- `convert_write::pass_record` meets its contract: copied or written anew. No loop.
use mathlib.Core.Path.{◌∙◌, sym}
use Rattle.convert_write.proofs.Passing.{same-heads}
use Rattle.convert_write.proofs.pass_record.Goals as goal

pub pass_copy-requires : goal.pass_copy-requires
pass_copy-requires c = (
  c.requires,
  same-heads c.args.src.layout.heads c.args.to.slot.layout.heads c.args.to.slot.index
      (sym c.headed_alike.ensures ∙ c.if-headed_alike.true),
)

pub returns-then-headed_alike : goal.returns-then-headed_alike
returns-then-headed_alike c = c.pass_copy.ensures

pub pass_anew-requires : goal.pass_anew-requires
pass_anew-requires c = c.requires

pub returns : goal.returns
returns c = c.pass_anew.ensures
