-- `convert_write::image_size` meets its contract: the pass that measures ends where the image does. No loop.
use mathlib.Core.Bool.{false≢true}
use Rattle.convert_write.proofs.image_size.Goals as goal

pub pass-requires : goal.pass-requires
pass-requires c = record { held = c.requires; enough = λ t. absurd (false≢true t) }

pub returns : goal.returns
returns c = c.pass.ensures.end
