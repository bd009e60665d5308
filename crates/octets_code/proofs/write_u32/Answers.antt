-- `octets_code::write_u32` meets its contract: the library's bytes are `be 4 v`, and `copy` stores them. No loop.
use Rattle.std.proofs.Common.{◌∙◌, ap}
use Rattle.std.proofs.lemmas.List.Edits.{sets}
use Rattle.octets_code.proofs.Methods.{to_be_four}
use Rattle.octets_code.proofs.write_u32.Goals as goal

pub returns : goal.returns
returns c =
    c.copy.ensures ∙ ap (sets c.args.dst.now c.args.at) (c.to_be_bytes.ensures ∙ to_be_four c.args.v)
