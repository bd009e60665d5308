-- `completion_book::write_answer` meets its contract: the entries offered and their bytes.
use mathlib.Core.Path.{◌≡◌, ap}
use lib.ListN.{length}
use borrow.Author.Rules.{rules}
use Rattle.entries.specs.Completion.{max_count}
use Rattle.answer.specs.Answers.{given}
use Rattle.completion_book.proofs.Putting.{offered_counts}
use Rattle.completion_book.proofs.write_answer.Goals as goal

pub returns : goal.returns
returns c =
    let long : length c.args.s.offered ≡ max_count = search rules in
    record {
      answer = ap given (offered_counts c.requires long c.put_offered-bytes.ensures.1 c.args.s.looks);
      left = c.put_offered-bytes.ensures.0;
    }
