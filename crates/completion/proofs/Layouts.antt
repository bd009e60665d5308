-- The images of one set of entries in two layouts hold just these, and offer the same.
use Rattle.octets.proofs.Tests.{by_test}
use Rattle.answer.specs.Answers.{writing}
use Rattle.book.specs.Book.{image_in, is_book, read_in}
use Rattle.book.proofs.Reading.{exact_in}
use Rattle.frame.proofs.Frame.{read_of}
use Rattle.completion.specs.Complete.{complete_from}
use Rattle.completion.specs.Layouts.{AlikeInAll, CompletesToday}

pub alike_in : AlikeInAll
alike_in l m es rest rest' v =
    let one = read_of (read_in l) (image_in l) (exact_in l) es rest v in
    let other = read_of (read_in m) (image_in m) (exact_in m) es rest' v in
    record { held_by_one = one; held_by_other = other; same_offers = λ p k dst ranges. rw (one, other) }

pub completes_today_lem : CompletesToday
unfolding complete_from writing
completes_today_lem book p k dst ranges o = by_test (is_book book) (λ t. rw (o, t)) (λ t. rw (o, t))
