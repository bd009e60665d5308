-- Every promise kept, each by its law.
use Prim.Native.Nat.{◌*◌}
use mathlib.Core.Path.{refl}
use mathlib.Core.Bool.{◌||◌, not}
use mathlib.Core.List.{List, [], ◌∷◌}
use lib.Dec.{ltb}
use lib.ListN.{length}
use Rattle.octets.proofs.Tests.{or_false}
use Rattle.entries.proofs.BestList.{best_list_lem}
use Rattle.entries.proofs.TopK.{top_k_lem, top_k_only}
use Rattle.entries.proofs.Valid.{valid_of}
use Rattle.entries_laws.proofs.Prefixes.{in_signs, of_signs}
use Rattle.frame.specs.Frame.{entries_of, is_read}
use Rattle.frame.proofs.Frame.{entries-valid, same_reading}
use Rattle.answer.specs.Answers.{◌when◌}
use Rattle.book.specs.Book.{book_image, in_book, is_book, layout21, layout22, read_book}
use Rattle.book.specs.Checks.{is_old}
use Rattle.book.specs.Old as old
use Rattle.book.proofs.Reading.{book_exact, exact_in}
use Rattle.book.proofs.Size.{book_length_lem}
use Rattle.lookup.specs.Lookups.{check_book, find, head_length, name_at, name_of, prefix_range}
use Rattle.lookup.proofs.Lookups.{head_part_lem}
use Rattle.edit.specs.Edits.{empty_book, set_entry, withdraw_entry}
use Rattle.completion.specs.Complete.{complete_from, entry_room}
use Rattle.completion.specs.Machine.{machine}
use Rattle.completion.proofs.Layouts.{alike_in, completes_today_lem}
use Rattle.completion.proofs.Machine.{machine_promise}
use Rattle.trie.specs.Calls.{complete_trie_within, write_trie}
use Rattle.trie.specs.Reading.{read_trie}
use Rattle.trie.specs.Trie.{trie_image}
use Rattle.trie.proofs.Trie.{trie_exact}
use Rattle.sheet.specs.Sheet.{build_book, list_book}
use Rattle.sheet.proofs.Reading.{sheet_exact}
use Rattle.sheet.proofs.RoundTrip.{round_trips_lem}
use Rattle.sheet.proofs.Size.{sheet_length_lem}
use Rattle.convert.specs.Convert.{convert_book}
use Rattle.convert.proofs.Convert.{moves, read_either}
use Rattle.page.specs.Page.{write_page}
use Rattle.page.proofs.Lines.{page_length_lem}
use Rattle.page.proofs.Shows.{page_shows_lem}
use Rattle.panel.specs.Panel.{press}
use Rattle.panel.proofs.Highlight.{appends_sign, erases_a_sign, holds_its_name_lem, stays_on_its_name_lem}
use Rattle.panel.proofs.Refused.{press-refused}
use Rattle.ledger.specs.Marked.{marked}
use Rattle.ledger.proofs.Demand.{demand3, offers_best_lem, trie_completes}
use Rattle.ledger.proofs.Withdrawals.{withdrawal_fits_lem}
use Rattle.script.specs.Run.{run_of}
use Rattle.script.proofs.Theorem.{refused-bench, run_ledgers, run-refused}
use Rattle.program.proofs.Cutting.{cut_alike_lem}
use Rattle.program.proofs.Input.{in_parts_lem, input_says}
use Rattle.program.proofs.Theorem.{lines_say, never_seven_lem}
use Rattle.merge.specs.Joined.{merge_books}
use Rattle.merge.proofs.Merged.{merged}
use Rattle.promises.specs.Promises.{Promises}
use Rattle.promises.specs.Refusals.{no_book, old_book}
use Rattle.promises.proofs.Limit.{as_under_sixteen_lem, most_looks_lem, same_within_lem}
use Rattle.promises.proofs.Writes.{alone, declines, offers, writes, writes_from, writes_from_two}

pub promises : Promises
unfolding empty_book set_entry withdraw_entry complete_from write_trie complete_trie_within build_book list_book check_book
    find name_at name_of prefix_range head_length press merge_books run_of write_page convert_book
promises =
    record {
      emptying = writes _ _ _ (λ dst. refl);
      setting = λ book w s. writes_from book _ _ _ (λ dst. refl);
      withdrawing = λ book w. writes_from book _ _ _ (λ dst. refl);
      completing = λ book p k ranges. rw (alone (is_old book), alone (not (is_book book)))
          (offers (old_book book ∷ no_book book ∷ []) (λ dst. ltb (length dst) (entry_room * k) || ltb ranges k)
          (in_book book) p k
          (machine (in_book book) p k).looks
          (entries-valid read_book book_image book_exact book)
          (λ b. refl)
          (λ dst h. (or_false (ltb (length dst) (entry_room * k)) (ltb ranges k) h).0));
      writing_trie = λ book. writes_from book _ _ _ (λ dst. refl);
      completing_from_trie = λ trie p k.
          offers (1 when not (is_read (read_trie trie)) ∷ []) (λ dst. ltb (length dst) (entry_room * k))
          (entries_of (read_trie trie)) p k 0
          (entries-valid read_trie trie_image trie_exact trie)
          (λ b. refl)
          (λ dst h. h);
      building = λ sheet. writes _ _ _ (λ dst. refl);
      listing = λ book. writes_from book _ _ _ (λ dst. refl);
      checking = λ book. rw (alone (is_old book), alone (not (is_book book))) (declines _ _ refl);
      finding = λ book w. rw (alone (is_old book), alone (not (is_book book))) (declines _ _ refl);
      entry_at = λ book i. writes_from book _ _ _ (λ dst. refl);
      entry_of = λ book w. writes_from book _ _ _ (λ dst. refl);
      prefixes = λ book p. rw (alone (is_old book), alone (not (is_book book))) (declines _ _ refl);
      heads = λ book j. rw (alone (is_old book), alone (not (is_book book))) (declines _ _ refl);
      keys = λ book p x. rw (alone (is_old book), alone (not (is_book book))) (declines _ _ refl);
      panel_stays = press-refused;
      running = λ script a b out. declines _ _ refl;
      run_stays = λ script a b out n h. run-refused script a b out n h;
      top_k = λ es p k ok. top_k_lem es p k (valid_of es ok).order;
      no_other = λ es p k l ok. top_k_only es p k (valid_of es ok).order l;
      best_list = λ es p k ok. best_list_lem es p k (valid_of es ok).order;
      machine_offers = λ es p k ok. machine_promise es p k (valid_of es ok).order;
      offers_best = λ es book r. offers_best_lem es book r (book_exact.sound es book r).0;
      trie_offers = λ es trie p k dst r. trie_completes trie es r p k dst;
      shown_on_the_bench = marked;
      book_read = book_exact;
      trie_read = trie_exact;
      sheet_read = sheet_exact;
      one_reading = same_reading;
      book_length = book_length_lem;
      sheet_length = sheet_length_lem;
      head_part = head_part_lem;
      round_trips = round_trips_lem;
      history = demand3;
      run = run_ledgers;
      refused_stays = refused-bench;
      input = input_says;
      lines = lines_say;
      never_seven = never_seven_lem;
      cut_alike = cut_alike_lem;
      in_parts = in_parts_lem;
      merged = merged;
      merging = λ first second. writes_from_two first second _ _ _ (λ dst. refl);
      holds_its_name = holds_its_name_lem;
      stays_on_its_name = stays_on_its_name_lem;
      whole_signs = λ w. (in_signs w, of_signs w);
      appends_micro = λ book p rows h. appends_sign book p 0x80 rows refl h;
      appends_ohm = λ book p rows h. appends_sign book p 0x81 rows refl h;
      erases_a_sign = erases_a_sign;
      looks_at_most = most_looks_lem;
      same_within = same_within_lem;
      as_under_sixteen = as_under_sixteen_lem;
      page_shows = page_shows_lem;
      paging = λ book. writes_from book _ _ _ (λ dst. refl);
      page_length = page_length_lem;
      withdrawal_fits = withdrawal_fits_lem;
      shown_in_old_books = old.worked;
      alike = alike_in layout21 layout22;
      read_in_either = exact_in;
      completes_today = completes_today_lem;
      moves = moves;
      converting = λ book. rw (← read_either book) (writes _ _ _ (λ dst. refl));
    }
