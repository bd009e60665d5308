-- Every promise on one page: the three demands and requests a to g, in the order and words of documents 01 and 02. One
-- value proves them all, `promises` in proofs/Promises.antt.
use Rattle.std.specs.Prelude.{◌*◌, ◌+◌, ◌≤◌, ℕ, ◌≡◌, ◌&&◌, ◌||◌, not, true, List, [], ◌∷◌, ltb, length}
use Rattle.std.proofs.Math.Option.{Option, some}
use Rattle.octets.specs.Table.{failing}
use Rattle.entries.specs.Completion.{BestList, TopK, completion, max_count}
use Rattle.entries.specs.Entries.{Entry, at, entry, max_entries, position, valid, with, without}
use Rattle.entries.specs.Names.{InSigns, allowed_bytes, is_prefix, longest_name, micro, ohm}
use Rattle.frame.specs.Frame.{Exact, is_read}
use Rattle.answer.specs.Answers.{◌when◌, entry_bytes, refused}
use Rattle.book.specs.Book.{book_image, image_in, in_book, in_book_in, is_book_in, layout21, layout22, read_book, read_in}
use Rattle.book.specs.Old as old
use Rattle.book.specs.declared.Layout.{Layout}
use Rattle.lookup.specs.Lookups.{HeadPart, check_book, find, head_length, name_at, name_of, prefix_range}
use Rattle.edit.specs.Edits.{empty_book, set_entry, withdraw_entry}
use Rattle.completion.specs.Complete.{complete_book, entry_room}
use Rattle.completion.specs.Layouts.{AlikeIn, CompletesToday}
use Rattle.completion.specs.Machine.{MachineOffers}
use Rattle.trie.specs.Calls.{complete_trie, write_trie}
use Rattle.trie.specs.Reading.{read_trie}
use Rattle.trie.specs.Trie.{trie_image}
use Rattle.sheet.specs.Sheet.{RoundTrips, build_book, in_sheet, list_book, read_sheet, sheet_image}
use Rattle.convert.specs.Convert.{convert_book, read_as_in, written_in}
use Rattle.convert.specs.Moved.{Moves}
use Rattle.page.specs.Page.{page_image, write_page}
use Rattle.page.specs.Shows.{PageShows}
use Rattle.panel.specs.declared.Panel.{Panel}
use Rattle.panel.specs.Panel.{appends, is_held, is_listed, is_typed, key_bytes, press}
use Rattle.panel.specs.Signs.{Appends, ErasesASign}
use Rattle.panel.specs.Highlight.{HoldsItsName, StaysOnItsName}
use Rattle.ledger.specs.Demand.{Demand3All, OffersBest, offers_of}
use Rattle.ledger.specs.Marked.{table}
use Rattle.ledger.specs.Withdrawals.{WithdrawalFits}
use Rattle.script.specs.Run.{run_checks, run_of}
use Rattle.script.specs.Theorem.{RefusedStays, RunLedgers}
use Rattle.program.specs.Theorem.{CutAlike, InParts, InputSays, LinesSay, NeverSeven}
use Rattle.merge.specs.Joined.{merge_books, merged_entries}
use Rattle.merge.specs.Merged.{MergedAll}
use Rattle.promises.specs.Limit.{AsUnderSixteen, MostLooks, SameWithin}
use Rattle.promises.specs.Refusals.{Declines, Offers, Writes, absent, bad_k, bad_name, bad_prefix, full, no_book}
use Rattle.promises.specs.Refusals.{no_books, no_bucket, no_position, no_room, old_book, old_books}

pub record Promises : Type 0 where
  -- DEMAND 1. Any image, text, count, key or buffer gets an answer or a numbered refusal from every public call, which
  -- always ends: that is each call's contract (docs/CONTRACTS.txt), which asks nothing of the arguments and says that
  -- the call answers and leaves what the definition named here says.
  -- A call declines by the causes of 01's table ("When a call declines") and by 10, an old book, which is checked
  -- before 1 (02, request f): the first number in this order that applies is given (`order`), and no other. A refusal
  -- changes no lent byte: what is not lent to be written cannot change, and the lent ranges stay by the contract of
  -- `complete` (`Lent`). Its counts are zero by the contracts of the C names (`WrittenTold` and so on); in Rattle a
  -- refusal has none. The causes of `run` are this project's own (`run_checks`).
  pub emptying : Writes (λ dst. no_room dst (book_image []) ∷ []) empty_book
  pub setting :
      (book w : List ℕ) (s : ℕ)
      → let es = in_book book in
      Writes
      (λ dst. old_book book ∷ no_book book ∷ bad_name w ∷ full w es ∷ no_room dst (book_image (with (entry w s) es)) ∷ [])
      (set_entry book w s)
  pub withdrawing :
      (book w : List ℕ)
      → let es = in_book book in
      Writes
      (λ dst. old_book book ∷ no_book book ∷ bad_name w ∷ absent w es ∷ no_room dst (book_image (without w es)) ∷ [])
      (withdraw_entry book w)
  pub completing :
      (book p : List ℕ) (k ranges : ℕ)
      → Offers
      (λ dst.
      old_book book
      ∷ no_book book
      ∷ bad_prefix p
      ∷ bad_k k
      ∷ 7 when (ltb (length dst) (entry_room * k) || ltb ranges k)
      ∷ [])
      (λ dst. complete_book book p k dst ranges)
  pub writing_trie :
      (book : List ℕ)
      → Writes (λ dst. old_book book ∷ no_book book ∷ no_room dst (trie_image (in_book book)) ∷ []) (write_trie book)
  pub completing_from_trie :
      (trie p : List ℕ) (k : ℕ)
      → Offers
      (λ dst.
      1 when not (is_read (read_trie trie)) ∷ bad_prefix p ∷ bad_k k ∷ 7 when ltb (length dst) (entry_room * k) ∷ [])
      (complete_trie trie p k)
  pub building :
      (sheet : List ℕ)
      → Writes (λ dst. 1 when not (is_read (read_sheet sheet)) ∷ no_room dst (book_image (in_sheet sheet)) ∷ [])
      (build_book sheet)
  pub listing :
      (book : List ℕ)
      → Writes (λ dst. old_book book ∷ no_book book ∷ no_room dst (sheet_image (in_book book)) ∷ []) (list_book book)
  pub checking : (book : List ℕ) → Declines (old_book book ∷ no_book book ∷ []) (check_book book)
  pub finding : (book w : List ℕ) → Declines (old_book book ∷ no_book book ∷ bad_name w ∷ []) (find book w)
  pub entry_at :
      (book : List ℕ) (i : ℕ)
      → let es = in_book book in
      Writes (λ dst. old_book book ∷ no_book book ∷ no_position i es ∷ no_room dst (entry_bytes (at es i)) ∷ [])
      (name_at book i)
  pub entry_of :
      (book w : List ℕ)
      → let es = in_book book in
      Writes
      (λ dst.
      old_book book
      ∷ no_book book
      ∷ bad_name w
      ∷ absent w es
      ∷ no_room dst (entry_bytes (at es (position w es)))
      ∷ [])
      (name_of book w)
  pub prefixes :
      (book p : List ℕ) → Declines (old_book book ∷ no_book book ∷ bad_prefix p ∷ []) (prefix_range book p)
  pub heads :
      (book : List ℕ) (j : ℕ)
      → Declines (old_book book ∷ no_book book ∷ no_bucket j (in_book book) ∷ []) (head_length book j)
  pub keys :
      (book : List ℕ) (p : Panel) (x : ℕ)
      → Declines
      (old_book book
      ∷ no_book book
      ∷ 2 when not (is_typed p && is_held p)
      ∷ 8 when not (is_listed x)
      ∷ 9 when (appends x && ltb longest_name (p.len + length (key_bytes x)))
      ∷ [])
      (press book p x).answer
  pub panel_stays :
      (book : List ℕ) (p : Panel) (x n : ℕ) → (press book p x).answer ≡ refused n → (press book p x).panel ≡ p
  pub running : (script a b out : List ℕ) → Declines (run_checks script a b out) (run_of script a b out).answer
  pub run_stays :
      (script a b out : List ℕ) (n : ℕ) → (run_of script a b out).answer ≡ refused n
      → ((run_of script a b out).first ≡ a) × ((run_of script a b out).second ≡ b) × ((run_of script a b out).out ≡ out)
  -- DEMAND 2. Completions are those of the published top-k problem (source document 001, problem 1.2), ties settled by
  -- rank; the problem so settled has no other answer.
  pub top_k : (es : List Entry) (p : List ℕ) (k : ℕ) → valid es ≡ true → TopK es p k (completion es p k)
  pub no_other :
      (es : List Entry) (p : List ℕ) (k : ℕ) (l : List Entry) → valid es ≡ true → TopK es p k l
      → l ≡ completion es p k
  -- Each is the best list: no other of different entries that the prefix begins, at most k, in falling score order, is
  -- longer or has a higher score at any place.
  pub best_list :
      (es : List Entry) (p : List ℕ) (k : ℕ) → valid es ≡ true → BestList es p k (completion es p k)
  -- The range machine offers it with at most 2 × k − 1 looks, which equal the matches where these are at most k.
  pub machine_offers : (es : List Entry) (p : List ℕ) (k : ℕ) → valid es ≡ true → MachineOffers es p k
  -- Every buffer with the book of es at its front offers it, and so does the trie written from that book,
  pub offers_best : (es : List Entry) (book : List ℕ) → read_book book ≡ some es → OffersBest es book
  -- and every other buffer with that trie at its front.
  pub trie_offers :
      (es : List Entry) (trie p : List ℕ) (k : ℕ) (dst : List ℕ) → read_trie trie ≡ some es → is_prefix p ≡ true
      → 1 ≤ k → k ≤ max_count → entry_room * k ≤ length dst → complete_trie trie p k dst ≡ offers_of es p k 0 dst
  -- Sheets, books and tries are written as 01 and 02 lay them out (P1 to P10 and the line behind them, "Shown on the
  -- bench", the books in version 22),
  pub shown_on_the_bench : failing 0 table ≡ []
  -- and read exactly when so written, whatever stands behind them.
  pub book_read : Exact read_book book_image
  pub trie_read : Exact read_trie trie_image
  pub sheet_read : Exact read_sheet sheet_image
  -- Images have one such reading. So nothing of how the three are defined has to be believed.
  pub one_reading :
      (image : List Entry → List ℕ) (r r' : List ℕ → Option (List Entry)) → Exact r image → Exact r' image
      → (buf : List ℕ) → r buf ≡ r' buf
  -- A book never exceeds 55,559 bytes, in either version.
  pub book_length : (l : Layout) (es : List Entry) → valid es ≡ true → length (image_in l es) ≤ 55559
  -- And a sheet 54,279, which is the room that a list needs.
  pub sheet_length : (es : List Entry) → valid es ≡ true → length (sheet_image es) ≤ 54279
  -- A bucket's head name is empty exactly where the companion call refuses; else that call gives its length.
  pub head_part : (book : List ℕ) (j : ℕ) → HeadPart book j
  -- Sheet → book → sheet and book → sheet → book give the same bytes.
  pub round_trips : RoundTrips
  -- DEMAND 3. For every list of set and withdraw calls, refused ones included, the book holds byte for byte the image
  -- of the ledger's entries, every answer is the ledger's, refusals come exactly where 01's table says, and what the
  -- book and the trie written from it offer is the best list. One theorem about whole histories.
  pub history : Demand3All
  -- So it is of its run in code: a script of calls run on two lent buffers, of which a refused call changes nothing.
  pub run : RunLedgers
  pub refused_stays : RefusedStays
  -- THE PROGRAM prints, for any input, what the ledger says of its lines, and leaves the ledger's book;
  pub input : InputSays
  -- so it does for any list of lines;
  pub lines : LinesSay
  -- its buffers are long enough for every book, so that no line is answered `no 7`;
  pub never_seven : NeverSeven
  -- a line may be cut after 64 bytes, and the input may come in parts, cut anywhere.
  pub cut_alike : CutAlike
  pub in_parts : InParts
  -- REQUEST A. Two books merged into a third buffer: every name of either once, the first book's score where both have
  -- it; completion from the merged book is best among the entries so chosen, as after edits.
  pub merged : MergedAll
  -- More than 1,024 names gives 5, a short destination 7, and 1 covers both inputs; so does 10, before it.
  pub merging :
      (first second : List ℕ)
      → let es = merged_entries first second in
      Writes
      (λ dst.
      old_books first second
      ∷ no_books first second
      ∷ 5 when ltb max_entries (length es)
      ∷ no_room dst (book_image es)
      ∷ [])
      (merge_books first second)
  -- REQUEST B. The panel holds the highlighted name: after every accepted key the held name is that of the highlighted
  -- row, length 0 without rows. A held name of any other kind that is not allowed gives 2 (`keys`, above).
  pub holds_its_name : HoldsItsName
  -- The highlight stays on its name: while the held name is still offered for the text, no edit of the book moves the
  -- highlight off it, and 0D takes it. For every two books, and every panel that a key left on the first.
  pub stays_on_its_name : StaysOnItsName
  -- REQUEST C. Names and prefixes may hold µ and Ω whole: a text is allowed exactly if it is signs one behind the
  -- other, each a byte 20 to 7E, µ or Ω. A lone half, or any other byte past 7E, gives 2, in an image 1, and 48 counts
  -- bytes (`is_name`, `is_prefix`, of which all that stands above speaks: the best list covers such names and prefixes).
  pub whole_signs : (w : List ℕ) → (allowed_bytes w ≡ true → InSigns w) × (InSigns w → allowed_bytes w ≡ true)
  -- Key 80 appends µ and key 81 Ω; with fewer than two bytes left they give 9 (`keys`, above).
  pub appends_micro : Appends 0x80 micro
  pub appends_ohm : Appends 0x81 ohm
  -- Erase removes a whole sign. What stays is allowed, as after every key (`holds_its_name`).
  pub erases_a_sign : ErasesASign
  -- REQUEST D. Nine rows are the most: k from 10 up gives 3, from the book, from the trie and in `top` (`completing`,
  -- `completing_from_trie` and `lines`, above). Looks are at most 17, which a completion of nine reaches.
  pub looks_at_most : MostLooks max_count 17
  -- Users who stay within nine see the same lists: whatever two limits there are, counts within both get the same
  -- answers, bytes and looks, and so with nine and with sixteen, the limit before.
  pub same_within : (limit limit' : ℕ) → SameWithin limit limit'
  pub as_under_sixteen : AsUnderSixteen
  -- REQUEST E. A page is lines of exactly 40 bytes and a line feed: the heading and then the lines of each entry, once
  -- each, in rank; an entry's name columns, joined and cut to the name's length, are its name, and the right-aligned
  -- field of its first line, read as a number, is its score.
  pub page_shows : (es : List Entry) → valid es ≡ true → PageShows es
  -- A short destination gives 7.
  pub paging :
      (book : List ℕ)
      → Writes (λ dst. old_book book ∷ no_book book ∷ no_room dst (page_image (in_book book)) ∷ []) (write_page book)
  -- A page never exceeds 84,009 bytes.
  pub page_length : (es : List Entry) → valid es ≡ true → length (page_image es) ≤ 84009
  -- REQUEST F. Taking a name out must always work: a withdrawal into a buffer no shorter than the old image is never
  -- refused 7, and so no withdrawal of a history is.
  pub withdrawal_fits : WithdrawalFits
  -- Books are of version 22, which drops the buckets: `book_image`, of which all that stands above speaks, the history
  -- too. Only bucket 0 of a book with entries still has a head name; any other gives 6 (`heads`, above).
  -- Turned away: 10, a book whose byte 0 is 21, checked before 1, in every call that is given a book but the converter
  -- (`old_book` and `old_books`, above); the head part is then empty (`head_part`, above).
  -- The marked book cases are worked again for 22 (`shown_on_the_bench`, above); their 21 forms are as 01 prints them.
  pub shown_in_old_books : failing 0 old.table ≡ []
  -- The 21 and 22 images of one set of entries hold just those, whatever stands behind them, with the same completions
  -- and looks by the definitions.
  pub alike :
      (es : List Entry) (rest rest' : List ℕ) → valid es ≡ true → AlikeIn layout21 layout22 es rest rest'
  -- In either version an image is read exactly when it is so written.
  pub read_in_either : (l : Layout) → Exact (read_in l) (image_in l)
  -- The completion so compared is, for 22, the one that the call gives behind 10.
  pub completes_today : CompletesToday
  -- REQUEST G. Moving a bench up, or back: one call writes 21 as 22 and 22 as 21, by byte 0. A round trip has the same
  -- bytes, starting from either; the best list for every prefix is the same before and after, and so are the looks.
  pub moves : Moves
  -- Going back may need more space and then gives 7; an image that is laid out as neither gives 1, and no image 10.
  pub converting :
      (book : List ℕ)
      → Writes
      (λ dst.
      1 when not (is_book_in layout21 book || is_book_in layout22 book)
      ∷ no_room dst (image_in (written_in book) (in_book_in (read_as_in book) book))
      ∷ [])
      (convert_book book)
