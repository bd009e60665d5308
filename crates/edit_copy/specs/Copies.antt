-- The bytes of an edit's result, as copies of the old image's.
use Rattle.std.specs.Prelude.{◌+◌, ◌-◌, ◌<◌, ◌≤◌, min, suc, ℕ, ◌≡◌, false, List, [], ◌++◌, ◌∷◌, leb, drop, get_or}
use Rattle.std.specs.Prelude.{None, Option, Some, length, take}
use Rattle.std.proofs.lemmas.List.Edits.{sets}
use Rattle.octets.specs.Lists.{if◌then◌otherwise◌}
use Rattle.octets.specs.Octets.{be}
use Rattle.entries.specs.Entries.{max_entries, names}
use Rattle.entries.specs.Names.{longest_name}
use Rattle.book.specs.Records.{record_of, records}
use Rattle.book.specs.declared.Layout.{Layout}
use Rattle.book.specs.Book.{in_book_in, records_at}
use Rattle.book_laws.specs.Ahead.{name_before}
use Rattle.book_laws.specs.Check.{score_start}
use Rattle.book_seek.specs.declared.Seek.{Seek}
use Rattle.edit_copy.specs.declared.Behind.{Behind}
use Rattle.edit_copy.specs.declared.Header.{Header}
use Rattle.edit_copy.specs.declared.Plan.{Plan}

-- the bytes from index a to before index b
abbrev pub part : ℕ → ℕ → List ℕ → List ℕ
part a b s = take (b - a) (drop a s)

-- the header, if there is one; and all bytes behind the place, where the old image ends at index `end`
abbrev pub header_bytes : Option Header → List ℕ
header_bytes None = []
header_bytes (Some h) = h.kept ∷ h.own ∷ []

abbrev pub header_of : Behind → List ℕ
header_of b = header_bytes b.header

abbrev pub behind_bytes : List ℕ → ℕ → Behind → List ℕ
behind_bytes book end b = header_of b ++ (part b.from (b.from + b.lent) book ++ part b.rest end book)

-- they are the bytes bs
pub record Bytes (book : List ℕ) (end : ℕ) (bs : List ℕ) (b : Behind) : Type 0 where
  pub within : b.from + b.lent ≤ end
  pub order : b.rest ≤ end
  pub inside : end ≤ length book
  pub bytes : behind_bytes book end b ≡ bs

-- none: no header, and nothing of the old image
abbrev pub nothing : ℕ → Behind
nothing end = record { header = None; from = 0; lent = 0; rest = end }

-- behind a new name: the header of the record there, which has been read, is changed
abbrev pub behind_new : List ℕ → ℕ → ℕ → Seek → Behind
behind_new book end n s =
    let more = s.above - get_or book s.at 0 in
    if leb n s.place
    then nothing end
    otherwise (record {
      header = Some (record { kept = s.above; own = get_or book (s.at + 1) 0 - more });
      from = 0;
      lent = 0;
      rest = s.at + 2 + more;
    })

-- where there is such a record, its header can be read, and the name keeps more bytes now, but not more than it has
pub record NewRoom (book : List ℕ) (n : ℕ) (s : Seek) : Type 0 where
  pub near : s.at ≤ 65536
  pub small : s.place < n → s.above ≤ longest_name
  pub inside : s.place < n → s.at + 2 ≤ length book
  pub order : s.place < n → get_or book s.at 0 ≤ s.above
  pub enough : s.place < n → s.above - get_or book s.at 0 ≤ get_or book (s.at + 1) 0

-- behind the record at index at, which keeps so many bytes and goes on with so many
abbrev pub behind_gone : List ℕ → ℕ → ℕ → ℕ → ℕ → Behind
behind_gone book end at kept own =
    let next = at + 2 + own in
    let old = get_or book next 0 in
    if leb end next
    then nothing end
    otherwise (record {
      header = Some (record { kept = min kept old; own = old - min kept old + get_or book (next + 1) 0 });
      from = at + 2;
      lent = old - min kept old;
      rest = next + 2;
    })

pub record GoneRoom (book : List ℕ) (end at kept own : ℕ) : Type 0 where
  pub near : at ≤ 65536
  pub short : own ≤ longest_name
  pub small : kept ≤ longest_name
  pub inside : at + 2 + own < end → at + 2 + own + 2 ≤ length book
  pub enough :
      at + 2 + own < end
      → get_or book (at + 2 + own) 0 - min kept (get_or book (at + 2 + own) 0) + get_or book (at + 2 + own + 1) 0 ≤
      longest_name

-- how many bytes stand behind the place
abbrev pub behind_size : ℕ → Behind → ℕ
behind_size end b = length (header_of b) + (b.lent + (end - b.rest))

-- the header stored at index at of d; r is where it ends
pub record HeaderPut (d new : List ℕ) (at : ℕ) (b : Behind) (r : ℕ) : Type 0 where
  pub bytes : new ≡ sets d at (header_of b)
  pub end : r ≡ at + length (header_of b)

-- the runs lie in the old image, which is no longer than a book can be, and index at is no further
pub record BehindRoom (at : ℕ) (book : List ℕ) (end : ℕ) (b : Behind) : Type 0 where
  pub near : at ≤ 65536
  pub small : end ≤ 65536
  pub within : b.from + b.lent ≤ end
  pub order : b.rest ≤ end
  pub inside : end ≤ length book

-- the scores of n entries lie in the book, and i is a position of them or the one behind
pub record ScoreRoom (book : List ℕ) (n i : ℕ) : Type 0 where
  pub few : n ≤ max_entries
  pub within : i ≤ n
  pub inside : score_start n ≤ length book

-- the scores of n entries with those from position i to before position `next` given way to the bytes `own`, few
-- enough
abbrev pub scores_spliced : List ℕ → ℕ → ℕ → List ℕ → ℕ → List ℕ
scores_spliced book n i own next =
    part 7 (score_start i) book ++ (own ++ part (score_start next) (score_start n) book)

pub record ScoresRoom (book : List ℕ) (n i : ℕ) (own : List ℕ) (next : ℕ) : Type 0 where
  pub front : ScoreRoom book n i
  pub back : ScoreRoom book n next
  pub few : length own ≤ 4

-- with another one put in at position i, or with the one there left out
abbrev pub scores_with : List ℕ → ℕ → ℕ → ℕ → List ℕ
scores_with book n i score = scores_spliced book n i (be 4 score) i

abbrev pub scores_without : List ℕ → ℕ → ℕ → List ℕ
scores_without book n i = scores_spliced book n i [] (i + 1)

-- the records of names, the first of them behind the name p
abbrev pub after : List ℕ → List (List ℕ) → List ℕ
after p ws = records false 0 p ws

-- a plan for so many entries, where the place and the bytes are no further than a book can reach
abbrev pub plan_of : Layout → ℕ → ℕ → Seek → ℕ → Behind → ℕ → Plan
plan_of l n count s own behind end =
    let start = records_at l count + (s.at - records_at l n) in
    record {
      old = records_at l n;
      new = records_at l count;
      start = start;
      at = start + own;
      behind = behind;
      end = end;
      total = start + own + behind_size end behind;
    }

pub record PlanRoom (l : Layout) (n count : ℕ) (s : Seek) (own : ℕ) (behind : Behind) (end : ℕ) : Type 0 where
  pub few : n ≤ max_entries
  pub count_few : count ≤ max_entries
  pub order : records_at l n ≤ s.at
  pub near : records_at l count + s.at ≤ 65536
  pub short : own ≤ 50
  pub rest : behind.rest ≤ end
  pub lent : behind.lent ≤ end
  pub small : end ≤ 65536

-- the plan p: behind the records in front of the place s come the bytes `own`, then the bytes bs, and the result has
-- count entries
pub record Planned (l : Layout) (book : List ℕ) (n count : ℕ) (s : Seek) (own bs : List ℕ) (p : Plan) : Type 0 where
  pub old : p.old ≡ records_at l n
  pub new : p.new ≡ records_at l count
  pub start : p.start ≡ records_at l count + (s.at - records_at l n)
  pub at : p.at ≡ records_at l count + (s.at - records_at l n) + length own
  pub behind : Bytes book p.end bs p.behind
  pub small : p.end ≤ 65536
  pub total : p.total ≡ records_at l count + (s.at - records_at l n) + length own + length bs

-- the plan of each edit: the new record and those of the names behind it; those of the names behind the one left out
abbrev pub PlannedWith : Layout → List ℕ → ℕ → List ℕ → Seek → Plan → Type 0
PlannedWith l book n w s p =
    let es = in_book_in l book in
    Planned l book n (n + 1) s (record_of false 0 (name_before es s.place) w) (after w (drop s.place (names es))) p

abbrev pub PlannedWithout : Layout → List ℕ → ℕ → Seek → Plan → Type 0
PlannedWithout l book n s p =
    let es = in_book_in l book in
    Planned l book n (n - 1) s [] (after (name_before es s.place) (drop (suc s.place) (names es))) p
