-- The parts of a record: how many bytes it keeps of the name before, where its own bytes start, and how many they are.
-- They are found by tests of the record's own bytes; only a head's name is compared as a whole with the name before.
use Rattle.std.specs.Prelude.{◌+◌, ◌-◌, ℕ, ◌≡◌, Bool, ◌&&◌, false, not, true, List, None, Option, Some, ⊤, leb, ltb}
use Rattle.std.specs.Prelude.{drop, get_or, length, take}
use Rattle.octets.specs.Lists.{if◌then◌otherwise◌}
use Rattle.octets.specs.Octets.{below, common}
use Rattle.entries.specs.Names.{is_name, is_prefix, longest_name}
use Rattle.entries_laws.specs.Signs.{is_tail}
use Rattle.book.specs.Records.{head_at}
use Rattle.book_laws.specs.Cursor.{Step, cursor_of, record_is}
use Rattle.book_laws.specs.declared.Parts.{Parts}

-- these parts where the test holds
abbrev pub own_if : Bool → ℕ → ℕ → ℕ → Option Parts
own_if true kept start n = Some (record { kept = kept; start = start; own = n })
own_if false kept start n = None

-- the parts of the record at the front of s, at position i behind the name prev
unfoldable pub record_part : Bool → ℕ → List ℕ → List ℕ → Option Parts
record_part heads i prev s =
    if head_at heads i
    then own_if (record_is heads i prev s) 0 1 (get_or s 0 0)
    otherwise own_if (record_is heads i prev s) (get_or s 0 0) 2 (get_or s 1 0)

-- The tests, in the code's order. A head: the length byte, that many bytes, a name, above the one before.
unfoldable pub head_test : List ℕ → List ℕ → Bool
head_test prev s =
    let w = take (get_or s 0 0) (drop 1 s) in
    leb 1 (length s) && (leb (get_or s 0 0) (length s - 1) && (is_name w && below prev w))

-- a name that keeps the first k bytes of prev and goes on with b shares no more with prev, and is above it; the kept
-- bytes do not end inside a pair
unfoldable pub goes_above : List ℕ → ℕ → ℕ → Bool
goes_above prev k b = if leb (length prev) k then true otherwise (ltb (get_or prev k 0) b && not (is_tail (get_or prev k 0)))

-- another record: the two bytes, a common byte within the name before, a rest, that many bytes, not too many in all,
-- the rest's allowed, and the first of them above the byte that the name before has in its place
unfoldable pub tail_test : List ℕ → List ℕ → Bool
tail_test prev s =
    let k = get_or s 0 0 in
    let n = get_or s 1 0 in
    let rest = take n (drop 2 s) in
    leb 2 (length s)
    && (leb k (length prev)
    && (leb 1 n
    && (leb n (length s - 2) && (leb (k + n) longest_name && (is_prefix rest && goes_above prev k (get_or rest 0 0))))))

abbrev pub head_part : List ℕ → List ℕ → Option Parts
head_part prev s = own_if (head_test prev s) 0 1 (get_or s 0 0)

abbrev pub tail_part : List ℕ → List ℕ → Option Parts
tail_part prev s = own_if (tail_test prev s) (get_or s 0 0) 2 (get_or s 1 0)

-- the step that the reading of the record at index `at` and position i tells, with the name that it left
abbrev pub step_of : ℕ → ℕ → Option Parts → List ℕ → Step
step_of at i None name = record { ok = false; next = cursor_of at i name 0 }
step_of at i (Some p) name =
    record { ok = true; next = cursor_of (at + p.start + p.own) (i + 1) name (p.kept + p.own) }

-- what the record at position i keeps of the name before is, where it is no head, all that its name shares with that one
abbrev pub Keeps : Bool → ℕ → List ℕ → Option Parts → List ℕ → Type 0
Keeps heads i prev None name = ⊤
Keeps heads i prev (Some p) name = head_at heads i ≡ false → p.kept ≡ common prev (take (p.kept + p.own) name)
