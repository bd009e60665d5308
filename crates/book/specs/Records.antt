-- Front coding (document 01, "Book image", Records; source document 002). A bucket's head is written whole; another
-- name gives what it shares with the name before. Whether there are heads, `heads`, is a parameter: it differs by
-- version.
use Rattle.std.specs.Prelude.{◌%◌, ◌+◌, ◌-◌, suc, zero, ℕ, Bool, false, true, List, [], ◌++◌, ◌∷◌, eqb, drop, get_or, length, take}
use Rattle.octets.specs.Lists.{if◌then◌otherwise◌}
use Rattle.octets.specs.Octets.{common}

-- names in a bucket
abbrev pub bucket_size : ℕ
bucket_size = 8

-- every eighth name is a bucket's head
abbrev pub bucket_head : ℕ → Bool
bucket_head i = eqb (i % bucket_size) 0

-- is the record at position i a bucket's head?
abbrev pub head_at : Bool → ℕ → Bool
head_at true i = bucket_head i
head_at false i = false

-- the record of the name w at position i, behind the name prev: a head is its length and the name; another the common
-- byte (the longest prefix shared with the name before), the length of the rest, the rest
unfoldable pub record_of : Bool → ℕ → List ℕ → List ℕ → List ℕ
record_of heads i prev w =
    if head_at heads i then (length w ∷ w) otherwise (common prev w ∷ (length w - common prev w) ∷ drop (common prev w) w)

-- the records of names, the first at position i and behind the name prev
abbrev pub records : Bool → ℕ → List ℕ → List (List ℕ) → List ℕ
records heads i prev [] = []
records heads i prev (w ∷ ws) = record_of heads i prev w ++ records heads (suc i) w ws

-- the last of names, prev where there is none: what a run of records goes on behind
abbrev pub last_or : List ℕ → List (List ℕ) → List ℕ
last_or prev [] = prev
last_or prev (w ∷ ws) = last_or w ws

-- Reading: the name that the record at the front of bs would say, and the record's length.
unfoldable pub record_name : Bool → ℕ → List ℕ → List ℕ → List ℕ
record_name heads i prev bs =
    if head_at heads i
    then take (get_or bs 0 0) (drop 1 bs)
    otherwise (take (get_or bs 0 0) prev ++ take (get_or bs 1 0) (drop 2 bs))

unfoldable pub record_length : Bool → ℕ → List ℕ → ℕ
record_length heads i bs = if head_at heads i then 1 + get_or bs 0 0 otherwise 2 + get_or bs 1 0

-- n names from the records at the front of bs, the first at position i and behind the name prev
abbrev pub names_from : Bool → ℕ → ℕ → List ℕ → List ℕ → List (List ℕ)
names_from heads zero i prev bs = []
names_from heads (suc n) i prev bs =
    record_name heads i prev bs
    ∷ names_from heads n (suc i) (record_name heads i prev bs) (drop (record_length heads i bs) bs)
