-- The place of a key among names, and what is known of it while their records are read. No record is a bucket's head.
use Rattle.std.specs.Prelude.{◌+◌, ◌<◌, ◌≤◌, ℕ, ◌≡◌, ◌≢◌, Bool, ◌&&◌, ◌||◌, false, true, List, [], ◌++◌, ◌∷◌, drop, get_or, length, take}
use Rattle.octets.specs.Lists.{keep}
use Rattle.octets.specs.Octets.{begins, below, common, same}
use Rattle.book.specs.Records.{last_or, record_of, records}
use Rattle.book_seek.specs.declared.Order.{Order}
use Rattle.book_seek.specs.declared.Order.TheVariants.{Begun, Below, Past}
use Rattle.book_seek.specs.declared.Seek.{Seek}

-- the name is below the key or, with `past`, begun by it; how many names are
abbrev pub before : Bool → List ℕ → List ℕ → Bool
before past key w = below w key || (past && begins key w)

unfoldable pub place_in : Bool → List ℕ → List (List ℕ) → ℕ
place_in past key ws = length (keep (before past key) ws)

-- how a list of bytes stands to another
abbrev pub Ordered : List ℕ → List ℕ → Order → Type 0
Ordered w key Below = below w key ≡ true
Ordered w key Begun = begins key w ≡ true
Ordered w key Past = (below w key ≡ false) × (begins key w ≡ false)

-- how the name w stands to the key, and how many bytes they share
pub record Stands (w key : List ℕ) (order : Order) (shared : ℕ) : Type 0 where
  pub shares : shared ≡ common w key
  pub under : order ≡ Below → below w key ≡ true
  pub begun : order ≡ Begun → begins key w ≡ true
  pub over : order ≡ Past → (below w key ≡ false) × (begins key w ≡ false)

-- the name w stands behind the name prev, which is below the key or none, and goes on with `rest` behind the bytes that
-- it keeps of it
pub record Meets (prev w key : List ℕ) (kept : ℕ) (rest : List ℕ) (shared : ℕ) : Type 0 where
  pub above : below prev w ≡ true
  pub keeps : kept ≡ common prev w
  pub goes_on : rest ≡ drop kept w
  pub shares : shared ≡ common prev key
  pub under : shared < kept → below prev key ≡ true

-- what is known of the key among the names vs, whose records begin at index `start`
pub record Seeking (key : List ℕ) (start : ℕ) (vs : List (List ℕ)) (s : Seek) : Type 0 where
  pub place : s.place ≡ place_in false key vs
  pub past : s.past ≡ place_in true key vs
  pub index : s.at ≡ start + length (records false 0 [] (take s.place vs))
  pub left : s.below ≡ common (last_or [] (take s.place vs)) key
  pub right : s.place < length vs → s.above ≡ common (get_or vs s.place []) key
  pub equal : s.place < length vs → s.same ≡ same (get_or vs s.place []) key
  pub none : length vs ≤ s.place → s.same ≡ false
  pub whole : s.order ≡ Below → s.place ≡ length vs
  pub under : s.order ≡ Below → 0 < length vs → below (last_or [] vs) key ≡ true
  pub some : s.order ≢ Below → s.place < length vs
  pub begun : s.order ≡ Begun → begins key (last_or [] vs) ≡ true
  pub over : s.order ≡ Past → (below (last_or [] vs) key ≡ false) × (begins key (last_or [] vs) ≡ false)

-- the name w comes behind vs: its record stands from index `at` to before `end`
pub record Next (start : ℕ) (vs : List (List ℕ)) (w : List ℕ) (at end kept : ℕ) (rest : List ℕ) : Type 0 where
  pub above : below (last_or [] vs) w ≡ true
  pub keeps : kept ≡ common (last_or [] vs) w
  pub goes_on : rest ≡ drop kept w
  pub from : at ≡ start + length (records false 0 [] vs)
  pub to : end ≡ at + length (record_of false (length vs) (last_or [] vs) w)

-- what comparing gives, for every name that stands so; and what one more name gives, whatever names were before it
abbrev pub Compares : List ℕ → ℕ → List ℕ → ℕ → Order → ℕ → Type 0
Compares key kept rest shared order all =
    (prev w : List ℕ) → Meets prev w key kept rest shared → Stands w key order all

abbrev pub GoesOn : List ℕ → Seek → ℕ → ℕ → ℕ → List ℕ → Seek → Type 0
GoesOn key s at end kept rest r =
    (start : ℕ) (vs : List (List ℕ)) (w : List ℕ) → Seeking key start vs s → Next start vs w at end kept rest
    → Seeking key start (vs ++ (w ∷ [])) r

-- before the first name, whose record begins at index `at`
abbrev pub none : ℕ → Seek
none at = record { order = Below; place = 0; past = 0; at = at; below = 0; above = 0; same = false }

-- before the record at position i and index `at`, where all names so far are below the key and the last shares so many
-- bytes with it
abbrev pub early : ℕ → ℕ → ℕ → Seek
early i at below =
    record { order = Below; place = i; past = i; at = at; below = below; above = 0; same = false }

-- the name of the record at index `at` is the first that is not below the key: how it stands to it, where the names end
-- that the key begins, how many bytes the two share, and whether they are the same
abbrev pub stopped : Seek → ℕ → Order → ℕ → ℕ → Bool → Seek
stopped s at order past shared equal = record {
  order = order;
  place = s.place;
  past = past;
  at = at;
  below = s.below;
  above = shared;
  same = equal;
}

-- the same place, with another order of the last name and another end
abbrev pub placed : Seek → Order → ℕ → Seek
placed s order past = record {
  order = order;
  place = s.place;
  past = past;
  at = s.at;
  below = s.below;
  above = s.above;
  same = s.same;
}

-- What a loop keeps of the search, with what the position and the index of the next record tell: while all names are
-- below the key, its place; while the key begins the last one, how many it begins.
abbrev pub settled_by : Order → Seek → ℕ → ℕ → Seek
settled_by Below s i at = early i at s.below
settled_by Begun s i at = placed s Begun i
settled_by Past s i at = s

unfoldable pub settled : Seek → ℕ → ℕ → Seek
settled s i at = settled_by s.order s i at

-- a name whose record keeps at least so many bytes changes nothing of it
abbrev pub Quiet : List ℕ → Seek → ℕ → Type 0
Quiet key s limit =
    (i at end kept : ℕ) (rest : List ℕ) → limit ≤ kept
    → GoesOn key (settled s i at) at end kept rest (settled s (i + 1) end)
