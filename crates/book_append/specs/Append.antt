-- A pass over entries, which puts them one after the other or only measures them: what it asks and what it leaves.
use Rattle.std.specs.Prelude.{◌+◌, ◌<◌, ◌≤◌, suc, ℕ, ◌≡◌, Bool, true, List, [], ◌∷◌, length}
use Rattle.octets.specs.Lists.{all, if◌then◌otherwise◌}
use Rattle.octets.specs.Octets.{overwrite}
use Rattle.entries.specs.Entries.{Entry, max_entries, names}
use Rattle.entries.specs.Names.{is_name, longest_name}
use Rattle.book_laws.specs.Cursor.{cursor_of, name_in}
use Rattle.book.specs.declared.Layout.{Layout}
use Rattle.book.specs.Records.{last_or, record_of, records}
use Rattle.book.specs.Book.{image_in}
use Rattle.book_write.specs.Calls.{given_put}
use Rattle.book_write.specs.Writing.{finished, put_entry}
use Rattle.book_append.specs.declared.EntryTarget.{EntryTarget}
use Rattle.book_laws.specs.declared.Cursor.{Cursor}

-- entries of a book of n put one after the other, the first at position i, its record at index `at` behind the name
-- prev
abbrev pub put_all : Layout → ℕ → ℕ → List ℕ → ℕ → List Entry → List ℕ → List ℕ
put_all l n i prev at [] d = d
put_all l n i prev at (e ∷ es) d =
    put_all l n (suc i) e.name (at + length (record_of l.heads i prev e.name)) es (put_entry l n i prev at e d)

-- the cursor at a place behind the name w
abbrev pub cursor_behind : ℕ → ℕ → List ℕ → Cursor
cursor_behind at i w = cursor_of at i w (length w)

-- where the records of entries at a cursor end
abbrev pub end_of : Layout → Cursor → List Entry → ℕ
end_of l c es = c.at + length (records l.heads c.index (name_in c) (names es))

-- what a pass over the entries es asks of the cursor c: as entries of a book of n; with `store` there is room for them
-- in d
pub record Fits (l : Layout) (store : Bool) (n : ℕ) (c : Cursor) (es : List Entry) (d : List ℕ) : Type 0 where
  pub few : n ≤ max_entries
  pub low : c.index + length es ≤ n
  pub small : c.len ≤ longest_name
  pub allowed : all (λ e. is_name e.name) es ≡ true
  pub near : end_of l c es < 65536
  pub enough : store ≡ true → end_of l c es ≤ length d

-- the cursor r is the one behind them
pub record Went (l : Layout) (c : Cursor) (es : List Entry) (r : Cursor) : Type 0 where
  pub index : r.index ≡ c.index + length es
  pub end : r.at ≡ end_of l c es
  pub name : name_in r ≡ last_or (name_in c) (names es)
  pub small : r.len ≤ longest_name

-- what stands in d after it: with `store` they are put, else d is as it was
abbrev pub after_pass : Layout → Bool → ℕ → Cursor → List Entry → List ℕ → List ℕ
after_pass l store n c es d = if store then put_all l n c.index (name_in c) c.at es d otherwise d

-- the same of one entry of the score s, its record given as bytes
abbrev pub after_given : EntryTarget → List ℕ → ℕ → List ℕ → List ℕ
after_given to bytes s d = if to.store then given_put to.slot bytes s d otherwise d

-- and what it leaves
pub record AppendDone (l : Layout) (store : Bool) (n : ℕ) (c : Cursor) (es : List Entry) (d : List ℕ) (r : Cursor)
    (new : List ℕ) :
    Type
    0 where
  pub bytes : new ≡ after_pass l store n c es d
  pub went : Went l c es r

-- a pass over a whole book: where its records end, which is where the image ends; with `store`, new wants only
-- finishing to be the image
pub record BookDone (l : Layout) (store : Bool) (es : List Entry) (d new : List ℕ) (r : ℕ) : Type 0 where
  pub bytes : store ≡ true → finished l (length (image_in l es)) (length es) new ≡ overwrite d (image_in l es)
  pub end : r ≡ length (image_in l es)
