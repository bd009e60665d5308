-- One record passed into another layout: the record that stands next is read, and its entry put or measured.
use Prim.Native.Nat.{◌+◌, ◌<◌, ◌≤◌, ℕ}
use mathlib.Core.Path.{◌∙◌, ◌≡◌, refl, sym}
use mathlib.Core.Bool.{Bool, false≢true, true}
use mathlib.Core.List.{List, [], ◌∷◌}
use lib.ListN.{drop, length, take}
use lib.Seq.{length-take-le, sets}
use native.Mathlib.Omega.{arith}
use Rattle.octets.proofs.Order.{front_of_lem}
use Rattle.octets.proofs.Tests.{by_test}
use Rattle.entries.specs.Entries.{Entry, at, entry}
use Rattle.entries.specs.Names.{longest_name}
use Rattle.book.specs.Records.{head_at, record_of}
use Rattle.book_laws.specs.Ahead.{AheadIn}
use Rattle.book_laws.specs.Check.{score_at}
use Rattle.book_laws.specs.Cursor.{Stepped, cursor_of, name_in}
use Rattle.book_laws.specs.declared.Cursor.{Cursor}
use Rattle.book_laws.proofs.Ahead.{here_begins, step_ahead, step_at, step_name}
use Rattle.book_laws.proofs.Held.{held_stored, held-valid}
use Rattle.book_read.specs.Record.{Inside, Read}
use Rattle.book_laws.specs.declared.Parts.{Parts}
use Rattle.book_read.proofs.Reading.{step_inside, step_read, step_by}
use Rattle.book_write.proofs.Calls.{name_copied}
use Rattle.book_append.specs.Append.{AppendDone, Fits, after_given, cursor_behind}
use Rattle.book_append.specs.declared.EntryTarget.{EntryTarget}
use Rattle.book_append.proofs.Append.{passed_given, plain_fits, plain_passed}
use Rattle.convert_write.specs.Passing.{RecordPassed, RecordReady, entries_at, headed_alike}
use Rattle.convert_write.specs.declared.Passed.{Passed}
use Rattle.convert_write.specs.declared.Source.{Source}

-- a record is the same in both layouts where it is a head in both, or in neither
pub same-heads : (a b : Bool) (i : ℕ) → headed_alike a b i ≡ true → head_at a i ≡ head_at b i
same-heads a b i =
    by_test (head_at a i)
    (λ t. rw t (λ h. sym h))
    (λ t. rw t (λ h. sym (by_test (head_at b i) (λ u. absurd (false≢true (rw u at h))) (λ u. u))))

same_record : (a b : Bool) (i : ℕ) (prev w : List ℕ) → head_at a i ≡ head_at b i
    → record_of a i prev w ≡ record_of b i prev w
unfolding record_of
same_record a b i prev w e = rw e

module _
    {book : List ℕ} {src : Source} {name d : List ℕ} {to : EntryTarget} (v : RecordReady book src name d to)
  where
    abbrev es : List Entry
    es = entries_at book src

    abbrev i : ℕ
    i = to.slot.index

    abbrev here : Cursor
    here = cursor_of src.at i name src.len

    low : i < length es
    low = omega (arith, v.low, v.held.count)

    pub ready_inside : Inside src.layout.heads (drop src.at book) i (length name)
    ready_inside = step_inside (held-valid v.held) v.ahead v.long low

    pub ready_name : src.len ≤ length name
    ready_name = omega (arith, v.ahead.small, v.long)

    -- the name before, copied to the front of another array
    pub name_before_lem : (a : List ℕ) {copy : List ℕ} → length a ≡ longest_name → copy ≡ sets a 0 (take src.len name)
        → take src.len copy ≡ name_in here
    name_before_lem a long e =
        let z = length-take-le src.len name ready_name in
        rw z at (name_copied a (take src.len name) (omega (arith, z, v.ahead.small)) e)

    -- the record was read
    module _ {new : List ℕ} {p : Parts} (r : Read src.layout.heads (drop src.at book) i name new p) where
      stepped : Stepped src.layout.heads book here (step_by here new p)
      stepped = step_read (held-valid v.held) v.ahead v.long low r

      pub read_ahead :
          AheadIn src.layout es book (cursor_of (src.at + (p.start + p.own)) (i + 1) new (p.kept + p.own))
      read_ahead = step_ahead src.layout es (held-valid v.held) book here v.ahead low _ stepped

      pub read_name_is : take (p.kept + p.own) new ≡ (at es i).name
      read_name_is = step_name src.layout es (held-valid v.held) book here v.ahead low _ stepped

      ends : src.at + (p.start + p.own) ≡ src.at + length
          (record_of src.layout.heads i (name_in here) (at es i).name)
      ends = step_at src.layout es (held-valid v.held) book here v.ahead low _ stepped

      -- its bytes
      pub read_coded :
          take (p.start + p.own) (drop src.at book)
          ≡ record_of src.layout.heads i (name_in here) (at es i).name
      read_coded =
          let coded = record_of src.layout.heads i (name_in here) (at es i).name in
          let z : p.start + p.own ≡ length coded = omega (arith, ends) in
          rw z (front_of_lem coded (drop src.at book)
          (here_begins src.layout es (held-valid v.held) book here v.ahead low))

      -- and its entry
      pub read_entry : {s : ℕ} → s ≡ score_at book i → entry (take (p.kept + p.own) new) s ≡ at es i
      read_entry e = rw (read_name_is, e, (held_stored v.held).scored_at i low)

      abbrev passed : ℕ → Passed
      passed end = record { read = src.at + (p.start + p.own); written = end; len = p.kept + p.own }

      -- passed from the name before, which stands by itself
      plainly :
          {left : List ℕ} {end : ℕ}
          → AppendDone to.slot.layout to.store to.slot.n (cursor_behind to.slot.at i (name_in here))
          (at es i ∷ []) d (cursor_behind end (i + 1) (at es i).name) left
          → RecordPassed book src name new d left to (passed end)
      plainly a =
          record { ahead = read_ahead; done = plain_passed a refl refl read_name_is read_ahead.small }

      -- its bytes given, where both layouts lay it out alike
      pub given_passed :
          {bytes left : List ℕ} {s end : ℕ}
          → head_at src.layout.heads i ≡ head_at to.slot.layout.heads i
          → bytes ≡ take (p.start + p.own) (drop src.at book) → s ≡ score_at book i
          → left ≡ after_given to bytes s d → end ≡ to.slot.at + length bytes
          → RecordPassed book src name new d left to (passed end)
      given_passed {bytes} {left} {s} {end} heads same score put e =
          let w = (at es i).name in
          let f = plain_fits v.fits in
          let b : bytes ≡ record_of to.slot.layout.heads i (name_in here) w =
          same ∙ read_coded ∙ same_record src.layout.heads to.slot.layout.heads i (name_in here) w heads in
          let q : s ≡ (at es i).score = score ∙ (held_stored v.held).scored_at i low in
          plainly (passed_given f b (rw q at put) e)

      -- put anew behind the name before, kept in prev
      module _ {prev : List ℕ} {s : ℕ} (kept : prev ≡ name_in here) (score : s ≡ score_at book i) where
        pub anew_fits :
            Fits to.slot.layout to.store to.slot.n (cursor_behind to.slot.at i prev)
            (entry (take (p.kept + p.own) new) s ∷ []) d
        anew_fits = rw (kept, read_entry score) (plain_fits v.fits)

        pub anew_passed :
            {left : List ℕ} {end : ℕ}
            → AppendDone to.slot.layout to.store to.slot.n (cursor_behind to.slot.at i prev)
            (entry (take (p.kept + p.own) new) s ∷ []) d
            (cursor_behind end (i + 1) (take (p.kept + p.own) new)) left
            → RecordPassed book src name new d left to (passed end)
        anew_passed a = plainly (rw (kept, read_entry score, read_name_is) at a)
