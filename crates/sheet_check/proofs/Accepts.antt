-- The check accepts exactly the buffers that are read.
use Prim.Native.Nat.{◌<◌, ◌^◌, ◌≤◌, ℕ}
use mathlib.Core.Path.{◌∙◌, ◌≡◌, refl, sym}
use mathlib.Core.Bool.{false, false≢true, true}
use mathlib.Core.List.{List, [], ◌∷◌}
use mathlib.Core.Option.{Option, none, some}
use lib.ListN.{drop, length}
use native.Mathlib.Omega.{arith}
use borrow.Author.Tests.{eq-eqb}
use Rattle.octets.specs.Octets.{be, begins, below, number_at}
use Rattle.octets.proofs.Lists.{all_both, all_imp}
use Rattle.octets.proofs.Numbers.{Bytes, number-stands, stands-number}
use Rattle.octets.proofs.Order.{begins_first, begins-length}
use Rattle.octets.proofs.Tests.{and_true_both, by_test}
use Rattle.entries.specs.Entries.{Entry, valid}
use Rattle.entries.specs.Names.{is_name, is_score}
use Rattle.entries.proofs.Valid.{name_above, valid_intro, valid_of}
use Rattle.answer.specs.Answers.{entries_bytes}
use Rattle.frame.specs.Frame.{framed, is_read}
use Rattle.book_laws.proofs.Check.{chained_rising, rising_chained}
use Rattle.frame_laws.proofs.Test.{FrameTests, ends_some, frame_passes, frame_tests, version_stands}
use Rattle.frame.proofs.Frame.{framed-length, framed-parts}
use Rattle.answer.proofs.Entries.{entries_bytes_most}
use Rattle.sheet_check.specs.Check.{rows_end, sheet_checks}
use Rattle.sheet.specs.Sheet.{read_sheet, sheet_from, sheet_image}
use Rattle.sheet.proofs.Reading.{length-sheet_from, sheet_exact}
use Rattle.sheet_check.proofs.Rows.{Rows, rows_complete, rows_sound}

-- the tests that have been passed
record Tests (buf : List ℕ) : Type 0 where
  frame : FrameTests 0x11 buf
  ends : rows_end (number_at 2 buf 5) [] 7 buf ≡ some (number_at 4 buf 1)

tests_of : (buf : List ℕ) → sheet_checks buf ≡ true → Tests buf
unfolding sheet_checks
tests_of buf h =
    let a = and_true_both _ _ h in
    record { frame = frame_tests 0x11 buf a.0; ends = ends_some (number_at 4 buf 1) _ a.1 }

of_tests : (buf : List ℕ) → Tests buf → sheet_checks buf ≡ true
unfolding sheet_checks
of_tests buf t =
    rw (frame_passes 0x11 buf t.frame, t.ends) (eq-eqb (number_at 4 buf 1) (number_at 4 buf 1) refl)

-- a buffer that passes is read
module _ (buf : List ℕ) (b : Bytes buf) (t : Tests buf) where
  abbrev n : ℕ
  n = number_at 2 buf 5

  abbrev es : List Entry
  es = sheet_from n (drop 7 buf)

  es_length : length es ≡ n
  es_length = length-sheet_from n (drop 7 buf)

  passes_valid : valid es ≡ true
  passes_valid =
      let r = rows_sound n [] 7 buf (number_at 4 buf 1) b t.ends in
      let f = t.frame.few in
      let m = es_length in
      valid_intro es (omega arith) (all_both (λ e. is_name e.name) (λ e. is_score e.score) es r.0.allowed
      r.1)
      (chained_rising [] es r.0.above)

  passes_read : read_sheet buf ≡ some es
  unfolding sheet_image
  passes_read =
      let r = rows_sound n [] 7 buf (number_at 4 buf 1) b t.ends in
      let g = t.frame.long in
      let m = es_length in
      let l = framed-length 0x11 (length es) (entries_bytes es) in
      let e = r.2 in
      sheet_exact.complete es buf passes_valid
      (framed-parts 0x11 (length es) (entries_bytes es) buf
      ∙ rw (
        version_stands 0x11 buf t.frame,
        number-stands 4 buf 1 b (omega arith) (length (framed 0x11 (length es) (entries_bytes es))) (omega arith),
        number-stands 2 buf 5 b (omega arith) (length es) (sym m),
      )
      r.0.stands)

-- a buffer that is read passes, and n is what it has
module _ (buf : List ℕ) (es : List Entry) (h : read_sheet buf ≡ some es) where
  abbrev image : List ℕ
  image = framed 0x11 (length es) (entries_bytes es)

  sound : (valid es ≡ true) × (begins image buf ≡ true)
  unfolding sheet_image
  sound = sheet_exact.sound es buf h

  parts : (begins (0x11 ∷ []) buf ≡ true) × (begins (be 4 (length image)) (drop 1 buf) ≡ true)
      × (begins (be 2 (length es)) (drop 5 buf) ≡ true) × (begins (entries_bytes es) (drop 7 buf) ≡ true)
  parts =
      let a = and_true_both _ _ (sym (framed-parts 0x11 (length es) (entries_bytes es) buf) ∙ sound.1) in
      let b = and_true_both _ _ a.1 in
      let c = and_true_both _ _ b.1 in
      (a.0, b.0, c.0, c.1)

  inside : length image ≤ length buf
  inside = begins-length image buf sound.1

  -- at most 53 bytes for each entry
  sheet_small : length image < 2 ^ 32
  sheet_small =
      let v = valid_of es sound.0 in
      let few = v.few in
      let m = entries_bytes_most es v.allowed in
      rw (framed-length 0x11 (length es) (entries_bytes es)) (omega arith)

  pub sheet_count : number_at 2 buf 5 ≡ length es
  sheet_count =
      let v = valid_of es sound.0 in
      let few = v.few in
      let l = framed-length 0x11 (length es) (entries_bytes es) in
      let i = inside in
      stands-number 2 buf 5 (length es) (omega arith) parts.2 (omega arith)

  pub sheet_rows : Rows [] 7 es buf
  sheet_rows =
      let v = valid_of es sound.0 in
      record {
        stands = parts.3;
        allowed = v.allowed;
        above = rising_chained [] es (all_imp (λ e. is_name e.name) (λ e. below [] e.name)
            (λ e t. name_above e.name t) es v.allowed) v.order;
      }

  read_passes : Tests buf
  read_passes =
      let v = valid_of es sound.0 in
      let l = framed-length 0x11 (length es) (entries_bytes es) in
      let i = inside in
      let total : number_at 4 buf 1 ≡ length image = stands-number 4 buf 1 (length image) sheet_small parts.1
      (omega arith) in
      record {
        frame = record {
          long = omega arith;
          version = begins_first 0x11 buf parts.0;
          few = rw sheet_count v.few;
          fits = rw total i;
        };
        ends = rw (sheet_count, total, l) (rows_complete es [] 7 buf sheet_rows);
      }

pub sheet_check_exact : (buf : List ℕ) → Bytes buf → sheet_checks buf ≡ is_read (read_sheet buf)
sheet_check_exact buf b =
    by_test (sheet_checks buf)
    (λ t. rw (t, passes_read buf b (tests_of buf t)))
    (λ t. refused t (read_sheet buf) refl)
  where
    refused : sheet_checks buf ≡ false → (o : Option (List Entry)) → read_sheet buf ≡ o → sheet_checks buf ≡ is_read o
    refused t none e = t
    refused t (some fs) e = absurd (false≢true (sym t ∙ of_tests buf (read_passes buf fs e)))
