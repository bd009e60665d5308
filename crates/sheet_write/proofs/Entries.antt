-- The entries of a sheet or of an answer, read one by one: what stands at the index where the entry of a position
-- begins.
use Prim.Native.Nat.{◌+◌, ◌<◌, ◌^◌, ◌≤◌, suc, ℕ}
use mathlib.Core.Path.{◌∙◌, ◌≡◌, sym}
use mathlib.Core.Bool.{true}
use mathlib.Core.List.{List, ◌∷◌}
use lib.ListN.{drop, get_or, length, length-drop}
use lib.Seq.{drop-cons}
use native.Mathlib.Numerals.{add-one}
use native.Mathlib.Omega.{arith}
use borrow.Author.Tests.{ltb-true}
use Rattle.octets.specs.Lists.{all, concat_map}
use Rattle.octets.specs.Octets.{be, begins, number_at}
use Rattle.octets.proofs.Lists.{at_all}
use Rattle.octets.proofs.Numbers.{stands-number}
use Rattle.octets.proofs.Order.{begins-at, begins-length}
use Rattle.octets.proofs.Tests.{and_true_both}
use Rattle.entries.specs.Entries.{Entry, at, is_entry, no_entry}
use Rattle.entries.specs.Names.{is_name, is_score, longest_name}
use Rattle.entries.proofs.Valid.{name_length}
use Rattle.answer.specs.Answers.{entries_bytes, entry_bytes}
use Rattle.answer.proofs.Entries.{length-entry_bytes}
use Rattle.sheet_check.proofs.RowLoop.{between, row_byte, row_name_lem}
use Rattle.sheet_check.proofs.Rows.{entry_at}

pub record Here (sheet : List ℕ) (es : List Entry) (i k : ℕ) : Type 0 where
  pub short : length (at es i).name ≤ longest_name
  pub room : k + 1 + get_or sheet k 0 + 4 ≤ length sheet
  pub name : between (k + 1) (k + 1 + get_or sheet k 0) sheet ≡ (at es i).name
  pub score : number_at 4 sheet (k + 1 + get_or sheet k 0) ≡ (at es i).score
  pub next : begins (entries_bytes (drop (i + 1) es)) (drop (k + 1 + get_or sheet k 0 + 4) sheet) ≡ true

module _
    (sheet : List ℕ) (es : List Entry) (ok : all is_entry es ≡ true) (i k : ℕ) (h : i < length es)
    (s : begins (entries_bytes (drop i es)) (drop k sheet) ≡ true)
  where
    abbrev e : Entry
    e = at es i

    -- the entry, and those behind it
    both :
        (begins (entry_bytes e) (drop k sheet) ≡ true)
        × (begins (entries_bytes (drop (suc i) es)) (drop (k + length (entry_bytes e)) sheet) ≡ true)
    unfolding entries_bytes
    both =
        and_true_both _ _
        (sym (begins-at (entry_bytes e) (concat_map entry_bytes (drop (suc i) es)) sheet k)
        ∙ (rw (drop-cons es i no_entry h) at s))

    length_byte : get_or sheet k 0 ≡ length e.name
    length_byte = sym (row_byte sheet k) ∙ (entry_at e (drop k sheet) both.0).1

    ends : k + 1 + get_or sheet k 0 + 4 ≡ k + length (entry_bytes e)
    ends = omega (arith, length_byte, length-entry_bytes e)

    inside : k + 1 + get_or sheet k 0 + 4 ≤ length sheet
    inside = omega (
      arith,
      ends,
      begins-length (entry_bytes e) (drop k sheet) both.0,
      length-drop k sheet,
      length-entry_bytes e,
    )

    score_stands_lem : begins (be 4 e.score) (drop (k + 1 + get_or sheet k 0) sheet) ≡ true
    unfolding entry_bytes
    score_stands_lem =
        let z : k + 1 + get_or sheet k 0 ≡ k + suc (length e.name) = omega (arith, length_byte) in
        let q = sym (begins-at (length e.name ∷ e.name) (be 4 e.score) sheet k) ∙ both.0 in
        rw z (and_true_both (begins (length e.name
        ∷ e.name) (drop k sheet)) (begins (be 4 e.score) (drop (k + suc (length e.name)) sheet)) q).1

    pub here : Here sheet es i k
    unfolding is_score
    here =
        let v = and_true_both (is_name e.name) (is_score e.score) (at_all is_entry no_entry es ok i h) in
        let f = ltb-true e.score (2 ^ 32) v.1 in
        record {
          short = name_length e.name v.0;
          room = inside;
          name = sym (row_name_lem sheet k) ∙ (entry_at e (drop k sheet) both.0).0;
          score = stands-number 4 sheet (k + 1 + get_or sheet k 0) e.score f score_stands_lem (omega (arith, inside));
          next = rw (ends, add-one) both.1;
        }
