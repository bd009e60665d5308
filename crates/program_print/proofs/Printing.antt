-- A number's digits copied; the lines of the entries of an answer, one by one.
use Prim.Native.Nat.{◌*◌, ◌+◌, ◌-◌, ◌<◌, ◌≤◌, suc, ℕ}
use mathlib.Core.Path.{◌∙◌, ◌≡◌, ap, refl, sym}
use mathlib.Core.Bool.{true}
use mathlib.Core.List.{List, [], ◌++◌, ◌∷◌, append_assoc, append-nil}
use lib.ListN.{drop, drop_of_length-le, get_or, length, length-append, take}
use lib.Seq.{drop_at, drop-cons, length-take-le, sets, sets-eq, take_all}
use native.Mathlib.Numerals.{add-one}
use native.Mathlib.Omega.{arith}
use Rattle.entries.specs.Entries as entries
use Rattle.octets_decimal.specs.Digits.{Numbered}
use Rattle.octets.specs.Decimal.{decimal}
use Rattle.octets.specs.Lists.{all}
use Rattle.octets.specs.Octets.{begins, number_at}
use Rattle.octets.specs.Text.{line_feed, text}
use Rattle.octets.proofs.Decimal.{decimal_most}
use Rattle.octets.proofs.Stores.{sets-append}
use Rattle.octets.proofs.Tests.{and_true_both}
use Rattle.octets_laws.specs.Printed.{Printed}
use Rattle.octets_laws.proofs.Printed.{put_size}
use Rattle.entries.specs.Entries.{Entry, entry, is_entry, no_entry}
use Rattle.entries.specs.Names.{is_name, is_score}
use Rattle.entries.proofs.Valid.{name_length}
use Rattle.answer.specs.Answers.{entries_bytes}
use Rattle.sheet.proofs.Reading.{length-sheet_from}
use Rattle.sheet.specs.Sheet.{sheet_from}
use Rattle.sheet_write.proofs.Entries.{Here, here}
use Rattle.sheet_check.proofs.RowLoop.{between}
use Rattle.program_print.specs.Printing.{Laid, entry_line, entry_line_room, offered_lines}

-- a number's digits, copied from the ten bytes that they end
pub put_digits :
    (out : List ℕ) (at : ℕ) {v from : ℕ} {blank digits : List ℕ} {left : List ℕ} → at + 10 ≤ length out
    → length blank ≡ 10 → Numbered blank 10 v from digits → left ≡ sets out at (take (10 - from) (drop from digits))
    → Printed out at (decimal v) (at + (10 - from)) left
put_digits out at {v} {from} {blank} {digits} h t n e =
    let z : drop from digits ≡ decimal v =
    rw (
      n.stored,
      sets-eq (decimal v) blank from (omega (arith, n.ends)),
      append_assoc (take from blank) (decimal v) (drop (from + length (decimal v)) blank),
      drop_at (take from blank) (decimal v ++ drop (from + length (decimal v)) blank) from
          (length-take-le from blank (omega (arith, n.ends))),
      drop_of_length-le blank {i = from + length (decimal v)} (omega (arith, n.ends)),
    )
    (append-nil (decimal v))
    in
    let y = take_all (10 - from) (decimal v) (omega (arith, n.ends)) in
    record {
      stored = e ∙ ap (sets out at) (ap (take (10 - from)) z ∙ y);
      ends = omega (arith, n.ends);
      inside = omega arith;
    }

-- how long an entry's line is
line_most : (e : Entry) → length (entry_line e) ≤ length e.name + 12
line_most e =
    let d = decimal e.score in
    let a = length-append (d ++ text " " ++ e.name) line_feed in
    let b = length-append (d ++ text " ") e.name in
    omega (arith, decimal_most e.score, length-append d (text " "))

-- The lines of the entries that are left, written now, give all lines.
pub record Offering (answer : List ℕ) (n : ℕ) (out₀ out : List ℕ) (at end i : ℕ) : Type 0 where
  pub upto : i ≤ n
  pub stands : begins (entries_bytes (drop i (sheet_from n answer))) (drop at answer) ≡ true
  pub size : length out ≡ length out₀
  pub room : end + entry_line_room * (n - i) ≤ length out
  pub left : sets out end (offered_lines (drop i (sheet_from n answer))) ≡ sets out₀ 0 (offered_lines (sheet_from n answer))
  pub ends : end + length (offered_lines (drop i (sheet_from n answer))) ≡ length (offered_lines (sheet_from n answer))

pub offer_start :
    {answer : List ℕ} {n : ℕ} {out : List ℕ} → Laid n answer × (entry_line_room * n ≤ length out)
    → Offering answer n out out 0 0 0
offer_start h =
    record {
      upto = omega arith;
      stands = h.0.stands;
      size = refl;
      room = omega (arith, h.1);
      left = refl;
      ends = omega arith;
    }

module _
    {answer : List ℕ} {n : ℕ} {out₀ out : List ℕ} {at end i : ℕ} (k : Offering answer n out₀ out at end i)
    (l : Laid n answer)
  where
    abbrev es : List Entry
    es = sheet_from n answer

    module _ (h : i < n) where
      low : i < length es
      low = omega (arith, length-sheet_from n answer)

      pub offer_here : Here answer es i at
      offer_here = here answer es l.sound i at low k.stands

      pub offer_room : end + length (between (at + 1) (at + 1 + get_or answer at 0) answer) + 12 ≤ length out
      offer_room = omega (arith, ap length offer_here.name, offer_here.short, k.room)

      pub offer_on :
          {v end₁ : ℕ} {next : List ℕ} → v ≡ number_at 4 answer (at + 1 + get_or answer at 0)
          → Printed out end (entry_line (entry (between (at + 1) (at + 1 + get_or answer at 0) answer) v)) end₁ next
          → Offering answer n out₀ next (at + 1 + get_or answer at 0 + 4) end₁ (i + 1)
      offer_on {v} {end₁} {next} q p =
          let e = entries.at es i in
          let o = offer_here in
          let line : Printed out end (entry_line e) end₁ next = rw (o.name, q ∙ o.score) at p in
          let rest = offered_lines (drop (suc i) es) in
          let d : offered_lines (drop i es) ≡ entry_line e ++ rest = ap offered_lines (drop-cons es i no_entry low) in
          let on : sets next end₁ rest ≡ sets out end (entry_line e ++ rest) =
          rw (line.stored, line.ends) (sets-append out (entry_line e) rest end)
          in
          record {
            upto = omega arith;
            stands = o.next;
            size = put_size p ∙ k.size;
            room = omega (arith, k.room, line.ends, line_most e, o.short, put_size p);
            left = rw (add-one i) (on ∙ ap (sets out end) (sym d) ∙ k.left);
            ends = rw (add-one i) (omega (arith, line.ends, ap length d, length-append (entry_line e) rest, k.ends));
          }

    pub offer_end : n ≤ i → Printed out₀ 0 (offered_lines es) end out
    offer_end h =
        let z = drop_of_length-le es {i = i} (omega (arith, length-sheet_from n answer)) in
        record {
          stored = rw z at k.left;
          ends = omega (arith, ap (λ x. length (offered_lines x)) z, k.ends);
          inside = omega (arith, k.room, k.size);
        }

-- the lines of allowed entries are short
pub lines_most : (l : List Entry) → all is_entry l ≡ true → length (offered_lines l) ≤ entry_line_room * length l
lines_most [] h = omega arith
lines_most (e ∷ l) h =
    let p = and_true_both (is_entry e) (all is_entry l) h in
    let q = and_true_both (is_name e.name) (is_score e.score) p.0 in
    let a = name_length e.name q.0 in
    omega (arith, line_most e, lines_most l p.1, length-append (entry_line e) (offered_lines l))
