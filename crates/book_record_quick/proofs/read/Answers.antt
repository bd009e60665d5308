-- `book_record_quick::read` meets its contract: the rest is stored behind the kept bytes, with or without the bytes that
-- follow it (proofs/Stores). No loop, so no invariant.
use Prim.Native.Nat.{◌+◌, ◌≤◌, ℕ}
use mathlib.Core.Path.{◌∙◌, ◌≡◌, ap, refl}
use mathlib.Core.List.{List}
use lib.ListN.{drop, get_or, length, set, take}
use lib.Seq.{sets}
use native.Mathlib.Omega.{arith}
use Rattle.std.specs.Prelude.{Some}
use Rattle.octets.proofs.Stores.{part_bytes}
use Rattle.entries.specs.Names.{longest_name}
use Rattle.book_record_quick.specs.Quick.{ReadAs}
use Rattle.book_record_quick.proofs.Stores.{stored_long, stored_rest}
use Rattle.book_record_quick.proofs.read.Goals as goal
use Rattle.book_record_quick.proofs.read.Goals.{Joined-left-ge-READ_BYTES, then-left-ge-READ_BYTES}
use Rattle.book_record_quick.proofs.read.Goals.{else-left-ge-READ_BYTES+else-total-end}

-- m bytes from the rest's first on were stored, and then the zero
told :
    (c : Joined-left-ge-READ_BYTES) (m : ℕ) {stored : List ℕ}
    → let a = c.args in
    let kept = get_or a.buf.now a.at 0 in
    let own = get_or a.buf.now (a.at + 1) 0 in
    own ≤ m → a.at + 2 + m ≤ length a.buf.now → kept + m ≤ length a.name.now → a.at + 2 + own ≤ a.total
    → stored ≡ sets a.name.now kept (take m (drop (a.at + 2) a.buf.now))
    → ReadAs a.buf.now a.at a.total a.name.now a.len (Some (record { kept = kept; own = own }))
    (set stored (kept + own) 0)
told c m {stored} few fits room inside e =
    let a = c.args in
    let kept = get_or a.buf.now a.at 0 in
    let own = get_or a.buf.now (a.at + 1) 0 in
    let put = ap (λ (l : List ℕ). set l (kept + own) 0) e in
    record {
      long = stored_long a.name.now a.buf.now kept (a.at + 2) own m few fits room _ put ∙ c.requires.3;
      read = record {
        header = record {
          common = refl;
          count = refl;
          within = c.if-len-kept.false;
          some = c.if-own-lt1.false;
          inside = inside;
          short = c.if-past-gt-LONGEST_NAME.false;
          above = c.if-buf-from.false;
        };
        holds = stored_rest a.name.now a.buf.now kept (a.at + 2) own m few fits room _ put;
      };
    }

pub returns : goal.returns
returns c =
    let a = c.args in
    let kept = get_or a.buf.now a.at 0 in
    let own = get_or a.buf.now (a.at + 1) 0 in
    let wide = c.requires.3 in
    elim c.if-left-ge-READ_BYTES.branch [
      | then-left-ge-READ_BYTES w ↦
          rw w.name-is
          (told c longest_name (omega arith) (omega (arith, c.requires)) (omega arith) (omega arith)
          (rw (part_bytes a.buf.now (a.at + 2) longest_name) at w.copy.ensures))
      | else-left-ge-READ_BYTES+else-total-end w ↦
          rw w.name-is
          (told c own (omega arith) (omega (arith, c.requires)) (omega arith) (omega arith)
          (rw (part_bytes a.buf.now (a.at + 2) own) at w.copy-else-left-ge-READ_BYTES.ensures))
    ]
