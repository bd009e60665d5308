-- A step of the cursor in plain numbers and lists: the name that it leaves in the array, and where it stands.
use Prim.Native.Nat.{◌+◌, ◌≤◌, ℕ}
use mathlib.Core.Path.{◌∙◌, ◌≡◌, ap, refl, sym}
use mathlib.Core.Bool.{Bool, false, false≢true, true}
use mathlib.Core.List.{List, ◌++◌}
use lib.Dec.{leb}
use lib.ListN.{drop, length, length-drop, length-take, take}
use lib.Seq.{length-take-le, sets, take-take}
use native.Mathlib.Omega.{arith}
use Rattle.octets.specs.Octets.{common}
use Rattle.entries.specs.Names.{allowed_bytes, is_name, is_prefix, longest_name}
use Rattle.octets.proofs.Tests.{and_true_both}
use Rattle.book_laws.specs.Cursor.{Sound, Step, Stepped, name_in}
use Rattle.book_record_read.specs.RecordParts.{record_part}
use Rattle.book.specs.Records.{head_at, record_name}
use Rattle.book_laws.specs.declared.Cursor.{Cursor}
use Rattle.book_laws.specs.declared.Parts.{Parts}
use Rattle.std.specs.Prelude.{None, Some}
use Rattle.book_record_read.proofs.RecordParts.{part_bad, part_own, record_is_lem}
use Rattle.octets.proofs.Stores.{take-sets}

-- the kept bytes and a record's own, in the array that held the name before
stored :
    (name own : List ℕ) (len k n : ℕ) → length own ≡ n → k ≤ len → k + n ≤ length name
    → take (k + n) (sets name k own) ≡ take k (take len name) ++ own
stored name own len k n e h q = rw (take-take k len name h, ← e) (take-sets name k own (omega arith))

module _ (heads : Bool) (src : List ℕ) (c : Cursor) (sound : Sound src c) where
  -- no record of a book
  pub step_bad :
      {d : Cursor} → record_part heads c.index (name_in c) (drop c.at src) ≡ None
      → Stepped heads src c (record { ok = false; next = d })
  step_bad e = record {
    ok = sym (part_bad heads c.index (name_in c) (drop c.at src) e);
    next = λ t. absurd (false≢true t);
  }

  module _ (long : length c.name ≡ longest_name) (p : Parts) where
    -- a record, whose own bytes are stored behind the kept ones
    pub step_own :
        (name : List ℕ) → record_part heads c.index (name_in c) (drop c.at src) ≡ Some p
        → name ≡ sets c.name p.kept (take p.own (drop p.start (drop c.at src)))
        → Stepped heads src c
        (record {
          ok = true;
          next = record {
            at = c.at + p.start + p.own;
            index = c.index + 1;
            name = name;
            len = p.kept + p.own;
          };
        })
    step_own name e m =
        let s = drop c.at src in
        let o = part_own heads c.index (name_in c) s p sound.allowed e in
        let l = length-take-le p.own (drop p.start s) (omega (arith, o.inside, length-drop p.start s)) in
        let k : p.kept ≤ c.len = omega (arith, o.within, length-take c.len c.name) in
        record {
          ok = sym o.is;
          next = λ t.
              record {
                name = rw m (stored c.name (take p.own (drop p.start s)) c.len p.kept p.own l k (omega (arith, o.short)))
                    ∙ sym o.name;
                at = omega (arith, o.long);
                index = refl;
                small = o.short;
                inside = omega (arith, o.inside, length-drop c.at src, sound.inside);
              };
        }

    -- and what it keeps of the name before, where it is no head
    pub own_keeps :
        (name : List ℕ) → record_part heads c.index (name_in c) (drop c.at src) ≡ Some p
        → name ≡ sets c.name p.kept (take p.own (drop p.start (drop c.at src)))
        → head_at heads c.index ≡ false → p.kept ≡ common (name_in c) (take (p.kept + p.own) name)
    own_keeps name e m f =
        let s = drop c.at src in
        let o = part_own heads c.index (name_in c) s p sound.allowed e in
        let q = ((step_own name e m).next refl).name in
        o.shares f ∙ ap (common (name_in c)) (sym q)

-- a cursor at the first record, and one that a step gave, are sound
pub start_sound : (src name : List ℕ) (at : ℕ) → at ≤ length src
    → Sound src (record { at = at; index = 0; name = name; len = 0 })
unfolding is_prefix allowed_bytes
start_sound src name at h = record { allowed = refl; small = omega arith; inside = h }

pub next_sound :
    (heads : Bool) (src : List ℕ) (c : Cursor) (r : Step) → Stepped heads src c r → r.ok ≡ true → Sound src r.next
unfolding is_name
next_sound heads src c r h t =
    let w = record_name heads c.index (name_in c) (drop c.at src) in
    let n = h.next t in
    let b = record_is_lem heads c.index (name_in c) (drop c.at src) (sym h.ok ∙ t) in
    let p = and_true_both (leb 1 (length w)) (is_prefix w) b.1 in
    record { allowed = rw n.name p.1; small = n.small; inside = n.inside }
