-- What the fast reading of a record tells is a step of the cursor, where the name before and the rest are bytes 20 to
-- 7E; and the name behind it is such bytes again.
use Prim.Native.Nat.{◌+◌, ◌-◌, ◌≤◌, ℕ}
use mathlib.Core.Path.{◌∙◌, ◌≡◌, ap, refl, sym}
use mathlib.Core.Bool.{Bool, false, true}
use mathlib.Core.List.{List, ◌++◌}
use lib.Dec.{leb}
use lib.ListN.{drop, get_or, length, length-drop, take}
use lib.Seq.{drop_at, drop-drop, get_or-drop, get_or-take, length-take-le, take-take}
use native.Mathlib.Nat.{add-zero}
use native.Mathlib.Omega.{arith}
use borrow.Author.Tests.{le-leb, leb-false, lt-ltb}
use Rattle.octets.specs.Lists.{all}
use Rattle.octets.specs.Octets.{common}
use Rattle.octets.proofs.Lists.{all_append, all_take, at_all}
use Rattle.octets.proofs.Tests.{by_test}
use Rattle.entries.specs.Names.{is_plain, is_prefix, longest_name}
use Rattle.entries_laws.proofs.Signs.{plain-allowed, plain_whole}
use Rattle.book.specs.Records.{head_at}
use Rattle.book_laws.specs.Cursor.{Sound, Stepped, name_in}
use Rattle.book_laws.specs.declared.Cursor.{Cursor}
use Rattle.book_record_read.specs.RecordParts.{goes_above, record_part, tail_test}
use Rattle.std.specs.Prelude.{Some}
use Rattle.book_record_read.proofs.RecordParts.{Owned, part_own, tail_part_lem}
use Rattle.book_record_quick.specs.Quick.{HeaderAt}

module _
    (heads : Bool) (buf : List ℕ) (c : Cursor) (sound : Sound buf c) (total kept own : ℕ) (fits : total ≤ length buf)
    (h : HeaderAt buf c.at total c.name c.len kept own) (room : c.len ≤ length c.name)
    (no-head : head_at heads c.index ≡ false) (before : all is_plain (name_in c) ≡ true)
    (plain : all is_plain (take own (drop (c.at + 2) buf)) ≡ true)
  where
    abbrev s : List ℕ
    s = drop c.at buf

    abbrev rest : List ℕ
    rest = take own (drop (c.at + 2) buf)

    first : get_or s 0 0 ≡ kept
    first = get_or-drop c.at buf 0 0 ∙ ap (λ i. get_or buf i 0) (add-zero c.at) ∙ sym h.common

    second : get_or s 1 0 ≡ own
    second = get_or-drop c.at buf 1 0 ∙ sym h.count

    behind : take own (drop 2 s) ≡ rest
    behind = ap (take own) (drop-drop 2 c.at buf)

    long : length s ≡ length buf - c.at
    long = length-drop c.at buf

    long_name_lem : length (name_in c) ≡ c.len
    long_name_lem = length-take-le c.len c.name room

    rest_first : get_or rest 0 0 ≡ get_or buf (c.at + 2) 0
    rest_first =
        get_or-take own (drop (c.at + 2) buf) 0 0 (omega (arith, h.some)) ∙ get_or-drop (c.at + 2) buf 0 0
        ∙ ap (λ i. get_or buf i 0) (add-zero (c.at + 2))

    goes : goes_above (name_in c) kept (get_or rest 0 0) ≡ true
    unfolding goes_above
    goes =
        by_test (leb (length (name_in c)) kept)
        (λ t. rw t)
        (λ t.
        let l = leb-false (length (name_in c)) kept t in
        let e = get_or-take c.len c.name kept 0 (omega (arith, long_name_lem)) in
        rw (
          t,
          lt-ltb (get_or (name_in c) kept 0) (get_or rest 0 0) (omega (arith, e, rest_first, h.above)),
          plain_whole (get_or (name_in c) kept 0) (at_all is_plain 0 (name_in c) before kept l),
        ))

    rest_long : length rest ≡ own
    rest_long = length-take-le own (drop (c.at + 2) buf) (omega (arith, length-drop (c.at + 2) buf, h.inside))

    prefix : is_prefix rest ≡ true
    unfolding is_prefix
    prefix = rw (le-leb (length rest) longest_name (omega (arith, rest_long, h.short))) (plain-allowed rest plain)

    tests : tail_test (name_in c) s ≡ true
    unfolding tail_test
    tests =
        rw (
          first,
          second,
          behind,
          le-leb 2 (length s) (omega (arith, long, h.inside)),
          le-leb kept (length (name_in c)) (omega (arith, long_name_lem, h.within)),
          le-leb 1 own h.some,
          le-leb own (length s - 2) (omega (arith, long, h.inside)),
          le-leb (kept + own) longest_name h.short,
          prefix,
        )
        goes

    parts : record_part heads c.index (name_in c) s ≡ Some (record { kept = kept; start = 2; own = own })
    parts = sym (tail_part_lem heads c.index (name_in c) s no-head sound.allowed) ∙ rw (tests, first, second)

    owned : Owned heads c.index (name_in c) s kept 2 own
    owned = part_own heads c.index (name_in c) s (record { kept = kept; start = 2; own = own }) sound.allowed parts

    module _ (name : List ℕ) (holds : take (kept + own) name ≡ take kept c.name ++ rest) where
      named : take (kept + own) name ≡ take kept (name_in c) ++ take own (drop 2 s)
      named = rw (behind, take-take kept c.len c.name h.within) holds

      -- the step
      pub quick_step :
          Stepped heads buf c
          (record {
            ok = true;
            next = record {
              at = c.at + 2 + own;
              index = c.index + 1;
              name = name;
              len = kept + own;
            };
          })
      quick_step =
          record {
            ok = sym owned.is;
            next = λ t.
                record {
                  name = named ∙ sym owned.name;
                  at = omega (arith, owned.long);
                  index = refl;
                  small = h.short;
                  inside = omega (arith, h.inside);
                };
          }

      -- the name is bytes 20 to 7E again
      pub quick_plain : all is_plain (take (kept + own) name) ≡ true
      quick_plain =
          rw holds
          (all_append is_plain (take kept c.name) rest
          (rw (take-take kept c.len c.name h.within) at (all_take is_plain kept (name_in c) before)) plain)

      -- what it keeps of the name before is all that they share, and the rest follows
      pub quick_keeps : kept ≡ common (name_in c) (take (kept + own) name)
      quick_keeps = owned.shares no-head ∙ ap (common (name_in c)) (sym (named ∙ sym owned.name))

      pub quick_rest : rest ≡ drop kept (take (kept + own) name)
      quick_rest =
          rw holds (sym (drop_at (take kept c.name) rest kept
          (length-take-le kept c.name (omega (arith, h.within)))))
