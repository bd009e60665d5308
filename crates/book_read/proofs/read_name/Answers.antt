-- `book_read::read_name` meets its contract: the record's own bytes are copied behind the kept ones.
-- No loop, so no invariant.
use Prim.Native.Nat.{◌+◌, ◌≤◌, ℕ}
use mathlib.Core.Path.{◌≡◌}
use mathlib.Core.Bool.{Bool}
use mathlib.Core.List.{List}
use lib.ListN.{drop, length, length-drop}
use native.Mathlib.Omega.{arith}
use Rattle.octets.proofs.Stores.{part_bytes, to_end}
use Rattle.book_read.specs.Record.{Inside, parts_at}
use Rattle.book_laws.specs.declared.Parts.{Parts}
use Rattle.book_read.proofs.read_name.Goals as goal

whole : {heads : Bool} {s : List ℕ} {i m : ℕ} {p : Parts} → Inside heads s i m → p ≡ parts_at heads i s
    → p.start + p.own ≤ length s
whole h e = rw e h.whole

pub slice_bounds-s-count : goal.slice_bounds-s-count
slice_bounds-s-count c = omega (arith, c.requires.two, length-drop c.args.at c.args.book.now)

pub slice_bounds-s-start : goal.slice_bounds-s-start
slice_bounds-s-start c = omega (arith, c.requires.two, length-drop c.args.at c.args.book.now)

pub parts_at-p-requires : goal.parts_at-p-requires
parts_at-p-requires c = rw (to_end c.args.book.now c.args.at) c.requires.two

pub overflow_add-end : goal.overflow_add-end
overflow_add-end c =
    let told : c.parts_at-p.result ≡ parts_at c.args.heads c.args.index ((drop c.args.at c.args.book.now)) = rw (to_end c.args.book.now c.args.at) at c.parts_at-p.ensures in
    let inside : let p = c.parts_at-p.result in p.start + p.own ≤ length ((drop c.args.at c.args.book.now)) = whole c.requires told in
    omega (arith, inside, length-drop c.args.at c.args.book.now)

pub slice_bounds-copy-end : goal.slice_bounds-copy-end
slice_bounds-copy-end c =
    let told : c.parts_at-p.result ≡ parts_at c.args.heads c.args.index ((drop c.args.at c.args.book.now)) = rw (to_end c.args.book.now c.args.at) at c.parts_at-p.ensures in
    let inside : let p = c.parts_at-p.result in p.start + p.own ≤ length ((drop c.args.at c.args.book.now)) = whole c.requires told in
    rw (to_end c.args.book.now c.args.at) inside

pub returns : goal.returns
returns c =
    let told : c.parts_at-p.result ≡ parts_at c.args.heads c.args.index ((drop c.args.at c.args.book.now)) = rw (to_end c.args.book.now c.args.at) at c.parts_at-p.ensures in
    record {
      parts = told;
      bytes =
          rw (
            to_end c.args.book.now c.args.at,
            part_bytes (drop c.args.at c.args.book.now) c.parts_at-p.result.start c.parts_at-p.result.own,
          ) at c.copy.ensures;
    }
