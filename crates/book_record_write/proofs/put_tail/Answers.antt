-- `book_record_write::put_tail` meets its contract: two stores and the copy leave the bytes of a record that is no
-- head. No loop, so no invariant.
use Prim.Native.Nat.{◌≤◌}
use mathlib.Core.Path.{◌∙◌}
use lib.ListN.{length, length-set}
use native.Mathlib.Omega.{arith}
use Rattle.octets.proofs.Coding.{common_le}
use Rattle.book_record_write.proofs.Writing.{rest_length, tail_length, tail_stores}
use Rattle.book_record_write.proofs.put_tail.Goals as goal
use Rattle.book_record_write.proofs.put_tail.Goals.{After-common_prefix-kept}

kept_within :
    (c : After-common_prefix-kept) → c.common_prefix-kept.result ≤ length c.args.name.now
kept_within c =
    let a = c.args in
    omega (arith, c.common_prefix-kept.ensures, common_le a.prev.now a.name.now)

pub slice_bounds-rest-count : goal.slice_bounds-rest-count
slice_bounds-rest-count c =
    let within = kept_within (goal.at.slice_bounds-rest-count c).After-common_prefix-kept in
    within

pub slice_bounds-rest-start : goal.slice_bounds-rest-start
slice_bounds-rest-start c =
    let within = kept_within (goal.at.slice_bounds-rest-start c).After-common_prefix-kept in
    within

pub overflow_cast-dst : goal.overflow_cast-dst
overflow_cast-dst c =
    let within = kept_within (goal.at.overflow_cast-dst c).After-common_prefix-kept in
    omega (arith, within)

pub bounds-dst-at-2 : goal.bounds-dst-at-2
bounds-dst-at-2 c = simp length-set (omega (arith, c.requires.fits))

pub shape_of-dst : goal.shape_of-dst
shape_of-dst c = c.copy.auto.dst ∙ simp length-set

pub returns : goal.returns
returns c =
    let a = c.args in
    let k = c.common_prefix-kept.result in
    record {
      bytes =
          c.copy.ensures
          ∙ tail_stores a.dst.now a.prev.now a.name.now a.at k c.common_prefix-kept.ensures;
      end =
          omega (
            arith,
            c.common_prefix-kept.ensures,
            rest_length a.name.now k,
            tail_length a.prev.now a.name.now,
          );
    }
