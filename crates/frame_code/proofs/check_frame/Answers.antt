-- `frame_code::check_frame` meets its contract: each return gives the test that failed, or all of them.
-- No loop, so no invariant.
use native.Mathlib.Omega.{arith}
use Rattle.frame_laws.proofs.Test.{frame_cut, frame_many, frame_other, frame_short}
use Rattle.frame_code.proofs.Checked.{frame_none, frame_some}
use Rattle.frame_code.proofs.check_frame.Goals as goal

pub returns-then-buf-lt-FRAME_LENGTH : goal.returns-then-buf-lt-FRAME_LENGTH
returns-then-buf-lt-FRAME_LENGTH c = frame_none _ _ (frame_short _ _ c.if-buf-lt-FRAME_LENGTH.true)

pub returns-then-buf-version : goal.returns-then-buf-version
returns-then-buf-version c = frame_none _ _ (frame_other _ _ c.if-buf-version.true)

pub returns-then-entries-gt-MAX_ENTRIES : goal.returns-then-entries-gt-MAX_ENTRIES
returns-then-entries-gt-MAX_ENTRIES c =
    frame_none _ _ (frame_many _ _ (omega (arith, c.read_u16-entries.ensures)))

pub returns-then-buf-total : goal.returns-then-buf-total
returns-then-buf-total c = frame_none _ _ (frame_cut _ _ (omega (arith, c.read_u32-total.ensures)))

pub returns : goal.returns
returns c =
    frame_some _ _ c.read_u16-entries.ensures c.read_u32-total.ensures
    (record {
      long = omega arith;
      version = c.if-buf-version.false;
      few = omega (arith, c.read_u16-entries.ensures);
      fits = omega (arith, c.read_u32-total.ensures);
    })
