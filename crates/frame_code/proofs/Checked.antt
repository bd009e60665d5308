-- The answer of a check, for any format with the common frame: none where a test fails, the number of entries where
-- none does.
use Prim.Native.Nat.{◌≤◌, ℕ}
use mathlib.Core.Path.{◌∙◌, ◌≡◌, ap, refl, sym}
use mathlib.Core.Bool.{Bool, ◌&&◌, false, false≢true, true}
use mathlib.Core.List.{List}
use mathlib.Core.Option as maybe
use Rattle.std.specs.Prelude.{None, Option, Some}
use lib.Dec.{eqb}
use lib.ListN.{length}
use native.Mathlib.Omega.{arith}
use borrow.Author.Tests.{ne_eqb}
use Rattle.octets.specs.Octets.{number_at}
use Rattle.octets.proofs.Numbers.{Bytes}
use Rattle.octets.proofs.Tests.{by_test}
use Rattle.entries.specs.Entries.{Entry, max_entries}
use Rattle.frame.specs.Frame.{is_read}
use Rattle.frame_laws.specs.Test.{ends_at, frame_is}
use Rattle.frame_laws.proofs.Test.{FrameTests, frame_passes, frame_tests}
use Rattle.frame_code.specs.Image.{ended_as, frame_as, image_as}
use Rattle.frame_code.specs.declared.Frame.{Frame}

-- A format with this frame: the frame's tests and its body's accept exactly what is read, and bytes 5 and 6 say how
-- many entries.
pub record Checkable (v : ℕ) (body : List ℕ → Bool) (read : List ℕ → maybe.Option (List Entry)) : Type 0 where
  pub exact : (buf : List ℕ) → Bytes buf → (frame_is v buf && body buf) ≡ is_read (read buf)
  pub count : (buf : List ℕ) (es : List Entry) → read buf ≡ maybe.some es → number_at 2 buf 5 ≡ length es

-- what is known where the frame has passed
pub record Framed (v : ℕ) (buf : List ℕ) (n total : ℕ) : Type 0 where
  pub passed : frame_is v buf ≡ true
  pub count : n ≡ number_at 2 buf 5
  pub whole : total ≡ number_at 4 buf 1
  pub long : 7 ≤ length buf
  pub few : n ≤ max_entries

-- the answer of `check_frame`
pub frame_none : (v : ℕ) (buf : List ℕ) → frame_is v buf ≡ false → None ≡ frame_as v buf
frame_none v buf h = rw h

pub frame_some :
    (v : ℕ) (buf : List ℕ) {n total : ℕ} → n ≡ number_at 2 buf 5 → total ≡ number_at 4 buf 1 → FrameTests v buf
    → Some (record { entries = n; total = total }) ≡ frame_as v buf
frame_some v buf e f t = rw (frame_passes v buf t, e, f)

-- of the answer r: first what `check_frame` ensures of it, then what the match says
module _ (v : ℕ) (buf : List ℕ) {r : Option Frame} (e : r ≡ frame_as v buf) where
  pub frame_held : {f : Frame} → r ≡ Some f → Framed v buf f.entries f.total
  frame_held {f} m =
      by_test (frame_is v buf)
      (λ t.
      let q : Some f ≡ Some (record { entries = number_at 2 buf 5; total = number_at 4 buf 1 }) = sym m ∙ (rw t at e) in
      let c : f.entries ≡ number_at 2 buf 5 = cc in
      let p = frame_tests v buf t in
      record { passed = t; count = c; whole = cc; long = p.long; few = omega (arith, c, p.few) })
      (λ t.
      let q : Some f ≡ None = sym m ∙ (rw t at e) in
      let z : ◌≡◌ {A = ℕ} 0 1 = cc in
      absurd (omega arith))

  frame_failed : r ≡ None → frame_is v buf ≡ false
  frame_failed m =
      by_test (frame_is v buf)
      (λ t.
      let q : None ≡ Some (record { entries = number_at 2 buf 5; total = number_at 4 buf 1 }) = sym m ∙ (rw t at e) in
      let z : ◌≡◌ {A = ℕ} 0 1 = cc in
      absurd (omega arith))
      (λ t. t)

-- what the walk's answer e says
told_none : (total : ℕ) (o : maybe.Option ℕ) {e : Option ℕ} → e ≡ ended_as o → e ≡ None → ends_at total o ≡ false
told_none total maybe.none a m = refl
told_none total (maybe.some x) a m = let z : ◌≡◌ {A = ℕ} 0 1 = cc in absurd (omega arith)

pub told_end : (total : ℕ) (o : maybe.Option ℕ) {e : Option ℕ} {end : ℕ} → e ≡ ended_as o → e ≡ Some end
    → ends_at total o ≡ eqb end total
told_end total maybe.none a m = let z : ◌≡◌ {A = ℕ} 0 1 = cc in absurd (omega arith)
told_end total (maybe.some x) {end = end} a m = let z : x ≡ end = cc in rw z

module _
    {v : ℕ} {body : List ℕ → Bool} {read : List ℕ → maybe.Option (List Entry)} (format : Checkable v body read)
    (buf : List ℕ) (b : Bytes buf)
  where
    refused : (frame_is v buf && body buf) ≡ false → None ≡ image_as (read buf)
    refused h = unread (read buf) (sym (format.exact buf b) ∙ h)
      where
        unread : (o : maybe.Option (List Entry)) → is_read o ≡ false → None ≡ image_as o
        unread maybe.none t = refl
        unread (maybe.some es) t = absurd (false≢true (sym t))

    -- no frame
    pub no_frame : {r : Option Frame} → r ≡ frame_as v buf → r ≡ None → None ≡ image_as (read buf)
    no_frame e m = refused (rw (frame_failed v buf e m))

    -- a frame, and what the body's tests say
    module _ {n total : ℕ} (f : Framed v buf n total) where
      pub body_failed : body buf ≡ false → None ≡ image_as (read buf)
      body_failed h = refused (rw f.passed h)

      pub accepted : body buf ≡ true → Some n ≡ image_as (read buf)
      accepted h = rw f.count (counted (read buf) refl (sym (format.exact buf b) ∙ rw f.passed h))
        where
          counted : (o : maybe.Option (List Entry)) → read buf ≡ o → is_read o ≡ true
              → Some (number_at 2 buf 5) ≡ image_as o
          counted maybe.none r t = absurd (false≢true t)
          counted (maybe.some es) r t = ap Some (format.count buf es r)

      -- a body that must end at the total length: the answer e of the walk that looks for its end
      module _
          (walk : maybe.Option ℕ) (must : ends_at total walk ≡ false
          → body buf ≡ false) {e : Option ℕ} (a : e ≡ ended_as walk)
        where
          pub no_end_lem : e ≡ None → None ≡ image_as (read buf)
          no_end_lem m = body_failed (must (told_none total walk a m))

          pub other_end : {end : ℕ} → e ≡ Some end → (end ≡ total → ⊥) → None ≡ image_as (read buf)
          other_end {end} m d = body_failed (must (told_end total walk a m ∙ ne_eqb end total d))
