-- The frame's stores, and what stands behind it.
use Prim.Native.Nat.{◌+◌, ℕ}
use mathlib.Core.Path.{◌∙◌, ◌≡◌}
use mathlib.Core.List.{List, [], ◌++◌, ◌∷◌}
use lib.ListN.{length}
use lib.Seq.{sets}
use native.Mathlib.Omega.{arith}
use Rattle.octets.specs.Octets.{be}
use Rattle.octets.proofs.Coding.{length-be}
use Rattle.octets.proofs.Stores.{sets-append}
use Rattle.frame.specs.Frame.{framed}
use Rattle.frame_code.specs.Stored.{put_frame}

-- with the body behind them, they are the image
pub frame_stores :
    (version : ℕ) (d body : List ℕ) (total n : ℕ) → total ≡ 7 + length body
    → sets (put_frame version total n d) 7 body ≡ sets d 0 (framed version n body)
unfolding framed put_frame
frame_stores version d body total n e =
    let x : 5 + length (be 2 n) ≡ 7 = omega (arith, length-be 2 n) in
    let y : 0 + length (version ∷ be 4 total) ≡ 5 = omega (arith, length-be 4 total) in
    (rw x at (sets-append (sets d 0 (version ∷ be 4 total)) (be 2 n) body 5))
    ∙ (rw y at (sets-append d (version ∷ be 4 total) (be 2 n ++ body) 0))
    ∙ rw e

-- one after the other
pub frame_put :
    (version total n : ℕ) (d : List ℕ) {d₁ d₂ d₃ : List ℕ} → d₁ ≡ sets d 0 (version ∷ []) → d₂ ≡ sets d₁ 1 (be 4 total)
    → d₃ ≡ sets d₂ 5 (be 2 n) → d₃ ≡ put_frame version total n d
unfolding put_frame
frame_put version total n d v t e = rw (e, t, v)
