-- Calls by their checks: the number of a refusal, and the destination after an answer.
use Prim.Native.Nat.{ℕ}
use mathlib.Core.Path.{◌≡◌, refl, sym}
use mathlib.Core.Logic.{inl}
use mathlib.Core.List.{List, [], ◌∷◌}
use native.Mathlib.Omega.{arith}
use Rattle.octets.specs.Lists.{◌∈◌}
use Rattle.octets.specs.Octets.{overwrite}
use Rattle.octets.proofs.Tests.{by_test}
use Rattle.answer.specs.Answers.{Answer, Check, applying, given, refused, unless, writing}

given_refused : {A : Type 0} {G : Type 0} (a : A) (n : ℕ) → given a ≡ refused n → G
given_refused {A} a n h =
    let z : ◌≡◌ {A = Answer A} (given a) (refused n) = h in
    let y : ◌≡◌ {A = ℕ} 0 1 = cc in
    absurd (omega arith)

-- a refusal's number is that of a check that applies
pub refused_applies : {A : Type 0} (cs : List Check) (a : A) (n : ℕ) → unless cs a ≡ refused n → n ∈ applying cs
refused_applies [] a n h = given_refused a n h
refused_applies {A} (c ∷ cs) a n h =
    by_test c.applies
    (λ t. let z : ◌≡◌ {A = Answer A} (refused c.number) (refused n) = rw t at h in rw t (inl cc))
    (λ t. rw t (refused_applies cs a n (rw t at h)))

-- an answer is given where none applies
pub given_clear : {A : Type 0} (cs : List Check) (a x : A) → unless cs a ≡ given x → applying cs ≡ []
given_clear [] a x h = refl
given_clear {A} (c ∷ cs) a x h =
    by_test c.applies
    (λ t. let z : ◌≡◌ {A = Answer A} (refused c.number) (given x) = rw t at h in given_refused x c.number (sym z))
    (λ t. rw t (given_clear cs a x (rw t at h)))

-- an answer leaves the bytes at the front of the destination
pub given_writes :
    {A : Type 0} (cs : List Check) (a x : A) (bytes dst : List ℕ) → (writing cs a bytes dst).answer ≡ given x
    → (writing cs a bytes dst).dest ≡ overwrite dst bytes
unfolding writing
given_writes cs a x bytes dst h = rw h
