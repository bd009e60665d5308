-- Answers: where one is given no check applies, and a refusal changes nothing.
use Prim.Native.Nat.{ℕ}
use Rattle.std.specs.Prelude.{Result}
use mathlib.Core.Path.{◌∙◌, ◌≡◌, ap, refl, sym}
use mathlib.Core.Logic.{inl, inr}
use mathlib.Core.Bool.{false}
use mathlib.Core.List.{List, [], ◌++◌, ◌∷◌, append_assoc}
use Rattle.octets.specs.Lists.{◌∈◌}
use Rattle.octets.proofs.Tests.{by_test}
use Rattle.entries.specs.Entries.{Entry}
use Rattle.answer.specs.Answers.{Answer, Check, Outcome, WrittenCounts, ◌when◌, given, refused, too_short, unless}
use Rattle.answer.specs.Answers.{writing, writing_image}
use Rattle.answer.specs.Reports.{Answered}
use Rattle.answer.specs.declared.Refusal.{Refusal}
use Rattle.answer.specs.declared.Size.{Size}

-- where an answer is given, no check applies
pub clear : {A : Type 0} (cs : List Check) (a x : A) → unless cs a ≡ given x → (c : Check) → c ∈ cs → c.applies ≡ false
clear [] a x h c m = absurd m
clear (d ∷ cs) a x h c m =
    by_test d.applies
    (λ t. let z : ◌≡◌ {A = Answer _} (refused d.number) (given x) = rw t at h in cc)
    (λ t. go t (clear cs a x (rw t at h) c) m)
  where
    go : d.applies ≡ false → (c ∈ cs → c.applies ≡ false) → c ∈ (d ∷ cs) → c.applies ≡ false
    go t ih (inl q) = rw q t
    go t ih (inr n) = ih n

-- and what is given is the answer
pub given_is : {A : Type 0} (cs : List Check) (a x : A) → unless cs a ≡ given x → a ≡ x
given_is [] a x h = cc
given_is (d ∷ cs) a x h =
    by_test d.applies
    (λ t. let z : ◌≡◌ {A = Answer _} (refused d.number) (given x) = rw t at h in cc)
    (λ t. given_is cs a x (rw t at h))

-- a refusal leaves the destination as it was
pub refused-same :
    {A : Type 0} (cs : List Check) (a : A) (bytes dst : List ℕ) (n : ℕ) → (writing cs a bytes dst).answer ≡ refused n
    → (writing cs a bytes dst).dest ≡ dst
unfolding writing
refused-same cs a bytes dst n h = rw h

-- an outcome in another's place
pub answered_as : {o p : Outcome WrittenCounts} {r : Result Size Refusal} {left : List ℕ} → o ≡ p → Answered p r left
    → Answered o r left
answered_as {o} {p} {r} {left} e a = record {
  answer = a.answer ∙ ap (λ x. x.answer) (sym e);
  left = a.left
      ∙ ap (λ x. x.dest) (sym e);
}

-- a refusal, with the destination as it was
abbrev pub declined : {A : Type 0} → ℕ → List ℕ → Outcome A
declined n dst = record { answer = refused n; dest = dst }

-- Checks in front of others: where one of them applies, nothing behind them matters; where none does, they can be left
-- out.
pub unless-refused :
    {A B : Type 0} (front : List Check) (b : B) (n : ℕ) → unless front b ≡ refused n → (ds : List Check) (a : A)
    → unless (front ++ ds) a ≡ refused n
unless-refused [] b n h ds a = let z : ◌≡◌ {A = Answer _} (given b) (refused n) = h in cc
unless-refused {A} {B} (c ∷ front) b n h ds a =
    by_test c.applies
    (λ t. let z : ◌≡◌ {A = Answer B} (refused c.number) (refused n) = rw t at h in rw t cc)
    (λ t. rw t (unless-refused front b n (rw t at h) ds a))

pub unless_clear :
    {A B : Type 0} (front : List Check) (b x : B) → unless front b ≡ given x → (ds : List Check) (a : A)
    → unless (front ++ ds) a ≡ unless ds a
unless_clear [] b x h ds a = refl
unless_clear {A} {B} (c ∷ front) b x h ds a =
    by_test c.applies
    (λ t. let z : ◌≡◌ {A = Answer B} (refused c.number) (given x) = rw t at h in cc)
    (λ t. rw t (unless_clear front b x (rw t at h) ds a))

-- the same of what a call writes
module _ {B : Type 0} (front : List Check) (b : B) (ds : List Check) where
  pub writing-refused :
      (n : ℕ) → unless front b ≡ refused n → {A : Type 0} (a : A) (bytes dst : List ℕ)
      → writing (front ++ ds) a bytes dst ≡ declined n dst
  unfolding writing
  writing-refused n h a bytes dst = rw (unless-refused front b n h ds a)

-- and of an image that a call writes
module _ {B : Type 0} (front : List Check) (b : B) (ds : List Check) (es : List Entry) (image dst : List ℕ) where
  abbrev behind : List Check
  behind = ds ++ (7 when too_short dst image ∷ [])

  pub image_refused :
      (n : ℕ) → unless front b ≡ refused n → writing_image (front ++ ds) es image dst ≡ declined n dst
  unfolding writing_image
  image_refused n h =
      rw (append_assoc front ds (7 when too_short dst image ∷ [])) (writing-refused front b behind n h _ image dst)
