-- Calls decline by their checks, and calls that write leave what they do not report to have written.
use Prim.Native.Nat.{◌*◌, ◌≤◌, ℕ}
use mathlib.Core.Path.{◌∙◌, ◌≡◌, ap, refl, sym}
use mathlib.Core.Logic.{inl, inr}
use mathlib.Core.Bool.{Bool, ◌||◌, false, not, true}
use mathlib.Core.List.{List, [], ◌++◌, ◌∷◌}
use lib.Dec.{ltb}
use lib.ListN.{drop, length}
use lib.Seq.{drop_at}
use native.Mathlib.Omega.{arith}
use borrow.Author.Tests.{ltb-false}
use Rattle.octets.specs.Lists.{◌∈◌}
use Rattle.octets.proofs.Coding.{overwrite-length}
use Rattle.octets.proofs.Lists.{in_append_right}
use Rattle.entries.specs.Completion.{completion}
use Rattle.entries.specs.Entries.{Entry, valid}
use Rattle.entries.proofs.Valid.{valid_of}
use Rattle.answer.specs.Answers.{Check, ◌when◌, entries_bytes, unless, writing, writing_image}
use Rattle.answer.proofs.Answers.{clear, given_is, refused-same}
use Rattle.answer.proofs.Calls.{given_clear, given_writes, refused_applies}
use Rattle.answer.proofs.Entries.{completion_fits}
use Rattle.book.specs.Book.{is_book}
use Rattle.book.specs.Checks.{book_checks, is_old}
use Rattle.completion.specs.Complete.{entry_room, offered_as}
use Rattle.promises.specs.Refusals.{Declines, Leaves, Offers, Writes, bad_k, bad_prefix, no_book, no_books, no_room}
use Rattle.promises.specs.Refusals.{old_book, old_books}
use Rattle.promises.proofs.Order.{first_given, in_order}

-- a call that gives the first of its checks that applies, which stand in order
pub declines : {A : Type 0} (cs : List Check) (a : A) → in_order cs ≡ true → Declines cs (unless cs a)
declines cs a o =
    record {
      first = λ n h. (refused_applies cs a n h, first_given cs a n o h);
      clear = λ x h. given_clear cs a x h;
    }

-- a call that writes bytes behind its checks, which see to it that they fit
leaves :
    {A : Type 0} (bytes : A → ℕ) (cs : List ℕ → List Check) (a : A) (image : List ℕ) → bytes a ≡ length image
    → ((dst : List ℕ) → in_order (cs dst) ≡ true)
    → ((dst : List ℕ) → ((c : Check) → c ∈ cs dst → c.applies ≡ false) → length image ≤ length dst)
    → Leaves bytes cs (λ dst. writing (cs dst) a image dst)
unfolding writing
leaves bytes cs a image e o fits =
    record {
      declines = λ dst. declines (cs dst) a (o dst);
      unchanged = λ dst n h. refused-same (cs dst) a image dst n h;
      behind = λ dst x h.
          let w = given_writes (cs dst) a x image dst h in
          let b : length image ≡ bytes x = sym e ∙ ap bytes (given_is (cs dst) a x h) in (
            ap (drop (bytes x)) w ∙ drop_at image (drop (length image) dst) (bytes x) b
                ∙ ap (λ i. drop i dst) b,
            ap length w ∙ overwrite-length dst image (fits dst (clear (cs dst) a x h)),
          );
    }

-- a call that writes an image, behind its own checks and that of room
pub writes :
    (cs : List Check) (es : List Entry) (image : List ℕ)
    → ((dst : List ℕ) → in_order (cs ++ (no_room dst image ∷ [])) ≡ true)
    → Writes (λ dst. cs ++ (no_room dst image ∷ [])) (writing_image cs es image)
unfolding writing_image
writes cs es image o =
    leaves (λ a. a.bytes) (λ dst. cs ++ (no_room dst image ∷ []))
    (record { entries = length es; bytes = length image })
    image
    refl
    o
    (λ dst ok.
    ltb-false (length dst) (length image)
    (ok (no_room dst image) (in_append_right (no_room dst image) cs (no_room dst image ∷ []) (inl refl))))

-- a test with none behind it
pub alone : (b : Bool) → (b || false) ≡ b
alone true = refl
alone false = refl

-- one that is given a book, or two: 10 and 1 come first
pub writes_from :
    (book : List ℕ) (cs : List Check) (es : List Entry) (image : List ℕ)
    → ((dst : List ℕ) → in_order (old_book book ∷ no_book book ∷ (cs ++ (no_room dst image ∷ []))) ≡ true)
    → Writes (λ dst. old_book book ∷ no_book book ∷ (cs ++ (no_room dst image ∷ [])))
    (writing_image (book_checks (book ∷ []) ++ cs) es image)
writes_from book cs es image o =
    rw (alone (is_old book), alone (not (is_book book))) (writes (old_book book ∷ no_book book ∷ cs) es image o)

pub writes_from_two :
    (first second : List ℕ) (cs : List Check) (es : List Entry) (image : List ℕ)
    → ((dst : List ℕ) → in_order (old_books first second ∷ no_books first second ∷ (cs ++ (no_room dst image ∷ []))) ≡ true)
    → Writes (λ dst. old_books first second ∷ no_books first second ∷ (cs ++ (no_room dst image ∷ [])))
    (writing_image (book_checks (first ∷ second ∷ []) ++ cs) es image)
writes_from_two first second cs es image o =
    rw (alone (is_old second), alone (not (is_book second)))
    (writes (old_books first second ∷ no_books first second ∷ cs) es image o)

-- a call that completes, behind the checks of its image; `short` says that a buffer is too short
pub offers :
    (cs : List Check) (short : List ℕ → Bool) (es : List Entry) (p : List ℕ) (k looks : ℕ) → valid es ≡ true
    → ((b : Bool) → in_order (cs ++ (bad_prefix p ∷ bad_k k ∷ 7 when b ∷ [])) ≡ true)
    → ((dst : List ℕ) → short dst ≡ false → ltb (length dst) (entry_room * k) ≡ false)
    → let checks : List ℕ → List Check = λ dst. cs ++ (bad_prefix p ∷ bad_k k ∷ 7 when short dst ∷ []) in
    Offers checks
    (λ dst. writing (checks dst) (offered_as (completion es p k) looks) (entries_bytes (completion es p k)) dst)
offers cs short es p k looks ok o room =
    leaves (λ a. a.bytes) (λ dst. cs ++ (bad_prefix p ∷ bad_k k ∷ 7 when short dst ∷ []))
    (offered_as (completion es p k) looks)
    (entries_bytes (completion es p k))
    refl
    (λ dst. o (short dst))
    (λ dst clear.
    let tail = bad_prefix p ∷ bad_k k ∷ 7 when short dst ∷ [] in
    let r =
    ltb-false (length dst) (entry_room * k)
    (room dst (clear (7 when short dst) (in_append_right (7 when short dst) cs tail (inr (inr (inl refl))))))
    in
    let f = completion_fits es p k (valid_of es ok).allowed in
    omega arith)
