-- A key that is accepted, and one that is refused.
use Prim.Native.Nat.{◌≤◌, min, ℕ}
use mathlib.Core.Path.{◌∙◌, ◌≡◌, sym}
use mathlib.Core.Bool.{false, true}
use mathlib.Core.List.{List}
use lib.Dec.{eqb, leb, ltb}
use lib.ListN.{length, take}
use lib.Seq.{take_all}
use native.Mathlib.Omega.{arith}
use borrow.Author.Tests.{eqb-true, leb-true, ltb-false, ltb-true}
use Rattle.octets.proofs.Tests.{and_true_both, by_test}
use Rattle.entries.specs.Names.{is_name, is_prefix, longest_name}
use Rattle.book.specs.Book.{in_book, is_book}
use Rattle.book.proofs.Checks.{read_not_old}
use Rattle.panel.specs.declared.Panel.{Panel}
use Rattle.panel.specs.Panel.{held_in, is_held, is_listed, is_typed, press, typed_in}
use Rattle.panel_typing.specs.Typing.{is_full}
use Rattle.std.specs.Prelude.{Err, Ok}
use Rattle.answer.specs.declared.Refusal.{Refusal}
use Rattle.answer.specs.declared.Refusal.TheVariants as refusal
use Rattle.book_check.specs.Checked.{Declined}
use Rattle.book_check.proofs.Refusing.{refused_first}
use Rattle.panel_keys.specs.Keys.{Ready, SteppedAs}
use Rattle.panel_keys.proofs.Acts.{after}

-- an allowed text is not over 48 bytes, nor is a held name
typed_short : (p : Panel) → is_typed p ≡ true → p.len ≤ longest_name
typed_short p h = leb-true p.len longest_name (and_true_both _ (is_prefix (typed_in p)) h).0

held_short_lem : (p : Panel) → is_held p ≡ true → p.held_len ≤ longest_name
held_short_lem p h =
    by_test (eqb p.held_len 0)
    (λ t. let e : p.held_len ≡ 0 = eqb-true p.held_len 0 t in omega arith)
    (λ t.
    leb-true p.held_len longest_name
    (and_true_both (leb p.held_len longest_name) (is_name (held_in p)) (rw t at h)).0)

-- the text is sought before its length is checked: at most 48 bytes of it, and so all that there is
pub text-front : (len : ℕ) (text : List ℕ) → length text ≡ longest_name → {k : ℕ} → k ≡ min len longest_name
    → take k text ≡ take len text
text-front len text l {k} e =
    by_test (ltb len longest_name)
    (λ t. let a = ltb-true len longest_name t in let z : k ≡ len = omega arith in rw z)
    (λ t.
    let a = ltb-false len longest_name t in
    take_all k text (omega arith) ∙ sym (take_all len text (omega arith)))

-- so a panel that is not refused is ready for a key
pub ready : (p : Panel) (key : ℕ) → is_typed p ≡ true → is_held p ≡ true → is_full p.len key ≡ false → Ready p key
ready p key t h f = record { short = typed_short p t; held_short = held_short_lem p h; room = f }

-- a key that no check refuses
pub accepted :
    (book : List ℕ) (p : Panel) {new : Panel} (key : ℕ) → is_book book ≡ true → is_typed p ≡ true → is_held p ≡ true
    → is_listed key ≡ true → is_full p.len key ≡ false → new ≡ after (in_book book) p key
    → SteppedAs (press book p key) (Ok new)
unfolding press
accepted book p key b t h l f e =
    let o = read_not_old book b in (rw (o, b, t, h, l, f, e), rw (o, b, t, h, l, f, e))

-- what a key is refused for, in the table's order
module _ (book : List ℕ) (p : Panel) (key : ℕ) where
  pub for_the_book : {r : Refusal} → Declined book r → SteppedAs (press book p key) (Err r)
  unfolding press
  for_the_book d = rw (refused_first d _ _)

  module _ (b : is_book book ≡ true) where
    pub not_typed : is_typed p ≡ false → SteppedAs (press book p key) (Err refusal.NotAllowed)
    unfolding press
    not_typed t = rw (read_not_old book b, b, t)

    module _ (t : is_typed p ≡ true) where
      pub not_held : is_held p ≡ false → SteppedAs (press book p key) (Err refusal.NotAllowed)
      unfolding press
      not_held h = rw (read_not_old book b, b, t, h)

      module _ (h : is_held p ≡ true) where
        pub not_listed : is_listed key ≡ false → SteppedAs (press book p key) (Err refusal.NoSuchKey)
        unfolding press
        not_listed l = rw (read_not_old book b, b, t, h, l)

        pub full : is_listed key ≡ true → is_full p.len key ≡ true
            → SteppedAs (press book p key) (Err refusal.TextFull)
        unfolding press
        full l f = rw (read_not_old book b, b, t, h, l, f)
