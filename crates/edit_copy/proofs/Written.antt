-- The copies make the image of an edit's result whole.
use Prim.Native.Nat.{◌*◌, ◌+◌, ◌≤◌, ℕ}
use mathlib.Core.Path.{◌∙◌, ◌≡◌, ap, refl, subst, sym}
use mathlib.Core.Logic.{inl}
use mathlib.Core.Bool.{false, false≢true, true}
use mathlib.Core.List.{List, [], ◌++◌, ◌∷◌}
use lib.ListN.{drop, length, take}
use lib.Seq.{length-sets, sets, take_all, take-length}
use native.Mathlib.Omega.{arith}
use Rattle.octets.specs.Lists.{all, ceil}
use Rattle.octets.specs.Octets.{be, begins, overwrite}
use Rattle.octets.proofs.Coding.{length-be}
use Rattle.octets.proofs.Numbers.{fields_each}
use Rattle.octets.proofs.Stores.{sets-append, sets_behind, sets-stands, stays}
use Rattle.octets.proofs.Tests.{and_true_both}
use Rattle.entries.specs.Entries.{Entry, at, names, no_entry, valid}
use Rattle.entries.specs.Names.{is_name, longest_name}
use Rattle.entries.proofs.Valid.{length-names, name_length, valid_of}
use Rattle.book.specs.Records.{last_or, records}
use Rattle.book.specs.declared.Layout.{Layout}
use Rattle.book.specs.Book.{block_size, image_in, records_at, scores}
use Rattle.book.proofs.Reading.{length-scores}
use Rattle.book.proofs.Splices.{image_off, records-at_off}
use Rattle.book_laws.specs.Ahead.{name_before, record_at_in}
use Rattle.book_laws.specs.Check.{score_start}
use Rattle.book_laws.specs.declared.Cursor.{Cursor}
use Rattle.book_write.specs.Writing.{finished}
use Rattle.book_write.proofs.Partial.{Partial}
use Rattle.book_write.proofs.Whole.{finished_whole}
use Rattle.edit_copy.specs.Copies.{after}

-- the last name is no longer than a name may be
last_short :
    (p : List ℕ) (es : List Entry) → length p ≤ longest_name → all (λ e. is_name e.name) es ≡ true
    → length (last_or p (names es)) ≤ longest_name
last_short p [] h v = h
last_short p (e ∷ es) h v =
    let a = and_true_both (is_name e.name) (all (λ f. is_name f.name) es) v in
    last_short e.name es (name_length e.name a.0) a.1

-- a book without heads once its scores and its records are stored
module _ (l : Layout) (off : l.heads ≡ false) (es : List Entry) (ok : valid es ≡ true) (d₀ : List ℕ)
    (room : length (image_in l es) ≤ length d₀) where
  abbrev R : ℕ
  R = records_at l (length es)

  abbrev rs : List ℕ
  rs = after [] (names es)

  abbrev d₁ : List ℕ
  d₁ = sets d₀ 7 (scores es)

  abbrev d₂ : List ℕ
  d₂ = sets d₁ R rs

  image_long : length (image_in l es) ≡ R + length rs
  image_long = image_off l off es

  records_start : R ≡ 7 + 4 * length es + 2 * ceil (length es) block_size
  records_start = records-at_off l off (length es)

  score_room : 7 + length (scores es) ≤ length d₀
  score_room = let a = length-scores es in let b = image_long in let c = records_start in omega arith

  long₁ : length d₁ ≡ length d₀
  long₁ = length-sets d₀ 7 (scores es)

  record_room : R + length rs ≤ length d₁
  record_room = let b = image_long in let c = long₁ in omega arith

  whole_names : take (length es) (names es) ≡ names es
  whole_names = let n = length-names es in take_all (length es) (names es) (omega arith)

  -- the cursor behind the last entry
  abbrev last : List ℕ
  last = name_before es (length es)

  abbrev behind : Cursor
  behind = record { at = record_at_in l es (length es); index = length es; name = last; len = length last }

  all_put : Partial l es d₀ behind d₂
  unfolding scores
  all_put =
      let a = length-scores es in
      let b = image_long in
      let c = records_start in
      let e = long₁ in
      let f = length-sets d₁ R rs in
      record {
        fits = omega arith;
        same_length = f ∙ e;
        untouched = sets_behind d₁ rs R record_room (length (image_in l es)) (omega arith)
            ∙ sets_behind d₀ (scores es) 7 score_room (length (image_in l es)) (omega arith);
        index = omega arith;
        start = refl;
        name = take-length last;
        small = subst (λ (ws : List (List ℕ)). length (last_or [] ws) ≤ longest_name) (sym whole_names)
            (last_short [] es (omega arith) (valid_of es ok).allowed);
        scored = λ k m.
            stays d₁ rs R record_room (be 4 (at es k).score) (score_start k) (inl (rw length-be (omega arith)))
            (fields_each 4 (λ (f : Entry). f.score) no_entry es d₁ 7 (sets-stands d₀ (scores es) 7 score_room) k m);
        bucketed = λ on j m. absurd (false≢true (sym off ∙ on));
        recorded = subst (λ (r : List ℕ). begins r (drop R d₂) ≡ true)
            (ap (λ ws. records false 0 [] ws) (sym whole_names)
            ∙ ap (λ h. records h 0 [] (take (length es) (names es))) (sym off))
            (sets-stands d₁ rs R record_room);
      }

  pub stored_whole : finished l (length (image_in l es)) (length es) d₂ ≡ overwrite d₀ (image_in l es)
  stored_whole = finished_whole l es ok d₀ behind d₂ all_put refl

-- the runs of the records, one stored behind the other
pub runs_stored :
    (d front own bs : List ℕ) (new start at : ℕ) {d₁ d₂ d₃ : List ℕ} → start ≡ new + length front
    → at ≡ new + length front + length own
    → d₁ ≡ sets d new front → d₂ ≡ sets d₁ start own → d₃ ≡ sets d₂ at bs → d₃ ≡ sets d new (front ++ (own ++ bs))
runs_stored d front own bs new start at {d₁} {d₂} es ea e₁ e₂ e₃ =
    e₃
    ∙ ap (λ k. sets d₂ k bs) ea
    ∙ ap (λ x. sets x (new + length front + length own) bs)
    (e₂ ∙ ap (λ k. sets d₁ k own) es ∙ ap (λ x. sets x (new + length front) own) e₁)
    ∙ sets-append (sets d new front) own bs (new + length front)
    ∙ sets-append d front (own ++ bs) new
