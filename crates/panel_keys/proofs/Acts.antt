-- What a key does, by its kind: it changes the text, takes a name, or moves the highlight.
use Prim.Native.Nat.{◌-◌, ◌≤◌, min, ℕ}
use mathlib.Core.Path.{◌∙◌, ◌≡◌, ap, sym}
use mathlib.Core.Bool.{◌&&◌, false, not, true}
use mathlib.Core.List.{List}
use lib.Dec.{eqb}
use lib.ListN.{length}
use native.Mathlib.Omega.{arith}
use borrow.Author.Tests.{eqb-true, not-false, not-true}
use Rattle.octets.proofs.Tests.{and_true_both, by_test, or_false}
use Rattle.entries.specs.Entries.{Entry}
use Rattle.completion_turn.specs.declared.Progress.{Progress}
use Rattle.panel.specs.declared.Panel.{Panel}
use Rattle.panel.specs.Panel.{acts, appends, held_in, highlighted, lower_to, lowered, offered_for, on_held, panel_of}
use Rattle.panel.specs.Panel.{row_with, typed_in, typing, typing_after}
use Rattle.panel.proofs.Highlight.{start_on}
use Rattle.panel_typing.specs.Typing.{changed_text, changes_text, moved_row, takes}
use Rattle.panel_rows.specs.Rows.{Rows}

module _ (es : List Entry) (p : Panel) (key : ℕ) where
  abbrev offered : List Entry
  offered = offered_for es (typed_in p)

  -- the row to start from, one of those offered
  abbrev pub row : ℕ
  row = row_with (held_in p) offered (lower_to offered p.highlight)

  pub row_on : row ≤ length offered - 1
  row_on = start_on (held_in p) offered p.highlight

  abbrev pub after : Panel
  after = panel_of es (typing_after es p key)

  -- a key that leads to one of the rows, which need not be lowered
  leads_to : (w : List ℕ) (i : ℕ) → acts es key (typing (typed_in p) row) ≡ typing w i
      → i ≤ length (offered_for es w) - 1 → panel_of es (typing w i) ≡ after
  unfolding on_held lowered
  leads_to w i e h = let z : min i (length (offered_for es w) - 1) ≡ i = omega arith in rw (e, z)

  changes_text_lem : length (typed_in p) ≡ p.len → changes_text p.len key ≡ true
      → acts es key (typing (typed_in p) row) ≡ typing (changed_text key (typed_in p)) 0
  unfolding acts
  changes_text_lem l e =
      by_test (appends key)
      (λ t. rw t)
      (λ t.
      let s = and_true_both (eqb key 8) (not (eqb p.len 0)) (rw t at e) in
      rw (t, s.0, l, not-true (eqb p.len 0) s.1))

  takes_name : takes key (length offered) ≡ true
      → acts es key (typing (typed_in p) row) ≡ typing (highlighted es (typing (typed_in p) row)) 0
  unfolding acts
  takes_name e =
      let s = and_true_both (eqb key 13) (not (eqb (length offered) 0)) e in
      rw (eqb-true key 13 s.0, not-true (eqb (length offered) 0) s.1)

  moves : length (typed_in p) ≡ p.len → changes_text p.len key ≡ false → takes key (length offered) ≡ false
      → acts es key (typing (typed_in p) row) ≡ typing (typed_in p) (moved_row key row (length offered))
  unfolding acts
  moves l e t =
      let a = or_false (appends key) (eqb key 8 && not (eqb p.len 0)) e in
      by_test (eqb key 8)
      (λ erase.
      let none : eqb p.len 0 ≡ true = not-false (eqb p.len 0) (rw erase at a.1) in
      rw (eqb-true key 8 erase, l, none))
      (λ erase.
      by_test (eqb key 13)
      (λ take.
      let none : eqb (length offered) 0 ≡ true = not-false (eqb (length offered) 0) (rw take at t) in
      rw (eqb-true key 13 take, none))
      (λ take.
      by_test (eqb key 1)
      (λ up. rw (a.0, erase, up))
      (λ up. by_test (eqb key 2) (λ down. rw (a.0, erase, up, down)) (λ down. rw (a.0, erase, up, down, take)))))

  pub changed : length (typed_in p) ≡ p.len → changes_text p.len key ≡ true
      → panel_of es (typing (changed_text key (typed_in p)) 0) ≡ after
  changed l e = leads_to (changed_text key (typed_in p)) 0 (changes_text_lem l e) (omega arith)

  pub taken : takes key (length offered) ≡ true
      → panel_of es (typing (highlighted es (typing (typed_in p) row)) 0) ≡ after
  taken e = leads_to (highlighted es (typing (typed_in p) row)) 0 (takes_name e) (omega arith)

  pub moved : {i : ℕ} → i ≡ moved_row key row (length offered) → i ≤ length offered - 1
      → length (typed_in p) ≡ p.len → changes_text p.len key ≡ false → takes key (length offered) ≡ false
      → panel_of es (typing (typed_in p) i) ≡ after
  moved {i} m h l e t = leads_to (typed_in p) i (moves l e t ∙ ap (typing (typed_in p)) (sym m)) h

-- the rows before the key acts, and the row i that has the held name
pub record OnRows (es : List Entry) (p : Panel) (key : ℕ) (s : Progress) (i : ℕ) : Type 0 where
  pub rows : Rows es (typed_in p) s
  pub here : i ≡ row es p key
  pub on : i ≤ s.count - 1
  pub taking : takes key (length (offered_for es (typed_in p))) ≡ takes key s.count

pub on_rows :
    (es : List Entry) (p : Panel) (key : ℕ) {s : Progress} → Rows es (typed_in p) s → {lowered i : ℕ}
    → lowered ≡ min p.highlight (s.count - 1) → i ≡ row_with (held_in p) (offered_for es (typed_in p)) lowered
    → OnRows es p key s i
on_rows es p key a l h =
    let here = h ∙ ap (row_with (held_in p) (offered_for es (typed_in p)))
    (l ∙ ap (λ n. min p.highlight (n - 1)) a.count) in
    record {
      rows = a;
      here = here;
      on = omega (arith, here, a.count, row_on es p key);
      taking = ap (takes key) (sym a.count);
    }
