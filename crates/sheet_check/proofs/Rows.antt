-- The walk over a sheet's entries finds them as they would be written exactly when it comes to an end.
use Prim.Native.Nat.{◌+◌, ◌^◌, ◌≤◌, suc, zero, ℕ}
use mathlib.Core.Path.{◌∙◌, ◌≡◌, ap, refl, subst, sym}
use mathlib.Core.Bool.{◌&&◌, false≢true, true}
use mathlib.Core.List.{List, [], ◌++◌, ◌∷◌}
use mathlib.Core.Option.{Option, none, some}
use lib.Dec.{eqb, leb}
use lib.ListN.{drop, get_or, length, length-append, length-drop, take}
use lib.Seq.{drop-drop, length-take-le}
use native.Mathlib.Nat.{add-zero}
use native.Mathlib.Omega.{arith}
use borrow.Author.Tests.{eq-eqb, eqb-true, le-leb, leb-true, lt-ltb}
use Rattle.octets.specs.Lists.{all, concat_map}
use Rattle.octets.specs.Octets.{be, begins, below, from_be, number_at}
use Rattle.octets.proofs.Numbers.{Bytes, bytes_drop, number-below, number-stands}
use Rattle.octets.proofs.Order.{begins-at, begins-front, begins-length, begins-parts, front_of_lem}
use Rattle.octets.proofs.Tests.{and_true_both, by_test}
use Rattle.entries.specs.Entries.{Entry, entry, names}
use Rattle.entries.specs.Names.{is_name, is_score}
use Rattle.answer.specs.Answers.{entries_bytes, entry_bytes}
use Rattle.answer.proofs.Entries.{length-entry_bytes}
use Rattle.book_laws.proofs.Walk.{chained}
use Rattle.sheet_check.specs.Check.{row_is, row_length, row_name, rows_end}
use Rattle.sheet.specs.Sheet.{behind_name, sheet_from}

-- what the walk has found
pub record Rows (prev : List ℕ) (at : ℕ) (es : List Entry) (buf : List ℕ) : Type 0 where
  pub stands : begins (entries_bytes es) (drop at buf) ≡ true
  pub allowed : all (λ e. is_name e.name) es ≡ true
  pub above : chained prev (names es) ≡ true

abbrev row_entry : List ℕ → Entry
row_entry bs = entry (row_name bs) (from_be (take 4 (behind_name bs)))

pub row_parts :
    (prev bs : List ℕ) → row_is prev bs ≡ true
    → (row_length bs ≤ length bs) × (is_name (row_name bs) ≡ true) × (below prev (row_name bs) ≡ true)
unfolding row_is
row_parts prev bs h =
    let a = and_true_both (leb (row_length bs) (length bs)) (is_name (row_name bs) && below prev (row_name bs)) h in
    let b = and_true_both (is_name (row_name bs)) (below prev (row_name bs)) a.1 in
    (leb-true (row_length bs) (length bs) a.0, b.0, b.1)

-- the length byte and the name
name_stands : (bs : List ℕ) → row_length bs ≤ length bs → begins (length (row_name bs) ∷ row_name bs) bs ≡ true
name_stands [] h = absurd (omega arith)
name_stands (x ∷ bs) h = rw (eq-eqb (length (take x bs)) x (length-take-le x bs (omega arith))) (begins-front x bs)

module _ (bs : List ℕ) (b : Bytes bs) (h : row_length bs ≤ length bs) where
  row_name-length : length (row_name bs) ≡ get_or bs 0 0
  row_name-length = length-take-le (get_or bs 0 0) (drop 1 bs) (rw length-drop (omega arith))

  score_number : number_at 4 bs (1 + get_or bs 0 0) ≡ (row_entry bs).score
  unfolding number_at
  score_number =
      rw (le-leb (1 + get_or bs 0 0 + 4) (length bs) (omega arith), ← drop-drop (get_or bs 0 0) 1 bs)

  -- an entry with all its bytes stands as it would be written
  row_stands : begins (entry_bytes (row_entry bs)) bs ≡ true
  unfolding entry_bytes
  row_stands =
      let l : 1 + get_or bs 0 0 ≡ suc (length (row_name bs)) = rw row_name-length (omega arith) in
      rw (begins-parts (length (row_name bs) ∷ row_name bs) (be 4 (row_entry bs).score) bs, name_stands bs h)
      (subst (λ (k : ℕ). begins (be 4 (row_entry bs).score) (drop k bs) ≡ true) l
      (number-stands 4 bs (1 + get_or bs 0 0) b (omega arith) (row_entry bs).score score_number))

  row_score : is_score (row_entry bs).score ≡ true
  unfolding is_score
  row_score = rw (← score_number)
      (lt-ltb (number_at 4 bs (1 + get_or bs 0 0)) (2 ^ 32) (number-below 4 bs (1 + get_or bs 0 0) b (omega arith)))

  row_bytes : length (entry_bytes (row_entry bs)) ≡ row_length bs
  row_bytes = length-entry_bytes (row_entry bs) ∙ ap (λ k. 5 + k) row_name-length

-- a walk that comes to an end
abbrev RowsEnd : ℕ → List ℕ → ℕ → List ℕ → ℕ → Type 0
RowsEnd m prev at buf end =
    Rows prev at (sheet_from m (drop at buf)) buf × (all (λ e. is_score e.score) (sheet_from m (drop at buf)) ≡ true)
    × (end ≡ at + length (entries_bytes (sheet_from m (drop at buf))))

-- what stands behind the entry at an index
row_behind : (at : ℕ) (buf : List ℕ) → drop (at + row_length (drop at buf)) buf ≡ drop 4 (behind_name (drop at buf))
row_behind at buf =
    let k = get_or (drop at buf) 0 0 in
    let z : at + row_length (drop at buf) ≡ at + 1 + k + 4 = omega arith in
    ap (λ i. drop i buf) z
    ∙ sym (drop-drop 4 (at + 1 + k) buf)
    ∙ ap (drop 4) (sym (drop-drop k (at + 1) buf) ∙ ap (drop k) (sym (drop-drop 1 at buf)))

rows_step :
    (m : ℕ) (prev : List ℕ) (at : ℕ) (buf : List ℕ) (end : ℕ) → Bytes buf → row_is prev (drop at buf) ≡ true
    → RowsEnd m (row_name (drop at buf)) (at + row_length (drop at buf)) buf end → RowsEnd (suc m) prev at buf end
unfolding entries_bytes
rows_step m prev at buf end b t r =
    let p = row_parts prev (drop at buf) t in
    let c = bytes_drop at buf b in
    let e = row_entry (drop at buf) in
    let l = row_bytes (drop at buf) c p.0 in
    let es = sheet_from m (drop 4 (behind_name (drop at buf))) in
    let same_rows : sheet_from m (drop (at + row_length (drop at buf)) buf) ≡ es = ap (sheet_from m) (row_behind at buf) in
    let r₀ : Rows (row_name (drop at buf)) (at + row_length (drop at buf)) es buf = subst
    (λ (fs : List Entry). Rows (row_name (drop at buf)) (at + row_length (drop at buf)) fs buf) same_rows r.0 in
    let fits : all (λ f. is_score f.score) es ≡ true = subst
    (λ (fs : List Entry). all (λ f. is_score f.score) fs ≡ true) same_rows r.1 in
    let far : end ≡ at + row_length (drop at buf) + length (concat_map entry_bytes es) = r.2
    ∙ ap (λ fs. at + row_length (drop at buf) + length (concat_map entry_bytes fs)) same_rows in
    let a = length-append (entry_bytes e) (concat_map entry_bytes es) in (
      record {
        stands = rw (
          begins-at (entry_bytes e) (concat_map entry_bytes es) buf at,
          row_stands (drop at buf) c p.0,
          l,
        ) r₀.stands;
        allowed = rw p.1 r₀.allowed;
        above = rw p.2 r₀.above;
      },
      (rw (row_score (drop at buf) c p.0) fits),
      omega arith,
    )

pub rows_sound : (m : ℕ) (prev : List ℕ) (at : ℕ) (buf : List ℕ) (end : ℕ) → Bytes buf
    → rows_end m prev at buf ≡ some end → RowsEnd m prev at buf end
unfolding entries_bytes
rows_sound zero prev at buf end b h =
    let q : at ≡ end = cc in
    (record { stands = refl; allowed = refl; above = refl }, refl, omega arith)
rows_sound (suc m) prev at buf end b h =
    by_test (row_is prev (drop at buf))
    (λ t. rows_step m prev at buf end b t
    (rows_sound m (row_name (drop at buf)) (at + row_length (drop at buf)) buf end b (rw t at h)))
    (λ t. let z : ◌≡◌ {A = Option ℕ} none (some end) = rw t at h in let y : ◌≡◌ {A = ℕ} 0 1 = cc in
    absurd (omega arith))

-- and back: over entries that stand the walk comes to their end
pub entry_at : (e : Entry) (bs : List ℕ) → begins (entry_bytes e) bs ≡ true → (row_name bs ≡ e.name)
    × (get_or bs 0 0 ≡ length e.name)
unfolding entry_bytes
entry_at e [] h = absurd (false≢true h)
entry_at e (x ∷ bs) h =
    let a = and_true_both (eqb (length e.name) x) (begins (e.name ++ be 4 e.score) bs) h in
    let q = eqb-true (length e.name) x a.0 in
    let c = and_true_both _ _ (sym (begins-parts e.name (be 4 e.score) bs) ∙ a.1) in
    ((rw (← q) (front_of_lem e.name bs c.0)), sym q)

pub rows_complete :
    (es : List Entry) (prev : List ℕ) (at : ℕ) (buf : List ℕ) → Rows prev at es buf
    → rows_end (length es) prev at buf ≡ some (at + length (entries_bytes es))
unfolding entries_bytes row_is
rows_complete [] prev at buf r = ap some (sym (add-zero at))
rows_complete (e ∷ es) prev at buf r =
    let c = and_true_both _ _ (sym (begins-at (entry_bytes e) (concat_map entry_bytes es) buf at) ∙ r.stands) in
    let q = entry_at e (drop at buf) c.0 in
    let l = length-entry_bytes e in
    let long = begins-length (entry_bytes e) (drop at buf) c.0 in
    let k : row_length (drop at buf) ≡ length (entry_bytes e) = omega (arith, q.1) in
    let a = and_true_both (is_name e.name) (all (λ f. is_name f.name) es) r.allowed in
    let o = and_true_both (below prev e.name) (chained e.name (names es)) r.above in
    let ih = rows_complete es e.name (at + length (entry_bytes e)) buf
    (record { stands = c.1; allowed = a.1; above = o.1 }) in
    let z : at + length (entry_bytes e) + length (concat_map entry_bytes es) ≡ at + length (entry_bytes e
    ++ concat_map entry_bytes es) =
    omega (arith, length-append (entry_bytes e) (concat_map entry_bytes es))
    in
    rw (k, le-leb (length (entry_bytes e)) (length (drop at buf)) long, q.0, a.0, o.0, ih) (ap some z)
