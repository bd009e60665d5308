-- One turn of two books: which entry is due, by the next names, and what it leaves.
use Prim.Native.Nat.{◌+◌, ◌<◌, ◌≤◌, ℕ}
use mathlib.Core.Path.{◌∙◌, ◌≡◌, ap, refl, sym}
use mathlib.Core.Bool.{Bool, ◌||◌, false, true}
use mathlib.Core.List.{List, [], ◌∷◌}
use lib.Dec.{leb}
use lib.ListN.{drop, length, take}
use lib.Seq.{drop-drop, length-take-le}
use native.Mathlib.Omega.{arith}
use borrow.Author.Tests.{leb-false, leb-true}
use Rattle.octets.specs.Lists.{all, if◌then◌otherwise◌}
use Rattle.octets.proofs.Lists.{all_drop}
use Rattle.octets.proofs.Tests.{by_test}
use Rattle.entries.specs.Entries.{Entry, at, entry, max_entries, rising}
use Rattle.entries.specs.Names.{is_name, longest_name}
use Rattle.entries.proofs.Valid.{rising-drop, valid_of}
use Rattle.merge.specs.Joined.{joined}
use Rattle.merge_read.specs.Turns.{Chosen, Loaded, Took, entries_left, is_due, steps}
use Rattle.merge_read.proofs.Dues.{due_some, due_turn, due_of, none_due}
use Rattle.merge_read.proofs.Loading.{at_left, at_past}
use Rattle.merge_read.specs.declared.Choice.{Choice}
use Rattle.merge_read.specs.declared.NextInBook.{NextInBook}

-- the next entry of one book
module _ {es : List Entry} {c : NextInBook} {name : List ℕ} (l : Loaded es c name) where
  pub loaded_few : c.index ≤ max_entries
  loaded_few = omega (arith, l.within, (valid_of es l.ok).few)

  pub loaded_fits : c.len ≤ length name
  loaded_fits = omega (arith, l.long, l.small)

  pub loaded_size : length (take c.len name) ≡ c.len
  loaded_size = length-take-le c.len name loaded_fits

  pub loaded_short : length (take c.len name) ≤ longest_name
  loaded_short = omega (arith, loaded_size, l.small)

  order : rising (entries_left es c) ≡ true
  order = rising-drop c.index es (valid_of es l.ok).order

  allowed : all (λ e. is_name e.name) (entries_left es c) ≡ true
  allowed = all_drop (λ e. is_name e.name) c.index es (valid_of es l.ok).allowed

  -- its name is the first of those left
  head_name_lem : (at (entries_left es c) 0).name ≡ take c.len name
  head_name_lem = ap (λ e. e.name) (at_left es c.index) ∙ sym l.named

  -- there is one where it has a name
  some_low : 0 < length (take c.len name) → c.index < length es
  some_low h =
      by_test (leb (length es) c.index)
      (λ t.
      let i : length es ≤ c.index = leb-true (length es) c.index t in
      let e = at_past es c.index i in
      let z : length (take c.len name) ≡ 0 = ap length (l.named ∙ ap (λ f. f.name) e) in
      omega arith)
      (λ t. leb-false (length es) c.index t)

  -- the entry, from its name and its score
  head_entry : {w : List ℕ} {s : ℕ} → w ≡ take c.len name → s ≡ (at es c.index).score → c.index < length es
      → at (entries_left es c) 0 ≡ entry w s
  head_entry e f h =
      at_left es c.index
      ∙ rw (e, l.named, f)

-- the next entries of both
module _
    {first : List Entry} {x : NextInBook} {a : List ℕ} {second : List Entry} {y : NextInBook} {b : List ℕ}
    (l : Loaded first x a)
    (k : Loaded second y b)
  where
    -- one that is due is there
    pub due_low : {f : Bool} → f ≡ is_due (take x.len a) (take y.len b) → f ≡ true → x.index < length first
    due_low e t = some_low l (due_some (take x.len a) (take y.len b) (sym e ∙ t))

    due_left : {f : Bool} → f ≡ is_due (take x.len a) (take y.len b)
        → f ≡ due_of (entries_left first x) (entries_left second y)
    due_left e = e ∙ rw (head_name_lem l, head_name_lem k)

module _
    {first : List Entry} {x : NextInBook} {a : List ℕ} {second : List Entry} {y : NextInBook} {b : List ℕ}
    (l : Loaded first x a)
    (k : Loaded second y b)
    {f s : Bool} (p : f ≡ is_due (take x.len a) (take y.len b)) (q : s ≡ is_due (take y.len b) (take x.len a))
  where
    -- no entry is due: none is left
    ended : (f || s) ≡ false → (entries_left first x ≡ []) × (entries_left second y ≡ [])
    ended h = none_due (entries_left first x) (entries_left second y) (allowed l) (allowed k)
        (rw (due_left l k p, due_left k l q) at h)

    -- so it is told
    pub none_next : (f || s) ≡ false → joined (entries_left first x) (entries_left second y) ≡ []
    none_next h = let e = ended h in rw (e.0, e.1)

    ended_both : (f || s) ≡ false → (x.len ≡ 0) × (y.len ≡ 0)
    ended_both h =
        let i : length (take x.len a) ≡ 0 = rw (← head_name_lem l, (ended h).0) in
        let j : length (take y.len b) ≡ 0 = rw (← head_name_lem k, (ended h).1) in
        (omega (arith, loaded_size l), omega (arith, loaded_size k))

    -- one is due: there is one
    due_both : (f || s) ≡ true → 0 < x.len + y.len
    due_both h =
        by_test f
        (λ t. omega (arith, due_some (take x.len a) (take y.len b) (sym p ∙ t), loaded_size l))
        (λ t. omega (arith, due_some (take y.len b) (take x.len a) (sym q ∙ (rw t at h)), loaded_size k))

    due_next :
        (f || s) ≡ true
        → joined (entries_left first x) (entries_left second y)
        ≡ (if f then at (entries_left first x) 0 otherwise at (entries_left second y) 0)
        ∷ joined (drop (steps f) (entries_left first x)) (drop (steps s) (entries_left second y))
    due_next h =
        let u = due_left l k p in
        let v = due_left k l q in
        rw (u, v) (due_turn (entries_left first x) (entries_left second y) (allowed l) (allowed k) (order l) (order k)
        (rw (u, v) at h))

-- entries are left where there is a next name
module _
    {first : List Entry} {x : NextInBook} {a : List ℕ} {second : List Entry} {y : NextInBook} {b : List ℕ}
    (l : Loaded first x a)
    (k : Loaded second y b)
  where
    pub left_none : x.len + y.len ≡ 0 → joined (entries_left first x) (entries_left second y) ≡ []
    left_none z =
        by_test (is_due (take x.len a) (take y.len b) || is_due (take y.len b) (take x.len a))
        (λ t. absurd (omega (arith, due_both l k refl refl t)))
        (λ t. let e = ended l k refl refl t in rw (e.0, e.1))

    pub left_some : 0 < x.len + y.len → 0 < length (joined (entries_left first x) (entries_left second y))
    left_some z =
        by_test (is_due (take x.len a) (take y.len b) || is_due (take y.len b) (take x.len a))
        (λ t. rw (due_next l k refl refl t) (omega arith))
        (λ t. let e = ended_both l k refl refl t in absurd (omega arith))

module _
    {first : List Entry} {x : NextInBook} {a : List ℕ} {second : List Entry} {y : NextInBook} {b : List ℕ}
    (l : Loaded first x a)
    (k : Loaded second y b)
    {f s : Bool} (p : f ≡ is_due (take x.len a) (take y.len b)) (q : s ≡ is_due (take y.len b) (take x.len a))
    {name : List ℕ} {r : Choice} (c : Chosen first x.index (take x.len a) second y.index (take y.len b) f
    name r)
  where
    chosen : (f || s) ≡ true → (if f then at (entries_left first x) 0 otherwise at (entries_left second y) 0) ≡ entry
        (take r.len name)
        r.score
    chosen h =
        let w = c.word in
        let v = c.score in
        by_test f
        (λ t. rw t (head_entry l (rw t at w) (rw t at v) (due_low l k p t)))
        (λ t. rw t (head_entry k (rw t at w) (rw t at v) (due_low k l q (rw t at h))))

    turned_on :
        (f || s) ≡ true
        → joined (entries_left first x) (entries_left second y)
        ≡ entry (take r.len name) r.score
        ∷ joined (drop (x.index + steps f) first) (drop (y.index + steps s) second)
    turned_on h =
        rw (
          ← drop-drop (steps f) x.index first,
          ← drop-drop (steps s) y.index second,
          ← chosen h,
        ) (due_next l k p q h)

    pub turned :
        {g d : NextInBook} {a₁ b₁ : List ℕ} → (f || s) ≡ true → Loaded first g a₁ × (g.index ≡ x.index + steps f)
        → Loaded second d b₁
        × (d.index ≡ y.index + steps s)
        → Took first x a₁ second y b₁ name (record { first = g; second = d; len = r.len; score = r.score })
    turned h i j =
        record {
          of_first = i.0;
          of_second = j.0;
          small = let z = c.long in by_test f (λ t. omega (arith, rw t at z, loaded_short l))
              (λ t. omega (arith, rw t at z, loaded_short k));
          next = rw (i.1, j.1) (turned_on h);
        }
