-- The walk over the records finds them as they would be written, with each head's offset, exactly when it comes to an
-- end.
use Prim.Native.Nat.{◌%◌, ◌*◌, ◌+◌, ◌-◌, ◌/◌, ◌<◌, ◌≤◌, suc, zero, ℕ}
use mathlib.Core.Path.{◌∙◌, ◌≡◌, ap, refl, subst, sym}
use mathlib.Core.Bool.{Bool, ◌&&◌, true}
use mathlib.Core.List.{List, [], ◌++◌, ◌∷◌}
use mathlib.Core.Option.{Option, none, some}
use lib.Dec.{eqb}
use lib.ListN.{drop, length, length-append, take}
use lib.Seq.{drop-drop}
use native.Mathlib.Nat.{add-zero}
use native.Mathlib.Omega.{arith}
use borrow.Author.Tests.{eq-eqb, eqb-false, eqb-true}
use Rattle.octets.specs.Lists.{all}
use Rattle.octets.specs.Octets.{begins, below}
use Rattle.octets.proofs.Order.{begins-at, begins_split}
use Rattle.octets.proofs.Tests.{and_true_both, by_test, other}
use Rattle.entries.specs.Entries.{at}
use Rattle.entries.specs.Names.{is_name}
use Rattle.book.specs.Records.{bucket_size, head_at, names_from, record_length, record_name, record_of, records}
use Rattle.book_laws.specs.Cursor.{record_is}
use Rattle.book.specs.declared.Layout.{Layout}
use Rattle.book.proofs.Records.{head_parts, head_there, record_length_of, record_name_of}
use Rattle.book_laws.specs.Check.{offset_at, offset_is, records_end}

-- a record that stands: its name and its length
pub standing_name : (heads : Bool) (i : ℕ) (prev w bs : List ℕ) → begins (record_of heads i prev w) bs ≡ true
    → record_name heads i prev bs ≡ w
standing_name heads i prev w bs h = rw (begins_split (record_of heads i prev w) bs h)
    (record_name_of heads i prev w (drop (length (record_of heads i prev w)) bs))

pub standing_length :
    (heads : Bool) (i : ℕ) (prev w bs : List ℕ) → begins (record_of heads i prev w) bs ≡ true
    → record_length heads i bs ≡ length (record_of heads i prev w)
standing_length heads i prev w bs h =
    ap (record_length heads i) (begins_split (record_of heads i prev w) bs h)
    ∙ record_length_of heads i prev w (drop (length (record_of heads i prev w)) bs)

-- each name is above the one before it
abbrev pub chained : List ℕ → List (List ℕ) → Bool
chained prev [] = true
chained prev (w ∷ ws) = below prev w && chained w ws

module _ (l : Layout) where
  -- the offset fields of the heads among the names ws, of which the first is at position i and its record at index `at`
  abbrev pub OffsetsOf : ℕ → ℕ → List ℕ → ℕ → List (List ℕ) → List ℕ → Type 0
  OffsetsOf n i prev at ws buf =
      (j : ℕ) → l.heads ≡ true → i ≤ bucket_size * j → bucket_size * j < i + length ws
      → offset_at buf n j ≡ at + length (records l.heads i prev (take (bucket_size * j - i) ws))

  -- what the walk has found
  pub record Walked (n i : ℕ) (prev : List ℕ) (at : ℕ) (ws : List (List ℕ)) (buf : List ℕ) : Type 0 where
    pub stands : begins (records l.heads i prev ws) (drop at buf) ≡ true
    pub allowed : all is_name ws ≡ true
    pub above : chained prev ws ≡ true
    pub offsets : OffsetsOf n i prev at ws buf

  -- one record
  module _ (i : ℕ) (prev bs : List ℕ) where
    abbrev name : List ℕ
    name = record_name l.heads i prev bs

    record_parts :
        record_is l.heads i prev bs ≡ true
        → (begins (record_of l.heads i prev name) bs ≡ true) × (is_name name ≡ true) × (below prev name ≡ true)
    unfolding record_is
    record_parts h =
        let a = and_true_both (begins (record_of l.heads i prev name) bs) (is_name name && below prev name) h in
        let b = and_true_both (is_name name) (below prev name) a.1 in
        (a.0, b.0, b.1)

  -- one more record in front
  module _
      (n i : ℕ) (prev : List ℕ) (at : ℕ) (w : List ℕ) (ws : List (List ℕ)) (buf : List ℕ)
      (s : begins (record_of l.heads i prev w) (drop at buf) ≡ true)
    where
      abbrev len : ℕ
      len = length (record_of l.heads i prev w)

      walked_more :
          offset_is l n i at buf ≡ true → is_name w ≡ true → below prev w ≡ true → Walked n (suc i) w (at + len) ws buf
          → Walked n i prev at (w ∷ ws) buf
      unfolding offset_is
      walked_more o a b r =
          record {
            stands = rw (
              begins-at (record_of l.heads i prev w) (records l.heads (suc i) w ws) buf at,
              s,
            ) r.stands;
            allowed = rw a r.allowed;
            above = rw b r.above;
            offsets = λ j on lo hi. by_test (eqb i (bucket_size * j)) (λ t. here j on (eqb-true i (bucket_size * j) t))
                (λ t. later j on lo hi (eqb-false i (bucket_size * j) t));
          }
        where
          here :
              (j : ℕ) → l.heads ≡ true → i ≡ bucket_size * j
              → offset_at buf n j ≡ at + length (records l.heads i prev (take (bucket_size * j - i) (w ∷ ws)))
          here j on q =
              let hd : head_at l.heads i ≡ true =
              head_there l.heads i on (eq-eqb (i % bucket_size) 0 (omega arith)) in
              let d : i / bucket_size ≡ j = omega arith in
              let z : bucket_size * j - i ≡ 0 = omega arith in
              let e : offset_at buf n j ≡ at =
              rw d at (eqb-true (offset_at buf n (i / bucket_size)) at (rw hd at o))
              in
              rw z (e ∙ sym (add-zero at))

          later :
              (j : ℕ) → l.heads ≡ true → i ≤ bucket_size * j → bucket_size * j < i + length (w ∷ ws)
              → (i ≡ bucket_size * j → ⊥)
              → offset_at buf n j ≡ at + length (records l.heads i prev (take (bucket_size * j - i) (w ∷ ws)))
          later j on lo hi ne =
              let far : suc i ≤ bucket_size * j = other i (bucket_size * j) lo ne in
              let z : bucket_size * j - i ≡ suc (bucket_size * j - suc i) = omega arith in
              let e = r.offsets j on far (omega arith) in
              let a = length-append (record_of l.heads i prev w)
              (records l.heads (suc i) w (take (bucket_size * j - suc i) ws)) in
              rw z (omega arith)

  -- a walk over m records that comes to an end
  abbrev WalkEnd : ℕ → ℕ → ℕ → List ℕ → ℕ → List ℕ → ℕ → Type 0
  WalkEnd m n i prev at buf end =
      Walked n i prev at (names_from l.heads m i prev (drop at buf)) buf
      × (end ≡ at + length (records l.heads i prev (names_from l.heads m i prev (drop at buf))))

  walk_step :
      (m n i : ℕ) (prev : List ℕ) (at : ℕ) (buf : List ℕ) (end : ℕ) → offset_is l n i at buf ≡ true
      → record_is l.heads i prev (drop at buf) ≡ true
      → WalkEnd m n (suc i) (record_name l.heads i prev (drop at buf)) (at + record_length l.heads i (drop at buf))
      buf end
      → WalkEnd (suc m) n i prev at buf end
  walk_step m n i prev at buf end o t r =
      let w = record_name l.heads i prev (drop at buf) in
      let p = record_parts i prev (drop at buf) t in
      let sl = standing_length l.heads i prev w (drop at buf) p.0 in
      let d = drop-drop (record_length l.heads i (drop at buf)) at buf in
      let ws = names_from l.heads m (suc i) w (drop (record_length l.heads i (drop at buf)) (drop at buf)) in
      let same_names : names_from l.heads m (suc i) w (drop (at + record_length l.heads i (drop at buf)) buf) ≡ ws =
      ap (names_from l.heads m (suc i) w) (sym d)
      in
      let r₀ : Walked n (suc i) w (at + length (record_of l.heads i prev w)) ws buf =
      subst (λ (x : ℕ). Walked n (suc i) w (at + x) ws buf) sl
      (subst (λ (v : List (List ℕ)). Walked n (suc i) w (at + record_length l.heads i (drop at buf)) v buf)
      same_names r.0)
      in
      let e : end ≡ at + record_length l.heads i (drop at buf) + length (records l.heads (suc i) w ws) =
      r.1 ∙ ap (λ v. at + record_length l.heads i (drop at buf) + length (records l.heads (suc i) w v)) same_names
      in
      let a = length-append (record_of l.heads i prev w) (records l.heads (suc i) w ws) in
      (walked_more n i prev at w ws buf p.0 o p.1 p.2 r₀, omega arith)

  pub walk_sound :
      (m n i : ℕ) (prev : List ℕ) (at : ℕ) (buf : List ℕ) (end : ℕ) → records_end l m n i prev at buf ≡ some end
      → WalkEnd m n i prev at buf end
  walk_sound zero n i prev at buf end h =
      let q : at ≡ end = cc in (
        record { stands = refl; allowed = refl; above = refl; offsets = λ j on lo hi. absurd (omega arith) },
        omega arith,
      )
  walk_sound (suc m) n i prev at buf end h =
      by_test (offset_is l n i at buf && record_is l.heads i prev (drop at buf))
      (λ t.
      let p = and_true_both (offset_is l n i at buf) (record_is l.heads i prev (drop at buf)) t in
      walk_step m n i prev at buf end p.0 p.1
      (walk_sound m n (suc i) (record_name l.heads i prev (drop at buf))
      (at + record_length l.heads i (drop at buf)) buf end (rw t at h)))
      (λ t. let z : ◌≡◌ {A = Option ℕ} none (some end) = rw t at h in let y : ◌≡◌ {A = ℕ} 0 1 = cc in
      absurd (omega arith))

  -- and back: over records that stand, with their heads' offsets, the walk comes to their end
  module _ (n i : ℕ) (prev : List ℕ) (at : ℕ) (w : List ℕ) (ws : List (List ℕ)) (buf : List ℕ)
      (r : Walked n i prev at (w ∷ ws) buf) where
    first_stands :
        (begins (record_of l.heads i prev w) (drop at buf) ≡ true)
        × (begins (records l.heads (suc i) w ws) (drop (at + length (record_of l.heads i prev w)) buf) ≡ true)
    first_stands =
        and_true_both (begins (record_of l.heads i prev w) (drop at buf))
        (begins (records l.heads (suc i) w ws) (drop (at + length (record_of l.heads i prev w)) buf))
        (sym (begins-at (record_of l.heads i prev w) (records l.heads (suc i) w ws) buf at) ∙ r.stands)

    first_name : record_name l.heads i prev (drop at buf) ≡ w
    first_name = standing_name l.heads i prev w (drop at buf) first_stands.0

    first_is : record_is l.heads i prev (drop at buf) ≡ true
    unfolding record_is
    first_is =
        rw (
          first_name,
          first_stands.0,
          (and_true_both (is_name w) (all is_name ws) r.allowed).0,
          (and_true_both (below prev w) (chained w ws) r.above).0,
        )

    first_offset : offset_is l n i at buf ≡ true
    unfolding offset_is
    first_offset =
        by_test (head_at l.heads i)
        (λ t.
        let both = head_parts l.heads i t in
        let m = eqb-true (i % bucket_size) 0 both.1 in
        let z : bucket_size * (i / bucket_size) - i ≡ 0 = omega arith in
        let e = r.offsets (i / bucket_size) both.0 (omega arith) (omega arith) in
        rw t
        (eq-eqb (offset_at buf n (i / bucket_size)) at ((rw z at e) ∙ add-zero at)))
        (λ t. rw t)

    rest_walked : Walked n (suc i) w (at + length (record_of l.heads i prev w)) ws buf
    rest_walked =
        record {
          stands = first_stands.1;
          allowed = (and_true_both (is_name w) (all is_name ws) r.allowed).1;
          above = (and_true_both (below prev w) (chained w ws) r.above).1;
          offsets = λ j on lo hi.
              let z : bucket_size * j - i ≡ suc (bucket_size * j - suc i) = omega arith in
              let e = rw z at (r.offsets j on (omega arith) (omega arith)) in
              let a = length-append (record_of l.heads i prev w)
              (records l.heads (suc i) w (take (bucket_size * j - suc i) ws)) in
              omega arith;
        }

  pub walk_complete :
      (ws : List (List ℕ)) (n i : ℕ) (prev : List ℕ) (at : ℕ) (buf : List ℕ) → Walked n i prev at ws buf
      → records_end l (length ws) n i prev at buf ≡ some (at + length (records l.heads i prev ws))
  walk_complete [] n i prev at buf r = ap some (sym (add-zero at))
  walk_complete (w ∷ ws) n i prev at buf r =
      let ih = walk_complete ws n (suc i) w (at + length (record_of l.heads i prev w)) buf
      (rest_walked n i prev at w ws buf r) in
      let a : at + length (record_of l.heads i prev w) + length (records l.heads (suc i) w ws)
      ≡ at + length (record_of l.heads i prev w ++ records l.heads (suc i) w ws) =
      omega (arith, length-append (record_of l.heads i prev w) (records l.heads (suc i) w ws))
      in
      rw (
        first_offset n i prev at w ws buf r,
        first_is n i prev at w ws buf r,
        first_name n i prev at w ws buf r,
        standing_length l.heads i prev w (drop at buf) (first_stands n i prev at w ws buf r).0,
        ih,
      )
      (ap some a)
