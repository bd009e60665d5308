-- One more name: what is known of the key among the names before it, and how it stands to the key, say what is known
-- with it.
use Prim.Native.Nat.{◌+◌, ◌<◌, ◌≤◌, suc, zero, ℕ}
use mathlib.Core.Path.{◌∙◌, ◌≡◌, ap, refl, sym}
use mathlib.Core.Bool.{Bool, false, false≢true, true}
use mathlib.Core.List.{List, [], ◌++◌, ◌∷◌, append-nil}
use lib.Dec.{eqb}
use lib.ListN.{drop, get_or, length, length-append, length-drop, take}
use lib.Seq.{get_or-append_seam, take-append-le, take-append_seam, take-length}
use native.Mathlib.Nat.{add-zero}
use native.Mathlib.Omega.{arith}
use borrow.Author.Tests.{eq-eqb, eqb-false, eqb-true}
use Rattle.octets.specs.Lists.{if◌then◌otherwise◌}
use Rattle.octets.specs.Octets.{begins, below, common, same}
use Rattle.octets.proofs.Coding.{common_le}
use Rattle.octets_code.proofs.Loops.{same_apart, same-begins}
use Rattle.octets.proofs.Order.{begins-between, begins_self, below_total, below_trans, same_eq}
use Rattle.octets.proofs.Tests.{and_true_both, by_test}
use Rattle.entries_laws.proofs.Place.{begun_not_below}
use Rattle.book.specs.Records.{last_or, record_of, records}
use Rattle.book.proofs.Records.{records-append}
use Rattle.book_seek.specs.Seek.{Compares, Meets, Next, Ordered, Seeking, Stands, before, early, none, place_in, placed, stopped}
use Rattle.book_seek.proofs.Sharing.{shares_both, shares_less, shares_more}
use Rattle.book_seek.specs.declared.Order.{Order}
use Rattle.book_seek.specs.declared.Order.TheVariants.{Begun, Below, Past}
use Rattle.book_seek.specs.declared.Seek.{Seek}

-- comparing
module _ (key : List ℕ) (kept : ℕ) (rest : List ℕ) (shared : ℕ) where
  pub keeps_more : shared < kept → Compares key kept rest shared Below shared
  keeps_more h prev w m =
      let q = shares_more prev w key (omega (arith, m.keeps, m.shares)) in
      record {
        shares = m.shares ∙ sym q.0;
        under = λ z. q.1 ∙ m.under h;
        begun = λ z. absurd (cc);
        over = λ z. absurd (cc);
      }

  pub keeps_less : kept < shared → Compares key kept rest shared Past kept
  keeps_less h prev w m =
      let q = shares_less prev w key (omega (arith, m.keeps, m.shares)) m.above in
      record {
        shares = m.keeps ∙ sym q.0;
        under = λ z. absurd (cc);
        begun = λ z. absurd (cc);
        over = λ z. (q.1, q.2);
      }

  -- it keeps as many: the rest is compared with what is left of the key
  module _ (h : kept ≡ shared) {c : ℕ} (e : c ≡ common rest (drop shared key)) where
    both :
        (prev w : List ℕ) → Meets prev w key kept rest shared
        → (shared + c ≡ common w key) × (below w key ≡ below rest (drop shared key))
        × (begins key w ≡ begins (drop shared key) rest)
    both prev w m =
        let q = shares_both shared prev w key (omega (arith, m.keeps)) (omega (arith, m.shares)) in
        let r : rest ≡ drop shared w = m.goes_on ∙ ap (λ k. drop k w) h in
        rw (e, r) (sym q.0, q.1, q.2)

    pub keeps_even :
        (order : Order) → Ordered rest (drop shared key) order → Compares key kept rest shared order (shared + c)
    keeps_even Begun b prev w m =
        let q = both prev w m in
        record { shares = q.0; under = λ z. absurd (cc); begun = λ z. q.2 ∙ b; over = λ z. absurd (cc) }
    keeps_even Below b prev w m =
        let q = both prev w m in
        record { shares = q.0; under = λ z. q.1 ∙ b; begun = λ z. absurd (cc); over = λ z. absurd (cc) }
    keeps_even Past b prev w m =
        let q = both prev w m in
        record {
          shares = q.0;
          under = λ z. absurd (cc);
          begun = λ z. absurd (cc);
          over = λ z. (q.1 ∙ b.0, q.2 ∙ b.1);
        }

-- lists of names with one more
place_more :
    (past : Bool) (key : List ℕ) (vs : List (List ℕ)) (w : List ℕ)
    → place_in past key (vs ++ (w ∷ [])) ≡ place_in past key vs + (if before past key w then 1 otherwise 0)
unfolding place_in
place_more past key [] w = by_test (before past key w) (λ t. rw t) (λ t. rw t)
place_more past key (v ∷ vs) w =
    let ih = place_more past key vs w in
    by_test (before past key v) (λ t. rw t (omega arith)) (λ t. rw t ih)

last_more : (prev : List ℕ) (vs : List (List ℕ)) (w : List ℕ) → last_or prev (vs ++ (w ∷ [])) ≡ w
last_more prev [] w = refl
last_more prev (v ∷ vs) w = last_more v vs w

get-front : (vs ws : List (List ℕ)) (i : ℕ) → i < length vs → get_or (vs ++ ws) i [] ≡ get_or vs i []
get-front [] ws i h = absurd (omega arith)
get-front (v ∷ vs) ws zero h = refl
get-front (v ∷ vs) ws (suc i) h = get-front vs ws i (omega arith)

-- order and beginning
not_under : (v w key : List ℕ) → below v w ≡ true → below v key ≡ false → below w key ≡ false
not_under v w key h n =
    by_test (below w key) (λ t. absurd (false≢true (sym n ∙ below_trans v w key h t))) (λ t. t)

not_begun :
    (v w key : List ℕ) → below v w ≡ true → below v key ≡ false → begins key v ≡ false → begins key w ≡ false
not_begun v w key h n b =
    by_test (begins key w)
    (λ t.
    by_test (below key v)
    (λ u. absurd (false≢true (sym b ∙ begins-between key key v w (begins_self key) t u h)))
    (λ u. let q = below_total key v u n in absurd (false≢true (sym b ∙ (rw q (begins_self v))))))
    (λ t. t)

begun_both : (key v w : List ℕ) → begins key v ≡ true → begins key w ≡ true → length key ≤ common v w
begun_both [] v w a b = omega arith
begun_both (x ∷ key) [] w a b = absurd (false≢true a)
begun_both (x ∷ key) (y ∷ v) [] a b = absurd (false≢true b)
begun_both (x ∷ key) (y ∷ v) (z ∷ w) a b =
    let p = and_true_both (eqb x y) (begins key v) a in
    let q = and_true_both (eqb x z) (begins key w) b in
    let s = eqb-true x y p.0 in
    let t = eqb-true x z q.0 in
    let ih = begun_both key v w p.1 q.1 in
    rw (eq-eqb y z (omega arith)) (omega arith)

begun_on : (key v w : List ℕ) → begins key v ≡ true → length key ≤ common v w → begins key w ≡ true
begun_on [] v w a h = refl
begun_on (x ∷ key) [] w a h = absurd (false≢true a)
begun_on (x ∷ key) (y ∷ v) [] a h = absurd (omega arith)
begun_on (x ∷ key) (y ∷ v) (z ∷ w) a h =
    let p = and_true_both (eqb x y) (begins key v) a in
    let s = eqb-true x y p.0 in
    by_test (eqb y z)
    (λ t.
    let u = eqb-true y z t in
    rw (eq-eqb x z (omega arith)) (begun_on key v w p.1 (omega (arith, (rw t at h)))))
    (λ t. absurd (omega (arith, (rw t at h))))

-- a name that the key begins and that is as long is the key
begun-back : (key w : List ℕ) → begins key w ≡ true → length w ≡ length key → begins w key ≡ true
begun-back [] [] h l = refl
begun-back [] (y ∷ w) h l = absurd (omega arith)
begun-back (x ∷ key) [] h l = absurd (false≢true h)
begun-back (x ∷ key) (y ∷ w) h l =
    let a = and_true_both (eqb x y) (begins key w) h in
    rw (eq-eqb y x (sym (eqb-true x y a.0))) (begun-back key w a.1 (omega arith))

-- one more name
module _
    (key : List ℕ) (start : ℕ) (vs : List (List ℕ)) (s : Seek) (g : Seeking key start vs s)
    (w : List ℕ) (at end kept : ℕ) (rest : List ℕ) (n : Next start vs w at end kept rest)
  where
    abbrev ws : List (List ℕ)
    ws = vs ++ (w ∷ [])

    more : length ws ≡ length vs + 1
    more = length-append vs (w ∷ [])

    last : last_or [] ws ≡ w
    last = last_more [] vs w

    counted :
        (past : Bool) {b : Bool} → before past key w ≡ b
        → place_in past key ws ≡ place_in past key vs + (if b then 1 otherwise 0)
    counted past e = place_more past key vs w ∙ ap (λ b. place_in past key vs + (if b then 1 otherwise 0)) e

    -- a place that was found stays
    stays :
        (s.order ≡ Below → ⊥) → below w key ≡ false → (r : Seek) → r.place ≡ s.place → r.at ≡ s.at → r.below ≡ s.below
        → r.above ≡ s.above → r.same ≡ s.same
        → (r.order ≡ Below → ⊥) → r.past ≡ place_in true key ws
        → (r.order ≡ Begun → begins key w ≡ true) → (r.order ≡ Past → begins key w ≡ false)
        → Seeking key start ws r
    stays f b r pl ix lf rt eq pos past one two =
        let here = g.some f in
        let m = more in
        let k : take s.place ws ≡ take s.place vs = take-append-le s.place vs (w ∷ []) (omega arith) in
        let d : get_or ws s.place [] ≡ get_or vs s.place [] = get-front vs (w ∷ []) s.place here in
        record {
          place = pl ∙ g.place ∙ sym (counted false {b = false} (rw b) ∙ add-zero (place_in false key vs));
          past = past;
          index = ix ∙ g.index ∙ rw (pl, k);
          left = lf ∙ g.left ∙ rw (pl, k);
          right = λ z. rt ∙ g.right here ∙ rw (pl, d);
          equal = λ z. eq ∙ g.equal here ∙ rw (pl, d);
          none = λ z. absurd (omega arith);
          whole = λ z. absurd (pos z);
          under = λ z. absurd (pos z);
          some = λ z. omega arith;
          begun = λ z. rw last (one z);
          over = λ z. rw last (b, two z);
        }

    -- the last name is past the key: this one is too
    pub still_over : s.order ≡ Past → Seeking key start ws s
    still_over o =
        let q = g.over o in
        let b = not_under (last_or [] vs) w key n.above q.0 in
        let c = not_begun (last_or [] vs) w key n.above q.0 q.1 in
        stays (λ z. absurd (cc)) b s refl refl refl refl refl (λ z. absurd (cc))
        (g.past ∙ sym (counted true {b = false} (rw (b, c)) ∙ add-zero (place_in true key vs)))
        (λ z. absurd (cc)) (λ z. c)

    -- the key begins the last name: this one too where it keeps all of the key
    module _ (o : s.order ≡ Begun) where
      not_below : below w key ≡ false
      not_below = not_under (last_or [] vs) w key n.above (begun_not_below key (last_or [] vs) (g.begun o))

      pub begun_no_more :
          kept < length key → (r : Seek) → r ≡ placed s Past s.past → Seeking key start ws r
      begun_no_more h r e =
          let c : begins key w ≡ false =
          by_test (begins key w)
          (λ t. let z = begun_both key (last_or [] vs) w (g.begun o) t in absurd (omega (arith, n.keeps)))
          (λ t. t)
          in
          rw e
          (stays (λ z. absurd (cc)) not_below (placed s Past s.past) refl refl refl refl refl (λ z. absurd (cc))
          (g.past ∙ sym (counted true {b = false} (rw (not_below, c)) ∙ add-zero (place_in true key vs)))
          (λ z. absurd (cc)) (λ z. c))

      pub begun_still :
          length key ≤ kept → (r : Seek) → r ≡ placed s Begun (s.past + 1) → Seeking key start ws r
      begun_still h r e =
          let c = begun_on key (last_or [] vs) w (g.begun o) (omega (arith, n.keeps)) in
          let p = g.past in
          let q = counted true {b = true} (rw (not_below, c)) in
          rw e
          (stays (λ z. absurd (cc)) not_below (placed s Begun (s.past + 1)) refl refl refl refl refl (λ z. absurd (cc))
          (omega arith)
          (λ z. c) (λ z. absurd (cc)))

    -- all names so far are below the key
    module _ (o : s.order ≡ Below) where
      all-names : take s.place vs ≡ vs
      all-names = rw (g.whole o) (take-length vs)

      pub meets : Meets (last_or [] vs) w key kept rest s.below
      meets =
          record {
            above = n.above;
            keeps = n.keeps;
            goes_on = n.goes_on;
            shares = g.left ∙ rw all-names;
            under = λ h. under_last vs refl h;
          }
        where
          under_last : (us : List (List ℕ)) → us ≡ vs → s.below < kept → below (last_or [] vs) key ≡ true
          under_last [] e h =
              absurd (let k = n.keeps in let z : common (last_or [] vs) w ≡ 0 = rw (← e) in omega arith)
          under_last (u ∷ us) e h = g.under o (let l = ap length e in omega arith)

      module _ {order : Order} {shared : ℕ} (c : Stands w key order shared) where
        -- this one is below it too
        pub found_under_lem :
            order ≡ Below → s.past ≡ s.place → (r : Seek) → r ≡ early (s.place + 1) end shared
            → Seeking key start ws r
        found_under_lem z y r e =
            let b = c.under z in
            let m = more in
            let p = g.whole o in
            let k : take (s.place + 1) ws ≡ ws = rw (p, ← m) (take-length ws) in
            let a = records-append false vs (w ∷ []) 0 [] in
            let i : length (records false 0 [] ws)
            ≡ length (records false 0 [] vs) + length (record_of false (length vs) (last_or [] vs) w) =
            let from : 0 + length vs ≡ length vs = omega arith in
            ap length a
            ∙ length-append (records false 0 [] vs) (record_of false (0 + length vs) (last_or [] vs) w ++ [])
            ∙ rw (append-nil (record_of false (0 + length vs) (last_or [] vs) w), from)
            in
            let f = counted false {b = true} (rw b) in
            let t = counted true {b = true} (rw b) in
            let pl = g.place in
            let pa = g.past in
            rw e
            (record {
              place = omega arith;
              past = omega arith;
              index = rw (k, n.to, n.from, i) (omega arith);
              left = rw (k, last) c.shares;
              right = λ q. absurd (omega arith);
              equal = λ q. absurd (omega arith);
              none = λ q. refl;
              whole = λ q. omega arith;
              under = λ q l. rw last b;
              some = λ q. absurd (q refl);
              begun = λ q. absurd (cc);
              over = λ q. absurd (cc);
            })

        -- this one is not: its place is found
        found :
            (order ≡ Below → ⊥) → below w key ≡ false → (past : ℕ) → past ≡ place_in true key ws → (eq : Bool) → eq ≡ same w key
            → (r : Seek) → r ≡ stopped s at order past shared eq → Seeking key start ws r
        found pos b past pa eq q r e =
            let m = more in
            let p = g.whole o in
            let k : take s.place ws ≡ vs = rw p (take-append_seam vs (w ∷ [])) in
            let d : get_or ws s.place [] ≡ w = rw p (get_or-append_seam vs w [] []) in
            rw e
            (record {
              place = g.place ∙ sym (counted false {b = false} (rw b) ∙ add-zero (place_in false key vs));
              past = pa;
              index = n.from ∙ rw k;
              left = g.left ∙ rw (all-names, k);
              right = λ z. c.shares ∙ rw d;
              equal = λ z. q ∙ rw d;
              none = λ z. absurd (omega arith);
              whole = λ z. absurd (pos z);
              under = λ z. absurd (pos z);
              some = λ z. omega arith;
              begun = λ z. rw last (c.begun z);
              over = λ z. rw last (c.over z);
            })

        length_w : length w ≡ kept + length rest
        length_w =
            let k = n.keeps in
            let l = common_le (last_or [] vs) w in
            let d = length-drop kept w in
            rw n.goes_on (omega arith)

        pub found_begun :
            order ≡ Begun → (r : Seek)
            → r ≡ stopped s at Begun (s.past + 1) shared (eqb (kept + length rest) (length key))
            → Seeking key start ws r
        found_begun z r e =
            let b = c.begun z in
            let u = begun_not_below key w b in
            let p = g.past in
            let t = counted true {b = true} (rw (u, b)) in
            found (λ q. absurd (cc)) u (s.past + 1) (omega arith) (eqb (kept + length rest) (length key)) is_same r (rw z e)
          where
            is_same : eqb (kept + length rest) (length key) ≡ same w key
            is_same =
                rw (← length_w)
                (by_test (eqb (length w) (length key))
                (λ t.
                let l = eqb-true (length w) (length key) t in
                let y = same-begins w key l in
                rw t (sym (y ∙ begun-back key w (c.begun z) l)))
                (λ t. rw t (sym (same_apart w key (eqb-false (length w) (length key) t)))))

        pub found_over :
            order ≡ Past → (r : Seek)
            → r ≡ stopped s at Past s.past shared false → Seeking key start ws r
        found_over z r e =
            let b = c.over z in
            let p = g.past in
            let t = counted true {b = false} (rw (b.0, b.1)) in
            found (λ q. absurd (cc)) b.0 s.past (omega arith) false (not_same b.1) r (rw z e)
          where
            not_same : begins key w ≡ false → false ≡ same w key
            not_same h =
                by_test (same w key)
                (λ t. let q = same_eq w key t in absurd (false≢true (sym h ∙ (rw q (begins_self key)))))
                (λ t. sym t)

-- before the first name
pub seeking_start : (key : List ℕ) (start : ℕ) → Seeking key start [] (none start)
unfolding place_in
seeking_start key start =
    record {
      place = refl;
      past = refl;
      index = sym (add-zero start);
      left = refl;
      right = λ h. absurd (omega arith);
      equal = λ h. absurd (omega arith);
      none = λ h. refl;
      whole = λ h. refl;
      under = λ h l. absurd (omega arith);
      some = λ h. absurd (h refl);
      begun = λ h. absurd (cc);
      over = λ h. absurd (cc);
    }

-- once a name is past the key, a name above it changes nothing
pub over_more :
    (key : List ℕ) (start : ℕ) (vs : List (List ℕ)) (s : Seek) → Seeking key start vs s → s.order ≡ Past
    → (w : List ℕ) → below (last_or [] vs) w ≡ true
    → Seeking key start (vs ++ (w ∷ [])) s
over_more key start vs s g o w b =
    still_over key start vs s g w (start + length (records false 0 [] vs))
    (start + length (records false 0 [] vs) + length (record_of false (length vs) (last_or [] vs) w))
    (common (last_or [] vs) w) (drop (common (last_or [] vs) w) w)
    (record { above = b; keeps = refl; goes_on = refl; from = refl; to = refl }) o
