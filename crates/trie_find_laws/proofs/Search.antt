-- The search offers the first k in rank.
use Prim.Native.Nat.{◌+◌, ◌<◌, ◌≤◌, suc, zero, ℕ}
use mathlib.Core.Path.{◌∙◌, ◌≡◌, ap, refl, sym}
use mathlib.Core.Logic.{◌⊎◌, inl, inr}
use mathlib.Core.Bool.{Bool, false, false≢true, true}
use mathlib.Core.List.{List, [], ◌++◌, ◌∷◌, append-nil}
use native.Mathlib.Omega.{arith}
use lib.Dec.{eqb, ltb}
use borrow.Author.Tests.{eq-eqb, eqb-false, eqb-true, le-ltb, ltb-false, ltb-true, ne_eqb}
use lib.ListN.{drop, length, take}
use Rattle.entries.proofs.BestList.{outranks_false}
use Rattle.octets.specs.Lists.{◌∈◌, concat_map, insert_by}
use Rattle.octets.specs.Octets.{begins, below}
use Rattle.octets.proofs.Count.{count, count-append, count-concat-insert, count-sort}
use Rattle.octets.proofs.Lists.{append_in, concat_in, drop_in, in_append_left, in_append_right, insert_in, take_in}
use Rattle.octets.proofs.Order.{begins-append, begins_self, begins_split}
use Rattle.octets.proofs.Sorted.{sorted}
use Rattle.octets.proofs.Tests.{and_true_both, by_test}
use Rattle.entries.specs.Entries.{Entry, by_rank, entry, outranks}
use Rattle.entries.proofs.Rank.{not_outranks_trans, outranks_asym, outranks_total, rank_first, rank_sorted}
use Rattle.entries.proofs.Same.{sorted_unique}
use Rattle.trie_find_laws.specs.Search.{Clear, Forest, ForestTurn, Proper, WaitingForest, follow, front_waits}
use Rattle.trie_find_laws.specs.Search.{inside, known, none, put_all_in_rank, search_offers, top, tree, wait}
use Rattle.trie_find_laws.specs.Search.{waiting_entries, waits_before}

abbrev pub all_waiting : List WaitingForest → List Entry
all_waiting ws = concat_map waiting_entries ws

-- in rank, what comes late may be left out
pub rank_same : (a b : List Entry) → ((q : Entry → Bool) → count q a ≡ count q b) → by_rank a ≡ by_rank b
rank_same a b c = sorted_unique outranks (by_rank a) (by_rank b) (λ e f m n. outranks_total e f) (rank_sorted a)
    (rank_sorted b) (λ q. count-sort outranks q a ∙ c q ∙ sym (count-sort outranks q b))

none_above : (y : Entry) (s : List Entry) → ((x : Entry) → x ∈ s → outranks x y ≡ false)
    → count (λ x. outranks x y) s ≡ 0
none_above y [] h = refl
none_above y (x ∷ s) h = rw (h x (inl refl)) (none_above y s (λ z m. h z (inr m)))

insert_late : (k : ℕ) (y : Entry) (s : List Entry) → sorted outranks s → k ≤ count (λ x. outranks x y) s
    → take k (insert_by outranks y s) ≡ take k s
insert_late zero y s r h = refl
insert_late (suc k) y [] r h = absurd (omega arith)
insert_late (suc k) y (x ∷ s) r h =
    by_test (outranks x y)
    (λ t. let n : suc k ≤ suc (count (λ z. outranks z y) s) = rw t at h in
    let ih = insert_late k y s r.1 (omega arith) in rw t (ap (λ l. x ∷ l) ih))
    (λ t. absurd (let n : suc k ≤ count (λ z. outranks z y) s = rw t at h in
    let z = none_above y s (λ w m. not_outranks_trans w x y (r.0 w m) t) in omega arith))

late : (k : ℕ) (x ys : List Entry) → ((y : Entry) → y ∈ ys → k ≤ count (λ e. outranks e y) x)
    → take k (by_rank (ys ++ x)) ≡ take k (by_rank x)
late k x [] h = refl
late k x (y ∷ ys) h =
    let a = h y (inl refl) in
    let b = count-append (λ e. outranks e y) ys x in
    let c = count-sort outranks (λ e. outranks e y) (ys ++ x) in
    insert_late k y (by_rank (ys ++ x)) (rank_sorted (ys ++ x)) (omega arith) ∙ late k x ys (λ z m. h z (inr m))

-- one waiting node and another
abbrev pub best_under : WaitingForest → Entry
best_under (wait p l s kids next) = top p (tree l s kids next)

abbrev pub Right : WaitingForest → Type 0
Right (wait p l s kids next) = Proper p (tree l s kids next)

abbrev pub Apart : WaitingForest → List Entry → Type 0
Apart (wait p l s kids next) es = Clear p (tree l s kids next) es

-- the best entry is one that is held, and its name goes on from what is known
top_in : (p l : List ℕ) (s : ℕ) (kids next : Forest) → top p (tree l s kids next) ∈ inside p (tree l s kids next)
top_in p l s none next = inl refl
top_in p l s (tree a b c d) next = in_append_left (top (p ++ l) (tree a b c d)) (inside (p
    ++ l) (tree a b c d)) (inside p next) (top_in (p ++ l) a b c d)

begins_more : (p l w : List ℕ) → begins (p ++ l) w ≡ true → begins p w ≡ true
begins_more [] l w h = refl
begins_more (x ∷ p) l [] h = h
begins_more (x ∷ p) l (y ∷ w) h = let a = and_true_both (eqb x y) (begins (p ++ l) w) h in
    rw a.0 (begins_more p l w a.1)

top-begins : (p l : List ℕ) (s : ℕ) (kids next : Forest) → begins (p ++ l) (top p (tree l s kids next)).name ≡ true
top-begins p l s none next = begins_self (p ++ l)
top-begins p l s (tree a b c d) next = begins_more (p
    ++ l) a (top (p ++ l) (tree a b c d)).name (top-begins (p ++ l) a b c d)

-- a name that is not below p and does not begin with p is not below what begins with p
not_below : (p w t : List ℕ) → below w p ≡ false → begins p w ≡ false → begins p t ≡ true → below w t ≡ false
not_below [] w t h k b = absurd (false≢true (sym k))
not_below (x ∷ p) [] t h k b = absurd (false≢true (sym h))
not_below (x ∷ p) (y ∷ w) [] h k b = refl
not_below (x ∷ p) (y ∷ w) (z ∷ t) h k b =
    let a = and_true_both (eqb x z) (begins p t) b in
    let xz : x ≡ z = eqb-true x z a.0 in
    by_test (eqb y x)
    (λ u.
    let yx : y ≡ x = eqb-true y x u in
    rw (eq-eqb y z (yx ∙ xz)) (not_below p w t (rw u at h) (rw (eq-eqb x y (sym yx)) at k) a.1))
    (λ u.
    let yx : y ≡ x → ⊥ = eqb-false y x u in
    rw (ne_eqb y z (λ q. yx (q ∙ sym xz))) (rw (← xz) (rw u at h)))

-- what is at least as good as all that another holds: the best entry of a node that is known to be at least as good and
-- lies apart
rank_name : (e f : Entry) → e.score ≡ f.score → outranks e f ≡ below e.name f.name
rank_name e f h = rw (eq-eqb e.score f.score h)

rank_low : (e f : Entry) → e.score < f.score → outranks e f ≡ false
rank_low e f h = rw (ne_eqb e.score f.score (λ q. omega arith)) (le-ltb f.score e.score (omega arith))

stronger : (p l : List ℕ) (s : ℕ) (kids next : Forest) → Proper p (tree l s kids next) → (e : Entry)
    → outranks e (entry (p ++ l) s) ≡ false → (begins (p ++ l) e.name ≡ true → kids ≡ none)
    → outranks e (top p (tree l s kids next)) ≡ false
stronger p l s none next r e h c = h
stronger p l s (tree a b x y) next r e h c =
    let t = top p (tree l s (tree a b x y) next) in
    let sc : t.score ≡ s = r.1 in
    let le = outranks_false e (entry (p ++ l) s) h in
    by_test (ltb e.score s)
    (λ u. let q : e.score < s = ltb-true e.score s u in rank_low e t (omega arith))
    (λ u.
    let q : s ≤ e.score = ltb-false e.score s u in
    let eq : e.score ≡ s = omega arith in
    let no : begins (p ++ l) e.name ≡ false = by_test (begins (p
    ++ l) e.name) (λ v. absurd (inner (c v))) (λ v. v) in
    rank_name e t (eq ∙ sym sc) ∙ not_below (p ++ l) e.name t.name (sym (rank_name e (entry (p ++ l) s) eq)
    ∙ h) no (top-begins p l s (tree a b x y) next))
  where
    inner : tree a b x y ≡ none → ⊥
    inner q = let z : ◌≡◌ {A = ℕ} 0 1 = cc in omega arith

-- the waiting nodes
pub record Pair (p : List ℕ) (f : Forest) (v : WaitingForest) : Type 0 where
  pub apart : Clear p f (waiting_entries v)
  pub back : Apart v (inside p f)
  pub far : (e g : Entry) → e ∈ inside p f → g ∈ waiting_entries v → e.name ≡ g.name → ⊥

abbrev pub PairOf : WaitingForest → WaitingForest → Type 0
PairOf (wait p l s kids next) v = Pair p (tree l s kids next) v

abbrev pub AllWait : List WaitingForest → Type 0
AllWait [] = Unit {0}
AllWait (w ∷ ws) = Right w × ((v : WaitingForest) → v ∈ ws → PairOf w v)
    × ((v : WaitingForest) → v ∈ ws → outranks (known v) (known w) ≡ false) × AllWait ws

flip : (a b : WaitingForest) → PairOf a b → PairOf b a
flip (wait p l s k n) (wait p' l' s' k' n') z = record {
  apart = z.back;
  back = z.apart;
  far = λ e g m o q. z.far g e o m (sym q);
}

known-best : (v : WaitingForest) → Right v → (e : Entry) → e ∈ waiting_entries v → outranks e (known v) ≡ false
known-best (wait p l s k n) r e m = r.0 e m

right_of : (ws : List WaitingForest) → AllWait ws → (v : WaitingForest) → v ∈ ws → Right v
right_of [] k v m = absurd m
right_of (w ∷ ws) k v (inl q) = rw q k.0
right_of (w ∷ ws) k v (inr m) = right_of ws k.3 v m

best_leads : (w v : WaitingForest) → Right w → Right v → PairOf w v → outranks (known v) (known w) ≡ false → (e : Entry)
    → e ∈ waiting_entries v → outranks e (best_under w) ≡ false
best_leads (wait p l s k n) v r rv z o e m = stronger p l s k n r e (not_outranks_trans e (known v) (entry (p
    ++ l) s) (known-best v rv e m) o) (z.apart.0 e m)

leads : (w : WaitingForest) (ws : List WaitingForest) → AllWait (w ∷ ws) → (e : Entry) → e ∈ all_waiting ws
    → outranks e (best_under w) ≡ false
leads w ws k e m = let r = concat_in waiting_entries e ws m in
    best_leads w r.0 k.0 (right_of ws k.3 r.0 r.1) (k.1 r.0 r.1) (k.2 r.0 r.1) e r.2

kept_insert : (x : WaitingForest) (ws : List WaitingForest) → AllWait ws → Right x
    → ((v : WaitingForest) → v ∈ ws → PairOf x v)
    → AllWait (insert_by waits_before x ws)
kept_insert x [] k r a = (r, (λ v m. absurd m), (λ v m. absurd m), tt)
kept_insert x (y ∷ ys) k r a =
    let ih = kept_insert x ys k.3 r (λ v m. a v (inr m)) in
    by_test (waits_before y x)
    (λ t. rw t (
      k.0,
      (λ v m. pair v (insert_in waits_before v x ys m)),
      (λ v m. after t v (insert_in waits_before v x ys m)),
      ih,
    ))
    (λ t. rw t (r, a, (λ v m. first t v m), k))
  where
    pair : (v : WaitingForest) → v ∈ (x ∷ ys) → PairOf y v
    pair v (inl q) = rw q (flip x y (a y (inl refl)))
    pair v (inr m) = k.1 v m

    after : outranks (known y) (known x) ≡ true → (v : WaitingForest) → v ∈ (x ∷ ys)
        → outranks (known v) (known y) ≡ false
    after t v (inl q) = rw q (outranks_asym (known y) (known x) t)
    after t v (inr m) = k.2 v m

    first : outranks (known y) (known x) ≡ false → (v : WaitingForest) → v ∈ (y ∷ ys)
        → outranks (known v) (known x) ≡ false
    first t v (inl q) = rw q t
    first t v (inr m) = not_outranks_trans (known v) (known y) (known x) (k.2 v m) t

kept_take : (i : ℕ) (ws : List WaitingForest) → AllWait ws → AllWait (take i ws)
kept_take zero ws k = tt
kept_take (suc i) [] k = tt
kept_take (suc i) (w ∷ ws) k = (
  k.0,
  (λ v m. k.1 v (take_in i v ws m)),
  (λ v m. k.2 v (take_in i v ws m)),
  kept_take i ws k.3,
)

-- leaving out the last
count-some : {A : Type 0} (q : A → Bool) (x : A) (xs : List A) → x ∈ xs → q x ≡ true → 1 ≤ count q xs
count-some q x [] m h = absurd m
count-some q x (y ∷ ys) (inl e) h = rw (← e) (rw h (omega arith))
count-some q x (y ∷ ys) (inr m) h = let ih = count-some q x ys m h in
    by_test (q y) (λ t. rw t (omega arith)) (λ t. rw t ih)

best_in : (w : WaitingForest) → best_under w ∈ waiting_entries w
best_in (wait p l s k n) = top_in p l s k n

far_best : (w v : WaitingForest) → PairOf w v → (e : Entry) → e ∈ waiting_entries v → best_under w ≡ e → ⊥
far_best (wait p l s k n) v z e m q = z.far (top p (tree l s k n)) e (top_in p l s k n) m (ap (λ x. x.name) q)

above : (w v : WaitingForest) → Right w → Right v → PairOf w v → outranks (known v) (known w) ≡ false → (e : Entry)
    → e ∈ waiting_entries v → outranks (best_under w) e ≡ true
above w v r rv z o e m =
    by_test (outranks (best_under w) e) (λ t. t)
    (λ t. absurd (far_best w v z e m (outranks_total (best_under w) e t (best_leads w v r rv z o e m))))

-- an entry held behind k waiting nodes has k above it
enough : (k : ℕ) (ws : List WaitingForest) → AllWait ws → (y : Entry) → y ∈ all_waiting (drop k ws)
    → k ≤ count (λ e. outranks e y) (all_waiting (take k ws))
enough zero ws z y m = omega arith
enough (suc k) [] z y m = absurd m
enough (suc k) (w ∷ ws) z y m =
    let r = concat_in waiting_entries y (drop k ws) m in
    let n = drop_in k r.0 ws r.1 in
    let a = above w r.0 z.0 (right_of ws z.3 r.0 n) (z.1 r.0 n) (z.2 r.0 n) y r.2 in
    let b = count-some (λ e. outranks e y) (best_under w) (waiting_entries w) (best_in w) a in
    let c = count-append (λ e. outranks e y) (waiting_entries w) (all_waiting (take k ws)) in
    let ih = enough k ws z.3 y m in
    omega arith

flat_split : (q : Entry → Bool) (k : ℕ) (ws : List WaitingForest)
    → count q (all_waiting ws) ≡ count q (all_waiting (drop k ws) ++ all_waiting (take k ws))
flat_split q zero ws = ap (count q) (sym (append-nil (all_waiting ws)))
flat_split q (suc k) [] = refl
flat_split q (suc k) (w ∷ ws) =
    let ih = flat_split q k ws in
    let a = count-append q (waiting_entries w) (all_waiting ws) in
    let b = count-append q (all_waiting (drop k ws)) (all_waiting (take k ws)) in
    let c = count-append q (all_waiting (drop k ws)) (waiting_entries w ++ all_waiting (take k ws)) in
    let d = count-append q (waiting_entries w) (all_waiting (take k ws)) in
    omega arith

few_enough : (k : ℕ) (ws : List WaitingForest) → AllWait ws
    → take k (by_rank (all_waiting (take k ws))) ≡ take k (by_rank (all_waiting ws))
few_enough k ws z =
    sym (late k (all_waiting (take k ws)) (all_waiting (drop k ws)) (enough k ws z))
    ∙ ap (take k) (rank_same (all_waiting (drop k ws)
    ++ all_waiting (take k ws)) (all_waiting ws) (λ q. sym (flat_split q k ws)))

-- a forest that comes to wait
clear_none : (q : List ℕ) (f : Forest) (es : List Entry) → ((e : Entry) → e ∈ es → begins q e.name ≡ true → ⊥)
    → Clear q f es
clear_none q none es h = tt
clear_none q (tree l s k n) es h = ((λ e m b. absurd (h e m (begins_more q l e.name b))), clear_none q n es h)

clear_sub : (p : List ℕ) (f : Forest) (es fs : List Entry) → ((e : Entry) → e ∈ fs → e ∈ es) → Clear p f es
    → Clear p f fs
clear_sub p none es fs h c = tt
clear_sub p (tree l s k n) es fs h c = ((λ e m. c.0 e (h e m)), clear_sub p n es fs h c.1)

apart_sub : (v : WaitingForest) (es fs : List Entry) → ((e : Entry) → e ∈ fs → e ∈ es) → Apart v es → Apart v fs
apart_sub (wait p l s k n) es fs h c = clear_sub p (tree l s k n) es fs h c

kept_more : (p : List ℕ) (f : Forest) (ws : List WaitingForest) → AllWait ws → Proper p f
    → ((v : WaitingForest) → v ∈ ws → Pair p f v) → AllWait (put_all_in_rank (front_waits p f) ws)
kept_more p none ws k r a = k
kept_more p (tree l s c n) ws k r a = kept_insert (wait p l s c n) ws k r a

count_more : (q : Entry → Bool) (p : List ℕ) (f : Forest) (ws : List WaitingForest)
    → count q (all_waiting (put_all_in_rank (front_waits p f) ws)) ≡ count q (inside p f) + count q (all_waiting ws)
count_more q p none ws = omega arith
count_more q p (tree l s c n) ws = count-concat-insert waiting_entries q waits_before (wait p l s c n) ws

in_more : (p : List ℕ) (f : Forest) (ws : List WaitingForest) (v : WaitingForest) → v ∈ put_all_in_rank (front_waits p f) ws
    → (v ∈ front_waits p f) ⊎ (v ∈ ws)
in_more p none ws v m = inr m
in_more p (tree l s c n) ws v m = go (insert_in waits_before v (wait p l s c n) ws m)
  where
    go : v ∈ (wait p l s c n ∷ ws) → (v ∈ (wait p l s c n ∷ [])) ⊎ (v ∈ ws)
    go (inl q) = inl (inl q)
    go (inr m) = inr m

-- the children and the next sibling of a waiting node
module _ (p l : List ℕ) (s : ℕ) (n : Forest) (ws : List WaitingForest) where
  leaf_pair : AllWait (wait p l s none n ∷ ws) → (v : WaitingForest) → v ∈ ws → Pair p n v
  leaf_pair k v m =
      let z = k.1 v m in
      record {
        apart = z.apart.1;
        back = apart_sub v (entry (p ++ l) s
            ∷ inside p n) (inside p n) (λ e o. inr o) z.back;
        far = λ e g o. z.far e g (inr o);
      }

  leaf_kept : AllWait (wait p l s none n ∷ ws) → AllWait (put_all_in_rank (front_waits p n) ws)
  leaf_kept k = kept_more p n ws k.3 k.0.6 (leaf_pair k)

  module _ (a : List ℕ) (b : ℕ) (c d : Forest) where
    abbrev kids : Forest
    kids = tree a b c d

    next_pair : AllWait (wait p l s (tree a b c d) n ∷ ws) → (v : WaitingForest) → v ∈ ws → Pair p n v
    next_pair k v m =
        let z = k.1 v m in
        let i = inside (p ++ l) (tree a b c d) in
        record {
          apart = z.apart.1;
          back = apart_sub v (i ++ inside p n) (inside p n) (λ e o. in_append_right e i (inside p n) o) z.back;
          far = λ e g o. z.far e g (in_append_right e i (inside p n) o);
        }

    kid_none : tree a b c d ≡ none → ⊥
    kid_none q = let z : ◌≡◌ {A = ℕ} 0 1 = cc in omega arith

    kids_pair : AllWait (wait p l s (tree a b c d) n ∷ ws) → (v : WaitingForest) → v ∈ ws
        → Pair (p ++ l) (tree a b c d) v
    kids_pair k v m =
        let z = k.1 v m in
        let i = inside (p ++ l) (tree a b c d) in
        record {
          apart = clear_none (p ++ l) (tree a b c d) (waiting_entries v) (λ e o q. kid_none (z.apart.0 e o q));
          back = apart_sub v (i ++ inside p n) i (λ e o. in_append_left e i (inside p n) o) z.back;
          far = λ e g o. z.far e g (in_append_left e i (inside p n) o);
        }

    kids_next : AllWait (wait p l s (tree a b c d) n ∷ ws) → (v : WaitingForest) → v ∈ front_waits p n
        → Pair (p ++ l) (tree a b c d) v
    kids_next k v m = go n k.0.2.0 k.0.3 k.0.4 v m
      where
        go : (f : Forest) → ((e : Entry) → e ∈ inside p f → begins (p ++ l) e.name ≡ true → tree a b c d ≡ none)
            → Clear p f (inside (p ++ l) (tree a b c d))
            → ((e g : Entry) → e ∈ inside (p ++ l) (tree a b c d) → g ∈ inside p f → e.name ≡ g.name → ⊥)
            → (v : WaitingForest) → v ∈ front_waits p f → Pair (p ++ l) (tree a b c d) v
        go none x y w v m = absurd m
        go (tree l' s' c' n') x y w v (inl q) = rw q (record {
          apart = clear_none (p
              ++ l) (tree a b c d) (inside p (tree l' s' c' n')) (λ e o r. kid_none (x e o r));
          back = y;
          far = w;
        })
        go (tree l' s' c' n') x y w v (inr m) = absurd m

    inner_kept : AllWait (wait p l s (tree a b c d) n ∷ ws)
        → AllWait (put_all_in_rank (front_waits (p ++ l) (tree a b c d)) (put_all_in_rank (front_waits p n) ws))
    inner_kept k = kept_more (p ++ l) (tree a b c d) (put_all_in_rank (front_waits p n) ws)
        (kept_more p n ws k.3 k.0.6 (next_pair k)) k.0.5 (λ v m. go v (in_more p n ws v m))
      where
        go : (v : WaitingForest) → (v ∈ front_waits p n) ⊎ (v ∈ ws) → Pair (p ++ l) (tree a b c d) v
        go v (inl m) = kids_next k v m
        go v (inr m) = kids_pair k v m

-- the first child goes first of all that wait: it has the score of its parent, and what waits with that score has a
-- later path that does not go on from the parent's
known_behind :
    (v : WaitingForest) (p l w : List ℕ) (s : ℕ) → outranks (known v) (entry (p ++ l) s) ≡ false
    → begins (p ++ l) (known v).name ≡ false
    → begins (p ++ l) w ≡ true → outranks (known v) (entry w s) ≡ false
known_behind v p l w s h k b =
    let le = outranks_false (known v) (entry (p ++ l) s) h in
    by_test (ltb (known v).score s)
    (λ u. let q : (known v).score < s = ltb-true (known v).score s u in rank_low (known v) (entry w s) q)
    (λ u.
    let q : s ≤ (known v).score = ltb-false (known v).score s u in
    let e : (known v).score ≡ s = omega arith in
    rank_name (known v) (entry w s) e
    ∙ not_below (p ++ l) (known v).name w (sym (rank_name (known v) (entry (p ++ l) s) e) ∙ h) k b)

-- what begins what is known of a node begins its best entry's name
begins-best : (v : WaitingForest) (u : List ℕ) → begins u (known v).name ≡ true → begins u (best_under v).name ≡ true
begins-best (wait p l s k n) u h =
    let a = begins_split u (p ++ l) h in
    begins_more u (drop (length u) (p ++ l)) (top p (tree l s k n)).name (rw (← a) (top-begins p l s k n))

insert_first : (x : WaitingForest) (ws : List WaitingForest)
    → ((v : WaitingForest) → v ∈ ws → outranks (known v) (known x) ≡ false)
    → insert_by waits_before x ws ≡ x ∷ ws
insert_first x [] h = refl
insert_first x (y ∷ ys) h = rw (h y (inl refl))

module _ (p l : List ℕ) (s : ℕ) (n : Forest) (ws : List WaitingForest) (a : List ℕ) (b : ℕ) (c d : Forest)
    (z : AllWait (wait p l s (tree a b c d) n ∷ ws)) where
  abbrev more : List WaitingForest
  more = put_all_in_rank (front_waits p n) ws

  child_score : b ≡ s
  child_score = sym z.0.5.1 ∙ z.0.1

  not_inside : (v : WaitingForest)
      → ((e : Entry) → e ∈ waiting_entries v → begins (p ++ l) e.name ≡ true → tree a b c d ≡ none)
      → begins (p ++ l) (known v).name ≡ false
  not_inside v h =
      by_test (begins (p ++ l) (known v).name)
      (λ t. absurd (kid_none p l s n ws a b c d (h (best_under v) (best_in v) (begins-best v (p ++ l) t))))
      (λ t. t)

  others_behind : (v : WaitingForest) → v ∈ more → outranks (known v) (entry ((p ++ l) ++ a) b) ≡ false
  others_behind v m = rw child_score (go (in_more p n ws v m))
    where
      apart : (v ∈ front_waits p n) ⊎ (v ∈ ws) → (e : Entry) → e ∈ waiting_entries v → begins (p ++ l) e.name ≡ true
          → tree a b c d ≡ none
      apart (inl o) e i = in_next n z.0.2.0 v o e i
        where
          in_next :
              (f : Forest) → ((g : Entry) → g ∈ inside p f → begins (p ++ l) g.name ≡ true → tree a b c d ≡ none)
              → (u : WaitingForest) → u ∈ front_waits p f
              → (g : Entry) → g ∈ waiting_entries u → begins (p ++ l) g.name ≡ true → tree a b c d ≡ none
          in_next none h u j g r = absurd j
          in_next (tree l' s' c' n') h u (inl q) g r = h g (rw q at r)
          in_next (tree l' s' c' n') h u (inr j) g r = absurd j
      apart (inr o) e i = (z.1 v o).apart.0 e i

      lower : (v ∈ front_waits p n) ⊎ (v ∈ ws) → outranks (known v) (entry (p ++ l) s) ≡ false
      lower (inl o) = z.0.7 v o
      lower (inr o) = z.2 v o

      go : (v ∈ front_waits p n) ⊎ (v ∈ ws) → outranks (known v) (entry ((p ++ l) ++ a) s) ≡ false
      go o = known_behind v p l ((p ++ l) ++ a) s (lower o) (not_inside v (apart o)) (begins-append (p ++ l) a)

  child_first : put_all_in_rank (front_waits (p ++ l) (tree a b c d)) more ≡ wait (p ++ l) a b c d ∷ more
  child_first = insert_first (wait (p ++ l) a b c d) more others_behind

-- one turn: the entry offered is the first in rank, and what waits then has the next k
pub record TurnRight (k : ℕ) (all : List WaitingForest) (t : ForestTurn) : Type 0 where
  pub kept : AllWait t.waits
  pub first : take (suc k) (by_rank (all_waiting all)) ≡ t.offered ∷ take k (by_rank (all_waiting t.waits))

follow-turns :
    (k : ℕ) (p l : List ℕ) (s : ℕ) (kids n : Forest) (ws : List WaitingForest) → AllWait (wait p l s kids n ∷ ws)
    → TurnRight k (wait p l s kids n ∷ ws) (follow k p l s kids n ws)
follow-turns k p l s none n ws z =
    let more = put_all_in_rank (front_waits p n) ws in
    let km = leaf_kept p l s n ws z in
    let r : by_rank (all_waiting (wait p l s none n ∷ ws)) ≡ entry (p ++ l) s ∷ by_rank (inside p n ++ all_waiting ws) =
    rank_first (entry (p ++ l) s) (all_waiting (wait p l s none n ∷ ws)) (inside p n
    ++ all_waiting ws) (λ q. refl) (λ e m. low e (append_in e (inside p n) (all_waiting ws) m))
    in
    let t : by_rank (all_waiting more) ≡ by_rank (inside p n ++ all_waiting ws) = rank_same (all_waiting more) (inside p n
    ++ all_waiting ws) (λ q. count_more q p n ws ∙ sym (count-append q (inside p n) (all_waiting ws))) in
    record {
      kept = kept_take k more km;
      first = rw (r, ← t) (ap (λ x. entry (p ++ l) s ∷ x) (sym (few_enough k more km)));
    }
  where
    low : (e : Entry) → (e ∈ inside p n) ⊎ (e ∈ all_waiting ws) → outranks e (entry (p ++ l) s) ≡ false
    low e (inl m) = z.0.0 e (inr m)
    low e (inr m) = leads (wait p l s none n) ws z e m
follow-turns k p l s (tree a b c d) n ws z =
    let more = put_all_in_rank (front_waits p n) ws in
    let all = put_all_in_rank (front_waits (p ++ l) (tree a b c d)) more in
    let i = inside (p ++ l) (tree a b c d) in
    let cf = child_first p l s n ws a b c d z in
    let km : AllWait (wait (p ++ l) a b c d ∷ more) = rw cf at (inner_kept p l s n ws a b c d z) in
    let ih = follow-turns k (p ++ l) a b c d (take k more) (kept_take (suc k) (wait (p ++ l) a b c d ∷ more) km) in
    let t : by_rank (all_waiting all) ≡ by_rank ((i ++ inside p n) ++ all_waiting ws) =
    rank_same (all_waiting all) ((i ++ inside p n) ++ all_waiting ws)
    (λ q.
    let u = count_more q p n ws in
    let v = count_more q (p ++ l) (tree a b c d) more in
    let o = count-append q (i ++ inside p n) (all_waiting ws) in
    let j = count-append q i (inside p n) in
    omega arith)
    in
    record {
      kept = ih.kept;
      first =
          ap (take (suc k)) (sym t) ∙ ap (λ x. take (suc k) (by_rank (all_waiting x))) cf
          ∙ sym (few_enough (suc k) (wait (p ++ l) a b c d ∷ more) km)
          ∙ ih.first;
    }

-- the search
pub search_offers_lem : (k : ℕ) (ws : List WaitingForest) → AllWait ws → search_offers k ws ≡ take k (by_rank (all_waiting ws))
search_offers_lem zero ws z = refl
search_offers_lem (suc k) [] z = refl
search_offers_lem (suc k) (wait p l s c n ∷ ws) z =
    let t = follow-turns k p l s c n ws z in
    let ih = search_offers_lem k (follow k p l s c n ws).waits t.kept in
    ap (λ x. (follow k p l s c n ws).offered ∷ x) ih ∙ sym t.first

-- a whole forest
pub forest_offers : (p : List ℕ) (f : Forest) (k : ℕ) → Proper p f
    → search_offers k (front_waits p f) ≡ take k (by_rank (inside p f))
forest_offers p none k r = nothing k
  where
    nothing : (k : ℕ) → search_offers k [] ≡ take k (by_rank [])
    nothing zero = refl
    nothing (suc k) = refl
forest_offers p (tree l s c n) k r =
    search_offers_lem k (wait p l s c n ∷ []) (r, (λ v m. absurd m), (λ v m. absurd m), tt)
    ∙ ap (λ x. take k (by_rank x)) (append-nil (inside p (tree l s c n)))
