-- Joined entries one by one, as a pass over both books meets them; they join the two books' entries, and no other list
-- does.
use Prim.Native.Nat.{◌<◌, ◌≤◌, ℕ}
use mathlib.Core.Path.{◌∙◌, ◌≡◌, ap, refl, subst, sym}
use mathlib.Core.Logic.{◌⊎◌, inl, inr}
use mathlib.Core.Bool.{Bool, false, false≢true, not, true}
use mathlib.Core.List.{List, [], ◌∷◌}
use lib.ListN.{length}
use native.Mathlib.Omega.{arith}
use borrow.Author.Tests.{not-true}
use Rattle.octets.specs.Lists.{◌∈◌, all}
use Rattle.octets.specs.Octets.{below, same}
use Rattle.octets.proofs.Lists.{all_in, all_insert, all_keep, at_all, in_insert, in_keep, insert_in, keep_all, keep_in}
use Rattle.octets.proofs.Order.{below_asym, below_irrefl, same_eq, same_refl}
use Rattle.octets.proofs.Tests.{and_intro, and_true_both, by_test}
use Rattle.entries.specs.Entries.{Entry, at, holds, is_entry, max_entries, name_below, named, no_entry, rising, valid, with}
use Rattle.entries.specs.Entries.{without}
use Rattle.entries_laws.specs.Place.{place}
use Rattle.entries.proofs.Edits.{rising-insert}
use Rattle.entries_laws.proofs.Place.{place-absent, place_unique}
use Rattle.entries_laws.proofs.Splice.{with-absent, with-held}
use Rattle.entries.proofs.Valid.{rising_cons, rising_head, rising-keep, rising_tail, valid-all, valid_intro, valid_of}
use Rattle.merge.specs.Joined.{Joins, joined}

-- names of which one is below the other differ, either way round
below_differs : (v w : List ℕ) → below v w ≡ true → same v w ≡ false
below_differs v w h =
    by_test (same v w)
    (λ t. let q = same_eq v w t in absurd (false≢true (sym (below_irrefl w) ∙ (rw q at h))))
    (λ t. t)

differs_swap : (v w : List ℕ) → same v w ≡ false → same w v ≡ false
differs_swap v w h =
    by_test (same w v) (λ t. let q = same_eq w v t in absurd (false≢true (sym h ∙ rw q (same_refl v)))) (λ t. t)

-- an entry below all the others is set in front of them
with-below : (e : Entry) (es : List Entry) → rising es ≡ true → all (name_below e) es ≡ true → with e es ≡ e ∷ es
with-below e es r h = with-absent e.name e.score es r absent ∙ rw first
  where
    head : 0 < length es → name_below e (at es 0) ≡ true
    head l = at_all (name_below e) no_entry es h 0 l

    first : place false e.name es ≡ 0
    first =
        place_unique false e.name es r 0 (omega arith) (λ l. absurd (omega arith))
        (λ l. rw (below_asym e.name (at es 0).name (head l)))

    absent : holds e.name es ≡ false
    absent =
        let w = (at es 0).name in
        place-absent e.name es r (rw first (λ l. differs_swap e.name w (below_differs e.name w (head l))))

-- an entry of the first one's name takes its place
with-same : (e f : Entry) (fs : List Entry) → rising (f ∷ fs) ≡ true → e.name ≡ f.name → with e (f ∷ fs) ≡ e ∷ fs
with-same e f fs r q =
    let t : named e.name f ≡ true = rw q (same_refl f.name) in
    with-held e.name e.score (f ∷ fs) r (rw t) ∙ rw t

-- an entry above the first one is set behind it
with-above : (e f : Entry) (fs : List Entry) → name_below f e ≡ true → with e (f ∷ fs) ≡ f ∷ with e fs
with-above e f fs h = rw (below_differs f.name e.name h, h)

-- what all entries of both lists pass, the joined ones pass
all-joined : (p : Entry → Bool) (es fs : List Entry) → all p es ≡ true → all p fs ≡ true
    → all p (joined es fs) ≡ true
all-joined p [] fs h k = k
all-joined p (e ∷ es) fs h k =
    let a = and_true_both (p e) (all p es) h in
    all_insert p name_below e (without e.name (joined es fs)) a.0
    (all_keep p (λ f. not (named e.name f)) (joined es fs) (all-joined p es fs a.1 k))

pub joined-all : (es fs : List Entry) → all is_entry es ≡ true → all is_entry fs ≡ true
    → all is_entry (joined es fs) ≡ true
joined-all es fs h k = all-joined is_entry es fs h k

-- joined entries are in name order
pub joined-rising : (es fs : List Entry) → rising es ≡ true → rising fs ≡ true → rising (joined es fs) ≡ true
joined-rising [] fs r s = s
joined-rising (e ∷ es) fs r s =
    let other : Entry → Bool = λ f. not (named e.name f) in
    rising-insert e (without e.name (joined es fs)) (keep_all other (joined es fs))
    (rising-keep other (joined es fs) (joined-rising es fs (rising_tail e es r) s))

-- so they make a book where they are not too many
pub joined-valid :
    (es fs : List Entry) → valid es ≡ true → valid fs ≡ true → length (joined es fs) ≤ max_entries
    → valid (joined es fs) ≡ true
joined-valid es fs v w few =
    valid_intro (joined es fs) few (joined-all es fs (valid-all es v) (valid-all fs w))
    (joined-rising es fs (valid_of es v).order (valid_of fs w).order)

-- One entry of a pass over both lists. None is left of the second:
pub join_none : (es : List Entry) → rising es ≡ true → joined es [] ≡ es
join_none [] r = refl
join_none (e ∷ es) r = rw (join_none es (rising_tail e es r))
    (with-below e es (rising_tail e es r) (rising_head e es r))

-- the first's is below:
pub join_first_lem :
    (e : Entry) (es : List Entry) (f : Entry) (fs : List Entry) → rising (e ∷ es) ≡ true → rising (f ∷ fs) ≡ true
    → name_below e f ≡ true → joined (e ∷ es) (f ∷ fs) ≡ e ∷ joined es (f ∷ fs)
join_first_lem e es f fs r s h =
    with-below e (joined es (f ∷ fs)) (joined-rising es (f ∷ fs) (rising_tail e es r) s)
    (all-joined (name_below e) es (f
    ∷ fs) (rising_head e es r) (rising_head e (f ∷ fs) (and_intro (name_below e f) (rising (f ∷ fs)) h s)))

-- an entry below all of the first's comes before what the rest gives
join_below : (es : List Entry) (f : Entry) (fs : List Entry) → all (name_below f) es ≡ true → joined es (f ∷ fs) ≡ f
    ∷ joined es fs
join_below [] f fs h = refl
join_below (e ∷ es) f fs h =
    let a = and_true_both (name_below f e) (all (name_below f) es) h in
    rw (join_below es f fs a.1) (with-above e f (joined es fs) a.0)

-- the second's is below:
pub join_second :
    (e : Entry) (es : List Entry) (f : Entry) (fs : List Entry) → rising (e ∷ es) ≡ true → rising (f ∷ fs) ≡ true
    → name_below f e ≡ true → joined (e ∷ es) (f ∷ fs) ≡ f ∷ joined (e ∷ es) fs
join_second e es f fs r s h = join_below (e
    ∷ es) f fs (rising_head f (e ∷ es) (and_intro (name_below f e) (rising (e ∷ es)) h r))

-- both have the name:
pub join_both :
    (e : Entry) (es : List Entry) (f : Entry) (fs : List Entry) → rising (e ∷ es) ≡ true → rising (f ∷ fs) ≡ true
    → e.name ≡ f.name → joined (e ∷ es) (f ∷ fs) ≡ e ∷ joined es fs
join_both e es f fs r s q =
    let above : all (name_below f) es ≡ true = subst (λ (w : List ℕ). all (λ g. below w g.name) es ≡ true) q
    (rising_head e es r) in
    let order =
    rising_cons f (joined es fs) (all-joined (name_below f) es fs above (rising_head f fs s))
    (joined-rising es fs (rising_tail e es r) (rising_tail f fs s))
    in
    ap (with e) (join_below es f fs above) ∙ with-same e f (joined es fs) order q

-- an entry of another name stays when e is set
stays : (e x : Entry) (es : List Entry) → x ∈ es → same e.name x.name ≡ false → x ∈ with e es
stays e x es m h =
    in_insert name_below x e (without e.name es)
    (inr (in_keep (λ f. not (named e.name f)) x es m (rw (differs_swap e.name x.name h))))

-- every entry of the first is there
in_first : (es fs : List Entry) → rising es ≡ true → (x : Entry) → x ∈ es → x ∈ joined es fs
in_first [] fs r x m = absurd m
in_first (e ∷ es) fs r x (inl q) = in_insert name_below x e (without e.name (joined es fs)) (inl q)
in_first (e ∷ es) fs r x (inr m) =
    stays e x (joined es fs) (in_first es fs (rising_tail e es r) x m)
    (below_differs e.name x.name (all_in (name_below e) x es (rising_head e es r) m))

-- and of the second each whose name the first lacks
in_second : (es fs : List Entry) (x : Entry) → x ∈ fs → holds x.name es ≡ false → x ∈ joined es fs
in_second [] fs x m h = m
in_second (e ∷ es) fs x m h =
    by_test (named x.name e)
    (λ t. absurd (false≢true (sym h ∙ (rw t))))
    (λ t. stays e x (joined es fs) (in_second es fs x m (rw t at h)) t)

-- and nothing but these
abbrev OfEither : List Entry → List Entry → Entry → Type 0
OfEither es fs x = (x ∈ es) ⊎ ((x ∈ fs) × (holds x.name es ≡ false))

in_either : (es fs : List Entry) (x : Entry) → x ∈ joined es fs → OfEither es fs x
in_either [] fs x m = inr (m, refl)
in_either (e ∷ es) fs x m = go (insert_in name_below x e (without e.name (joined es fs)) m) (in_either es fs x)
  where
    later : same x.name e.name ≡ false → OfEither es fs x → OfEither (e ∷ es) fs x
    later d (inl n) = inl (inr n)
    later d (inr n) = inr (n.0, rw (differs_swap x.name e.name d) n.1)

    go : x ∈ (e ∷ without e.name (joined es fs)) → (x ∈ joined es fs → OfEither es fs x) → OfEither (e ∷ es) fs x
    go (inl q) ih = inl (inl q)
    go (inr n) ih =
        let k = keep_in (λ f. not (named e.name f)) x (joined es fs) n in
        later (not-true (same x.name e.name) k.1) (ih k.0)

pub joins : (es fs : List Entry) → rising es ≡ true → rising fs ≡ true → Joins es fs (joined es fs)
joins es fs r s =
    record {
      once = joined-rising es fs r s;
      of_first = in_first es fs r;
      of_second = in_second es fs;
      no_other = in_either es fs;
    }

-- Rising lists that hold the same entries are equal. What stands behind the head of one stands behind that of the
-- other:
behind_head :
    (e : Entry) (es : List Entry) (f : Entry) (fs : List Entry) → rising (e ∷ es) ≡ true → e ≡ f
    → (x : Entry) → x ∈ es → x ∈ (f ∷ fs) → x ∈ fs
behind_head e es f fs r q x m (inl p) =
    let b = all_in (name_below e) x es (rising_head e es r) m in
    absurd (false≢true (sym (below_irrefl f.name) ∙ (rw (q, p) at b)))
behind_head e es f fs r q x m (inr n) = n

rising_unique :
    (es fs : List Entry) → rising es ≡ true → rising fs ≡ true
    → ((x : Entry) → x ∈ es → x ∈ fs) → ((x : Entry) → x ∈ fs → x ∈ es) → es ≡ fs
rising_unique [] [] r s there back = refl
rising_unique [] (f ∷ fs) r s there back = absurd (back f (inl refl))
rising_unique (e ∷ es) [] r s there back = absurd (there e (inl refl))
rising_unique (e ∷ es) (f ∷ fs) r s there back =
    let q = heads (there e (inl refl)) (back f (inl refl)) in
    let t =
    rising_unique es fs (rising_tail e es r) (rising_tail f fs s)
    (λ x m. behind_head e es f fs r q x m (there x (inr m)))
    (λ x m. behind_head f fs e es s (sym q) x m (back x (inr m)))
    in
    cc
  where
    heads : e ∈ (f ∷ fs) → f ∈ (e ∷ es) → e ≡ f
    heads (inl q) n = q
    heads (inr m) (inl q) = sym q
    heads (inr m) (inr n) =
        absurd
        (false≢true
        (sym (below_asym f.name e.name (all_in (name_below f) e fs (rising_head f fs s) m))
        ∙ all_in (name_below e) f es (rising_head e es r) n))

-- and only this list joins them
pub joins_unique : (es fs gs : List Entry) → rising es ≡ true → rising fs ≡ true → Joins es fs gs → gs ≡ joined es fs
joins_unique es fs gs r s j =
    rising_unique gs (joined es fs) j.once (joined-rising es fs r s) (λ x m. there x (j.no_other x m))
    (λ x m. back x (in_either es fs x m))
  where
    there : (x : Entry) → OfEither es fs x → x ∈ joined es fs
    there x (inl m) = in_first es fs r x m
    there x (inr m) = in_second es fs x m.0 m.1

    back : (x : Entry) → OfEither es fs x → x ∈ gs
    back x (inl m) = j.of_first x m
    back x (inr m) = j.of_second x m.0 m.1
