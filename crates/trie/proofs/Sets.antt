-- The sets of suffixes by first byte, their labels, and what remains.
use Prim.Native.Nat.{◌<◌, max, suc, ℕ}
use mathlib.Core.Path.{◌∙◌, ◌≡◌, ap, refl, sym}
use mathlib.Core.Logic.{inl, inr}
use mathlib.Core.Bool.{Bool, false, false≢true, true}
use mathlib.Core.List.{List, [], ◌++◌, ◌∷◌}
use lib.Dec.{eqb}
use lib.ListN.{drop, length, length-take, take}
use lib.Seq.{take_all}
use native.Mathlib.Omega.{arith}
use borrow.Author.Tests.{eq-eqb, eqb-true}
use Rattle.octets.specs.Lists.{◌∈◌, concat_map}
use Rattle.octets.specs.Octets.{begins, common}
use Rattle.octets.proofs.Coding.{common-take}
use Rattle.octets.proofs.Lists.{in_append_left, in_append_right, map_in}
use Rattle.octets.proofs.Order.{begins_self, begins_split, begins-take}
use Rattle.octets.proofs.Tests.{and_true_both, by_test, eqb_self}
use Rattle.entries.specs.Completion.{different}
use Rattle.entries.specs.Entries.{Entry, at, entry, rising}
use Rattle.entries.proofs.Same.{entry_eq}
use Rattle.entries.proofs.Valid.{rising_left, rising_right}
use Rattle.trie.specs.Trie.{by_first, common_prefix, highest, join_first, label_of, remains, same_first, used_up}

abbrev pub flat : List (List Entry) → List Entry
flat ss = concat_map (λ s. s) ss

-- the sets, one after the other, are the whole set
join_flat : (e : Entry) (ss : List (List Entry)) → flat (join_first e ss) ≡ e ∷ flat ss
join_flat e [] = refl
join_flat e ([] ∷ ss) = refl
join_flat e ((f ∷ fs) ∷ ss) = by_test (same_first e.name f.name) (λ t. rw t) (λ t. rw t)

pub by_first_flat : (es : List Entry) → flat (by_first es) ≡ es
by_first_flat [] = refl
by_first_flat (e ∷ es) = join_flat e (by_first es) ∙ ap (λ l. e ∷ l) (by_first_flat es)

pub in_flat : (e : Entry) (s : List Entry) (ss : List (List Entry)) → e ∈ s → s ∈ ss → e ∈ flat ss
in_flat e s [] m n = absurd n
in_flat e s (t ∷ ss) m (inl q) = in_append_left e t (flat ss) (rw q at m)
in_flat e s (t ∷ ss) m (inr n) = in_append_right e t (flat ss) (in_flat e s ss m n)

rising_part : (s : List Entry) (ss : List (List Entry)) → rising (flat ss) ≡ true → s ∈ ss → rising s ≡ true
rising_part s [] h m = absurd m
rising_part s (t ∷ ss) h (inl q) = rw q (rising_left t (flat ss) h)
rising_part s (t ∷ ss) h (inr m) = rising_part s ss (rising_right t (flat ss) h) m

pub set-rising : (es s : List Entry) → rising es ≡ true → s ∈ by_first es → rising s ≡ true
set-rising es s r m = rising_part s (by_first es) (rw (by_first_flat es) r) m

different_left : (xs ys : List Entry) → different (xs ++ ys) → different xs
different_left [] ys d = tt
different_left (x ∷ xs) ys d = ((λ f m. d.0 f (in_append_left f xs ys m)), different_left xs ys d.1)

different_right : (xs ys : List Entry) → different (xs ++ ys) → different ys
different_right [] ys d = d
different_right (x ∷ xs) ys d = different_right xs ys d.1

pub different_flat : (s : List Entry) (ss : List (List Entry)) → different (flat ss) → s ∈ ss → different s
different_flat s [] d n = absurd n
different_flat s (t ∷ ss) d (inl q) = rw q (different_left t (flat ss) d)
different_flat s (t ∷ ss) d (inr n) = different_flat s ss (different_right t (flat ss) d) n

-- a set has a suffix, and all begin with the same byte or are empty
pub data OneFirst : List Entry → Type 0 where
  one_first : (e : Entry) (es : List Entry) → ((f : Entry) → f ∈ es → same_first e.name f.name ≡ true)
      → OneFirst (e ∷ es)

same_first_trans : (u v w : List ℕ) → same_first u v ≡ true → same_first v w ≡ true → same_first u w ≡ true
same_first_trans [] [] w h k = k
same_first_trans [] (y ∷ v) w h k = cc
same_first_trans (x ∷ u) [] w h k = cc
same_first_trans (x ∷ u) (y ∷ v) [] h k = k
same_first_trans (x ∷ u) (y ∷ v) (z ∷ w) h k = eq-eqb x z (eqb-true x y h ∙ eqb-true y z k)

join_run : (e : Entry) (ss : List (List Entry)) → ((s : List Entry) → s ∈ ss → OneFirst s) → (s : List Entry)
    → s ∈ join_first e ss → OneFirst s
join_run e [] h s (inl q) = rw q (one_first e [] (λ f m. absurd m))
join_run e [] h s (inr m) = absurd m
join_run e ([] ∷ ss) h s (inl q) = rw q (one_first e [] (λ f m. absurd m))
join_run e ([] ∷ ss) h s (inr m) = h s (inr m)
join_run e ((f ∷ fs) ∷ ss) h s m = by_test (same_first e.name f.name) (λ t. joined t (rw t at m))
    (λ t. apart (rw t at m))
  where
    all_same : OneFirst (f ∷ fs) → same_first e.name f.name ≡ true → (g : Entry) → g ∈ (f ∷ fs)
        → same_first e.name g.name ≡ true
    all_same r t g (inl q) = rw q t
    all_same (one_first f' fs' k) t g (inr n) = same_first_trans e.name f'.name g.name t (k g n)

    joined : same_first e.name f.name ≡ true → s ∈ ((e ∷ f ∷ fs) ∷ ss) → OneFirst s
    joined t (inl q) = rw q (one_first e (f ∷ fs) (all_same (h (f ∷ fs) (inl refl)) t))
    joined t (inr n) = h s (inr n)

    apart : s ∈ ((e ∷ []) ∷ (f ∷ fs) ∷ ss) → OneFirst s
    apart (inl q) = rw q (one_first e [] (λ g n. absurd n))
    apart (inr n) = h s n

pub by_first-run : (es : List Entry) (s : List Entry) → s ∈ by_first es → OneFirst s
by_first-run [] s m = absurd m
by_first-run (e ∷ es) s m = join_run e (by_first es) (by_first-run es) s m

pub common_prefix-begins : (es : List Entry) (e : Entry) → e ∈ es → begins (common_prefix es) e.name ≡ true
common_prefix-begins [] e m = absurd m
common_prefix-begins (f ∷ []) e (inl q) = rw q (begins_self f.name)
common_prefix-begins (f ∷ []) e (inr m) = absurd m
common_prefix-begins (f ∷ g ∷ es) e (inl q) =
    rw (q, common-take (common_prefix (g ∷ es)) f.name)
    (begins-take (common (common_prefix (g ∷ es)) f.name) f.name f.name (begins_self f.name))
common_prefix-begins (f ∷ g ∷ es) e (inr m) =
    begins-take (common (common_prefix (g ∷ es)) f.name) (common_prefix (g ∷ es)) e.name (common_prefix-begins (g
    ∷ es) e m)

pub label_split : (es : List Entry) (e : Entry) → e ∈ es → e.name ≡ label_of es ++ drop (length (label_of es)) e.name
label_split es e m = begins_split (label_of es) e.name
    (begins-take 7 (common_prefix es) e.name (common_prefix-begins es e m))

pub label_short : (es : List Entry) → length (label_of es) < 8
label_short es = rw length-take (omega arith)

-- a first byte that all share is in the common prefix
abbrev pub starts : ℕ → List ℕ → Bool
starts x w = begins (x ∷ []) w

starts_common : (x : ℕ) (p w : List ℕ) → starts x p ≡ true → starts x w ≡ true → starts x (take (common p w) p) ≡ true
starts_common x [] w h k = h
starts_common x (y ∷ p) [] h k = absurd (false≢true k)
starts_common x (y ∷ p) (z ∷ w) h k =
    let a : x ≡ y = eqb-true x y (and_true_both (eqb x y) true h).0 in
    let b : x ≡ z = eqb-true x z (and_true_both (eqb x z) true k).0 in
    rw (eq-eqb y z (sym a ∙ b)) h

pub starts_prefix : (x : ℕ) (e : Entry) (es : List Entry) → ((f : Entry) → f ∈ (e ∷ es) → starts x f.name ≡ true)
    → starts x (common_prefix (e ∷ es)) ≡ true
starts_prefix x e [] h = h e (inl refl)
starts_prefix x e (f ∷ es) h =
    starts_common x (common_prefix (f ∷ es)) e.name (starts_prefix x f es (λ g m. h g (inr m))) (h e (inl refl))

starts_length : (x : ℕ) (p : List ℕ) → starts x p ≡ true → 0 < length (take 7 p)
starts_length x [] h = absurd (false≢true h)
starts_length x (y ∷ p) h = omega arith

pub same_first_starts : (x : ℕ) (w v : List ℕ) → same_first (x ∷ w) v ≡ true → starts x v ≡ true
same_first_starts x w [] h = h
same_first_starts x w (y ∷ v) h = rw h

same_first_empty : (v : List ℕ) → same_first [] v ≡ true → v ≡ []
same_first_empty [] h = refl
same_first_empty (y ∷ v) h = cc

-- a set that is no used-up suffix has a label
pub label_progress : (s : List Entry) → OneFirst s → different s → used_up (length (label_of s)) s ≡ false
    → 0 < length (label_of s)
label_progress s (one_first e es k) d u = go e.name refl
  where
    lone : (fs : List Entry) → ((f : Entry) → f ∈ fs → same_first e.name f.name ≡ true) → different (e ∷ fs)
        → used_up (length (label_of (e ∷ fs))) (e ∷ fs) ≡ false → e.name ≡ [] → ⊥
    lone [] k' d' u' q = let z : ◌≡◌ {A = Bool} true false = rw q at u' in false≢true (sym z)
    lone (f ∷ fs) k' d' u' q = let z : same_first [] f.name ≡ true = rw q at (k' f (inl refl)) in
        d'.0 f (inl refl) (q ∙ sym (same_first_empty f.name z))

    each : (x : ℕ) (w : List ℕ) → e.name ≡ x ∷ w → (f : Entry) → f ∈ (e ∷ es) → starts x f.name ≡ true
    each x w q f (inl r) = rw (r, q) (rw (eqb_self x))
    each x w q f (inr m) = same_first_starts x w f.name (rw q at (k f m))

    go : (w : List ℕ) → e.name ≡ w → 0 < length (label_of (e ∷ es))
    go [] q = absurd (lone es k d u q)
    go (x ∷ w) q = starts_length x (common_prefix (e ∷ es)) (starts_prefix x e es (each x w q))

-- what remains of a set
abbrev pub stripped : ℕ → Entry → Entry
stripped k e = entry (drop k e.name) e.score

pub different-remains : (l : List ℕ) (s : List Entry)
    → ((e : Entry) → e ∈ s → e.name ≡ l ++ drop (length l) e.name) → different s → different (remains (length l) s)
different-remains l [] h d = tt
different-remains l (e ∷ s) h d = (
  (λ f m. apart f (map_in (stripped (length l)) f s m)),
  different-remains l s (λ f m. h f (inr m)) d.1,
)
  where
    apart : (f : Entry) → (x : Entry) × (x ∈ s) × (f ≡ stripped (length l) x) → drop (length l) e.name ≡ f.name → ⊥
    apart f r q =
        let a = h e (inl refl) in
        let b = h r.0 (inr r.1) in
        let c : f.name ≡ drop (length l) r.0.name = ap (λ x. x.name) r.2 in
        let z : drop (length l) e.name ≡ drop (length l) r.0.name = q ∙ c in
        d.0 r.0 r.1 (a ∙ ap (λ t. l ++ t) z ∙ sym b)

pub highest-remains : (k : ℕ) (s : List Entry) → highest (remains k s) ≡ highest s
highest-remains k [] = refl
highest-remains k (e ∷ s) = ap (max e.score) (highest-remains k s)

pub length-remains : (k : ℕ) (s : List Entry) → length (remains k s) ≡ length s
length-remains k [] = refl
length-remains k (e ∷ s) = ap suc (length-remains k s)

pub highest-below : (b : ℕ) (s : List Entry) → 0 < b → ((e : Entry) → e ∈ s → e.score < b) → highest s < b
highest-below b [] z h = z
highest-below b (e ∷ s) z h = let a = h e (inl refl) in let c = highest-below b s z (λ f m. h f (inr m)) in omega arith

-- a used-up suffix is the label itself
pub used_up_lem : (s : List Entry) → used_up (length (label_of s)) s ≡ true → s ≡ entry (label_of s) (highest s) ∷ []
used_up_lem [] u = absurd (false≢true u)
used_up_lem (e ∷ []) u =
    let a = eqb-true (length e.name) (length (label_of (e ∷ []))) u in
    let b = length-take 7 e.name in
    let n : e.name ≡ take 7 e.name = sym (take_all 7 e.name (omega arith)) in
    ap (λ f. f ∷ []) (entry_eq e (entry (label_of (e ∷ [])) (highest (e ∷ []))) n (omega arith))
used_up_lem (e ∷ f ∷ s) u = absurd (false≢true u)
