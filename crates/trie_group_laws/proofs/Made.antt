-- A set of suffixes that a label begins, and what a group is made of.
use Prim.Native.Nat.{◌+◌, ◌<◌, ◌^◌, ◌≤◌, max, suc, ℕ}
use mathlib.Core.Path.{◌∙◌, ◌≡◌, ap, refl, sym}
use mathlib.Core.Logic.{inl, inr}
use mathlib.Core.Bool.{Bool, false, true}
use mathlib.Core.List.{List, [], ◌++◌, ◌∷◌}
use lib.Dec.{eqb}
use lib.ListN.{drop, length, length-append, length-take, take}
use lib.Seq.{drop-append_seam, take_all, take-append_seam}
use native.Mathlib.Omega.{arith}
use borrow.Author.Tests.{eq-eqb, eqb-false, eqb-true, ne_eqb}
use Rattle.octets.proofs.Lists.{in_map, map_in}
use Rattle.octets.proofs.Tests.{by_test, eqb_self}
use Rattle.octets.specs.Lists.{◌∈◌}
use Rattle.octets.specs.Octets.{below, common}
use Rattle.entries.proofs.BestList.{different-rising}
use Rattle.entries.specs.Entries.{Entry, entry, rising}
use Rattle.entries_laws.specs.Signs.{half_after, no_half}
use Rattle.entries_laws.proofs.Signs.{half_append}
use Rattle.trie.proofs.Sets.{OneFirst, highest-remains, label_progress, label_short, label_split, length-remains}
use Rattle.trie.proofs.Sets.{one_first, used_up_lem}
use Rattle.trie.specs.Reading.{prefixed}
use Rattle.trie.specs.Trie.{common_prefix, highest, label_of, remains, same_first, used_up}
use Rattle.trie.proofs.Trie.{run-some}
use Rattle.octets.proofs.Order.{below-append}

common_more : (l p w : List ℕ) → common (l ++ p) (l ++ w) ≡ length l + common p w
common_more [] p w = omega arith
common_more (x ∷ l) p w = let ih = common_more l p w in rw (eqb_self x) (omega arith)

take_more : (l p : List ℕ) (k : ℕ) → take (length l + k) (l ++ p) ≡ l ++ take k p
take_more [] p k = let q : 0 + k ≡ k = omega arith in rw q
take_more (x ∷ l) p k = let q : suc (length l) + k ≡ suc (length l + k) = omega arith in
    rw q (ap (λ r. x ∷ r) (take_more l p k))

prefix_more : (l : List ℕ) (e : Entry) (es : List Entry) → common_prefix (prefixed l (e ∷ es)) ≡ l
    ++ common_prefix (e ∷ es)
prefix_more l e [] = refl
prefix_more l e (f ∷ es) =
    let ih = prefix_more l f es in
    rw (ih, common_more l (common_prefix (f ∷ es)) e.name) (take_more l (common_prefix (f
    ∷ es)) (common (common_prefix (f ∷ es)) e.name))

rising_more : (l : List ℕ) (es : List Entry) → rising (prefixed l es) ≡ rising es
rising_more l [] = refl
rising_more l (e ∷ []) = refl
rising_more l (e ∷ f ∷ es) = let ih = rising_more l (f ∷ es) in rw (below-append l e.name f.name, ih)

pub highest_more : (l : List ℕ) (es : List Entry) → highest (prefixed l es) ≡ highest es
highest_more l [] = refl
highest_more l (e ∷ es) = ap (max e.score) (highest_more l es)

pub length_more : (l : List ℕ) (es : List Entry) → length (prefixed l es) ≡ length es
length_more l [] = refl
length_more l (e ∷ es) = ap suc (length_more l es)

pub remains_more : (l : List ℕ) (es : List Entry) → remains (length l) (prefixed l es) ≡ es
remains_more l [] = refl
remains_more l (e ∷ es) =
    let q = drop-append_seam l e.name in
    let ih = remains_more l es in
    λ i. record { name = q i; score = e.score } ∷ ih i

pub used_up_more : (l : List ℕ) (es : List Entry) → used_up (length l) (prefixed l es) ≡ used_up 0 es
used_up_more l [] = refl
used_up_more l (e ∷ []) =
    let n = length-append l e.name in
    by_test (eqb (length e.name) 0)
    (λ t. let q = eqb-true (length e.name) 0 t in rw (t, eq-eqb (length (l ++ e.name)) (length l) (omega arith)))
    (λ t. let q = eqb-false (length e.name) 0 t in
    rw (t, ne_eqb (length (l ++ e.name)) (length l) (λ z. q (omega arith))))
used_up_more l (e ∷ f ∷ es) = refl

run_more : (l : List ℕ) (e : Entry) (es : List Entry) → 0 < length l → OneFirst (prefixed l (e ∷ es))
run_more [] e es h = absurd (omega arith)
run_more (x ∷ l) e es h = one_first (entry ((x ∷ l) ++ e.name) e.score) (prefixed (x
    ∷ l) es) (λ f m. go f (map_in (λ g. entry ((x ∷ l) ++ g.name) g.score) f es m))
  where
    go : (f : Entry) → (g : Entry) × (g ∈ es) × (f ≡ entry ((x ∷ l) ++ g.name) g.score)
        → same_first ((x ∷ l) ++ e.name) f.name ≡ true
    go f q = rw q.2 (eqb_self x)

-- What a group is made of: suffixes of names whose first `path` bytes stand above, with the half of a pair open behind
-- them. `full`: the label above has 7 bytes, or there is none.
pub record Suffixes (path half : ℕ) (full : Bool) (es : List Entry) : Type 0 where
  pub some : 0 < length es
  pub up : rising es ≡ true
  pub allowed : (e : Entry) → e ∈ es → half_after half e.name ≡ no_half
  pub short : (e : Entry) → e ∈ es → path + length e.name ≤ 48
  pub fits : (e : Entry) → e ∈ es → e.score < 2 ^ 32
  pub ends : path ≡ 0 → (e : Entry) → e ∈ es → 0 < length e.name
  pub lone : used_up 0 es ≡ false
  pub wide : full ≡ false → common_prefix es ≡ []

-- What a node is made of: a label and a score, and for a node with children the suffixes of its group.
pub record IsLeaf (path half : ℕ) (l : List ℕ) (v : ℕ) : Type 0 where
  pub short : length l < 8
  pub allowed : half_after half l ≡ no_half
  pub within : path + length l ≤ 48
  pub fits : v < 2 ^ 32
  pub ends : path ≡ 0 → 0 < length l

pub record IsInner (path half : ℕ) (l : List ℕ) (es : List Entry) : Type 0 where
  pub short : length l < 8
  pub some : 0 < length l
  pub below : Suffixes (path + length l) (half_after half l) (eqb (length l) 7) es

pub data Made (path half : ℕ) : List ℕ → ℕ → List Entry → Type 0 where
  leaf : {l : List ℕ} {v : ℕ} → IsLeaf path half l v → Made path half l v (entry l v ∷ [])
  inner : {l : List ℕ} {es : List Entry} → IsInner path half l es → Made path half l (highest es) (prefixed l es)

-- what the set of a node has
pub record Facts (path half : ℕ) (l : List ℕ) (v : ℕ) (s : List Entry) : Type 0 where
  pub run : OneFirst s
  pub up : rising s ≡ true
  pub label : label_of s ≡ l
  pub top : highest s ≡ v
  pub allowed : (e : Entry) → e ∈ s → half_after half e.name ≡ no_half
  pub short : (e : Entry) → e ∈ s → path + length e.name ≤ 48
  pub fits : (e : Entry) → e ∈ s → e.score < 2 ^ 32
  pub ends : path ≡ 0 → (e : Entry) → e ∈ s → 0 < length e.name

pub leaf_facts : (path half : ℕ) (l : List ℕ) (v : ℕ) → IsLeaf path half l v → Facts path half l v (entry l v ∷ [])
leaf_facts path half l v h =
    record {
      run = one_first (entry l v) [] (λ f m. absurd m);
      up = refl;
      label = take_all 7 l (omega (arith, h.short));
      top = omega arith;
      allowed = λ e m. go e m (λ x. half_after half x.name ≡ no_half) h.allowed;
      short = λ e m. go e m (λ x. path + length x.name ≤ 48) h.within;
      fits = λ e m. go e m (λ x. x.score < 2 ^ 32) h.fits;
      ends = λ z e m. go e m (λ x. 0 < length x.name) (h.ends z);
    }
  where
    go : (e : Entry) → e ∈ (entry l v ∷ []) → (P : Entry → Type 0) → P (entry l v) → P e
    go e (inl q) P p = rw q p
    go e (inr m) P p = absurd m

label_of_lem : (l p : List ℕ) → length l < 8 → (eqb (length l) 7 ≡ false → p ≡ []) → take 7 (l ++ p) ≡ l
label_of_lem l p h k =
    by_test (eqb (length l) 7)
    (λ t. let q = eqb-true (length l) 7 t in rw (← q) (take-append_seam l p))
    (λ t. let n = ap length (k t) in let a = length-append l p in take_all 7 (l ++ p) (omega arith) ∙ rw (k t) (nil l))
  where
    nil : (w : List ℕ) → w ++ [] ≡ w
    nil [] = refl
    nil (x ∷ w) = ap (λ r. x ∷ r) (nil w)

some_cons : (l : List ℕ) (es : List Entry) → 0 < length es → common_prefix (prefixed l es) ≡ l ++ common_prefix es
some_cons l [] h = absurd (omega arith)
some_cons l (e ∷ es) h = prefix_more l e es

some-run : (l : List ℕ) (es : List Entry) → 0 < length es → 0 < length l → OneFirst (prefixed l es)
some-run l [] h k = absurd (omega arith)
some-run l (e ∷ es) h k = run_more l e es k

pub inner_facts : (path half : ℕ) (l : List ℕ) (es : List Entry) → IsInner path half l es
    → Facts path half l (highest es) (prefixed l es)
inner_facts path half l es h =
    record {
      run = some-run l es h.below.some h.some;
      up = rising_more l es ∙ h.below.up;
      label = rw (some_cons l es h.below.some) (label_of_lem l (common_prefix es) h.short h.below.wide);
      top = highest_more l es;
      allowed = λ e m. let q = of e m in
          rw q.2 (half_append half l q.0.name ∙ h.below.allowed q.0 q.1);
      short =
          λ e m.
          let q = of e m in
          let a = h.below.short q.0 q.1 in
          let b = length-append l q.0.name in
          rw q.2 (omega arith);
      fits = λ e m. let q = of e m in rw q.2 (h.below.fits q.0 q.1);
      ends =
          λ z e m.
          let q = of e m in
          let a = h.some in
          let b = length-append l q.0.name in
          rw q.2 (omega arith);
    }
  where
    of : (e : Entry) → e ∈ prefixed l es → (g : Entry) × (g ∈ es) × (e ≡ entry (l ++ g.name) g.score)
    of e m = map_in (λ g. entry (l ++ g.name) g.score) e es m

pub made_facts : {path half : ℕ} {l : List ℕ} {v : ℕ} {s : List Entry} → Made path half l v s → Facts path half l v s
made_facts {path} {half} (leaf {l} {v} h) = leaf_facts path half l v h
made_facts {path} {half} (inner {l} {es} h) = inner_facts path half l es h

-- A set of suffixes of a group is what a node is made of.
pub record Plain (path half : ℕ) (s : List Entry) : Type 0 where
  pub run : OneFirst s
  pub up : rising s ≡ true
  pub allowed : (e : Entry) → e ∈ s → half_after half e.name ≡ no_half
  pub short : (e : Entry) → e ∈ s → path + length e.name ≤ 48
  pub fits : (e : Entry) → e ∈ s → e.score < 2 ^ 32
  pub ends : path ≡ 0 → (e : Entry) → e ∈ s → 0 < length e.name

put_back : (l : List ℕ) (s : List Entry) → ((e : Entry) → e ∈ s → e.name ≡ l ++ drop (length l) e.name)
    → s ≡ prefixed l (remains (length l) s)
put_back l [] h = refl
put_back l (e ∷ s) h =
    let q = h e (inl refl) in
    let ih = put_back l s (λ f m. h f (inr m)) in
    λ i. record { name = q i; score = e.score } ∷ ih i

take_whole : (l p : List ℕ) → length l < 7 → take 7 (l ++ p) ≡ l → p ≡ []
take_whole l p h q = go p (let a = ap length q in let b = length-take 7 (l
    ++ p) in let c = length-append l p in omega arith)
  where
    go : (w : List ℕ) → length w ≡ 0 → w ≡ []
    go [] z = refl
    go (x ∷ w) z = absurd (omega arith)

in_eq : (x : Entry) (s t : List Entry) → s ≡ t → x ∈ t → x ∈ s
in_eq x s t q m = rw q m

made_eq : (path half : ℕ) (l : List ℕ) (v w : ℕ) (s t : List Entry) → s ≡ t → v ≡ w → Made path half l w t
    → Made path half l v s
made_eq path half l v w s t q r m = rw (q, r) m

pub plain_made : (path half : ℕ) (s : List Entry) → Plain path half s → Made path half (label_of s) (highest s) s
plain_made path half s h =
    by_test (used_up (length (label_of s)) s)
    (λ t. made_eq path half (label_of s) (highest s) (highest s) s (entry (label_of s) (highest s)
    ∷ []) (used_up_lem s t) refl (leaf (is_leaf t)))
    (λ t. made_eq path half (label_of s) (highest s) (highest es) s (prefixed (label_of s) es) whole
    (sym (highest-remains (length (label_of s)) s)) (inner (is_inner t)))
  where
    es : List Entry
    es = remains (length (label_of s)) s

    whole : s ≡ prefixed (label_of s) es
    whole = put_back (label_of s) s (label_split s)

    is_leaf : used_up (length (label_of s)) s ≡ true → IsLeaf path half (label_of s) (highest s)
    is_leaf t =
        let m : entry (label_of s) (highest s) ∈ s = in_eq (entry (label_of s) (highest s)) s
        (entry (label_of s) (highest s) ∷ []) (used_up_lem s t) (inl refl) in
        record {
          short = label_short s;
          allowed = h.allowed (entry (label_of s) (highest s)) m;
          within = h.short (entry (label_of s) (highest s)) m;
          fits = h.fits (entry (label_of s) (highest s)) m;
          ends = λ z. h.ends z (entry (label_of s) (highest s)) m;
        }

    some : 0 < length es
    some = rw length-remains (run-some s h.run)

    back : (e : Entry) → e ∈ es → entry (label_of s ++ e.name) e.score ∈ s
    back e m = in_eq (entry (label_of s
        ++ e.name) e.score) s (prefixed (label_of s) es) whole (in_map (λ g. entry (label_of s
        ++ g.name) g.score) e es m)

    is_inner : used_up (length (label_of s)) s ≡ false → IsInner path half (label_of s) es
    is_inner t =
        let progress = label_progress s h.run (different-rising s h.up) t in
        record {
          short = label_short s;
          some = progress;
          below =
              record {
                some = some;
                up = sym (rising_more (label_of s) es) ∙ sym (ap rising whole) ∙ h.up;
                allowed =
                    λ e m.
                    sym (half_append half (label_of s) e.name)
                    ∙ h.allowed (entry (label_of s ++ e.name) e.score) (back e m);
                short =
                    λ e m.
                    let a = h.short (entry (label_of s ++ e.name) e.score) (back e m) in
                    let b = length-append (label_of s) e.name in
                    omega arith;
                fits = λ e m. h.fits (entry (label_of s ++ e.name) e.score) (back e m);
                ends = λ z. absurd (omega arith);
                lone = sym (used_up_more (label_of s) es) ∙ sym (ap (used_up (length (label_of s))) whole) ∙ t;
                wide =
                    λ f.
                    let n = eqb-false (length (label_of s)) 7 f in
                    let b = label_short s in
                    take_whole (label_of s) (common_prefix es) (less n)
                    (sym (ap (take 7) (some_cons (label_of s) es some)) ∙ sym (ap label_of whole));
              };
        }
      where
        less : (length (label_of s) ≡ 7 → ⊥) → length (label_of s) < 7
        less n = let b = label_short s in omega arith
