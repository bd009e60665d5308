-- Siblings and what stands under them, as bytes at two places of an image.
use Prim.Native.Nat.{◌+◌, ◌-◌, ◌<◌, ◌≤◌, ℕ}
use mathlib.Core.Path.{◌∙◌, ◌≡◌, ap, refl, sym}
use mathlib.Core.Bool.{Bool, false, false≢true, true}
use mathlib.Core.List.{List, [], ◌++◌, ◌∷◌, append_assoc}
use lib.ListN.{drop, length, length-append, length-drop}
use native.Mathlib.Omega.{arith}
use borrow.Author.Tests.{eq-eqb, ne_eqb}
use Rattle.octets.proofs.Tests.{by_test}
use Rattle.entries.specs.Entries.{Entry, entry}
use Rattle.trie.proofs.Trie.{any_inner, node_inner, node_leaf, siblings_inner, siblings_leaf, siblings_own, unders}
use Rattle.trie.specs.Reading.{prefixed}
use Rattle.trie.specs.Trie.{Node, first_score, group_bytes, is_last, is_leaf, label_of, node_bytes, node_of, other_bytes}
use Rattle.trie.specs.Trie.{own_size, remains, siblings, size_of, used_up}
use Rattle.trie_group_laws.proofs.Made.{remains_more, used_up_more}

-- siblings without children have no child field
pub siblings-any : (f b z b' z' : ℕ) (xs : List Node) → any_inner xs ≡ false → siblings f b z xs ≡ siblings f b' z' xs
siblings-any f b z b' z' [] h = refl
siblings-any f b z b' z' (x ∷ xs) h =
    by_test (is_leaf x)
    (λ t.
    siblings_leaf f b z x xs t
    ∙ ap (λ l. node_bytes x f 0 0 (is_last xs) ++ l) (siblings-any (x.score - first_score xs) b z b' z' xs (rw t at h))
    ∙ sym (siblings_leaf f b' z' x xs t))
    (λ t. absurd (false≢true (sym h ∙ rw t)))

-- The bytes of siblings at `at`, ending at `e`, and of what stands under them at `next`, ending at `q`. The next child
-- field is `back`, in the size of the group's own if `own`.
pub record GroupWritten (s : List ℕ) (at next back : ℕ) (own : Bool) (e q f size : ℕ) (xs : List Node) : Type 0 where
  pub here : drop at s ≡ siblings f back size xs ++ drop e s
  pub there : drop next s ≡ unders xs ++ drop q s
  pub is_own : own ≡ true → any_inner xs ≡ true → size ≡ own_size (back - size)
  pub is_next : own ≡ false → size ≡ size_of back

-- a drop that is a list and a later drop
pub drop-length : (s u : List ℕ) (a b : ℕ) → drop a s ≡ u ++ drop b s → a ≤ b → b ≤ length s → length u ≡ b - a
drop-length s u a b h l m =
    let p = ap length h in
    let q = length-append u (drop b s) in
    let x = length-drop a s in
    let y = length-drop b s in
    omega arith

-- the node of a leaf and of a set under a label
pub leaf_under : (b : List Entry → List ℕ) (l : List ℕ) (v : ℕ) → label_of (entry l v ∷ []) ≡ l
    → (node_of b (entry l v ∷ [])).under ≡ []
leaf_under b l v q = node_leaf b (entry l v
    ∷ []) (eq-eqb (length l) (length (label_of (entry l v ∷ []))) (sym (ap length q)))

inner_used : (l : List ℕ) (es : List Entry) → label_of (prefixed l es) ≡ l → used_up 0 es ≡ false
    → used_up (length (label_of (prefixed l es))) (prefixed l es) ≡ false
inner_used l es q u = ap (λ w. used_up (length w) (prefixed l es)) q ∙ used_up_more l es ∙ u

pub inner_under : (b : List Entry → List ℕ) (l : List ℕ) (es : List Entry) → label_of (prefixed l es) ≡ l
    → used_up 0 es ≡ false → (node_of b (prefixed l es)).under ≡ b es
inner_under b l es q u =
    node_inner b (prefixed l es) (inner_used l es q u)
    ∙ ap b (ap (λ w. remains (length w) (prefixed l es)) q ∙ remains_more l es)

-- one leaf more
pub written_leaf :
    (s : List ℕ) (at next back : ℕ) (own : Bool) (e q f f' size end : ℕ) (x : Node) (xs : List Node)
    → is_leaf x ≡ true → x.under ≡ [] → drop at s ≡ node_bytes x f 0 0 (is_last xs) ++ drop end s
    → siblings f' back size xs ≡ siblings (x.score - first_score xs) back size xs
    → GroupWritten s end next back own e q f' size xs → GroupWritten s at next back own e q f size (x ∷ xs)
written_leaf s at next back own e q f f' size end x xs t u b same w =
    record {
      here =
          b
          ∙ ap (λ l. node_bytes x f 0 0 (is_last xs) ++ l) (w.here ∙ ap (λ l. l ++ drop e s) same)
          ∙ sym (append_assoc (node_bytes x f 0 0 (is_last xs)) (siblings (x.score - first_score xs) back size xs)
          (drop e s))
          ∙ sym (ap (λ l. l ++ drop e s) (siblings_leaf f back size x xs t));
      there = w.there ∙ sym (ap (λ l. (l ++ unders xs) ++ drop q s) u);
      is_own = λ o a. w.is_own o (rw t at a);
      is_next = w.is_next;
    }

-- one node with children more
pub written_inner :
    (s : List ℕ) (at next back : ℕ) (own : Bool) (e m q f f' size size' end : ℕ) (x : Node) (xs : List Node)
    (u : List ℕ)
    → x.under ≡ u → next < m → m ≤ length s → drop next s ≡ u ++ drop m s
    → drop at s ≡ node_bytes x f back size (is_last xs) ++ drop end s
    → siblings f' (m - next) size' xs ≡ siblings (x.score - first_score xs) (m - next) size' xs
    → (own ≡ true → size ≡ own_size (back - size)) → (own ≡ false → size ≡ size_of back)
    → GroupWritten s end m (m - next) false e q f' size' xs → GroupWritten s at next back own e q f size (x ∷ xs)
written_inner s at next back own e m q f f' size size' end x xs u iu l1 l2 there b same so sn w =
    let lu = drop-length s u next m there (omega arith) l2 in
    let lx : length x.under ≡ m - next = ap length iu ∙ lu in
    let t : is_leaf x ≡ false = ne_eqb (length x.under) 0 (λ z. omega arith) in
    let z : size' ≡ size_of (m - next) = w.is_next refl in
    record {
      here =
          b
          ∙ ap (λ r. node_bytes x f back size (is_last xs) ++ r)
          (w.here ∙ ap (λ r. r ++ drop e s) (same
          ∙ (λ i. siblings (x.score - first_score xs) (sym lx i) ((z ∙ ap size_of (sym lx)) i) xs)))
          ∙ sym (append_assoc (node_bytes x f back size (is_last xs))
          (siblings (x.score - first_score xs) (length x.under) (size_of (length x.under)) xs) (drop e s))
          ∙ sym (ap (λ r. r ++ drop e s) (siblings_inner f back size x xs t));
      there = there ∙ ap (λ r. u ++ r) w.there ∙ sym (append_assoc u (unders xs) (drop q s))
          ∙ sym (ap (λ r. (r ++ unders xs) ++ drop q s) iu);
      is_own = λ o a. so o;
      is_next = sn;
    }

-- no siblings
pub written_none : (s : List ℕ) (at next back : ℕ) (own : Bool)
    → GroupWritten s at next back own at next 0 (size_of back) []
written_none s at next back own = record {
  here = refl;
  there = refl;
  is_own = λ o a. absurd (false≢true a);
  is_next = λ o. refl;
}

-- a whole group, whose end gives the own child field
pub written_group :
    (s : List ℕ) (at e q f size : ℕ) (xs : List Node) → at ≤ e → e ≤ length s
    → GroupWritten s at e (e - at) true e q f size xs → drop at s ≡ group_bytes f xs ++ drop q s
unfolding group_bytes other_bytes
written_group s at e q f size xs l m w =
    w.here
    ∙ (λ i. own i ++ w.there i)
    ∙ sym (append_assoc (siblings f (other + own_size other) (own_size other) xs) (unders xs) (drop q s))
  where
    other : ℕ
    other = length (siblings f 0 0 xs)

    own : siblings f (e - at) size xs ≡ siblings f (other + own_size other) (own_size other) xs
    own =
        by_test (any_inner xs)
        (λ t.
        let a = drop-length s (siblings f (e - at) size xs) at e w.here l m in
        let b = siblings_own f (e - at) size xs t in
        let c : e - at - size ≡ other = omega arith in
        let d : size ≡ own_size other = w.is_own refl t ∙ ap own_size c in
        let g : e - at ≡ other + own_size other = sym a ∙ b ∙ ap (λ z. other + z) d in
        λ i. siblings f (g i) (d i) xs)
        (λ t. siblings-any f (e - at) size (other + own_size other) (own_size other) xs t)
