-- Each answer of the tests of a node in its place, from what the code has compared.
use Prim.Native.Nat.{◌+◌, ◌-◌, ◌<◌, ◌≤◌, ℕ}
use mathlib.Core.Path.{◌∙◌, ◌≡◌, ap, sym}
use mathlib.Core.Bool.{Bool, false, not, true}
use lib.Dec.{eqb}
use native.Mathlib.Omega.{arith}
use borrow.Author.Tests.{eq-eqb, le-leb, lt-leb, ne_eqb}
use Rattle.entries.specs.Names.{longest_name}
use Rattle.trie.specs.Trie.{own_size, size_of}
use Rattle.trie_check_laws.specs.Walk.{child_stands, label_stands, lonely, score_stands, stands}
use Rattle.trie_check_laws.specs.declared.Fields.{Fields}
use Rattle.trie_check_laws.specs.declared.Among.{Among}

module _ (p : Among) (n : Fields) where
  pub score_zero : p.first ≡ true → (p.path ≡ 0 → ⊥) → n.field ≡ 0 → lonely p n ≡ score_stands p n
  score_zero a b c = rw (a, ne_eqb p.path 0 b, eq-eqb n.field 0 c)

  -- the label
  pub label_deep : 48 < p.path → false ≡ label_stands p n
  label_deep a = rw (lt-leb (p.path + n.len) longest_name (omega arith))

  pub label_long : p.path ≤ 48 → 48 - p.path < n.len → false ≡ label_stands p n
  label_long a b = rw (lt-leb (p.path + n.len) longest_name (omega arith))

  module _ (a : p.path ≤ 48) (b : n.len ≤ 48 - p.path) where
    pub label_some : (n.len ≡ 0 → ⊥) → true ≡ label_stands p n
    label_some c = rw (le-leb (p.path + n.len) longest_name (omega arith), ne_eqb n.len 0 c)

    pub label_root : n.len ≡ 0 → p.path ≡ 0 → false ≡ label_stands p n
    label_root c d = rw (le-leb (p.path + n.len) longest_name (omega arith), eq-eqb n.len 0 c, eq-eqb p.path 0 d)

    pub label_none : n.len ≡ 0 → (p.path ≡ 0 → ⊥) → eqb n.size 0 ≡ label_stands p n
    label_none c d = rw (le-leb (p.path + n.len) longest_name (omega arith), eq-eqb n.len 0 c, ne_eqb p.path 0 d)

  -- the child field
  pub child_leaf : n.size ≡ 0 → not (eqb p.left 0) ≡ child_stands p n
  child_leaf a = rw (eq-eqb n.size 0 a)

  module _ (a : n.size ≡ 0 → ⊥) where
    pub child_away : (n.child ≡ p.back → ⊥) → false ≡ child_stands p n
    child_away b = rw (ne_eqb n.size 0 a, ne_eqb n.child p.back b)

    pub child_own : (r m : ℕ) → n.child ≡ p.back → p.own ≡ true → m ≡ n.child - n.size → r ≡ own_size m
        → eqb n.size r ≡ child_stands p n
    child_own r m b c e f = rw (ne_eqb n.size 0 a, eq-eqb n.child p.back b, c) (ap (eqb n.size) (f
        ∙ ap own_size e))

    pub child_next : (r : ℕ) → n.child ≡ p.back → p.own ≡ false → r ≡ size_of n.child
        → eqb n.size r ≡ child_stands p n
    child_next r b c f = rw (ne_eqb n.size 0 a, eq-eqb n.child p.back b, c) (ap (eqb n.size) f)

  -- all of them
  module _ (a : Bool) (ha : a ≡ score_stands p n) where
    pub no_score : a ≡ false → false ≡ stands p n
    unfolding stands
    no_score ta = rw (sym ha ∙ ta)

    module _ (ta : a ≡ true) (b : Bool) (hb : b ≡ label_stands p n) where
      pub no_label : b ≡ false → false ≡ stands p n
      unfolding stands
      no_label tb = rw (sym ha ∙ ta, sym hb ∙ tb)

      pub all_three : b ≡ true → (c : Bool) → c ≡ child_stands p n → c ≡ stands p n
      unfolding stands
      all_three tb c hc = hc ∙ rw (sym ha ∙ ta, sym hb ∙ tb)
