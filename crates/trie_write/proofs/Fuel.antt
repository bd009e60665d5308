-- The group of a set does not depend on how many levels are allowed, where these are enough.
use Prim.Native.Nat.{◌<◌, ◌≤◌, suc, zero, ℕ}
use mathlib.Core.Path.{◌≡◌, ap, refl}
use mathlib.Core.Logic.{inl}
use mathlib.Core.Bool.{Bool, false, true}
use mathlib.Core.List.{List, [], ◌∷◌}
use lib.ListN.{length}
use native.Mathlib.Nat.{not-suc-le-zero}
use native.Mathlib.Omega.{arith}
use Rattle.octets.specs.Lists.{◌∈◌, sort_by}
use Rattle.octets.proofs.Lists.{map_ext}
use Rattle.entries.specs.Completion.{different}
use Rattle.entries.specs.Entries.{Entry}
use Rattle.trie.specs.Trie.{Node, by_first, group_bytes, group_of, highest, label_of, node_of, remains, stands_before, used_up}
use Rattle.trie.proofs.Sets.{by_first-run, different-remains, label_split, length-remains}
use Rattle.trie.proofs.Trie.{remains_shorter, run-some, set-different}

-- what a set must have so that d levels are enough
pub record Enough (d : ℕ) (es : List Entry) : Type 0 where
  pub short : (e : Entry) → e ∈ es → length e.name < d
  pub apart : different es

pub enough_more : (d k : ℕ) (es : List Entry) → d ≤ k → Enough d es → Enough k es
enough_more d k es h z = record { short = λ e m. let a = z.short e m in omega arith; apart = z.apart }

pub set_enough : (d : ℕ) (es s : List Entry) → Enough (suc d) es → s ∈ by_first es
    → used_up (length (label_of s)) s ≡ false → Enough d (remains (length (label_of s)) s)
set_enough d es s h m u =
    let ds = set-different es s h.apart m in
    record {
      short = remains_shorter d es s h.short ds m u;
      apart = different-remains (label_of s) s (label_split s) ds;
    }

pub remains-some : (es s : List Entry) → s ∈ by_first es → 0 < length (remains (length (label_of s)) s)
remains-some es s m = rw length-remains (run-some s (by_first-run es s m))

node_ext : (a b : List Entry → List ℕ) (s : List Entry)
    → (used_up (length (label_of s)) s ≡ false → a (remains (length (label_of s)) s) ≡ b (remains (length (label_of s)) s))
    → node_of a s ≡ node_of b s
unfolding node_of
node_ext a b s h = go (used_up (length (label_of s)) s) h
  where
    go : (t : Bool) → (t ≡ false → a (remains (length (label_of s)) s) ≡ b (remains (length (label_of s)) s))
        → ◌≡◌ {A = Node} (record {
          label = label_of s;
          score = highest s;
          under = elim t [ true ↦ [] | false ↦ a (remains (length (label_of s)) s) ];
        })
        (record {
          label = label_of s;
          score = highest s;
          under = elim t [ true ↦ [] | false ↦ b (remains (length (label_of s)) s) ];
        })
    go true k = refl
    go false k = ap (λ (x : List ℕ). record { label = label_of s; score = highest s; under = x }) (k refl)

none_short : (es : List Entry) → 0 < length es → Enough 0 es → ⊥
none_short [] n h = not-suc-le-zero n
none_short (e ∷ es) n h = not-suc-le-zero (h.short e (inl refl))

pub group_fuel : (k j s : ℕ) (es : List Entry) → 0 < length es → Enough k es → Enough j es
    → group_of k s es ≡ group_of j s es
group_fuel zero j s es n a b = absurd (none_short es n a)
group_fuel (suc k) zero s es n a b = absurd (none_short es n b)
group_fuel (suc k) (suc j) s es n a b =
    ap (λ xs. group_bytes s (sort_by stands_before xs))
    (map_ext (node_of (group_of k 0)) (node_of (group_of j 0)) (by_first es)
    (λ t m. node_ext (group_of k 0) (group_of j 0) t
    (λ u. group_fuel k j 0 (remains (length (label_of t)) t) (remains-some es t m) (set_enough k es t a m u)
    (set_enough j es t b m u))))
