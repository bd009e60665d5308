-- The keys of suffixes behind a half that is open.
use Prim.Native.Nat.{ℕ, suc}
use mathlib.Core.Path.{◌∙◌, ◌≡◌, refl, sym}
use mathlib.Core.Logic.{inl, inr}
use mathlib.Core.List.{List, [], ◌∷◌}
use lib.Dec.{eqb, leb}
use native.Mathlib.Omega.{arith}
use borrow.Author.Tests.{eqb-true, leb-true}
use Rattle.octets.specs.Lists.{◌∈◌}
use Rattle.octets.proofs.Tests.{and_true_both, by_test}
use Rattle.entries.specs.Entries.{Entry}
use Rattle.entries.specs.Names.{is_plain}
use Rattle.entries_laws.specs.Signs.{broken_half, half_after, no_half}
use Rattle.entries_laws.proofs.Signs.{CutAt, between, cut_at, half_broken, in_micro, in_ohm}
use Rattle.trie.proofs.Sets.{OneFirst, one_first}
use Rattle.trie_laws.specs.Keys.{KeyIn, key, keys_behind, set_key}

-- between signs a text goes on with a byte 20 to 7E or the first half of a pair
key_first : (b : ℕ) (w : List ℕ) → half_after no_half (b ∷ w) ≡ no_half → KeyIn (suc b) (keys_behind no_half)
key_first b w e =
    by_test (is_plain b)
    (λ t.
    let c = and_true_both (leb 0x20 b) (leb b 0x7E) t in
    inr (inl (omega (arith, leb-true 0x20 b c.0), omega (arith, leb-true b 0x7E c.1))))
    (λ t.
    by_test (eqb b 0xC2)
    (λ s. let q = eqb-true b 0xC2 s in inr (inr (inl (omega arith, omega arith))))
    (λ s.
    by_test (eqb b 0xCE)
    (λ u. let q = eqb-true b 0xCE u in inr (inr (inr (inl (omega arith, omega arith)))))
    (λ u. absurd (let z : broken_half ≡ no_half = sym (half_broken w) ∙ (rw (t, s, u) at e) in omega arith))))

behind_cut : (h : ℕ) (w : List ℕ) → CutAt h w → half_after h w ≡ no_half → KeyIn (key w) (keys_behind h)
behind_cut h [] between e = inl (omega arith, omega arith)
behind_cut h (b ∷ w) between e = key_first b w e
behind_cut h w in_micro e = inl (omega arith, omega arith)
behind_cut h w in_ohm e = inl (omega arith, omega arith)

pub key_behind : (h : ℕ) (w : List ℕ) → half_after h w ≡ no_half → KeyIn (key w) (keys_behind h)
key_behind h w e = behind_cut h w (cut_at h w e) e

-- so it is of sets of suffixes
pub set-key_behind : (h : ℕ) (s : List Entry) → OneFirst s
    → ((e : Entry) → e ∈ s → half_after h e.name ≡ no_half) → KeyIn (set_key s) (keys_behind h)
set-key_behind h s (one_first e fs k) a = key_behind h e.name (a e (inl refl))
