-- What the tests of a node in its place say, as facts.
use Prim.Native.Nat.{◌+◌, ◌-◌, ◌<◌, ◌≤◌, ℕ}
use mathlib.Core.Path.{◌≡◌, refl, sym}
use mathlib.Core.Bool.{Bool, ◌&&◌, ◌||◌, false, false≢true, not, true}
use lib.Dec.{eqb, leb, ltb}
use borrow.Author.Tests.{eq-eqb, eqb-false, eqb-true, le-leb, leb-true, lt-ltb, ltb-true, ne_eqb, not-true}
use Rattle.octets.proofs.Tests.{and_intro, and_true_both, by_test}
use Rattle.octets.specs.Lists.{if◌then◌otherwise◌}
use Rattle.trie.specs.Trie.{own_size, size_of}
use Rattle.trie_check_laws.specs.Walk.{child_stands, label_stands, score_stands, stands}
use Rattle.trie_check_laws.specs.declared.Fields.{Fields}
use Rattle.trie_check_laws.specs.declared.Among.{Among}

or_else : (a b : Bool) → a || b ≡ true → a ≡ false → b ≡ true
or_else true b h e = absurd (false≢true (sym e))
or_else false b h e = h

or_intro : (a b : Bool) → (a ≡ false → b ≡ true) → a || b ≡ true
or_intro true b h = refl
or_intro false b h = h refl

pub record FieldsStand (p : Among) (n : Fields) : Type 0 where
  pub low : p.first ≡ true → (p.path ≡ 0 → ⊥) → n.field ≡ 0
  pub lone : p.first ≡ true → n.last ≡ true → (p.full ≡ true) × (n.len ≡ 0 → ⊥)
  pub falls : p.first ≡ false → n.field ≤ p.score
  pub ties : p.first ≡ false → n.field ≡ 0 → p.key < n.key
  pub within : p.path + n.len ≤ 48
  pub empty : n.len ≡ 0 → (p.path ≡ 0 → ⊥) × (n.size ≡ 0)
  pub leaf : n.size ≡ 0 → p.left ≡ 0 → ⊥
  pub child : (n.size ≡ 0 → ⊥) → n.child ≡ p.back
  pub size : (n.size ≡ 0 → ⊥) → n.size ≡ (if p.own then own_size (n.child - n.size) otherwise size_of n.child)

one : (p : Among) (n : Fields) → score_stands p n ≡ true → p.first ≡ true
    → ((eqb p.path 0 || eqb n.field 0) ≡ true) × ((not n.last || (p.full && not (eqb n.len 0))) ≡ true)
one p n h t = and_true_both (eqb p.path 0 || eqb n.field 0) (not n.last || (p.full
    && not (eqb n.len 0))) (rw t at h)

more : (p : Among) (n : Fields) → score_stands p n ≡ true → p.first ≡ false → (leb n.field p.score ≡ true)
    × ((not (eqb n.field 0) || ltb p.key n.key) ≡ true)
more p n h t = and_true_both (leb n.field p.score) (not (eqb n.field 0) || ltb p.key n.key) (rw t at h)

kid :
    (p : Among) (n : Fields) → child_stands p n ≡ true → (n.size ≡ 0 → ⊥)
    → (eqb n.child p.back ≡ true)
    × (eqb n.size (if p.own then own_size (n.child - n.size) otherwise size_of n.child) ≡ true)
kid p n h t = and_true_both (eqb n.child p.back)
    (eqb n.size (if p.own then own_size (n.child - n.size) otherwise size_of n.child))
    (rw (ne_eqb n.size 0 t) at h)

pub stands_true : (p : Among) (n : Fields) → stands p n ≡ true → FieldsStand p n
unfolding stands
stands_true p n h =
    let a = and_true_both (score_stands p n) (label_stands p n && child_stands p n) h in
    let b = and_true_both (label_stands p n) (child_stands p n) a.1 in
    let c = and_true_both (leb (p.path + n.len) 48) (not (eqb n.len 0) || (not (eqb p.path 0)
    && eqb n.size 0)) b.0 in
    record {
      low = λ t r. eqb-true n.field 0
          (or_else (eqb p.path 0) (eqb n.field 0) (one p n a.0 t).0 (ne_eqb p.path 0 r));
      lone =
          λ t l.
          let d = and_true_both p.full (not (eqb n.len 0)) (or_else (not n.last) (p.full
          && not (eqb n.len 0)) (one p n a.0 t).1 (rw l)) in
          (d.0, eqb-false n.len 0 (not-true (eqb n.len 0) d.1));
      falls = λ t. leb-true n.field p.score (more p n a.0 t).0;
      ties = λ t z. ltb-true p.key n.key
          (or_else (not (eqb n.field 0)) (ltb p.key n.key) (more p n a.0 t).1
          (rw (eq-eqb n.field 0 z)));
      within = leb-true (p.path + n.len) 48 c.0;
      empty =
          λ z.
          let d = and_true_both (not (eqb p.path 0)) (eqb n.size 0)
          (or_else (not (eqb n.len 0)) (not (eqb p.path 0)
          && eqb n.size 0) c.1 (rw (eq-eqb n.len 0 z))) in
          (eqb-false p.path 0 (not-true (eqb p.path 0) d.0), eqb-true n.size 0 d.1);
      leaf = λ z. eqb-false p.left 0 (not-true (eqb p.left 0) (rw (eq-eqb n.size 0 z) at b.1));
      child = λ z. eqb-true n.child p.back (kid p n b.1 z).0;
      size = λ z. eqb-true n.size (if p.own then own_size (n.child - n.size) otherwise size_of n.child)
          (kid p n b.1 z).1;
    }

not_eqb : (a : ℕ) → (a ≡ 0 → ⊥) → not (eqb a 0) ≡ true
not_eqb a h = rw (ne_eqb a 0 h)

pub true_stands : (p : Among) (n : Fields) → FieldsStand p n → stands p n ≡ true
unfolding stands
true_stands p n h =
    and_intro (score_stands p n) (label_stands p n && child_stands p n)
    (by_test p.first
    (λ t.
    rw t
    (and_intro (eqb p.path 0 || eqb n.field 0) (not n.last || (p.full && not (eqb n.len 0)))
    (or_intro (eqb p.path 0) (eqb n.field 0) (λ e. eq-eqb n.field 0 (h.low t (eqb-false p.path 0 e))))
    (by_test n.last (λ l. let d = h.lone t l in rw (l, d.0) (not_eqb n.len d.1)) (λ l. rw l))))
    (λ t.
    rw t
    (and_intro (leb n.field p.score) (not (eqb n.field 0) || ltb p.key n.key)
    (le-leb n.field p.score (h.falls t))
    (by_test (eqb n.field 0) (λ z. rw z (lt-ltb p.key n.key (h.ties t (eqb-true n.field 0 z))))
    (λ z. rw z)))))
    (and_intro (label_stands p n) (child_stands p n)
    (and_intro (leb (p.path + n.len) 48) (not (eqb n.len 0) || (not (eqb p.path 0)
    && eqb n.size 0)) (le-leb (p.path + n.len) 48 h.within)
    (by_test (eqb n.len 0)
    (λ z. let d = h.empty (eqb-true n.len 0 z) in rw (z, ne_eqb p.path 0 d.0) (eq-eqb n.size 0 d.1))
    (λ z. rw z)))
    (by_test (eqb n.size 0)
    (λ z. rw z (not_eqb p.left (h.leaf (eqb-true n.size 0 z))))
    (λ z.
    rw z
    (and_intro (eqb n.child p.back)
    (eqb n.size (if p.own then own_size (n.child - n.size) otherwise size_of n.child))
    (eq-eqb n.child p.back (h.child (eqb-false n.size 0 z)))
    (eq-eqb n.size (if p.own then own_size (n.child - n.size) otherwise size_of n.child)
    (h.size (eqb-false n.size 0 z)))))))
