-- Each answer of the reading of a node, from what the code has read.
use Prim.Native.Nat.{◌+◌, ◌-◌, ◌<◌, ◌≤◌, suc, ℕ}
use mathlib.Core.Path.{◌∙◌, ◌≡◌, ap, subst, sym}
use mathlib.Core.Bool.{Bool}
use mathlib.Core.List.{List}
use lib.ListN.{drop, get_or, length, take}
use lib.Seq.{drop-drop}
use native.Mathlib.Numerals.{add-one}
use native.Mathlib.Omega.{arith}
use borrow.Author.Tests.{eq-eqb, le-leb, le-ltb, lt-leb, lt-ltb, ne_eqb}
use Rattle.std.specs.Prelude.{None, Option, Some}
use Rattle.octets.specs.Octets.{from_be, number_at}
use Rattle.octets.proofs.Numbers.{Bytes}
use Rattle.trie.specs.Reading.{child_size, label_length, last_mark, score_size}
use Rattle.trie.specs.Trie.{size_of}
use Rattle.trie_laws.specs.Keys.{key}
use Rattle.trie_check_laws.specs.Walk.{body_of, child_in, field_in, head_of, label_in}
use Rattle.trie.proofs.Header.{child_most, label_most, score_most}
use Rattle.trie_header.proofs.Fields.{number-part}
use Rattle.trie_check_laws.proofs.Heads.{head_says}
use Rattle.trie_check_fields.specs.Known.{HeadKnown}
use Rattle.trie_check_laws.specs.declared.Fields.{Fields}

pub head_out : (s : List ℕ) (at : ℕ) → length s ≤ at → None ≡ head_of s at
unfolding head_of
head_out s at h = rw (le-leb (length s) at h)

-- the header at an index, and its sizes
pub record Sizes (s : List ℕ) (at ss cs len : ℕ) : Type 0 where
  pub inside : at < length s
  pub is_score : ss ≡ score_size (get_or s at 0)
  pub is_child : cs ≡ child_size (get_or s at 0)
  pub is_label : len ≡ label_length (get_or s at 0)

module _ {s : List ℕ} {at ss cs len : ℕ} (z : Sizes s at ss cs len) where
  abbrev h : ℕ
  h = get_or s at 0

  abbrev t : List ℕ
  t = drop (suc at) s

  pub score_size_lem : Bytes s → (ss ≤ 4) × (ss ≡ 3 → ⊥)
  score_size_lem b = let m = score_most h (b at) in (rw z.is_score m.0, λ q. m.1 (sym z.is_score ∙ q))

  pub child_size_lem : (cs ≤ 4) × (cs ≡ 3 → ⊥)
  child_size_lem = let m = child_most h in (rw z.is_child m.0, λ q. m.1 (sym z.is_child ∙ q))

  pub label_size : len < 8
  label_size = rw z.is_label (label_most h)

  body_is_lem : ss + cs + len ≡ body_of h
  body_is_lem = λ i. z.is_score i + z.is_child i + z.is_label i

  pub head_short : length s - at - 1 < ss + cs + len → None ≡ head_of s at
  unfolding head_of
  head_short l = rw (
    lt-leb (length s) at z.inside,
    lt-ltb (length s - at - 1) (body_of h) (subst (λ (k : ℕ). length s - at - 1 < k) body_is_lem l),
  )

  module _ (long : ss + cs + len ≤ length s - at - 1) {field : ℕ} (fi : field ≡ number_at ss s (at + 1))
    where
      long' : body_of h ≤ length s - at - 1
      long' = subst (λ (k : ℕ). k ≤ length s - at - 1) body_is_lem long

      field_is : field ≡ field_in h t
      field_is = fi ∙ number-part ss s (at + 1) (omega (arith, long, z.inside))
          ∙ (λ i. from_be (take (z.is_score i) (drop (add-one at i) s)))

      pub head_wide : {v : ℕ} → v ≡ size_of field → (v ≡ ss → ⊥) → None ≡ head_of s at
      unfolding head_of
      head_wide e n =
          rw (
            lt-leb (length s) at z.inside,
            le-ltb (length s - at - 1) (body_of h) long',
            ne_eqb (size_of (field_in h t)) (score_size h) (λ q. n (e ∙ ap size_of field_is ∙ q ∙ sym z.is_score)),
          )

      module _ {v : ℕ} (e : v ≡ size_of field) (small : v ≡ ss) {label : List ℕ}
          (la : label ≡ take len (drop (at + 1 + ss + cs) s)) where
        small' : size_of (field_in h t) ≡ score_size h
        small' = sym (ap size_of field_is) ∙ sym e ∙ small ∙ z.is_score

        label_is : label ≡ label_in h t
        label_is =
            la
            ∙ (λ i. take (z.is_label i) (drop (add-one at i + z.is_score i + z.is_child i) s))
            ∙ ap (take (label_length h)) (sym (drop-drop (child_size h) (suc at + score_size h) s)
            ∙ ap (drop (child_size h)) (sym (drop-drop (score_size h) (suc at) s)))

        child_is : number_at cs s (at + 1 + ss) ≡ child_in h t
        child_is =
            number-part cs s (at + 1 + ss) (omega (arith, long, z.inside))
            ∙ (λ i. from_be (take (z.is_child i) (drop (add-one at i + z.is_score i) s)))
            ∙ ap (λ l. from_be (take (child_size h) l)) (sym (drop-drop (score_size h) (suc at) s))

        pub head_good :
            {last : Bool} {child k : ℕ} → last ≡ last_mark h → child ≡ number_at cs s (at + 1 + ss) → k ≡ key label
            → Some (record {
              end = at + 1 + (ss + cs + len);
              last = last;
              field = field;
              size = cs;
              child = child;
              key = k;
              len = len;
            }) ≡ head_of s at
        unfolding head_of
        head_good lm ch ke =
            (λ i.
            Some
            (record {
              end = at + 1 + body_is_lem i;
              last = lm i;
              field = field_is i;
              size = z.is_child i;
              child = (ch ∙ child_is) i;
              key = (ke ∙ ap key label_is) i;
              len = z.is_label i;
            }))
            ∙ rw (
              lt-leb (length s) at z.inside,
              le-ltb (length s - at - 1) (body_of h) long',
              eq-eqb (size_of (field_in h t)) (score_size h) small',
            )

-- what is known of a node that is read
pub head_known : (s : List ℕ) (at : ℕ) → Bytes s → (w : Option Fields) → w ≡ head_of s at → HeadKnown w at (length s)
head_known s at b None e = tt
head_known s at b (Some n) e =
    let r = head_says s at b n (sym e) in
    (r.past, r.within, r.held)

-- a node that was read, as the callers have it
pub record Read (s : List ℕ) (at : ℕ) (n : Fields) : Type 0 where
  pub head : head_of s at ≡ Some n
  pub past : at < n.end
  pub within : n.end ≤ length s
  pub held : n.len ≤ n.end

pub read_node : {s : List ℕ} {at : ℕ} {n : Fields} {w : Option Fields} → w ≡ head_of s at → HeadKnown w at (length s)
    → w ≡ Some n → Read s at n
read_node {s} {at} {n} {w} e k q =
    let m : HeadKnown (Some n) at (length s) = subst (λ v. HeadKnown v at (length s)) q k in
    record { head = sym e ∙ q; past = m.0; within = m.1; held = m.2 }
