-- What is read of a node where its bytes stand.
use Prim.Native.Nat.{◌+◌, ◌<◌, ◌^◌, ◌≤◌, ℕ}
use mathlib.Core.Path.{◌∙◌, ◌≡◌, ap, refl, sym}
use mathlib.Core.Bool.{Bool}
use mathlib.Core.List.{List, [], ◌++◌, ◌∷◌}
use lib.ListN.{drop, get_or, length, length-append, length-drop}
use lib.Seq.{drop_at, drop-drop, get_or-drop, take_at}
use native.Mathlib.Omega.{arith}
use Rattle.octets.specs.Octets.{be}
use Rattle.octets.proofs.Coding.{length-be}
use Rattle.octets.proofs.Numbers.{stands-number}
use Rattle.octets.proofs.Order.{begins-append}
use Rattle.trie.specs.Reading.{child_size, label_length, last_mark, score_size}
use Rattle.trie.specs.Trie.{Node, header_byte, node_bytes, size_of}
use Rattle.trie.proofs.Header.{Size, header_child, header_label, header_last, header_score, size_of_fits, size_of_size}
use Rattle.trie.proofs.Trie.{node_size, node_split}
use Rattle.trie_find_laws.specs.Places.{behind_at, child_field_at, header_at, label_at, score_field_at}

-- a part that stands behind another
pub behind : (bs a b : List ℕ) (i : ℕ) → drop i bs ≡ a ++ b → drop (i + length a) bs ≡ b
behind bs a b i h = sym (drop-drop (length a) i bs) ∙ ap (drop (length a)) h ∙ drop_at a b (length a) refl

-- what is read of a node where its bytes stand
pub record NodeReads (bs : List ℕ) (at : ℕ) (x : Node) (s c cs : ℕ) (last : Bool) (r : List ℕ) : Type 0 where
  pub score : score_field_at bs at ≡ s
  pub child : child_field_at bs at ≡ c
  pub sized : child_size (header_at bs at) ≡ cs
  pub marked : last_mark (header_at bs at) ≡ last
  pub label : label_at bs at ≡ x.label
  pub end : behind_at bs at ≡ at + length (node_bytes x s c cs last)
  pub rest : drop (behind_at bs at) bs ≡ r
  pub inside : behind_at bs at ≤ length bs

module _
    (bs : List ℕ) (at : ℕ) (x : Node) (s c cs : ℕ) (last : Bool) (r : List ℕ)
    (h : drop at bs ≡ node_bytes x s c cs last ++ r)
    (z : Size cs) (l : length x.label < 8) (sf : s < 2 ^ 32) (cf : c < 256 ^ cs)
  where
    abbrev hb : ℕ
    hb = header_byte (size_of s) cs last (length x.label)

    abbrev tail : List ℕ
    tail = be (size_of s) s ++ (be cs c ++ (x.label ++ r))

    whole : drop at bs ≡ (hb ∷ []) ++ tail
    whole = h ∙ node_split x s c cs last r

    head_is : header_at bs at ≡ hb
    head_is =
        let e : at + 0 ≡ at = omega arith in
        ap (λ i. get_or bs i 0) (sym e) ∙ sym (get_or-drop at bs 0 0) ∙ ap (λ w. get_or w 0 0) whole

    score_is : score_size (header_at bs at) ≡ size_of s
    score_is = ap score_size head_is ∙ header_score (size_of s) cs last (length x.label) (size_of_size s) z l

    child_is : child_size (header_at bs at) ≡ cs
    child_is = ap child_size head_is ∙ header_child (size_of s) cs last (length x.label) (size_of_size s) z l

    label_is : label_length (header_at bs at) ≡ length x.label
    label_is = ap label_length head_is ∙ header_label (size_of s) cs last (length x.label) (size_of_size s) z l

    at_score : drop (at + 1) bs ≡ tail
    at_score = behind bs (hb ∷ []) tail at whole

    at_child : drop (at + 1 + size_of s) bs ≡ be cs c ++ (x.label ++ r)
    at_child = rw (length-be (size_of s) s) at (behind bs (be (size_of s) s) (be cs c
        ++ (x.label ++ r)) (at + 1) at_score)

    at_label : drop (at + 1 + size_of s + cs) bs ≡ x.label ++ r
    at_label = rw (length-be cs c) at (behind bs (be cs c) (x.label ++ r) (at + 1 + size_of s) at_child)

    long : at + 1 + size_of s + cs + length x.label + length r ≤ length bs
    long =
        let a = length-drop at bs in
        let b = ap length h in
        let e = length-append (node_bytes x s c cs last) r in
        let f = node_size x s c cs last in
        omega arith

    pub reads : NodeReads bs at x s c cs last r
    reads =
        record {
          score =
              rw score_is
              (stands-number (size_of s) bs (at + 1) s (size_of_fits s sf)
              (rw at_score (begins-append (be (size_of s) s) (be cs c ++ (x.label ++ r)))) (omega (arith, long)));
          child =
              rw (score_is, child_is)
              (stands-number cs bs (at + 1 + size_of s) c cf (rw at_child (begins-append (be cs c) (x.label ++ r)))
              (omega (arith, long)));
          sized = child_is;
          marked = ap last_mark head_is ∙ header_last (size_of s) cs last (length x.label) (size_of_size s) z l;
          label = rw (score_is, child_is, label_is, at_label) (take_at x.label r (length x.label) refl);
          end = let f = node_size x s c cs last in rw (score_is, child_is, label_is) (omega arith);
          rest = rw (score_is, child_is, label_is) (behind bs x.label r (at + 1 + size_of s + cs) at_label);
          inside = rw (score_is, child_is, label_is) (omega (arith, long));
        }
