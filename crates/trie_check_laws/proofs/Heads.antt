-- A node's bytes and what is read of them: each gives the other.
use Prim.Native.Nat.{◌%◌, ◌*◌, ◌+◌, ◌-◌, ◌/◌, ◌<◌, ◌^◌, ◌≤◌, suc, zero, ℕ}
use mathlib.Core.Path.{◌∙◌, ◌≡◌, ap, refl, subst, sym}
use mathlib.Core.Bool.{Bool, false, true}
use mathlib.Core.List.{List, [], ◌++◌, ◌∷◌}
use Rattle.std.specs.Prelude.{None, Some}
use lib.Dec.{eqb, leb, ltb}
use lib.ListN.{drop, get_or, length, length-append, length-drop, length-take, take, take-append-drop}
use lib.Seq.{drop_at, drop-cons, drop-drop, take_at}
use native.Mathlib.Omega.{arith}
use borrow.Author.Tests.{eq-eqb, eqb-false, eqb-true, le-leb, le-ltb, leb-false, lt-leb, ltb-false}
use Rattle.octets.proofs.Coding.{from_be-be, length-be}
use Rattle.octets.proofs.Numbers.{Bytes, bytes_drop, number-below, number-stands}
use Rattle.octets.proofs.Order.{front_of_lem}
use Rattle.octets.proofs.Tests.{by_test}
use Rattle.octets.specs.Octets.{be, from_be, number_at}
use Rattle.trie.proofs.Header.{Size, header_child, header_label, header_last, header_score, said, size_of_fits}
use Rattle.trie.proofs.Header.{size_of_size}
use Rattle.trie.proofs.Trie.{node_split}
use Rattle.trie.specs.Reading.{child_size, label_length, last_mark, score_size}
use Rattle.trie.specs.Trie.{Node, header_byte, node_bytes, size_of}
use Rattle.trie_laws.specs.Keys.{key}
use Rattle.trie_check_laws.specs.Walk.{body_of, child_in, field_in, head_fields, head_of, label_at, label_in}
use Rattle.trie_check_laws.specs.declared.Fields.{Fields}

-- a field's value gives its bytes back, and is below 2 ^ 32
module _ (a : ℕ) (t : List ℕ) (b : Bytes t) (h : a ≤ length t) where
  in_place : number_at a t 0 ≡ from_be (take a t)
  unfolding number_at
  in_place = rw (le-leb (0 + a) (length t) (omega arith))

  field_back : be a (from_be (take a t)) ≡ take a t
  field_back =
      let f = front_of_lem (be a (number_at a t 0)) t (number-stands a t 0 b (omega arith) (number_at a t 0) refl) in
      let g : take a t ≡ be a (number_at a t 0) = rw length-be at f in
      sym (g ∙ ap (be a) in_place)

  field_fits : a ≤ 4 → from_be (take a t) < 2 ^ 32
  field_fits l = let n = number-below a t 0 b (omega arith) in let m = power a l in omega (arith, in_place)
    where
      power : (k : ℕ) → k ≤ 4 → 256 ^ k ≤ 2 ^ 32
      power zero p = omega arith
      power (suc zero) p = omega arith
      power (suc (suc zero)) p = omega arith
      power (suc (suc (suc zero))) p = omega arith
      power (suc (suc (suc (suc zero)))) p = omega arith
      power (suc (suc (suc (suc (suc k))))) p = absurd (omega arith)

no_field : (k : ℕ) (xs : List ℕ) → k ≡ 0 → from_be (take k xs) ≡ 0
unfolding from_be
no_field k xs q = rw q

header_back : (h : ℕ) → h < 256 → header_byte (score_size h) (child_size h) (last_mark h) (label_length h) ≡ h
unfolding header_byte score_size child_size last_mark label_length
header_back h l =
    let a = (said (h / 64) (omega arith)).code in
    let b = (said (h / 16 % 4) (omega arith)).code in
    by_test (eqb (h / 8 % 2) 1)
    (λ t. let q = eqb-true (h / 8 % 2) 1 t in rw (t, a, b) (omega arith))
    (λ t. let q = eqb-false (h / 8 % 2) 1 t in rw (t, a, b) (zero_bit q))
  where
    zero_bit : (h / 8 % 2 ≡ 1 → ⊥) → h / 64 * 64 + h / 16 % 4 * 16 + 0 + h % 8 ≡ h
    zero_bit q = omega arith

-- what a node that is read says of the bytes
pub record Says (s : List ℕ) (at : ℕ) (n : Fields) : Type 0 where
  pub label : List ℕ
  pub is_len : length label ≡ n.len
  pub short : length label < 8
  pub is_key : key label ≡ n.key
  pub is_at : label_at s n ≡ label
  pub fits : n.field < 2 ^ 32
  pub size : Size n.size
  pub none : n.size ≡ 0 → n.child ≡ 0
  pub past : at < n.end
  pub held : n.len ≤ n.end
  pub within : n.end ≤ length s
  pub bytes : (x : Node) → x.label ≡ label → drop at s ≡ node_bytes x n.field n.child n.size n.last
      ++ drop n.end s

split3 : (t : List ℕ) (a b c : ℕ) → t ≡ take a t
    ++ (take b (drop a t) ++ (take c (drop b (drop a t)) ++ drop c (drop b (drop a t))))
split3 t a b c =
    sym (take-append-drop a t)
    ∙ ap (λ l. take a t ++ l)
    (sym (take-append-drop b (drop a t))
    ∙ ap (λ l. take b (drop a t) ++ l) (sym (take-append-drop c (drop b (drop a t)))))

behind : (s : List ℕ) (at a b n : ℕ) → drop n (drop b (drop a (drop (suc at) s))) ≡ drop (at + 1 + (a + b + n)) s
behind s at a b n =
    ap (λ l. drop n (drop b l)) (drop-drop a (suc at) s)
    ∙ ap (drop n) (drop-drop b (suc at + a) s)
    ∙ drop-drop n (suc at + a + b) s
    ∙ (let q : suc at + a + b + n ≡ at + 1 + (a + b + n) = omega arith in ap (λ k. drop k s) q)

-- the label stands at the node's end
label_at_lem : (s : List ℕ) (at a b n : ℕ)
    → take n (drop (at + 1 + (a + b + n) - n) s) ≡ take n (drop b (drop a (drop (suc at) s)))
label_at_lem s at a b n =
    let q : at + 1 + (a + b + n) - n ≡ suc at + a + b = omega arith in
    ap (λ k. take n (drop k s)) q
    ∙ ap (take n) (sym (drop-drop b (suc at + a) s) ∙ ap (drop b) (sym (drop-drop a (suc at) s)))

-- a node put together again from the parts that were read
joined :
    (s w : List ℕ) (at h f c a b n e : ℕ) (last : Bool) (t : List ℕ) (x : Node)
    → drop at s ≡ h ∷ t → header_byte a b last n ≡ h → size_of f ≡ a → be a f ≡ take a t → be b c ≡ take b (drop a t)
    → x.label ≡ take n (drop b (drop a t)) → length (take n (drop b (drop a t))) ≡ n
    → drop n (drop b (drop a t)) ≡ drop e s
    → drop at s ≡ node_bytes x f c b last ++ drop e s
joined s w at h f c a b n e last t x cut hd sz fa fb lab len rest =
    cut
    ∙ ap (λ l. h ∷ l) (split3 t a b n)
    ∙ (λ i. sym hd i ∷ (sym fa i ++ (sym fb i ++ (sym lab i ++ rest i))))
    ∙ (λ i. header_byte (sym sz i) b last (sym (ap length lab ∙ len) i)
    ∷ (be (sym sz i) f ++ (be b c ++ (x.label ++ drop e s))))
    ∙ sym (node_split x f c b last (drop e s))

module _ (s : List ℕ) (at : ℕ) (small : Bytes s) where
  abbrev h : ℕ
  h = get_or s at 0

  abbrev t : List ℕ
  t = drop (suc at) s

  head_bytes :
      at < length s → at + 1 + body_of h ≤ length s → size_of (field_in h t) ≡ score_size h
      → Says s at (head_fields h t at)
  unfolding score_size child_size label_length
  head_bytes inside body smallest =
      let sc = said (h / 64) (omega (arith, small at)) in
      let cc' = said (h / 16 % 4) (omega arith) in
      let st = bytes_drop (suc at) s small in
      let lt = length-drop (suc at) s in
      let l1 = length-take (score_size h) t in
      let l2 = length-take (child_size h) (drop (score_size h) t) in
      let d2 = length-drop (score_size h) t in
      let d3 = length-drop (child_size h) (drop (score_size h) t) in
      let l3 = length-take (label_length h) (drop (child_size h) (drop (score_size h) t)) in
      record {
        label = label_in h t;
        is_len = omega arith;
        short = omega arith;
        is_key = refl;
        is_at = label_at_lem s at (score_size h) (child_size h) (label_length h);
        fits = field_fits (score_size h) t st (omega arith) sc.most;
        size = cc'.size;
        none = λ q. no_field (child_size h) (drop (score_size h) t) q;
        past = omega arith;
        held = omega arith;
        within = body;
        bytes =
            λ x q.
            joined s s at h (field_in h t) (child_in h t) (score_size h) (child_size h) (label_length h) (at + 1 + body_of h)
            (last_mark h) t x
            (drop-cons s at 0 inside)
            (header_back h (small at))
            smallest
            (field_back (score_size h) t st (omega arith))
            (field_back (child_size h) (drop (score_size h) t) (bytes_drop (score_size h) t st) (omega arith))
            q
            (omega arith)
            (behind s at (score_size h) (child_size h) (label_length h));
      }

  pub head_says : (n : Fields) → head_of s at ≡ Some n → Says s at n
  unfolding head_of
  head_says n e =
      by_test (leb (length s) at)
      (λ a. absurd (cut (rw a at e)))
      (λ a.
      by_test (ltb (length s - at - 1) (body_of h))
      (λ b. absurd (cut (rw (a, b) at e)))
      (λ b.
      by_test (eqb (size_of (field_in h t)) (score_size h))
      (λ d.
      let i = leb-false (length s) at a in
      let j = ltb-false (length s - at - 1) (body_of h) b in
      subst (Says s at) (same_node (rw (a, b, d) at e))
      (head_bytes i (omega arith) (eqb-true (size_of (field_in h t)) (score_size h) d)))
      (λ d. absurd (cut (rw (a, b, d) at e)))))
    where
      cut : {m : Fields} → None ≡ Some m → ⊥
      cut q = let z : ◌≡◌ {A = ℕ} 0 1 = cc in omega arith

      same_node : {l m : Fields} → Some l ≡ Some m → l ≡ m
      same_node q = cc

-- a node's bytes are read as its fields
at_cons : (at : ℕ) (s : List ℕ) (x : ℕ) (xs : List ℕ) → drop at s ≡ x ∷ xs → (at < length s) × (get_or s at 0 ≡ x)
    × (drop (suc at) s ≡ xs)
at_cons zero [] x xs q = absurd (let z : 0 ≡ suc (length xs) = ap length q in omega arith)
at_cons zero (y ∷ s) x xs q = (omega arith, (cc), (cc))
at_cons (suc at) [] x xs q = absurd (let z : 0 ≡ suc (length xs) = ap length q in omega arith)
at_cons (suc at) (y ∷ s) x xs q = let r = at_cons at s x xs q in (omega (arith, r.0), r.1, r.2)

abbrev pub fields_for : Node → ℕ → ℕ → ℕ → ℕ → Bool → Fields
fields_for x at f c cs last =
    record {
      end = at + 1 + (size_of f + cs + length x.label);
      last = last;
      field = f;
      size = cs;
      child = c;
      key = key x.label;
      len = length x.label;
    }

module _
    (s : List ℕ) (at : ℕ) (x : Node) (f c cs : ℕ) (last : Bool) (r : List ℕ) (z : Size cs) (l : length x.label < 8)
    (ff : f < 2 ^ 32) (fc : c < 256 ^ cs) (e : drop at s ≡ node_bytes x f c cs last ++ r)
  where
    abbrev hd : ℕ
    hd = header_byte (size_of f) cs last (length x.label)

    abbrev tl : List ℕ
    tl = be (size_of f) f ++ (be cs c ++ (x.label ++ r))

    cons : (at < length s) × (get_or s at 0 ≡ hd) × (drop (suc at) s ≡ tl)
    cons = at_cons at s hd tl (e ∙ node_split x f c cs last r)

    hs : score_size hd ≡ size_of f
    hs = header_score (size_of f) cs last (length x.label) (size_of_size f) z l

    hc : child_size hd ≡ cs
    hc = header_child (size_of f) cs last (length x.label) (size_of_size f) z l

    hl : label_length hd ≡ length x.label
    hl = header_label (size_of f) cs last (length x.label) (size_of_size f) z l

    hm : last_mark hd ≡ last
    hm = header_last (size_of f) cs last (length x.label) (size_of_size f) z l

    d1 : drop (size_of f) tl ≡ be cs c ++ (x.label ++ r)
    d1 = drop_at (be (size_of f) f) (be cs c ++ (x.label ++ r)) (size_of f) (length-be (size_of f) f)

    d2 : drop cs (drop (size_of f) tl) ≡ x.label ++ r
    d2 = ap (drop cs) d1 ∙ drop_at (be cs c) (x.label ++ r) cs (length-be cs c)

    is_field : field_in hd tl ≡ f
    is_field = rw (
      hs,
      take_at (be (size_of f) f) (be cs c
          ++ (x.label ++ r)) (size_of f) (length-be (size_of f) f),
    ) (from_be-be (size_of f) f (size_of_fits f ff))

    is_child_lem : child_in hd tl ≡ c
    is_child_lem = rw (hs, hc, d1, take_at (be cs c) (x.label ++ r) cs (length-be cs c)) (from_be-be cs c fc)

    is_label_lem : label_in hd tl ≡ x.label
    is_label_lem = rw (hs, hc, hl, d2) (take_at x.label r (length x.label) refl)

    is_fields : head_fields hd tl at ≡ fields_for x at f c cs last
    is_fields =
        λ i.
        record {
          end = at + 1 + (hs i + hc i + hl i);
          last = hm i;
          field = is_field i;
          size = hc i;
          child = is_child_lem i;
          key = key (is_label_lem i);
          len = hl i;
        }

    pub node_behind : drop (at + 1 + (size_of f + cs + length x.label)) s ≡ r
    node_behind =
        sym (behind s at (size_of f) cs (length x.label))
        ∙ ap (λ w. drop (length x.label) (drop cs (drop (size_of f) w))) cons.2
        ∙ ap (drop (length x.label)) d2
        ∙ drop_at x.label r (length x.label) refl

    pub node_label_at : label_at s (fields_for x at f c cs last) ≡ x.label
    node_label_at =
        label_at_lem s at (size_of f) cs (length x.label)
        ∙ ap (λ w. take (length x.label) (drop cs (drop (size_of f) w))) cons.2
        ∙ ap (take (length x.label)) d2
        ∙ take_at x.label r (length x.label) refl

    pub node_within : at + 1 + (size_of f + cs + length x.label) ≤ length s
    node_within =
        let a = ap length cons.2 in
        let b = length-append (be (size_of f) f) (be cs c ++ (x.label ++ r)) in
        let d = length-append (be cs c) (x.label ++ r) in
        let g = length-append x.label r in
        let i = length-be (size_of f) f in
        let j = length-be cs c in
        let k = length-drop (suc at) s in
        let m = cons.0 in
        omega arith

    pub node_read : head_of s at ≡ Some (fields_for x at f c cs last)
    unfolding head_of
    node_read =
        let a : leb (length s) at ≡ false = lt-leb (length s) at cons.0 in
        let b : ltb (length s - at - 1) (body_of hd) ≡ false = rw (
          hs,
          hc,
          hl,
        ) (le-ltb (length s - at - 1) (size_of f + cs + length x.label) (omega (arith, node_within, cons.0))) in
        let d : eqb (size_of (field_in hd tl)) (score_size hd) ≡ true =
        eq-eqb (size_of (field_in hd tl)) (score_size hd) (ap size_of is_field ∙ sym hs) in
        rw (cons.1, cons.2) (rw (a, b, d) (ap Some is_fields))
