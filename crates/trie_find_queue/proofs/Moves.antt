-- Nodes put into a queue by rank: the index, the nodes behind it moved on by one, the last dropped.
use Prim.Native.Nat.{◌+◌, ◌-◌, ◌<◌, ◌≤◌, min, suc, ℕ}
use mathlib.Core.Path.{◌∙◌, ◌≡◌, ap, refl, sym}
use mathlib.Core.Bool.{false, true}
use mathlib.Core.List.{List, [], ◌++◌, ◌∷◌, append_assoc}
use lib.Dec.{leb}
use lib.ListN.{drop, drop_of_length-le, get_or, length, length-drop, length-take, set, take}
use lib.Seq.{drop-cons, length-take-le, paste, set_at, take_all, take-append-add}
use lib.Seq.{take-set-lt, take-suc, take-take}
use native.Mathlib.Numerals.{add-one}
use native.Mathlib.Omega.{arith}
use borrow.Author.Tests.{leb-false, leb-true}
use Rattle.std.proofs.lemmas.List.Edits.{take-paste}
use Rattle.octets.proofs.Lists.{drop-take}
use Rattle.octets.proofs.Tests.{by_test}
use Rattle.trie_find_queue.specs.Waits.{node_outranks, nowhere, put_at, put_in_rank, rank_among}
use Rattle.trie_find_queue.specs.declared.WaitingNode.{WaitingNode}

-- how many come before x, counted up to i
pub record Placing (x : WaitingNode) (ws : List WaitingNode) (i : ℕ) : Type 0 where
  pub rest : i + rank_among x (drop i ws) ≡ rank_among x ws

rank_before : (x y : WaitingNode) (ys : List WaitingNode) → node_outranks y x ≡ true
    → rank_among x (y ∷ ys) ≡ suc (rank_among x ys)
rank_before x y ys t = rw t

rank_here : (x y : WaitingNode) (ys : List WaitingNode) → node_outranks y x ≡ false → rank_among x (y ∷ ys) ≡ 0
rank_here x y ys t = rw t

module _ (x : WaitingNode) (ws : List WaitingNode) (i : ℕ) (v : Placing x ws i) where
  pub placing_on : i < length ws → node_outranks (get_or ws i nowhere) x ≡ true → Placing x ws (i + 1)
  placing_on h t =
      let a = ap (rank_among x) (drop-cons ws i nowhere h) in
      let b = rank_before x (get_or ws i nowhere) (drop (suc i) ws) t in
      record { rest = rw (add-one i) (omega (arith, v.rest)) }

  pub placing_found : i < length ws → node_outranks (get_or ws i nowhere) x ≡ false → i ≡ rank_among x ws
  placing_found h t =
      let a = ap (rank_among x) (drop-cons ws i nowhere h) in
      let b = rank_here x (get_or ws i nowhere) (drop (suc i) ws) t in
      omega (arith, v.rest)

  pub placing_end : length ws ≤ i → i ≡ rank_among x ws
  placing_end h = let a = ap (rank_among x) (drop_of_length-le ws h) in omega (arith, v.rest)

pub rank_most : (x : WaitingNode) (ws : List WaitingNode) → rank_among x ws ≤ length ws
rank_most x [] = omega arith
rank_most x (y ∷ ys) = let ih = rank_most x ys in
    by_test (node_outranks y x) (λ t. rw t (omega arith)) (λ t. rw t (omega arith))

pub put_rank : (x : WaitingNode) (ws : List WaitingNode) → put_at (rank_among x ws) x ws ≡ put_in_rank x ws
put_rank x [] = refl
put_rank x (y ∷ ys) = let ih = put_rank x ys in
    by_test (node_outranks y x) (λ t. rw t (ap (λ l. y ∷ l) ih)) (λ t. rw t)

-- the front of a front
front_of : (a b m : ℕ) (l : List WaitingNode) → m ≡ min a b → take a (take b l) ≡ take m l
front_of a b m l e =
    by_test (leb a b)
    (λ t. let h = leb-true a b t in let q : m ≡ a = omega arith in rw (take-take a b l h, q))
    (λ t.
    let h = leb-false a b t in
    let q : m ≡ b = omega arith in
    let s : length (take b l) ≤ a = omega (arith, length-take b l) in
    rw (take_all a (take b l) s, q))

-- x stored behind the first i nodes, of which the others have been moved on by one; the last is dropped at `most`
module _ (nodes : List WaitingNode) (i n most count : ℕ) (x : WaitingNode)
    (i_low : i ≤ n) (count_is : count ≡ min most (n + 1)) where
  abbrev behind : ℕ
  behind = count - 1 - i

  -- what is to wait, by the nodes in front and those behind
  put_parts : i < count → i ≤ length nodes
      → take most (put_at i x (take n nodes)) ≡ take i nodes ++ (x ∷ take behind (drop i nodes))
  put_parts h k =
      let front : take i (take n nodes) ≡ take i nodes = take-take i n nodes i_low in
      let l : length (take i nodes) ≡ i = length-take-le i nodes k in
      let q : most ≡ length (take i nodes) + suc (most - 1 - i) = omega arith in
      rw (front, drop-take i n nodes)
      (ap (λ k. take k (take i nodes ++ (x ∷ take (n - i) (drop i nodes)))) q
      ∙ take-append-add (take i nodes) (x ∷ take (n - i) (drop i nodes)) (suc (most - 1 - i))
      ∙ ap (λ w. take i nodes ++ (x ∷ w)) (front_of (most - 1 - i) (n - i) behind (drop i nodes) (omega arith)))

  stored : i < count → count ≤ length nodes
      → take count (set (paste nodes (i + 1) (drop i nodes) behind) i x) ≡ take i nodes
      ++ (x ∷ take behind (drop i nodes))
  stored h k =
      let c : count ≡ i + 1 + behind = omega arith in
      let m : behind ≤ length (drop i nodes) = omega (arith, length-drop i nodes) in
      let l : length (take i nodes) ≡ i = length-take-le i nodes (omega arith) in
      let i_in : i < length nodes = omega arith in
      take-set-lt count (paste nodes (i + 1) (drop i nodes) behind) i x h
      ∙ ap (λ w. set w i x) (ap (λ j. take j (paste nodes (i + 1) (drop i nodes) behind)) c
      ∙ take-paste nodes (i + 1) (drop i nodes) behind (omega arith) m
      ∙ ap (λ w. w ++ take behind (drop i nodes)) (rw add-one (take-suc nodes i nowhere i_in))
      ∙ append_assoc (take i nodes) (get_or nodes i nowhere ∷ []) (take behind (drop i nodes)))
      ∙ set_at (take i nodes) (get_or nodes i nowhere) (take behind (drop i nodes)) x i l

  pub put_inside :
      i < count → count ≤ length nodes
      → take count (set (paste nodes (i + 1) (drop i nodes) behind) i x) ≡ take most (put_at i x (take n nodes))
  put_inside h k = stored h k ∙ sym (put_parts h (omega arith))
