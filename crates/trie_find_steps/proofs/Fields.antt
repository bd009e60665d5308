-- A node that is arrived at, made of its parts.
use Prim.Native.Nat.{◌+◌, ℕ}
use mathlib.Core.Path.{◌≡◌, refl}
use mathlib.Core.Bool.{Bool, false, true}
use mathlib.Core.List.{List}
use lib.Seq.{sets}
use Rattle.trie.specs.Reading.{label_length, last_mark}
use Rattle.trie_find_laws.specs.Places.{children_at, from_behind, header_at, is_leaf_at, label_at}
use Rattle.trie_find_queue.specs.declared.WaitingNode.{WaitingNode}
use Rattle.trie_find_steps.specs.Steps.{arrive_at}

-- a node made of its parts
pub arrive_is :
    (bs path whole : List ℕ) (len k score at from : ℕ) (last : Bool) → whole ≡ sets path len (label_at bs at)
    → k ≡ label_length (header_at bs at)
    → last ≡ last_mark (header_at bs at)
    → ◌≡◌ {A = WaitingNode} (record { path = whole; len = len + k; score = score; at = at; from = from; last = last })
    (arrive_at bs path len score at from)
unfolding arrive_at
arrive_is bs path whole len k score at from last a b c = rw (a, b, c) refl

-- from where the next child field counts
pub from_leaf : (bs : List ℕ) (at from : ℕ) → is_leaf_at bs at ≡ true → from_behind bs at from ≡ from
from_leaf bs at from t = rw t

pub from_inner : (bs : List ℕ) (at from : ℕ) → is_leaf_at bs at ≡ false → from_behind bs at from ≡ children_at bs at from
from_inner bs at from t = rw t

pub arrive_same :
    (bs path : List ℕ) (len len' score score' at at' from from' : ℕ) → len ≡ len' → score ≡ score' → at ≡ at'
    → from ≡ from'
    → arrive_at bs path len score at from ≡ arrive_at bs path len' score' at' from'
arrive_same bs path len len' score score' at at' from from' a b c d i = arrive_at bs path (a i) (b i) (c i) (d i)
