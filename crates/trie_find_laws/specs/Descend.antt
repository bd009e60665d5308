-- Where the search for a prefix starts: the whole forest for the empty one, else the one node whose path the prefix
-- begins.
use Rattle.std.specs.Prelude.{ℕ, Bool, false, true, List, [], ◌++◌, ◌∷◌}
use Rattle.octets.specs.Octets.{begins}
use Rattle.trie_find_laws.specs.Search.{Forest, WaitingForest, front_waits, none, tree, wait}

abbrev pub or_else : Bool → List WaitingForest → List WaitingForest → List WaitingForest
or_else true a b = a
or_else false a b = b

abbrev pub descend : List ℕ → List ℕ → Forest → List WaitingForest
descend p q none = []
descend p q (tree l s none next) = or_else (begins p (q ++ l)) (wait q l s none none ∷ []) (descend p q next)
descend p q (tree l s (tree a b c d) next) =
    or_else (begins p (q ++ l)) (wait q l s (tree a b c d) none ∷ [])
    (or_else (begins (q ++ l) p) (descend p (q ++ l) (tree a b c d)) (descend p q next))

abbrev pub start_for : List ℕ → Forest → List WaitingForest
start_for [] f = front_waits [] f
start_for (x ∷ p) f = descend (x ∷ p) [] f
