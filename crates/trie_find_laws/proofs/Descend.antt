-- The search from the node that a prefix leads to offers the completion.
use Prim.Native.Nat.{◌<◌, suc, zero, ℕ}
use mathlib.Core.Path.{◌∙◌, ◌≡◌, ap, refl, sym}
use mathlib.Core.Logic.{◌⊎◌, inl, inr}
use mathlib.Core.Bool.{Bool, ◌&&◌, false, false≢true, true}
use mathlib.Core.List.{List, [], ◌++◌, ◌∷◌, append_assoc, append-nil}
use native.Mathlib.Nat.{not-suc-le-zero}
use native.Mathlib.Omega.{arith}
use lib.Dec.{eqb}
use lib.ListN.{drop, length, take}
use borrow.Author.Tests.{eq-eqb, eqb-true}
use Rattle.octets.specs.Lists.{◌∈◌, keep, sort_by}
use Rattle.octets.specs.Octets.{begins}
use Rattle.octets.proofs.Count.{count, count-concat-sort, count_map}
use Rattle.octets.proofs.Lists.{all_in, concat_in, in_append_left, keep_append, keep_every, keep-none, sort_in}
use Rattle.octets.proofs.Tests.{and_true_both, by_test}
use Rattle.entries.specs.Completion.{completion, matches}
use Rattle.entries.specs.Entries.{Entry, entry, valid}
use Rattle.entries.specs.Names.{is_name}
use Rattle.entries.proofs.BestList.{different-rising}
use Rattle.entries.proofs.Valid.{name_length, valid_of}
use Rattle.trie.specs.Reading.{prefixed}
use Rattle.trie.specs.Trie.{by_first, highest, label_of, levels, remains, used_up}
use Rattle.trie.proofs.Sets.{by_first_flat, by_first-run, flat, label_progress, label_split, set-rising, used_up_lem}
use Rattle.trie_laws.proofs.Keys.{label_key, run-key}
use Rattle.trie_find_laws.specs.Search.{Forest, Proper, WaitingForest, inside, none, own_entries, search_offers}
use Rattle.trie_find_laws.specs.Search.{top, tree, wait}
use Rattle.trie_find_laws.proofs.Search.{AllWait, all_waiting, rank_same, search_offers_lem}
use Rattle.trie_find_laws.specs.Planted.{kids_of, plant, plant_all}
use Rattle.trie_find_laws.specs.Descend.{descend, or_else, start_for}
use Rattle.trie_find_laws.proofs.Planted.{Fine, From, Placed, begins-key, book_offers, inside_cons, kids_none}
use Rattle.trie_find_laws.proofs.Planted.{kids_some, plant-count, plant_proper, prefixed-append, prefixed_from}
use Rattle.trie_find_laws.proofs.Planted.{prefixed_more, prefixed-none, remains_planted, set-count, set_fine}
use Rattle.trie_find_laws.proofs.Planted.{sets-placed}
use Rattle.trie_laws.specs.Keys.{key, set_before, set_key}

-- the search from where it starts
inside_less : (p l : List ℕ) (s : ℕ) (kids next : Forest) (e : Entry) → e ∈ inside p (tree l s kids none)
    → e ∈ inside p (tree l s kids next)
inside_less p l s none next e (inl q) = inl q
inside_less p l s none next e (inr m) = absurd m
inside_less p l s (tree a b c d) next e m = in_append_left e (inside (p
    ++ l) (tree a b c d)) (inside p next) (rw (append-nil (inside (p ++ l) (tree a b c d))) at m)

top_less : (p l : List ℕ) (s : ℕ) (kids next : Forest) → top p (tree l s kids none) ≡ top p (tree l s kids next)
top_less p l s none next = refl
top_less p l s (tree a b c d) next = refl

proper_one : (p l : List ℕ) (s : ℕ) (kids next : Forest) → Proper p (tree l s kids next) → Proper p (tree l s kids none)
proper_one p l s kids next r = (
  (λ e m. r.0 e (inside_less p l s kids next e m)),
  ap (λ x. x.score) (top_less p l s kids next)
      ∙ r.1,
  ((λ e m. absurd m), tt),
  tt,
  (λ e g m n. absurd n),
  r.5,
  tt,
  (λ v m. absurd m),
)

kept_one : (p l : List ℕ) (s : ℕ) (kids next : Forest) → Proper p (tree l s kids next)
    → AllWait (wait p l s kids none ∷ [])
kept_one p l s kids next r = (proper_one p l s kids next r, (λ v m. absurd m), (λ v m. absurd m), tt)

kept_else : (t : Bool) (a b : List WaitingForest) → AllWait a → AllWait b → AllWait (or_else t a b)
kept_else true a b x y = x
kept_else false a b x y = y

descend_kept : (p q : List ℕ) (f : Forest) → Proper q f → AllWait (descend p q f)
descend_kept p q none r = tt
descend_kept p q (tree l s none next) r =
    kept_else (begins p (q ++ l)) (wait q l s none none
    ∷ []) (descend p q next) (kept_one q l s none next r) (descend_kept p q next r.6)
descend_kept p q (tree l s (tree a b c d) next) r =
    kept_else (begins p (q ++ l)) (wait q l s (tree a b c d) none
    ∷ []) (or_else (begins (q ++ l) p) (descend p (q ++ l) (tree a b c d)) (descend p q next))
    (kept_one q l s (tree a b c d) next r)
    (kept_else (begins (q ++ l) p) (descend p (q ++ l) (tree a b c d)) (descend p q next)
    (descend_kept p (q ++ l) (tree a b c d) r.5)
    (descend_kept p q next r.6))

-- prefixes and paths
comparable : (p u r : List ℕ) → begins p (u ++ r) ≡ true → (begins p u ≡ true) ⊎ (begins u p ≡ true)
comparable [] u r h = inl refl
comparable (x ∷ p) [] r h = inr refl
comparable (x ∷ p) (y ∷ u) r h =
    let a = and_true_both (eqb x y) (begins p (u ++ r)) h in
    let e : eqb y x ≡ true = eq-eqb y x (sym (eqb-true x y a.0)) in
    rw (a.0, e) (comparable p u r a.1)

-- the byte of p behind q is the first of what follows q
next_key : (p q w : List ℕ) → begins p q ≡ false → begins p (q ++ w) ≡ true → key (drop (length q) p) ≡ key w
next_key [] q w n h = absurd (false≢true (sym n))
next_key (x ∷ p) [] [] n h = absurd (false≢true h)
next_key (x ∷ p) [] (y ∷ w) n h = ap suc (eqb-true x y (and_true_both (eqb x y) (begins p w) h).0)
next_key (x ∷ p) (y ∷ q) w n h = let a = and_true_both (eqb x y) (begins p (q ++ w)) h in
    next_key p q w (rw a.0 at n) a.1

past_key : (p q l : List ℕ) → 0 < length l → begins (q ++ l) p ≡ true → key (drop (length q) p) ≡ key l
past_key p [] l n h = sym (begins-key l p h n)
past_key [] (y ∷ q) l n h = absurd (false≢true h)
past_key (x ∷ p) (y ∷ q) l n h = past_key p q l n (and_true_both (eqb y x) (begins (q ++ l) p) h).1

begins_longer : (p u r : List ℕ) → begins p u ≡ true → begins p (u ++ r) ≡ true
begins_longer [] u r h = refl
begins_longer (x ∷ p) [] r h = absurd (false≢true h)
begins_longer (x ∷ p) (y ∷ u) r h = let a = and_true_both (eqb x y) (begins p u) h in rw a.0 (begins_longer p u r a.1)

-- what matches in a set
abbrev hit : List ℕ → Entry → Bool
hit p e = begins p e.name

count-keep : (x p : Entry → Bool) (xs : List Entry) → count x (keep p xs) ≡ count (λ e. p e && x e) xs
count-keep x p [] = refl
count-keep x p (e ∷ xs) = let ih = count-keep x p xs in
    by_test (p e) (λ t. rw t (by_test (x e) (λ u. rw u (ap suc ih)) (λ u. rw u ih))) (λ t. rw t ih)

abbrev inner : Forest → Bool
inner none = false
inner (tree a b c d) = true

descend_step : (p q l : List ℕ) (s : ℕ) (kids next : Forest)
    → descend p q (tree l s kids next) ≡ or_else (begins p (q ++ l)) (wait q l s kids none
    ∷ []) (or_else (inner kids && begins (q ++ l) p) (descend p (q ++ l) kids) (descend p q next))
descend_step p q l s none next = refl
descend_step p q l s (tree a b c d) next = refl

inner_some : (f : Forest) → (f ≡ none → ⊥) → inner f ≡ true
inner_some none h = absurd (h refl)
inner_some (tree a b c d) h = refl

-- no other set has a match where p goes on with the first byte of this one
others-none : (p q : List ℕ) (es s : List Entry) (ss : List (List Entry)) → begins p q ≡ false
    → ((t : List Entry) → t ∈ ss → t ∈ by_first es) → ((t : List Entry) → t ∈ ss → set_key s ≡ set_key t → ⊥)
    → key (drop (length q) p) ≡ set_key s → keep (hit p) (prefixed q (flat ss)) ≡ []
others-none p q es s ss n h k e = keep-none (hit p) (prefixed q (flat ss)) (λ x m. no x (prefixed_from q (flat ss) x m))
  where
    no : (x : Entry) → From q (flat ss) x → hit p x ≡ false
    no x f =
        by_test (hit p x)
        (λ t.
        let r = concat_in (λ s. s) f.of ss f.in_set in
        let g : begins p (q ++ f.of.name) ≡ true = rw (ap (λ y. y.name) f.eq) at t in
        absurd (k r.0 r.1 (sym e ∙ next_key p q f.of.name n g
        ∙ run-key r.0 (by_first-run es r.0 (h r.0 r.1)) f.of r.2)))
        (λ t. t)

-- every suffix of a set goes on from the label
from_label : (q : List ℕ) (s : List Entry) (x : Entry) (f : From q s x) → x.name ≡ (q ++ label_of s)
    ++ drop (length (label_of s)) f.of.name
from_label q s x f = ap (λ y. y.name) f.eq ∙ ap (λ w. q ++ w) (label_split s f.of f.in_set)
    ∙ sym (append_assoc q (label_of s) (drop (length (label_of s)) f.of.name))

all_hit : (p q : List ℕ) (s : List Entry) → begins p (q ++ label_of s) ≡ true
    → keep (hit p) (prefixed q s) ≡ prefixed q s
all_hit p q s h = keep_every (hit p) (prefixed q s) (λ x m. let f = prefixed_from q s x m in
    ap (begins p) (from_label q s x f) ∙ begins_longer p (q ++ label_of s) (drop (length (label_of s)) f.of.name) h)

none_hit : (p q : List ℕ) (s : List Entry) → begins p (q ++ label_of s) ≡ false
    → (used_up (length (label_of s)) s ≡ false → begins (q ++ label_of s) p ≡ false) → keep (hit p) (prefixed q s) ≡ []
none_hit p q s h k = keep-none (hit p) (prefixed q s) (λ x m. no x (prefixed_from q s x m))
  where
    no : (x : Entry) → From q s x → hit p x ≡ false
    no x f = by_test (hit p x) (λ t. absurd (go (comparable p (q
        ++ label_of s) (drop (length (label_of s)) f.of.name) (sym (ap (begins p) (from_label q s x f)) ∙ t)) t))
        (λ t. t)
      where
        go : (begins p (q ++ label_of s) ≡ true) ⊎ (begins (q ++ label_of s) p ≡ true) → hit p x ≡ true → ⊥
        go (inl b) t = false≢true (sym h ∙ b)
        go (inr b) t =
            by_test (used_up (length (label_of s)) s)
            (λ u. false≢true (sym h ∙ sym (lone u (rw (used_up_lem s u) at f.in_set)) ∙ t))
            (λ u. false≢true (sym (k u) ∙ b))
          where
            lone : used_up (length (label_of s)) s ≡ true → f.of ∈ (entry (label_of s) (highest s) ∷ [])
                → hit p x ≡ begins p (q ++ label_of s)
            lone u (inl w) = ap (λ y. begins p y.name) f.eq ∙ ap (λ y. begins p (q ++ y.name)) w
            lone u (inr w) = absurd w

sets_match :
    (d : ℕ) (p q : List ℕ) (es : List Entry) (ss : List (List Entry)) (x : Entry → Bool) → Fine (suc d) es
    → begins p q ≡ false
    → ((s : List Entry) → s ∈ ss → s ∈ by_first es) → Placed ss
    → ((r : List ℕ) (t : List Entry) → begins p r ≡ false → Fine d t
    → count x (all_waiting (descend p r (plant d t))) ≡ count x (keep (hit p) (prefixed r t)))
    → count x (all_waiting (descend p q (plant_all (plant d) ss))) ≡ count x (keep (hit p) (prefixed q (flat ss)))
sets_match d p q es [] x z n h l ih = refl
sets_match d p q es (s ∷ ss) x z n h l ih =
    let rec = sets_match d p q es ss x z n (λ t m. h t (inr m)) l.2 ih in
    let m = h s (inl refl) in
    let kids = kids_of (plant d) s in
    rw (
      descend_step p q (label_of s) (highest s) (kids_of (plant d) s) (plant_all (plant d) ss),
      prefixed-append q s (flat ss),
      keep_append (hit p) (prefixed q s) (prefixed q (flat ss)),
    )
    (by_test (begins p (q ++ label_of s))
    (λ t.
    rw (
      t,
      all_hit p q s t,
      others-none p q es s ss n (λ u o. h u (inr o)) l.1 (next_key p q (label_of s) n t
          ∙ label_key s (by_first-run es s m)),
      append-nil (prefixed q s),
      append-nil (inside q (tree (label_of s) (highest s) (kids_of (plant d) s) none)),
      inside_cons q (label_of s) (highest s) (kids_of (plant d) s) none,
      append-nil (own_entries q (label_of s) (highest s) (kids_of (plant d) s)),
    )
    (set-count d q es s x z m (λ t f. plant-count d (q ++ label_of s) t f x)))
    (λ t.
    by_test (used_up (length (label_of s)) s)
    (λ u. rw (t, kids_none (plant d) s u, none_hit p q s t (λ v. absurd (false≢true (sym v ∙ u)))) rec)
    (λ u.
    let f = set_fine d es s z m u in
    let k = remains (length (label_of s)) s in
    by_test (begins (q ++ label_of s) p)
    (λ v.
    rw (
      t,
      kids_some (plant d) s u,
      inner_some (plant d k) (remains_planted d s (by_first-run es s m) f),
      v,
      others-none p q es s ss n (λ w o. h w (inr o)) l.1
          (past_key p q (label_of s) (label_progress s (by_first-run es s m)
          (different-rising s (set-rising es s z.rises m)) u) v
          ∙ label_key s (by_first-run es s m)),
      append-nil (keep (hit p) (prefixed q s)),
    )
    (ih (q ++ label_of s) k t f ∙ count-keep x (hit p) (prefixed (q ++ label_of s) k)
    ∙ prefixed_more q (label_of s) s (λ e. hit p e && x e) (label_split s)
    ∙ sym (count-keep x (hit p) (prefixed q s))))
    (λ v. rw (
      t,
      kids_some (plant d) s u,
      inner_some (plant d k) (remains_planted d s (by_first-run es s m) f),
      v,
      none_hit p q s t (λ w. v),
    ) rec))))

plant_match : (d : ℕ) (p q : List ℕ) (es : List Entry) (x : Entry → Bool) → begins p q ≡ false → Fine d es
    → count x (all_waiting (descend p q (plant d es))) ≡ count x (keep (hit p) (prefixed q es))
plant_match zero p q [] x n z = refl
plant_match zero p q (e ∷ es) x n z = absurd (not-suc-le-zero (z.short e (inl refl)))
plant_match (suc d) p q es x n z =
    let ss = sort_by set_before (by_first es) in
    let y : Entry → Bool = λ e. hit p e && x e in
    sets_match d p q es ss x z n (λ s m. sort_in set_before s (by_first es) m) (sets-placed es z.rises)
    (λ r t b f. plant_match d p r t x b f)
    ∙ count-keep x (hit p) (prefixed q (flat ss))
    ∙ count_map (λ e. entry (q ++ e.name) e.score) (λ e. hit p e && x e) (flat ss)
    ∙ count-concat-sort (λ s. s) (λ e. hit p (entry (q ++ e.name) e.score)
    && x (entry (q ++ e.name) e.score)) set_before (by_first es)
    ∙ ap (count (λ e. hit p (entry (q ++ e.name) e.score) && x (entry (q ++ e.name) e.score))) (by_first_flat es)
    ∙ sym (count_map (λ e. entry (q ++ e.name) e.score) (λ e. hit p e && x e) es)
    ∙ sym (count-keep x (hit p) (prefixed q es))

-- completion from the trie's forest: for every prefix, the first k in rank of the entries that it begins
pub start_offers : (es : List Entry) (p : List ℕ) (k : ℕ) → valid es ≡ true
    → search_offers k (start_for p (plant levels es)) ≡ completion es p k
unfolding completion
start_offers es [] k h = book_offers es k h
start_offers es (b ∷ p) k h =
    let v = valid_of es h in
    let z : Fine levels es = record {
      short = λ e m. let n = name_length e.name (all_in (λ f. is_name f.name) e es v.allowed m) in
          omega arith;
      rises = v.order;
    } in
    search_offers_lem k (descend (b ∷ p) [] (plant levels es)) (descend_kept (b
    ∷ p) [] (plant levels es) (plant_proper levels [] es z))
    ∙ ap (take k)
    (rank_same (all_waiting (descend (b ∷ p) [] (plant levels es))) (matches (b ∷ p) es)
    (λ x. plant_match levels (b ∷ p) [] es x refl z ∙ ap (λ l. count x (keep (hit (b ∷ p)) l)) (prefixed-none es)))
